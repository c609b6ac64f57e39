-- The loop over the calls: the auction's position is that of the history, and its refusal is the Law's. Assumes nothing.
use Prim.Native.Nat.{ℕ, ◌≤◌, ◌<◌, ◌+◌}
use mathlib.Core.Path.{◌≡◌, sym, ap, ap₂, ◌∙◌}
use mathlib.Core.List.{List, []}
use Rattle.laws.specs.Auction.{codes_before}
use Rattle.laws.specs.CallRefusal.{call_refusal, place_of, call_place}
use Rattle.laws.specs.Reading.{Reading, Reading.refused, Reading.found, read, read_each}
use Rattle.auction.specs.declared.Auction.{Auction}
use Rattle.auction.specs.Position.{position_of, after_call}
use Rattle.auction.specs.Asked.{refusal_of, taken_of}
use Rattle.auction.proofs.Laws.{refusal_is}
use Rattle.laws.specs.Refusals.{refused_at, given, record_ends}
use Rattle.laws.proofs.Answered.{placed-taken, placed-refused}
use Rattle.last_card.specs.Sections.{calls_of}
use Rattle.last_card.proofs.Turns.{Reached, begins, ends, short, stops, goes}

module _ (bytes : List ℕ) (d at n : ℕ) where
  abbrev pub CallsAt : Auction → ℕ → ℕ → Type 0
  CallsAt a here i = Reached 6 (call_place d) (call_refusal d) bytes at n (position_of d) a here i

  abbrev calls : Reading (List ℕ)
  calls = read_each 6 (call_place d) (call_refusal d) n [] bytes at

  pub call-begins : {a : Auction} → a ≡ position_of d [] → CallsAt a at 0
  call-begins e = begins 6 (call_place d) (call_refusal d) bytes at n (position_of d) e

  pub call_ends : {a : Auction} {here i : ℕ} → CallsAt a here i → n ≤ i → given (record { value = a; next = here }) ≡ calls_of d calls
  call_ends {a} {here} r t =
      ap (λ (x : Auction). given (record { value = x; next = here })) r.position
      ∙ sym (ap (calls_of d) (ends 6 (call_place d) (call_refusal d) bytes at n (position_of d) r t))

  module _ {a : Auction} {here i : ℕ} (r : CallsAt a here i) (t : i < n) where
    pub call-short : read 6 bytes here ≡ refused record_ends 0 → refused_at record_ends 0 ≡ calls_of d calls
    call-short q = sym (ap (calls_of d) (short 6 (call_place d) (call_refusal d) bytes at n (position_of d) r t q))

    module _ (c : ℕ) (q : read 6 bytes here ≡ found c (here + 6)) where
      law : refusal_of a c ≡ call_refusal d r.history c
      law = ap (λ (x : Auction). refusal_of x c) r.position ∙ refusal_is d r.history c

      -- a refusal has its place by its number and the codes before
      placed : call_place d r.history c ≡ place_of (refusal_of a c) i
      unfolding call_place codes_before
      placed = ap₂ place_of (sym law) r.many

      pub call_stops : {m place : ℕ} → refused_at m place ≡ taken_of a c i → refused_at m place ≡ calls_of d calls
      unfolding taken_of
      call_stops e =
          let f = placed-refused (refusal_of a c) (place_of (refusal_of a c) i) (after_call a c) e in
          ap₂ refused_at f.1 (f.2 ∙ sym placed)
          ∙ sym (ap (calls_of d) (stops 6 (call_place d) (call_refusal d) bytes at n (position_of d) r t q law f.0))

      pub call-goes : {b : Auction} → given b ≡ taken_of a c i → CallsAt b (here + 6) (i + 1)
      unfolding position_of taken_of
      call-goes e =
          let f = placed-taken (refusal_of a c) (place_of (refusal_of a c) i) e in
          goes 6 (call_place d) (call_refusal d) bytes at n (position_of d) r t q law f.0 (f.1 ∙ ap (λ (x : Auction). after_call x c) r.position)

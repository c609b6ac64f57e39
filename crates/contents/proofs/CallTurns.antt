-- The loop over the calls that are given: the auction's position is that of the history, and its refusal is the Law's. Assumes nothing.
use Prim.Native.Nat.{ℕ, ◌≤◌, ◌<◌, ◌+◌}
use mathlib.Core.Path.{◌≡◌, refl, sym, ap, ap₂, ◌∙◌}
use mathlib.Core.List.{List, []}
use lib.ListN.{length, get_or}
use Rattle.laws.specs.Auction.{codes_before}
use Rattle.laws.specs.CallRefusal.{call_refusal, place_of, call_place}
use Rattle.laws.specs.Reading.{Reading}
use Rattle.laws.specs.Contents.{take_each}
use Rattle.auction.specs.declared.Auction.{Auction}
use Rattle.auction.specs.Position.{position_of, after_call}
use Rattle.auction.specs.Asked.{refusal_of, taken_of}
use Rattle.auction.proofs.Laws.{refusal_is}
use Rattle.laws.specs.Refusals.{refused_at, given}
use Rattle.laws.proofs.Answered.{placed-taken, placed-refused}
use Rattle.contents.specs.Checked.{calls_by}
use Rattle.contents.proofs.Turns.{Reached, begins, ends, stops, goes}

module _ (calls : List ℕ) (d : ℕ) where
  abbrev pub CallsAt : Auction → ℕ → Type 0
  CallsAt a i = Reached (call_place d) (call_refusal d) calls (position_of d) a i

  abbrev each : Reading (List ℕ)
  each = take_each (call_place d) (call_refusal d) calls [] [] 0

  pub call-begins : {a : Auction} → a ≡ position_of d [] → CallsAt a 0
  call-begins e = begins (call_place d) (call_refusal d) calls (position_of d) e

  pub call_ends : {a : Auction} {i : ℕ} → CallsAt a i → length calls ≤ i → given a ≡ calls_by d each
  call_ends {a} r t =
      ap (λ (x : Auction). given x) r.position
      ∙ sym (ap (calls_by d) (ends (call_place d) (call_refusal d) calls (position_of d) r t))

  module _ {a : Auction} {i : ℕ} (r : CallsAt a i) (t : i < length calls) where
    abbrev c : ℕ
    c = get_or calls i 0

    law : refusal_of a c ≡ call_refusal d r.history c
    law = ap (λ (x : Auction). refusal_of x c) r.position ∙ refusal_is d r.history c

    -- a refusal has its place by its number and the codes before
    placed : call_place d r.history c ≡ place_of (refusal_of a c) i
    unfolding call_place codes_before
    placed = ap₂ place_of (sym law) r.many

    pub call_stops : {n place : ℕ} → refused_at n place ≡ taken_of a c i → refused_at n place ≡ calls_by d each
    unfolding taken_of
    call_stops e =
        let f = placed-refused (refusal_of a c) (place_of (refusal_of a c) i) (after_call a c) e in
        ap₂ refused_at f.1 (f.2 ∙ sym placed)
        ∙ sym (ap (calls_by d) (stops (call_place d) (call_refusal d) calls (position_of d) r t {c = c} refl law f.0))

    pub call-goes : {b : Auction} → given b ≡ taken_of a c i → CallsAt b (i + 1)
    unfolding position_of taken_of
    call-goes e =
        let f = placed-taken (refusal_of a c) (place_of (refusal_of a c) i) e in
        goes (call_place d) (call_refusal d) calls (position_of d) r t {c = c} refl law f.0 (f.1 ∙ ap (λ (x : Auction). after_call x c) r.position)

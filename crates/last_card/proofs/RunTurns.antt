-- A run of cards: its position is that of the cards, and where it stops the code there is refused as a card. Assumes nothing.
use Rattle.std.proofs.Common.{◌≡◌, refl, sym, ap, ◌∙◌, ℕ, zero, suc, ◌+◌, ◌-◌, ◌*◌, ◌<◌, ◌≤◌, true, List, length, arith}
use Rattle.std.proofs.Common.{Result, Ok, Err, None, Some}
use Rattle.std.specs.Result.{is_ok}
use mathlib.Core.Path.{subst}
use Rattle.laws.specs.Refusals.{accepted}
use Rattle.laws.specs.Refused.{number_or_none}
use Rattle.laws.specs.declared.Refusal.{Refusal}
use Rattle.laws.specs.Reading.{Reading.found, number_at, read}
use Rattle.laws.proofs.Readings.{read_is}
use Rattle.laws.proofs.RefusalNumbers.{number_not_none}
use Rattle.deal.specs.Hands.{words_of}
use Rattle.position.specs.History.{ThirteenEach}
use Rattle.play.specs.declared.Play.{Play}
use Rattle.play.specs.Position.{start_of, step, verdict_of, refusal_of, taken_of}
use Rattle.play.proofs.Taken.{taken, not_taken}
use Rattle.last_card.specs.declared.runs.Run.{Run}
use Rattle.last_card.specs.declared.runs.NotPlayed.{NotPlayed}
use Rattle.last_card.specs.Sections.{run_of}
use Rattle.last_card.proofs.CardTurns.{CardsAt, card-begins, card-goes}

-- one turn of the loop
module _ (bytes : List ℕ) (p : Play) (here i n : ℕ) where
  abbrev c : ℕ
  c = number_at bytes here 6

  pub run_stops : {r : Refusal} → verdict_of p c ≡ Err r
      → record { play = p; place = i; next = here; stopped = Some (record { code = c; refusal = r }) } ≡ run_of bytes p here i (suc n)
  unfolding run_of
  run_stops e = rw e

  pub run_goes : refusal_of p c ≡ accepted → {b : Play} → b ≡ step p c → run_of bytes b (here + 6) (i + 1) n ≡ run_of bytes p here i (suc n)
  unfolding run_of
  run_goes z s = rw (s, is-ok (verdict_of p c) z)
    where
      is-ok : (v : Result (Unit {0}) Refusal) → number_or_none v ≡ accepted → is_ok v ≡ true
      is-ok (Ok u) z = refl
      is-ok (Err r) z = absurd (number_not_none r z)

pub run_ends : (bytes : List ℕ) (p : Play) (here i n : ℕ) → n ≡ 0
    → record { play = p; place = i; next = here; stopped = None } ≡ run_of bytes p here i n
unfolding run_of
run_ends bytes p here i n e = rw e

-- what a run of cards alone comes to, up to the place `last`
pub record Ran (bytes deal : List ℕ) (trump opening at n : ℕ) (r : Run) (last : ℕ) : Type 0 where
  pub there : CardsAt bytes deal trump opening at n r.play r.next r.place
  pub within : r.place ≤ last
  pub all-played : r.stopped ≡ None → r.place ≡ last
  pub stopped : (x : NotPlayed) → r.stopped ≡ Some x → (r.place < last) × (x.code ≡ number_at bytes r.next 6) × (verdict_of r.play x.code ≡ Err x.refusal)

module _ (bytes deal : List ℕ) (trump opening at n : ℕ) (all : length deal ≡ 52) where
  runs : (m : ℕ) {p : Play} {here i last : ℕ} → CardsAt bytes deal trump opening at n p here i → i + m ≡ last → last ≤ n
      → 6 * m ≤ 8 * length bytes - here → Ran bytes deal trump opening at n (run_of bytes p here i m) last
  runs zero {p} {here} {i} {last} r e h w =
      subst (λ (x : Run). Ran bytes deal trump opening at n x last) (run_ends bytes p here i 0 refl)
      (record { there = r; within = omega arith; all-played = λ z. omega arith; stopped = λ x z. absurd cc })
  runs (suc m) {p} {here} {i} {last} r e h w =
      let q6 : read 6 bytes here ≡ found (number_at bytes here 6) (here + 6) = read_is 6 bytes here refl (omega arith) in
      turn (verdict_of p (number_at bytes here 6)) refl
      (λ z. runs m (card-goes bytes deal trump opening at n r (omega arith) all q6 refl z refl) (omega arith) h (omega arith))
    where
      some-same : {a b : NotPlayed} → Some a ≡ Some b → a ≡ b
      some-same f = cc

      turn : (v : Result (Unit {0}) Refusal) → verdict_of p (number_at bytes here 6) ≡ v
          → (refusal_of p (number_at bytes here 6) ≡ accepted
          → Ran bytes deal trump opening at n (run_of bytes (step p (number_at bytes here 6)) (here + 6) (i + 1) m) last)
          → Ran bytes deal trump opening at n (run_of bytes p here i (suc m)) last
      turn (Ok u) q rest =
          let z : refusal_of p (number_at bytes here 6) ≡ accepted = ap number_or_none q in
          subst (λ (x : Run). Ran bytes deal trump opening at n x last) (run_goes bytes p here i m z refl) (rest z)
      turn (Err x) q rest =
          subst (λ (y : Run). Ran bytes deal trump opening at n y last) (run_stops bytes p here i m q)
          (record {
            there = r;
            within = omega arith;
            all-played = λ y. absurd cc;
            stopped = λ y z. (omega arith, ap (λ (a : NotPlayed). a.code) (sym (some-same z)), rw (← some-same z) q);
          })

  -- the run of the first m cards, from the position before the first
  pub ran : ThirteenEach deal → {hands : List ℕ} → hands ≡ words_of deal → {first : Play} → first ≡ start_of deal hands trump opening → (m : ℕ) → m ≤ n
      → 6 * m ≤ 8 * length bytes - at → {r : Run} → r ≡ run_of bytes first at 0 m → Ran bytes deal trump opening at n r m
  ran each eh ef m h w er =
      subst (λ (x : Run). Ran bytes deal trump opening at n x m) (sym er)
      (runs m (card-begins bytes deal trump opening at n (rw eh at ef)) (omega arith) h w)

-- the loop: what is left of the run is all of it
pub record Running (bytes : List ℕ) (first p : Play) (at here i count : ℕ) : Type 0 where
  pub along : here ≡ at + 6 * i
  pub rest : run_of bytes p here i (count - i) ≡ run_of bytes first at 0 count

module _ (bytes : List ℕ) (first : Play) (at count : ℕ) where
  pub running-begins : Running bytes first first at at 0 count
  running-begins = record { along = omega arith; rest = ap (run_of bytes first at 0) (omega arith) }

  module _ {p : Play} {here i : ℕ} (r : Running bytes first p at here i count) (h : i < count) {c : ℕ} (ec : c ≡ number_at bytes (here + 5 - 5) 6) where
    code_here : c ≡ number_at bytes here 6
    code_here = let same : here + 5 - 5 ≡ here = omega arith in rw same at ec

    left : count - i ≡ suc (count - (i + 1))
    left = omega arith

    pub running-goes : {b : Play} → Ok b ≡ taken_of p c → Running bytes first b at (here + 6) (i + 1) count
    running-goes e =
        let t = taken p (number_at bytes here 6) (rw code_here at e) in
        record { along = omega (arith, r.along); rest = run_goes bytes p here i _ t.0 t.1 ∙ rw left at r.rest }

    pub running-stops : {x : Refusal} → Err x ≡ taken_of p c
        → record { play = p; place = i; next = here; stopped = Some (record { code = c; refusal = x }) } ≡ run_of bytes first at 0 count
    running-stops e =
        rw code_here (run_stops bytes p here i (count - (i + 1)) (not_taken p (number_at bytes here 6) (rw code_here at e)) ∙ rw left at r.rest)

  pub running-ends : {p : Play} {here i : ℕ} → Running bytes first p at here i count → count ≤ i → i ≤ count
      → record { play = p; place = count; next = here; stopped = None } ≡ run_of bytes first at 0 count
  running-ends {p} {here} {i} r h k =
      let here-is : count ≡ i = omega arith in
      ap (λ (place : ℕ). record { play = p; place = place; next = here; stopped = None }) here-is ∙ run_ends bytes p here i (count - i) (omega arith) ∙ r.rest

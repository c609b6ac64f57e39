-- A run of cards: its position is that of the cards, and where it stops the number there is refused as a card. Assumes nothing.
use Rattle.std.proofs.Common.{◌≡◌, refl, sym, ap, ◌∙◌, ℕ, zero, suc, ◌+◌, ◌-◌, ◌<◌, ◌≤◌, true, List, length, get_or, arith}
use Rattle.std.proofs.Common.{Result, Ok, Err, None, Some}
use Rattle.std.specs.Result.{is_ok}
use mathlib.Core.Path.{subst}
use Rattle.laws.specs.Refusals.{accepted}
use Rattle.laws.specs.Refused.{number_or_none}
use Rattle.laws.specs.declared.Refusal.{Refusal}
use Rattle.laws.proofs.RefusalNumbers.{number_not_none}
use Rattle.play.specs.declared.Play.{Play}
use Rattle.deal.specs.Hands.{words_of}
use Rattle.position.specs.History.{ThirteenEach}
use Rattle.play.specs.Position.{start_of, step, verdict_of, refusal_of, taken_of}
use Rattle.play.proofs.Taken.{taken, not_taken}
use Rattle.contents.specs.declared.runs.Run.{Run}
use Rattle.contents.specs.Checked.{run_of}
use Rattle.contents.proofs.CardTurns.{CardsAt, card-begins, card-goes}

-- one turn of the loop
module _ (plays : List ℕ) (p : Play) (i n : ℕ) where
  pub run_stops : {r : Refusal} → verdict_of p (get_or plays i 0) ≡ Err r → record { play = p; place = i; stopped = Some r } ≡ run_of plays p i (suc n)
  unfolding run_of
  run_stops e = rw e

  pub run_goes : refusal_of p (get_or plays i 0) ≡ accepted → {b : Play} → b ≡ step p (get_or plays i 0) → run_of plays b (i + 1) n ≡ run_of plays p i (suc n)
  unfolding run_of
  run_goes z s = rw (s, is-ok (verdict_of p (get_or plays i 0)) z)
    where
      is-ok : (v : Result (Unit {0}) Refusal) → number_or_none v ≡ accepted → is_ok v ≡ true
      is-ok (Ok u) z = refl
      is-ok (Err r) z = absurd (number_not_none r z)

pub run_ends : (plays : List ℕ) (p : Play) (i n : ℕ) → n ≡ 0 → record { play = p; place = i; stopped = None } ≡ run_of plays p i n
unfolding run_of
run_ends plays p i n e = rw e

-- what a run of cards alone comes to, up to the place `last`
pub record Ran (plays deal : List ℕ) (trump opening : ℕ) (r : Run) (last : ℕ) : Type 0 where
  pub there : CardsAt plays deal trump opening r.play r.place
  pub all-played : r.stopped ≡ None → r.place ≡ last
  pub stopped : (refusal : Refusal) → r.stopped ≡ Some refusal → (r.place < last) × (verdict_of r.play (get_or plays r.place 0) ≡ Err refusal)

module _ (plays deal : List ℕ) (trump opening : ℕ) (all : length deal ≡ 52) where
  runs : (m : ℕ) {p : Play} {i last : ℕ} → CardsAt plays deal trump opening p i → i + m ≡ last → last ≤ length plays
      → Ran plays deal trump opening (run_of plays p i m) last
  runs zero {p} {i} {last} r e h =
      subst (λ (x : Run). Ran plays deal trump opening x last) (run_ends plays p i 0 refl)
      (record { there = r; all-played = λ z. omega arith; stopped = λ refusal z. absurd cc })
  runs (suc m) {p} {i} {last} r e h =
      turn (verdict_of p (get_or plays i 0)) refl
      (λ z. runs m (card-goes plays deal trump opening r (omega arith) all refl refl z refl) (omega arith) h)
    where
      some-same : {a b : Refusal} → Some a ≡ Some b → a ≡ b
      some-same f = cc

      turn : (v : Result (Unit {0}) Refusal) → verdict_of p (get_or plays i 0) ≡ v
          → (refusal_of p (get_or plays i 0) ≡ accepted → Ran plays deal trump opening (run_of plays (step p (get_or plays i 0)) (i + 1) m) last)
          → Ran plays deal trump opening (run_of plays p i (suc m)) last
      turn (Ok u) q rest =
          let z : refusal_of p (get_or plays i 0) ≡ accepted = ap number_or_none q in
          subst (λ (x : Run). Ran plays deal trump opening x last) (run_goes plays p i m z refl) (rest z)
      turn (Err x) q rest =
          subst (λ (x : Run). Ran plays deal trump opening x last) (run_stops plays p i m q)
          (record { there = r; all-played = λ y. absurd cc; stopped = λ refusal y. (omega arith, q ∙ ap Err (some-same y)) })

  pub run_is : (last : ℕ) {first : Play} {r : Run} → r ≡ run_of plays first 0 (length plays) → CardsAt plays deal trump opening first 0
      → length plays ≡ last → Ran plays deal trump opening r last
  run_is last e r l = subst (λ (x : Run). Ran plays deal trump opening x last) (sym e) (runs (length plays) r (omega arith) (omega (arith, l)))

-- the run of the whole list, from the position before the first card
pub ran : (plays deal : List ℕ) (trump opening : ℕ) → ThirteenEach deal → {hands : List ℕ} → hands ≡ words_of deal → {first : Play}
    → first ≡ start_of deal hands trump opening → {r : Run} → r ≡ run_of plays first 0 (length plays) → Ran plays deal trump opening r (length plays)
ran plays deal trump opening each eh ef er =
    run_is plays deal trump opening each.places _ er (card-begins plays deal trump opening (rw eh at ef)) refl

-- the loop: what is left of the run is all of it
pub record Running (plays : List ℕ) (first p : Play) (i : ℕ) : Type 0 where
  pub rest : run_of plays p i (length plays - i) ≡ run_of plays first 0 (length plays)

module _ (plays : List ℕ) (first : Play) where
  pub running-begins : Running plays first first 0
  running-begins = record { rest = ap (run_of plays first 0) (omega arith) }

  module _ {p : Play} {i : ℕ} (r : Running plays first p i) where
    pub running-goes : i < length plays → {b : Play} → Ok b ≡ taken_of p (get_or plays i 0) → Running plays first b (i + 1)
    running-goes h e =
        let t = taken p (get_or plays i 0) e in
        let left : length plays - i ≡ suc (length plays - (i + 1)) = omega arith in
        record { rest = run_goes plays p i _ t.0 t.1 ∙ rw left at r.rest }

    pub running-stops : i < length plays → {x : Refusal} → Err x ≡ taken_of p (get_or plays i 0)
        → record { play = p; place = i; stopped = Some x } ≡ run_of plays first 0 (length plays)
    running-stops h e =
        let left : length plays - i ≡ suc (length plays - (i + 1)) = omega arith in
        run_stops plays p i (length plays - (i + 1)) (not_taken p (get_or plays i 0) e) ∙ rw left at r.rest

    pub running-ends : length plays ≤ i → i ≤ length plays → record { play = p; place = length plays; stopped = None } ≡ run_of plays first 0 (length plays)
    running-ends h k =
        let here : length plays ≡ i = omega arith in
        ap (λ (place : ℕ). record { play = p; place = place; stopped = None }) here ∙ run_ends plays p i (length plays - i) (omega arith) ∙ r.rest

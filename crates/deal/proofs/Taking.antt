-- A deal as it is given in the code is the Laws' section of contents: a law for each way out. Assumes nothing.
use Prim.Native.Nat.{ℕ}
use mathlib.Core.Path.{◌≡◌, refl, ap, ◌∙◌}
use mathlib.Core.Bool.{true, false, not}
use mathlib.Core.List.{List, [], ◌∷◌}
use borrow.Author.Tests.{eq-eqb, ne_eqb, ltb-true, ltb-false, eqb-true, le-leb, lt-leb}
use lib.Dec.{ltb, leb, eqb}
use Rattle.std.specs.List.{list_all}
use Rattle.laws.proofs.Tests.{by_test}
use lib.ListN.{length}
use Rattle.laws.specs.Choice.{some}
use Rattle.laws.specs.Cards.{no_seat, seat_without_thirteen}
use Rattle.laws.specs.Reading.{refuse}
use Rattle.laws.specs.Contents.{are_seats, take_deal}
use Rattle.laws.proofs.Tests.{and_left}
use Rattle.deal.specs.Hands.{words_of, not_thirteen_from}
use Rattle.laws.specs.Refusals.{refused_at, given, not_thirteen}
use Rattle.deal.specs.Taking.{taken_by}
use Rattle.deal.proofs.Thirteen.{by_hands}

-- ---- the holders: none is over 3
none_over : (l : List ℕ) → list_all (λ (holder : ℕ). leb holder 3) l ≡ not (some (λ holder. ltb 3 holder) l)
unfolding some
none_over [] = refl
none_over (holder ∷ l) =
    by_test (ltb 3 holder)
    (λ (q : ltb 3 holder ≡ true). rw (q, lt-leb holder 3 (ltb-true 3 holder q)))
    (λ (q : ltb 3 holder ≡ false). rw (q, le-leb holder 3 (ltb-false 3 holder q)) (none_over l))

module _ (l : List ℕ) where
  pub not_52 : (length l ≡ 52 → ⊥) → false ≡ are_seats l
  unfolding are_seats
  not_52 n = rw (ne_eqb (length l) 52 n)

  pub each_seat : length l ≡ 52 → list_all (λ (holder : ℕ). leb holder 3) l ≡ are_seats l
  unfolding are_seats
  each_seat n = rw (eq-eqb (length l) 52 n) (none_over l)

  pub seats_52 : are_seats l ≡ true → length l ≡ 52
  unfolding are_seats
  seats_52 e = eqb-true (length l) 52 (and_left (eqb (length l) 52) _ e)

  -- ---- the deal
  pub deal_no_seats : are_seats l ≡ false → refused_at not_thirteen no_seat ≡ taken_by l (take_deal l [] 0)
  unfolding take_deal refuse
  deal_no_seats e = rw e

  module _ (e : are_seats l ≡ true) (hands : List ℕ) (eh : hands ≡ words_of l) (seat : ℕ) (eq : seat ≡ not_thirteen_from 0 hands) where
    es : seat ≡ seat_without_thirteen l
    es = eq ∙ ap (not_thirteen_from 0) eh ∙ by_hands l

    pub deal-uneven : (seat ≡ 4 → ⊥) → refused_at not_thirteen seat ≡ taken_by l (take_deal l [] 0)
    unfolding take_deal refuse
    deal-uneven n = rw (e, ← es, ne_eqb seat 4 n)

    pub deal-taken : seat ≡ 4 → given (record { holders = l; hands = hands }) ≡ taken_by l (take_deal l [] 0)
    unfolding take_deal refuse
    deal-taken z = rw (e, ← es, eq-eqb seat 4 z, ← eh)

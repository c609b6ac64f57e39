-- The rules of tally calls: refusals one after the other, deals compared, and results of one deal. Assumes nothing.
use Prim.Native.Nat.{ℕ, suc, ◌+◌, ◌≤◌}
use native.Mathlib.Omega.{arith}
use mathlib.Core.Path.{◌≡◌, refl, sym, ap, ap₂, ◌∙◌}
use mathlib.Core.Bool.{Bool, true, false, not, ◌&&◌, ◌||◌}
use mathlib.Core.List.{List, [], ◌∷◌, ◌++◌}
use borrow.Author.Tests.{eqb-true, eqb-false, eq-eqb, ne_eqb, le-ltb, ltb-false, not-true, not-false}
use lib.Dec.{ltb, eqb}
use lib.IntN.{ℤ}
use lib.ListN.{length}
use Rattle.laws.specs.Choice.{how_many, some}
use Rattle.laws.specs.Cards.{no_seat, cards_dealt, seat_without_thirteen}
use Rattle.laws.specs.Law77.{valid_score}
use Rattle.laws.specs.Reading.{Reading.found, refuse}
use Rattle.laws.specs.Contents.{are_seats, take_deal}
use Rattle.laws.specs.Tally.{Result, scores_of, on_deal, same_deal, fouled, no_deal, Thirteen}
use Rattle.laws.specs.Tally.{Refusal, refusal, refusal_if, ◌or_else◌, deal_refusal}
use Rattle.laws.specs.Tally.{score_refusal, boards_refusal, fouled_refusal, room_refusal, given_refusal, add_refusal, merge_refusal}
use Rattle.laws.specs.Tally.{OneDeal}
use Rattle.laws.proofs.Tests.{by_test, and_left, and_right, not_both}
use Rattle.laws.proofs.Sections.{none-short}
use Rattle.laws.proofs.ContentsLawful.{each-seat}
use Rattle.laws.proofs.ContentsStop.{deal_passes}

-- ---- of two refusals
module _ (a b : Refusal) where
  pub or_second : a.number ≡ 0 → a or_else b ≡ b
  unfolding ◌or_else◌
  or_second e = rw (eq-eqb a.number 0 e)

  pub or_first : (a.number ≡ 0 → ⊥) → a or_else b ≡ a
  unfolding ◌or_else◌
  or_first h = rw (ne_eqb a.number 0 h)

  pub or_none : (a or_else b).number ≡ 0 → (a.number ≡ 0) × (b.number ≡ 0)
  or_none e =
      by_test (eqb a.number 0)
      (λ (q : eqb a.number 0 ≡ true). let z = eqb-true a.number 0 q in (z, sym (ap (λ (r : Refusal). r.number) (or_second z)) ∙ e))
      (λ (q : eqb a.number 0 ≡ false).
      let z = eqb-false a.number 0 q in absurd (z (sym (ap (λ (r : Refusal). r.number) (or_first z)) ∙ e)))

  pub none_or : a.number ≡ 0 → b.number ≡ 0 → (a or_else b).number ≡ 0
  none_or e f = ap (λ (r : Refusal). r.number) (or_second e) ∙ f

-- what follows a refusal does not matter
pub or_by : (a b c : Refusal) → (a.number ≡ 0 → b ≡ c) → a or_else b ≡ a or_else c
unfolding ◌or_else◌
or_by a b c h =
    by_test (eqb a.number 0)
    (λ (q : eqb a.number 0 ≡ true). rw q (h (eqb-true a.number 0 q)))
    (λ (q : eqb a.number 0 ≡ false). rw q)

-- three in a row, bracketed either way
pub or_assoc : (a b c : Refusal) → (a or_else b) or_else c ≡ a or_else (b or_else c)
or_assoc a b c =
    by_test (eqb a.number 0)
    (λ (q : eqb a.number 0 ≡ true).
    let z = eqb-true a.number 0 q in
    ap (λ (r : Refusal). r or_else c) (or_second a b z) ∙ sym (or_second a (b or_else c) z))
    (λ (q : eqb a.number 0 ≡ false).
    let z = eqb-false a.number 0 q in
    ap (λ (r : Refusal). r or_else c) (or_first a b z) ∙ or_first a c z ∙ sym (or_first a (b or_else c) z))

pub if_none : (test : Bool) (n : ℕ) → (refusal_if test (suc n)).number ≡ 0 → test ≡ false
if_none true n e = absurd (omega arith)
if_none false n e = refl

-- where there is no refusal the place is 0
abbrev pub Clear : Refusal → Type 0
Clear r = r.number ≡ 0 → r.place ≡ 0

pub clear_or : (a b : Refusal) → Clear a → Clear b → Clear (a or_else b)
unfolding ◌or_else◌
clear_or a b f g =
    by_test (eqb a.number 0)
    (λ (q : eqb a.number 0 ≡ true). rw q g)
    (λ (q : eqb a.number 0 ≡ false). rw q f)

-- ---- deals
pub same-deal : (d e : List ℕ) → same_deal d e ≡ true → d ≡ e
unfolding same_deal
same-deal [] [] q = refl
same-deal [] (k ∷ e) q = not_both false q refl
same-deal (h ∷ d) [] q = not_both false q refl
same-deal (h ∷ d) (k ∷ e) q = ap₂ (λ (x : ℕ) (l : List ℕ). x ∷ l) (eqb-true h k (and_left (eqb h k) _ q)) (same-deal d e (and_right (eqb h k) _ q))

pub deal_self : (d : List ℕ) → same_deal d d ≡ true
unfolding same_deal
deal_self [] = refl
deal_self (h ∷ d) = rw (eq-eqb h h refl) (deal_self d)

pub deal_turned : (d e : List ℕ) → same_deal d e ≡ same_deal e d
deal_turned d e =
    by_test (same_deal d e)
    (λ (q : same_deal d e ≡ true). rw (same-deal d e q))
    (λ (q : same_deal d e ≡ false).
    by_test (same_deal e d)
    (λ (p : same_deal e d ≡ true). rw (same-deal e d p))
    (λ (p : same_deal e d ≡ false). q ∙ sym p))

-- ---- the refusal of a deal, by its tests
module _ (d : List ℕ) where
  pub no_seats : are_seats d ≡ false → deal_refusal d ≡ record { number = 4; place = 4 }
  unfolding deal_refusal take_deal refuse
  no_seats e = rw e

  module _ (e : are_seats d ≡ true) where
    pub uneven : eqb (seat_without_thirteen d) no_seat ≡ false → deal_refusal d ≡ record { number = 4; place = seat_without_thirteen d }
    unfolding deal_refusal take_deal refuse
    uneven n = rw (e, n)

    pub even : eqb (seat_without_thirteen d) no_seat ≡ true → deal_refusal d ≡ refusal 0
    unfolding deal_refusal take_deal refuse
    even n = rw (e, n)

  -- none: each seat has thirteen cards
  pub deal-thirteen : (deal_refusal d).number ≡ 0 → Thirteen d
  unfolding are_seats
  deal-thirteen z =
      by_test (are_seats d)
      (λ (e : are_seats d ≡ true).
      by_test (eqb (seat_without_thirteen d) no_seat)
      (λ (n : eqb (seat_without_thirteen d) no_seat ≡ true).
      let all : length d ≡ 52 = eqb-true (length d) 52 (and_left (eqb (length d) 52) _ e) in
      record {
        holders = all;
        holder = λ k h. each-seat d (not-true _ (and_right (eqb (length d) 52) _ e)) k (omega arith);
        cards = none-short d (eqb-true (seat_without_thirteen d) no_seat n);
      })
      (λ (n : eqb (seat_without_thirteen d) no_seat ≡ false). absurd (omega (arith, rw (uneven e n) at z))))
      (λ (e : are_seats d ≡ false). absurd (omega (arith, rw (no_seats e) at z)))

  pub thirteen-deal : Thirteen d → deal_refusal d ≡ refusal 0
  unfolding deal_refusal
  thirteen-deal t = rw (deal_passes d 0 t.holders t.holder t.cards)

  pub deal-read : (deal_refusal d).number ≡ 0 → take_deal d [] 0 ≡ found tt 0
  deal-read z = let t = deal-thirteen z in deal_passes d 0 t.holders t.holder t.cards

  pub deal_clear : Clear (deal_refusal d)
  deal_clear z = ap (λ (r : Refusal). r.place) (thirteen-deal (deal-thirteen z))

-- 52 zeros are no deal
pub none-dealt : (deal_refusal no_deal).number ≡ 0 → ⊥
unfolding cards_dealt how_many
none-dealt z = let k = (deal-thirteen no_deal z).cards 1 (omega arith) in absurd (omega (arith, rw east-none at k))
  where
    east-none : cards_dealt 1 no_deal ≡ 0
    east-none = refl

-- ---- results of one deal
pub scores_on : (d : List ℕ) (l : List ℤ) → scores_of (on_deal d l) ≡ l
scores_on d [] = refl
scores_on d (s ∷ l) = ap (λ (m : List ℤ). s ∷ m) (scores_on d l)

pub length_on : (d : List ℕ) (l : List ℤ) → length (on_deal d l) ≡ length l
length_on d [] = refl
length_on d (s ∷ l) = ap suc (length_on d l)

pub on_append : (d : List ℕ) (l m : List ℤ) → on_deal d (l ++ m) ≡ on_deal d l ++ on_deal d m
on_append d [] m = refl
on_append d (s ∷ l) m = ap (λ (k : List Result). record { score = s; deal = d } ∷ k) (on_append d l m)

pub scores_append : (l m : List Result) → scores_of (l ++ m) ≡ scores_of l ++ scores_of m
scores_append [] m = refl
scores_append (r ∷ l) m = ap (λ (k : List ℤ). r.score ∷ k) (scores_append l m)

pub length-scores : (l : List Result) → length (scores_of l) ≡ length l
length-scores [] = refl
length-scores (r ∷ l) = ap suc (length-scores l)

-- results of one deal are their scores on it
pub on_deal_lem : (d : List ℕ) (l : List Result) → OneDeal d l → l ≡ on_deal d (scores_of l)
unfolding OneDeal
on_deal_lem d [] o = refl
on_deal_lem d (r ∷ l) o = ap₂ (λ (e : List ℕ) (k : List Result). record { score = r.score; deal = e } ∷ k) o.0 (on_deal_lem d l o.1)

-- two lists of results on two deals: both have one, and the deals differ
some_on : (test : Result → Bool) (b : Bool) (d : List ℕ) (l : List ℤ) → ((s : ℤ) → test (record { score = s; deal = d }) ≡ b)
    → some test (on_deal d l) ≡ (not (eqb (length l) 0) && b)
unfolding some
some_on test b d [] h = refl
some_on test b d (s ∷ l) h = rw (h s, some_on test b d l h, ne_eqb (suc (length l)) 0 (λ z. omega arith)) (absorbed b (not (eqb (length l) 0)))
  where
    absorbed : (b c : Bool) → (b || (c && b)) ≡ b
    absorbed true c = refl
    absorbed false true = refl
    absorbed false false = refl

pub fouled_on : (d : List ℕ) (l : List ℤ) (e : List ℕ) (m : List ℤ) → fouled (on_deal d l) (on_deal e m)
    ≡ (not (eqb (length l) 0) && (not (eqb (length m) 0) && not (same_deal d e)))
unfolding fouled
fouled_on d l e m =
    some_on (λ (r : Result). some (λ (q : Result). not (same_deal r.deal q.deal)) (on_deal e m)) (not (eqb (length m) 0) && not (same_deal d e)) d l
    (λ s. some_on (λ (q : Result). not (same_deal d q.deal)) (not (same_deal d e)) e m (λ z. refl))

-- results of one deal do not foul the board
pub none-fouled : (d : List ℕ) (l m : List ℤ) → fouled (on_deal d l) (on_deal d m) ≡ false
none-fouled d l m = fouled_on d l d m ∙ rw (deal_self d) (either (not (eqb (length l) 0)) (not (eqb (length m) 0)))
  where
    either : (a b : Bool) → (a && (b && false)) ≡ false
    either true true = refl
    either true false = refl
    either false b = refl

-- ---- none refused
module _ (l : List Result) (r : Result) where
  pub given-allowed : (given_refusal l r).number ≡ 0 → (valid_score r.score ≡ true) × ((deal_refusal r.deal).number ≡ 0) × (fouled l (r ∷ []) ≡ false)
  unfolding given_refusal score_refusal fouled_refusal
  given-allowed e =
      let a = or_none (score_refusal r.score) (deal_refusal r.deal or_else fouled_refusal l (r ∷ [])) e in
      let b = or_none (deal_refusal r.deal) (fouled_refusal l (r ∷ [])) a.1 in
      (not-false _ (if_none (not (valid_score r.score)) 19 a.0), b.0, if_none (fouled l (r ∷ [])) 27 b.1)

  pub allowed-given : valid_score r.score ≡ true → (deal_refusal r.deal).number ≡ 0 → fouled l (r ∷ []) ≡ false → given_refusal l r ≡ refusal 0
  unfolding given_refusal score_refusal fouled_refusal
  allowed-given v d f =
      or_second (score_refusal r.score) (deal_refusal r.deal or_else fouled_refusal l (r ∷ [])) (rw v)
      ∙ or_second (deal_refusal r.deal) (fouled_refusal l (r ∷ [])) d
      ∙ rw f

  pub add-allowed : (add_refusal l r).number ≡ 0 → ((given_refusal l r).number ≡ 0) × (length l + 1 ≤ 128)
  unfolding add_refusal room_refusal
  add-allowed e =
      let a = or_none (given_refusal l r) (room_refusal (length l) 1) e in
      (a.0, ltb-false 128 (length l + 1) (if_none (ltb 128 (length l + 1)) 18 a.1))

  pub allowed-add : (given_refusal l r).number ≡ 0 → length l + 1 ≤ 128 → add_refusal l r ≡ refusal 0
  unfolding add_refusal room_refusal
  allowed-add e h = or_second (given_refusal l r) (room_refusal (length l) 1) e ∙ rw (le-ltb 128 (length l + 1) h)

  pub given_clear : Clear (given_refusal l r)
  unfolding given_refusal score_refusal fouled_refusal
  given_clear =
      clear_or (score_refusal r.score) (deal_refusal r.deal or_else fouled_refusal l (r ∷ [])) (λ z. refl)
      (clear_or (deal_refusal r.deal) (fouled_refusal l (r ∷ [])) (deal_clear r.deal) (λ z. refl))

  pub add_clear : Clear (add_refusal l r)
  unfolding add_refusal room_refusal
  add_clear = clear_or (given_refusal l r) (room_refusal (length l) 1) given_clear (λ z. refl)

-- a valid score on the list's deal
pub given_on_lem : (d : List ℕ) (l : List ℤ) (s : ℤ) → valid_score s ≡ true → (deal_refusal d).number ≡ 0
    → given_refusal (on_deal d l) (record { score = s; deal = d }) ≡ refusal 0
given_on_lem d l s v z = allowed-given (on_deal d l) (record { score = s; deal = d }) v z (none-fouled d l (s ∷ []))

module _ (b : ℕ) (l : List Result) (d : ℕ) (m : List Result) where
  pub merge-allowed : (merge_refusal b l d m).number ≡ 0 → (b ≡ d) × (fouled l m ≡ false) × (length l + length m ≤ 128)
  unfolding merge_refusal boards_refusal fouled_refusal room_refusal
  merge-allowed e =
      let a = or_none (boards_refusal b d) (fouled_refusal l m or_else room_refusal (length l) (length m)) e in
      let c = or_none (fouled_refusal l m) (room_refusal (length l) (length m)) a.1 in (
        eqb-true b d (not-false _ (if_none (not (eqb b d)) 17 a.0)),
        if_none (fouled l m) 27 c.0,
        ltb-false 128 (length l + length m) (if_none (ltb 128 (length l + length m)) 18 c.1),
      )

  pub allowed-merge : b ≡ d → fouled l m ≡ false → length l + length m ≤ 128 → merge_refusal b l d m ≡ refusal 0
  unfolding merge_refusal boards_refusal fouled_refusal room_refusal
  allowed-merge e f h =
      or_second (boards_refusal b d) (fouled_refusal l m or_else room_refusal (length l) (length m)) (rw (eq-eqb b d e))
      ∙ or_second (fouled_refusal l m) (room_refusal (length l) (length m)) (rw f)
      ∙ rw (le-ltb 128 (length l + length m) h)

  pub merge_clear : Clear (merge_refusal b l d m)
  unfolding merge_refusal boards_refusal fouled_refusal room_refusal
  merge_clear =
      clear_or (boards_refusal b d) (fouled_refusal l m or_else room_refusal (length l) (length m)) (λ z. refl)
      (clear_or (fouled_refusal l m) (room_refusal (length l) (length m)) (λ z. refl) (λ z. refl))

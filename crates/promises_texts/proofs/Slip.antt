-- Request 105, proved. Assumes nothing.
use Prim.Native.Nat.{ℕ, ◌≤◌, ◌<◌}
use mathlib.Core.Path.{◌≡◌, refl, sym, ap, subst, ◌∙◌}
use mathlib.Core.Logic.{◌↔◌, ◌⊎◌, ⊎_elim}
use mathlib.Core.Bool.{true, false}
use mathlib.Core.List.Memᴰ
use mathlib.Core.List.{List, [], ◌∷◌, ◌++◌, map, Memᴰ}
use lib.Dec.{lit≤, lit<}
use lib.IntN.{ℤ, pos}
use lib.ListN.{take}
use Rattle.laws.specs.Auction.{passed_out}
use Rattle.laws.specs.Law77.{Stake, is_made, is_game, items, part_score_points, game_points, ns_score}
use Rattle.laws.specs.Record.{Parts, encode}
use Rattle.laws.specs.Refusals.{refuses_record}
use Rattle.laws.specs.Judge.{Outcome.refused as declined, Rooms, least_rooms, Enough, judge_of}
use Rattle.laws.specs.Judgement.{calls_of, declarer_of, stake_of, after_of, score_of}
use Rattle.laws.specs.Lawful.{Lawful}
use Rattle.laws.specs.Lengths.{deciding_bytes}
use Rattle.laws.specs.Decimal.{last_digits, decimal, signed_decimal}
use Rattle.laws.specs.Slip.{Name, OVERTRICKS, UNDERTRICKS, PARTSCORE, GAME, in_order, gain, points_of, Item, is_nothing, items_among}
use Rattle.laws.specs.Slip.{items_of, sum_word, line, lines, refusal_line, slip_of, slip}
use Rattle.laws.proofs.Accepts.{least-enough, lent_is, read_back}
use Rattle.laws.proofs.FirstBytes.{first_bytes}
use Rattle.laws.proofs.Numbered.{Ruled, ruled}
use Rattle.laws.proofs.Score.{no_undertricks}
use Rattle.laws.proofs.Slip.{on_slip, adds_up, ns_0}
use Rattle.laws.proofs.Tests.{by_test, not_both}
use Rattle.promises.specs.Demand2Revokes.{Rising}
use Rattle.promises_texts.specs.Slip.{place, GrantedTo, OfRecord, Slip}

-- ---- exactly the items that the Law grants
module _ (p : Parts) where
  bid-points : passed_out (calls_of p) ≡ false → (name : Name) → points_of p name ≡ ns_score (declarer_of p) (gain (items (stake_of p) (after_of p)) name)
  unfolding points_of
  bid-points e name = rw e

  out_points : passed_out (calls_of p) ≡ true → (name : Name) → points_of p name ≡ pos 0
  unfolding points_of
  out_points e name = rw e

  exact : (i : Item) → Memᴰ i (items_of p) ↔ GrantedTo p i
  exact i = (
    λ m. let w = (on_slip p i).0 m in
        by_test (passed_out (calls_of p))
        (λ (q : passed_out (calls_of p) ≡ true). absurd (w.1 (w.0 ∙ out_points q i.name)))
        (λ (q : passed_out (calls_of p) ≡ false). record { contract = q; points = w.0 ∙ bid-points q i.name; something = w.1 }),
    λ g. (on_slip p i).1 (g.points ∙ sym (bid-points g.contract i.name), g.something),
  )

-- ---- in order
-- every name of a list that is not nothing has a later place
abbrev Later : (Name → ℤ) → Name → List Name → Type 0
Later points name [] = Unit {0}
Later points name (n ∷ names) = (is_nothing (points n) ≡ false → place name < place n) × Later points name names

-- and so for each member of a list
abbrev Ordered : (Name → ℤ) → List Name → Type 0
Ordered points [] = Unit {0}
Ordered points (name ∷ names) = (is_nothing (points name) ≡ false → Later points name names) × Ordered points names

module _ (points : Name → ℤ) where
  abbrev places : List Name → List ℕ
  places names = map (λ (i : Item). place i.name) (items_among points names)

  above : (name : Name) (names : List Name) → Later points name names → (m : ℕ) → Memᴰ m (places names) → place name < m
  unfolding items_among
  above name [] l m i = absurd (Memᴰ.not-nil i)
  above name (n ∷ names) l m i =
      let more = above name names l.1 m in
      by_test (is_nothing (points n))
      (λ (q : is_nothing (points n) ≡ true). more (rw q at i))
      (λ (q : is_nothing (points n) ≡ false).
      ⊎_elim
      (λ (e : m ≡ place n). rw e (l.0 q))
      (λ (t : Memᴰ m (places names)). more t)
      (Memᴰ.cases_cons (rw q at i)))

  rise : (names : List Name) → Ordered points names → Rising (places names)
  unfolding items_among Rising
  rise [] o = tt
  rise (name ∷ names) o =
      let more = rise names o.1 in
      by_test (is_nothing (points name))
      (λ (q : is_nothing (points name) ≡ true). rw q more)
      (λ (q : is_nothing (points name) ≡ false). rw q (above name names (o.0 q), more))

-- one of two that exclude each other
none_of : (points : Name → ℤ) (name : Name) → points name ≡ pos 0 → {P : Type 0} → is_nothing (points name) ≡ false → P
none_of points name e q = not_both (is_nothing (points name)) (rw e) q

module _ (d : ℕ) (s : Stake) (tricks : ℕ) where
  abbrev gained : Name → ℤ
  gained name = ns_score d (gain (items s tricks) name)

  over_under : is_nothing (gained OVERTRICKS) ≡ false → gained UNDERTRICKS ≡ pos 0
  unfolding items
  over_under some =
      by_test (is_made s tricks)
      (λ (q : is_made s tricks ≡ true). rw (no_undertricks s tricks q) (ns_0 d))
      (λ (q : is_made s tricks ≡ false). none_of gained OVERTRICKS (rw q (ns_0 d)) some)

  part_game : is_nothing (gained PARTSCORE) ≡ false → gained GAME ≡ pos 0
  unfolding items part_score_points game_points
  part_game some =
      by_test (is_made s tricks)
      (λ (q : is_made s tricks ≡ true). by_test (is_game s)
      (λ (g : is_game s ≡ true). none_of gained PARTSCORE (rw (q, g) (ns_0 d)) some)
      (λ (g : is_game s ≡ false). rw (q, g) (ns_0 d)))
      (λ (q : is_made s tricks ≡ false). rw q (ns_0 d))

module _ (p : Parts) where
  abbrev pts : Name → ℤ
  pts = points_of p

  -- overtricks or undertricks, and a part score or a game
  over_or_under : is_nothing (pts OVERTRICKS) ≡ false → pts UNDERTRICKS ≡ pos 0
  over_or_under some =
      by_test (passed_out (calls_of p))
      (λ (q : passed_out (calls_of p) ≡ true). out_points p q UNDERTRICKS)
      (λ (q : passed_out (calls_of p) ≡ false). bid-points p q UNDERTRICKS
      ∙ over_under (declarer_of p) (stake_of p) (after_of p) (ap is_nothing (sym (bid-points p q OVERTRICKS)) ∙ some))

  part_or_game : is_nothing (pts PARTSCORE) ≡ false → pts GAME ≡ pos 0
  part_or_game some =
      by_test (passed_out (calls_of p))
      (λ (q : passed_out (calls_of p) ≡ true). out_points p q GAME)
      (λ (q : passed_out (calls_of p) ≡ false). bid-points p q GAME
      ∙ part_game (declarer_of p) (stake_of p) (after_of p) (ap is_nothing (sym (bid-points p q PARTSCORE)) ∙ some))

  ordered : Ordered pts in_order
  ordered = (
    λ t. (λ q. lit< tt, (λ q. lit< tt, (λ q. lit< tt, (λ q. lit< tt, (λ q. lit< tt, (λ q. lit< tt, tt)))))),
    (
      λ o. (λ q. none_of pts UNDERTRICKS (over_or_under o) q, (λ q. lit< tt, (λ q. lit< tt, (λ q. lit< tt, (λ q. lit< tt, tt))))),
      (
        λ u. (λ q. lit< tt, (λ q. lit< tt, (λ q. lit< tt, (λ q. lit< tt, tt)))),
        (
          λ s. (λ q. none_of pts GAME (part_or_game s) q, (λ q. lit< tt, (λ q. lit< tt, tt))),
          (λ g. (λ q. lit< tt, (λ q. lit< tt, tt)), (λ s. (λ q. lit< tt, tt), (λ d. tt, tt))),
        ),
      ),
    ),
  )

  rising : Rising (map (λ (i : Item). place i.name) (items_of p))
  unfolding items_of
  rising = rise pts in_order ordered

-- ---- the text
accepted-slip : (p : Parts) → Lawful p → slip (encode p) ≡ lines (items_of p) ++ line sum_word (score_of p)
unfolding slip slip_of
accepted-slip p ok = ap slip_of (read_back least_rooms least-enough p ok)

out_text : (p : Parts) → passed_out (calls_of p) ≡ true
    → lines (items_of p) ++ line sum_word (score_of p) ≡ 83 ∷ 85 ∷ 77 ∷ 32 ∷ 48 ∷ 10 ∷ []
unfolding items_of items_among score_of points_of lines line signed_decimal decimal last_digits
out_text p e = rw e

of_record : (p : Parts) → Lawful p → OfRecord p
of_record p ok =
    record {
      text = accepted-slip p ok;
      exactly = exact p;
      in_order = rising p;
      adds_up = adds_up p;
      passed_out_lem = λ e. accepted-slip p ok ∙ out_text p e;
    }

-- ---- refusals
module _ (bytes : List ℕ) where
  same_judgement : (rooms : Rooms) → Enough rooms → judge_of bytes least_rooms ≡ judge_of bytes rooms
  same_judgement rooms enough = lent_is least_rooms least-enough bytes ∙ sym (lent_is rooms enough bytes)

  refused-slip : (rooms : Rooms) → Enough rooms → (n at : ℕ) → judge_of bytes rooms ≡ declined n at → slip bytes ≡ refusal_line n at
  unfolding slip slip_of
  refused-slip rooms enough n at q = ap slip_of (same_judgement rooms enough ∙ q)

  numbered : (n at : ℕ) → judge_of bytes least_rooms ≡ declined n at → refuses_record n ≡ true
  numbered n at q = (subst Ruled q (ruled bytes least_rooms)).number

  first-slip : slip bytes ≡ slip (take deciding_bytes bytes)
  unfolding slip
  first-slip = ap slip_of (first_bytes deciding_bytes bytes (lit≤ tt) least_rooms)

slip-text : (n at : ℕ) → refusal_line n at ≡ (decimal n ++ (32 ∷ decimal at)) ++ (10 ∷ [])
unfolding refusal_line
slip-text n at = refl

pub slip_promises : Slip
slip_promises =
    record {
      of_record = of_record;
      refused = λ bytes rooms enough n at q. refused-slip bytes rooms enough n at q ∙ slip-text n at;
      numbered = numbered;
      judged_by_first = λ bytes rooms. first_bytes deciding_bytes bytes (lit≤ tt) rooms;
      first_bytes = first-slip;
    }

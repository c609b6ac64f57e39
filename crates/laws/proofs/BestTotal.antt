-- Law 64's total is the greatest number of tricks that can be allotted to the revokes of one side. Assumes nothing.
use Rattle.std.specs.Prelude.{if◌then◌else◌}
use Prim.Native.Nat.{ℕ, zero, suc, ◌+◌, ◌-◌, ◌≤◌, ◌<◌}
use native.Mathlib.Nat.{zero-add}
use native.Mathlib.Omega.{arith}
use mathlib.Core.Path.{◌≡◌, refl, sym, ap, ◌∙◌}
use mathlib.Core.Bool.{Bool, true, false, ◌&&◌, ◌||◌}
use mathlib.Core.List.Memᴰ
use mathlib.Core.List.{List, [], ◌∷◌, ◌++◌, append-nil, Memᴰ}
use borrow.Author.Tests.{eqb-false, le-leb, not-true}
use lib.Dec.{eqb, leb}
use lib.ListN.{length, get_or, take, drop}
use lib.Seq.{drop-drop}
use Rattle.laws.specs.Choice.{how_many, some}
use Rattle.laws.specs.Cards.{side_of}
use Rattle.laws.specs.Law44.{cards_played, tricks_complete, tricks_won}
use Rattle.laws.specs.Events.{Event, played, exposed, choice, cards_of, list_plays}
use Rattle.laws.specs.LeadRevoke.{disobeys, revoke_by, Counted, counted_by, counted_revokes}
use Rattle.laws.specs.Law64.{Due, won_from, dues, total, side_revoked, both_revoked, transferred_tricks}
use Rattle.laws.specs.Allotment.{Has, Pair, revoke_of, Allotment, Greatest, one_side_revoked}
use Rattle.laws.proofs.Tests.{by_test, or_left, or_right, and_right}
use Rattle.laws.proofs.Allotments.{many-parts, Falling, of_trick, at_most_total, allot, allot_length, allot_once, allot_serves}
use Rattle.laws.proofs.SideTricks.{tricks_down, down-length, down-once, down-front, down-has, has-down}
use Rattle.laws.proofs.AllotmentPlaces.{no_due, due_at_lem, dues-length, Places, serves_places, places_serve}

-- every pair is of a place from 0 on
all_pass : (pairs : List Pair) → how_many (λ (q : Pair). leb 0 q.revoke) pairs ≡ length pairs
unfolding how_many
all_pass [] = refl
all_pass (q ∷ pairs) = rw (le-leb 0 q.revoke (omega arith)) (omega (arith, all_pass pairs))

-- ---- revokes of one side in order of play, none before trick `from` nor after trick `to`
module _ (side to : ℕ) where
  unfoldable pub InOrder : ℕ → List Counted → Type 0
  InOrder from [] = Unit {0}
  InOrder from (r ∷ rs) = (side_of r.seat ≡ side) × (from ≤ r.trick) × (r.trick ≤ to) × InOrder r.trick rs

  order_at_lem : (from : ℕ) (rs : List Counted) → InOrder from rs → (i : ℕ) → i < length rs
      → (side_of (revoke_of rs i).seat ≡ side) × (from ≤ (revoke_of rs i).trick) × ((revoke_of rs i).trick ≤ to)
  unfolding InOrder revoke_of
  order_at_lem from [] o i h = absurd (omega arith)
  order_at_lem from (r ∷ rs) o zero h = (o.0, o.1, o.2)
  order_at_lem from (r ∷ rs) o (suc i) h =
      let more = order_at_lem r.trick rs o.3 i (omega arith) in
      (more.0, omega (arith, o.1, more.1), more.2)

module _ (ws : List ℕ) (claimed : ℕ → ℕ) (side : ℕ) where
  -- from a later trick on a side has no more
  falls : (a b : ℕ) → a ≤ b → won_from ws claimed side b ≤ won_from ws claimed side a
  unfolding won_from tricks_won
  falls a b h =
      let n = (b - 1) - (a - 1) in
      let e : a - 1 + n ≡ b - 1 = omega arith in
      let same = rw e at (drop-drop n (a - 1) ws) in
      omega (arith, ap (tricks_won side) same, many-parts (λ (seat : ℕ). eqb (side_of seat) side) n (drop (a - 1) ws))

  falling : (dummy to from : ℕ) (earlier rs : List Counted) → InOrder side to from rs
      → Falling (won_from ws claimed side from) (dues dummy ws claimed earlier rs)
  unfolding InOrder Falling dues
  falling dummy to from earlier [] o = tt
  falling dummy to from earlier (r ∷ rs) o = rw o.0 (falls from r.trick o.1, falling dummy to r.trick (r ∷ earlier) rs o.3)

  -- ---- the theorem
  module _ (dummy : ℕ) (rs : List Counted) (o : InOrder side (length ws + 1) 1 rs) where
    abbrev due : List Due
    due = dues dummy ws claimed [] rs

    abbrev had : List ℕ
    had = tricks_down ws claimed side 1

    -- the tricks that a revoke can have are those that its side has from its trick on
    open_to : (i : ℕ) → i < length rs → take (get_or due i no_due).available had ≡ tricks_down ws claimed side (revoke_of rs i).trick
    open_to i h =
        let at = order_at_lem side (length ws + 1) 1 rs o i h in
        rw (due_at_lem dummy ws claimed rs i h, at.0) (down-front ws claimed side (revoke_of rs i).trick at.1 at.2)

    served : (pairs : List Pair) → Allotment dummy ws claimed rs pairs → Places had 0 due pairs
    served pairs a =
        record {
          listed = λ q m. omega (arith, a.listed q m, dues-length dummy ws claimed [] rs);
          few = λ i h. let k = inside i h in rw (zero-add, due_at_lem dummy ws claimed rs i k) (a.entitled i k);
          had = λ i h q m e. let k = inside i h in rw (open_to i k) (one i k q m (rw zero-add at e));
        }
      where
        inside : (i : ℕ) → i < length due → i < length rs
        inside i h = omega (arith, dues-length dummy ws claimed [] rs)

        one : (i : ℕ) → i < length rs → (q : Pair) → Memᴰ q pairs → q.revoke ≡ i
            → Memᴰ q.trick (tricks_down ws claimed side (revoke_of rs i).trick)
        one i h q m e =
            let at = order_at_lem side (length ws + 1) 1 rs o i h in
            has-down ws claimed side (revoke_of rs i).trick at.1 at.2 (rw (e, at.0) at (a.has q m))
            (omega (arith, a.from_revoke q m, ap (λ (k : ℕ). (revoke_of rs k).trick) e))

    allotted : (pairs : List Pair) → Places had 0 due pairs → ((t : ℕ) → how_many (of_trick t) pairs ≤ 1) → Allotment dummy ws claimed rs pairs
    allotted pairs s once =
        record {
          listed = inside;
          once = λ t. omega (arith, once t);
          has = λ q m. let k = inside q m in rw (order_at_lem side (length ws + 1) 1 rs o q.revoke k).0 (one q m).0;
          from_revoke = λ q m. (one q m).1;
          entitled = λ k h. rw (zero-add, due_at_lem dummy ws claimed rs k h) at (s.few k (omega (arith, dues-length dummy ws claimed [] rs)));
        }
      where
        inside : (q : Pair) → Memᴰ q pairs → q.revoke < length rs
        inside q m = omega (arith, s.listed q m, dues-length dummy ws claimed [] rs)

        one : (q : Pair) → Memᴰ q pairs → Has ws claimed side q.trick × ((revoke_of rs q.revoke).trick ≤ q.trick)
        one q m =
            let k = inside q m in
            let at = order_at_lem side (length ws + 1) 1 rs o q.revoke k in
            down-has ws claimed side (revoke_of rs q.revoke).trick at.1 at.2
            (rw (open_to q.revoke k) at (s.had q.revoke (omega (arith, dues-length dummy ws claimed [] rs)) q m (sym (zero-add q.revoke))))

    -- an allotment of as many pairs as the total
    abbrev pub best : List Pair
    best = allot had 0 due

    room : won_from ws claimed side 1 ≤ length had
    room = omega (arith, down-length ws claimed side 1)

    pub best-allots : Allotment dummy ws claimed rs best
    best-allots =
        let f = falling dummy (length ws + 1) 1 [] rs o in
        allotted best
        (places_serve had best 0 due (allot_serves had 0 (won_from ws claimed side 1) due [] f (λ q m. absurd (Memᴰ.not-nil m))))
        (allot_once had 0 (won_from ws claimed side 1) due f (down-once ws claimed side))

    pub best-length : length best ≡ total due
    best-length = allot_length had 0 (won_from ws claimed side 1) due (falling dummy (length ws + 1) 1 [] rs o) room

    -- and no allotment has more
    pub no_better : (pairs : List Pair) → Allotment dummy ws claimed rs pairs → length pairs ≤ total due
    no_better pairs a =
        let f = falling dummy (length ws + 1) 1 [] rs o in
        let s = serves_places had pairs 0 due (served pairs a) in
        omega (arith, at_most_total had 0 (won_from ws claimed side 1) due pairs f s (λ t. omega (arith, a.once t)), all_pass pairs)

    greatest : Greatest dummy ws claimed rs (total due)
    greatest = record { pairs = best; allots = best-allots; as_many = best-length; most = no_better }

-- ---- the revokes of a history
module _ (side to to' : ℕ) (h : to ≤ to') where
  wider : (from : ℕ) (rs : List Counted) → InOrder side to from rs → InOrder side to' from rs
  unfolding InOrder
  wider from [] o = tt
  wider from (r ∷ rs) o = (o.0, o.1, omega (arith, o.2), wider r.trick rs o.3)

  one_later : (from : ℕ) (rs : List Counted) (r : Counted) → InOrder side to from rs → from ≤ r.trick → to ≤ r.trick → r.trick ≤ to'
      → side_of r.seat ≡ side → InOrder side to' from (rs ++ (r ∷ []))
  unfolding InOrder
  one_later from [] r o f t k e = (e, f, k, tt)
  one_later from (x ∷ rs) r o f t k e = (o.0, o.1, omega (arith, o.2), one_later x.trick rs r o.3 (omega (arith, o.2)) t k e)

or_assoc : (a b c : Bool) → ((a || b) || c) ≡ (a || (b || c))
or_assoc true b c = refl
or_assoc false b c = refl

some_append : {A : Type 0} (test : A → Bool) (l m : List A) → some test (l ++ m) ≡ (some test l || some test m)
unfolding some
some_append test [] m = refl
some_append test (x ∷ l) m = ap (λ (b : Bool). test x || b) (some_append test l m) ∙ sym (or_assoc (test x) (some test l) (some test m))

-- what is said of a side's revokes after one more
apart : (side : ℕ) (rs : List Counted) (r : Counted) → side_revoked side (rs ++ (r ∷ [])) ≡ false → (side_revoked side rs ≡ false) × (side_of r.seat ≡ side → ⊥)
unfolding side_revoked some
apart side rs r q =
    let test : Counted → Bool = λ x. eqb (side_of x.seat) side in
    let both : (some test rs || (test r || false)) ≡ false = sym (some_append test rs (r ∷ [])) ∙ q in
    (or_left (some test rs) _ both, eqb-false (side_of r.seat) side (or_left (test r) false (or_right (some test rs) _ both)))

module _ (side other : ℕ) (two : (seat : ℕ) → (side_of seat ≡ other → ⊥) → side_of seat ≡ side) (trump opening : ℕ) (deal : List ℕ) where
  abbrev counts : List Event → List Counted
  counts e = counted_revokes trump opening deal e

  one_more : (e : List Event) (c : ℕ) (rs : List Counted) → (side_revoked other rs ≡ false → InOrder side (tricks_complete (cards_of e) + 1) 1 rs) → (b : Bool)
      → side_revoked other (rs ++ (if b then (counted_by trump opening deal e c ∷ []) else [])) ≡ false
      → InOrder side (tricks_complete (c ∷ cards_of e) + 1) 1 (rs ++ (if b then (counted_by trump opening deal e c ∷ []) else []))
  unfolding tricks_complete cards_played counted_by revoke_by
  one_more e c rs more false q = rw append-nil (wider side _ _ (omega arith) 1 rs (more (rw append-nil at q)))
  one_more e c rs more true q =
      let r = counted_by trump opening deal e c in
      let both = apart other rs r q in
      one_later side _ _ (omega arith) 1 rs r (more both.0) (omega arith) (omega arith) (omega arith) (two _ both.1)

  -- where the other side has not revoked, the revokes are of one side and in order
  in_order : (e : List Event) → side_revoked other (counts e) ≡ false → InOrder side (tricks_complete (cards_of e) + 1) 1 (counts e)
  unfolding counted_revokes list_plays cards_of InOrder
  in_order [] q = tt
  in_order (played c ∷ e) q = one_more e c (counts e) (in_order e) (disobeys trump opening deal e c) q
  in_order (exposed c deliberate ∷ e) q = in_order e q
  in_order (choice kind suit ∷ e) q = in_order e q

  of_side : (dummy : ℕ) (ws : List ℕ) (claimed : ℕ → ℕ) (e : List Event) → length ws ≡ tricks_complete (cards_of e)
      → side_revoked other (counts e) ≡ false → Greatest dummy ws claimed (counts e) (total (dues dummy ws claimed [] (counts e)))
  of_side dummy ws claimed e n q = greatest ws claimed side dummy (counts e) (rw n (in_order e q))

-- the theorem: where one side has revoked, the tricks that change sides are the most that can be allotted
pub best-total : (trump opening : ℕ) (deal : List ℕ) (e : List Event) (dummy : ℕ) (ws : List ℕ) (claimed : ℕ → ℕ) → length ws ≡ tricks_complete (cards_of e)
    → one_side_revoked (counted_revokes trump opening deal e) ≡ true
    → Greatest dummy ws claimed (counted_revokes trump opening deal e) (transferred_tricks dummy ws claimed (counted_revokes trump opening deal e))
unfolding transferred_tricks one_side_revoked both_revoked
best-total trump opening deal e dummy ws claimed n one =
    let rs = counted_revokes trump opening deal e in
    let not_both : (side_revoked 0 rs && side_revoked 1 rs) ≡ false = not-true _ (and_right (side_revoked 0 rs || side_revoked 1 rs) _ one) in
    rw not_both
    (by_test (side_revoked 0 rs)
    (λ (q : side_revoked 0 rs ≡ true). of_side 0 1 (λ seat off. omega (arith, off)) trump opening deal dummy ws claimed e n (rw q at not_both))
    (λ (q : side_revoked 0 rs ≡ false). of_side 1 0 (λ seat off. omega (arith, off)) trump opening deal dummy ws claimed e n q))

-- The listed revokes and the winners, a place at a time. Assumes nothing.
use Rattle.std.specs.List.{list_any, filter}
use Rattle.std.proofs.lemmas.List.{take-map, drop-map}
use Rattle.std.proofs.lemmas.List.Folds.{list_any-append}
use Rattle.std.specs.Prelude.{if◌then◌else◌}
use Prim.Native.Nat.{ℕ, zero, suc, ◌≤◌, ◌<◌, ◌+◌, ◌/◌, ◌%◌, min}
use mathlib.Core.Path.{◌≡◌, refl, sym, ap, ◌∙◌}
use mathlib.Core.Bool.{Bool, true, false, ◌&&◌, ◌||◌}
use mathlib.Core.List.{List, [], ◌∷◌}
use native.Mathlib.Omega.{arith}
use borrow.Author.Tests.{leb-true, leb-false, eqb-true, eq-eqb}
use lib.Dec.{eqb, leb}
use lib.ListN.{length, get_or, take, drop, length-take, length-map, get_or-map, get_or-eq_default}
use lib.Seq.{drop-cons, get_or-take, take-suc, take_all}
use Rattle.laws.specs.Choice.{some, how_many}
use Rattle.laws.specs.Cards.{no_seat}
use Rattle.laws.specs.Law44.{tricks_won}
use Rattle.laws.specs.LeadRevoke.{Counted}
use Rattle.laws.specs.Law64.{repeated, side_revoked}
use Rattle.laws.proofs.Tests.{by_test, same_test, and_left, and_right, and_both}
use Rattle.laws.proofs.Counts.{any_default}
use Rattle.play.specs.declared.Tricks.{Tricks}
use Rattle.play.specs.declared.Won.{Won}
use Rattle.play.specs.Told.{no_trick, seats_of}
use Rattle.position.specs.declared.listed.Listed.{Listed}
use Rattle.transfer.specs.Inputs.{counted_of, counted_at, counted_in, revokes_in, winners_in, earlier}

-- ---- the first n of a list, from a place on
from_place : (l : List ℕ) (n i : ℕ) → i < length l → i < n → drop i (take n l) ≡ get_or l i 0 ∷ drop (suc i) (take n l)
from_place l n i h k = drop-cons (take n l) i 0 (rw (length-take n l) (omega arith)) ∙ ap (λ (x : ℕ). x ∷ drop (suc i) (take n l)) (get_or-take n l i 0 k)

past_end : {A : Type 0} (l : List A) (i : ℕ) → length l ≤ i → drop i l ≡ []
past_end [] zero h = refl
past_end [] (suc i) h = refl
past_end (x ∷ l) zero h = absurd (omega arith)
past_end (x ∷ l) (suc i) h = past_end l i (omega arith)

drop-counted : (i : ℕ) (bytes free : List ℕ) → length bytes ≡ length free → drop i (counted_in bytes free) ≡ counted_in (drop i bytes) (drop i free)
unfolding counted_in
drop-counted zero bytes free e = refl
drop-counted (suc i) [] free e = refl
drop-counted (suc i) (b ∷ bytes) [] e = absurd (omega arith)
drop-counted (suc i) (b ∷ bytes) (f ∷ free) e = drop-counted i bytes free (omega arith)

module _ (rs : Listed) (all : length rs.list ≡ 48) (free : length rs.excused ≡ 48) where
  same_length : length (take rs.count rs.list) ≡ length (take rs.count rs.excused)
  same_length = rw (length-take rs.count rs.list, length-take rs.count rs.excused, all, free)

  pub next-revoke : (i : ℕ) → i < min rs.count 48 → drop i (revokes_in rs) ≡ counted_at rs i ∷ drop (suc i) (revokes_in rs)
  unfolding revokes_in counted_in
  next-revoke i h =
      drop-counted i (take rs.count rs.list) (take rs.count rs.excused) same_length
      ∙ rw (
        from_place rs.list rs.count i (omega arith) (omega arith),
        from_place rs.excused rs.count i (omega arith) (omega arith),
      )
      (ap (λ (m : List Counted). counted_at rs i ∷ m) (sym (drop-counted (suc i) (take rs.count rs.list) (take rs.count rs.excused) same_length)))

  pub revokes_end : (i : ℕ) → min rs.count 48 ≤ i → drop i (revokes_in rs) ≡ []
  unfolding revokes_in counted_in
  revokes_end i h =
      drop-counted i (take rs.count rs.list) (take rs.count rs.excused) same_length
      ∙ rw (past_end (take rs.count rs.list) i (rw (length-take rs.count rs.list) (omega arith)))

module _ (ts : Tricks) (all : length ts.answers ≡ 13) where
  abbrev seats : List ℕ
  seats = seats_of ts.answers

  -- the winner that stands at a place of the answers
  abbrev pub seat_at : ℕ → ℕ
  seat_at i = (get_or ts.answers i no_trick).seat

  seats_13 : length seats ≡ 13
  seats_13 = length-map ts.answers (λ (w : Won). w.seat) ∙ all

  seat-is : (i : ℕ) → get_or seats i 0 ≡ seat_at i
  seat-is i = get_or-map (λ (w : Won). w.seat) ts.answers i no_trick

-- ---- a revoke before: the same seat and suit, by the low four bits
pub same_low : (a b : ℕ) → (eqb (a / 4 % 4) (b / 4 % 4) && eqb (a % 4) (b % 4)) ≡ eqb (a % 16) (b % 16)
same_low a b =
    same_test (eqb (a / 4 % 4) (b / 4 % 4) && eqb (a % 4) (b % 4)) (eqb (a % 16) (b % 16))
    (λ (e : (eqb (a / 4 % 4) (b / 4 % 4) && eqb (a % 4) (b % 4)) ≡ true).
    let seat = eqb-true (a / 4 % 4) (b / 4 % 4) (and_left (eqb (a / 4 % 4) (b / 4 % 4)) (eqb (a % 4) (b % 4)) e) in
    let suit = eqb-true (a % 4) (b % 4) (and_right (eqb (a / 4 % 4) (b / 4 % 4)) (eqb (a % 4) (b % 4)) e) in
    eq-eqb (a % 16) (b % 16) (omega arith))
    (λ (e : eqb (a % 16) (b % 16) ≡ true).
    let low = eqb-true (a % 16) (b % 16) e in
    and_both (eqb (a / 4 % 4) (b / 4 % 4)) (eqb (a % 4) (b % 4)) (eq-eqb (a / 4 % 4) (b / 4 % 4) (omega arith)) (eq-eqb (a % 4) (b % 4) (omega arith)))

pub none_before : (l free : List ℕ) (r : Counted) → repeated (earlier 0 l free) r ≡ false
unfolding repeated some earlier
none_before l free r = refl

pub one-before : (byte f j : ℕ) (l free : List ℕ) → repeated (earlier (suc j) l free) (counted_of byte f)
    ≡ (eqb (get_or l j 0 % 16) (byte % 16) || repeated (earlier j l free) (counted_of byte f))
unfolding repeated some earlier
one-before byte f j l free = rw (same_low (get_or l j 0) byte)

or_none : (b : Bool) → (b || false) ≡ b
or_none true = refl
or_none false = refl

either_way : (a b : Bool) → (a || b) ≡ (b || a)
either_way true true = refl
either_way true false = refl
either_way false true = refl
either_way false false = refl

-- .. among the first of the list
pub any-before : (byte f i : ℕ) (l free : List ℕ) → i ≤ length l
    → list_any (λ (b : ℕ). eqb (b % 16) (byte % 16)) (take i l) ≡ repeated (earlier i l free) (counted_of byte f)
any-before byte f zero l free h = sym (none_before l free (counted_of byte f))
any-before byte f (suc i) l free h =
    let test : ℕ → Bool = λ b. eqb (b % 16) (byte % 16) in
    ap (list_any test) (take-suc l i 0 h)
    ∙ list_any-append test (take i l) (get_or l i 0 ∷ [])
    ∙ either_way (list_any test (take i l)) (list_any test (get_or l i 0 ∷ []))
    ∙ rw (or_none (test (get_or l i 0)), any-before byte f i l free (omega arith)) (sym (one-before byte f i l free))

-- ---- a side's revokes and tricks from a place on
pub side_none : (side : ℕ) → side_revoked side [] ≡ false
unfolding side_revoked some
side_none side = refl

pub side_next : (side byte free : ℕ) (rest : List Counted)
    → side_revoked side (counted_of byte free ∷ rest) ≡ (eqb (byte / 4 % 2) side || side_revoked side rest)
unfolding side_revoked some
side_next side byte free rest = let e : byte / 4 % 4 % 2 ≡ byte / 4 % 2 = omega arith in rw e

pub won-none : (side : ℕ) → tricks_won side [] ≡ 0
unfolding tricks_won how_many
won-none side = refl

pub won-next : (side seat : ℕ) (rest : List ℕ) → tricks_won side (seat ∷ rest) ≡ (if eqb (seat % 2) side then 1 else 0) + tricks_won side rest
unfolding tricks_won how_many
won-next side seat rest = refl

-- .. among the bytes that are listed
side_any : (side : ℕ) (bytes free : List ℕ) → length bytes ≡ length free
    → list_any (λ (b : ℕ). eqb (b / 4 % 2) side) bytes ≡ side_revoked side (counted_in bytes free)
unfolding counted_in
side_any side [] free h = sym (side_none side)
side_any side (b ∷ bytes) [] h = absurd (omega arith)
side_any side (b ∷ bytes) (f ∷ free) h =
    ap (λ (r : Bool). eqb (b / 4 % 2) side || r) (side_any side bytes free (omega arith)) ∙ sym (side_next side b f (counted_in bytes free))

take-most : (n : ℕ) (l : List ℕ) → take (min n (length l)) l ≡ take n l
take-most n l =
    by_test (leb n (length l))
    (λ (q : leb n (length l) ≡ true). let h = leb-true n (length l) q in let e : min n (length l) ≡ n = omega arith in rw e)
    (λ (q : leb n (length l) ≡ false).
    let h = leb-false n (length l) q in
    take_all (min n (length l)) l (omega arith) ∙ sym (take_all n l (omega arith)))

-- ---- the same at a place of the arrays
pub side-listed : (rs : Listed) → length rs.list ≡ 48 → length rs.excused ≡ 48 → (side : ℕ)
    → list_any (λ (b : ℕ). eqb (b / 4 % 2) side) (take (min rs.count 48) rs.list) ≡ side_revoked side (revokes_in rs)
unfolding revokes_in
side-listed rs all free side =
    let many : take (min rs.count 48) rs.list ≡ take rs.count rs.list = rw (sym all) (take-most rs.count rs.list) in
    let as_long : length (take rs.count rs.list) ≡ length (take rs.count rs.excused)
    = omega (arith, length-take rs.count rs.list, length-take rs.count rs.excused) in
    ap (list_any (λ (b : ℕ). eqb (b / 4 % 2) side)) many ∙ side_any side (take rs.count rs.list) (take rs.count rs.excused) as_long

-- the tricks of a side among answers
won-of : (side : ℕ) (l : List Won) → length (filter (λ (w : Won). eqb (w.seat % 2) side) l) ≡ tricks_won side (seats_of l)
won-of side [] = sym (won-none side)
won-of side (w ∷ l) =
    let rest = won-of side l in
    let next = won-next side w.seat (seats_of l) in
    by_test (eqb (w.seat % 2) side)
    (λ (q : eqb (w.seat % 2) side ≡ true). rw q (omega (arith, rest, rw q at next)))
    (λ (q : eqb (w.seat % 2) side ≡ false). rw q (omega (arith, rest, rw q at next)))

pub won-listed : (ts : Tricks) (side i : ℕ)
    → length (filter (λ (w : Won). eqb (w.seat % 2) side) (drop i (take ts.count ts.answers))) ≡ tricks_won side (drop i (winners_in ts))
unfolding winners_in
won-listed ts side i =
    let seat : Won → ℕ = λ w. w.seat in
    let seats : drop i (take ts.count (seats_of ts.answers)) ≡ seats_of (drop i (take ts.count ts.answers)) =
    ap (drop i) (take-map seat ts.count ts.answers) ∙ drop-map seat i (take ts.count ts.answers) in
    won-of side (drop i (take ts.count ts.answers)) ∙ ap (tricks_won side) (sym seats)

module _ (ts : Tricks) (all : length ts.answers ≡ 13) where
  -- the winner at a place, or nobody
  pub winner_at : (i : ℕ) → i < min ts.count 13 → seat_at ts all i ≡ get_or (winners_in ts) i no_seat
  unfolding winners_in
  winner_at i h =
      let l = seats ts all in
      sym (seat-is ts all i) ∙ any_default l i 0 no_seat (omega (arith, seats_13 ts all)) ∙ sym (get_or-take ts.count l i no_seat (omega arith))

  pub no_winner : (i : ℕ) → min ts.count 13 ≤ i → no_seat ≡ get_or (winners_in ts) i no_seat
  unfolding winners_in
  no_winner i h =
      let l = seats ts all in
      sym (get_or-eq_default (take ts.count l) no_seat (rw (length-take ts.count l) (omega (arith, seats_13 ts all))))

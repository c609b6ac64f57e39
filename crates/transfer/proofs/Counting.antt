-- The count of Law 64 from the last revoke to the first, a revoke at a time. Assumes nothing.
use Rattle.std.specs.Prelude.{if◌then◌else◌}
use Prim.Native.Nat.{ℕ, zero, suc, ◌≤◌, ◌<◌, ◌+◌, ◌-◌, ◌%◌, min}
use mathlib.Core.Path.{◌≡◌, refl, sym}
use mathlib.Core.Bool.{Bool, true, false, ◌||◌}
use mathlib.Core.List.{List}
use native.Mathlib.Omega.{arith}
use lib.Dec.{eqb}
use lib.ListN.{length, get_or, take, drop, length-take, length-drop, length-map}
use Rattle.laws.specs.Cards.{no_seat, clockwise, partner_of, side_of}
use Rattle.laws.specs.Law44.{tricks_won}
use Rattle.laws.specs.LeadRevoke.{Counted}
use Rattle.laws.specs.Law64.{repeated, is_exempt, entitlement, won_from, dues, total}
use Rattle.laws.specs.Law68.{claimed_tricks}
use Rattle.laws.proofs.Tests.{by_test}
use Rattle.laws.proofs.Counts.{many-le}
use Rattle.play.specs.declared.Tricks.{Tricks}
use Rattle.play.specs.declared.Won.{Won}
use Rattle.play.specs.Told.{seats_of}
use Rattle.position.specs.declared.listed.Listed.{Listed}
use Rattle.transfer.specs.Inputs.{counted_at, winners_in, claimed_by, earlier, total_from}
use Rattle.transfer.proofs.Lists.{next-revoke, revokes_end}

either : (b : Bool) → (b || true) ≡ true
either true = refl
either false = refl

last_of : (a b c d : Bool) → d ≡ true → (a || (b || (c || d))) ≡ true
last_of a b c d e = rw (e, either c, either b) (either a)

none_of : (a b c d : Bool) → a ≡ false → b ≡ false → c ≡ false → d ≡ false → (a || (b || (c || d))) ≡ false
none_of a b c d e f g h = rw (e, f, g, h)

at_most_two : (dummy : ℕ) (ws : List ℕ) (before : List Counted) (r : Counted) → entitlement dummy ws before r ≤ 2
unfolding entitlement
at_most_two dummy ws before r =
    by_test (is_exempt dummy before r)
    (λ (q : (is_exempt dummy before r) ≡ true). rw q (omega arith))
    (λ (q : (is_exempt dummy before r) ≡ false). rw q (by_test (eqb (get_or ws (r.trick - 1) no_seat) r.seat)
    (λ (s : eqb (get_or ws (r.trick - 1) no_seat) r.seat ≡ true). rw s (omega arith))
    (λ (s : eqb (get_or ws (r.trick - 1) no_seat) r.seat ≡ false). rw s (omega arith))))

-- the exceptions one by one, and what is due without any
module _ (dummy : ℕ) (ws : List ℕ) (before : List Counted) (r : Counted) where
  exempt : is_exempt dummy before r ≡ true → 0 ≡ entitlement dummy ws before r
  unfolding entitlement
  exempt e = rw e

  -- what is due without any exception, by whether the seat won the trick
  due : is_exempt dummy before r ≡ false → (won : Bool) → eqb (get_or ws (r.trick - 1) no_seat) r.seat ≡ won
      → (if won then 2 else 1) ≡ entitlement dummy ws before r
  unfolding entitlement
  due e won w = rw (e, w)

  pub by_dummy : eqb r.seat dummy ≡ true → 0 ≡ entitlement dummy ws before r
  unfolding is_exempt
  by_dummy e = exempt (rw e)

  pub by_trick : eqb r.trick 12 ≡ true → 0 ≡ entitlement dummy ws before r
  unfolding is_exempt
  by_trick e = exempt (rw e (either (eqb r.seat dummy)))

  pub by_repeat : repeated before r ≡ true → 0 ≡ entitlement dummy ws before r
  unfolding is_exempt
  by_repeat e = exempt (rw (e, either (eqb r.trick 12)) (either (eqb r.seat dummy)))

  pub by_excuse : r.excused ≡ true → 0 ≡ entitlement dummy ws before r
  unfolding is_exempt
  by_excuse e = exempt (last_of (eqb r.seat dummy) (eqb r.trick 12) (repeated before r) r.excused e)

  pub without_any : eqb r.seat dummy ≡ false → eqb r.trick 12 ≡ false → repeated before r ≡ false → r.excused ≡ false → (won : Bool)
      → eqb (get_or ws (r.trick - 1) no_seat) r.seat ≡ won → (if won then 2 else 1) ≡ entitlement dummy ws before r
  unfolding is_exempt
  without_any a b c d won w = due (none_of (eqb r.seat dummy) (eqb r.trick 12) (repeated before r) r.excused a b c d) won w

pub due_bound : (due dummy : ℕ) (ws : List ℕ) (before : List Counted) (r : Counted) → due ≡ entitlement dummy ws before r → due ≤ 2
due_bound due dummy ws before r e = rw e (at_most_two dummy ws before r)

module _ (rs : Listed) (ts : Tricks) (declarer claim left : ℕ) (all : length rs.list ≡ 48) (free : length rs.excused ≡ 48) where
  pub total_end : (i : ℕ) → min rs.count 48 ≤ i → total_from i rs ts declarer claim left ≡ 0
  unfolding total_from dues total
  total_end i h = rw (revokes_end rs all free i h)

  -- revoke i: what it entitles to is added, up to what its side won from there on
  pub total_at : (i : ℕ) → i < min rs.count 48
      → total_from i rs ts declarer claim left
      ≡ min (total_from (suc i) rs ts declarer claim left
      + entitlement (partner_of declarer) (winners_in ts) (earlier i rs.list rs.excused) (counted_at rs i))
      (won_from (winners_in ts) (claimed_by declarer claim left) (side_of (counted_at rs i).seat) (counted_at rs i).trick)
  unfolding total_from dues total earlier
  total_at i h = rw (next-revoke rs all free i h)

  -- the same for the revoke before a place: s and w are what was counted so far and what is to be had
  pub total-before : (i due won sum : ℕ) → 0 < i → i ≤ min rs.count 48
      → sum ≡ total_from i rs ts declarer claim left
      → due ≡ entitlement (partner_of declarer) (winners_in ts) (earlier (i - 1) rs.list rs.excused) (counted_at rs (i - 1))
      → won
      ≡ won_from (winners_in ts) (claimed_by declarer claim left)
      (side_of (counted_at rs (i - 1)).seat) (counted_at rs (i - 1)).trick
      → min (sum + due) won ≡ total_from (i - 1) rs ts declarer claim left
  total-before zero due won sum h k es ed ew = absurd (omega arith)
  total-before (suc j) due won sum h k es ed ew =
      let e : suc j - 1 ≡ j = omega arith in
      let fd = rw e at ed in
      let fw = rw e at ew in
      rw (e, es, fd, fw) (sym (total_at j (omega arith)))

-- ---- bounds
pub won_bound : (ts : Tricks) → length ts.answers ≡ 13 → (side k : ℕ) → tricks_won side (drop k (winners_in ts)) ≤ 13
unfolding tricks_won winners_in
won_bound ts n side k =
    let seats = seats_of ts.answers in
    let l = take ts.count seats in
    let many = many-le (λ seat. eqb (side_of seat) side) (drop k l) in
    omega (arith, many, length-drop k l, length-take ts.count seats, length-map ts.answers (λ (w : Won). w.seat))

pub claimed_bound : (declarer claim left side : ℕ) → claimed_by declarer claim left side ≤ claim + left
unfolding claimed_by claimed_tricks
claimed_bound declarer claim left side =
    by_test (eqb side (side_of declarer))
    (λ (q : eqb side (side_of declarer) ≡ true). rw q (omega arith))
    (λ (q : eqb side (side_of declarer) ≡ false). rw q (omega arith))

pub dummy_is : (declarer : ℕ) → (declarer % 4 + 2) % 4 ≡ partner_of declarer
unfolding clockwise
dummy_is declarer = omega arith

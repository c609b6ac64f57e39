-- `transfer::entitled` meets its contract: a test for each exception, then who won the trick. Assumes nothing.
use Rattle.std.proofs.Common.{◌/◌, ◌%◌}
use Rattle.std.specs.Option.{unwrap_or}
use lib.Dec.{eqb}
use native.Mathlib.Omega.{arith}
use mathlib.Core.Path.{ap, sym, ◌∙◌}
use mathlib.Core.Bool.{true, false}
use lib.ListN.{get_or}
use borrow.Author.Tests.{eq-eqb, ne_eqb}
use Rattle.transfer.proofs.Counting.{by_dummy, by_trick, by_repeat, by_excuse, without_any}
use Rattle.transfer.proofs.entitled.Goals as goal

pub returns-then-seat-dummy : goal.returns-then-seat-dummy
returns-then-seat-dummy c = by_dummy _ _ _ _ (eq-eqb _ _ c.if-seat-dummy.true)

pub returns-then-byte-eq12 : goal.returns-then-byte-eq12
returns-then-byte-eq12 c = by_trick _ _ _ _ (eq-eqb _ _ c.if-byte-eq12.true)

pub returns-then-is_repeat : goal.returns-then-is_repeat
returns-then-is_repeat c =
    let a = c.args in
    by_repeat _ _ _ _ (sym (c.is_repeat.ensures _ (get_or a.rs.excused a.i 0)) ∙ c.if-is_repeat.true)

pub returns-then-rs-i-eq1 : goal.returns-then-rs-i-eq1
returns-then-rs-i-eq1 c = by_excuse _ _ _ _ (eq-eqb _ _ c.if-rs-i-eq1.true)

-- none of the exceptions
pub returns-in_default : goal.returns-in_default
returns-in_default c =
    let a = c.args in
    let once = sym (c.is_repeat.ensures _ (get_or a.rs.excused a.i 0)) ∙ c.if-is_repeat.false in
    let nobody = sym c.winner_of.ensures ∙ ap (λ w. unwrap_or w 4) c.in_default.is in
    let other = ap (λ w. eqb w (get_or a.rs.list a.i 0 / 4 % 4)) nobody ∙ ne_eqb 4 _ (λ w. omega arith) in
    without_any _ _ _ _ (ne_eqb _ _ c.if-seat-dummy.false) (ne_eqb _ _ c.if-byte-eq12.false) once (ne_eqb _ _ c.if-rs-i-eq1.false) false other

pub returns-then-winner-seat : goal.returns-then-winner-seat
returns-then-winner-seat c =
    let a = c.args in
    let once = sym (c.is_repeat.ensures _ (get_or a.rs.excused a.i 0)) ∙ c.if-is_repeat.false in
    let won = sym c.winner_of.ensures ∙ ap (λ w. unwrap_or w 4) c.in-Some.is in
    let own = eq-eqb _ _ (won ∙ c.if-winner-seat.true) in
    without_any _ _ _ _ (ne_eqb _ _ c.if-seat-dummy.false) (ne_eqb _ _ c.if-byte-eq12.false) once (ne_eqb _ _ c.if-rs-i-eq1.false) true own

pub returns-else-winner-seat : goal.returns-else-winner-seat
returns-else-winner-seat c =
    let a = c.args in
    let once = sym (c.is_repeat.ensures _ (get_or a.rs.excused a.i 0)) ∙ c.if-is_repeat.false in
    let won = sym c.winner_of.ensures ∙ ap (λ w. unwrap_or w 4) c.in-Some.is in
    let other = ne_eqb _ _ (λ w. c.if-winner-seat.false (sym won ∙ w)) in
    without_any _ _ _ _ (ne_eqb _ _ c.if-seat-dummy.false) (ne_eqb _ _ c.if-byte-eq12.false) once (ne_eqb _ _ c.if-rs-i-eq1.false) false other

-- `merging::joined` meets its contract. The loop's invariant: the first `k` entries of the whole are written, the others are still in the two
-- tallies from `i` and `j` on, and `x` and `y` are the entries there. Assumes nothing.
use native.Mathlib.Omega.{arith}
use mathlib.Core.Path.{◌∙◌}
use mir.Facts.{to_z-of_z}
use Rattle.merging.proofs.Reached.{begins, first_end, second_end, fits, ends, goes, full, one_each, next-entry}
use Rattle.merging.proofs.joined.Goals as goal

pub entry_at-x-requires : goal.entry_at-x-requires
entry_at-x-requires c = first_end _ _ _ _ _ _ _ _ _ (begins _ _ _ _ _ c.requires)

pub entry_at-y-requires : goal.entry_at-y-requires
entry_at-y-requires c = second_end _ _ _ _ _ _ _ _ _ (begins _ _ _ _ _ c.requires)

pub loop-k-init : goal.loop-k-init
loop-k-init c = (
  begins _ _ _ _ _ c.requires,
  c.entry_at-x.ensures,
  c.entry_at-y.ensures,
)

pub overflow_add-i : goal.overflow_add-i
overflow_add-i c =
    let l = c.loop-k in
    omega (arith, l.invariant.0.of-first, l.invariant.0.places)

pub entry_at-p-requires : goal.entry_at-p-requires
entry_at-p-requires c = first_end _ _ _ _ _ _ _ _ _ c.loop-k.invariant.0

pub overflow_add-j : goal.overflow_add-j
overflow_add-j c =
    let l = c.loop-k in
    omega (arith, l.invariant.0.of-second, l.invariant.0.places)

pub entry_at-q-requires : goal.entry_at-q-requires
entry_at-q-requires c = second_end _ _ _ _ _ _ _ _ _ c.loop-k.invariant.0

pub higher-e-requires : goal.higher-e-requires
higher-e-requires c =
    let l = c.loop-k in
    fits _ _ _ _ _ _ _ _ _ l.invariant.0 _ _ l.invariant.1 l.invariant.2

pub returns-then-e-eq0 : goal.returns-then-e-eq0
returns-then-e-eq0 c =
    let l = c.loop-k in
    ends _ _ _ _ _ _ _ _ _ l.invariant.0 _ _ l.invariant.1 l.invariant.2 _ c.higher-e.ensures c.if-e-eq0.true

pub overflow_add-i-in-loop-k : goal.overflow_add-i-in-loop-k
overflow_add-i-in-loop-k c =
    let l = c.loop-k in
    omega (
      arith,
      (let l = c.loop-k in
          one_each _ _ _ _ _ _ _ _ _ l.invariant.0 _ _ l.invariant.1 l.invariant.2 _ c.higher-e.ensures).0,
      l.invariant.0.of-first,
      l.invariant.0.places,
    )

pub overflow_add-j-in-loop-k : goal.overflow_add-j-in-loop-k
overflow_add-j-in-loop-k c =
    let l = c.loop-k in
    omega (
      arith,
      (let l = c.loop-k in
          one_each _ _ _ _ _ _ _ _ _ l.invariant.0 _ _ l.invariant.1 l.invariant.2 _ c.higher-e.ensures).1,
      l.invariant.0.of-second,
      l.invariant.0.places,
    )

pub loop-k-preserved : goal.loop-k-preserved
loop-k-preserved c =
    let l = c.loop-k in
    let turn = goes _ _ _ _ _ _ _ _ _ l.invariant.0 _ _ l.invariant.1 l.invariant.2 _ c.higher-e.ensures c.if-e-eq0.false
    c.loop-k-test.true in (
      rw (to_z-of_z (record { sfits = c.struct_told-1.given.0.1 })) turn,
      c.next_of-x.ensures ∙ next-entry _ _ _ _ _ _ _ (let l = c.loop-k in
          one_each _ _ _ _ _ _ _ _ _ l.invariant.0 _ _ l.invariant.1 l.invariant.2 _ c.higher-e.ensures).0 l.invariant.1 c.entry_at-p.ensures,
      c.next_of-y.ensures ∙ next-entry _ _ _ _ _ _ _ (let l = c.loop-k in
          one_each _ _ _ _ _ _ _ _ _ l.invariant.0 _ _ l.invariant.1 l.invariant.2 _ c.higher-e.ensures).1 l.invariant.2 c.entry_at-q.ensures,
    )

pub returns : goal.returns
returns c = full _ _ _ _ _ _ _ _ _ c.loop-k.invariant.0 c.loop-k-test.false

-- `settle` meets its contract: each number is what its call ensures. Assumes nothing.
use Rattle.laws.specs.Judgement.{twos_complement}
use mathlib.Core.Path.{ap, ◌∙◌}
use native.Mathlib.Omega.{arith}
use Rattle.transfer.specs.Inputs.{revokes_in}
use Rattle.judgement.proofs.Settling.{after-le, settled, read_small, ns_told, ns_small}
use Rattle.judgement.proofs.settle.settle.Goals as goal

pub declarer_score-requires : goal.declarer_score-requires
declarer_score-requires c =
    omega (
      arith,
      c.tricks_after-after.ensures,
      after-le c.args.k.declarer
          (revokes_in c.args.rs) c.won-taken.result
          c.transferred-moved.result,
      c.won-taken.type_inv,
      c.transferred-moved.type_inv,
    )

pub score_word-word-requires : goal.score_word-word-requires
score_word-word-requires c =
    let small = ns_small c.args.k.declarer c.declarer_score.result c.declarer_score.ensures.1 c.ns_score-score.ensures in
    rw (read_small c.ns_score-score.result small) small

pub contract_bits-requires : goal.contract_bits-requires
contract_bits-requires c = (
  omega (
    arith,
    c.tricks_after-after.ensures,
    after-le
        c.args.k.declarer
        (revokes_in c.args.rs)
        c.won-taken.result
        c.transferred-moved.result,
    c.won-taken.type_inv,
    c.transferred-moved.type_inv,
  ),
  c.score_word-word.ensures.1,
)

pub overflow_add-result : goal.overflow_add-result
overflow_add-result c = record { fits = omega (arith, c.heading_bits.ensures.1, c.contract_bits.ensures.1) }

pub returns : goal.returns
returns c =
    let a = c.args in
    let d = c.declarer_score in
    let s = c.ns_score-score in
    let small = ns_small a.k.declarer d.result d.ensures.1 s.ensures in
    settled a.board a.table a.k a.ts a.rs a.claim a.left _ _ _ _ _ _ _ _ _
    c.won-taken.ensures
    c.transferred-moved.ensures
    c.tricks_after-after.ensures c.vulnerable.ensures
    d.ensures.0 (ns_told a.k.declarer d.result d.ensures.1 s.ensures)
    (c.score_word-word.ensures.0 ∙ ap twos_complement (read_small s.result small)) c.heading_bits.ensures.0
    c.contract_bits.ensures.0

-- `parts::part_end` meets its contract. Assumes nothing.
use Rattle.std.proofs.Common.{ℕ, ◌-◌, take, drop, length, arith, rules, ap}
use borrow.Author.Tests.{tests}
use lib.Dec.{eqb}
use Rattle.std.proofs.lemmas.Iterator.{YieldsList-from_slice}
use Rattle.std.proofs.lemmas.Iterator.Search.{position_from_yields_List}
use Rattle.parts.proofs.PartsOf.{place_or_end, behind_end}
use Rattle.parts.proofs.PartsOf.{rest-is}
use Rattle.parts.specs.Parts.{part_length}
use Rattle.parts.proofs.part_end.Goals as goal

pub returns-then-bytes-at : goal.returns-then-bytes-at
returns-then-bytes-at c = omega (arith, behind_end c.args.byte c.args.bytes.now c.args.at (omega arith))

pub returns : goal.returns
returns c =
    let rest = take (length c.args.bytes.now - c.args.at) (drop c.args.at c.args.bytes.now) in
    let first = position_from_yields_List (λ (b : ℕ). eqb b c.args.byte) _ _ c.position.result c.position.ensures.ran
    (YieldsList-from_slice _ c.iter.ensures.rest) (λ x b q k. search (rules, tests)) in
    let found = place_or_end c.args.byte rest first c.unwrap_or.ensures in
    omega (arith, found, ap (part_length c.args.byte) (rest-is c.args.bytes.now c.args.at))

-- `code_bits` meets its contract. Assumes nothing.
use native.Mathlib.Omega.{arith}
use borrow.Author.Tests.{eq-eqb, ne_eqb}
use Rattle.writer.proofs.write.code_bits.Goals as goal

pub returns-then-code-eq52 : goal.returns-then-code-eq52
returns-then-code-eq52 c = record { value = rw (eq-eqb _ _ c.if-code-eq52.true); most = omega arith }

pub returns-else-code-eq52 : goal.returns-else-code-eq52
returns-else-code-eq52 c = record { value = rw (ne_eqb _ _ c.if-code-eq52.false); most = omega arith }

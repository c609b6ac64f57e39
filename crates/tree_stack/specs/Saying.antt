-- What a call on a stack answers, in numbers. Assumes nothing.
use Rattle.std.specs.Prelude.{ℕ}
use Rattle.laws.specs.Refused.{number}
use Rattle.tree_stack.specs.declared.Stack.{Stack}
use Rattle.tree_stack.specs.declared.Said.{Said}
use Rattle.tree_stack.specs.declared.Said.TheVariants.{Done, Refused, Points, Played, Awarded, Alone, Stopped}
use Rattle.tree_stack.specs.declared.Step.{Step}

-- that it is done, a refusal's number and place, the matchpoints of both sides, a cell with the 64 bits of its float; or that the run ends there
pub data Saying : Type 0 where
  done : Saying
  refused : ℕ → ℕ → Saying
  points : ℕ → ℕ → Saying
  played : ℕ → Saying
  awarded : ℕ → Saying
  alone : Saying
  ended : Saying

-- the stack after a call, and what the call answers
pub record Stepped : Type 0 where
  pub stack : Stack
  pub said : Saying

-- what an answer of the code says
abbrev pub saying : Said → Saying
saying Done = done
saying (Refused e) = refused (number e.refusal) e.place
saying (Points ns ew) = points ns ew
saying (Played bits) = played bits
saying (Awarded bits) = awarded bits
saying Alone = alone
saying Stopped = ended

abbrev pub stepped : Step → Stepped
stepped s = record { stack = s.stack; said = saying s.said }

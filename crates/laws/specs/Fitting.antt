-- A value where it fits what is to hold it: a sum in its type, a text in lent bytes.
-- Assumes nothing.
use Rattle.std.specs.Prelude.{Bool, if◌then◌else◌}

pub data Fitting (A : Type 0) : Type 0 where
  fits : A → Fitting A
  does_not_fit : Fitting A

-- the value where the test holds, else that it does not fit
abbrev pub where_fits : {A : Type 0} → Bool → A → Fitting A
where_fits test value = if test then fits value else does_not_fit

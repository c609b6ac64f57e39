-- What bounds the count of Law 64: the first revoke that is rectified, and revokes that are not.
-- Assumes nothing.
use Rattle.std.specs.Prelude.{ℕ, ◌≡◌, true, List, [], ◌∷◌, eqb, if◌then◌else◌}
use Rattle.laws.specs.LeadRevoke.{Counted}
use Rattle.laws.specs.Law64.{Due, is_exempt}

-- the tricks that the offending side won from its first rectified revoke on; 0 where none is rectified
unfoldable pub won_from_first : List Due → ℕ
won_from_first [] = 0
won_from_first (d ∷ ds) = if eqb d.tricks 0 then won_from_first ds else d.available

-- every revoke of a list, after those before it, is exempt: dummy's, on trick 12, a repeat, or excused
unfoldable pub AllExempt : ℕ → List Counted → List Counted → Type 0
AllExempt dummy before [] = Unit {0}
AllExempt dummy before (r ∷ rs) = (is_exempt dummy before r ≡ true) × AllExempt dummy (r ∷ before) rs

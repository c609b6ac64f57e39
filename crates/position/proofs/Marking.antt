-- What the code marks of a card is what its definition says: a law over variables. Assumes nothing.
use Rattle.std.specs.Prelude.{Some, None, is_some, if◌then◌else◌}
use Prim.Native.Nat.{ℕ, ◌+◌, ◌%◌}
use mathlib.Core.Path.{◌≡◌, refl}
use mathlib.Core.Bool.{Bool, true, false, not}
use mathlib.Core.List.{List}
use native.Mathlib.Omega.{arith}
use lib.ListN.{get_or}
use Rattle.laws.specs.Cards.{clockwise, partner_of}
use Rattle.play.specs.Position.{leads}
use Rattle.penalty.specs.declared.Turn.{Turn}
use Rattle.penalty.specs.Position.{obeys_in, excused_in, fails_in}
use Rattle.found.specs.declared.found.Found.{Found}
use Rattle.position.specs.declared.table.Table.{Table}
use Rattle.found.specs.Found.{with_revoke, with_lead, with_failure}
use Rattle.position.specs.Table.{turn_in, entry_in, revokes_in, found_of, found_after}

-- a turn without a suit led is a lead
leads_none : (first lead : Bool) (suit : ℕ) → is_some (if first then None else Some suit) ≡ not lead → lead ≡ first
leads_none true true suit e = refl
leads_none true false suit e = e
leads_none false true suit e = e
leads_none false false suit e = refl

-- what is found of a card, where it is against Law 50 and where it is not
module _ (t : Table) (card : ℕ) (lead : Bool) {turn : Turn} {obeys excused fails : Bool} {revoked led : Found} (et : turn ≡ turn_in t)
    (eo : obeys ≡ obeys_in t.penalty turn card) (ex : excused ≡ excused_in t.penalty turn) (en : is_some turn.led ≡ not lead)
    (er : revoked ≡ with_revoke t.found lead (not obeys) excused) (el : led ≡ with_lead revoked lead (not obeys) t.penalty.required)
    (ef : fails ≡ fails_in t.penalty turn card) where
  found_so_far : led ≡ found_of t card
  unfolding found_of revokes_in turn_in
  found_so_far = rw (el, er, eo, ex, leads_none (leads t.play) lead t.play.led (rw et at en), et) refl

  pub found_failure : fails ≡ true → {entry : ℕ} {more : Found} → entry ≡ entry_in t card → more ≡ with_failure led entry → more ≡ found_after t card
  unfolding found_after
  found_failure f ee em = rw (em, ee, found_so_far, ← et, ← ef, f)

  pub found_none : fails ≡ false → led ≡ found_after t card
  unfolding found_after
  found_none f = rw (found_so_far, ← et, ← ef, f)

-- the partner of a seat that is told by a remainder
pub partner_at : (dealt : List ℕ) (seat : ℕ) → get_or dealt ((seat % 4 + 2) % 4) 0 ≡ get_or dealt (partner_of seat) 0
unfolding clockwise
partner_at dealt seat = let same : (seat % 4 + 2) % 4 ≡ (seat + 2) % 4 = omega arith in rw same

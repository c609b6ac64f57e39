-- The fields of a flat list of plays without a code: a row of six bits each. Assumes nothing.
use Prim.Native.Nat.{ℕ, ◌*◌}
use mathlib.Core.Path.{◌≡◌, refl, sym, ap, ◌∙◌}
use mathlib.Core.Bool.{false}
use mathlib.Core.List.{List, [], ◌∷◌, map}
use lib.ListN.{length}
use Rattle.laws.specs.Choice.{some}
use Rattle.laws.specs.Events.{played, begins_code}
use Rattle.laws.specs.FlatPlay.{event, events_among}
use Rattle.laws.specs.Record.{Field, field, row, bits, event_fields, play_fields}
use Rattle.laws.proofs.Lengths.{bits-row}
use Rattle.laws.proofs.FlatPlay.{items-alone}
use Rattle.writer.specs.Fields.{fields_of}

fields-all : (l : List ℕ) → play_fields (events_among (map (λ (c : ℕ). event (played c)) l)) ≡ row 6 l
unfolding play_fields events_among event_fields row
fields-all [] = refl
fields-all (c ∷ l) = ap (λ (m : List Field). field 6 c ∷ m) (fields-all l)

pub fields-alone : (l : List ℕ) → some begins_code l ≡ false → row 6 l ≡ fields_of l
unfolding fields_of
fields-alone l e = rw (items-alone l e) (sym (fields-all l))

pub bits-alone : (l : List ℕ) → some begins_code l ≡ false → 6 * length l ≡ bits (fields_of l)
bits-alone l e = sym (bits-row 6 l) ∙ ap bits (fields-alone l e)

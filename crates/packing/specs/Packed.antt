-- What a packer and the buffer that it is lent are after a field, after several, and at the end, for every packer, every field and every buffer.
-- Assumes nothing.
use Rattle.std.specs.Prelude.{ℕ, ◌+◌, ◌-◌, ◌*◌, ◌/◌, ◌%◌, ◌^◌, min, List, [], ◌∷◌, leb, length, if◌then◌else◌}
use Rattle.std.proofs.lemmas.List.Edits.{sets}
use Rattle.laws.specs.Record.{Field, bytes_of, padding}
use Rattle.packing.specs.declared.Packer.{Packer}

-- nothing is stored, and no bit waits
abbrev pub new_packer : Packer
new_packer = record { at = 0; pending = 0; count = 0 }

-- how many bits wait once a field is put. A count of waiting bits is taken modulo 8
unfoldable pub waiting : Packer → Field → ℕ
waiting p f = p.count % 8 + f.width

-- these bits as a number: of the field's value, its last bits alone, as many as the field is wide
unfoldable pub joined : Packer → Field → ℕ
joined p f = p.pending * 2 ^ f.width + f.value % 2 ^ f.width

-- the packer after a field, in a buffer of so many bytes: it counts the bytes for which there is room, and the bits that fill no byte wait.
-- A field wider than 16 bits changes nothing
unfoldable pub packer_after : ℕ → Packer → Field → Packer
packer_after room p f =
    if leb f.width 16
    then record {
      at = p.at + min (waiting p f / 8) (room - p.at);
      pending = joined p f % 2 ^ (waiting p f % 8);
      count = waiting p f % 8;
    }
    else p

-- the buffer after a field: the whole bytes from the packer's place on. A byte that the buffer has no place for is not stored
unfoldable pub bytes_after : Packer → Field → List ℕ → List ℕ
bytes_after p f out =
    if leb f.width 16
    then sets out p.at (bytes_of (waiting p f / 8) (joined p f / 2 ^ (waiting p f % 8)))
    else out

-- after several fields, put one after the other
unfoldable pub packer_after_all : ℕ → Packer → List Field → Packer
packer_after_all room p [] = p
packer_after_all room p (f ∷ fs) = packer_after_all room (packer_after room p f) fs

unfoldable pub bytes_after_all : Packer → List Field → List ℕ → List ℕ
bytes_after_all p [] out = out
bytes_after_all p (f ∷ fs) out = bytes_after_all (packer_after (length out) p f) fs (bytes_after p f out)

-- the last byte filled up with zero bits
unfoldable pub bytes_finished : Packer → List ℕ → List ℕ
bytes_finished p out = bytes_after p (padding p.count) out

-- fields put from a new packer on, and the last byte filled up
unfoldable pub bytes_packed : List Field → List ℕ → List ℕ
bytes_packed fs out = bytes_finished (packer_after_all (length out) new_packer fs) (bytes_after_all new_packer fs out)

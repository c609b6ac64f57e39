-- The revokes that a position lists, and which of them are excused.
-- Assumes nothing.
use Rattle.std.specs.Prelude.{ℕ, ◌+◌, ◌-◌, ◌*◌, ◌/◌, ◌%◌, ◌^◌, ◌&&◌, List, [], eqb, leb, ltb, length, if◌then◌else◌}
use Rattle.std.specs.Int.Bits.{bit_or}
use Rattle.laws.specs.Padded.{padded}
use Rattle.play.specs.Told.{card_before, entries_in, byte_after, bytes_in}
use Rattle.position.specs.declared.table.Table.{Table}
use Rattle.position.specs.declared.listed.Listed.{Listed}

-- what is told of the lead to the trick of a card: three bits, those of later leads taken away
unfoldable pub told_of : ℕ → ℕ → ℕ → ℕ
told_of played named card = named / 2 ^ (3 * (((played % 64 + 3) / 4 + 15 - card / 4) % 16)) % 8

-- the byte of a revoke at the card with so many cards after it: with the suit required, where it is a lead against a requirement
unfoldable pub listed_byte : ℕ → ℕ → ℕ → ℕ → ℕ
listed_byte entries played named later =
    if eqb (card_before played later % 4) 0 && leb 4 (told_of played named (card_before played later))
    then byte_after entries played later / 4 * 4 + told_of played named (card_before played later) % 4
    else byte_after entries played later

-- the bit of a card with so many cards after it
unfoldable pub flag_at : ℕ → ℕ → ℕ
flag_at word later = word / 2 ^ (later % 64) % 2

-- a bit for each card, the last lowest: 1 for a revoke
unfoldable pub bits_in : Table → ℕ
bits_in t = bit_or t.play.revoked t.found.leads

-- the bytes of the revokes, in order of play, and 1 for each that is excused
unfoldable pub listed_in : Table → List ℕ
listed_in t = bytes_in (listed_byte (entries_in t.play) t.play.played t.found.named) 64 (bits_in t) 0

unfoldable pub free_in : Table → List ℕ
free_in t = bytes_in (flag_at t.found.excused) 64 (bits_in t) 0

-- revokes with these bytes, in 48 places
abbrev pub listed_of : List ℕ → List ℕ → Listed
listed_of bytes free = record { count = length bytes; list = padded 0 48 bytes; excused = padded 0 48 free }

-- the revokes; more than 48 do not occur in a play, and tell none
unfoldable pub revokes_in : Table → Listed
revokes_in t = if ltb 48 (length (listed_in t)) then listed_of [] [] else listed_of (listed_in t) (free_in t)

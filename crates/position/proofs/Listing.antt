-- The loop that lists the revokes: its ways out, and one more of both lists. Assumes nothing.
use Prim.Native.Nat.{ℕ, ◌≤◌, ◌<◌, ◌^◌}
use mathlib.Core.Path.{◌≡◌}
use mathlib.Core.List.{List}
use borrow.Author.Tests.{lt-ltb, le-ltb}
use lib.Count.{ones}
use lib.ListN.{replicate}
use Rattle.laws.specs.Padded.{padded}
use Rattle.play.specs.Told.{entries_in, bytes_in}
use Rattle.play.proofs.Filling.{bytes-many}
use Rattle.position.specs.declared.table.Table.{Table}
use Rattle.position.specs.declared.listed.Listed.{Listed}
use Rattle.position.specs.Listed.{listed_byte, flag_at, bits_in, listed_in, free_in, revokes_in}

pub too_many : (t : Table) → bits_in t < 2 ^ 64 → 48 < ones (bits_in t)
    → ◌≡◌ {A = Listed} (record { count = 0; list = replicate 48 0; excused = replicate 48 0 }) (revokes_in t)
unfolding revokes_in listed_in padded
too_many t b h =
    let many = bytes-many (listed_byte (entries_in t.play) t.play.played t.found.named) 64 (bits_in t) 0 b in
    rw (many, lt-ltb 48 (ones (bits_in t)) h)

pub as_listed : (t : Table) {entries n : ℕ} {list free : List ℕ} → bits_in t < 2 ^ 64 → n ≤ 48 → n ≡ ones (bits_in t) → entries ≡ entries_in t.play
    → list ≡ padded 0 48 (bytes_in (listed_byte entries t.play.played t.found.named) 64 (bits_in t) 0)
    → free ≡ padded 0 48 (bytes_in (flag_at t.found.excused) 64 (bits_in t) 0)
    → ◌≡◌ {A = Listed} (record { count = n; list = list; excused = free }) (revokes_in t)
unfolding revokes_in listed_in free_in
as_listed t {entries} {n} {list} {free} b h e q l f =
    let many = bytes-many (listed_byte (entries_in t.play) t.play.played t.found.named) 64 (bits_in t) 0 b in
    rw (many, ← e, le-ltb 48 n h, l, f, q)

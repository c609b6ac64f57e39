-- What is read in two steps is what the first step read and then what the second did. Assumes nothing.
use Rattle.std.proofs.Common.{◌≡◌, ℕ, ◌+◌, ◌≤◌, List, ◌++◌, length, take, ap, ap₂, ◌∙◌, append_assoc, le_refl, length-take-le, drop_at}
use Rattle.std.specs.Prelude.{Option, None, Some}
use Rattle.std.specs.Io.KnownBytes.{Consumes}
use Rattle.std.proofs.Math.Seq.{take-add, take-append-le}
use Rattle.std.proofs.lemmas.Slice.{take-put_mid_below}
use borrow.Rule.Slice.PartMut.{put_mid, post_of}

-- a reader that gave p, and then q, gave both
pub both_read : (a b c : Option (List ℕ)) (p q : List ℕ) → Consumes a b p → Consumes b c q → Consumes a c (p ++ q)
both_read None b c p q e f = tt
both_read (Some xs) None c p q e f = absurd e
both_read (Some xs) (Some ys) None p q e f = absurd f
both_read (Some xs) (Some ys) (Some zs) p q e f = e ∙ ap (λ (l : List ℕ). p ++ l) f ∙ rw append_assoc

-- the front of a list with a part put behind its first n: these, and then the part's front
pub front_put : (n k m : ℕ) (xs part : List ℕ) → n ≤ length xs → m ≤ length part → take (n + m) (put_mid n k xs part) ≡ take n xs ++ take m part
front_put n k m xs part within fits =
    take-add n m (put_mid n k xs part)
    ∙ ap₂ ◌++◌ (take-put_mid_below n k xs part n (le_refl n) within)
    (ap (take m) (drop_at (take n xs) (part ++ post_of n k xs) n (length-take-le n xs within)) ∙ take-append-le m part (post_of n k xs) fits)

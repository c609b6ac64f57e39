-- Whether some number of a flat list begins a code, looked for number by number. Assumes nothing.
use Rattle.std.proofs.Common.{◌≡◌, refl, sym, ap, ◌∙◌, ℕ, ◌+◌, ◌<◌, Bool, true, false, ◌||◌, List, [], ◌∷◌, ◌++◌, length, get_or, take, add-one}
use lib.Seq.{take-suc}
use Rattle.laws.specs.Choice.{some}
use Rattle.laws.specs.Events.{begins_code}

some-last : (test : ℕ → Bool) (l : List ℕ) (x : ℕ) → some test (l ++ (x ∷ [])) ≡ (some test l || test x)
unfolding some
some-last test [] x = or_none (test x)
  where
    or_none : (b : Bool) → (b || false) ≡ b
    or_none true = refl
    or_none false = refl
some-last test (y ∷ l) x = ap (λ (b : Bool). test y || b) (some-last test l x) ∙ sym (or_assoc (test y) (some test l) (test x))
  where
    or_assoc : (a b c : Bool) → ((a || b) || c) ≡ (a || (b || c))
    or_assoc true b c = refl
    or_assoc false b c = refl

-- a turn of the loop that looks for a code
pub seen_more : (l : List ℕ) (i : ℕ) → i < length l → some begins_code (take (i + 1) l) ≡ (some begins_code (take i l) || begins_code (get_or l i 0))
seen_more l i h = rw (add-one i, take-suc l i 0 h) (some-last begins_code (take i l) (get_or l i 0))

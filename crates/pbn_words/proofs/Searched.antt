-- A number looked for from above, by `find` over a range's reverse. Assumes nothing.
use Rattle.std.specs.Prelude.{Option, Some, None}
use Rattle.std.specs.declared.ops.Range.{Range}
use Rattle.std.specs.declared.iter.Rev.{Rev}
use Prim.Native.Nat.{ℕ, zero, suc, ◌+◌, ◌-◌, ◌<◌}
use native.Mathlib.Nat.{zero-add}
use native.Mathlib.Omega.{arith}
use mathlib.Core.Path.{◌≡◌, refl, ap}
use mathlib.Core.Bool.{true, false}
use mathlib.Core.List.{List, [], ◌∷◌}
use lib.ListN.{length}
use Rattle.std.specs.List.{find}
use Rattle.std.specs.Option.{MatchOption}
use Rattle.std.specs.Iterator.Adapters.{rev_source, rev_steps}
use Rattle.std.proofs.lemmas.Iterator.{YieldsList}
use Rattle.std.proofs.lemmas.Iterator.Consumers.{YieldsList-from_shown}
use Rattle.laws.specs.PbnReading.{same_bytes, number_of}
use Rattle.laws.proofs.Tests.{by_test}
use Rattle.pbn_words.specs.WordNumbers.{if_read}

-- n numbers from a on, the highest first
abbrev pub down : ℕ → ℕ → List ℕ
down a zero = []
down a (suc n) = (a + n) ∷ down a n

-- a step of a range from its end
abbrev pub back : Range ℕ → Option ℕ → Range ℕ → Type 0
back s r t =
    (t.start ≡ s.start)
    × MatchOption r ((s.end - s.start ≡ 0) × (t.end ≡ s.end)) (λ x. (0 < s.end - s.start) × (x ≡ t.end) × (s.end ≡ t.end + 1))

abbrev pub left : Range ℕ → List ℕ
left s = down s.start (s.end - s.start)

at_end : (s t : Range ℕ) → back s None t → length (left s) ≡ 0
at_end s t e = rw e.1.0 refl

goes-on : (s : Range ℕ) (x : ℕ) (t : Range ℕ) → back s (Some x) t → left s ≡ x ∷ left t
goes-on s x t e =
    let more : s.end - s.start ≡ suc (t.end - t.start) = omega (arith, e.0, e.1.0, e.1.2) in
    let here : s.start + (t.end - t.start) ≡ x = omega (arith, e.0, e.1.0, e.1.1, e.1.2) in
    rw (more, here, e.0) refl

-- a range from 0 reversed gives the numbers below its end, the highest first
pub counted_down : (s : Rev (Range ℕ)) (n : ℕ) → rev_source s ≡ record { start = 0; end = n } → YieldsList (rev_steps back) (λ x. x) s (down 0 n)
counted_down s n e =
    let whole : n - 0 ≡ n = omega arith in
    let all : left (rev_source s) ≡ down 0 n = rw e (ap (down 0) whole) in
    rw (← all) (YieldsList-from_shown (rev_steps back) (λ x. x) (λ r. left (rev_source r)) (λ r t h. at_end (rev_source r) (rev_source t) h)
    (λ r x t h. goes-on (rev_source r) x (rev_source t) h) s)

-- the first of them whose word it is
pub searched : (word_of : ℕ → List ℕ) (word : List ℕ) (n : ℕ)
    → find (λ (k : ℕ). same_bytes (word_of k) word) (down 0 n) ≡ if_read (number_of word_of n word)
unfolding number_of
searched word_of word zero = refl
searched word_of word (suc n) =
    by_test (same_bytes (word_of n) word)
    (λ (q : same_bytes (word_of n) word ≡ true). rw (zero-add, q) refl)
    (λ (q : same_bytes (word_of n) word ≡ false). rw (zero-add, q) (searched word_of word n))

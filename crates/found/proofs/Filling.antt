-- The loop that fills in the bytes of the plays against Law 50, from the last play on. Assumes nothing.
use Prim.Native.Nat.{ℕ, zero, suc, ◌≤◌, ◌<◌, ◌+◌, ◌-◌, ◌*◌, ◌/◌, ◌%◌}
use mathlib.Core.Path.{◌≡◌, refl, sym, ◌∙◌}
use mathlib.Core.List.{List, [], ◌∷◌, ◌++◌, append_assoc}
use native.Mathlib.Omega.{arith}
use lib.ListN.{length, set, drop, replicate, length-append, length-set}
use Rattle.laws.specs.Padded.{padded}
use Rattle.play.proofs.Filling.{padded-rest, drop-set}
use Rattle.found.specs.declared.found.Found.{Found}
use Rattle.found.specs.Told.{popped, lowest_of, pairs_in, failure_bytes_in}

pub pairs-many : (n : ℕ) (words : List ℕ) → length (pairs_in n words) ≡ 2 * n
unfolding pairs_in
pairs-many zero words = refl
pairs-many (suc n) words = length-append (pairs_in n (popped words)) _ ∙ omega (arith, pairs-many n (popped words))

-- i plays are still to be filled in, by `words`
pub record Filled (count : ℕ) (all bytes words : List ℕ) (i : ℕ) : Type 0 where
  pub few : i ≤ count
  pub most : count ≤ 26
  pub places : length bytes ≡ 52
  pub same : pairs_in i words ++ drop (2 * i) bytes ≡ padded 0 52 (pairs_in count all)

pub fill_begins : {count : ℕ} {words : List ℕ} → count ≤ 26 → Filled count words (replicate 52 0) words count
fill_begins {count} {words} h =
    let n = pairs-many count words in
    record { few = omega arith; most = h; places = refl; same = rw n at (padded-rest 0 52 (pairs_in count words) (omega arith)) }

-- two places more, before those that are filled
two-more : (before bytes : List ℕ) (k high low : ℕ) → suc k < length bytes
    → (before ++ (high ∷ low ∷ [])) ++ drop (suc (suc k)) bytes ≡ before ++ drop k (set (set bytes (k + 1) low) k high)
two-more before bytes k high low h =
    let next : k + 1 ≡ suc k = omega arith in
    let inner = set bytes (suc k) low in
    let second : drop (suc k) inner ≡ low ∷ drop (suc (suc k)) bytes = drop-set bytes (suc k) low h in
    let first : drop k (set inner k high) ≡ high ∷ drop (suc k) inner = drop-set inner k high (omega (arith, length-set bytes (suc k) low)) in
    append_assoc before (high ∷ low ∷ []) (drop (suc (suc k)) bytes) ∙ rw (next, first, second)

fill_one : {count : ℕ} {all bytes words : List ℕ} (i : ℕ) {high low : ℕ} → Filled count all bytes words (suc i)
    → high ≡ lowest_of words / 16 → low ≡ lowest_of words % 16 * 16
    → Filled count all (set (set bytes (2 * i + 1) low) (2 * i) high) (popped words) i
unfolding pairs_in
fill_one {count} {all} {bytes} {words} i {high} {low} r eh el =
    let before = pairs_in i (popped words) in
    let step : 2 * suc i ≡ suc (suc (2 * i)) = omega arith in
    let whole : (before ++ (high ∷ low ∷ [])) ++ drop (suc (suc (2 * i))) bytes ≡ padded 0 52 (pairs_in count all) = rw (eh, el, ← step) r.same in
    record {
      few = omega (arith, r.few);
      most = r.most;
      places = length-set (set bytes (2 * i + 1) low) (2 * i) high ∙ length-set bytes (2 * i + 1) low ∙ r.places;
      same = sym (two-more before bytes (2 * i) high low (omega (arith, r.few, r.most, r.places))) ∙ whole;
    }

pub fill_goes : {count : ℕ} {all bytes words : List ℕ} {i high low : ℕ} {next : List ℕ} → Filled count all bytes words i → 0 < i → next ≡ popped words
    → high ≡ lowest_of words / 16 → low ≡ lowest_of words % 16 * 16
    → Filled count all (set (set bytes (2 * (i - 1) + 1) low) (2 * (i - 1)) high) next (i - 1)
fill_goes {count} {all} {bytes} {words} {i} r h en eh el =
    let back : i ≡ suc (i - 1) = omega arith in
    rw en (fill_one (i - 1) (rw back at r) eh el)

pub fill_ends : (f : Found) {bytes words : List ℕ} {i : ℕ} → Filled (f.failures % 27) f.failed bytes words i → i ≤ 0 → bytes ≡ failure_bytes_in f
unfolding failure_bytes_in pairs_in
fill_ends f {bytes} {words} {i} r h =
    let none : i ≡ 0 = omega arith in
    rw none at r.same

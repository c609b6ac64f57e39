-- What is told at the end: the plays against Law 50 as bytes, by the words that have them.
-- Assumes nothing.
use Rattle.std.specs.Prelude.{ℕ, zero, suc, ◌+◌, ◌*◌, ◌/◌, ◌%◌, ◌^◌, List, [], ◌∷◌, ◌++◌, get_or}
use Rattle.laws.specs.Padded.{padded}
use Rattle.found.specs.declared.found.Found.{Found}

-- a word of five entries without its lowest; the lowest of the next word comes behind the others
unfoldable pub pop_word : ℕ → ℕ → ℕ
pop_word word next = word / 4096 % 2 ^ 48 + next % 4096 * 2 ^ 48

-- the five words without their lowest entry
unfoldable pub popped : List ℕ → List ℕ
popped words =
    pop_word (get_or words 0 0) (get_or words 1 0)
    ∷ pop_word (get_or words 1 0) (get_or words 2 0)
    ∷ pop_word (get_or words 2 0) (get_or words 3 0)
    ∷ pop_word (get_or words 3 0) (get_or words 4 0)
    ∷ get_or words 4 0 / 4096
    ∷ []

-- the lowest entry
unfoldable pub lowest_of : List ℕ → ℕ
lowest_of words = get_or words 0 0 % 4096

-- an entry of twelve bits and four zeros, as two bytes
abbrev pub pair_of : ℕ → List ℕ
pair_of entry = entry / 16 ∷ entry % 16 * 16 ∷ []

-- n entries, in order of play
unfoldable pub pairs_in : ℕ → List ℕ → List ℕ
pairs_in zero words = []
pairs_in (suc n) words = pairs_in n (popped words) ++ pair_of (lowest_of words)

-- the plays against Law 50 in 52 bytes; more than 24 do not occur in a play
unfoldable pub failure_bytes_in : Found → List ℕ
failure_bytes_in f = padded 0 52 (pairs_in (f.failures % 27) f.failed)

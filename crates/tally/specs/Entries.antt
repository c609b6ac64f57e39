-- Entries: scores with their counts, highest first, as a tally's places and as a list of scores give them.
-- Assumes nothing.
use Rattle.std.specs.Prelude.{ℕ, ◌+◌, List, [], ◌∷◌, ◌++◌, eqb, ℤ, negsuc, replicate, if◌then◌else◌}
use Rattle.std.specs.Int.Signed.{lt_z}
use Rattle.laws.specs.Law78.{same_score}
use Rattle.tally.specs.declared.Entry.{Entry}

-- an entry's score
abbrev pub score : Entry → ℤ
score e = e.score

-- how many results an entry stands for
abbrev pub count : Entry → ℕ
count e = e.count

-- so many results of a score
abbrev pub entry : ℤ → ℕ → Entry
entry s n = record { score = s; count = n }

-- no result, of a score below every valid one
abbrev pub no_entry : Entry
no_entry = entry (negsuc 7600) 0

-- the entries of the places before the first one without a result
unfoldable pub entries : List ℤ → List ℕ → List Entry
entries [] cs = []
entries (s ∷ ss) [] = []
entries (s ∷ ss) (c ∷ cs) = if eqb c 0 then [] else (entry s c ∷ entries ss cs)

-- the results that entries stand for, one by one
unfoldable pub expand : List Entry → List ℤ
expand [] = []
expand (e ∷ es) = replicate (count e) (score e) ++ expand es

-- one more result of a score, in entries that fall
unfoldable pub enter : ℤ → List Entry → List Entry
enter s [] = entry s 1 ∷ []
enter s (e ∷ es) =
    if lt_z s (score e) then (e ∷ enter s es)
    else if same_score s (score e) then (entry s (count e + 1) ∷ es)
    else (entry s 1 ∷ e ∷ es)

-- the entries of a list of scores: each distinct score, highest first, with the number of times it stands there
unfoldable pub entries_of : List ℤ → List Entry
entries_of [] = []
entries_of (s ∷ results) = enter s (entries_of results)

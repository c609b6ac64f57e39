-- The deals that a script can name by a number. Assumes nothing.
use Rattle.std.specs.Prelude.{ℕ, List, ◌++◌, eqb, get_or, set, replicate, if◌then◌else◌}
use Rattle.laws.specs.Cards.{north, east, south, west}

-- North has the clubs, East the diamonds, South the hearts and West the spades
abbrev pub suits : List ℕ
suits = replicate 13 north ++ (replicate 13 east ++ (replicate 13 south ++ replicate 13 west))

-- two cards change hands
abbrev pub exchanged : ℕ → ℕ → List ℕ → List ℕ
exchanged card card2 deal = set (set deal card (get_or deal card2 0)) card2 (get_or deal card 0)

-- 0 is that deal. 1 to 3 are one exchange away from it: among the first 26 cards, the two of clubs for the two of diamonds; among the last 26, the two of
-- hearts for the two of spades; between them, the ace of clubs for the ace of spades. In 4 the holder of the ace of spades is no seat, and in 5 South has the
-- two of diamonds, so that East is the first seat without thirteen. Every other number is deal 0.
unfoldable pub deal_numbered : ℕ → List ℕ
deal_numbered n =
    if eqb n 1 then exchanged 0 13 suits
    else if eqb n 2 then exchanged 26 39 suits
    else if eqb n 3 then exchanged 12 51 suits
    else if eqb n 4 then set suits 51 4
    else if eqb n 5 then set suits 13 south
    else suits

-- The text of the judge's items. Assumes nothing.
use Rattle.std.specs.Prelude.{ℕ, List, [], ◌++◌, ℤ, if◌then◌else◌}
use Rattle.laws.specs.Slip.{TRICKS, OVERTRICKS, UNDERTRICKS, PARTSCORE, GAME, SLAM, DOUBLING, is_nothing, word_of, sum_word, line}
use Rattle.explanation.specs.declared.slip.Items.{Items}

-- an item's line; nothing where it has no points
unfoldable pub item_line : List ℕ → ℤ → List ℕ
item_line word points = if is_nothing points then [] else line word points

-- the tricks, and those over or under the contract
abbrev pub tricks_text : Items → List ℕ
tricks_text i = item_line (word_of TRICKS) i.tricks ++ item_line (word_of OVERTRICKS) i.overtricks ++ item_line (word_of UNDERTRICKS) i.undertricks

-- the premiums
abbrev pub premiums_text : Items → List ℕ
premiums_text i =
    item_line (word_of PARTSCORE) i.partscore
    ++ item_line (word_of GAME) i.game
    ++ item_line (word_of SLAM) i.slam
    ++ item_line (word_of DOUBLING) i.doubling

-- all of them, and the sum
abbrev pub items_text : Items → List ℕ
items_text i = tricks_text i ++ premiums_text i ++ line sum_word i.sum

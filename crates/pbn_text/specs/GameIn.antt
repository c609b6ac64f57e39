-- What is told of a text. Assumes nothing.
use Rattle.std.specs.Prelude.{ℕ, min, take, Result, Ok, Err}
use Rattle.laws.specs.PbnReading.{outside, game}
use Rattle.laws.specs.PbnReading as Reading
use Rattle.laws.specs.Pbn.{last_place}
use Rattle.pbn_text.specs.declared.game.Game.{Game}
use Rattle.pbn_text.specs.Kept.{kept_of}
use Rattle.pbn_text.specs.TextOf.{seat_of, listed_of}

-- the line up to which no text of the subset agrees, no more than 1023; or what stands in the text, its calls and cards as far as they are kept
unfoldable pub game_in : Reading.Parsed → Result Game ℕ
game_in (outside line) = Err (min line last_place)
game_in (game x) =
    Ok
    (record {
      board = x.board;
      caller = x.caller;
      seat = seat_of x.play;
      holders = x.holders;
      calls = kept_of x.calls;
      cards = take 52 (kept_of (listed_of x.play)).numbers;
    })

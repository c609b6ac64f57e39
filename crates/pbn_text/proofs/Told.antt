-- What is told of a text, by the way out of the code. Assumes nothing.
use Rattle.std.specs.Prelude.{ℕ, ◌≡◌, List, take, Result, Ok, Err}
use Rattle.std.proofs.Common.{ap}
use Rattle.laws.specs.PbnReading.{outside, game}
use Rattle.laws.specs.PbnReading as Reading
use Rattle.pbn_text.specs.declared.game.Game as Told
use Rattle.pbn_text.specs.declared.state.Text.{Text}
use Rattle.pbn_text.specs.TextOf.{text_of}
use Rattle.pbn_text.specs.ParsedAs.{ParsedAs}
use Rattle.pbn_text.specs.GameIn.{game_in}

pub line-told : (p : Reading.Parsed) {r : Result Text ℕ} → ParsedAs p r → (n : ℕ) → r ≡ Err n → ◌≡◌ {A = Result Told.Game ℕ} (Err n) (game_in p)
unfolding game_in
line-told p e n z = go p (rw z at e)
  where
    go : (q : Reading.Parsed) → ParsedAs q (Err n) → ◌≡◌ {A = Result Told.Game ℕ} (Err n) (game_in q)
    go (outside line) s = ap (λ k. Err k) s.0
    go (game x) s = absurd s

pub all_told : (p : Reading.Parsed) {r : Result Text ℕ} → ParsedAs p r → (t : Text) → r ≡ Ok t → (cards : List ℕ) → cards ≡ take 52 t.cards.numbers
    → ◌≡◌ {A = Result Told.Game ℕ}
    (Ok (record { board = t.board; caller = t.caller; seat = t.seat; holders = t.holders; calls = t.calls; cards = cards }))
    (game_in p)
unfolding game_in text_of
all_told p e t z cards f = go p (rw z at e)
  where
    go : (q : Reading.Parsed) → ParsedAs q (Ok t)
        → ◌≡◌ {A = Result Told.Game ℕ}
        (Ok (record { board = t.board; caller = t.caller; seat = t.seat; holders = t.holders; calls = t.calls; cards = cards }))
        (game_in q)
    go (outside line) s = absurd s
    go (game x) s = rw (f, s.1)

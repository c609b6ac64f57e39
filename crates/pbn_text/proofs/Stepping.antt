-- One line more of a text: what the code keeps is what was read. Assumes nothing.
use Rattle.std.specs.Prelude.{ℕ, ◌≡◌, true, false, List, [], Option, Some, None}
use Rattle.std.proofs.Common.{sym, ap, ◌∙◌}
use Rattle.std.proofs.lemmas.Option.{none-some, same_Some}
use Rattle.laws.specs.PbnText.{Game, auction_tag, play_tag, seat_line}
use Rattle.laws.specs.PbnReading.{number_of, holders_in, is_deal_line}
use Rattle.laws.specs.PbnReading.{Stage, board, deal, auction, State}
use Rattle.laws.specs.PbnReading.{board_in, play_in, line_in}
use Rattle.laws.proofs.Tests.{by_test}
use Rattle.pbn_text.specs.declared.state.Text.{Text}
use Rattle.pbn_text.specs.declared.state.Stage.TheVariants.{Deal, Auction, FirstCalls, Cards}
use Rattle.pbn_deal.specs.declared.deal_line.Deal as Line
use Rattle.pbn_text.specs.declared.numbers.Numbers.{Numbers}
use Rattle.pbn_words.specs.WordNumbers.{if_read}
use Rattle.pbn_words.proofs.RowsRead.{says_nothing, says}
use Rattle.pbn_deal.specs.DealOn.{deal_on}
use Rattle.pbn_text.specs.Kept.{kept_of}
use Rattle.pbn_text.specs.TextOf.{text_of, kept_after}

abbrev pub at : Stage → Game → State
at stage x = record { stage = stage; game = x }

-- ---- the Board line
module _ (line : List ℕ) (x : Game) {r : Option ℕ} (is : r ≡ if_read (board_in line)) where
  pub no_board : r ≡ None → None ≡ kept_after (line_in board x line)
  unfolding line_in
  no_board z = rw (says_nothing (board_in line) is z)

  pub with_board_lem : (t : Text) → t ≡ text_of (at board x) → (n : ℕ) → r ≡ Some n
      → ◌≡◌ {A = Option Text}
      (Some (record { stage = Deal; board = n; caller = t.caller; seat = t.seat; holders = t.holders; calls = t.calls; cards = t.cards }))
      (kept_after (line_in board x line))
  unfolding line_in text_of
  with_board_lem t e n z = rw (says (board_in line) is z, e)

-- ---- the Deal line
module _ (line : List ℕ) (x : Game) {r : Option Line.Deal} (is : r ≡ deal_on line) where
  pub no_deal_lem : r ≡ None → None ≡ kept_after (line_in deal x line)
  unfolding line_in deal_on
  no_deal_lem z =
      by_test (is_deal_line line)
      (λ (q : is_deal_line line ≡ true). absurd (none-some _ (sym z ∙ rw q at is)))
      (λ (q : is_deal_line line ≡ false). rw q)

  pub with_deal_lem : (t : Text) → t ≡ text_of (at deal x) → (d : Line.Deal) → r ≡ Some d
      → ◌≡◌ {A = Option Text}
      (Some (record { stage = Auction; board = t.board; caller = t.caller; seat = t.seat; holders = d.holders; calls = t.calls; cards = t.cards }))
      (kept_after (line_in deal x line))
  unfolding line_in deal_on text_of
  with_deal_lem t e d z =
      by_test (is_deal_line line)
      (λ (q : is_deal_line line ≡ true).
      let said : d.holders ≡ holders_in line = ap (λ (k : Line.Deal). k.holders) (same_Some _ _ (sym z ∙ rw q at is)) in
      rw (q, said, e))
      (λ (q : is_deal_line line ≡ false). absurd (none-some d (sym (rw q at is) ∙ z)))

-- ---- a seat's tag
module _ (line : List ℕ) (x : Game) {r : Option ℕ} where
  module _ (is : r ≡ if_read (number_of (seat_line auction_tag) 4 line)) where
    pub no_auction : r ≡ None → None ≡ kept_after (line_in auction x line)
    unfolding line_in
    no_auction z = rw (says_nothing (number_of (seat_line auction_tag) 4 line) is z)

    pub with_auction : (t : Text) → t ≡ text_of (at auction x) → (n : ℕ) → r ≡ Some n
        → ◌≡◌ {A = Option Text}
        (Some (record { stage = FirstCalls; board = t.board; caller = n; seat = t.seat; holders = t.holders; calls = t.calls; cards = t.cards }))
        (kept_after (line_in auction x line))
    unfolding line_in text_of
    with_auction t e n z = rw (says (number_of (seat_line auction_tag) 4 line) is z, e)

  module _ (is : r ≡ if_read (number_of (seat_line play_tag) 4 line)) where
    pub no_play : r ≡ None → None ≡ kept_after (play_in x line)
    unfolding play_in
    no_play z = rw (says_nothing (number_of (seat_line play_tag) 4 line) is z)

    pub with_play_lem : (t : Text) (stage : Stage) → t ≡ text_of (at stage x) → (n : ℕ) → r ≡ Some n → (none : Numbers) → none ≡ kept_of []
        → ◌≡◌ {A = Option Text}
        (Some (record { stage = Cards 13; board = t.board; caller = t.caller; seat = Some n; holders = t.holders; calls = t.calls; cards = none }))
        (kept_after (play_in x line))
    unfolding play_in text_of
    with_play_lem t stage e n z none f = rw (says (number_of (seat_line play_tag) 4 line) is z, f, e)

-- `pbn_words::board::is_board_line` meets its contract. Assumes nothing.
use Rattle.std.proofs.Common.{◌≡◌, ℕ, ◌-◌, List, Bool, refl, ◌∙◌, sym, ap, take, drop, length, eqb}
use lib.Pointwise.{pointwise}
use Rattle.laws.specs.PbnText.{board_tag}
use Rattle.laws.specs.PbnReading.{same_bytes}
use Rattle.pbn_words.proofs.SameBytes.{pair_by_pair, equal_bytes}
use Rattle.parts.proofs.PartsOf.{rest-is}
use Rattle.pbn_words.proofs.BoardLines.{no_tag, line-one, line-two, line_three}
use Rattle.pbn_words.proofs.board.is_board_line.Goals as goal

-- what is said of the rest of a line
behind : (line end : List ℕ) {r : Bool} → r ≡ pointwise eqb (take (length line - 8) (drop 8 line)) end → r ≡ same_bytes end (drop 8 line)
behind line end e = e ∙ equal_bytes (take (length line - 8) (drop 8 line)) end ∙ ap (same_bytes end) (rest-is line 8)

tagged : (line : List ℕ) {r : Bool} → r ≡ pointwise eqb board_tag (take 8 line) → r ≡ same_bytes board_tag (take 8 line)
tagged line e = e ∙ pair_by_pair board_tag (take 8 line)

pub returns-then-not-starts_with : goal.returns-then-not-starts_with
returns-then-not-starts_with c = no_tag _ _ (sym (tagged c.args.line.now c.starts_with.ensures.value) ∙ c.if-not-starts_with.true)

pub returns-then-board-lt10 : goal.returns-then-board-lt10
returns-then-board-lt10 c =
    let tag = sym (tagged c.args.line.now c.starts_with.ensures.value) ∙ c.if-not-starts_with.false in
    behind c.args.line.now _ c.eq.ensures ∙ line-one _ _ tag _ 0 0 refl c.if-board-lt10.true

pub returns-then-board-lt100 : goal.returns-then-board-lt100
returns-then-board-lt100 c =
    let tag = sym (tagged c.args.line.now c.starts_with.ensures.value) ∙ c.if-not-starts_with.false in
    behind c.args.line.now _ c.eq-then-board-lt100.ensures ∙ line-two _ _ tag _ _ 0 refl c.if-board-lt10.false c.if-board-lt100.true refl

pub returns : goal.returns
returns c =
    let tag = sym (tagged c.args.line.now c.starts_with.ensures.value) ∙ c.if-not-starts_with.false in
    behind c.args.line.now _ c.eq-2.ensures ∙ line_three _ _ tag _ _ _ refl c.if-board-lt100.false c.requires refl refl

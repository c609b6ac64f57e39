-- The answer's fields by what the positions hold at the end.
-- Assumes nothing.
use Rattle.std.specs.Prelude.{ℕ, ◌+◌, List, [], ◌∷◌, get_or}
use Rattle.laws.specs.Cards.{side_of}
use Rattle.laws.specs.Law2.{vulnerable}
use Rattle.laws.specs.Law64.{tricks_after}
use Rattle.laws.specs.Law77.{Stake, declarer_score, ns_score}
use Rattle.laws.specs.Record.{Field, field}
use Rattle.laws.specs.Judgement.{twos_complement}
use Rattle.auction.specs.declared.Contract.{Contract}
use Rattle.play.specs.declared.Tricks.{Tricks}
use Rattle.position.specs.declared.listed.Listed.{Listed}
use Rattle.transfer.specs.Inputs.{revokes_in, transferred_in}

-- board and table, with the 40 bits behind them zero
abbrev pub head_fields : ℕ → ℕ → List Field
head_fields board table = field 7 board ∷ field 9 table ∷ field 40 0 ∷ []

-- the 40 bits behind them, where there is a contract
abbrev pub play_fields : Contract → ℕ → ℕ → ℕ → ℕ → List Field
play_fields k won after revokes word =
    field 3 k.level
    ∷ field 3 k.strain
    ∷ field 2 k.doubling
    ∷ field 2 k.declarer
    ∷ field 4 won
    ∷ field 4 after
    ∷ field 6 revokes
    ∷ field 16 word
    ∷ []

-- tricks won by declarer's side, claimed ones included
unfoldable pub won_in : Tricks → ℕ → ℕ → ℕ
won_in ts declarer claim = get_or ts.won (side_of declarer) 0 + claim

-- declarer's tricks after Law 64
unfoldable pub after_in : Contract → Tricks → Listed → ℕ → ℕ → ℕ
after_in k ts rs claim left = tricks_after k.declarer (revokes_in rs) (won_in ts k.declarer claim) (transferred_in rs ts k.declarer claim left)

-- what the contract is played for
abbrev pub stake_in : ℕ → Contract → Stake
stake_in board k = record { level = k.level; strain = k.strain; doubling = k.doubling; vulnerable = vulnerable board k.declarer }

-- the whole answer
unfoldable pub settled_fields : ℕ → ℕ → Contract → Tricks → Listed → ℕ → ℕ → List Field
settled_fields board table k ts rs claim left =
    field 7 board
    ∷ field 9 table
    ∷ play_fields k (won_in ts k.declarer claim) (after_in k ts rs claim left) rs.count
    (twos_complement (ns_score k.declarer (declarer_score (stake_in board k) (after_in k ts rs claim left))))

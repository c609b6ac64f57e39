-- What Law 64 is counted from, as the code has it: the listed revokes, the winners, and the claimed tricks of each side.
-- Assumes nothing.
use Rattle.std.specs.Prelude.{ℕ, zero, suc, ◌/◌, ◌%◌, List, [], ◌∷◌, eqb, get_or, take, drop}
use Rattle.laws.specs.Cards.{partner_of, side_of}
use Rattle.laws.specs.LeadRevoke.{Counted}
use Rattle.laws.specs.Law68.{agreed, claimed_tricks}
use Rattle.laws.specs.Law64.{dues, total, transferred_tricks}
use Rattle.play.specs.declared.Tricks.{Tricks}
use Rattle.play.specs.Told.{seats_of}
use Rattle.position.specs.declared.listed.Listed.{Listed}

-- the revoke that a byte lists, trick 4 bits, seat 2, suit 2, with 1 where it is excused
abbrev pub counted_of : ℕ → ℕ → Counted
counted_of byte free = record { trick = byte / 16; seat = byte / 4 % 4; suit = byte % 4; excused = eqb free 1 }

-- the revoke at a place of the list
abbrev pub counted_at : Listed → ℕ → Counted
counted_at rs i = counted_of (get_or rs.list i 0) (get_or rs.excused i 0)

-- the revokes of some bytes, each with what is said of its excuse
unfoldable pub counted_in : List ℕ → List ℕ → List Counted
counted_in [] free = []
counted_in (b ∷ bytes) [] = []
counted_in (b ∷ bytes) (f ∷ free) = counted_of b f ∷ counted_in bytes free

-- the revokes in order of play: as many of the list as are counted
unfoldable pub revokes_in : Listed → List Counted
revokes_in rs = counted_in (take rs.count rs.list) (take rs.count rs.excused)

-- the winners of the complete tricks, from their answers: as many as are counted
unfoldable pub winners_in : Tricks → List ℕ
winners_in ts = take ts.count (seats_of ts.answers)

-- the tricks that a side gets by a claim of so many for declarer's side, of those left; without a claim both numbers are 0
unfoldable pub claimed_by : ℕ → ℕ → ℕ → ℕ → ℕ
claimed_by declarer claim left side = claimed_tricks (agreed claim) left (eqb side (side_of declarer))

-- the tricks that change sides
unfoldable pub transferred_in : Listed → Tricks → ℕ → ℕ → ℕ → ℕ
transferred_in rs ts declarer claim left = transferred_tricks (partner_of declarer) (winners_in ts) (claimed_by declarer claim left) (revokes_in rs)

-- the revokes before the i-th of the list, latest first
unfoldable pub earlier : ℕ → List ℕ → List ℕ → List Counted
earlier zero bytes free = []
earlier (suc i) bytes free = counted_of (get_or bytes i 0) (get_or free i 0) ∷ earlier i bytes free

-- the tricks that change sides for the revokes from the i-th on
unfoldable pub total_from : ℕ → Listed → Tricks → ℕ → ℕ → ℕ → ℕ
total_from i rs ts declarer claim left =
    total (dues (partner_of declarer) (winners_in ts) (claimed_by declarer claim left) (earlier i rs.list rs.excused) (drop i (revokes_in rs)))

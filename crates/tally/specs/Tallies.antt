-- Tallies as values: the tally of a board and a list of results, which tallies are well formed, and what each call answers.
-- Assumes nothing.
use Rattle.std.specs.Prelude.{ℕ, ◌-◌, Bool, true, ◌&&◌, List, [], ◌∷◌, ◌++◌, map, leb, eqb, ℤ, pos, length, if◌then◌else◌}
use Rattle.std.specs.Int.Signed.{lt_z}
use Rattle.laws.specs.Refusals.{accepted, malformed_tally}
use Rattle.laws.specs.Law77.{valid_score}
use Rattle.laws.specs.Law78.{same_score}
use Rattle.laws.specs.Tally.{capacity, Result, scores_of, on_deal, same_deal, no_deal, deal_of, leaves}
use Rattle.laws.specs.Tally.{Refusal, refusal, deal_refusal, fresh_refusal, add_refusal, merge_refusal}
use Rattle.laws.specs.Padded.{padded}
use Rattle.tally.specs.declared.Entry.{Entry}
use Rattle.tally.specs.declared.Tally.{Tally}
use Rattle.std.specs.Prelude as Std
use Rattle.laws.specs.Refused.{number}
use Rattle.laws.specs.declared.Refused.{Refused}
use Rattle.tally.specs.Entries.{score, count, entries, expand, entries_of}

-- the tally of a board, of a deal and of entries: the entries in order, and zeros in the places after them
unfoldable pub tally_with : ℕ → List ℕ → List Entry → Tally
tally_with board deal es =
    record { board = board; deal = deal; scores = padded (pos 0) 128 (map score es); counts = padded 0 128 (map count es) }

-- the tally of a board, of the deal that it carries and of scores
unfoldable pub tally_for : ℕ → List ℕ → List ℤ → Tally
tally_for board deal scores = tally_with board deal (entries_of scores)

-- the tally of a board and a list of results: it carries their deal, and without a result none, its places zero
unfoldable pub tally_of : ℕ → List Result → Tally
tally_of board results = tally_for board (deal_of results) (scores_of results)

-- a tally's entries
abbrev pub entries_in : Tally → List Entry
entries_in t = entries t.scores t.counts

-- a tally's scores as a list, highest first, each as often as its count says
unfoldable pub scores_in : Tally → List ℤ
scores_in t = expand (entries_in t)

-- a tally's results: its scores, each on the deal that it carries
abbrev pub results_in : Tally → List Result
results_in t = on_deal t.deal (scores_in t)

-- ---- which tallies are well formed
-- nothing but zeros
unfoldable pub all_zero : List ℤ → List ℕ → Bool
all_zero [] cs = true
all_zero (s ∷ ss) [] = true
all_zero (s ∷ ss) (c ∷ cs) = same_score s (pos 0) && (eqb c 0 && all_zero ss cs)

-- places of valid scores that fall from below `top`, each with a count of at least 1 and together at most `room`; zeros after them
unfoldable pub in_order : ℤ → ℕ → List ℤ → List ℕ → Bool
in_order top room [] cs = true
in_order top room (s ∷ ss) [] = true
in_order top room (s ∷ ss) (c ∷ cs) =
    if eqb c 0 then all_zero (s ∷ ss) (c ∷ cs)
    else valid_score s && (lt_z s top && (leb c room && in_order s (room - c) ss cs))

-- a score above every valid one
abbrev pub ceiling : ℤ
ceiling = pos 7601

-- a board from 1 to 127, and 128 places in order, with at most 128 results
unfoldable pub in_places : Tally → Bool
in_places t =
    eqb (fresh_refusal t.board) accepted && (eqb (length t.scores) 128 && (eqb (length t.counts) 128
    && in_order ceiling capacity t.scores t.counts))

-- what a tally with so many results carries: a deal with thirteen cards a seat; without a result none, its places zero
unfoldable pub carries : List ℕ → ℕ → Bool
carries deal results = if eqb results 0 then same_deal deal no_deal else eqb (deal_refusal deal).number accepted

-- both
unfoldable pub well_formed : Tally → Bool
well_formed t = in_places t && carries t.deal (length (scores_in t))

-- ---- what the calls answer
-- the tally beside a refusal: all zero
abbrev pub no_tally : Tally
no_tally = tally_of 0 []

-- what a call answers: 0 with the tally that it made, or a refusal and its place with no tally
pub record Tallied : Type 0 where
  pub refusal : ℕ
  pub place : ℕ
  pub tally : Tally

-- a refusal with its number and its place
abbrev pub refused_with : Refusal → Tallied
refused_with r = record { refusal = r.number; place = r.place; tally = no_tally }

-- the tally that a call made
abbrev pub accepting : Tally → Tallied
accepting made = record { refusal = accepted; place = 0; tally = made }

-- what an answer of the code stands for
abbrev pub tallied_of : Std.Result Tally Refused → Tallied
tallied_of (Std.Ok made) = accepting made
tallied_of (Std.Err e) = refused_with (record { number = number e.refusal; place = e.place })

-- a call's answer: accepted, the tally it made; refused, its number and its place beside no tally
unfoldable pub answer_of : Refusal → Tally → Tallied
answer_of r made = leaves r.number (accepting made) (refused_with r)

-- a fresh tally of a board
unfoldable pub fresh_of : ℕ → Tallied
fresh_of board = answer_of (refusal (fresh_refusal board)) (tally_of board [])

-- a result added to a tally: 17 if the tally isn't well formed, else as for its list of results
unfoldable pub add_of : Tally → Result → Tallied
add_of t r =
    answer_of
    (if well_formed t then add_refusal (results_in t) r else refusal malformed_tally)
    (tally_of t.board (results_in t ++ (r ∷ [])))

-- two tallies merged: 17 if either isn't well formed, else as for their boards and lists of results
unfoldable pub merge_of : Tally → Tally → Tallied
merge_of a b =
    answer_of
    (if well_formed a && well_formed b then merge_refusal a.board (results_in a) b.board (results_in b) else refusal malformed_tally)
    (tally_of a.board (results_in a ++ results_in b))

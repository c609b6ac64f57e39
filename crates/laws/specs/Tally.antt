-- The rules for trees of tally calls: the board, the list of results and the refusals of a tree, with no tally in them.
-- A tree is a fresh tally of a board from 1 to 127, a tree with one result added, valid or not, or two trees merged. (The project's own term.)
-- A result is a score with the deal that it was played on.
-- Assumes nothing.
use Rattle.std.specs.Prelude.{ℕ, zero, suc, ◌+◌, ◌≤◌, ◌<◌, ◌≡◌, Bool, true, false, not, ◌&&◌, List, [], ◌∷◌, ◌++◌, map, ltb, eqb, ℤ, length, get_or, replicate, if◌then◌else◌}
use Rattle.laws.specs.Choice.{some}
use Rattle.laws.specs.Refusals.{Answer, Placed, refused_at, placed}
use Rattle.laws.specs.Refusals.{accepted, no_board_or_table, two_boards, too_many_results, invalid_score, fouled_board}
use Rattle.laws.specs.Cards.{cards_dealt}
use Rattle.laws.specs.Law77.{valid_score}
use Rattle.laws.specs.Law78.{occurrences}
use Rattle.laws.specs.Reading.{Reading, Reading.refused, Reading.found}
use Rattle.laws.specs.Contents.{take_deal}

-- how many results a tally may have
abbrev pub capacity : ℕ
capacity = 128

-- ---- results
-- a score with the deal that was played: the holders of card 0, 1, .. 51
pub record Result : Type 0 where
  pub score : ℤ
  pub deal : List ℕ

-- the scores of results
abbrev pub scores_of : List Result → List ℤ
scores_of results = map (λ (r : Result). r.score) results

-- scores that were all made on one deal
abbrev pub on_deal : List ℕ → List ℤ → List Result
on_deal deal scores = map (λ (s : ℤ). record { score = s; deal = deal }) scores

-- two deals are the same, bit for bit
unfoldable pub same_deal : List ℕ → List ℕ → Bool
same_deal [] [] = true
same_deal [] (k ∷ other) = false
same_deal (h ∷ deal) [] = false
same_deal (h ∷ deal) (k ∷ other) = eqb h k && same_deal deal other

-- Law 87: a result of the one list and a result of the other were made on different deals
unfoldable pub fouled : List Result → List Result → Bool
fouled results others = some (λ (r : Result). some (λ (q : Result). not (same_deal r.deal q.deal)) others) results

-- no deal: 52 zeros
abbrev pub no_deal : List ℕ
no_deal = replicate 52 0

-- the deal that a list of results carries: that of its first one, and none where there is no result
abbrev pub deal_of : List Result → List ℕ
deal_of [] = no_deal
deal_of (r ∷ results) = r.deal

-- a deal with thirteen cards a seat: 52 holders, each a seat
pub record Thirteen (deal : List ℕ) : Type 0 where
  pub holders : length deal ≡ 52
  pub holder : (k : ℕ) → k < 52 → get_or deal k 0 ≤ 3
  pub cards : (seat : ℕ) → seat < 4 → cards_dealt seat deal ≡ 13

-- ---- refusals
-- the number of a refusal with its place; the number is 0 where there is none
pub record Refusal : Type 0 where
  pub number : ℕ
  pub place : ℕ

-- a refusal with place 0
abbrev pub refusal : ℕ → Refusal
refusal number = record { number = number; place = 0 }

-- a refusal with place 0 where a test holds, else none
abbrev pub refusal_if : Bool → ℕ → Refusal
refusal_if test number = refusal (if test then number else accepted)

infixr 20 ◌or_else◌
-- of two refusals the first that is one
unfoldable pub ◌or_else◌ : Refusal → Refusal → Refusal
first or_else later = if eqb first.number accepted then later else first

-- what a check of contents says, as a refusal
abbrev pub refusal_in : Reading (Unit {0}) → Refusal
refusal_in (refused n place) = record { number = n; place = place }
refusal_in (found u at) = refusal accepted

-- a deal that is given: 4 with its place, as where a record is written from its contents
unfoldable pub deal_refusal : List ℕ → Refusal
deal_refusal deal = refusal_in (take_deal deal [] 0)

-- a score that isn't valid: 20
unfoldable pub score_refusal : ℤ → Refusal
score_refusal score = refusal_if (not (valid_score score)) invalid_score

-- two boards: 18
unfoldable pub boards_refusal : ℕ → ℕ → Refusal
boards_refusal board board2 = refusal_if (not (eqb board board2)) two_boards

-- results of two deals: 28
unfoldable pub fouled_refusal : List Result → List Result → Refusal
fouled_refusal results others = refusal_if (fouled results others) fouled_board

-- so many results and so many more: 19 where they are over 128
unfoldable pub room_refusal : ℕ → ℕ → Refusal
room_refusal results more = refusal_if (ltb capacity (results + more)) too_many_results

-- a fresh tally of a board outside 1 to 127 is refused
unfoldable pub fresh_refusal : ℕ → ℕ
fresh_refusal board = if eqb board 0 then no_board_or_table else if ltb 127 board then no_board_or_table else accepted

-- a result that is given beside a list, to be added or asked about: 20 if its score isn't valid, else 4 if its deal isn't one, else 28 if the list has a result
-- of another deal
unfoldable pub given_refusal : List Result → Result → Refusal
given_refusal results r = score_refusal r.score or_else deal_refusal r.deal or_else fouled_refusal results (r ∷ [])

-- adding a result to a list: 20, 4 or 28, else 19 if the list has 128
unfoldable pub add_refusal : List Result → Result → Refusal
add_refusal results r = given_refusal results r or_else room_refusal (length results) 1

-- merging two boards' lists: 18 if the boards differ, else 28 if a result of each are of different deals, else 19 if both lists together exceed 128
unfoldable pub merge_refusal : ℕ → List Result → ℕ → List Result → Refusal
merge_refusal board results board2 results2 =
    boards_refusal board board2 or_else fouled_refusal results results2 or_else room_refusal (length results) (length results2)

-- an answer, unless there is a refusal before it
abbrev pub unless_refused : {A : Type 0} → Refusal → Answer A → Placed A
unless_refused r answer = if eqb r.number accepted then placed answer else refused_at r.number r.place

-- asked about a result in a list: 20, 4 or 28, else what is answered for its score among the scores of the list
unfoldable pub asked : {A : Type 0} → (List ℤ → ℤ → Answer A) → List Result → Result → Placed A
asked question results r = unless_refused (given_refusal results r) (question (scores_of results) r.score)

-- what a call leaves, by the number of its refusal: where it is accepted what it made, and where it is refused what it was given
unfoldable pub leaves : {A : Type 0} → ℕ → A → A → A
leaves zero made given = made
leaves (suc refusal) made given = given

-- ---- trees
pub data Tree : Type 0 where
  fresh : (board : ℕ) → 1 ≤ board → board ≤ 127 → Tree
  add : Tree → Result → Tree
  merge : Tree → Tree → Tree

-- the calls of a tree, each named by the tree that it is the last call of: the last one, and those of the trees that it was made on
pub data CallOf : Tree → Tree → Type 0 where
  last : {t : Tree} → CallOf t t
  in_add : {t : Tree} {r : Result} {call : Tree} → CallOf t call → CallOf (add t r) call
  in_first : {t u : Tree} {call : Tree} → CallOf t call → CallOf (merge t u) call
  in_second : {t u : Tree} {call : Tree} → CallOf u call → CallOf (merge t u) call

-- a tree's board is its first fresh tally's
unfoldable pub board_of : Tree → ℕ
board_of (fresh board from to) = board
board_of (add t r) = board_of t
board_of (merge t u) = board_of t

-- a tree's list of results starts empty; an accepted addition puts its result last, an accepted merge the second list after the first
unfoldable pub list_of : Tree → List Result
list_of (fresh board from to) = []
list_of (add t r) = leaves (add_refusal (list_of t) r).number (list_of t ++ (r ∷ [])) (list_of t)
list_of (merge t u) = leaves (merge_refusal (board_of t) (list_of t) (board_of u) (list_of u)).number (list_of t ++ list_of u) (list_of t)

-- the refusal of a tree's last call
unfoldable pub refusal_of : Tree → Refusal
refusal_of (fresh board from to) = refusal accepted
refusal_of (add t r) = add_refusal (list_of t) r
refusal_of (merge t u) = merge_refusal (board_of t) (list_of t) (board_of u) (list_of u)

-- every result that some call of the tree adds, refused or not
unfoldable pub added : Tree → List Result
added (fresh board from to) = []
added (add t r) = added t ++ (r ∷ [])
added (merge t u) = added t ++ added u

-- every fresh tally of the tree is of the board
unfoldable pub OneBoard : ℕ → Tree → Type 0
OneBoard board (fresh b from to) = b ≡ board
OneBoard board (add t r) = OneBoard board t
OneBoard board (merge t u) = OneBoard board t × OneBoard board u

-- every result of the list was made on the deal
unfoldable pub OneDeal : List ℕ → List Result → Type 0
OneDeal deal [] = Unit {0}
OneDeal deal (r ∷ results) = (r.deal ≡ deal) × OneDeal deal results

-- every score of the list is valid
unfoldable pub AllValid : List ℤ → Type 0
AllValid [] = Unit {0}
AllValid (score ∷ scores) = (valid_score score ≡ true) × AllValid scores

-- two lists have the same scores, each as often
unfoldable pub SameScores : List ℤ → List ℤ → Type 0
SameScores scores scores2 = (score : ℤ) → occurrences score scores ≡ occurrences score scores2

-- Reading a text of Portable Bridge Notation line by line: what holds of what was read at a stage, and which lines were read. Assumes nothing.
use Prim.Native.Nat.{ℕ, ◌+◌, ◌*◌, ◌%◌, ◌≤◌, ◌<◌}
use native.Mathlib.Omega.{arith}
use mathlib.Core.Path.{◌≡◌, refl, sym, ap, ap₂, ◌∙◌}
use mathlib.Core.List.{List, [], ◌∷◌, ◌++◌, map, append_assoc, append-nil, map-append}
use lib.ListN.{length}
use Rattle.laws.specs.PbnText.{Listed, absent, columns, Game, EachBelow, auction_tag, play_tag}
use Rattle.laws.specs.PbnText.{board_line, seat_line, deal_line, row_line, fours, call_lines, card_lines, play_lines, game_lines}
use Rattle.laws.specs.PbnReading.{Stage, board, deal, auction, first_calls, calls, calls_over, cards, State, with_play}

-- ---- rows of four
pub fours_append : (l m : List ℕ) → length l % 4 ≡ 0 → fours (l ++ m) ≡ fours l ++ fours m
unfolding fours
fours_append [] m h = refl
fours_append (a ∷ []) m h = absurd (omega arith)
fours_append (a ∷ b ∷ []) m h = absurd (omega arith)
fours_append (a ∷ b ∷ c ∷ []) m h = absurd (omega arith)
fours_append (a ∷ b ∷ c ∷ d ∷ l) m h = ap (λ rows. (a ∷ b ∷ c ∷ d ∷ []) ∷ rows) (fours_append l m (omega arith))

pub fours-row : (row : List ℕ) → 1 ≤ length row → length row ≤ 4 → fours row ≡ row ∷ []
unfolding fours
fours-row [] h k = absurd (omega arith)
fours-row (a ∷ []) h k = refl
fours-row (a ∷ b ∷ []) h k = refl
fours-row (a ∷ b ∷ c ∷ []) h k = refl
fours-row (a ∷ b ∷ c ∷ d ∷ []) h k = refl
fours-row (a ∷ b ∷ c ∷ d ∷ e ∷ row) h k = absurd (omega arith)

-- a row after rows of four
pub next_row : (word_of : ℕ → List ℕ) (l row : List ℕ) → length l % 4 ≡ 0 → 1 ≤ length row → length row ≤ 4
    → map (row_line word_of) (fours (l ++ row)) ≡ map (row_line word_of) (fours l) ++ (row_line word_of row ∷ [])
next_row word_of l row whole h k = rw (fours_append l row whole, fours-row row h k) (map-append (row_line word_of) (fours l) (row ∷ []))

pub each_append : (n : ℕ) (l m : List ℕ) → EachBelow n l → EachBelow n m → EachBelow n (l ++ m)
unfolding EachBelow
each_append n [] m h k = k
each_append n (x ∷ l) m h k = (h.0, each_append n l m h.1 k)

-- ---- what holds of what was read at a stage
-- Play lists cards from a seat on, so that n rows of four are left
pub record Listing (n : ℕ) (play : Listed) : Type 0 where
  pub seat : ℕ
  pub listed : List ℕ
  pub is : play ≡ columns seat listed
  pub low : seat < 4
  pub each : EachBelow 52 listed
  pub left : length listed + 4 * n ≡ 52

-- no call and no card yet
pub record Bare (x : Game) : Type 0 where
  pub no_calls_lem : x.calls ≡ []
  pub no_play : x.play ≡ absent

-- calls, and no card yet
pub record Called (x : Game) : Type 0 where
  pub some_call : 1 ≤ length x.calls
  pub no_play : x.play ≡ absent

abbrev pub AtStage : Stage → Game → Type 0
AtStage board x = Bare x
AtStage deal x = Bare x
AtStage auction x = Bare x
AtStage first_calls x = Bare x
AtStage calls x = Called x × (length x.calls % 4 ≡ 0)
AtStage calls_over x = Called x
AtStage (cards n) x = (1 ≤ length x.calls) × Listing n x.play

-- what was read of tags and calls can stand in a text
pub record Base (x : Game) : Type 0 where
  pub board_from : 1 ≤ x.board
  pub board_to : x.board ≤ 999
  pub first : x.first < 4
  pub all : length x.holders ≡ 52
  pub holders : EachBelow 4 x.holders
  pub caller : x.caller < 4
  pub each : EachBelow 38 x.calls

-- what Play lists is no part of that
pub with_play_lem : (x : Game) (play : Listed) → Base x → Base (with_play x play)
with_play_lem x play b =
    record {
      board_from = b.board_from;
      board_to = b.board_to;
      first = b.first;
      all = b.all;
      holders = b.holders;
      caller = b.caller;
      each = b.each;
    }

pub record Fine (stage : Stage) (x : Game) : Type 0 where
  pub base : Base x
  pub at : AtStage stage x

-- the lines that were read
abbrev pub said : Stage → Game → List (List ℕ)
said board x = []
said deal x = board_line x.board ∷ []
said auction x = board_line x.board ∷ deal_line x.first x.holders ∷ []
said first_calls x = game_lines x
said calls x = game_lines x
said calls_over x = game_lines x
said (cards n) x = game_lines x

-- one line more after some
pub record Step (lines : List (List ℕ)) (line : List ℕ) (s : State) : Type 0 where
  pub fine : Fine s.stage s.game
  pub says : said s.stage s.game ≡ lines ++ (line ∷ [])

-- the lines before the calls
abbrev pub tags : Game → List (List ℕ)
tags x = board_line x.board ∷ deal_line x.first x.holders ∷ seat_line auction_tag x.caller ∷ []

pub bare_lines : (x : Game) → Bare x → game_lines x ≡ tags x
unfolding game_lines fours play_lines
bare_lines x b = ap₂ (λ c p. tags x ++ (call_lines c ++ play_lines p)) b.no_calls_lem b.no_play

pub called-lines : (x : Game) → x.play ≡ absent → game_lines x ≡ tags x ++ call_lines x.calls
unfolding game_lines play_lines
called-lines x e = ap (λ p. tags x ++ (call_lines x.calls ++ play_lines p)) e ∙ ap (λ l. tags x ++ l) (append-nil (call_lines x.calls))

pub listed-lines : (x : Game) (seat : ℕ) (listed : List ℕ) → x.play ≡ columns seat listed
    → game_lines x ≡ (tags x ++ call_lines x.calls) ++ (seat_line play_tag seat ∷ card_lines listed)
unfolding game_lines play_lines
listed-lines x seat listed e =
    ap (λ p. tags x ++ (call_lines x.calls ++ play_lines p)) e ∙ sym (append_assoc (tags x) (call_lines x.calls) _)

-- Every text of Portable Bridge Notation of the subset is read, as what it is the text of. Assumes nothing.
use Rattle.std.specs.Prelude.{if◌then◌else◌}
use Prim.Native.Nat.{ℕ, zero, suc, ◌*◌, ◌≤◌, ◌<◌}
use native.Mathlib.Omega.{arith}
use mathlib.Core.Path.{◌≡◌, refl, sym, ap, ap₂, ◌∙◌}
use mathlib.Core.Bool.{true, false, not}
use mathlib.Core.List.{List, [], ◌∷◌, ◌++◌, map, append_assoc, append-nil}
use borrow.Author.Tests.{eq-eqb, le-ltb, not-true}
use lib.Dec.{lit≤}
use lib.ListN.{length, length-append}
use Rattle.laws.specs.Auction.{level_of, strain_of}
use Rattle.laws.specs.Decimal.{starts_with}
use Rattle.laws.specs.Sheet.{newline}
use Rattle.laws.specs.PbnText.{Listed, absent, columns, Game, EachBelow, Listable, Sayable, space, strain_word, call_word, card_word, auction_tag, play_tag}
use Rattle.laws.specs.PbnText.{board_line, seat_line, deal_line, joined_by, row_line, fours, call_lines, card_lines, play_lines, game_lines, ended, text}
use Rattle.laws.specs.PbnReading.{misses, reads, parted_by, first_in, holders_in}
use Rattle.laws.specs.PbnReading.{Stage, board, deal, auction, first_calls, calls, calls_over, cards, may_end, State, start}
use Rattle.laws.specs.PbnReading.{with_board, with_deal, with_caller, with_calls, with_play, with_row, goes, calls_in, play_in, cards_in, board_in, line_in}
use Rattle.laws.specs.PbnReading.{Parsed, game, end_in, parse_from, parse}
use Rattle.laws.proofs.Counts.{every_below, every_below_lem}
use Rattle.laws.proofs.PbnWords.{Free, AllFree, number-whole, row-whole, parted_front}
use Rattle.laws.proofs.PbnLines.{calls-apart, cards-apart, auction-apart, play-apart, boards-apart, calls_spaceless, cards_spaceless}
use Rattle.laws.proofs.PbnLines.{calls-newline, cards-newline, auction-newline, play-newline, board-newline, row-newline, deal-newline}
use Rattle.laws.proofs.PbnDeal.{deal-whole}
use Rattle.laws.proofs.PbnSteps.{after_row}

-- ---- each line, as what it is the line of
board-whole : (x : Game) (n : ℕ) → 1 ≤ n → n ≤ 999 → line_in board x (board_line n) ≡ goes deal (with_board x n)
unfolding line_in board_in
board-whole x zero h k = absurd (omega arith)
board-whole x (suc n) h k = rw (number-whole (λ n. board_line (suc n)) 999 n k boards-apart)

deal-line-whole : (x : Game) (first : ℕ) (holders : List ℕ) → first < 4 → length holders ≡ 52 → EachBelow 4 holders
    → line_in deal x (deal_line first holders) ≡ goes auction (with_deal x first holders)
unfolding line_in
deal-line-whole x first holders low all seats =
    let w = deal-whole first holders low all seats in
    let test = ap (λ b. if b then goes auction (with_deal x (first_in (deal_line first holders)) (holders_in (deal_line first holders))) else misses) w.2 in
    test ∙ ap₂ (λ f h. goes auction (with_deal x f h)) w.0 w.1

auction-whole : (x : Game) (seat : ℕ) → seat < 4 → line_in auction x (seat_line auction_tag seat) ≡ goes first_calls (with_caller x seat)
unfolding line_in
auction-whole x seat low = rw (number-whole (seat_line auction_tag) 4 seat low auction-apart)

calls-whole : (x : Game) (row : List ℕ) → EachBelow 38 row → 1 ≤ length row → length row ≤ 4
    → calls_in x (row_line call_word row) ≡ goes (after_row row) (with_calls x row)
unfolding calls_in
calls-whole x row each from to = rw (row-whole call_word 38 calls-apart calls_spaceless row each from, le-ltb 4 (length row) to)

play-whole : (x : Game) (seat : ℕ) → seat < 4 → play_in x (seat_line play_tag seat) ≡ goes (cards 13) (with_play x (columns seat []))
unfolding play_in
play-whole x seat low = rw (number-whole (seat_line play_tag) 4 seat low play-apart)

cards-whole : (n : ℕ) (x : Game) (row : List ℕ) → EachBelow 52 row → length row ≡ 4
    → line_in (cards (suc n)) x (row_line card_word row) ≡ goes (cards n) (with_play x (with_row x.play row))
unfolding line_in cards_in
cards-whole n x row each four = rw (row-whole card_word 52 cards-apart cards_spaceless row each (omega arith), eq-eqb (length row) 4 four)

-- ---- after full lines of calls a bracket tells the Play tag from calls
starts_computed : every_below 38 (λ c. not (starts_with 91 (call_word c))) ≡ true
unfolding starts_with call_word strain_word level_of strain_of
starts_computed = refl

starts_alike : (word rest : List ℕ) → starts_with 91 word ≡ false → starts_with 91 (word ++ (space ∷ rest)) ≡ false
unfolding starts_with
starts_alike [] rest e = refl
starts_alike (b ∷ word) rest e = e

call_starts : (c : ℕ) → c < 38 → starts_with 91 (call_word c) ≡ false
call_starts c h = not-true _ (every_below_lem 38 (λ c. not (starts_with 91 (call_word c))) starts_computed c h)

no_bracket : (row : List ℕ) → EachBelow 38 row → 1 ≤ length row → starts_with 91 (row_line call_word row) ≡ false
unfolding EachBelow joined_by
no_bracket [] each h = absurd (omega arith)
no_bracket (c ∷ []) each h = call_starts c each.0
no_bracket (c ∷ d ∷ row) each h = starts_alike (call_word c) _ (call_starts c each.0)

bracket : (seat : ℕ) → starts_with 91 (seat_line play_tag seat) ≡ true
unfolding starts_with seat_line
bracket seat = refl

-- ---- line by line
goes_on : (s t : State) (n : ℕ) (line : List ℕ) (parts : List (List ℕ)) → line_in s.stage s.game line ≡ reads t → 1 ≤ length parts
    → parse_from s n (line ∷ parts) ≡ parse_from t (suc n) parts
unfolding parse_from
goes_on s t n line [] e h = absurd (omega arith)
goes_on s t n line (next ∷ parts) e h = rw e

-- ---- the lines of calls: another line may come first, after no line or after full ones
abbrev Opens : Stage → Type 0
Opens stage = (x : Game) (row : List ℕ) → EachBelow 38 row → 1 ≤ length row → line_in stage x (row_line call_word row) ≡ calls_in x (row_line call_word row)

first_opens : Opens first_calls
unfolding line_in
first_opens x row each h = refl

calls_open : Opens calls
unfolding line_in
calls_open x row each h = rw (no_bracket row each h)

abbrev at : Stage → Game → State
at stage x = record { stage = stage; game = x }

-- a line of one to four calls
row_run : (stage : Stage) → Opens stage → (x : Game) (row : List ℕ) (n : ℕ) (parts : List (List ℕ)) → EachBelow 38 row → 1 ≤ length row → length row ≤ 4
    → 1 ≤ length parts → parse_from (at stage x) n (row_line call_word row ∷ parts) ≡ parse_from (at (after_row row) (with_calls x row)) (suc n) parts
row_run stage opens x row n parts each from to more =
    goes_on (at stage x) (at (after_row row) (with_calls x row)) n (row_line call_word row) parts (opens x row each from ∙ calls-whole x row each from to) more

-- what follows the calls, whichever line it is
record Follows (x : Game) (parts : List (List ℕ)) (r : Parsed) : Type 0 where
  full : (n : ℕ) → parse_from (at calls x) n parts ≡ r
  over : (n : ℕ) → parse_from (at calls_over x) n parts ≡ r

both_calls : (x : Game) (row rest : List ℕ) → with_calls (with_calls x row) rest ≡ with_calls x (row ++ rest)
both_calls x row rest = ap (λ l. with_calls (with_none x) l) (append_assoc x.calls row rest)
  where
    with_none : Game → Game
    with_none x = record { board = x.board; first = x.first; holders = x.holders; caller = x.caller; calls = []; play = x.play }

module _ (parts : List (List ℕ)) (r : Parsed) (more : 1 ≤ length parts) where
  calls_run : (cs : List ℕ) (stage : Stage) → Opens stage → (x : Game) (n : ℕ) → EachBelow 38 cs → 1 ≤ length cs → Follows (with_calls x cs) parts r
      → parse_from (at stage x) n (call_lines cs ++ parts) ≡ r
  unfolding fours EachBelow
  calls_run [] stage opens x n each some f = absurd (omega arith)
  calls_run (a ∷ []) stage opens x n each some f =
      row_run stage opens x (a ∷ []) n parts each (lit≤ tt) (lit≤ tt) more ∙ f.over (suc n)
  calls_run (a ∷ b ∷ []) stage opens x n each some f =
      row_run stage opens x (a ∷ b ∷ []) n parts each (lit≤ tt) (lit≤ tt) more ∙ f.over (suc n)
  calls_run (a ∷ b ∷ c ∷ []) stage opens x n each some f =
      row_run stage opens x (a ∷ b ∷ c ∷ []) n parts each (lit≤ tt) (lit≤ tt) more ∙ f.over (suc n)
  calls_run (a ∷ b ∷ c ∷ d ∷ []) stage opens x n each some f =
      row_run stage opens x (a ∷ b ∷ c ∷ d ∷ []) n parts each (lit≤ tt) (lit≤ tt) more ∙ f.full (suc n)
  calls_run (a ∷ b ∷ c ∷ d ∷ e ∷ cs) stage opens x n each some f =
      let row = a ∷ b ∷ c ∷ d ∷ [] in
      let four : EachBelow 38 row = (each.0, (each.1.0, (each.1.1.0, (each.1.1.1.0, tt)))) in
      let others = call_lines (e ∷ cs) ++ parts in
      let still : 1 ≤ length others = omega (arith, length-append (call_lines (e ∷ cs)) parts) in
      row_run stage opens x row n others four (lit≤ tt) (lit≤ tt) still
      ∙ calls_run (e ∷ cs) calls calls_open (with_calls x row) (suc n) each.1.1.1.1 (omega arith) (rw (both_calls x row (e ∷ cs)) f)

-- ---- the lines of cards
end_whole : (s : State) (n : ℕ) → may_end s.stage ≡ true → parse_from s n ([] ∷ []) ≡ game s.game
unfolding parse_from end_in
end_whole s n e = rw e

cards_may_end : may_end (cards 0) ≡ true
unfolding may_end
cards_may_end = refl

module _ (x : Game) (seat : ℕ) where
  -- after some cards were listed
  abbrev listing : List ℕ → Game
  listing listed = with_play x (columns seat listed)

  cards_run : (n : ℕ) (listed cs : List ℕ) (m : ℕ) → EachBelow 52 cs → length cs ≡ 4 * n
      → parse_from (at (cards n) (listing listed)) m (card_lines cs ++ ([] ∷ [])) ≡ game (listing (listed ++ cs))
  unfolding fours EachBelow with_row
  cards_run zero listed [] m each all = end_whole _ m cards_may_end ∙ ap (λ l. game (listing l)) (sym (append-nil listed))
  cards_run zero listed (a ∷ cs) m each all = absurd (omega arith)
  cards_run (suc n) listed [] m each all = absurd (omega arith)
  cards_run (suc n) listed (a ∷ []) m each all = absurd (omega arith)
  cards_run (suc n) listed (a ∷ b ∷ []) m each all = absurd (omega arith)
  cards_run (suc n) listed (a ∷ b ∷ c ∷ []) m each all = absurd (omega arith)
  cards_run (suc n) listed (a ∷ b ∷ c ∷ d ∷ cs) m each all =
      let row = a ∷ b ∷ c ∷ d ∷ [] in
      let four : EachBelow 52 row = (each.0, (each.1.0, (each.1.1.0, (each.1.1.1.0, tt)))) in
      let others = card_lines cs ++ ([] ∷ []) in
      let still : 1 ≤ length others = omega (arith, length-append (card_lines cs) ([] ∷ [])) in
      goes_on (at (cards (suc n)) (listing listed)) (at (cards n) (listing (listed ++ row))) m (row_line card_word row) others
      (cards-whole n (listing listed) row four refl) still
      ∙ cards_run n (listed ++ row) cs (suc m) each.1.1.1.1 (omega arith)
      ∙ ap (λ l. game (listing l)) (append_assoc listed row cs)

-- ---- the whole text
play-follows : (x : Game) (play : Listed) → x.play ≡ absent → Listable play → Follows x (play_lines play ++ ([] ∷ [])) (game (with_play x play))
unfolding play_lines may_end line_in
play-follows x absent none ok =
    let same : x ≡ with_play x absent = ap (with_play x) none in
    record {
      full = λ n. end_whole (at calls x) n refl ∙ ap game same;
      over = λ n. end_whole (at calls_over x) n refl ∙ ap game same;
    }
play-follows x (columns seat cs) none ok =
    let others = card_lines cs ++ ([] ∷ []) in
    let still : 1 ≤ length others = omega (arith, length-append (card_lines cs) ([] ∷ [])) in
    let listing : (n : ℕ) → parse_from (at (cards 13) (with_play x (columns seat []))) n others ≡ game (with_play x (columns seat cs))
    = λ n. cards_run x seat 13 [] cs n ok.2 ok.1 in
    let tag = seat_line play_tag seat in
    record {
      full = λ n. goes_on (at calls x) _ n tag others (rw (bracket seat) (play-whole x seat ok.0)) still ∙ listing (suc n);
      over = λ n. goes_on (at calls_over x) _ n tag others (play-whole x seat ok.0) still ∙ listing (suc n);
    }

lines-whole : (x : Game) → Sayable x → parse_from start 1 (game_lines x ++ ([] ∷ [])) ≡ game x
unfolding start game_lines
lines-whole x ok =
    let s = start.game in
    let b = with_board s x.board in
    let d = with_deal b x.first x.holders in
    let a = with_caller d x.caller in
    let tail = play_lines x.play ++ ([] ∷ []) in
    let ends : 1 ≤ length tail = omega (arith, length-append (play_lines x.play) ([] ∷ [])) in
    let rest = (call_lines x.calls ++ play_lines x.play) ++ ([] ∷ []) in
    let more : 1 ≤ length rest = omega (arith, length-append (call_lines x.calls ++ play_lines x.play) ([] ∷ [])) in
    goes_on start (at deal b) 1 _ _ (board-whole s x.board ok.board_from ok.board_to) (omega arith)
    ∙ goes_on (at deal b) (at auction d) 2 _ _ (deal-line-whole b x.first x.holders ok.first ok.deal ok.holders) (omega arith)
    ∙ goes_on (at auction d) (at first_calls a) 3 _ rest (auction-whole d x.caller ok.caller) more
    ∙ ap (parse_from (at first_calls a) 4) (append_assoc (call_lines x.calls) (play_lines x.play) ([] ∷ []))
    ∙ calls_run tail (game x) ends x.calls first_calls first_opens a 4 ok.calls ok.some_call
    (play-follows (with_calls a x.calls) x.play refl ok.play)

-- ---- the text's lines are those of the game
parted_ended : (lines : List (List ℕ)) → AllFree newline lines → parted_by newline (ended lines) ≡ lines ++ ([] ∷ [])
unfolding ended AllFree parted_by
parted_ended [] h = refl
parted_ended (line ∷ lines) h = parted_front newline line (ended lines) h.0 ∙ ap (λ l. line ∷ l) (parted_ended lines h.1)

rows_free : (n : ℕ) (word_of : ℕ → List ℕ) → ((k : ℕ) → k < n → Free newline (word_of k)) → (cs : List ℕ) → EachBelow n cs
    → AllFree newline (map (row_line word_of) (fours cs))
unfolding AllFree fours EachBelow
rows_free n word_of free [] h = tt
rows_free n word_of free (a ∷ []) h = (row-newline n word_of free (a ∷ []) h, tt)
rows_free n word_of free (a ∷ b ∷ []) h = (row-newline n word_of free (a ∷ b ∷ []) h, tt)
rows_free n word_of free (a ∷ b ∷ c ∷ []) h = (row-newline n word_of free (a ∷ b ∷ c ∷ []) h, tt)
rows_free n word_of free (a ∷ b ∷ c ∷ d ∷ cs) h =
    (row-newline n word_of free (a ∷ b ∷ c ∷ d ∷ []) (h.0, (h.1.0, (h.1.1.0, (h.1.1.1.0, tt)))), rows_free n word_of free cs h.1.1.1.1)

free_both : (l m : List (List ℕ)) → AllFree newline l → AllFree newline m → AllFree newline (l ++ m)
unfolding AllFree
free_both [] m h k = k
free_both (line ∷ l) m h k = (h.0, free_both l m h.1 k)

play_free : (play : Listed) → Listable play → AllFree newline (play_lines play)
unfolding AllFree play_lines
play_free absent ok = tt
play_free (columns seat cs) ok = (play-newline seat ok.0, rows_free 52 card_word cards-newline cs ok.2)

pub game_free : (x : Game) → Sayable x → AllFree newline (game_lines x)
unfolding AllFree game_lines
game_free x ok = (
  board-newline x.board,
  (
    deal-newline x.holders x.first ok.first,
    (
      auction-newline x.caller ok.caller,
      free_both (call_lines x.calls) (play_lines x.play) (rows_free 38 call_word calls-newline x.calls ok.calls) (play_free x.play ok.play),
    ),
  ),
)

pub text_parted : (x : Game) → Sayable x → parted_by newline (text x) ≡ game_lines x ++ ([] ∷ [])
unfolding text
text_parted x ok = parted_ended (game_lines x) (game_free x ok)

-- a text of the subset is read as what it is the text of
pub read_back : (x : Game) → Sayable x → parse (text x) ≡ game x
unfolding parse
read_back x ok = rw (text_parted x ok) (lines-whole x ok)

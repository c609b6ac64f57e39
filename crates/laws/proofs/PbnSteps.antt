-- Reading a text of Portable Bridge Notation line by line: each line that is read is one more of those that what was read says. Assumes nothing.
use Rattle.std.specs.Prelude.{if◌then◌else◌}
use Prim.Native.Nat.{ℕ, zero, suc, ◌+◌, ◌%◌, ◌≤◌, ◌<◌}
use native.Mathlib.Omega.{arith}
use mathlib.Core.Path.{◌≡◌, refl, sym, ap, ◌∙◌}
use mathlib.Core.Bool.{true, false}
use mathlib.Core.List.{List, [], ◌∷◌, ◌++◌, append_assoc}
use borrow.Author.Tests.{eqb-true, ltb-false}
use lib.Dec.{eqb, ltb}
use lib.ListN.{length, length-append}
use Rattle.laws.specs.Decimal.{starts_with}
use Rattle.laws.specs.PbnText.{absent, columns, Game, EachBelow, call_word, card_word, auction_tag, play_tag}
use Rattle.laws.specs.PbnText.{board_line, seat_line, row_line, fours, call_lines, play_lines, game_lines}
use Rattle.laws.specs.PbnReading.{reads, number_of, row_in, first_in, holders_in, is_deal_line}
use Rattle.laws.specs.PbnReading.{Stage, board, deal, auction, first_calls, calls, calls_over, cards, State}
use Rattle.laws.specs.PbnReading.{with_board, with_deal, with_caller, with_calls, with_play, with_row, calls_in, play_in, cards_in, board_in, line_in}
use Rattle.laws.proofs.Tests.{by_test}
use Rattle.laws.proofs.PbnWords.{misses-reads, reads_same, first_read, number_sound, row_sound}
use Rattle.laws.proofs.PbnDeal.{deal_sound}
use Rattle.laws.proofs.PbnStages.{next_row, each_append, Bare, Called, Base, with_play_lem, Fine, said, Step, tags, bare_lines, called-lines, listed-lines}

step_is : {lines : List (List ℕ)} {line word : List ℕ} {s t : State} → t ≡ s → line ≡ word → Step lines word t → Step lines line s
step_is z e step = rw (← z, e) step

-- ---- the board, the deal and the seat of the Auction tag
board_sound : (line : List ℕ) (n : ℕ) → board_in line ≡ reads n → (1 ≤ n) × (n ≤ 999) × (line ≡ board_line n)
unfolding board_in
board_sound line n e =
    let r = first_read (number_of (λ n. board_line (suc n)) 999 line) _ e in
    let k = number_sound (λ n. board_line (suc n)) 999 line r.0 r.1 in
    let z : suc r.0 ≡ n = reads_same r.2 in
    rw (← z) (omega arith, k.0, k.1)

board-step : (x : Game) (line : List ℕ) (s : State) → Fine board x → line_in board x line ≡ reads s → Step [] line s
unfolding line_in
board-step x line s f e =
    let r = first_read (board_in line) _ e in
    let k = board_sound line r.0 r.1 in
    let b = f.base in
    let z : record { stage = deal; game = with_board x r.0 } ≡ s = reads_same r.2 in
    rw (← z)
    (record {
      fine =
          record {
            base =
                record {
                  board_from = k.0;
                  board_to = k.1;
                  first = b.first;
                  all = b.all;
                  holders = b.holders;
                  caller = b.caller;
                  each = b.each;
                };
            at = record { no_calls_lem = f.at.no_calls_lem; no_play = f.at.no_play };
          };
      says = ap (λ l. l ∷ []) (sym k.2);
    })

deal-step : (x : Game) (line : List ℕ) (s : State) → Fine deal x → line_in deal x line ≡ reads s → Step (said deal x) line s
unfolding line_in
deal-step x line s f e =
    by_test (is_deal_line line)
    (λ (q : is_deal_line line ≡ true).
    let k = deal_sound line q in
    let b = f.base in
    let z : record { stage = auction; game = with_deal x (first_in line) (holders_in line) } ≡ s = reads_same (rw q at e) in
    rw (← z)
    (record {
      fine =
          record {
            base =
                record {
                  board_from = b.board_from;
                  board_to = b.board_to;
                  first = k.0;
                  all = k.1;
                  holders = k.2;
                  caller = b.caller;
                  each = b.each;
                };
            at = record { no_calls_lem = f.at.no_calls_lem; no_play = f.at.no_play };
          };
      says = ap (λ l. board_line x.board ∷ l ∷ []) (sym k.3);
    }))
    (λ (q : is_deal_line line ≡ false). misses-reads (rw q at e))

auction-said : (x : Game) (seat : ℕ) → Fine auction x → seat < 4
    → Step (said auction x) (seat_line auction_tag seat) (record { stage = first_calls; game = with_caller x seat })
auction-said x seat f low =
    let b = f.base in
    let bare : Bare (with_caller x seat) = record { no_calls_lem = f.at.no_calls_lem; no_play = f.at.no_play } in
    record {
      fine =
          record {
            base =
                record {
                  board_from = b.board_from;
                  board_to = b.board_to;
                  first = b.first;
                  all = b.all;
                  holders = b.holders;
                  caller = low;
                  each = b.each;
                };
            at = bare;
          };
      says = bare_lines (with_caller x seat) bare;
    }

auction-step : (x : Game) (line : List ℕ) (s : State) → Fine auction x → line_in auction x line ≡ reads s → Step (said auction x) line s
unfolding line_in
auction-step x line s f e =
    let r = first_read (number_of (seat_line auction_tag) 4 line) _ e in
    let k = number_sound (seat_line auction_tag) 4 line r.0 r.1 in
    let z : record { stage = first_calls; game = with_caller x r.0 } ≡ s = reads_same r.2 in
    step_is z k.1 (auction-said x r.0 f k.0)

-- ---- calls
abbrev pub after_row : List ℕ → Stage
after_row row = if eqb (length row) 4 then calls else calls_over

after-row : (row : List ℕ) (y : Game) → said (after_row row) y ≡ game_lines y
after-row row y =
    by_test (eqb (length row) 4) (λ (q : eqb (length row) 4 ≡ true). rw q) (λ (q : eqb (length row) 4 ≡ false). rw q)

pub calls-said : (x : Game) (row : List ℕ) → Base x → length x.calls % 4 ≡ 0 → x.play ≡ absent → EachBelow 38 row → 1 ≤ length row → length row ≤ 4
    → Step (game_lines x) (row_line call_word row) (record { stage = after_row row; game = with_calls x row })
calls-said x row b whole no_play each from to =
    let y = with_calls x row in
    let many : length y.calls ≡ length x.calls + length row = length-append x.calls row in
    let c : Called y = record { some_call = omega arith; no_play = no_play } in
    record {
      fine =
          record {
            base =
                record {
                  board_from = b.board_from;
                  board_to = b.board_to;
                  first = b.first;
                  all = b.all;
                  holders = b.holders;
                  caller = b.caller;
                  each = each_append 38 x.calls row b.each each;
                };
            at =
                by_test (eqb (length row) 4)
                (λ (q : eqb (length row) 4 ≡ true).
                let four : length row ≡ 4 = eqb-true _ _ q in
                rw q (c, omega arith))
                (λ (q : eqb (length row) 4 ≡ false). rw q c);
          };
      says =
          after-row row y
          ∙ called-lines y no_play
          ∙ ap (λ l. tags x ++ l) (next_row call_word x.calls row whole from to)
          ∙ ap (λ l. l ++ (row_line call_word row ∷ [])) (sym (called-lines x no_play));
    }

calls-step : (x : Game) (line : List ℕ) (s : State) → Base x → length x.calls % 4 ≡ 0 → x.play ≡ absent → calls_in x line ≡ reads s
    → Step (game_lines x) line s
unfolding calls_in
calls-step x line s b whole no_play e =
    let r = first_read (row_in call_word 38 line) _ e in
    let k = row_sound call_word 38 line r.0 r.1 in
    by_test (ltb 4 (length r.0))
    (λ (q : ltb 4 (length r.0) ≡ true). misses-reads (rw q at r.2))
    (λ (q : ltb 4 (length r.0) ≡ false).
    let z : record { stage = after_row r.0; game = with_calls x r.0 } ≡ s = reads_same (rw q at r.2) in
    step_is z k.2 (calls-said x r.0 b whole no_play k.0 k.1 (ltb-false 4 _ q)))

-- ---- the Play tag
play-said : (x : Game) (seat : ℕ) → Base x → Called x → seat < 4
    → Step (game_lines x) (seat_line play_tag seat) (record { stage = cards 13; game = with_play x (columns seat []) })
unfolding game_lines play_lines fours EachBelow
play-said x seat b c low =
    record {
      fine =
          record {
            base = with_play_lem x _ b;
            at = (c.some_call, record { seat = seat; listed = []; is = refl; low = low; each = tt; left = refl });
          };
      says = ap (λ l. l ++ (seat_line play_tag seat ∷ [])) (sym (called-lines x c.no_play));
    }

play-step : (x : Game) (line : List ℕ) (s : State) → Base x → Called x → play_in x line ≡ reads s → Step (game_lines x) line s
unfolding play_in
play-step x line s b c e =
    let r = first_read (number_of (seat_line play_tag) 4 line) _ e in
    let k = number_sound (seat_line play_tag) 4 line r.0 r.1 in
    let z : record { stage = cards 13; game = with_play x (columns r.0 []) } ≡ s = reads_same r.2 in
    step_is z k.1 (play-said x r.0 b c k.0)

-- ---- cards
cards-said : (n : ℕ) (x : Game) (row : List ℕ) → Fine (cards (suc n)) x → EachBelow 52 row → length row ≡ 4
    → Step (game_lines x) (row_line card_word row) (record { stage = cards n; game = with_play x (with_row x.play row) })
unfolding with_row
cards-said n x row f each four =
    let b = f.base in
    let l = f.at.1 in
    let before = l.listed in
    let y = with_play x (with_row x.play row) in
    let more : y.play ≡ columns l.seat (before ++ row) = ap (λ p. with_row p row) l.is in
    let many = length-append before row in
    let all = l.left in
    record {
      fine =
          record {
            base = with_play_lem x _ b;
            at = (
              f.at.0,
              record {
                seat = l.seat;
                listed = before ++ row;
                is = more;
                low = l.low;
                each = each_append 52 before row l.each each;
                left = omega arith;
              },
            );
          };
      says =
          listed-lines y l.seat (before ++ row) more
          ∙ ap (λ rows. (tags x ++ call_lines x.calls) ++ (seat_line play_tag l.seat ∷ rows))
          (next_row card_word before row (omega arith) (omega arith) (omega arith))
          ∙ sym (append_assoc (tags x ++ call_lines x.calls) _ _)
          ∙ ap (λ lines. lines ++ (row_line card_word row ∷ [])) (sym (listed-lines x l.seat before l.is));
    }

cards-step : (n : ℕ) (x : Game) (line : List ℕ) (s : State) → Fine (cards (suc n)) x → cards_in n x line ≡ reads s → Step (game_lines x) line s
unfolding cards_in
cards-step n x line s f e =
    let r = first_read (row_in card_word 52 line) _ e in
    let k = row_sound card_word 52 line r.0 r.1 in
    by_test (eqb (length r.0) 4)
    (λ (q : eqb (length r.0) 4 ≡ true).
    let z : record { stage = cards n; game = with_play x (with_row x.play r.0) } ≡ s = reads_same (rw q at r.2) in
    step_is z k.2 (cards-said n x r.0 f k.0 (eqb-true _ _ q)))
    (λ (q : eqb (length r.0) 4 ≡ false). misses-reads (rw q at r.2))

-- ---- any line
pub step_sound : (stage : Stage) (x : Game) (line : List ℕ) (s : State) → Fine stage x → line_in stage x line ≡ reads s → Step (said stage x) line s
unfolding line_in
step_sound board x line s f e = board-step x line s f e
step_sound deal x line s f e = deal-step x line s f e
step_sound auction x line s f e = auction-step x line s f e
step_sound first_calls x line s f e =
    let none : length x.calls ≡ 0 = ap length f.at.no_calls_lem in
    calls-step x line s f.base (omega arith) f.at.no_play e
step_sound calls x line s f e =
    by_test (starts_with 91 line)
    (λ (q : starts_with 91 line ≡ true). play-step x line s f.base f.at.0 (rw q at e))
    (λ (q : starts_with 91 line ≡ false). calls-step x line s f.base f.at.1 f.at.0.no_play (rw q at e))
step_sound calls_over x line s f e = play-step x line s f.base f.at e
step_sound (cards zero) x line s f e = misses-reads e
step_sound (cards (suc n)) x line s f e = cards-step n x line s f e

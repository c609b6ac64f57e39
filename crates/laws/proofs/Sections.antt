-- Each section of the judge up to the cards is exact: what it takes, as facts of what was read, and the fields that stand there. Assumes nothing.
use Prim.Native.Nat.{ℕ, zero, suc, ◌+◌, ◌≤◌, ◌<◌}
use native.Mathlib.Omega.{arith}
use mathlib.Core.Path.{◌≡◌, refl, sym, ap, ◌∙◌}
use mathlib.Core.Bool.{true, false, not}
use mathlib.Core.List.{List, [], ◌∷◌, reverse, reverse-reverse}
use borrow.Author.Tests.{not-false, eqb-true, eqb-false, eq-eqb, ne_eqb, le-ltb, ltb-false}
use lib.Dec.{eqb, ltb, lit<}
use lib.ListN.{length}
use Rattle.laws.specs.Refusals.{no_board_or_table, not_thirteen, auction_unfinished, too_many_cards}
use Rattle.laws.specs.Cards.{no_seat, cards_dealt, has_thirteen, first_without_thirteen, seat_without_thirteen}
use Rattle.laws.specs.Auction.{is_over, passed_out, allowed, trump_after, opening_after}
use Rattle.laws.specs.CallRefusal.{call_refusal, call_place}
use Rattle.laws.specs.Events.{Event, cards_among, codes_of}
use Rattle.laws.specs.CodeRefusal.{most_codes}
use Rattle.laws.specs.Reading.{number_at, Reading.found, Reader, read_row, read_each}
use Rattle.laws.specs.Plays.{read_plays, EachStands, CardsFollow}
use Rattle.laws.specs.Record.{Field, field, row, play_fields}
use Rattle.laws.specs.Judge.{Heading, read_heading, read_deal, read_calls, read_cards}
use Rattle.laws.proofs.Tests.{by_test, or_left, or_right}
use Rattle.laws.proofs.Bits.{number_lt}
use Rattle.laws.proofs.CallRefusals.{accepted-is}
use Rattle.laws.proofs.Plays.{plays-read, plays_go}
use Rattle.laws.proofs.Histories.{Each}
use Rattle.laws.proofs.Readings.{first-of, first_read, first_test, read_is, test_is}
use Rattle.laws.proofs.Exact.{Exact, landed, stands_cons, stands_here, stands-fits, stands-rest, stands_nil, stands_end, Narrow, row_exact, each_exact}

from_one : (n : ℕ) → eqb n 0 ≡ false → 1 ≤ n
from_one zero e = absurd (eqb-false 0 0 e refl)
from_one (suc n) e = omega arith

-- board and table
pub record HeadingStands (x : Heading) : Type 0 where
  pub board_from : 1 ≤ x.board
  pub board_to : x.board ≤ 127
  pub table_from : 1 ≤ x.table
  pub table_to : x.table ≤ 511

abbrev pub heading_fields : Heading → List Field
heading_fields x = field 7 x.board ∷ field 9 x.table ∷ []

pub heading_exact : Exact read_heading HeadingStands heading_fields
unfolding read_heading
heading_exact =
    record {
      reads = λ bytes at x end l q.
          let a = first_read 7 bytes at _ q in
          let b = first_read 9 bytes (at + 7) _ a.1 in
          let s = first_test no_board_or_table 0 (eqb (number_at bytes at 7) 0) bytes (at + 7 + 9) _ b.1 in
          let t = first_test no_board_or_table 1 (eqb (number_at bytes (at + 7) 9) 0) bytes (at + 7 + 9) _ s.1 in
          landed HeadingStands heading_fields t.1 (
            record {
              board_from = from_one (number_at bytes at 7) s.0;
              board_to = omega (arith, number_lt bytes at 7);
              table_from = from_one (number_at bytes (at + 7) 9) t.0;
              table_to = omega (arith, number_lt bytes (at + 7) 9);
            },
            stands_cons refl (stands_cons refl (stands_nil refl b.0)),
          );
      is = λ bytes at x end ok h.
          let k = stands-rest h in
          simp (
            read_is 7 bytes at (stands_here h) (stands-fits h),
            read_is 9 bytes (at + 7) (stands_here k) (stands-fits k),
            test_is,
            ne_eqb x.board 0 (omega (arith, ok.board_from)),
            ne_eqb x.table 0 (omega (arith, ok.table_from)),
            stands_end (stands-rest k),
          );
    }

-- the deal: nobody is short exactly when each seat has thirteen cards
module _ (deal : List ℕ) where
  four : cards_dealt 0 deal ≡ 13 → cards_dealt 1 deal ≡ 13 → cards_dealt 2 deal ≡ 13 → cards_dealt 3 deal ≡ 13 → (seat : ℕ) → seat < 4 → cards_dealt seat deal ≡ 13
  four a b c d zero h = a
  four a b c d (suc zero) h = b
  four a b c d (suc (suc zero)) h = c
  four a b c d (suc (suc (suc zero))) h = d
  four a b c d (suc (suc (suc (suc seat)))) h = absurd (omega arith)

  -- a seat that is not the first of some that are short has thirteen cards, and the rest goes on
  next-short : (seat : ℕ) (rest : List ℕ) → seat < 4 → first_without_thirteen deal (seat ∷ rest) ≡ no_seat
      → (cards_dealt seat deal ≡ 13) × (first_without_thirteen deal rest ≡ no_seat)
  unfolding first_without_thirteen
  next-short seat rest low e =
      by_test (has_thirteen seat deal)
      (λ (q : has_thirteen seat deal ≡ true). (eqb-true (cards_dealt seat deal) 13 q, rw q at e))
      (λ (q : has_thirteen seat deal ≡ false). let z : seat ≡ no_seat = rw q at e in absurd (omega arith))

  pub none-short : seat_without_thirteen deal ≡ no_seat → (seat : ℕ) → seat < 4 → cards_dealt seat deal ≡ 13
  none-short e =
      let n = next-short 0 _ (lit< tt) e in
      let o = next-short 1 _ (lit< tt) n.1 in
      let s = next-short 2 _ (lit< tt) o.1 in
      let w = next-short 3 _ (lit< tt) s.1 in
      four n.0 o.0 s.0 w.0

  pub short_none : ((seat : ℕ) → seat < 4 → cards_dealt seat deal ≡ 13) → seat_without_thirteen deal ≡ no_seat
  unfolding first_without_thirteen
  short_none f = simp (f 0 (lit< tt), f 1 (lit< tt), f 2 (lit< tt), f 3 (lit< tt))

pub record DealStands (deal : List ℕ) : Type 0 where
  pub holders : length deal ≡ 52
  pub seats : Each (Narrow 2) [] deal
  pub thirteen : (seat : ℕ) → seat < 4 → cards_dealt seat deal ≡ 13

pub deal_exact : Exact read_deal DealStands (row 2)
unfolding read_deal
deal_exact =
    record {
      reads = λ bytes at x end l q.
          let a = first-of (read_row 2 52 bytes at) _ q in
          let r = (row_exact 2 52).reads bytes at a.0 a.1 l a.2 in
          let t = first_test not_thirteen (seat_without_thirteen a.0) (not (eqb (seat_without_thirteen a.0) no_seat)) bytes a.1 _ a.3 in
          landed DealStands (row 2) t.1 (
            record { holders = r.0.0; seats = r.0.1; thirteen = none-short a.0 (eqb-true (seat_without_thirteen a.0) no_seat (not-false _ t.0)) },
            r.1,
          );
      is = λ bytes at x end ok h.
          simp (
            (row_exact 2 52).is bytes at x end (ok.holders, ok.seats) h,
            test_is not_thirteen (seat_without_thirteen x) bytes end (passes x (short_none x ok.thirteen)),
          );
    }
  where
    passes : (x : List ℕ) → seat_without_thirteen x ≡ no_seat → not (eqb (seat_without_thirteen x) no_seat) ≡ false
    passes x e = rw (eq-eqb (seat_without_thirteen x) no_seat e)

-- the calls: d the dealer, h the calls before c
abbrev pub MayCall : ℕ → List ℕ → ℕ → Type 0
MayCall d h c = allowed d h c ≡ true

pub record CallsStand (d : ℕ) (h : List ℕ) : Type 0 where
  pub count : length h ≤ 511
  pub allow : Each (MayCall d) [] (reverse h)
  pub over : is_over h ≡ true

abbrev pub calls_fields : List ℕ → List Field
calls_fields h = field 9 (length h) ∷ row 6 (reverse h)

module _ (d : ℕ) where
  -- the codes of the calls
  calls-each : (n : ℕ) → Exact (read_each 6 (call_place d) (call_refusal d) n []) (λ h. (length h ≡ n) × Each (MayCall d) [] (reverse h)) (λ h. row 6 (reverse h))
  calls-each n = each_exact 6 (call_place d) (call_refusal d) (MayCall d) (accepted-is d) n

  pub calls_exact : Exact (read_calls d) (CallsStand d) calls_fields
  unfolding read_calls
  calls_exact =
      record {
        reads = λ bytes at x end l q.
            let n : ℕ = number_at bytes at 9 in
            let a = first_read 9 bytes at _ q in
            let b = first-of (read_each 6 (call_place d) (call_refusal d) n [] bytes (at + 9)) _ a.1 in
            let t = first_test auction_unfinished n (not (is_over b.0)) bytes b.1 _ b.3 in
            let r = (calls-each n).reads bytes (at + 9) b.0 b.1 a.0 b.2 in
            landed (CallsStand d) calls_fields t.1 (
              record { count = omega (arith, r.0.0, number_lt bytes at 9); allow = r.0.1; over = not-false _ t.0 },
              stands_cons (sym r.0.0) r.1,
            );
        is = λ bytes at x end ok h.
            simp (
              read_is 9 bytes at (stands_here h) (stands-fits h),
              (calls-each (length x)).is bytes (at + 9) x end (refl, ok.allow) (stands-rest h),
              test_is,
              ok.over,
            );
      }

-- the cards and the codes before them: h the calls, e the events of the play, latest first
pub record CardsStand (d : ℕ) (deal h : List ℕ) (e : List Event) : Type 0 where
  pub count : cards_among (reverse e) ≤ 52
  pub none_if_passed_out : passed_out h ≡ true → cards_among (reverse e) ≡ 0
  pub each : EachStands (trump_after h) (opening_after d h) deal [] (reverse e)
  pub follow : CardsFollow (reverse e)
  pub codes : codes_of (reverse e) ≤ most_codes

abbrev pub cards_fields : List Event → List Field
cards_fields e = field 6 (cards_among (reverse e)) ∷ play_fields (reverse e)

module _ (d : ℕ) (deal h : List ℕ) (full : length deal ≡ 52) where
  abbrev plays : ℕ → Reader (List Event)
  plays n = read_plays (trump_after h) (opening_after d h) deal n most_codes []

  -- what the play section takes, by the number of cards
  record Many (n : ℕ) (e : List Event) : Type 0 where
    count : cards_among (reverse e) ≡ n
    each : EachStands (trump_after h) (opening_after d h) deal [] (reverse e)
    follow : CardsFollow (reverse e)
    codes : codes_of (reverse e) ≤ most_codes

  plays_exact : (n : ℕ) → Exact (plays n) (Many n) (λ e. play_fields (reverse e))
  plays_exact n =
      record {
        reads = λ bytes at e end l q.
            let t = plays-read (trump_after h) (opening_after d h) deal full n most_codes [] bytes at l q in
            let back : reverse e ≡ t.plays = ap reverse t.history ∙ reverse-reverse t.plays in (
              record { count = rw back t.cards; each = rw back t.each; follow = rw back t.follow; codes = rw back t.codes },
              rw back t.stands,
            );
        is = λ bytes at e end ok k.
            rw (← ok.count) (plays_go (trump_after h) (opening_after d h) deal full (reverse e) [] most_codes bytes at ok.each ok.follow ok.codes k
            ∙ ap (λ (x : List Event). found x end) (reverse-reverse e));
      }

  pub cards_exact : Exact (read_cards d deal h) (CardsStand d deal h) cards_fields
  unfolding read_cards
  cards_exact =
      record {
        reads = λ bytes at x end l q.
            let n : ℕ = number_at bytes at 6 in
            let a = first_read 6 bytes at _ q in
            let t = first_test too_many_cards n _ bytes (at + 6) _ a.1 in
            let r = (plays_exact n).reads bytes (at + 6) x end a.0 t.1 in
            let few : n ≤ 52 = ltb-false 52 n (or_left (ltb 52 n) _ t.0) in
            let rest = or_right (ltb 52 n) _ t.0 in (
              record {
                count = omega (arith, r.0.count);
                none_if_passed_out = λ z. let no = ltb-false _ n (rw z at rest) in omega (arith, r.0.count);
                each = r.0.each;
                follow = r.0.follow;
                codes = r.0.codes;
              },
              stands_cons (sym r.0.count) r.1,
            );
        is = λ bytes at x end ok k.
            let n = cards_among (reverse x) in
            let read = read_is 6 bytes at (stands_here k) (stands-fits k) in
            let many : Many n x = record { count = refl; each = ok.each; follow = ok.follow; codes = ok.codes } in
            let cards = (plays_exact n).is bytes (at + 6) x end many (stands-rest k) in
            by_test (passed_out h)
            (λ (t : passed_out h ≡ true). simp (read, t, le-ltb 52 n ok.count, le-ltb 0 n (omega (arith, ok.none_if_passed_out t)), test_is, cards))
            (λ (f : passed_out h ≡ false). simp (read, f, le-ltb 52 n ok.count, test_is, cards));
      }

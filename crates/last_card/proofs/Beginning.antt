-- The record from its first bit to the end of its calls: what each section's success tells, and the whole from its parts. Assumes nothing.
use Prim.Native.Nat.{ℕ, zero, suc, ◌<◌, ◌+◌, ◌*◌}
use native.Mathlib.Nat.{mul-zero, mul-suc}
use native.Mathlib.Omega.{arith}
use mathlib.Core.Path.{◌≡◌, refl, sym, ap, ◌∙◌}
use mathlib.Core.Bool.{not}
use mathlib.Core.List.{List}
use borrow.Author.Tests.{eqb-true, not-false}
use lib.Dec.{eqb}
use lib.ListN.{length}
use Rattle.laws.specs.Refusals.{Placed, refused_at, given, no_board_or_table, not_thirteen}
use Rattle.laws.specs.Refused.{placed_in}
use Rattle.laws.proofs.Answered.{is-refused, is-found}
use Rattle.laws.specs.Cards.{no_seat, seat_without_thirteen}
use Rattle.laws.specs.Reading.{Reading, Reading.found, onward, read_row}
use Rattle.laws.specs.Law2.{dealer}
use Rattle.laws.specs.Judge as Judge
use Rattle.laws.specs.LastCard.{ToLastCard, read_to_last_card}
use Rattle.laws.proofs.Readings.{first-of, first_read, first_test}
use Rattle.deal.specs.Hands.{words_of}
use Rattle.deal.proofs.Thirteen.{thirteen-each}
use Rattle.auction.specs.Position as Calls
use Rattle.last_card.specs.declared.reading.Heading.{Heading}
use Rattle.last_card.specs.declared.reading.Read.{Read}
use Rattle.deal.specs.declared.given.Dealt.{Dealt}
use Rattle.auction.specs.declared.Auction.{Auction}
use Rattle.last_card.specs.declared.reached.Reached.{Reached}
use Rattle.position.specs.History.{ThirteenEach}
use Rattle.last_card.specs.Sections.{heading_of, deal_of, calls_of}
use Rattle.last_card.specs.Reached.{OfCalls, after_calls, after_deal, reached_of}
use Rattle.last_card.proofs.Told.{told-refused, told-found}
use Rattle.last_card.proofs.Composing.{found-same, calls-next}

-- ---- what a section that was read tells
heading_end : (bytes : List ℕ) {top : Judge.Heading} {e : ℕ} → Judge.read_heading bytes 0 ≡ found top e → e ≡ 16
unfolding Judge.read_heading
heading_end bytes q =
    let a = first_read 7 bytes 0 _ q in
    let b = first_read 9 bytes (0 + 7) _ a.1 in
    let c = first_test no_board_or_table 0 _ bytes (0 + 7 + 9) _ b.1 in
    let d = first_test no_board_or_table 1 _ bytes (0 + 7 + 9) _ c.1 in
    omega (arith, (found-same d.1).1)

row-found : (w n : ℕ) (bytes : List ℕ) (at : ℕ) {l : List ℕ} {e : ℕ} → read_row w n bytes at ≡ found l e → (length l ≡ n) × (e ≡ at + w * n)
unfolding read_row
row-found w zero bytes at q =
    let s = found-same q in
    (ap length (sym s.0), omega (arith, s.1, mul-zero w))
row-found w (suc n) bytes at q =
    let r = first_read w bytes at _ q in
    let b = first-of (read_row w n bytes (at + w)) _ r.1 in
    let f = row-found w n bytes (at + w) b.2 in
    let s = found-same b.3 in
    (ap length (sym s.0) ∙ ap suc f.0, omega (arith, s.1, f.1, mul-suc w n))

pub deal-found : (bytes : List ℕ) (at : ℕ) {deal : List ℕ} {e : ℕ} → Judge.read_deal bytes at ≡ found deal e → ThirteenEach deal × (e ≡ at + 104)
unfolding Judge.read_deal
deal-found bytes at {deal} q =
    let r = first-of (read_row 2 52 bytes at) _ q in
    let t = first_test not_thirteen (seat_without_thirteen r.0) (not (eqb (seat_without_thirteen r.0) no_seat)) bytes r.1 _ r.3 in
    let f = row-found 2 52 bytes at r.2 in
    let s = found-same t.1 in
    let none : seat_without_thirteen deal ≡ no_seat = ap seat_without_thirteen (sym s.0) ∙ eqb-true (seat_without_thirteen r.0) no_seat (not-false _ t.0) in
    (record { places = ap length (sym s.0) ∙ f.0; thirteen = thirteen-each deal none }, omega (arith, s.1, f.1))

-- ---- from the heading on
module _ (bytes : List ℕ) where
  abbrev answer : Placed (Read Reached)
  answer = reached_of (read_to_last_card bytes 0)

  abbrev rest : Judge.Heading → ℕ → Reading ToLastCard
  rest top at = onward (Judge.read_deal bytes at) (λ deal behind. after_deal top.board top.table deal bytes behind)

  by_parts : read_to_last_card bytes 0 ≡ onward (Judge.read_heading bytes 0) rest
  unfolding read_to_last_card after_deal after_calls
  by_parts = refl

  pub heading-refused : {n place : ℕ} → refused_at n place ≡ placed_in heading_of (Judge.read_heading bytes 0) → refused_at n place ≡ answer
  heading-refused e =
      let q = is-refused heading_of (Judge.read_heading bytes 0) e in
      sym (ap reached_of (by_parts ∙ ap (λ (r : Reading Judge.Heading). onward r rest) q))

  module _ {t : Heading} (et : given t ≡ placed_in heading_of (Judge.read_heading bytes 0)) where
    abbrev deal_rest : Reading (List ℕ) → Reading ToLastCard
    deal_rest r = onward r (λ deal behind. after_deal t.board t.table deal bytes behind)

    heading-read : read_to_last_card bytes 0 ≡ deal_rest (Judge.read_deal bytes 16)
    heading-read =
        let f = is-found heading_of (Judge.read_heading bytes 0) et in
        by_parts
        ∙ ap (λ (r : Reading Judge.Heading). onward r rest) f.2
        ∙ ap (rest f.0) (heading_end bytes f.2)
        ∙ ap (λ (x : Heading). onward (Judge.read_deal bytes 16) (λ deal behind. after_deal x.board x.table deal bytes behind)) (sym f.3)

    abbrev dealt_as : List ℕ → Dealt
    dealt_as deal = record { holders = deal; hands = words_of deal }

    pub deal-refused : {n place : ℕ} → refused_at n place ≡ deal_of (Judge.read_deal bytes 16) → refused_at n place ≡ answer
    deal-refused e =
        let q = is-refused dealt_as (Judge.read_deal bytes 16) e in
        sym (ap reached_of (heading-read ∙ ap deal_rest q))

    module _ {d : Dealt} (ed : given d ≡ deal_of (Judge.read_deal bytes 16)) where
      dealt : (deal : List ℕ) × (at : ℕ) × (Judge.read_deal bytes 16 ≡ found deal at) × (d ≡ dealt_as deal)
      dealt = is-found dealt_as (Judge.read_deal bytes 16) ed

      holders_are : d.holders ≡ dealt.0
      holders_are = ap (λ (x : Dealt). x.holders) dealt.3

      pub hands_are : d.hands ≡ words_of d.holders
      hands_are = ap (λ (x : Dealt). x.hands) dealt.3 ∙ ap words_of (sym holders_are)

      pub thirteen_are : ThirteenEach d.holders
      thirteen_are = rw holders_are (deal-found bytes 16 dealt.2).0

      deal-read : read_to_last_card bytes 0 ≡ after_deal t.board t.table d.holders bytes 120
      deal-read =
          let s : dealt.1 ≡ 120 = omega (arith, (deal-found bytes 16 dealt.2).1) in
          heading-read
          ∙ ap deal_rest dealt.2
          ∙ ap (after_deal t.board t.table dealt.0 bytes) s
          ∙ ap (λ (l : List ℕ). after_deal t.board t.table l bytes 120) (sym holders_are)

      module _ (seat : ℕ) (es : seat ≡ dealer t.board) where
        abbrev calls : Reading (List ℕ)
        calls = Judge.read_calls seat bytes 120

        abbrev call_rest : Reading (List ℕ) → Reading ToLastCard
        call_rest r = onward r (λ h behind. after_calls t.board t.table d.holders h bytes behind)

        from-calls : read_to_last_card bytes 0 ≡ call_rest calls
        unfolding after_deal
        from-calls = deal-read ∙ ap (λ (s : ℕ). call_rest (Judge.read_calls s bytes 120)) (sym es)

        pub calls-refused : {n place : ℕ} → refused_at n place ≡ calls_of seat calls → refused_at n place ≡ answer
        calls-refused e = sym (ap reached_of (from-calls ∙ ap call_rest (told-refused (Calls.position_of seat) calls e)))

        module _ {c : Read Auction} (ec : given c ≡ calls_of seat calls) where
          called : (h : List ℕ) × (calls ≡ found h c.next) × (c.value ≡ Calls.position_of seat h)
          called = told-found (Calls.position_of seat) calls ec

          pub calls_bound : c.next < 16384
          calls_bound =
              let n = calls-next seat bytes 120 called.1 in
              omega (arith, n.1)

          pub calls-read : {r : Placed (Read Reached)}
              → ((h : List ℕ) → OfCalls t.board c.value d.holders h → r ≡ reached_of (after_calls t.board t.table d.holders h bytes c.next)) → r ≡ answer
          calls-read f =
              f called.0 (record { deal_of_lem = thirteen_are; position = called.2 ∙ ap (λ (s : ℕ). Calls.position_of s called.0) es })
              ∙ sym (ap reached_of (from-calls ∙ ap call_rest called.1))

-- A section of the record in the code is the Laws' section: a law for each way out, over what was read. Assumes nothing.
use Rattle.std.specs.Prelude.{if◌then◌else◌}
use Prim.Native.Nat.{ℕ, ◌≤◌, ◌<◌, ◌+◌}
use mathlib.Core.Path.{◌≡◌, sym, ap, ◌∙◌}
use mathlib.Core.Bool.{Bool, true, false, not, ◌&&◌, ◌||◌}
use mathlib.Core.List.{List, []}
use native.Mathlib.Omega.{arith}
use borrow.Author.Tests.{eq-eqb, ne_eqb, lt-ltb, le-ltb, ltb-true}
use lib.Dec.{ltb}
use Rattle.laws.specs.Refusals.{Placed, refused_at, given, no_board_or_table, auction_unfinished, too_many_cards}
use Rattle.laws.specs.Refused.{placed_in}
use Rattle.laws.specs.Auction.{is_over}
use Rattle.laws.specs.CallRefusal.{call_refusal, call_place}
use Rattle.laws.specs.CodeRefusal.{most_codes}
use Rattle.laws.specs.Plays.{read_plays}
use Rattle.laws.specs.Reading.{Reading, Reading.refused, Reading.found, onward, read, refuse, read_each}
use Rattle.laws.specs.Judge as Law
use Rattle.laws.proofs.Tests.{by_test}
use Rattle.auction.specs.Asked.{over_of}
use Rattle.auction.proofs.History.{over-is}
use Rattle.auction.specs.declared.Auction.{Auction}
use Rattle.auction.specs.Position.{position_of}
use Rattle.position.specs.declared.table.Table.{Table}
use Rattle.last_card.specs.declared.reading.Read.{Read}
use Rattle.last_card.specs.declared.reading.Heading.{Heading}
use Rattle.last_card.specs.Sections.{heading_of, calls_of, cards_of, cards_by}
use Rattle.last_card.proofs.Told.{told-refused, told-found}

-- ---- board and table
module _ (bytes : List ℕ) where
  abbrev top : Placed Heading
  top = placed_in heading_of (Law.read_heading bytes 0)

  pub heading-short : {n place : ℕ} → read 7 bytes 0 ≡ refused n place → refused_at n place ≡ top
  unfolding Law.read_heading
  heading-short e = rw e

  module _ (board : ℕ) (eb : read 7 bytes 0 ≡ found board 7) where
    pub table-short : {n place : ℕ} → read 9 bytes 7 ≡ refused n place → refused_at n place ≡ top
    unfolding Law.read_heading
    table-short e = rw (eb, e)

    module _ (table : ℕ) (et : read 9 bytes 7 ≡ found table 16) where
      pub no_board : board ≡ 0 → refused_at no_board_or_table 0 ≡ top
      unfolding Law.read_heading refuse
      no_board z = rw (eb, et, eq-eqb board 0 z)

      pub no_table_lem : (board ≡ 0 → ⊥) → table ≡ 0 → refused_at no_board_or_table 1 ≡ top
      unfolding Law.read_heading refuse
      no_table_lem n z = rw (eb, et, ne_eqb board 0 n, eq-eqb table 0 z)

      pub heading-read : (board ≡ 0 → ⊥) → (table ≡ 0 → ⊥) → given (record { board = board; table = table }) ≡ top
      unfolding Law.read_heading refuse
      heading-read n m = rw (eb, et, ne_eqb board 0 n, ne_eqb table 0 m)

-- ---- calls: the count, each call, and the end of the auction
module _ (d : ℕ) (bytes : List ℕ) (at : ℕ) where
  abbrev all : Placed (Read Auction)
  all = calls_of d (Law.read_calls d bytes at)

  pub calls-short : {n place : ℕ} → read 9 bytes at ≡ refused n place → refused_at n place ≡ all
  unfolding Law.read_calls
  calls-short e = rw e

  module _ (count : ℕ) (ec : read 9 bytes at ≡ found count (at + 9)) where
    abbrev each : Reading (List ℕ)
    each = read_each 6 (call_place d) (call_refusal d) count [] bytes (at + 9)

    -- what follows the reading of each call
    abbrev ended : Reading (List ℕ) → Reading (List ℕ)
    ended r = onward r (λ h next. onward (refuse auction_unfinished count (not (is_over h)) bytes next) (λ _ behind. found h behind))

    whole : Law.read_calls d bytes at ≡ ended each
    unfolding Law.read_calls
    whole = rw ec

    pub calls-stopped : {n place : ℕ} → refused_at n place ≡ calls_of d each → refused_at n place ≡ all
    calls-stopped e = sym (ap (calls_of d) (whole ∙ ap ended (told-refused (position_of d) each e)))

    module _ {k : Read Auction} (e : given k ≡ calls_of d each) where
      told : (h : List ℕ) × (each ≡ found h k.next) × (k.value ≡ position_of d h)
      told = told-found (position_of d) each e

      over_told : is_over told.0 ≡ over_of k.value
      over_told = sym (over-is d told.0) ∙ ap over_of (sym told.2)

      pub calls_open : over_of k.value ≡ false → refused_at auction_unfinished count ≡ all
      unfolding refuse
      calls_open o = sym (ap (calls_of d) (whole ∙ ap ended told.1) ∙ rw (over_told ∙ o))

      pub calls-over : over_of k.value ≡ true → given k ≡ all
      unfolding refuse
      calls-over o =
          sym (ap (calls_of d) (whole ∙ ap ended told.1) ∙ rw (over_told ∙ o) (ap (λ (x : Auction). given (record { value = x; next = k.next })) (sym told.2)))

-- more cards than may be played, as one test
over-most : (out : Bool) (count : ℕ) → (ltb 52 count || (out && ltb 0 count)) ≡ ltb (if out then 0 else 52) count
over-most true count =
    by_test (ltb 52 count)
    (λ (q : ltb 52 count ≡ true). rw (q, lt-ltb 0 count (omega (arith, ltb-true 52 count q))))
    (λ (q : ltb 52 count ≡ false). rw q)
over-most false count =
    by_test (ltb 52 count) (λ (q : ltb 52 count ≡ true). rw q) (λ (q : ltb 52 count ≡ false). rw q)

-- and they are at most 52
pub most-le : (out : Bool) (count : ℕ) → count ≤ (if out then 0 else 52) → count ≤ 52
most-le true count h = omega arith
most-le false count h = h

-- ---- cards: the count, then each card with the codes before it
module _ (out : Bool) (trump opening : ℕ) (deal bytes : List ℕ) (at : ℕ) where
  abbrev cards : Placed (Read Table)
  cards = cards_of deal trump opening (cards_by out trump opening deal bytes at)

  pub cards-short : {n place : ℕ} → read 6 bytes at ≡ refused n place → refused_at n place ≡ cards
  unfolding cards_by
  cards-short e = rw e

  module _ (count : ℕ) (ec : read 6 bytes at ≡ found count (at + 6)) where
    pub too_many_cards_lem : (if out then 0 else 52) < count → refused_at too_many_cards count ≡ cards
    unfolding cards_by refuse
    too_many_cards_lem h = rw (ec, over-most out count ∙ lt-ltb (if out then 0 else 52) count h)

    pub cards-read : count ≤ (if out then 0 else 52)
        → cards_of deal trump opening (read_plays trump opening deal count most_codes [] bytes (at + 6)) ≡ cards
    unfolding cards_by refuse
    cards-read h = rw (ec, over-most out count ∙ le-ltb (if out then 0 else 52) count h)

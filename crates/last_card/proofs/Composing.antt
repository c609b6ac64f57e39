-- The sections one after the other: what a reading that succeeds tells, and the whole from its parts. Assumes nothing.
use Prim.Native.Nat.{ℕ, zero, suc, ◌≤◌, ◌<◌, ◌+◌, ◌*◌}
use native.Mathlib.Nat.{mul-zero, mul-suc}
use native.Mathlib.Omega.{arith}
use mathlib.Core.Path.{◌≡◌, refl, sym, ap, ◌∙◌, subst}
use mathlib.Core.Bool.{Bool, not}
use mathlib.Core.List.{List, [], ◌∷◌}
use borrow.Author.Tests.{eqb-true, not-false}
use lib.Dec.{eqb}
use Rattle.laws.specs.Reading.{Reading, Reading.found, onward, number_at, read_each}
use Rattle.laws.specs.Refusals.{refused_at, given, auction_unfinished}
use Rattle.laws.specs.CallRefusal.{call_refusal, call_place}
use Rattle.laws.specs.Events.{Event}
use Rattle.laws.specs.Law2.{dealer}
use Rattle.laws.specs.Auction as Law
use Rattle.laws.specs.Judge as Judge
use Rattle.laws.proofs.Bits.{number_lt}
use Rattle.laws.proofs.Histories.{Clean}
use Rattle.laws.proofs.Readings.{first-of, first_read, first_test}
use Rattle.laws.specs.Cards.{clockwise}
use Rattle.laws.specs.LastCard.{ToLastCard}
use Rattle.auction.specs.declared.Auction.{Auction}
use Rattle.auction.specs.declared.Contract.{Contract}
use Rattle.auction.specs.Asked.{passed_out_of, contract_of, as_law}
use Rattle.auction.proofs.History.{passed_out_is}
use Rattle.auction.proofs.Laws.{contract-is}
use Rattle.position.specs.declared.table.Table.{Table}
use Rattle.position.specs.History.{position_of}
use Rattle.last_card.specs.declared.reading.Read.{Read}
use Rattle.last_card.specs.Sections.{cards_by, cards_of}
use Rattle.last_card.specs.Reached.{OfCalls, after_calls, reached_of}
use Rattle.last_card.proofs.Told.{told-refused, told-found}

-- ---- a reading of codes that succeeds: none was refused, and the bit behind them
pub found-same : {A : Type 0} {h g : A} {at e : ℕ} → ◌≡◌ {A = Reading A} (found h at) (found g e) → (h ≡ g) × (at ≡ e)
found-same q = (cc, cc)

each-found : (w : ℕ) (place rule : List ℕ → ℕ → ℕ) (bytes : List ℕ) (n : ℕ) (h : List ℕ) (at : ℕ) {g : List ℕ} {e : ℕ}
    → read_each w place rule n h bytes at ≡ found g e → Clean rule h → Clean rule g × (e ≡ at + w * n)
unfolding read_each Clean
each-found w place rule bytes zero h at q c =
    let s = found-same q in
    (subst (Clean rule) s.0 c, omega (arith, s.1, mul-zero w))
each-found w place rule bytes (suc n) h at q c =
    let r = first_read w bytes at _ q in
    let code = number_at bytes at w in
    let t = first_test (rule h code) (place h code) (not (eqb (rule h code) 0)) bytes (at + w) _ r.1 in
    let f = each-found w place rule bytes n (code ∷ h) (at + w) t.1 (eqb-true (rule h code) 0 (not-false (eqb (rule h code) 0) t.0), c) in
    (f.0, omega (arith, f.1, mul-suc w n))

-- ---- the calls that were read end soon enough
pub calls-next : (d : ℕ) (bytes : List ℕ) (at : ℕ) {h : List ℕ} {e : ℕ} → Judge.read_calls d bytes at ≡ found h e → (at ≤ e) × (e ≤ at + 3075)
unfolding Judge.read_calls Clean
calls-next d bytes at q =
    let r = first_read 9 bytes at _ q in
    let count = number_at bytes at 9 in
    let s = first-of (read_each 6 (call_place d) (call_refusal d) count [] bytes (at + 9)) _ r.1 in
    let t = first_test auction_unfinished count (not (Law.is_over s.0)) bytes s.1 _ s.3 in
    let f = each-found 6 (call_place d) (call_refusal d) bytes count [] (at + 9) s.2 tt in
    let z = found-same t.1 in
    (omega (arith, f.1, z.1), omega (arith, f.1, z.1, number_lt bytes at 9))

-- the opening leader is a seat
pub leader_lt : (d : ℕ) → clockwise d 1 < 4
unfolding clockwise
leader_lt d = omega arith

-- ---- from the calls on
pub section_cards : (d : ℕ) (deal h bytes : List ℕ) (at : ℕ) → cards_by (Law.passed_out h) (Law.trump_after h) (Law.opening_after d h) deal bytes at
    ≡ Judge.read_cards d deal h bytes at
unfolding cards_by Judge.read_cards
section_cards d deal h bytes at = refl

module _ (board table : ℕ) (a : Auction) (deal h : List ℕ) (told : OfCalls board a deal h) (bytes : List ℕ) (at : ℕ)
    (out : Bool) (eo : out ≡ passed_out_of a) (k : Contract) (ek : k ≡ contract_of a) (opening : ℕ) (ep : opening ≡ clockwise k.declarer 1) where
  passed : out ≡ Law.passed_out h
  passed = eo ∙ ap passed_out_of told.position ∙ passed_out_is (dealer board) h

  contracted : as_law k ≡ Law.contract (dealer board) h
  contracted = ap as_law (ek ∙ ap contract_of told.position) ∙ contract-is (dealer board) h

  trumped : k.strain ≡ Law.trump_after h
  unfolding Law.contract Law.trump_after
  trumped = ap (λ (x : Law.Contract). x.strain) contracted

  led : opening ≡ Law.opening_after (dealer board) h
  unfolding Law.contract Law.opening_after
  led = ep ∙ ap (λ (x : Law.Contract). clockwise x.declarer 1) contracted

  cards_law : cards_by out k.strain opening deal bytes at ≡ Judge.read_cards (dealer board) deal h bytes at
  cards_law = rw (passed, trumped, led) (section_cards (dealer board) deal h bytes at)

  abbrev rest : Reading (List Event) → Reading ToLastCard
  rest r = onward r (λ e next. found (record { board = board; table = table; deal = deal; calls = h; plays = e }) next)

  whole : after_calls board table deal h bytes at ≡ rest (cards_by out k.strain opening deal bytes at)
  unfolding after_calls
  whole = rw cards_law

  abbrev cards : Reading (List Event)
  cards = cards_by out k.strain opening deal bytes at

  pub cards-refused : {n place : ℕ} → refused_at n place ≡ cards_of deal k.strain opening cards
      → refused_at n place ≡ reached_of (after_calls board table deal h bytes at)
  cards-refused e = sym (ap reached_of (whole ∙ ap rest (told-refused (position_of deal k.strain opening) cards e)))

  -- the answer with the position that the cards led to
  pub cards-read : {x : Read Table} → given x ≡ cards_of deal k.strain opening cards
      → given (record { value = record { board = board; table = table; out = out; contract = k; after = x.value }; next = x.next })
      ≡ reached_of (after_calls board table deal h bytes at)
  cards-read {x} e =
      let f = told-found (position_of deal k.strain opening) cards e in
      sym (ap reached_of (whole ∙ ap rest f.1) ∙ rw (← passed, ← trumped, ← led, ← told.position, ← ek, ← f.2))

-- Contents are accepted exactly when they are lawful; both fit their fields. Assumes nothing.
use Prim.Native.Nat.{ℕ, zero, suc, ◌≤◌, ◌<◌}
use native.Mathlib.Omega.{arith}
use mathlib.Core.Path.{◌≡◌, refl, sym, ap, ◌∙◌}
use mathlib.Core.Logic.{◌↔◌}
use mathlib.Core.Bool.{true, false, not, ◌||◌}
use mathlib.Core.List.{List, [], ◌∷◌, reverse, reverse-reverse}
use borrow.Author.Tests.{eqb-true, leb-true, ltb-false, not-false, not-true}
use lib.Dec.{ltb, eqb}
use lib.ListN.{length, get_or}
use Rattle.laws.specs.Choice.{some}
use Rattle.laws.specs.Refusals.{accepted, no_board_or_table, not_thirteen, no_claim_point, too_many_calls}
use Rattle.laws.specs.Cards.{no_seat, cards_dealt, seat_without_thirteen}
use Rattle.laws.specs.Law2.{dealer}
use Rattle.laws.specs.Auction.{passed_out}
use Rattle.laws.specs.CallRefusal.{call_refusal, call_place}
use Rattle.laws.specs.Law44.{cards_played, tricks_left}
use Rattle.laws.specs.Events.{Event, cards_of, cards_among}
use Rattle.laws.specs.FlatPlay.{items_of, cards_in, events_among}
use Rattle.laws.specs.Law68.{Claim, none, agreed, at_claim_point, claimable}
use Rattle.laws.specs.Record.{Parts, encode, packed}
use Rattle.laws.specs.Bytes.{Bytes}
use Rattle.laws.specs.Reading.{Reading, Reading.refused as stopped, Reading.found, refuse}
use Rattle.laws.specs.Judge.{Outcome.accepted as taken, outcome, Rooms, least_rooms, Enough, judge_of}
use Rattle.laws.specs.Lawful.{Claimed, Lawful}
use Rattle.laws.specs.Contents.{Given, given_of, Fits}
use Rattle.laws.specs.Contents.{take_heading, are_seats, take_deal, take_each, take_calls, take_cards, take_claim, take_parts, contents_of}
use Rattle.laws.proofs.Tests.{by_test, and_left, and_right, or_left, or_right}
use Rattle.laws.proofs.Bytes.{bytes-of}
use Rattle.laws.proofs.CallRefusals.{accepted-is, allowed_lt}
use Rattle.laws.proofs.FlatPlay.{flat_back}
use Rattle.laws.proofs.PlaysFit.{each_fits}
use Rattle.laws.proofs.ItemsTaken.{Kept, cards-of-items, cards-kept}
use Rattle.laws.proofs.Histories.{Each, each-place}
use Rattle.laws.proofs.Readings.{refused-found, first-of, first_test}
use Rattle.laws.proofs.Sections.{none-short}
use Rattle.laws.proofs.Accepts.{least-enough, lent_is, read_back, accepts_parts}
use Rattle.laws.proofs.Contents.{as_judged}

-- ---- what the checks of a section let through
pub heading-kept : (board table from : ℕ) {u : Unit {0}} {m : ℕ} → take_heading board table [] from ≡ found u m → (board ≤ 127) × (table ≤ 511)
unfolding take_heading
heading-kept board table from q =
    let a = first_test no_board_or_table 0 (ltb 127 board) [] from _ q in
    let b = first_test no_board_or_table 0 (eqb board 0) [] from _ a.1 in
    let c = first_test no_board_or_table 1 (ltb 511 table) [] from _ b.1 in
    (ltb-false 127 board a.0, ltb-false 511 table c.0)

pub each-seat : (l : List ℕ) → some (λ holder. ltb 3 holder) l ≡ false → (k : ℕ) → k < length l → get_or l k 0 ≤ 3
unfolding some
each-seat [] e k h = absurd (omega arith)
each-seat (x ∷ l) e zero h = ltb-false 3 x (or_left (ltb 3 x) _ e)
each-seat (x ∷ l) e (suc k) h = each-seat l (or_right (ltb 3 x) _ e) k (omega arith)

-- 52 holders, each a seat
pub record Seated (deal : List ℕ) : Type 0 where
  pub all : length deal ≡ 52
  pub seat : (k : ℕ) → k < 52 → get_or deal k 0 ≤ 3

pub deal-kept : (deal : List ℕ) (from : ℕ) {u : Unit {0}} {m : ℕ} → take_deal deal [] from ≡ found u m → Seated deal
unfolding take_deal are_seats
deal-kept deal from q =
    let a = first_test not_thirteen no_seat (not (are_seats deal)) [] from _ q in
    let seats = not-false (are_seats deal) a.0 in
    let all : length deal ≡ 52 = eqb-true (length deal) 52 (and_left (eqb (length deal) 52) _ seats) in
    record { all = all; seat = λ k h. each-seat deal (not-true _ (and_right (eqb (length deal) 52) _ seats)) k (omega arith) }

-- thirteen cards for each seat
pub deal-thirteen : (deal : List ℕ) (from : ℕ) {u : Unit {0}} {m : ℕ} → take_deal deal [] from ≡ found u m
    → (length deal ≡ 52) × ((seat : ℕ) → seat < 4 → cards_dealt seat deal ≡ 13)
unfolding take_deal refuse
deal-thirteen deal from q =
    let a = first_test not_thirteen no_seat (not (are_seats deal)) [] from _ q in
    let short = seat_without_thirteen deal in (
      (deal-kept deal from q).all,
      by_test (eqb short no_seat)
          (λ (e : eqb short no_seat ≡ true). none-short deal (eqb-true short no_seat e))
          (λ (e : eqb short no_seat ≡ false). refused-found (rw e at a.1)),
    )

module _ (place rule : List ℕ → ℕ → ℕ) where
  pub each-kept : (l h : List ℕ) (from : ℕ) {g : List ℕ} {m : ℕ} → take_each place rule l h [] from ≡ found g m → Each (λ b c. rule b c ≡ accepted) h l
  unfolding take_each Each
  each-kept [] h from e = tt
  each-kept (c ∷ l) h from e =
      let t = first_test (rule h c) (place h c) (not (eqb (rule h c) accepted)) [] from _ e in
      (eqb-true (rule h c) accepted (not-false _ t.0), each-kept l (c ∷ h) from t.1)

-- codes that an auction allows
pub record Allowed (calls : List ℕ) : Type 0 where
  pub few : length calls ≤ 511
  pub code : (k : ℕ) → k < length calls → get_or calls k 0 ≤ 63

pub allowed-each : (d : ℕ) (calls : List ℕ) → length calls ≤ 511 → Each (λ h c. call_refusal d h c ≡ accepted) [] calls → Allowed calls
allowed-each d calls few e =
    let at = (each-place (λ h c. call_refusal d h c ≡ accepted) calls).0 e in
    record {
      few = few;
      code = λ k h. let b = allowed_lt d _ _ ((accepted-is d _ _).0 (at k h)) in omega arith;
    }

calls-kept : (d : ℕ) (calls : List ℕ) (from : ℕ) {h : List ℕ} {m : ℕ} → take_calls d calls [] from ≡ found h m → Allowed calls
unfolding take_calls
calls-kept d calls from q =
    let t = first_test too_many_calls 511 (ltb 511 (length calls)) [] from _ q in
    let a = first-of (take_each (call_place d) (call_refusal d) calls [] [] from) _ t.1 in
    allowed-each d calls (ltb-false 511 (length calls) t.0) (each-kept (call_place d) (call_refusal d) calls [] from a.2)

at_most_13 : (g : List ℕ) (n : ℕ) → claimable g n ≡ true → n ≤ 13
unfolding claimable tricks_left
at_most_13 g n c = let l = leb-true n _ c in omega arith

claim-kept : (h g : List ℕ) (claim : Claim) (from : ℕ) {u : Unit {0}} {m : ℕ} → take_claim h g claim [] from ≡ found u m
    → (tricks : ℕ) → claim ≡ agreed tricks → tricks ≤ 15
unfolding take_claim refuse
claim-kept h g none from q tricks e = absurd (let z : ◌≡◌ {A = ℕ} 0 1 = cc in omega arith)
claim-kept h g (agreed n) from q tricks e =
    let a = first_test no_claim_point (cards_played g) (passed_out h || not (at_claim_point g)) [] from _ q in
    let same : n ≡ tricks = cc in
    by_test (claimable g n)
    (λ (c : claimable g n ≡ true). omega (arith, at_most_13 g n c))
    (λ (c : claimable g n ≡ false). refused-found (rw c at a.1))

-- ---- accepted, and lawful
-- parts from given contents, with these events
abbrev parts_with : Given → List Event → Parts
parts_with c plays = record { board = c.board; table = c.table; deal = c.deal; calls = c.calls; plays = plays; claim = c.claim }

few-cards : (l : List ℕ) → cards_in l ≤ 52 → cards_among (events_among (items_of l)) ≤ 52
unfolding cards_in
few-cards l few = rw (← cards-of-items (items_of l)) few

fits_all : (c : Given) {from end : ℕ} {e : List Event} → (c.board ≤ 127) × (c.table ≤ 511) → Seated c.deal → Allowed c.calls
    → Kept (items_of c.plays) [] e from end → cards_in c.plays ≤ 52 → ((tricks : ℕ) → c.claim ≡ agreed tricks → tricks ≤ 15)
    → Fits (parts_with c (events_among (items_of c.plays)))
fits_all c top dealt called k few claim =
    record {
      board = top.0;
      table = top.1;
      holders = dealt.all;
      holder = dealt.seat;
      calls = called.few;
      call = called.code;
      cards = let l = few-cards c.plays few in omega (arith, l);
      plays = k.fits;
      follow = k.follow;
      claim = claim;
    }

-- contents that all checks let through are some parts as they are given, and fit their fields
kept-fits : (c : Given) {p : Parts} {m : ℕ} → take_parts c [] 0 ≡ found p m → (c ≡ given_of p) × Fits p
unfolding take_parts
kept-fits c {p} q =
    let d = dealer c.board in
    let a = first-of (take_heading c.board c.table [] 0) _ q in
    let b = first-of (take_deal c.deal [] a.1) _ a.3 in
    let h = first-of (take_calls d c.calls [] b.1) _ b.3 in
    let e = first-of (take_cards d c.deal h.0 c.plays [] h.1) _ h.3 in
    let t = first-of (take_claim h.0 (cards_of e.0) c.claim [] e.1) _ e.3 in
    let same : parts_with c (reverse e.0) ≡ p = cc in
    let top = heading-kept c.board c.table 0 a.2 in
    let dealt = deal-kept c.deal a.1 b.2 in
    let called = calls-kept d c.calls b.1 h.2 in
    let k = cards-kept d c.deal h.0 c.plays h.1 dealt.all e.2 in
    let plays : List Event = events_among (items_of c.plays) in
    let order : reverse e.0 ≡ plays = ap reverse k.items.history ∙ reverse-reverse plays in
    let is : parts_with c plays ≡ p = ap (parts_with c) (sym order) ∙ same in
    rw (← is) (
      ap (λ (l : List ℕ). record { board = c.board; table = c.table; deal = c.deal; calls = c.calls; plays = l; claim = c.claim })
          (sym (flat_back c.plays k.items.whole)),
      fits_all c top dealt called k.items k.few (claim-kept h.0 (cards_of e.0) c.claim e.1 t.2),
    )

pub accepted-fits : (c : Given) {p : Parts} → contents_of c ≡ taken p → (c ≡ given_of p) × Fits p
unfolding contents_of
accepted-fits c {p} e = go (take_parts c [] 0) refl e
  where
    go : (r : Reading Parts) → take_parts c [] 0 ≡ r → outcome r ≡ taken p → (c ≡ given_of p) × Fits p
    go (stopped n place) f o = let z : ◌≡◌ {A = ℕ} 0 1 = cc in absurd (omega arith)
    go (found a m) f o = let same : a ≡ p = cc in rw (← same) (kept-fits c f)

-- lawful contents fit their fields
pub lawful_fit : (p : Parts) → Lawful p → Fits p
lawful_fit p ok =
    record {
      board = ok.layout.board_to;
      table = ok.layout.table_to;
      holders = ok.layout.holders;
      holder = ok.layout.holder;
      calls = ok.layout.calls;
      call = λ k h. let b = allowed_lt (dealer p.board) _ _ (ok.calls.each k h) in omega arith;
      cards = omega (arith, ok.layout.cards);
      plays = each_fits _ _ p.deal ok.layout.holders [] p.plays ok.cards.each;
      follow = ok.cards.follow;
      claim = λ tricks e. claimed tricks (rw e at ok.claim);
    }
  where
    claimed : (tricks : ℕ) → Claimed (reverse p.calls) (cards_of (reverse p.plays)) (agreed tricks) → tricks ≤ 15
    claimed tricks c = omega (arith, at_most_13 (cards_of (reverse p.plays)) tricks c.2)

module _ (rooms : Rooms) (enough : Enough rooms) (p : Parts) where
  -- what the judge says of the record of contents that fit
  pub judged-alike : Fits p → judge_of (encode p) rooms ≡ contents_of (given_of p)
  judged-alike fits = lent_is rooms enough (encode p) ∙ as_judged p fits

bytes_encoded : (p : Parts) → Bytes (encode p)
unfolding encode packed
bytes_encoded p = bytes-of _ _

-- contents are accepted exactly when they are lawful
pub accepted-lawful : (p : Parts) → (contents_of (given_of p) ≡ taken p) ↔ Lawful p
accepted-lawful p = (
  λ e.
      let fits = (accepted-fits (given_of p) e).1 in
      ((accepts_parts least_rooms least-enough (encode p) (bytes_encoded p) p).0 (judged-alike least_rooms least-enough p fits ∙ e)).0,
  λ ok. sym (judged-alike least_rooms least-enough p (lawful_fit p ok)) ∙ read_back least_rooms least-enough p ok,
)

-- What stands in a text of Portable Bridge Notation is checked as a record's contents are, the seats of the tags among them. Assumes nothing.
use Prim.Native.Nat.{ℕ, ◌≤◌}
use mathlib.Core.Path.{◌≡◌, refl, sym, ap, ◌∙◌}
use mathlib.Core.Bool.{true, false, not}
use mathlib.Core.List.{List, [], reverse}
use borrow.Author.Tests.{eq-eqb, ne_eqb, eqb-true, ltb-false, not-false}
use lib.Dec.{ltb, eqb}
use lib.ListN.{length}
use Rattle.laws.specs.Refusals.{too_many_calls, auction_unfinished, outside_subset}
use Rattle.laws.specs.Law2.{dealer}
use Rattle.laws.specs.Auction.{is_over}
use Rattle.laws.specs.CallRefusal.{call_refusal, call_place}
use Rattle.laws.specs.Record.{Parts}
use Rattle.laws.specs.Reading.{Reading, Reading.refused, Reading.found, onward}
use Rattle.laws.specs.Judge.{outcome, Outcome.accepted}
use Rattle.laws.specs.Lawful.{Lawful}
use Rattle.laws.specs.Contents.{take_heading, take_deal, take_each, take_calls, take_parts, contents_of}
use Rattle.laws.specs.PbnText.{Game}
use Rattle.laws.specs.Pbn.{play_line, play_stands, take_game, contents_in, TagsStand}
use Rattle.laws.proofs.Readings.{first-of, first_test, test_is, test_stops}
use Rattle.laws.proofs.ContentsLawful.{each-kept, accepted-fits, accepted-lawful}
use Rattle.laws.proofs.ContentsStop.{each_passes, found-refused}

-- what follows a reading that is found
pub onward-same : {A B : Type 0} (r : Reading A) (f g : A → ℕ → Reading B) → ((a : A) (m : ℕ) → r ≡ found a m → f a m ≡ g a m) → onward r f ≡ onward r g
onward-same (refused n place) f g e = refl
onward-same (found a m) f g e = e a m refl

found-same : {A : Type 0} {a b : A} {m n : ℕ} → ◌≡◌ {A = Reading A} (found a m) (found b n) → a ≡ b
found-same e = cc

-- the history of calls that are taken is the calls, latest first
pub calls_history : (d : ℕ) (calls : List ℕ) (from : ℕ) {h : List ℕ} {m : ℕ} → take_calls d calls [] from ≡ found h m → h ≡ reverse calls
unfolding take_calls
calls_history d calls from {h} {m} e =
    let t = first_test too_many_calls 511 (ltb 511 (length calls)) [] from _ e in
    let r = first-of (take_each (call_place d) (call_refusal d) calls [] [] from) _ t.1 in
    let o = first_test auction_unfinished (length calls) (not (is_over r.0)) [] r.1 _ r.3 in
    let each = each-kept (call_place d) (call_refusal d) calls [] from r.2 in
    let all = each_passes (call_place d) (call_refusal d) calls [] from each in
    sym (found-same o.1) ∙ found-same (sym r.2 ∙ all)

-- calls that are taken can be counted
pub calls-few : (d : ℕ) (calls : List ℕ) (from : ℕ) {h : List ℕ} {m : ℕ} → take_calls d calls [] from ≡ found h m → length calls ≤ 511
unfolding take_calls
calls-few d calls from e = ltb-false 511 (length calls) (first_test too_many_calls 511 (ltb 511 (length calls)) [] from _ e).0

-- where the tags stand, the checks are those of the contents
pub game-taken : (x : Game) (table : ℕ) → TagsStand x → take_game x table [] 0 ≡ take_parts (contents_in x table) [] 0
unfolding take_game take_parts contents_in
game-taken x table s =
    let d = dealer x.board in
    let mine : not (eqb x.caller d) ≡ false = rw (eq-eqb x.caller d s.auction) in
    let there : not (play_stands d (reverse x.calls) x.play) ≡ false = rw s.play in
    onward-same (take_heading x.board table [] 0) _ _
    (λ u m found-heading. rw (test_is outside_subset 3 [] m mine)
    (onward-same (take_deal x.holders [] m) _ _
    (λ u k found-deal. onward-same (take_calls d x.calls [] k) _ _
    (λ h j found-calls. rw (calls_history d x.calls k found-calls, test_is outside_subset (play_line x.calls) [] j there)))))

-- what is taken has tags that stand
pub tags_stand : (x : Game) (table : ℕ) {p : Parts} {m : ℕ} → take_game x table [] 0 ≡ found p m → TagsStand x
unfolding take_game
tags_stand x table e =
    let d = dealer x.board in
    let top = first-of (take_heading x.board table [] 0) _ e in
    let seat = first_test outside_subset 3 (not (eqb x.caller d)) [] top.1 _ top.3 in
    let dealt = first-of (take_deal x.holders [] top.1) _ seat.1 in
    let called = first-of (take_calls d x.calls [] dealt.1) _ dealt.3 in
    let listed = first_test outside_subset (play_line x.calls) (not (play_stands d called.0 x.play)) [] called.1 _ called.3 in
    let h : called.0 ≡ reverse x.calls = calls_history d x.calls dealt.1 called.2 in
    record {
      auction = eqb-true x.caller d (not-false _ seat.0);
      play = ap (λ h. play_stands d h x.play) (sym h) ∙ not-false _ listed.0;
    }

-- and gives lawful parts
pub game-lawful : (x : Game) (table : ℕ) {p : Parts} {m : ℕ} → take_game x table [] 0 ≡ found p m → Lawful p
unfolding contents_of
game-lawful x table {p} taken =
    let accept : contents_of (contents_in x table) ≡ accepted p = ap outcome (sym (game-taken x table (tags_stand x table taken)) ∙ taken) in
    (accepted-lawful p).0 (ap contents_of (sym (accepted-fits (contents_in x table) accept).0) ∙ accept)

-- ---- refusals in their order
-- the checks up to the calls, without those of the tags
unfoldable pub calls_checked : Game → ℕ → Reading (Unit {0})
calls_checked x table =
    onward (take_heading x.board table [] 0)
    (λ u m. onward (take_deal x.holders [] m) (λ v k. onward (take_calls (dealer x.board) x.calls [] k) (λ h j. found tt j)))

pub heading-refused : (x : Game) (table n place : ℕ) → take_heading x.board table [] 0 ≡ refused n place → take_game x table [] 0 ≡ refused n place
unfolding take_game
heading-refused x table n place e = rw e

pub dealer-refused : (x : Game) (table : ℕ) {u : Unit {0}} {m : ℕ} → take_heading x.board table [] 0 ≡ found u m → (x.caller ≡ dealer x.board → ⊥)
    → take_game x table [] 0 ≡ refused outside_subset 3
unfolding take_game
dealer-refused x table {m = m} e other =
    let test : not (eqb x.caller (dealer x.board)) ≡ true = rw (ne_eqb x.caller (dealer x.board) other) in
    rw (e, test_stops outside_subset 3 [] m test)

-- a reading that stops as another does
pub stops_alike : {A B C : Type 0} {n place : ℕ} (r : Reading A) (f : A → ℕ → Reading B) (g : A → ℕ → Reading C)
    → ((a : A) (m : ℕ) → f a m ≡ refused n place → g a m ≡ refused n place) → onward r f ≡ refused n place → onward r g ≡ refused n place
stops_alike (refused n place) f g alike e = cc
stops_alike (found a m) f g alike e = alike a m e

module _ (x : Game) (table : ℕ) (mine : x.caller ≡ dealer x.board) where
  own : not (eqb x.caller (dealer x.board)) ≡ false
  own = rw (eq-eqb x.caller (dealer x.board) mine)

  pub calls-refused : (n place : ℕ) → calls_checked x table ≡ refused n place → take_game x table [] 0 ≡ refused n place
  unfolding take_game calls_checked
  calls-refused n place =
      stops_alike (take_heading x.board table [] 0) _ _
      (λ u m. λ e. rw (test_is outside_subset 3 [] m own)
      (stops_alike (take_deal x.holders [] m) _ _
      (λ v k. stops_alike (take_calls (dealer x.board) x.calls [] k) _ _ (λ h j never. found-refused never)) e))

  pub play-refused : {j : ℕ} → calls_checked x table ≡ found tt j → play_stands (dealer x.board) (reverse x.calls) x.play ≡ false
      → take_game x table [] 0 ≡ refused outside_subset (play_line x.calls)
  unfolding take_game calls_checked
  play-refused e not_there =
      let d = dealer x.board in
      let top = first-of (take_heading x.board table [] 0) _ e in
      let dealt = first-of (take_deal x.holders [] top.1) _ top.3 in
      let called = first-of (take_calls d x.calls [] dealt.1) _ dealt.3 in
      let h : called.0 ≡ reverse x.calls = calls_history d x.calls dealt.1 called.2 in
      let test : not (play_stands d called.0 x.play) ≡ true = ap (λ h. not (play_stands d h x.play)) h ∙ rw not_there in
      rw (top.2, test_is outside_subset 3 [] top.1 own, dealt.2, called.2, test_stops outside_subset (play_line x.calls) [] called.1 test)

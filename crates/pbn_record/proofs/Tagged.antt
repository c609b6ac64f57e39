-- The checks of a text up to Play's tag: a law for each way out of the code, and what holds where none refuses. Assumes nothing.
use Rattle.std.specs.Prelude.{Result, Ok}
use Prim.Native.Nat.{ℕ, ◌≤◌, ◌<◌}
use native.Mathlib.Omega.{arith}
use mathlib.Core.Path.{◌≡◌, refl, sym, ap, ◌∙◌}
use mathlib.Core.Bool.{true, false, not}
use mathlib.Core.List.{List, [], reverse}
use borrow.Author.Tests.{eq-eqb, ne_eqb, eqb-true, not-false}
use lib.Dec.{eqb}
use lib.ListN.{length}
use Rattle.laws.specs.Refusals.{Placed, refused_at, given, outside_subset}
use Rattle.laws.specs.Refused.{checked_in}
use Rattle.laws.proofs.Answered.{is-refused}
use Rattle.laws.specs.Law2.{dealer}
use Rattle.laws.specs.Reading.{Reading, Reading.found, onward, refuse}
use Rattle.laws.specs.Contents.{take_heading, take_deal, take_calls}
use Rattle.laws.specs.PbnText.{Game}
use Rattle.laws.specs.PbnReading.{game}
use Rattle.laws.specs.Pbn.{play_line, play_stands, TagsStand}
use Rattle.laws.proofs.Readings.{first-of, first_test, test_is, test_stops}
use Rattle.laws.proofs.ContentsStop.{heading_stays, deal_stays}
use Rattle.laws.proofs.ContentsLawful.{heading-kept}
use Rattle.laws.proofs.PbnRecord.{calls_history, calls-few}
use Rattle.deal.specs.declared.given.Dealt.{Dealt}
use Rattle.deal.specs.Taking.{taken_by}
use Rattle.contents.proofs.Composing.{passed_on}
use Rattle.pbn_text.specs.declared.game.Game as Told
use Rattle.pbn_text.specs.Kept.{kept_of}
use Rattle.pbn_text.specs.TextOf.{seat_of}
use Rattle.pbn_text.specs.GameIn.{game_in}
use Rattle.pbn_record.specs.Tags.{trump_by, take_auction, take_tags}

-- board and table that pass
module _ (board table : ℕ) {u : Unit {0}} (et : given u ≡ checked_in (take_heading board table [] 0)) where
  pub headed : (v : Unit {0}) × (take_heading board table [] 0 ≡ found v 0)
  headed = let k = passed_on (λ _. tt) (take_heading board table [] 0) (λ v m q. heading_stays board table 0 q) et in (k.0, k.1)

  pub board-low : board < 256
  board-low = omega (arith, (heading-kept board table 0 headed.1).0)

-- what is told of a game
pub same_game : {a b : Told.Game} → ◌≡◌ {A = Result Told.Game ℕ} (Ok a) (Ok b) → a ≡ b
same_game e = cc

module _ (g : Told.Game) (x : Game) (eg : Ok g ≡ game_in (game x)) where
  pub board-told : g.board ≡ x.board
  unfolding game_in
  board-told = ap (λ (t : Told.Game). t.board) (same_game eg)

  caller-told : g.caller ≡ x.caller
  unfolding game_in
  caller-told = ap (λ (t : Told.Game). t.caller) (same_game eg)

  pub holders-told : g.holders ≡ x.holders
  unfolding game_in
  holders-told = ap (λ (t : Told.Game). t.holders) (same_game eg)

  pub calls-told : g.calls ≡ kept_of x.calls
  unfolding game_in
  calls-told = ap (λ (t : Told.Game). t.calls) (same_game eg)

  pub seat-told : g.seat ≡ seat_of x.play
  unfolding game_in
  seat-told = ap (λ (t : Told.Game). t.seat) (same_game eg)

module _ (g : Told.Game) (x : Game) (eg : Ok g ≡ game_in (game x)) (table : ℕ) where
  abbrev after_seat : ℕ → Reading (List ℕ)
  after_seat m = onward (take_deal x.holders [] m) (λ u k. take_auction (dealer x.board) x.calls x.play [] k)

  abbrev after_heading : ℕ → Reading (List ℕ)
  after_heading m = onward (refuse outside_subset 3 (not (eqb x.caller (dealer x.board))) [] m) (λ u k. after_seat k)

  whole : take_tags x table [] 0 ≡ onward (take_heading x.board table [] 0) (λ u m. after_heading m)
  unfolding take_tags
  whole = refl

  same-heading : checked_in (take_heading g.board table [] 0) ≡ checked_in (take_heading x.board table [] 0)
  same-heading = ap (λ (n : ℕ). checked_in (take_heading n table [] 0)) (board-told g x eg)

  pub heading-refused : {n place : ℕ} → refused_at n place ≡ checked_in (take_heading g.board table [] 0)
      → refused_at n place ≡ trump_by (take_tags x table [] 0)
  heading-refused e = rw (whole, is-refused (λ _. tt) (take_heading x.board table [] 0) (e ∙ same-heading)) refl

  module _ {u : Unit {0}} (et : given u ≡ checked_in (take_heading g.board table [] 0)) (seat : ℕ) (es : seat ≡ dealer g.board) where
    seat-is : seat ≡ dealer x.board
    seat-is = es ∙ ap dealer (board-told g x eg)

    whole-seat : take_tags x table [] 0 ≡ after_heading 0
    whole-seat = whole ∙ rw (headed x.board table (et ∙ same-heading)).1 refl

    pub dealer-refused : (g.caller ≡ seat → ⊥) → refused_at outside_subset 3 ≡ trump_by (take_tags x table [] 0)
    dealer-refused h =
        let other : not (eqb x.caller (dealer x.board)) ≡ true
        = rw (ne_eqb x.caller (dealer x.board) (λ q. h ((caller-told g x eg) ∙ q ∙ sym seat-is))) refl in
        rw (whole-seat, test_stops outside_subset 3 [] 0 other) refl

    module _ (mine : g.caller ≡ seat) where
      whole-deal : take_tags x table [] 0 ≡ after_seat 0
      whole-deal =
          let own : not (eqb x.caller (dealer x.board)) ≡ false
          = rw (eq-eqb x.caller (dealer x.board) (sym (caller-told g x eg) ∙ mine ∙ seat-is)) refl in
          whole-seat ∙ rw (test_is outside_subset 3 [] 0 own) refl

      same-deal : taken_by g.holders (take_deal g.holders [] 0) ≡ taken_by x.holders (take_deal x.holders [] 0)
      same-deal = ap (λ (l : List ℕ). taken_by l (take_deal l [] 0)) (holders-told g x eg)

      pub deal-refused : {n place : ℕ} → refused_at n place ≡ taken_by g.holders (take_deal g.holders [] 0)
          → refused_at n place ≡ trump_by (take_tags x table [] 0)
      deal-refused e = rw (whole-deal, is-refused _ (take_deal x.holders [] 0) (e ∙ same-deal)) refl

      pub deal-taken : {t : Dealt} → given t ≡ taken_by g.holders (take_deal g.holders [] 0) → {r : Placed ℕ}
          → r ≡ trump_by (take_auction seat x.calls x.play [] 0) → r ≡ trump_by (take_tags x table [] 0)
      deal-taken et er =
          let dealt = passed_on _ (take_deal x.holders [] 0) (λ u m q. deal_stays x.holders 0 q) (et ∙ same-deal) in
          let last : after_seat 0 ≡ take_auction (dealer x.board) x.calls x.play [] 0 = rw dealt.1 refl in
          er
          ∙ ap (λ (s : ℕ). trump_by (take_auction s x.calls x.play [] 0)) seat-is
          ∙ ap trump_by (sym (whole-deal ∙ last))

-- ---- where no check refuses: the tags stand, the calls can be counted, and the trump is theirs
pub record Stand (x : Game) (h : List ℕ) : Type 0 where
  pub tags : TagsStand x
  pub few : length x.calls ≤ 511
  pub history : h ≡ reverse x.calls

pub tags_taken : (x : Game) (table : ℕ) {h : List ℕ} {m : ℕ} → take_tags x table [] 0 ≡ found h m → Stand x h
unfolding take_tags take_auction
tags_taken x table e =
    let d = dealer x.board in
    let top = first-of (take_heading x.board table [] 0) _ e in
    let seat = first_test outside_subset 3 (not (eqb x.caller d)) [] top.1 _ top.3 in
    let dealt = first-of (take_deal x.holders [] top.1) _ seat.1 in
    let called = first-of (take_calls d x.calls [] dealt.1) _ dealt.3 in
    let listed = first_test outside_subset (play_line x.calls) (not (play_stands d called.0 x.play)) [] called.1 _ called.3 in
    let h : called.0 ≡ reverse x.calls = calls_history d x.calls dealt.1 called.2 in
    record {
      tags = record {
        auction = eqb-true x.caller d (not-false _ seat.0);
        play = ap (λ h. play_stands d h x.play) (sym h) ∙ not-false _ listed.0;
      };
      few = calls-few d x.calls dealt.1 called.2;
      history = sym (same-value listed.1) ∙ h;
    }
  where
    same-value : {a b : List ℕ} {m n : ℕ} → ◌≡◌ {A = Reading (List ℕ)} (found a m) (found b n) → a ≡ b
    same-value q = cc

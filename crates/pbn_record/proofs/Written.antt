-- What is said of a text, by the way out of the code. Assumes nothing.
use Rattle.std.specs.Prelude.{Option, None, Result, Ok, Err}
use Rattle.std.specs.Option.{unwrap_or}
use Prim.Native.Nat.{ℕ, ◌%◌, ◌≤◌, ◌<◌, min}
use native.Mathlib.Omega.{arith}
use mathlib.Core.Path.{◌≡◌, refl, sym, ap, ◌∙◌}
use mathlib.Core.Bool.{not}
use mathlib.Core.List.{List, [], ◌++◌, reverse}
use lib.Dec.{eqb}
use lib.ListN.{length, take, replicate}
use lib.Seq.{take-take, take_at, take_all}
use Rattle.laws.specs.Refusals.{Placed, refused_at, given as answered, outside_subset}
use Rattle.laws.proofs.Answered.{is-refused, is-found}
use Rattle.writer.specs.Answer.{written_by}
use Rattle.laws.specs.Law2.{dealer}
use Rattle.laws.specs.Auction.{trump_after}
use Rattle.laws.specs.Reading.{Reading.refused, Reading.found, refuse}
use Rattle.laws.specs.Judge.{outcome}
use Rattle.laws.specs.Contents.{take_heading, take_deal, take_calls, contents_of}
use Rattle.laws.specs.Writing.{Written, write_by, write_of, record_left}
use Rattle.laws.specs.PbnText.{Listed, absent, columns, Game, Listable, Sayable}
use Rattle.laws.specs.PbnOrder.{order_of_play}
use Rattle.laws.specs.PbnReading.{Parsed, outside, game, parse}
use Rattle.laws.specs.Pbn.{last_place, play_line, play_stands, cards_listed, take_game, pbn_outcome, read_pbn, contents_in}
use Rattle.laws.proofs.PbnParse.{only_so}
use Rattle.laws.proofs.PbnRecord.{game-taken, stops_alike}
use Rattle.contents.specs.Given.{given_with}
use Rattle.pbn_text.specs.declared.game.Game as Told
use Rattle.pbn_text.specs.Kept.{kept_of}
use Rattle.pbn_text.specs.TextOf.{seat_of, listed_of}
use Rattle.pbn_text.specs.GameIn.{game_in}
use Rattle.pbn_record.specs.Tags.{trump_by, take_auction, take_tags, cards_in}
use Rattle.pbn_record.proofs.Auctions.{count-is, calls_are}
use Rattle.pbn_record.proofs.Tagged.{board-told, holders-told, calls-told, seat-told, same_game, Stand, tags_taken}

same_line : {a b : ℕ} → ◌≡◌ {A = Result Told.Game ℕ} (Err a) (Err b) → a ≡ b
same_line e = cc

err_ok : {a : ℕ} {g : Told.Game} → ◌≡◌ {A = Result Told.Game ℕ} (Err a) (Ok g) → ⊥
err_ok e = cc

-- an answer and a buffer are what is said
abbrev pub Says : Written → List ℕ → Placed ℕ → List ℕ → Type 0
Says w old answer left = (answer ≡ written_by w) × (left ≡ record_left w old)

-- ---- a text outside the subset
pub line_low : (p : Parsed) {r : Result Told.Game ℕ} → r ≡ game_in p → (n : ℕ) → r ≡ Err n → n < 65536
unfolding game_in
line_low (outside line) e n z = let l : n ≡ min line last_place = same_line (sym z ∙ e) in omega arith
line_low (game x) e n z = absurd (err_ok (sym z ∙ e))

module _ (t : List ℕ) {r : Result Told.Game ℕ} (er : r ≡ game_in (parse t)) where
  pub outside_told : (table room : ℕ) (old : List ℕ) (n : ℕ) → r ≡ Err n → Says (read_pbn t table room) old (refused_at outside_subset n) old
  unfolding read_pbn pbn_outcome record_left game_in
  outside_told table room old n z = go (parse t) er
    where
      go : (p : Parsed) → r ≡ game_in p → Says (write_by (pbn_outcome p table) room) old (refused_at outside_subset n) old
      go (outside line) e = (ap (refused_at outside_subset) (same_line (sym z ∙ e)), refl)
      go (game x) e = absurd (err_ok (sym z ∙ e))

-- ---- what stands in a text of the subset
pub record Stood (t : List ℕ) (g : Told.Game) : Type 0 where
  pub said : Game
  pub read : parse t ≡ game said
  pub sayable : Sayable said
  pub told : Ok g ≡ game_in (game said)

pub stood : (t : List ℕ) {r : Result Told.Game ℕ} → r ≡ game_in (parse t) → (g : Told.Game) → r ≡ Ok g → Stood t g
unfolding game_in
stood t {r} er g z = go (parse t) refl
  where
    go : (p : Parsed) → parse t ≡ p → Stood t g
    go (outside line) e = absurd (err_ok (sym (er ∙ ap game_in e) ∙ z))
    go (game x) e = record { said = x; read = e; sayable = (only_so t x e).0; told = sym z ∙ er ∙ ap game_in e }

-- ---- the tags
-- where a check up to Play's tag refuses, so do the checks of the whole
begins : (x : Game) (table n place : ℕ) → take_tags x table [] 0 ≡ refused n place → take_game x table [] 0 ≡ refused n place
unfolding take_tags take_auction take_game
begins x table n place =
    stops_alike (take_heading x.board table [] 0) _ _
    (λ u m₁. stops_alike (refuse outside_subset 3 (not (eqb x.caller (dealer x.board))) [] m₁) _ _
    (λ u m₂. stops_alike (take_deal x.holders [] m₂) _ _
    (λ u m₃. stops_alike (take_calls (dealer x.board) x.calls [] m₃) _ _
    (λ h m₄. stops_alike (refuse outside_subset (play_line x.calls) (not (play_stands (dealer x.board) h x.play)) [] m₄) _ _
    (λ u m₅ never. let z : ◌≡◌ {A = ℕ} 0 1 = cc in absurd (omega arith))))))

module _ (t : List ℕ) (table room : ℕ) (x : Game) (read : parse t ≡ game x) where
  said-is : read_pbn t table room ≡ write_by (outcome (take_game x table [] 0)) room
  unfolding read_pbn pbn_outcome
  said-is = rw read refl

  pub tags_refused : {n place : ℕ} → refused_at n place ≡ trump_by (take_tags x table [] 0) → (old : List ℕ)
      → Says (read_pbn t table room) old (refused_at n place) old
  unfolding record_left
  tags_refused {n} {place} e old =
      rw (said-is, begins x table n place (is-refused trump_after (take_tags x table [] 0) e)) (refl, refl)

  module _ {trump : ℕ} (et : answered trump ≡ trump_by (take_tags x table [] 0)) where
    -- the calls that were taken
    pub taken : (h : List ℕ) × (m : ℕ) × (take_tags x table [] 0 ≡ found h m) × (trump ≡ trump_after h)
    taken = is-found trump_after (take_tags x table [] 0) et

    pub stands : Stand x taken.0
    stands = tags_taken x table taken.2

    pub trump_is : trump ≡ trump_after (reverse x.calls)
    trump_is = taken.3 ∙ ap trump_after stands.history

    pub written_as : read_pbn t table room ≡ write_of (contents_in x table) room
    unfolding write_of contents_of
    written_as = said-is ∙ ap (λ r. write_by (outcome r) room) (game-taken x table stands.tags)

    pub count_low : (g : Told.Game) → Ok g ≡ game_in (game x) → g.calls.count ≤ 511
    count_low g e = omega (arith, count-is x.calls g.calls (calls-told g x e), stands.few)

-- ---- what is given to the writer
module _ (x : Game) (ok : Sayable x) (g : Told.Game) (eg : Ok g ≡ game_in (game x)) (table trump : ℕ) (et : trump ≡ trump_after (reverse x.calls)) where
  cards-from : (play : Listed) → Listable play → (seat : Option ℕ) → seat ≡ seat_of play → (cards : List ℕ) → cards ≡ take 52 (kept_of (listed_of play)).numbers
      → (order : List ℕ) → order ≡ order_of_play trump (unwrap_or seat 0 % 4) cards → length order ≡ 52 → take (cards_in seat) order ≡ cards_listed trump play
  unfolding cards_listed kept_of
  cards-from absent low seat es cards ec order eo n = rw es
  cards-from (columns s listed) low seat es cards ec order eo n =
      let same : s % 4 ≡ s = omega (arith, low.0) in
      let whole : cards ≡ listed
      = ec ∙ take-take 52 511 (listed ++ replicate 511 0) (omega arith) ∙ take_at listed (replicate 511 0) 52 low.1 in
      rw es (take_all 52 order (omega arith) ∙ eo ∙ rw (es, same, whole))

  module _ (low : g.calls.count ≤ 511) (holders calls plays order : List ℕ) (eh : holders ≡ g.holders)
      (ec : calls ≡ take g.calls.count g.calls.numbers) (eo : order ≡ order_of_play trump (unwrap_or g.seat 0 % 4) g.cards) (n : length order ≡ 52)
      (ep : plays ≡ take (cards_in g.seat) order) where
    pub given_is : given_with g.board table holders calls plays None ≡ contents_in x table
    unfolding contents_in game_in
    given_is =
        let cards : take (cards_in g.seat) order ≡ cards_listed (trump_after (reverse x.calls)) x.play
        = cards-from x.play ok.play g.seat (seat-told g x eg) g.cards (ap (λ (s : Told.Game). s.cards) (same_game eg)) order eo n
        ∙ ap (λ k. cards_listed k x.play) et in
        rw (board-told g x eg, eh ∙ holders-told g x eg, ec ∙ calls_are x.calls g.calls (calls-told g x eg) low, ep ∙ cards)

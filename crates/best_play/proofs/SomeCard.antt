-- As long as cards are left some card may be played, and best play gives no more tricks than are left. Assumes nothing.
use Prim.Native.Nat.{ℕ, ◌≤◌, ◌<◌}
use native.Mathlib.Omega.{arith}
use mathlib.Core.Path.{◌≡◌, refl, sym, ◌∙◌}
use mathlib.Core.Bool.{Bool, true, false, not, ◌&&◌}
use mathlib.Core.List.{List, [], ◌∷◌, ◌++◌}
use lib.Dec.{eqb}
use lib.ListN.{length}
use Rattle.laws.specs.Choice.{some_below, how_many}
use Rattle.laws.specs.Cards.{no_seat, cards_dealt}
use Rattle.laws.specs.Law44.{cards_played, tricks_complete, tricks_left, cards_in_trick, trick_under_way, suit_led, is_of, to_play, holds, playable}
use Rattle.laws.specs.Law61.{holds_suit, is_revoke}
use Rattle.laws.specs.BestPlay.{may_play, best_play}
use Rattle.laws.specs.Lines.{Legal, played_by}
use Rattle.laws.proofs.Tests.{by_test, and_left, and_right}
use Rattle.laws.proofs.Counts.{many-place, below-some, some_below_lem}
use Rattle.laws.proofs.CardRefusals.{accepted-is}
use Rattle.laws.proofs.BestPlay.{best_card, plays-best, reaches}
use Rattle.laws.proofs.PlayedOut.{keeps_plan, legal_done}
use Rattle.laws.proofs.LineTricks.{ours-complete}
use Rattle.play.specs.History.{AllPlayed, holders_of}
use Rattle.play.proofs.Holders.{turn_seat, holders_52, holds_law}
use Rattle.play.proofs.Thirteen.{thirteen_less, turn_plays, at_most_52}

-- ---- some card may be played as long as cards are left
module _ (trump opening : ℕ) (deal : List ℕ) (all : length deal ≡ 52) (dealt : (seat : ℕ) → seat < 4 → cards_dealt seat deal ≡ 13) where
  -- the seat at turn holds a card
  holds-one : (h : List ℕ) → AllPlayed deal trump opening h → cards_played h < 52
      → (card : ℕ) × (card < 52) × (holds deal h (to_play trump opening h) card ≡ true)
  unfolding cards_dealt tricks_complete
  holds-one h w n =
      let seat = to_play trump opening h in
      let low = turn_seat trump opening h in
      let some : 0 < how_many (λ holder. eqb holder seat) (holders_of deal trump opening h) =
      omega (arith, thirteen_less deal trump opening all seat h low w, turn_plays deal trump opening all dealt h, dealt seat low) in
      let p = many-place (λ holder. eqb holder seat) no_seat (holders_of deal trump opening h) some in
      (p.0, omega (arith, p.1, holders_52 deal trump opening all h), sym (holds_law deal trump opening all h w seat p.0 low) ∙ p.2)

  -- a card that does not revoke
  no_revoke : (h : List ℕ) (c : ℕ) → holds deal h (to_play trump opening h) c ≡ true → is_revoke trump opening deal h c ≡ false
      → may_play trump opening deal h c ≡ true
  unfolding may_play playable
  no_revoke h c k r = rw (k, r)

  pub some-card : (h : List ℕ) → AllPlayed deal trump opening h → cards_played h < 52 → some_below 52 (may_play trump opening deal h) ≡ true
  unfolding is_revoke holds_suit
  some-card h w n =
      let seat = to_play trump opening h in
      let led = suit_led (trick_under_way h) in
      let any = holds-one h w n in
      by_test (holds_suit deal h seat led)
      (λ (q : holds_suit deal h seat led ≡ true).
      let s = below-some (λ card. is_of led card && holds deal h seat card) 52 q in
      let of = and_left (is_of led s.0) (holds deal h seat s.0) s.2 in
      some_below_lem (may_play trump opening deal h) 52 s.0 s.1
      (no_revoke h s.0 (and_right (is_of led s.0) _ s.2) (follows (not (eqb (cards_in_trick h) 0)) (is_of led s.0) _ of)))
      (λ (q : holds_suit deal h seat led ≡ false).
      some_below_lem (may_play trump opening deal h) 52 any.0 any.1
      (no_revoke h any.0 any.2 (cannot (not (eqb (cards_in_trick h) 0)) (not (is_of led any.0)) _ q)))
    where
      follows : (a b c : Bool) → b ≡ true → (a && (not b && c)) ≡ false
      follows true b c e = rw e
      follows false b c e = refl

      cannot : (a b c : Bool) → c ≡ false → (a && (b && c)) ≡ false
      cannot true true c e = e
      cannot true false c e = refl
      cannot false b c e = refl

-- ---- lines from an ending
module _ (trump opening : ℕ) (deal : List ℕ) (all : length deal ≡ 52) (dealt : (seat : ℕ) → seat < 4 → cards_dealt seat deal ≡ 13) (g : List ℕ)
    (w : AllPlayed deal trump opening g) where
  line-played : (u : List ℕ) → Legal trump opening deal g u → AllPlayed deal trump opening (u ++ g)
  unfolding AllPlayed Legal may_play
  line-played [] ok = w
  line-played (c ∷ u) ok =
      ((accepted-is trump opening deal (u ++ g) c all).1 (and_left (playable trump opening deal (u ++ g) c) _ ok.0), line-played u ok.1)

  pub can : (u : List ℕ) → Legal trump opening deal g u → cards_played (u ++ g) < 52 → some_below 52 (may_play trump opening deal (u ++ g)) ≡ true
  can u ok n = some-card trump opening deal all dealt (u ++ g) (line-played u ok) n

  pub few : cards_played g ≤ 52
  few = at_most_52 deal trump opening all g w

  -- the best cards of both sides make a line to the last card, which completes as many tricks as are left
  pub at_most_left : (side : ℕ) → best_play trump opening deal side g ≤ tricks_left g
  unfolding tricks_left tricks_complete
  at_most_left side =
      let card = best_card trump opening deal side g all can in
      let plays = plays-best trump opening deal side g all can in
      let u = played_by trump opening side g card card in
      let l = legal_done trump opening deal side g card card (plays true) (plays false) few in
      omega (
        arith,
        reaches trump opening deal side g all can u l.0 l.1 (keeps_plan trump opening deal side g card card),
        ours-complete trump opening deal side g u,
        l.1,
      )

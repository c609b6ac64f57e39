-- What stands of the deal and of the events of a record that was read up to its last card. Assumes nothing.
use Prim.Native.Nat.{ℕ}
use mathlib.Core.List.{List, reverse, reverse-reverse}
use Rattle.laws.specs.Law2.{dealer}
use Rattle.laws.specs.Auction as Law
use Rattle.laws.specs.Kept.{NoneRefused}
use Rattle.laws.specs.LastCard.{ToLastCard}
use Rattle.laws.proofs.LastCard.{Standing}
use Rattle.laws.proofs.Plays.{none_refused}
use Rattle.position.specs.History.{ThirteenEach}

module _ {bytes : List ℕ} {r : ToLastCard} {at : ℕ} (s : Standing bytes r at) where
  pub thirteen-each : ThirteenEach r.deal
  thirteen-each = record { places = s.dealt.holders; thirteen = s.dealt.thirteen }

  pub events_played : NoneRefused (Law.trump_after r.calls) (Law.opening_after (dealer r.board) r.calls) r.deal r.plays
  events_played =
      rw (← reverse-reverse r.plays)
      (none_refused (Law.trump_after r.calls) (Law.opening_after (dealer r.board) r.calls) r.deal s.dealt.holders (reverse r.plays)
      s.played.each s.played.codes)

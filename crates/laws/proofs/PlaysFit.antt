-- Plays that may stand have numbers that their fields can hold, and such numbers fit the fields. Assumes nothing.
use Rattle.std.specs.Prelude.{if◌then◌else◌}
use Prim.Native.Nat.{ℕ, ◌<◌}
use native.Mathlib.Omega.{arith}
use mathlib.Core.Path.{◌≡◌}
use mathlib.Core.Bool.{Bool, true, false}
use mathlib.Core.List.{List, [], ◌∷◌}
use borrow.Author.Tests.{leb-true}
use lib.ListN.{length}
use Rattle.laws.specs.Events.{Event, played, exposed, choice, forbid, cards_of}
use Rattle.laws.specs.Plays.{MayStand, EachStands}
use Rattle.laws.specs.Record.{event_fields, play_fields}
use Rattle.laws.specs.Contents.{EventFits, EachFits}
use Rattle.laws.proofs.Written.{Fit, fit_append}
use Rattle.laws.proofs.CardRefusals.{playable-dealt}
use Rattle.laws.proofs.KeptCards.{defenders-card, exposed_defender}
use Rattle.laws.proofs.KeptChoices.{opened, open_suit}
use Rattle.laws.proofs.Plays.{card_no_code}

module _ (trump opening : ℕ) (deal : List ℕ) (all : length deal ≡ 52) where
  pub stand_fits : (e : List Event) (v : Event) → MayStand trump opening deal e v → EventFits v
  unfolding MayStand EventFits
  stand_fits e (played c) a = let low : c < 52 = omega (arith, playable-dealt trump opening deal (cards_of e) c a) in (omega arith, card_no_code c low)
  stand_fits e (exposed c deliberate) a = omega (arith, defenders-card opening deal c (exposed_defender trump opening deal e c a))
  stand_fits e (choice kind suit) a =
      let o = opened trump opening deal e kind suit a in
      (omega (arith, leb-true kind forbid o.kinds), omega (arith, open_suit trump opening deal e kind suit o))

  pub each_fits : (e plays : List Event) → EachStands trump opening deal e plays → EachFits plays
  unfolding EachStands EachFits
  each_fits e [] a = tt
  each_fits e (v ∷ plays) a = (stand_fits e v a.0, each_fits (v ∷ e) plays a.1)

-- ---- in their fields
bit-low : (b : Bool) → (if b then 1 else 0) < 2
bit-low true = omega arith
bit-low false = omega arith

event_fit : (v : Event) → EventFits v → Fit (event_fields v)
unfolding EventFits event_fields Fit
event_fit (played c) f = (omega (arith, f.0), tt)
event_fit (exposed c deliberate) f = (omega arith, (omega arith, (bit-low deliberate, tt)))
event_fit (choice kind suit) f = (omega arith, (omega (arith, f.0), (omega (arith, f.1), tt)))

pub plays_fit : (plays : List Event) → EachFits plays → Fit (play_fields plays)
unfolding EachFits play_fields Fit
plays_fit [] f = tt
plays_fit (v ∷ plays) f = fit_append (event_fields v) (play_fields plays) (event_fit v f.0) (plays_fit plays f.1)

-- What best play would give, proved. Assumes nothing.
use Prim.Native.Nat.{ℕ, ◌+◌, ◌≤◌, ◌<◌}
use native.Mathlib.Omega.{arith}
use mathlib.Core.Path.{◌≡◌}
use mathlib.Core.Bool.{true, false}
use mathlib.Core.List.{List, [], ◌∷◌, ◌++◌}
use Rattle.laws.specs.Choice.{some_below}
use Rattle.laws.specs.Law44.{cards_played, holds}
use Rattle.laws.specs.BestPlay.{may_play, best_play}
use Rattle.laws.specs.Lines.{Legal, Done, Keeps, Plan, Defence, played_by}
use Rattle.laws.proofs.CardRefusals.{accepted-is}
use Rattle.laws.proofs.BestPlay.{best_card, plays-best, reaches, holds-to}
use Rattle.laws.proofs.PlayedOut.{keeps_plan, keeps_defence, legal_done}
use Rattle.play.specs.History.{AllPlayed}
use Rattle.best_play.proofs.SomeCard.{can, few}
use Rattle.promises.specs.BestPlay.{InTurn, Ending, Reached, Held, BestPlay, BestPlays}

-- ---- the ending
module _ (trump opening : ℕ) (deal : List ℕ) (side : ℕ) (g : List ℕ) (e : Ending trump opening deal g) where
  all-played : (h : List ℕ) → InTurn trump opening deal h → AllPlayed deal trump opening h
  unfolding InTurn AllPlayed
  all-played [] w = tt
  all-played (c ∷ h) w = ((accepted-is trump opening deal h c e.holders).1 w.0, all-played h w.1)

  played : AllPlayed deal trump opening g
  played = all-played g e.played

  abbrev can_play : (u : List ℕ) → Legal trump opening deal g u → cards_played (u ++ g) < 52 → some_below 52 (may_play trump opening deal (u ++ g)) ≡ true
  can_play = can trump opening deal e.holders e.thirteen g played

  abbrev card : List ℕ → ℕ
  card = best_card trump opening deal side g e.holders can_play

  line : (f d : List ℕ → ℕ) → Plan trump opening deal side g f → Defence trump opening deal side g d
      → (let u = played_by trump opening side g f d in
      Legal trump opening deal g u × Done g u × Keeps trump opening side g true f u × Keeps trump opening side g false d u)
  line f d plan defence =
      let l = legal_done trump opening deal side g f d plan defence (few trump opening deal e.holders e.thirteen g played) in
      (l.0, l.1, keeps_plan trump opening deal side g f d, keeps_defence trump opening deal side g f d)

  reached : Reached trump opening deal side g (best_play trump opening deal side g)
  reached =
      record {
        plan = card;
        plays = plays-best trump opening deal side g e.holders can_play true;
        reaches = λ d defence.
            let l = line card d (plays-best trump opening deal side g e.holders can_play true) defence in
            reaches trump opening deal side g e.holders can_play _ l.0 l.1 l.2;
      }

  held : Held trump opening deal side g (best_play trump opening deal side g)
  held =
      record {
        defence = card;
        plays = plays-best trump opening deal side g e.holders can_play false;
        holds = λ f plan.
            let l = line f card plan (plays-best trump opening deal side g e.holders can_play false) in
            holds-to trump opening deal side g e.holders can_play _ l.0 l.1 l.3;
      }

  -- two numbers that are both reached and held are one, by playing the one's plan against the other's defence
  same : (n m : ℕ) → Reached trump opening deal side g n → Held trump opening deal side g m → n ≤ m
  same n m r h = omega (arith, r.reaches h.defence h.plays, h.holds r.plan r.plays)

  best : BestPlay trump opening deal side g
  best =
      record {
        plan = card;
        is_plan = plays-best trump opening deal side g e.holders can_play true;
        reaches = reaches trump opening deal side g e.holders can_play;
        defence = card;
        is_defence = plays-best trump opening deal side g e.holders can_play false;
        holds = holds-to trump opening deal side g e.holders can_play;
        line = line;
        literal_plan = reached;
        literal_defence = held;
        only = λ n r h. omega (arith, same n _ r held, same _ n reached h);
      }

pub best-plays : BestPlays
best-plays = best

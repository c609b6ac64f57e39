-- `play::Play::won` meets its contract. Assumes nothing.
use Prim.Native.Nat.{ℕ}
use mathlib.Core.Path.{refl}
use mathlib.Core.List.{List}
use Rattle.play.proofs.UnderWay.{best-answer}
use Rattle.play.proofs.Play.won.Goals as goal

pub returns : goal.returns
returns c = record { value = refl; law = λ (trump leader card : ℕ) (trick : List ℕ) e h. best-answer trump leader card trick _ e h }

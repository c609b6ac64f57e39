-- The position before the first card has the deal that it is made of. Assumes nothing.
use Prim.Native.Nat.{ℕ}
use mathlib.Core.Path.{◌≡◌, sym, ap, ap₂, ◌∙◌}
use mathlib.Core.List.{List}
use Rattle.deal.specs.Hands.{words_of}
use Rattle.play.specs.declared.Play.{Play}
use Rattle.play.specs.Position.{start_of}

module _ {p : Play} (deal hands : List ℕ) (trump opening : ℕ) (e : p ≡ start_of deal hands trump opening) where
  pub starts_with : p.holders ≡ deal
  unfolding start_of
  starts_with = ap (λ (x : Play). x.holders) e

  pub starts_itself : hands ≡ words_of deal → p ≡ start_of p.holders (words_of p.holders) trump opening
  starts_itself eh =
      let has = sym starts_with in
      e ∙ ap₂ (λ (d h : List ℕ). start_of d h trump opening) has (eh ∙ ap words_of has)

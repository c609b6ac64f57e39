-- `pbn_text::lines::has_bracket` meets its contract. Assumes nothing.
use Rattle.std.proofs.Common.{◌≡◌, ℕ, List, [], ◌∷◌, refl, sym, ◌∙◌, true, false}
use Rattle.std.specs.List.{starts_with}
use lib.Dec.{eqb}
use borrow.Author.Tests.{eqb-true, eqb-false, ne_eqb}
use Rattle.laws.proofs.Tests.{by_test}
use Rattle.laws.specs.Decimal as Laws
use Rattle.pbn_text.proofs.lines.has_bracket.Goals as goal

begins : (s : List ℕ) → starts_with eqb s (91 ∷ []) ≡ Laws.starts_with 91 s
unfolding Laws.starts_with
begins [] = refl
begins (b ∷ s) =
    by_test (eqb b 91)
    (λ (t : eqb b 91 ≡ true). rw (t, eqb-true b 91 t))
    (λ (t : eqb b 91 ≡ false). rw (t, ne_eqb 91 b (λ e. eqb-false b 91 t (sym e))))

pub returns : goal.returns
returns c = c.starts_with.ensures.value ∙ begins c.args.line.now

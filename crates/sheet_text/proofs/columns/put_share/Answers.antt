-- `sheet_text::columns::put_share` meets its contract, by its test. Assumes nothing.
use Prim.Native.Nat.{ℕ}
use mathlib.Core.Path.{◌≡◌, ◌∙◌}
use borrow.Author.Tests.{eq-eqb, ne_eqb}
use Rattle.laws.specs.CellSheet.{hundredths}
use Rattle.hundredths.specs.Shares.{share_of}
use Rattle.sheet_text.specs.Columns.{share_text}
use Rattle.sheet_text.proofs.columns.put_share.Goals as goal

-- where points are to be had, a share is the hundredths
some_share : (points most : ℕ) {n : ℕ} → n ≡ share_of points most → (most ≡ 0 → ⊥) → n ≡ hundredths points most
unfolding share_of
some_share points most e h = e ∙ rw (ne_eqb most 0 h)

pub returns-then-most-eq0 : goal.returns-then-most-eq0
unfolding share_text
returns-then-most-eq0 c = rw (eq-eqb _ _ c.if-most-eq0.true) c.put_bytes.ensures

pub returns : goal.returns
unfolding share_text
returns c = rw (ne_eqb _ _ c.if-most-eq0.false, ← some_share _ _ c.share-n.ensures c.if-most-eq0.false) c.put_hundredths.ensures

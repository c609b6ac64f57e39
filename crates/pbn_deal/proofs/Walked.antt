-- A line followed from its front: one byte more, and the ranks of a suit one after the other. Assumes nothing.
use Rattle.std.specs.Prelude.{Some, None}
use Prim.Native.Nat.{ℕ, zero, suc, ◌+◌, ◌-◌, ◌*◌, ◌≤◌, ◌<◌}
use native.Mathlib.Numerals.{add-one}
use native.Mathlib.Omega.{arith}
use mathlib.Core.Path.{◌≡◌, refl, sym, ap, ◌∙◌}
use mathlib.Core.Bool.{false}
use mathlib.Core.List.{List, [], ◌∷◌, ◌++◌}
use borrow.Author.Tests.{eq-eqb, ne_eqb}
use lib.ListN.{length, get_or, drop_of_length-le}
use lib.Seq.{drop-cons}
use Rattle.laws.specs.Cards.{no_seat, dealt_to}
use Rattle.laws.specs.PbnText.{letter_of, rank_letters, ranks_held}
use Rattle.laws.specs.PbnReading.{same_bytes}
use Rattle.pbn_deal.specs.Walks.{follows}

module _ (line : List ℕ) (at byte : ℕ) (t : List ℕ) where
  pub at_end : length line ≤ at → follows line (Some at) (byte ∷ t) ≡ false
  unfolding follows same_bytes
  at_end h = rw (drop_of_length-le line h)

  pub other_byte : at < length line → (get_or line at 0 ≡ byte → ⊥) → follows line (Some at) (byte ∷ t) ≡ false
  unfolding follows same_bytes
  other_byte h e = rw (drop-cons line at 0 h, ne_eqb byte (get_or line at 0) (λ q. e (sym q)))

  pub same_byte : at < length line → get_or line at 0 ≡ byte → follows line (Some at) (byte ∷ t) ≡ follows line (Some (at + 1)) t
  unfolding follows same_bytes
  same_byte h e = rw (add-one at, drop-cons line at 0 h, eq-eqb byte (get_or line at 0) (sym e))

pub nowhere : (line t : List ℕ) → follows line None t ≡ false
unfolding follows
nowhere line t = refl

-- ---- the ranks of a suit
any_default : (l : List ℕ) (i d e : ℕ) → i < length l → get_or l i d ≡ get_or l i e
any_default [] i d e h = absurd (omega arith)
any_default (x ∷ l) zero d e h = refl
any_default (x ∷ l) (suc i) d e h = any_default l i d e (omega arith)

module _ (holders : List ℕ) (all : length holders ≡ 52) (seat suit : ℕ) (low : suit < 4) where
  pub held_rank : (rank letter : ℕ) → 0 < rank → rank ≤ 13 → get_or holders (13 * suit + (rank - 1)) 0 ≡ seat → letter ≡ letter_of rank_letters (rank - 1)
      → ranks_held holders seat suit rank ≡ letter ∷ ranks_held holders seat suit (rank - 1)
  unfolding ranks_held
  held_rank zero letter h k e f = absurd (omega arith)
  held_rank (suc r) letter h k e f =
      let z : suc r - 1 ≡ r = omega arith in
      let here : get_or holders (13 * suit + r) 0 ≡ seat = rw z at e in
      let dealt : dealt_to holders (13 * suit + r) ≡ seat = any_default holders (13 * suit + r) no_seat 0 (omega arith) ∙ here in
      rw (z, eq-eqb _ _ dealt) (ap (λ l. l ∷ ranks_held holders seat suit r) (sym (rw z at f)))

  pub other_rank : (rank : ℕ) → 0 < rank → rank ≤ 13 → (get_or holders (13 * suit + (rank - 1)) 0 ≡ seat → ⊥)
      → ranks_held holders seat suit rank ≡ ranks_held holders seat suit (rank - 1)
  unfolding ranks_held
  other_rank zero h k e = absurd (omega arith)
  other_rank (suc r) h k e =
      let z : suc r - 1 ≡ r = omega arith in
      let here : get_or holders (13 * suit + r) 0 ≡ seat → ⊥ = rw z at e in
      let dealt : dealt_to holders (13 * suit + r) ≡ seat → ⊥ = λ q. here (any_default holders (13 * suit + r) 0 no_seat (omega arith) ∙ q) in
      rw (z, ne_eqb _ _ dealt)

pub no_rank : (holders : List ℕ) (seat suit rank : ℕ) (t : List ℕ) → rank ≤ 0 → ranks_held holders seat suit rank ++ t ≡ t
unfolding ranks_held
no_rank holders seat suit zero t h = refl
no_rank holders seat suit (suc r) t h = absurd (omega arith)

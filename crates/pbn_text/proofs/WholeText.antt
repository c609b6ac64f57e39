-- Where a text may end, and what is told there. Assumes nothing.
use Rattle.std.specs.Prelude.{ℕ, zero, suc, ◌≡◌, ◌≤◌, min, true, false, List, [], ◌∷◌, eqb, length, replicate, None, Ok, Err}
use Rattle.std.proofs.Common.{refl, ap, arith}
use borrow.Author.Tests.{ne_eqb}
use Rattle.laws.specs.PbnReading.{cards, may_end, State, start, end_in}
use Rattle.laws.specs.Pbn.{last_place}
use Rattle.pbn_text.specs.declared.state.Text.{Text}
use Rattle.pbn_text.specs.declared.state.Stage.TheVariants.{Board, Deal, Auction, FirstCalls, Calls, CallsOver, Cards}
use Rattle.pbn_text.specs.declared.state.Stage.{Stage}
use Rattle.pbn_text.specs.declared.numbers.Numbers.{Numbers}
use Rattle.pbn_text.specs.Kept.{kept_of}
use Rattle.pbn_text.specs.TextOf.{stage_in, text_of}
use Rattle.pbn_text.specs.ParsedAs.{ParsedAs}
use Rattle.pbn_text.proofs.AnyStage.{stage-is}

pub cards_end : (n : ℕ) → eqb n 0 ≡ may_end (cards n)
unfolding may_end
cards_end zero = refl
cards_end (suc n) = ne_eqb (suc n) 0 (λ e. omega arith)

pub no_end : (k : Stage) → (k ≡ Calls → ⊥) → (k ≡ CallsOver → ⊥) → ((n : ℕ) → k ≡ Cards n → ⊥) → false ≡ may_end (stage_in k)
unfolding may_end
no_end Board a b c = refl
no_end Deal a b c = refl
no_end Auction a b c = refl
no_end FirstCalls a b c = refl
no_end Calls a b c = absurd (a refl)
no_end CallsOver a b c = absurd (b refl)
no_end (Cards n) a b c = absurd (c n refl)

module _ (t : Text) (line : ℕ) (s : State) (n : ℕ) (e : t ≡ text_of s) (is : line ≡ min n last_place) (from : 1 ≤ n) where
  same-end : may_end s.stage ≡ may_end (stage_in t.stage)
  same-end = ap may_end (stage-is t s.stage s.game e)

  pub bytes_left : (l : List ℕ) → (length l ≡ 0 → ⊥) → ParsedAs (end_in s n l) (Err line)
  unfolding end_in
  bytes_left [] h = absurd (h refl)
  bytes_left (b ∷ l) h = (is, from)

  pub may_end_lem : (l : List ℕ) → length l ≡ 0 → may_end (stage_in t.stage) ≡ true → ParsedAs (end_in s n l) (Ok t)
  unfolding end_in
  may_end_lem [] h q = rw (same-end, q) (s.stage, e)
  may_end_lem (b ∷ l) h q = absurd (omega arith)

  pub may_not : (l : List ℕ) → may_end (stage_in t.stage) ≡ false → ParsedAs (end_in s n l) (Err line)
  unfolding end_in
  may_not [] q = rw (same-end, q) (is, from)
  may_not (b ∷ l) q = (is, from)

-- ---- nothing read yet
pub starts : (a b : Numbers) → a ≡ kept_of [] → b ≡ kept_of []
    → ◌≡◌ {A = Text}
    (record { stage = Board; board = 1; caller = 0; seat = None; holders = replicate 52 0; calls = a; cards = b })
    (text_of start)
unfolding text_of start
starts a b e f = rw (e, f) refl

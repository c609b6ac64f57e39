-- What C is answered, by what is explained of a record and by whether its slip fits. Assumes nothing.
use Rattle.std.specs.Prelude.{Option, Some, None, if◌then◌else◌}
use Prim.Native.Nat.{ℕ}
use native.Mathlib.Omega.{arith}
use mathlib.Core.Path.{◌≡◌, refl, sym, ap, ◌∙◌}
use mathlib.Core.Bool.{true, false}
use mathlib.Core.List.{List}
use lib.Dec.{leb}
use lib.ListN.{length}
use Rattle.laws.specs.Judge.{Outcome, Outcome.refused as declined, Outcome.accepted, least_rooms, judge_of}
use Rattle.laws.specs.Lent.{◌over◌}
use Rattle.laws.specs.Refusals.{refused_at, given, refusal_number, short_record_buffer}
use Rattle.laws.specs.Slip.{slip_of}
use Rattle.laws.specs.Writing.{Written as Said, Written.refused, Written.written as wrote, number_of, record_left}
use Rattle.laws.proofs.Tests.{by_test}
use Rattle.explanation.specs.declared.slip.Items.{Items}
use Rattle.explanation.specs.Explained.{explained_of}
use Rattle.text.specs.Putting.{written, length_within, left_in}
use Rattle.slip_text.specs.Call.{slip_by, slip_call}
use Rattle.slip_text.specs.Text.{items_text}
use Rattle.slip_text.proofs.Slips.{items-text, granted_slip}

-- ---- a refused record
refused_by : (o : Outcome) {n place : ℕ} → refused_at n place ≡ explained_of o → o ≡ declined n place
unfolding explained_of
refused_by (declined m at) e = cc
refused_by (accepted p) e = absurd cc

-- ---- whether a text was written
pub fitted : (w : Option ℕ) (text : List ℕ) (room : ℕ) {n : ℕ} → written w ≡ length_within text room → w ≡ Some n
    → (leb (length text) room ≡ true) × (n ≡ length text)
unfolding length_within
fitted w text room e q =
    by_test (leb (length text) room)
    (λ (b : leb (length text) room ≡ true). let f = rw b at e in (b, cc))
    (λ (b : leb (length text) room ≡ false). let f = rw b at e in absurd (let z : ◌≡◌ {A = ℕ} 0 1 = cc in omega arith))

pub too_long : (w : Option ℕ) (text : List ℕ) (room : ℕ) → written w ≡ length_within text room → w ≡ None → leb (length text) room ≡ false
unfolding length_within
too_long w text room e q =
    by_test (leb (length text) room)
    (λ (b : leb (length text) room ≡ true). let f = rw b at e in absurd (let z : ◌≡◌ {A = ℕ} 0 1 = cc in omega arith))
    (λ (b : leb (length text) room ≡ false). b)

-- the number and the buffer, as a call leaves them
abbrev pub Answers : Said → List ℕ → ℕ → List ℕ → Type 0
Answers said old number left = (number ≡ number_of said) × (left ≡ record_left said old)

-- a slip, where it fits or not
abbrev by_slip : List ℕ → ℕ → Said
by_slip text room = if leb (length text) room then wrote text else refused short_record_buffer 0

slip-fits : (text old left : List ℕ) → leb (length text) (length old) ≡ true → left ≡ left_in old text
    → Answers (by_slip text (length old)) old (length text) left
unfolding left_in record_left ◌over◌
slip-fits text old left b e = rw b (refl, rw b at e)

slip-long : (text old left : List ℕ) → leb (length text) (length old) ≡ false → left ≡ left_in old text
    → Answers (by_slip text (length old)) old (refusal_number short_record_buffer 0) left
unfolding left_in record_left
slip-long text old left b e = rw b (refl, rw b at e)

module _ (bytes : List ℕ) where
  pub answers-refused : {n place : ℕ} → refused_at n place ≡ explained_of (judge_of bytes least_rooms) → (old : List ℕ)
      → Answers (slip_call bytes (length old)) old (refusal_number n place) old
  unfolding slip_call record_left
  answers-refused e old = rw (refused_by (judge_of bytes least_rooms) e) (refl, refl)

  module _ {i : Items} (e : given i ≡ explained_of (judge_of bytes least_rooms)) (old left : List ℕ) (w : Option ℕ)
      (ew : written w ≡ length_within (items_text i) (length old)) (l : left ≡ left_in old (items_text i)) where
    granted_said : slip_call bytes (length old) ≡ by_slip (items_text i) (length old)
    unfolding slip_call slip_of
    granted_said =
        let g = granted_slip (judge_of bytes least_rooms) e in
        ap (λ (o : Outcome). slip_by o (length old)) g.1
        ∙ ap (λ (text : List ℕ). by_slip text (length old)) (sym (items-text g.0) ∙ ap items_text (sym g.2))

    pub answers-written : {n : ℕ} → w ≡ Some n → Answers (slip_call bytes (length old)) old n left
    answers-written f =
        let h = fitted w (items_text i) (length old) ew f in
        rw (granted_said, h.1) (slip-fits (items_text i) old left h.0 l)

    pub answers-short : w ≡ None → Answers (slip_call bytes (length old)) old (refusal_number short_record_buffer 0) left
    answers-short f = rw granted_said (slip-long (items_text i) old left (too_long w (items_text i) (length old) ew f) l)

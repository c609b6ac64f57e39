-- What follows a code among the plays of a record is read exactly: an exposed card with its bit, a choice with its suit. Assumes nothing.
use Rattle.std.specs.Prelude.{if◌then◌else◌}
use Prim.Native.Nat.{ℕ, zero, suc, ◌+◌, ◌*◌, ◌≤◌}
use native.Mathlib.Omega.{arith}
use mathlib.Core.Path.{◌≡◌, refl, sym, ap}
use mathlib.Core.Bool.{Bool, true, false, not}
use mathlib.Core.List.{List, ◌∷◌}
use borrow.Author.Tests.{eqb-true, eq-eqb, not-false}
use lib.Dec.{eqb}
use lib.ListN.{length}
use Rattle.laws.specs.Refusals.{accepted}
use Rattle.laws.specs.Law50.{is_exposable}
use Rattle.laws.specs.Law51.{is_open}
use Rattle.laws.specs.CodeRefusal.{codes_full, exposure_refusal, choice_refusal, event_refusal}
use Rattle.laws.specs.Kept.{NoneRefused}
use Rattle.laws.specs.Events.{Event, exposed, choice, begins_code, cards_of, codes_of}
use Rattle.laws.specs.Reading.{number_at, Reading, Reading.found, onward, read}
use Rattle.laws.specs.Plays.{play_place, read_exposed, read_choice, read_code, read_plays, MayStand}
use Rattle.laws.proofs.Tests.{by_test}
use Rattle.laws.proofs.Readings.{first_read, first_test, test_is}

-- a test told as a bit is told by that bit
pub test_of : (d : Bool) → eqb (if d then 1 else 0) 1 ≡ d
test_of true = refl
test_of false = refl

module _ (trump opening : ℕ) (deal : List ℕ) where
  -- an exposure and a choice are refused with no number exactly where they may stand
  exposable : (e : List Event) (k : ℕ) → exposure_refusal trump opening deal e k ≡ accepted → is_exposable trump opening deal e k ≡ true
  unfolding exposure_refusal
  exposable e k q =
      by_test (is_exposable trump opening deal e k)
      (λ (t : is_exposable trump opening deal e k ≡ true). t)
      (λ (t : is_exposable trump opening deal e k ≡ false). let z : ◌≡◌ {A = ℕ} 25 0 = rw t at q in absurd (omega arith))

  pub exposes : (e : List Event) (k : ℕ) → is_exposable trump opening deal e k ≡ true → exposure_refusal trump opening deal e k ≡ accepted
  unfolding exposure_refusal
  exposes e k t = rw t

  is_open_lem : (e : List Event) (kind suit : ℕ) → choice_refusal trump opening deal e kind suit ≡ accepted → is_open trump opening deal e kind suit ≡ true
  unfolding choice_refusal
  is_open_lem e kind suit q =
      by_test (is_open trump opening deal e kind suit)
      (λ (t : is_open trump opening deal e kind suit ≡ true). t)
      (λ (t : is_open trump opening deal e kind suit ≡ false). let z : ◌≡◌ {A = ℕ} 26 0 = rw t at q in absurd (omega arith))

  pub opens : (e : List Event) (kind suit : ℕ) → is_open trump opening deal e kind suit ≡ true → choice_refusal trump opening deal e kind suit ≡ accepted
  unfolding choice_refusal
  opens e kind suit t = rw t

  -- ---- what follows a code that is read
  -- an exposed card and its bit that are read
  pub exposed-read : (e : List Event) (bytes : List ℕ) (at : ℕ) {after : List Event} {end : ℕ} → read_exposed trump opening deal e bytes at ≡ found after end
      → (at + 6 + 1 ≤ 8 * length bytes) × (after ≡ exposed (number_at bytes at 6) (eqb (number_at bytes (at + 6) 1) 1) ∷ e) × (end ≡ at + 6 + 1)
      × MayStand trump opening deal e (exposed (number_at bytes at 6) (eqb (number_at bytes (at + 6) 1) 1))
  unfolding read_exposed MayStand
  exposed-read e bytes at {after} {end} q =
      let card : ℕ = number_at bytes at 6 in
      let bit : ℕ = number_at bytes (at + 6) 1 in
      let a = first_read 6 bytes at _ q in
      let b = first_read 1 bytes (at + 6) _ a.1 in
      let n : ℕ = exposure_refusal trump opening deal e card in
      let t = first_test n (play_place e) (not (eqb n accepted)) bytes (at + 6 + 1) _ b.1 in
      let is : exposed card (eqb bit 1) ∷ e ≡ after = cc in
      let stop : at + 6 + 1 ≡ end = cc in
      (b.0, sym is, sym stop, exposable e card (eqb-true n accepted (not-false _ t.0)))

  -- a kind and a suit that are read
  pub choice-read : (e : List Event) (bytes : List ℕ) (at : ℕ) {after : List Event} {end : ℕ} → read_choice trump opening deal e bytes at ≡ found after end
      → (at + 2 + 2 ≤ 8 * length bytes) × (after ≡ choice (number_at bytes at 2) (number_at bytes (at + 2) 2) ∷ e) × (end ≡ at + 2 + 2)
      × MayStand trump opening deal e (choice (number_at bytes at 2) (number_at bytes (at + 2) 2))
  unfolding read_choice MayStand
  choice-read e bytes at {after} {end} q =
      let kind : ℕ = number_at bytes at 2 in
      let suit : ℕ = number_at bytes (at + 2) 2 in
      let a = first_read 2 bytes at _ q in
      let b = first_read 2 bytes (at + 2) _ a.1 in
      let n : ℕ = choice_refusal trump opening deal e kind suit in
      let t = first_test n (play_place e) (not (eqb n accepted)) bytes (at + 2 + 2) _ b.1 in
      let is : choice kind suit ∷ e ≡ after = cc in
      let stop : at + 2 + 2 ≡ end = cc in
      (b.0, sym is, sym stop, is_open_lem e kind suit (eqb-true n accepted (not-false _ t.0)))

  pub exposure-follows : (code : ℕ) (e : List Event) (bytes : List ℕ) (at : ℕ) {r : Reading (List Event)} → eqb code 52 ≡ true
      → read_code trump opening deal code e bytes at ≡ r → read_exposed trump opening deal e bytes at ≡ r
  exposure-follows code e bytes at x q = rw x at q

  pub choice-follows : (code : ℕ) (e : List Event) (bytes : List ℕ) (at : ℕ) {r : Reading (List Event)} → eqb code 52 ≡ false
      → read_code trump opening deal code e bytes at ≡ r → read_choice trump opening deal e bytes at ≡ r
  choice-follows code e bytes at x q = rw x at q

  -- a code and what follows it, before a card
  pub code_turn : (n left code : ℕ) (e : List Event) (bytes : List ℕ) (at : ℕ) → 1 ≤ n → begins_code code ≡ true → read 6 bytes at ≡ found code (at + 6)
      → read_plays trump opening deal n (suc left) e bytes at
      ≡ onward (read_code trump opening deal code e bytes (at + 6)) (λ after next. read_plays trump opening deal n left after bytes next)
  unfolding read_plays
  code_turn zero left code e bytes at h i r = absurd (omega arith)
  code_turn (suc n) left code e bytes at h i r = simp (r, i)

  -- what was read after a code: one code more, which may stand, and seven bits at the most
  pub record CodeFound (e after : List Event) (at end : ℕ) : Type 0 where
    pub cards : cards_of after ≡ cards_of e
    pub codes : codes_of after ≡ suc (codes_of e)
    pub next : end ≤ at + 7
    pub stands : codes_full e ≡ false → NoneRefused trump opening deal e → NoneRefused trump opening deal after

  exposed-found : {e after : List Event} {c : ℕ} {d : Bool} {at end : ℕ} → after ≡ exposed c d ∷ e → end ≡ at + 6 + 1
      → MayStand trump opening deal e (exposed c d) → CodeFound e after at end
  unfolding cards_of codes_of NoneRefused event_refusal MayStand
  exposed-found {e} {after} {c} h k may =
      record {
        cards = ap cards_of h;
        codes = ap codes_of h;
        next = omega arith;
        stands = λ room w. rw h (rw room (exposes e c may), w);
      }

  choice-found : {e after : List Event} {kind suit : ℕ} {at end : ℕ} → after ≡ choice kind suit ∷ e → end ≡ at + 2 + 2
      → MayStand trump opening deal e (choice kind suit) → CodeFound e after at end
  unfolding cards_of codes_of NoneRefused event_refusal MayStand
  choice-found {e} {after} {kind} {suit} h k may =
      record {
        cards = ap cards_of h;
        codes = ap codes_of h;
        next = omega arith;
        stands = λ room w. rw h (rw room (opens e kind suit may), w);
      }

  pub code_found : (code : ℕ) (e : List Event) (bytes : List ℕ) (at : ℕ) {after : List Event} {end : ℕ}
      → read_code trump opening deal code e bytes at ≡ found after end → CodeFound e after at end
  code_found code e bytes at q =
      by_test (eqb code 52)
      (λ (x : eqb code 52 ≡ true).
      let r = exposed-read e bytes at (exposure-follows code e bytes at x q) in
      exposed-found r.1 r.2 r.3)
      (λ (x : eqb code 52 ≡ false).
      let r = choice-read e bytes at (choice-follows code e bytes at x q) in
      choice-found r.1 r.2 r.3)

  -- ---- and what stands there is read
  pub exposed-goes : (e : List Event) (c : ℕ) (d : Bool) (bytes : List ℕ) (at : ℕ) → MayStand trump opening deal e (exposed c d)
      → read 6 bytes at ≡ found c (at + 6) → read 1 bytes (at + 6) ≡ found (if d then 1 else 0) (at + 6 + 1)
      → read_exposed trump opening deal e bytes at ≡ found (exposed c d ∷ e) (at + 6 + 1)
  unfolding read_exposed MayStand
  exposed-goes e c d bytes at may r s =
      let n : ℕ = exposure_refusal trump opening deal e c in
      let passes : not (eqb n accepted) ≡ false = rw (eq-eqb n accepted (exposes e c may)) in
      simp (r, s, test_is n (play_place e) bytes (at + 6 + 1) passes, test_of d)

  pub choice-goes : (e : List Event) (kind suit : ℕ) (bytes : List ℕ) (at : ℕ) → MayStand trump opening deal e (choice kind suit)
      → read 2 bytes at ≡ found kind (at + 2) → read 2 bytes (at + 2) ≡ found suit (at + 2 + 2)
      → read_choice trump opening deal e bytes at ≡ found (choice kind suit ∷ e) (at + 2 + 2)
  unfolding read_choice MayStand
  choice-goes e kind suit bytes at may r s =
      let n : ℕ = choice_refusal trump opening deal e kind suit in
      let passes : not (eqb n accepted) ≡ false = rw (eq-eqb n accepted (opens e kind suit may)) in
      simp (r, s, test_is n (play_place e) bytes (at + 2 + 2) passes)

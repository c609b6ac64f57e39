-- What is said of contents whose numbers their fields can hold is what the judge says of their record. Assumes nothing.
use Prim.Native.Nat.{ℕ, suc, ◌+◌, ◌≤◌, ◌<◌}
use native.Mathlib.Omega.{arith}
use mathlib.Core.Path.{◌≡◌, refl, sym, ◌∙◌}
use mathlib.Core.Bool.{true, false}
use mathlib.Core.List.{List, [], ◌∷◌, ◌++◌, reverse, reverse-reverse}
use borrow.Author.Tests.{le-ltb, eq-eqb}
use lib.Dec.{ltb}
use lib.ListN.{length, get_or}
use Rattle.laws.specs.Choice.{some}
use Rattle.laws.specs.Law2.{dealer}
use Rattle.laws.specs.Refusals.{too_many_calls}
use Rattle.laws.specs.CallRefusal.{call_refusal, call_place}
use Rattle.laws.specs.Events.{cards_of, cards_among}
use Rattle.laws.specs.FlatPlay.{flat_of}
use Rattle.laws.specs.Law68.{Claim, none, agreed}
use Rattle.laws.specs.Record.{Parts, Field, field, row, bits, play_fields, claim_fields, layout, encode}
use Rattle.laws.specs.Reading.{Reading, Reading.refused, Reading.found, onward}
use Rattle.laws.specs.Judge.{read_record, outcome}
use Rattle.laws.specs.Contents.{given_of, Fits}
use Rattle.laws.specs.Contents.{take_heading, are_seats, take_deal, take_each, take_calls, take_cards, take_claim, take_parts, contents_of}
use Rattle.laws.proofs.Written.{Fit, fit_append}
use Rattle.laws.proofs.Histories.{Each, each-place, fit_each}
use Rattle.laws.proofs.Spelled.{stands-front, stands-behind, holds}
use Rattle.laws.proofs.Readings.{first-of, first_test, ending-is}
use Rattle.laws.proofs.Exact.{Narrow}
use Rattle.laws.proofs.Sections.{heading_fields}
use Rattle.laws.proofs.PlaysFit.{plays_fit}
use Rattle.laws.proofs.LawfulParts.{heading_of}
use Rattle.laws.proofs.Taken.{Told, each_history, heading-taken, deal-taken, calls-taken, cards-taken, claim-taken}

-- ---- contents that fit
-- no holder is over 3
pub none_over : (l : List ℕ) → ((k : ℕ) → k < length l → get_or l k 0 ≤ 3) → some (λ holder. ltb 3 holder) l ≡ false
unfolding some
none_over [] f = refl
none_over (x ∷ l) f = rw (le-ltb 3 x (f 0 (omega arith))) (none_over l (λ k h. f (suc k) (omega arith)))

module _ (p : Parts) (fits : Fits p) where
  are_seats_lem : are_seats p.deal ≡ true
  unfolding are_seats
  are_seats_lem = rw (eq-eqb (length p.deal) 52 fits.holders, none_over p.deal (λ k h. fits.holder k (omega (arith, fits.holders))))

  narrow_holders : Each (Narrow 2) [] p.deal
  narrow_holders = (each-place (Narrow 2) p.deal).1 (λ k h. let b = fits.holder k (omega (arith, fits.holders)) in omega arith)

  narrow_calls : Each (Narrow 6) [] p.calls
  narrow_calls = (each-place (Narrow 6) p.calls).1 (λ k h. let b = fits.call k h in omega arith)

  told_by : (claim : Claim) → p.claim ≡ claim → Told claim
  told_by none e = tt
  told_by (agreed tricks) e = fits.claim tricks e

  claim-fits : (claim : Claim) → Told claim → Fit (claim_fields claim)
  unfolding claim_fields Fit
  claim-fits none a = (omega arith, tt)
  claim-fits (agreed tricks) a = (omega arith, (omega arith, tt))

  pub layout-fits : Fit (layout p)
  unfolding layout Fit
  layout-fits = (
    omega (arith, fits.board),
    (
      omega (arith, fits.table),
      fit_append (row 2 p.deal) _ (fit_each (Narrow 2) 2 (λ h c a. a) [] p.deal narrow_holders) (
        omega (arith, fits.calls),
        fit_append (row 6 p.calls) _ (fit_each (Narrow 6) 6 (λ h c a. a) [] p.calls narrow_calls) (
          omega (arith, fits.cards),
          fit_append (play_fields p.plays) _ (plays_fit p.plays fits.plays) (claim-fits p.claim (told_by p.claim refl)),
        ),
      ),
    ),
  )

-- ---- section by section
-- what follows a first step that both sides share
outcome_turn : {A B : Type 0} (r : Reading A) (end : ℕ) (v : A → B) (f : B → ℕ → Reading Parts) (g : A → ℕ → Reading Parts)
    → ((a : A) (m : ℕ) → r ≡ found a m → outcome (f (v a) end) ≡ outcome (g a m))
    → outcome (onward (onward r (λ a m. found (v a) end)) f) ≡ outcome (onward r g)
outcome_turn (refused n place) end v f g e = refl
outcome_turn (found a m) end v f g e = e a m refl

-- the calls that are taken, latest first
calls_history : (d : ℕ) (calls : List ℕ) (from : ℕ) {h : List ℕ} {m : ℕ} → take_calls d calls [] from ≡ found h m → h ≡ reverse calls
unfolding take_calls
calls_history d calls from {h} q =
    let f = first_test too_many_calls 511 _ [] from _ q in
    let a = first-of (take_each (call_place d) (call_refusal d) calls [] [] from) _ f.1 in
    let t = first_test 9 (length calls) _ [] a.1 _ a.3 in
    let same : a.0 ≡ h = cc in
    sym same ∙ each_history (call_place d) (call_refusal d) calls [] from a.2

module _ (p : Parts) (fits : Fits p) where
  -- what is said of the contents is what the judge says of their record
  pub as_judged : outcome (read_record (encode p) 0) ≡ contents_of (given_of p)
  unfolding read_record take_parts contents_of encode layout
  as_judged =
      let bytes = encode p in
      let x = heading_of p in
      let d = dealer p.board in
      let calls : List Field = field 9 (length p.calls) ∷ row 6 p.calls in
      let cards : List Field = field 6 (cards_among p.plays) ∷ play_fields p.plays in
      let last = claim_fields p.claim in
      let end = bits (layout p) in
      let m₁ = 0 + bits (heading_fields x) in
      let m₂ = m₁ + bits (row 2 p.deal) in
      let m₃ = m₂ + bits calls in
      let m₄ = m₃ + bits cards in
      let s = holds (layout p) (layout-fits p fits) in
      let s₁ = stands-behind bytes (heading_fields x) (row 2 p.deal ++ (calls ++ (cards ++ last))) 0 {end = end} s.0 in
      let s₂ = stands-behind bytes (row 2 p.deal) (calls ++ (cards ++ last)) m₁ {end = end} s₁ in
      let s₃ = stands-behind bytes calls (cards ++ last) m₂ {end = end} s₂ in
      let s₄ = stands-behind bytes cards last m₃ {end = end} s₃ in
      rw (heading-taken bytes 0 0 x fits.board fits.table (stands-front bytes (heading_fields x) _ 0 s.0))
      (outcome_turn (take_heading p.board p.table [] 0) m₁ (λ u. x) _ _ (λ u n₁ q₁.
      rw (deal-taken bytes m₁ n₁ p.deal (are_seats_lem p fits) fits.holders (narrow_holders p fits) (stands-front bytes (row 2 p.deal) _ m₁ s₁))
      (outcome_turn (take_deal p.deal [] n₁) m₂ (λ u. p.deal) _ _ (λ u n₂ q₂.
      rw (calls-taken bytes m₂ n₂ d p.calls fits.calls (stands-front bytes calls _ m₂ s₂))
      (outcome_turn (take_calls d p.calls [] n₂) m₃ (λ h. h) _ _ (λ h n₃ q₃.
      rw (cards-taken bytes m₃ n₃ d p.deal h p.plays fits.cards fits.plays fits.follow (stands-front bytes cards last m₃ s₃))
      (outcome_turn (take_cards d p.deal h (flat_of p.plays) [] n₃) m₄ (λ e. e) _ _ (λ e n₄ q₄.
      rw (claim-taken bytes m₄ n₄ h (cards_of e) p.claim (told_by p fits p.claim refl) s₄)
      (outcome_turn (take_claim h (cards_of e) p.claim [] n₄) end (λ u. p.claim) _ _ (λ u n₅ q₅.
      rw (
        ending-is bytes end s.1,
        calls_history d p.calls n₂ q₃,
        reverse-reverse p.calls,
      )))))))))))

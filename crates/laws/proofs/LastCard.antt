-- A record read up to its last card: what stands of it, and what the judge reads behind it. Assumes nothing.
use Prim.Native.Nat.{ℕ, ◌*◌, ◌≤◌}
use native.Mathlib.Omega.{arith}
use mathlib.Core.Path.{◌≡◌, refl, ◌∙◌}
use mathlib.Core.List.{List, reverse}
use lib.ListN.{length, length-reverse}
use Rattle.laws.specs.Law2.{dealer}
use Rattle.laws.specs.Record.{bits}
use Rattle.laws.specs.Reading.{Reading, Reading.refused, Reading.found, onward}
use Rattle.laws.specs.Judge.{read_heading, read_deal, read_calls, read_cards, read_record}
use Rattle.laws.specs.LastCard.{ToLastCard, read_to_last_card, read_behind}
use Rattle.laws.proofs.Readings.{first-of}
use Rattle.laws.proofs.Lengths.{bits-row, plays-bits}
use Rattle.laws.proofs.Sections.{DealStands, CallsStand, CardsStand, heading_exact, deal_exact, calls_exact, cards_exact}

-- two readings that go on alike from what a first one found
module _ {A B : Type 0} (f g : A → ℕ → Reading B) where
  pub alike : (r : Reading A) → ((a : A) (m : ℕ) → r ≡ found a m → f a m ≡ g a m) → onward r f ≡ onward r g
  alike (refused n place) next = refl
  alike (found a m) next = next a m refl

-- a reading that goes on twice
module _ {A B C : Type 0} (f : A → ℕ → Reading B) (g : B → ℕ → Reading C) where
  on_on : (r : Reading A) → onward r (λ a m. onward (f a m) g) ≡ onward (onward r f) g
  on_on (refused n place) = refl
  on_on (found a m) = refl

-- ---- the whole record: what stands behind the last card follows
pub record_is : (bytes : List ℕ) → read_record bytes 0 ≡ onward (read_to_last_card bytes 0) (λ r at. read_behind r bytes at)
unfolding read_record read_to_last_card read_behind
record_is bytes =
    alike _ _ (read_heading bytes 0) (λ top m₁ q₁.
    alike _ _ (read_deal bytes m₁) (λ deal m₂ q₂.
    alike _ _ (read_calls (dealer top.board) bytes m₂) (λ h m₃ q₃. on_on _ _ (read_cards (dealer top.board) deal h bytes m₃))
    ∙ on_on _ _ (read_calls (dealer top.board) bytes m₂))
    ∙ on_on _ _ (read_deal bytes m₁))
    ∙ on_on _ _ (read_heading bytes 0)

-- ---- what stands of a record that was read up to its last card
pub record Standing (bytes : List ℕ) (r : ToLastCard) (end : ℕ) : Type 0 where
  pub dealt : DealStands r.deal
  pub called : CallsStand (dealer r.board) r.calls
  pub played : CardsStand (dealer r.board) r.deal r.calls r.plays
  pub whole : end ≤ 8 * length bytes
  pub next : end ≤ 4033

pub last-card-found : (bytes : List ℕ) (r : ToLastCard) (end : ℕ) → read_to_last_card bytes 0 ≡ found r end → Standing bytes r end
unfolding read_to_last_card bits
last-card-found bytes r end q =
    let x = first-of (read_heading bytes 0) _ q in
    let d : ℕ = dealer x.0.board in
    let l = first-of (read_deal bytes x.1) _ x.3 in
    let c = first-of (read_calls d bytes l.1) _ l.3 in
    let g = first-of (read_cards d l.0 c.0 bytes c.1) _ c.3 in
    let hx = heading_exact.reads bytes 0 x.0 x.1 (omega arith) x.2 in
    let hl = deal_exact.reads bytes x.1 l.0 l.1 hx.1.whole l.2 in
    let hc = (calls_exact d).reads bytes l.1 c.0 c.1 hl.1.whole c.2 in
    let hg = (cards_exact d l.0 c.0 hl.0.holders).reads bytes c.1 g.0 g.1 hc.1.whole g.2 in
    let e₁ : x.1 ≡ 16 = omega (arith, hx.1.next) in
    let e₂ : l.1 ≡ 120 = omega (arith, e₁, hl.1.next, bits-row 2 l.0, hl.0.holders) in
    let e₃ : c.1 ≤ 3195 = omega (arith, e₂, hc.1.next, bits-row 6 (reverse c.0), length-reverse c.0, hc.0.count) in
    let e₄ : g.1 ≤ 4033 = omega (arith, e₃, hg.1.next, (plays-bits (reverse g.0)).1, hg.0.count, hg.0.codes) in
    last (record { dealt = hl.0; called = hc.0; played = hg.0; whole = hg.1.whole; next = e₄ }) g.3
  where
    last : {a b : ToLastCard} {m n : ℕ} → Standing bytes a m → ◌≡◌ {A = Reading ToLastCard} (found a m) (found b n) → Standing bytes b n
    last {a} {b} {m} {n} s e =
        let same : a ≡ b = cc in
        let stop : m ≡ n = cc in
        rw (← same, ← stop) s

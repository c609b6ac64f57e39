-- The calls and the plays in the code are the Laws' sections of contents: what follows the loops. Assumes nothing.
use Rattle.std.specs.Prelude.{if◌then◌else◌}
use Prim.Native.Nat.{ℕ, ◌≤◌, ◌<◌, min}
use native.Mathlib.Omega.{arith}
use mathlib.Core.Path.{◌≡◌, refl, sym, ap, ◌∙◌}
use mathlib.Core.Bool.{Bool, true, false, not, ◌&&◌, ◌||◌}
use mathlib.Core.List.{List, []}
use borrow.Author.Tests.{lt-ltb, le-ltb}
use lib.Dec.{ltb}
use lib.ListN.{length}
use Rattle.laws.specs.Refusals.{refused_at, given, auction_unfinished, too_many_cards, too_many_calls}
use Rattle.laws.specs.Auction.{is_over}
use Rattle.laws.specs.CallRefusal.{call_refusal, call_place}
use Rattle.laws.specs.FlatPlay.{items_of, cards_in}
use Rattle.laws.specs.Reading.{Reading, Reading.found, onward, refuse}
use Rattle.laws.specs.Contents.{take_each, take_calls, take_items}
use Rattle.laws.specs.Refused.{checked_in}
use Rattle.laws.proofs.Answered.{is-refused, is-found}
use Rattle.auction.specs.declared.Auction.{Auction}
use Rattle.auction.specs.Position.{position_of}
use Rattle.auction.specs.Asked.{over_of}
use Rattle.auction.proofs.History.{over-is}
use Rattle.contents.specs.Checked.{calls_by, cards_by}

or_true : (b : Bool) → (b || true) ≡ true
or_true true = refl
or_true false = refl

-- ---- the calls
module _ (calls : List ℕ) (d : ℕ) where
  abbrev each : Reading (List ℕ)
  each = take_each (call_place d) (call_refusal d) calls [] [] 0

  abbrev ended : Reading (List ℕ) → Reading (List ℕ)
  ended r = onward r (λ h m. onward (refuse auction_unfinished (length calls) (not (is_over h)) [] m) (λ u k. found h k))

  pub calls-many : 511 < length calls → refused_at too_many_calls 511 ≡ calls_by d (take_calls d calls [] 0)
  unfolding take_calls refuse
  calls-many o = rw (lt-ltb 511 (length calls) o)

  whole : length calls ≤ 511 → take_calls d calls [] 0 ≡ ended each
  unfolding take_calls refuse
  whole few = rw (le-ltb 511 (length calls) few)

  module _ (few : length calls ≤ 511) where
    pub calls-stopped : {n place : ℕ} → refused_at n place ≡ calls_by d each → refused_at n place ≡ calls_by d (take_calls d calls [] 0)
    calls-stopped e = rw (whole few, is-refused (position_of d) each e)

    module _ {a : Auction} (e : given a ≡ calls_by d each) where
      told : (h : List ℕ) × (m : ℕ) × (each ≡ found h m) × (a ≡ position_of d h)
      told = is-found (position_of d) each e

      over_told : is_over told.0 ≡ over_of a
      over_told = sym (over-is d told.0) ∙ ap over_of (sym told.3)

      pub calls_open : over_of a ≡ false → refused_at auction_unfinished (length calls) ≡ calls_by d (take_calls d calls [] 0)
      unfolding refuse
      calls_open o = sym (ap (calls_by d) (whole few ∙ ap ended told.2) ∙ rw (over_told ∙ o))

      pub calls-over : over_of a ≡ true → given a ≡ calls_by d (take_calls d calls [] 0)
      unfolding refuse
      calls-over o = sym (ap (calls_by d) (whole few ∙ ap ended told.2) ∙ rw (over_told ∙ o) (ap given (sym told.3)))

-- ---- the cards
pub few-cards : (out : Bool) (n : ℕ) → n ≤ (if out then 0 else 52) → n ≤ 52
few-cards true n h = omega arith
few-cards false n h = h

module _ (out : Bool) (trump opening : ℕ) (deal plays : List ℕ) where
  abbrev most : ℕ
  most = if out then 0 else 52

  abbrev n : ℕ
  n = cards_in plays

  pub cards-over : most < n → refused_at too_many_cards (min n 63) ≡ checked_in (cards_by out trump opening deal plays [] 0)
  unfolding cards_by refuse
  cards-over h = rw (over-most out h)
    where
      over-most : (b : Bool) → (if b then 0 else 52) < n → (ltb 52 n || (b && ltb 0 n)) ≡ true
      over-most true h = rw (lt-ltb 0 n h) (or_true (ltb 52 n))
      over-most false h = rw (lt-ltb 52 n h)

  pub cards-counted : n ≤ most → checked_in (take_items trump opening deal (items_of plays) [] [] 0) ≡ checked_in (cards_by out trump opening deal plays [] 0)
  unfolding cards_by refuse
  cards-counted h = rw (within out h)
    where
      within : (b : Bool) → n ≤ (if b then 0 else 52) → (ltb 52 n || (b && ltb 0 n)) ≡ false
      within true h = rw (le-ltb 52 n (omega arith), le-ltb 0 n h)
      within false h = rw (le-ltb 52 n h)

-- Law 27A, insufficient bids that were accepted: what a mark says of the call after it, on every history (h) of calls and marks, the latest first, and on
-- every lawful record; and with which number and where a wrong mark is refused.
-- Assumes nothing.
use Rattle.std.specs.Prelude.{ℕ, suc, ◌≤◌, ◌<◌, ◌≡◌, ◌↔◌, true, false, List, ◌∷◌, length, get_or}
use Rattle.laws.specs.Refusals.{no_call, call_after_end, wrong_mark}
use Rattle.laws.specs.Auction.{mark, is_bid, to_call, is_marked, last_bid, last_bidder, has_bid, passes_in_a_row, is_over, allowed, doubling, codes_before}
use Rattle.laws.specs.CallRefusal.{call_refusal, call_place}
use Rattle.laws.specs.Record.{Parts}
use Rattle.laws.specs.Lawful.{first_of, Lawful}

-- the code is a bid at or below a last bid
pub record AtOrBelow (h : List ℕ) (c : ℕ) : Type 0 where
  pub bid : is_bid c ≡ true
  pub after_bid : has_bid h ≡ true
  pub not_above : c ≤ last_bid h

pub record Marks (dealer : ℕ) : Type 0 where
  -- a mark takes no turn, ends no row of passes, and leaves the last bid, its bidder and its doubling
  pub no_turn : (h : List ℕ) → to_call dealer (mark ∷ h) ≡ to_call dealer h
  pub same_passes : (h : List ℕ) → passes_in_a_row (mark ∷ h) ≡ passes_in_a_row h
  pub same_bid : (h : List ℕ) → last_bid (mark ∷ h) ≡ last_bid h
  pub same_bidder : (h : List ℕ) → last_bidder dealer (mark ∷ h) ≡ last_bidder dealer h
  pub same_doubling : (h : List ℕ) → doubling (mark ∷ h) ≡ doubling h
  -- after a mark a bid at or below a last bid is allowed, and nothing else
  pub after_mark : (h : List ℕ) (c : ℕ) → (allowed dealer (mark ∷ h) c ≡ true) ↔ ((is_over h ≡ false) × AtOrBelow h c)
  -- without one a bid is above the last
  pub without : (h : List ℕ) (c : ℕ) → is_marked h ≡ false → is_bid c ≡ true → (allowed dealer h c ≡ true) ↔ ((is_over h ≡ false) × (last_bid h < c))
  -- a marked bid stands as the last bid, made by the player whose turn it was before the mark, and is not doubled
  pub stands : (h : List ℕ) (c : ℕ) → is_bid c ≡ true → last_bid (c ∷ mark ∷ h) ≡ c
  pub bidder : (h : List ℕ) (c : ℕ) → is_bid c ≡ true → last_bidder dealer (c ∷ mark ∷ h) ≡ to_call dealer h
  pub undoubled : (h : List ℕ) (c : ℕ) → is_bid c ≡ true → doubling (c ∷ mark ∷ h) ≡ 0
  -- each mark of a lawful record is followed by such a bid
  pub followed : (p : Parts) → Lawful p → (k : ℕ) → k < length p.calls → get_or p.calls k 0 ≡ mark
      → (suc k < length p.calls) × AtOrBelow (first_of k p.calls) (get_or p.calls (suc k) 0)
  -- a code from 39 on is refused as no call at its own place, also after a mark; whatever else is not such a bid makes the mark wrong, at the mark's place
  pub no_code : (h : List ℕ) (c : ℕ) → 38 < c → (call_refusal dealer h c ≡ no_call) × (call_place dealer h c ≡ codes_before h)
  pub wrong : (h : List ℕ) (c : ℕ) → c ≤ 38 → is_over h ≡ false → (AtOrBelow h c → ⊥)
      → (call_refusal dealer (mark ∷ h) c ≡ wrong_mark) × (call_place dealer (mark ∷ h) c ≡ codes_before h)
  -- the number is given for nothing else
  pub only_wrong : (h : List ℕ) (c : ℕ) → call_refusal dealer h c ≡ wrong_mark → is_marked h ≡ true
  -- a mark after the end is a call after the end, at the mark; one that is allowed leaves the auction unfinished
  pub after_end : (h : List ℕ) → is_over h ≡ true → (call_refusal dealer h mark ≡ call_after_end) × (call_place dealer h mark ≡ codes_before h)
  pub unfinished : (h : List ℕ) → allowed dealer h mark ≡ true → is_over (mark ∷ h) ≡ false

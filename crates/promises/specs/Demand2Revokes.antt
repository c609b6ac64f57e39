-- Demand 2, the revoke list and the fourth slice: each entry read back, and both in order of play with each entry in them once.
-- Assumes nothing.
use Rattle.std.specs.Prelude.{ℕ, suc, ◌+◌, ◌*◌, ◌≤◌, ◌<◌, ◌≡◌, ◌↔◌, length, get_or, take, drop}
use mathlib.Core.List.{List, [], ◌∷◌, ◌++◌, map, reverse, Memᴰ}
use Rattle.laws.specs.Law61.{Revoke}
use Rattle.laws.specs.Events.{Event, played, exposed, choice}
use Rattle.laws.specs.Failures.{Failure}
use Rattle.laws.specs.Record.{Parts}
use Rattle.laws.specs.Reading.{number_at}
use Rattle.laws.specs.Judgement.{revokes_of, revoke_bytes, failures_of, failures_bytes}
use Rattle.laws.specs.Lawful.{Lawful}
use Rattle.promises.specs.Demand2Judgement.{Revokes, Fails, revoke_entry, failure_entry}

-- the byte behind those of `before` gives a revoke: its trick by 4 bits, its seat by 2, its suit by 2
pub record ByteBits (p : Parts) (before : List Revoke) (r : Revoke) : Type 0 where
  pub trick : number_at (revoke_bytes p) (8 * length before) 4 ≡ r.trick
  pub trick_from : 1 ≤ r.trick
  pub trick_to : r.trick ≤ 13
  pub seat : number_at (revoke_bytes p) (8 * length before + 4) 2 ≡ r.seat
  pub suit : number_at (revoke_bytes p) (8 * length before + 6) 2 ≡ r.suit

-- the two bytes behind those of `before` give a play against 50C or 50D1: its trick by 4 bits, its seat by 2, the card by 6, and four zeros
pub record PairBits (p : Parts) (before : List Failure) (f : Failure) : Type 0 where
  pub trick : number_at (failures_bytes p) (16 * length before) 4 ≡ f.trick
  pub trick_from : 1 ≤ f.trick
  pub trick_to : f.trick ≤ 12
  pub seat : number_at (failures_bytes p) (16 * length before + 4) 2 ≡ f.seat
  pub card : number_at (failures_bytes p) (16 * length before + 6) 6 ≡ f.card
  pub zeros : number_at (failures_bytes p) (16 * length before + 12) 4 ≡ 0

-- the events before a place of the plays, counted from 0, latest first
abbrev pub events_before : Parts → ℕ → List Event
events_before p k = reverse (take k p.plays)

-- a card was played at a place, codes counted too, and this held of the play
pub record AtPlace (p : Parts) (Is : List Event → ℕ → Type 0) (k : ℕ) : Type 0 where
  pub card : ℕ
  pub there : drop k p.plays ≡ played card ∷ drop (suc k) p.plays
  pub is : Is (events_before p k) card

-- each member is below all those behind it
unfoldable pub Rising : List ℕ → Type 0
Rising [] = Unit {0}
Rising (k ∷ ks) = ((m : ℕ) → Memᴰ m ks → k < m) × Rising ks

-- the card that plays begin with; 0 where a code is first, or nothing
unfoldable pub first_card : List Event → ℕ
first_card [] = 0
first_card (played c ∷ plays) = c
first_card (exposed c deliberate ∷ plays) = 0
first_card (choice kind suit ∷ plays) = 0

-- the card at a place of the plays
abbrev pub card_at : Parts → ℕ → ℕ
card_at p k = first_card (drop k p.plays)

-- the places of the plays of which this held, rising, and the list has their entries one for one
pub record InOrder {A : Type 0} (p : Parts) (Is : List Event → ℕ → Type 0) (entry : List Event → ℕ → A) (list : List A) : Type 0 where
  pub places : List ℕ
  pub exactly : (k : ℕ) → Memᴰ k places ↔ AtPlace p Is k
  pub rising : Rising places
  pub listed : list ≡ map (λ k. entry (events_before p k) (card_at p k)) places

pub record Demand2Revokes : Type 0 where
  -- no part of a revoke is cut: read back, each byte gives its trick, seat and suit
  pub bytes : (p : Parts) → Lawful p → (before : List Revoke) (r : Revoke) (behind : List Revoke) → revokes_of p ≡ before ++ (r ∷ behind) → ByteBits p before r
  -- the list is in order of play
  pub in_order : (p : Parts) → InOrder p (Revokes p) (revoke_entry p) (revokes_of p)
  -- no two entries of the list are the same
  pub once : (p : Parts) (before : List Revoke) (r : Revoke) (behind : List Revoke) → revokes_of p ≡ before ++ (r ∷ behind) → Memᴰ r behind → ⊥

pub record Demand2Failures : Type 0 where
  -- at most 24, and behind their bytes the rest of the 52 is zero
  pub at_most_24 : (p : Parts) → Lawful p → length (failures_of p) ≤ 24
  pub bytes_52 : (p : Parts) → length (failures_bytes p) ≡ 52
  pub rest_zero : (p : Parts) → Lawful p → (i : ℕ) → 2 * length (failures_of p) ≤ i → get_or (failures_bytes p) i 0 ≡ 0
  -- no part of an entry is cut: read back, its two bytes give its trick, seat and card
  pub pairs : (p : Parts) → Lawful p → (before : List Failure) (f : Failure) (behind : List Failure) → failures_of p ≡ before ++ (f ∷ behind)
      → PairBits p before f
  -- they are in order of play, each once
  pub in_order : (p : Parts) → InOrder p (Fails p) (failure_entry p) (failures_of p)
  pub once : (p : Parts) (before : List Failure) (f : Failure) (behind : List Failure) → failures_of p ≡ before ++ (f ∷ behind) → Memᴰ f behind → ⊥

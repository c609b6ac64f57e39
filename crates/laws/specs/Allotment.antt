-- Law 64 with several revokes: which tricks can change sides where each trick serves one revoke only. Nothing here says how a total is counted.
-- `ws` are the winners of the complete tricks in order; `claimed` gives the tricks that a side gets by the claim, 0 without one; `rs` are the revokes in
-- order of play, the first at place 0.
-- Assumes nothing.
use Rattle.std.specs.Prelude.{ℕ, ◌+◌, ◌-◌, ◌≤◌, ◌<◌, ◌≡◌, ◌⊎◌, Bool, false, not, ◌&&◌, ◌||◌, eqb, length, get_or, take}
use mathlib.Core.List.{List, Memᴰ}
use Rattle.laws.specs.Choice.{how_many}
use Rattle.laws.specs.Cards.{no_seat, side_of}
use Rattle.laws.specs.LeadRevoke.{Counted}
use Rattle.laws.specs.Law64.{entitlement, side_revoked, both_revoked}

-- the trick is complete, and a player of the side won it
pub record Won (ws : List ℕ) (side trick : ℕ) : Type 0 where
  pub from_1 : 1 ≤ trick
  pub complete : trick ≤ length ws
  pub by_side : side_of (get_or ws (trick - 1) no_seat) ≡ side

-- the trick is one of those that the side gets by the claim, which come after every complete trick and are numbered on from it
pub record GotByClaim (ws : List ℕ) (claimed : ℕ → ℕ) (side trick : ℕ) : Type 0 where
  pub later : length ws < trick
  pub as_many : trick ≤ length ws + claimed side

-- the side has the trick
abbrev pub Has : List ℕ → (ℕ → ℕ) → ℕ → ℕ → Type 0
Has ws claimed side trick = Won ws side trick ⊎ GotByClaim ws claimed side trick

-- a trick that serves a revoke, the revoke by its place in the list
pub record Pair : Type 0 where
  pub trick : ℕ
  pub revoke : ℕ

-- the revoke at a place of the list
unfoldable pub revoke_of : List Counted → ℕ → Counted
revoke_of rs k = get_or rs k (record { trick = 0; seat = no_seat; suit = 0; excused = false })

-- tricks allotted to the revokes
pub record Allotment (dummy : ℕ) (ws : List ℕ) (claimed : ℕ → ℕ) (rs : List Counted) (pairs : List Pair) : Type 0 where
  -- each pair is of a revoke of the list
  pub listed : (q : Pair) → Memᴰ q pairs → q.revoke < length rs
  -- no trick stands twice
  pub once : (trick : ℕ) → how_many (λ (q : Pair). eqb q.trick trick) pairs ≤ 1
  -- the side that revoked has the trick
  pub has : (q : Pair) → Memᴰ q pairs → Has ws claimed (side_of (revoke_of rs q.revoke).seat) q.trick
  -- it is the revoke's trick or a later one
  pub from_revoke : (q : Pair) → Memᴰ q pairs → (revoke_of rs q.revoke).trick ≤ q.trick
  -- no revoke has more pairs than it is entitled to
  pub entitled : (k : ℕ) → k < length rs → how_many (λ (q : Pair). eqb q.revoke k) pairs ≤ entitlement dummy ws (take k rs) (revoke_of rs k)

-- n is the greatest number of tricks that can be allotted: here is an allotment of n pairs, and none has more
pub record Greatest (dummy : ℕ) (ws : List ℕ) (claimed : ℕ → ℕ) (rs : List Counted) (n : ℕ) : Type 0 where
  pub pairs : List Pair
  pub allots : Allotment dummy ws claimed rs pairs
  pub as_many : length pairs ≡ n
  pub most : (others : List Pair) → Allotment dummy ws claimed rs others → length others ≤ n

-- exactly one side has revoked
unfoldable pub one_side_revoked : List Counted → Bool
one_side_revoked rs = (side_revoked 0 rs || side_revoked 1 rs) && not (both_revoked rs)

-- Law 64: the rectification of revokes, each taken as established, counted from the last trick back to the first.
-- `ws` are the winners of the complete tricks in order; `claimed` gives the tricks that a side gets by the claim, 0 without one.
-- Assumes nothing.
use Rattle.std.specs.Prelude.{ℕ, ◌+◌, ◌-◌, min, Bool, ◌&&◌, ◌||◌, List, [], ◌∷◌, eqb, drop, get_or, if◌then◌else◌}
use Rattle.laws.specs.Choice.{some}
use Rattle.laws.specs.Cards.{no_seat, side_of}
use Rattle.laws.specs.Law44.{tricks_won}
use Rattle.laws.specs.LeadRevoke.{Counted}

-- 64B2: the seat has revoked in the same suit before
unfoldable pub repeated : List Counted → Counted → Bool
repeated earlier r = some (λ (e : Counted). eqb e.seat r.seat && eqb e.suit r.suit) earlier

-- 64B2, B3 and B6: nothing is due for dummy's revoke, on trick 12, for a repeat, or where the seat had a penalty card whose play would have been no revoke
unfoldable pub is_exempt : ℕ → List Counted → Counted → Bool
is_exempt dummy earlier r = eqb r.seat dummy || (eqb r.trick 12 || (repeated earlier r || r.excused))

-- 64A and B: the tricks that a revoke entitles the other side to: none where it is exempt; two where the revoking seat itself won the trick, else one
unfoldable pub entitlement : ℕ → List ℕ → List Counted → Counted → ℕ
entitlement dummy ws earlier r =
    if is_exempt dummy earlier r then 0
    else if eqb (get_or ws (r.trick - 1) no_seat) r.seat then 2
    else 1

-- the tricks that a side won from a trick on, claimed tricks included
unfoldable pub won_from : List ℕ → (ℕ → ℕ) → ℕ → ℕ → ℕ
won_from ws claimed side trick = tricks_won side (drop (trick - 1) ws) + claimed side

-- for one revoke: the tricks it entitles the other side to, and the tricks its side won from that trick on
pub record Due : Type 0 where
  pub tricks : ℕ
  pub available : ℕ

-- the revokes of a list, each after those before it
unfoldable pub dues : ℕ → List ℕ → (ℕ → ℕ) → List Counted → List Counted → List Due
dues dummy ws claimed earlier [] = []
dues dummy ws claimed earlier (r ∷ rs) =
    record { tricks = entitlement dummy ws earlier r; available = won_from ws claimed (side_of r.seat) r.trick }
    ∷ dues dummy ws claimed (r ∷ earlier) rs

-- from the last revoke to the first: its tricks are added to the total, which is then at most what is available
unfoldable pub total : List Due → ℕ
total [] = 0
total (d ∷ ds) = min (total ds + d.tricks) d.available

-- some revoke is by the side
unfoldable pub side_revoked : ℕ → List Counted → Bool
side_revoked side rs = some (λ (r : Counted). eqb (side_of r.seat) side) rs

-- 64B7: both sides have revoked
unfoldable pub both_revoked : List Counted → Bool
both_revoked rs = side_revoked 0 rs && side_revoked 1 rs

-- the tricks that change sides before scoring
unfoldable pub transferred_tricks : ℕ → List ℕ → (ℕ → ℕ) → List Counted → ℕ
transferred_tricks dummy ws claimed rs = if both_revoked rs then 0 else total (dues dummy ws claimed [] rs)

-- declarer's tricks after the transfer: the transferred tricks leave the side that revoked
unfoldable pub tricks_after : ℕ → List Counted → ℕ → ℕ → ℕ
tricks_after declarer rs won transferred = if side_revoked (side_of declarer) rs then won - transferred else (won + transferred)

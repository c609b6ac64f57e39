-- The answers of the complete tricks, a card at a time: a card that completes a trick adds that trick's, and any other card none. Assumes nothing.
use Prim.Native.Nat.{ℕ, zero, suc, ◌+◌, ◌*◌}
use native.Mathlib.Omega.{arith}
use mathlib.Core.Path.{◌≡◌, refl, ap, ◌∙◌}
use mathlib.Core.Bool.{true, false}
use mathlib.Core.List.{List, [], ◌∷◌, ◌++◌, map, map-append}
use lib.Dec.{eqb}
use lib.ListN.{length, get_or, take, length-map}
use Rattle.laws.specs.Law44.{cards_in_trick, trick_under_way, leader, winner, Won, won_by, won_tricks, winners}
use Rattle.laws.specs.Judgement.{won_bytes}

module _ (trump opening c : ℕ) (g : List ℕ) where
  module _ (q : eqb (cards_in_trick (c ∷ g)) 0 ≡ false) where
    pub won-same : won_tricks trump opening (c ∷ g) ≡ won_tricks trump opening g
    unfolding won_tricks
    won-same = rw q

    pub winners-same : winners trump opening (c ∷ g) ≡ winners trump opening g
    unfolding winners
    winners-same = ap (map (λ (w : Won). w.seat)) won-same

  module _ (q : eqb (cards_in_trick (c ∷ g)) 0 ≡ true) where
    pub won-more : won_tricks trump opening (c ∷ g) ≡ won_tricks trump opening g ++ (won_by trump (leader trump opening g) (c ∷ trick_under_way g) ∷ [])
    unfolding won_tricks
    won-more = rw q

    pub winners-more : winners trump opening (c ∷ g) ≡ winners trump opening g ++ (winner trump (leader trump opening g) (c ∷ trick_under_way g) ∷ [])
    unfolding winners won_by
    winners-more = ap (map (λ (w : Won). w.seat)) won-more ∙ map-append _ (won_tricks trump opening g) _

-- as many winners as answers
pub winners-long : (trump opening : ℕ) (g : List ℕ) → length (winners trump opening g) ≡ length (won_tricks trump opening g)
unfolding winners
winners-long trump opening g = length-map (won_tricks trump opening g) _

-- ---- two bytes for each trick
pub bytes-long : (ws : List Won) → length (won_bytes ws) ≡ 2 * length ws
unfolding won_bytes
bytes-long [] = refl
bytes-long (w ∷ ws) = omega (arith, bytes-long ws)

-- what stands for no trick
abbrev pub no_answer : Won
no_answer = record { seat = 0; card = 0 }

pub byte_seat : (ws : List Won) (i : ℕ) → get_or (won_bytes ws) (2 * i) 0 ≡ (get_or ws i no_answer).seat
unfolding won_bytes
byte_seat [] i = refl
byte_seat (w ∷ ws) zero = refl
byte_seat (w ∷ ws) (suc i) = let e : 2 * suc i ≡ suc (suc (2 * i)) = omega arith in rw e (byte_seat ws i)

pub byte_card : (ws : List Won) (i : ℕ) → get_or (won_bytes ws) (2 * i + 1) 0 ≡ (get_or ws i no_answer).card
unfolding won_bytes
byte_card [] i = refl
byte_card (w ∷ ws) zero = refl
byte_card (w ∷ ws) (suc i) = let e : 2 * suc i + 1 ≡ suc (suc (2 * i + 1)) = omega arith in rw e (byte_card ws i)

-- the bytes of the first tricks
pub bytes-first : (n : ℕ) (ws : List Won) → take (2 * n) (won_bytes ws) ≡ won_bytes (take n ws)
unfolding won_bytes
bytes-first zero ws = refl
bytes-first (suc n) [] = let e : 2 * suc n ≡ suc (suc (2 * n)) = omega arith in rw e
bytes-first (suc n) (w ∷ ws) =
    let e : 2 * suc n ≡ suc (suc (2 * n)) = omega arith in
    rw e (ap (λ (l : List ℕ). w.seat ∷ w.card ∷ l) (bytes-first n ws))

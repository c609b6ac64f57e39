-- Each field of the answer to lawful parts fits its width: contract, tricks before and after Law 64, revokes and score. Assumes nothing.
use Prim.Native.Nat.{ℕ, ◌+◌, ◌-◌, ◌^◌, ◌≤◌, ◌<◌}
use native.Mathlib.Omega.{arith}
use mathlib.Core.Path.{◌≡◌, refl, sym, ap, ◌∙◌}
use mathlib.Core.Bool.{true, false}
use mathlib.Core.List.{List, [], ◌∷◌}
use borrow.Author.Tests.{eqb-true, eqb-false, ne_eqb, eq-eqb, leb-true, not-false}
use lib.Dec.{eqb, leb}
use lib.IntN.{ℤ, pos, negsuc, nat_abs}
use lib.ListN.{length, take, drop, take-append-drop}
use Rattle.laws.specs.Choice.{how_many, some}
use Rattle.laws.specs.Cards.{side_of, partner_of}
use Rattle.laws.specs.Auction as Auction
use Rattle.laws.specs.Law2.{dealer}
use Rattle.laws.specs.Law44.{cards_played, tricks_complete, tricks_left, tricks_won}
use Rattle.laws.specs.LeadRevoke.{Counted}
use Rattle.laws.specs.Law64.{won_from, dues, total, side_revoked, both_revoked, transferred_tricks, tricks_after}
use Rattle.laws.specs.Law68.{Claim, none, agreed, claimable, claimed_tricks}
use Rattle.laws.specs.Law77.{valid_score}
use Rattle.laws.specs.Record.{Parts}
use Rattle.laws.specs.Lawful.{Lawful, Claimed}
use Rattle.laws.specs.Events.{cards_of, cards_among}
use Rattle.laws.specs.Judgement.{calls_of, play_of, contract_of, declarer_of, trump_of, opening_of, winners_of, counted_of, claimed_of, won_of}
use Rattle.laws.specs.Judgement.{transferred_of, after_of, stake_of, score_of, twos_complement}
use Rattle.laws.proofs.Tests.{by_test, or_left, and_left}
use Rattle.laws.proofs.Counts.{many_append}
use Rattle.laws.proofs.Plays.{cards-reverse}
use Rattle.laws.proofs.Contracts.{level_bounds, strain_lt, doubling-le, declarer_side}
use Rattle.laws.proofs.Score.{score-valid}
use Rattle.play.proofs.Complete.{winners-count}

-- ---- two sides share the tricks
shared : (a b : ℕ) → (a ≡ b → ⊥) → (ws : List ℕ) → tricks_won a ws + tricks_won b ws ≤ length ws
unfolding tricks_won how_many
shared a b off [] = omega arith
shared a b off (w ∷ ws) =
    by_test (eqb (side_of w) a)
    (λ (q : eqb (side_of w) a ≡ true).
    let n = ne_eqb (side_of w) b (λ e. off (sym (eqb-true (side_of w) a q) ∙ e)) in
    rw (q, n) (omega (arith, shared a b off ws)))
    (λ (q : eqb (side_of w) a ≡ false). by_test (eqb (side_of w) b)
    (λ (r : eqb (side_of w) b ≡ true). rw (q, r) (omega (arith, shared a b off ws)))
    (λ (r : eqb (side_of w) b ≡ false). rw (q, r) (omega (arith, shared a b off ws))))

from-later : (side k : ℕ) (ws : List ℕ) → tricks_won side (drop k ws) ≤ tricks_won side ws
unfolding tricks_won
from-later side k ws =
    let e = ap (how_many (λ (seat : ℕ). eqb (side_of seat) side)) (sym (take-append-drop k ws)) ∙ many_append _ (take k ws) (drop k ws) in
    omega (arith, e)

-- and the claimed ones
claim-shared : (h g : List ℕ) (c : Claim) → Claimed h g c → claimed_tricks c (tricks_left g) true + claimed_tricks c (tricks_left g) false ≤ tricks_left g
unfolding claimed_tricks claimable
claim-shared h g none w = omega arith
claim-shared h g (agreed t) w = omega (arith, leb-true t (tricks_left g) w.2)

-- ---- what changes sides is at most what the other side has
module _ (dummy : ℕ) (ws : List ℕ) (claimed : ℕ → ℕ) (side other : ℕ) (two : (seat : ℕ) → (side_of seat ≡ side → ⊥) → side_of seat ≡ other) where
  total-le : (earlier rs : List Counted) → side_revoked side rs ≡ false → total (dues dummy ws claimed earlier rs) ≤ tricks_won other ws + claimed other
  unfolding total dues side_revoked some won_from
  total-le earlier [] q = omega arith
  total-le earlier (r ∷ rs) q =
      let s : side_of r.seat ≡ other = two r.seat (eqb-false (side_of r.seat) side (or_left (eqb (side_of r.seat) side) _ q)) in
      rw s (omega (arith, from-later other (r.trick - 1) ws))

  moved_le : (rs : List Counted) → side_revoked side rs ≡ false → transferred_tricks dummy ws claimed rs ≤ tricks_won other ws + claimed other
  unfolding transferred_tricks
  moved_le rs q =
      by_test (both_revoked rs)
      (λ (b : both_revoked rs ≡ true). rw b (omega arith))
      (λ (b : both_revoked rs ≡ false). rw b (total-le [] rs q))

-- ---- the fields
module _ (p : Parts) (ok : Lawful p) where
  abbrev side : ℕ
  side = side_of (declarer_of p)

  abbrev other : ℕ
  other = 1 - side

  apart : side ≡ other → ⊥
  apart e = omega (arith, e)

  the_other : (seat : ℕ) → (side_of seat ≡ side → ⊥) → side_of seat ≡ other
  the_other seat off = omega (arith, off)

  complete : tricks_complete (cards_of (play_of p)) ≤ 13
  unfolding tricks_complete cards_played cards_among
  complete = omega (arith, cards-reverse p.plays, ok.layout.cards)

  in_all_lem : won_of p + (tricks_won other (winners_of p) + claimed_of p other) ≤ 13
  unfolding won_of claimed_of winners_of tricks_left
  in_all_lem =
      let mine : eqb side side ≡ true = eq-eqb side side refl in
      let theirs : eqb other side ≡ false = ne_eqb other side (λ e. apart (sym e)) in
      let won = shared side other apart (winners_of p) in
      let claimed = claim-shared (calls_of p) (cards_of (play_of p)) p.claim ok.claim in
      rw (mine, theirs) (omega (arith, won, winners-count (trump_of p) (opening_of p) (cards_of (play_of p)), claimed, complete))

  pub won-le : won_of p ≤ 13
  won-le = omega (arith, in_all_lem)

  pub after-le : after_of p ≤ 13
  unfolding after_of tricks_after transferred_of
  after-le =
      by_test (side_revoked side (counted_of p))
      (λ (q : side_revoked side (counted_of p) ≡ true). rw q (omega (arith, won-le)))
      (λ (q : side_revoked side (counted_of p) ≡ false).
      let moved = moved_le (partner_of (declarer_of p)) (winners_of p) (claimed_of p) side other the_other (counted_of p) q in
      rw q (omega (arith, in_all_lem, moved)))

  module _ (bid : Auction.passed_out (calls_of p) ≡ false) where
    pub declarer_lt : declarer_of p < 4
    unfolding contract_of Auction.contract Auction.passed_out
    declarer_lt = (declarer_side (dealer p.board) (calls_of p) (not-false _ bid)).0

    pub level-le : (1 ≤ (contract_of p).level) × ((contract_of p).level ≤ 7)
    unfolding contract_of Auction.contract
    level-le = level_bounds (calls_of p)

    pub strain-le : (contract_of p).strain ≤ 4
    unfolding contract_of Auction.contract
    strain-le = omega (arith, strain_lt (Auction.last_bid (calls_of p)))

    pub doubled_le : (contract_of p).doubling ≤ 2
    unfolding contract_of Auction.contract
    doubled_le = doubling-le (calls_of p)

    pub valid : valid_score (score_of p) ≡ true
    unfolding score_of stake_of
    valid = rw bid (score-valid (stake_of p) (after_of p) (declarer_of p) level-le.0 level-le.1 strain-le doubled_le after-le)

-- a valid score in 16 bits
pub word_lt : (z : ℤ) → valid_score z ≡ true → twos_complement z < 2 ^ 16
unfolding valid_score twos_complement
word_lt z v = go z (leb-true (nat_abs z) 7600 (and_left (leb (nat_abs z) 7600) _ v))
  where
    go : (z : ℤ) → nat_abs z ≤ 7600 → twos_complement z < 2 ^ 16
    go (pos n) h = omega arith
    go (negsuc n) h = omega arith

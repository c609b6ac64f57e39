-- Examples at the edges, P1 to P12 of docs/RULES.md, as one table.
-- Assumes nothing.
use Rattle.std.specs.Prelude.{ℕ, ◌≡◌, Bool, true, false, List, [], ◌∷◌, ℤ, pos, neg_ℤ}
use Rattle.laws.specs.Refusals.{Answer, answered}
use Rattle.laws.specs.Cards.{clubs, diamonds, spades, notrump, north, east, south, west}
use Rattle.laws.specs.Auction.{pass, is_over}
use Rattle.laws.specs.LeadRevoke.{Counted}
use Rattle.laws.specs.Law64.{transferred_tricks}
use Rattle.laws.specs.Law77.{Stake, declarer_score}
use Rattle.laws.specs.Law78.{imps, ns_matchpoints}

-- a level and a strain, undoubled, doubled or redoubled
abbrev pub bid : ℕ → ℕ → ℕ → Bool → Stake
bid level strain doubling vulnerable = record { level = level; strain = strain; doubling = doubling; vulnerable = vulnerable }

-- the IMPs of a score against 0
abbrev pub imps_over0 : ℤ → Answer ℤ
imps_over0 score = imps score (pos 0)

-- the four results of P8
abbrev pub field : List ℤ
field = pos 420 ∷ pos 420 ∷ neg_ℤ (pos 50) ∷ pos 450 ∷ []

-- South declares, North is dummy, East and West defend; nothing is claimed
abbrev pub transferred : List ℕ → List Counted → ℕ
transferred winners revokes = transferred_tricks north winners (λ side. 0) revokes

abbrev pub revoke : ℕ → ℕ → ℕ → Counted
revoke trick seat suit = record { trick = trick; seat = seat; suit = suit; excused = false }

-- East wins trick 3 and no defender a later one
abbrev pub only_third : List ℕ
only_third = south ∷ south ∷ east ∷ south ∷ south ∷ south ∷ south ∷ south ∷ south ∷ south ∷ south ∷ south ∷ south ∷ []

-- East wins trick 3, and the defenders five later ones
abbrev pub third_and_five : List ℕ
third_and_five = south ∷ south ∷ east ∷ west ∷ east ∷ south ∷ south ∷ west ∷ south ∷ south ∷ south ∷ east ∷ west ∷ []

-- East wins tricks 3 and 10, his side's only tricks from 3 on
abbrev pub third_and_tenth : List ℕ
third_and_tenth = west ∷ south ∷ east ∷ south ∷ south ∷ south ∷ south ∷ south ∷ south ∷ east ∷ south ∷ south ∷ south ∷ []

-- West wins the last two tricks
abbrev pub last_two : List ℕ
last_two = south ∷ south ∷ south ∷ south ∷ south ∷ south ∷ south ∷ south ∷ south ∷ south ∷ south ∷ west ∷ west ∷ []

pub record Examples : Type 0 where
  -- 3NT making 9, not vulnerable
  pub p1 : declarer_score (bid 3 notrump 0 false) 9 ≡ pos 400
  -- 4 spades making 11, vulnerable
  pub p2 : declarer_score (bid 4 spades 0 true) 11 ≡ pos 650
  -- 2 diamonds doubled making 9, not vulnerable
  pub p3 : declarer_score (bid 2 diamonds 1 false) 9 ≡ pos 280
  -- 7NT doubled, made, vulnerable
  pub p4 : declarer_score (bid 7 notrump 1 true) 13 ≡ pos 2490
  -- 5 clubs redoubled, four down, not vulnerable
  pub p5 : declarer_score (bid 5 clubs 2 false) 7 ≡ neg_ℤ (pos 1600)
  -- 1NT redoubled, 13 tricks, vulnerable
  pub p6 : declarer_score (bid 1 notrump 2 true) 13 ≡ pos 3160
  -- IMPs of 10, 20, 490, 500, 3990, 4000 and -500
  pub p7_10 : imps_over0 (pos 10) ≡ answered (pos 0)
  pub p7_20 : imps_over0 (pos 20) ≡ answered (pos 1)
  pub p7_490 : imps_over0 (pos 490) ≡ answered (pos 10)
  pub p7_500 : imps_over0 (pos 500) ≡ answered (pos 11)
  pub p7_3990 : imps_over0 (pos 3990) ≡ answered (pos 23)
  pub p7_4000 : imps_over0 (pos 4000) ≡ answered (pos 24)
  pub p7_minus_500 : imps_over0 (neg_ℤ (pos 500)) ≡ answered (neg_ℤ (pos 11))
  -- scores 420, 420, -50, 450: NS matchpoints 3, 3, 0, 6
  pub p8_420 : ns_matchpoints field (pos 420) ≡ 3
  pub p8_minus_50 : ns_matchpoints field (neg_ℤ (pos 50)) ≡ 0
  pub p8_450 : ns_matchpoints field (pos 450) ≡ 6
  -- a defender ruffs, revokes and wins trick 3: his side wins none later, or five
  pub p9_none : transferred only_third (revoke 3 east diamonds ∷ []) ≡ 1
  pub p9_five : transferred third_and_five (revoke 3 east diamonds ∷ []) ≡ 2
  -- revokes in two suits by one defender on tricks 3 and 10, which he wins, his side's only tricks from 3 on
  pub p10 : transferred third_and_tenth (revoke 3 east clubs ∷ revoke 10 east diamonds ∷ []) ≡ 2
  -- a revoke on trick 12 alone
  pub p11 : transferred last_two (revoke 12 west clubs ∷ []) ≡ 0
  -- 1 club and three passes ends; pass, pass, pass does not
  pub p12_ends : is_over (pass ∷ pass ∷ pass ∷ 3 ∷ []) ≡ true
  pub p12_goes_on : is_over (pass ∷ pass ∷ pass ∷ []) ≡ false

-- The 56 bits of an answer to lawful parts, read back, give the items of these parts; and so what is explained of a record. Assumes nothing.
use Prim.Native.Nat.{ℕ, ◌≤◌, ◌<◌, ◌/◌, ◌%◌}
use native.Mathlib.Omega.{arith}
use mathlib.Core.Path.{◌≡◌, refl, ap, ◌∙◌}
use mathlib.Core.Bool.{Bool, true, false}
use mathlib.Core.List.{List, [], ◌∷◌}
use borrow.Author.Tests.{eq-eqb, ne_eqb}
use lib.ListN.{length}
use Rattle.laws.specs.Auction.{passed_out}
use Rattle.laws.specs.Law2.{vulnerable}
use Rattle.laws.specs.Law77.{Stake}
use Rattle.laws.specs.Record.{Parts, field, bits, number}
use Rattle.laws.specs.Reading.{Reading, Reading.found}
use Rattle.laws.specs.Judge.{read_record, outcome, least_rooms, judge_of}
use Rattle.laws.specs.Judgement.{calls_of, contract_of, declarer_of, won_of, after_of, revokes_of, stake_of, score_of, twos_complement, played_fields, answer_fields}
use Rattle.laws.specs.Lawful.{Lawful}
use Rattle.laws.specs.Slip.{points_of}
use Rattle.laws.proofs.Accepts.{least-enough, judged, lent_is}
use Rattle.laws.specs.Refusals.{refused_at, given}
use Rattle.laws.proofs.Answered.{is-refused, is-found}
use Rattle.laws.proofs.Tests.{by_test}
use Rattle.explanation.specs.declared.slip.Items.{Items}
use Rattle.judgement.specs.declared.whole.Judged.{Judged}
use Rattle.judgement.specs.Whole.{judgement_of, judged_of}
use Rattle.explanation.specs.Explained.{Possible, no_items, items_for, level_in, declarer_in, tricks_in, board_in, stake_in, items_at, items_in, explained_of}
use Rattle.judgement.proofs.Told.{few-found}
use Rattle.judgement.proofs.Widths.{won-le, after-le, declarer_lt, level-le, strain-le, doubled_le, valid, word_lt}

-- ---- the answer's number by its fields
module _ (board table level strain doubling declarer won after revokes word : ℕ) where
  abbrev whole : ℕ
  whole =
      number
      (field 7 board
      ∷ field 9 table
      ∷ field 3 level
      ∷ field 3 strain
      ∷ field 2 doubling
      ∷ field 2 declarer
      ∷ field 4 won
      ∷ field 4 after
      ∷ field 6 revokes
      ∷ field 16 word
      ∷ [])

  record Back : Type 0 where
    board_back : board_in whole ≡ board
    level_back : level_in whole ≡ level
    strain_back : whole / 17179869184 % 8 ≡ strain
    doubling_back : whole / 4294967296 % 4 ≡ doubling
    declarer_back : declarer_in whole ≡ declarer
    after_back : tricks_in whole ≡ after

  back : board < 128 → table < 512 → level < 8 → strain < 8 → doubling < 4 → declarer < 4 → won < 16 → after < 16 → revokes < 64 → word < 65536 → Back
  unfolding number bits
  back hb ht hl hs hd hc hw ha hr hz =
      record {
        board_back = omega arith;
        level_back = omega arith;
        strain_back = omega arith;
        doubling_back = omega arith;
        declarer_back = omega arith;
        after_back = omega arith;
      }

same-items : {d e : ℕ} {s t : Stake} {m n : ℕ} → d ≡ e → s ≡ t → m ≡ n → items_for d s m ≡ items_for e t n
same-items i j k = rw (i, j, k)

-- the stake by what is read of the bits
pub stake_read : (bits : ℕ) {level strain doubling board declarer : ℕ} {v : Bool} → level ≡ level_in bits → strain ≡ bits / 17179869184 % 8
    → doubling ≡ bits / 4294967296 % 4 → board ≡ board_in bits → declarer ≡ declarer_in bits → v ≡ vulnerable board declarer
    → ◌≡◌ {A = Stake} (record { level = level; strain = strain; doubling = doubling; vulnerable = v }) (stake_in bits)
stake_read bits el es ed eb ec ev = rw (ev, el, es, ed, eb, ec)

pub items-read : (bits : ℕ) {level d m : ℕ} {s : Stake} {i : Items} → level ≡ level_in bits → (level ≡ 0 → ⊥) → d ≡ declarer_in bits → s ≡ stake_in bits
    → m ≡ tricks_in bits → i ≡ items_for d s m → i ≡ items_at bits
unfolding items_at
items-read bits el some ed es em ei = rw (ne_eqb (level_in bits) 0 (λ z. some (el ∙ z))) (ei ∙ same-items ed es em)

-- the items of parts with a contract, and of parts that were passed out
pub bid-parts : (p : Parts) → passed_out (calls_of p) ≡ false → items_for (declarer_of p) (stake_of p) (after_of p) ≡ items_in p
unfolding items_in items_for points_of score_of
bid-parts p bid = rw bid

pub out_parts : (p : Parts) → passed_out (calls_of p) ≡ true → no_items ≡ items_in p
unfolding items_in points_of score_of
out_parts p out = rw out

-- a contract and tricks that lawful parts have
pub parts_possible : (p : Parts) → Lawful p → passed_out (calls_of p) ≡ false → Possible (stake_of p) (after_of p)
unfolding stake_of
parts_possible p ok bid =
    record {
      level_from = (level-le p ok bid).0;
      level_to = (level-le p ok bid).1;
      strain = strain-le p ok bid;
      doubling = doubled_le p ok bid;
      most = after-le p ok;
    }

-- ---- the answer to lawful parts
module _ (p : Parts) (ok : Lawful p) (few : length (revokes_of p) ≤ 48) where
  abbrev all : ℕ
  all = number (answer_fields p)

  -- passed out, the level's bits are zero
  out_level : passed_out (calls_of p) ≡ true → level_in all ≡ 0
  unfolding answer_fields number bits
  out_level e = rw e (omega arith)

  out_items : passed_out (calls_of p) ≡ true → items_at all ≡ items_in p
  unfolding items_at
  out_items e = rw (eq-eqb (level_in all) 0 (out_level e)) (out_parts p e)

  module _ (bid : passed_out (calls_of p) ≡ false) where
    abbrev word : ℕ
    word = twos_complement (score_of p)

    all-is : all
        ≡ whole p.board p.table (contract_of p).level (contract_of p).strain (contract_of p).doubling (declarer_of p) (won_of p) (after_of p)
        (length (revokes_of p)) word
    unfolding answer_fields played_fields
    all-is = rw bid

    all_back : Back p.board p.table (contract_of p).level (contract_of p).strain (contract_of p).doubling (declarer_of p) (won_of p) (after_of p)
        (length (revokes_of p)) word
    all_back =
        back _ _ _ _ _ _ _ _ _ _ (omega (arith, ok.layout.board_to)) (omega (arith, ok.layout.table_to)) (omega (arith, (level-le p ok bid).1))
        (omega (arith, strain-le p ok bid)) (omega (arith, doubled_le p ok bid)) (declarer_lt p ok bid) (omega (arith, won-le p ok))
        (omega (arith, after-le p ok)) (omega (arith, few)) (word_lt (score_of p) (valid p ok bid))

    stake_back : stake_in all ≡ stake_of p
    unfolding stake_of
    stake_back =
        rw all-is (rw (all_back.level_back, all_back.strain_back, all_back.doubling_back, all_back.board_back, all_back.declarer_back))

    tricks_back : tricks_in all ≡ after_of p
    tricks_back = rw all-is all_back.after_back

    bid-level : level_in all ≡ 0 → ⊥
    bid-level z = omega (arith, ap level_in all-is, all_back.level_back, (level-le p ok bid).0)

    bid_possible : Possible (stake_in all) (tricks_in all)
    bid_possible = rw (stake_back, tricks_back) (parts_possible p ok bid)

    bid-items : items_at all ≡ items_in p
    unfolding items_at
    bid-items =
        rw (ne_eqb (level_in all) 0 bid-level)
        (same-items (rw all-is all_back.declarer_back) stake_back tricks_back ∙ bid-parts p bid)

  possible : (level_in all ≡ 0 → ⊥) → Possible (stake_in all) (tricks_in all)
  possible some =
      by_test (passed_out (calls_of p))
      (λ (q : passed_out (calls_of p) ≡ true). absurd (some (out_level q)))
      bid_possible

  items_back : items_at all ≡ items_in p
  items_back = by_test (passed_out (calls_of p)) out_items bid-items

-- ---- a record
module _ (bytes : List ℕ) where
  abbrev reading : Reading Parts
  reading = read_record bytes 0

  said : judge_of bytes least_rooms ≡ outcome reading
  said = lent_is least_rooms least-enough bytes

  pub explained_refused : {n place : ℕ} → refused_at n place ≡ judged_of reading → refused_at n place ≡ explained_of (judge_of bytes least_rooms)
  unfolding explained_of
  explained_refused e = rw (said ∙ ap outcome (is-refused judgement_of reading e)) refl

  module _ {j : Judged} (ej : given j ≡ judged_of reading) where
    told : (p : Parts) × (at : ℕ) × (reading ≡ found p at) × (j ≡ judgement_of p)
    told = is-found judgement_of reading ej

    lawful : Lawful told.0
    lawful = (judged bytes told.0 told.1 told.2).0.0

    few : length (revokes_of told.0) ≤ 48
    few = (few-found bytes told.2).revokes

    pub answer_possible : (level_in j.bits ≡ 0 → ⊥) → Possible (stake_in j.bits) (tricks_in j.bits)
    answer_possible = rw told.3 (possible told.0 lawful few)

    pub explained_granted : (i : Items) → i ≡ items_at j.bits → given i ≡ explained_of (judge_of bytes least_rooms)
    unfolding explained_of
    explained_granted i e = rw (e, told.3, said ∙ ap outcome told.2) (ap given (items_back told.0 lawful few))

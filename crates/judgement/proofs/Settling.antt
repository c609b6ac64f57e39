-- The answer's 56 bits as one number, and a score as 16 bits. Assumes nothing.
use Prim.Native.Nat.{ℕ, ◌≤◌, ◌<◌, ◌+◌, ◌-◌, ◌*◌, ◌%◌}
use native.Mathlib.Omega.{arith}
use mathlib.Core.Path.{◌≡◌, refl, sym, ◌∙◌}
use mathlib.Core.Bool.{Bool, true, false}
use mathlib.Core.List.{List, ◌∷◌}
use borrow.Author.Tests.{le-leb}
use lib.IntN.{ℤ, pos, negsuc, nat_abs}
use lib.Signed.{le_z}
use Rattle.laws.specs.Law64.{side_revoked, tricks_after}
use Rattle.laws.specs.LeadRevoke.{Counted}
use Rattle.laws.specs.Record.{field, bits, number}
use Rattle.laws.specs.Judgement.{twos_complement}
use Rattle.laws.proofs.Tests.{by_test, not_both}
use Rattle.auction.specs.declared.Contract.{Contract}
use mir.Syntax.{w64}
use mir.Val.{to_z, of_z, SFits}
use mir.Facts.{to_z-of_z}
use Rattle.std.specs.Int.{int_wrap}
use Rattle.std.proofs.lemmas.Int.{int_wrap_fits}
use Rattle.laws.proofs.Integers.{mag-le-size}
use Rattle.laws.proofs.Slip.{size-ns}
use Rattle.laws.specs.Law2.{vulnerable}
use Rattle.laws.specs.Law77.{declarer_score, ns_score}
use Rattle.play.specs.declared.Tricks.{Tricks}
use Rattle.position.specs.declared.listed.Listed.{Listed}
use Rattle.transfer.specs.Inputs.{revokes_in, transferred_in}
use Rattle.judgement.specs.Settled.{head_fields, play_fields, won_in, after_in, settled_fields}

-- ---- the fields as one number
pub head_number : (board table : ℕ) → board * 562949953421312 + table * 1099511627776 ≡ number (head_fields board table)
unfolding number bits
head_number board table = omega arith

pub play-number : (k : Contract) (won after revokes word : ℕ)
    → k.level * 137438953472 + k.strain * 17179869184 + k.doubling * 4294967296 + k.declarer * 1073741824 +
    (won * 67108864 + after * 4194304) + revokes * 65536 + word
    ≡ number (play_fields k won after revokes word)
unfolding number bits
play-number k won after revokes word = omega arith

-- board and table before any 40 bits
pub join_number : (board table : ℕ) (k : Contract) (won after revokes word : ℕ)
    → number (head_fields board table) + number (play_fields k won after revokes word)
    ≡ number (field 7 board ∷ field 9 table ∷ play_fields k won after revokes word)
unfolding number bits
join_number board table k won after revokes word = omega arith

-- ---- a score as 16 bits
pub word_up : (z : ℤ) → le_z (pos 0) z ≡ true → nat_abs z ≡ twos_complement z
unfolding twos_complement
word_up (pos n) e = refl
word_up (negsuc n) e = not_both false e refl

pub at_least_0 : (n : ℕ) → le_z (pos 0) (pos n) ≡ true
at_least_0 n = le-leb 0 n (omega arith)

pub word_down : (z : ℤ) → le_z (pos 0) z ≡ false → 65536 - nat_abs z ≡ twos_complement z
unfolding twos_complement
word_down (pos n) e = not_both (le_z (pos 0) (pos n)) (at_least_0 n) e
word_down (negsuc n) e = refl

pub word_le : (z : ℤ) → le_z (pos 0) z ≡ false → twos_complement z ≤ 65536
word_le z e = rw (sym (word_down z e)) (omega arith)

-- ---- declarer's tricks after Law 64 are at most both together
pub after-le : (declarer : ℕ) (rs : List Counted) (won moved : ℕ) → tricks_after declarer rs won moved ≤ won + moved
unfolding tricks_after
after-le declarer rs won moved =
    by_test (side_revoked (declarer % 2) rs)
    (λ (q : side_revoked (declarer % 2) rs ≡ true). rw q (omega arith))
    (λ (q : side_revoked (declarer % 2) rs ≡ false). rw q (omega arith))

-- ---- the whole answer, from what each call gave
pub settled : (board table : ℕ) (k : Contract) (ts : Tricks) (rs : Listed) (claim left taken moved after : ℕ) (v : Bool) (score ns : ℤ) (word head play : ℕ)
    → taken ≡ won_in ts k.declarer claim → moved ≡ transferred_in rs ts k.declarer claim left → after ≡ tricks_after k.declarer (revokes_in rs) taken moved
    → v ≡ vulnerable board k.declarer
    → score ≡ declarer_score (record { level = k.level; strain = k.strain; doubling = k.doubling; vulnerable = v }) after
    → ns ≡ ns_score k.declarer score → word ≡ twos_complement ns → head ≡ number (head_fields board table)
    → play ≡ number (play_fields k taken after rs.count word) → head + play ≡ number (settled_fields board table k ts rs claim left)
unfolding settled_fields after_in
settled board table k ts rs claim left taken moved after v score ns word head play et em ea ev es en ew eh ep =
    rw (eh, ep, ew, en, es, ev, ea, em, et) (join_number board table k _ _ rs.count _)

-- a small number, read back from its 64 bits
pub read_small : (z : ℤ) → nat_abs z < 10000000000000 → to_z w64 (of_z w64 z) ≡ z
read_small z h = to_z-of_z {w = w64} (record { sfits = omega (arith, mag-le-size z) })

-- the score from North-South of a small number, which does not wrap
module _ (declarer : ℕ) (z : ℤ) (h : nat_abs z < 10000000000000) {r : ℤ} (e : r ≡ int_wrap w64 (ns_score declarer (to_z w64 (of_z w64 z)))) where
  pub ns_told : r ≡ ns_score declarer z
  ns_told =
      let fits : SFits w64 (ns_score declarer z) = record { sfits = omega (arith, mag-le-size (ns_score declarer z), size-ns declarer z) } in
      e ∙ rw (read_small z h) (int_wrap_fits w64 (ns_score declarer z) fits)

  pub ns_small : nat_abs r < 10000000000000
  ns_small = rw ns_told (omega (arith, h, size-ns declarer z))

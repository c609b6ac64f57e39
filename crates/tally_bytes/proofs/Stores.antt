-- The four stores of a tally in 398 bytes, one behind the other, are its bytes. Assumes nothing.
use Prim.Native.Nat.{ℕ, ◌≤◌, ◌+◌}
use native.Mathlib.Nat.{zero-add}
use native.Mathlib.Omega.{arith}
use mathlib.Core.Path.{◌≡◌, sym, ap, ◌∙◌}
use mathlib.Core.List.{List, ◌++◌, append-nil}
use Rattle.std.proofs.lemmas.List.{drop_all}
use borrow.Author.Tests.{le-ltb}
use lib.ListN.{length, set, drop, length-append, length-set}
use lib.Seq.{sets, sets-eq, length-sets}
use Rattle.laws.specs.Lent.{◌over◌}
use Rattle.tally.specs.declared.Tally.{Tally}
use Rattle.tally.specs.InBytes.{deal_bytes, score_bytes, tally_bytes}
use Rattle.tally.proofs.InBytes.{length-deal-bytes, length-score-bytes}
use Rattle.tally_bytes.specs.Written.{tally_left}
use Rattle.tally_bytes.proofs.Rows.{sets_append}

module _ (t : Tally) (old : List ℕ) {first : List ℕ} (deal : first ≡ sets (set old 0 t.board) 1 (deal_bytes t.deal)) where
  length_first : length first ≡ length old
  length_first = rw deal (length-sets _ _ (deal_bytes t.deal) ∙ length-set old 0 t.board)

  module _ {second : List ℕ} (scores : second ≡ sets first 14 (score_bytes t.scores)) where
    length-second : length second ≡ length old
    length-second = rw scores (length-sets first 14 (score_bytes t.scores) ∙ length_first)

    module _ {third : List ℕ} (counts : third ≡ sets second 270 t.counts) where
      module _ (long : length old ≡ 398) (n : length t.deal ≡ 52) (m : length t.scores ≡ 128) (k : length t.counts ≡ 128) where
        abbrev d : List ℕ
        d = deal_bytes t.deal

        abbrev s : List ℕ
        s = score_bytes t.scores

        behind : 1 + length d ≡ 14
        behind = omega (arith, length-deal-bytes 13 t.deal n)

        last : 14 + length s ≡ 270
        last = omega (arith, length-score-bytes t.scores)

        one_run : third ≡ sets old 0 (tally_bytes t)
        unfolding tally_bytes
        one_run =
            let l = set old 0 t.board in
            sym (
            sets_append l 1 d (s ++ t.counts)
            ∙ ap (λ (i : ℕ). sets (sets l 1 d) i (s ++ t.counts)) behind
            ∙ sets_append (sets l 1 d) 14 s t.counts
            ∙ ap (λ (i : ℕ). sets (sets (sets l 1 d) 14 s) i t.counts) last
            ∙ rw (counts, scores, deal)
            )

        whole : length (tally_bytes t) ≡ 398
        unfolding tally_bytes
        whole = omega (arith, length-append d (s ++ t.counts), length-append s t.counts, behind, last)

        all : third ≡ tally_bytes t
        all =
            one_run
            ∙ sets-eq (tally_bytes t) old 0 (omega (arith, whole))
            ∙ rw (zero-add, drop_all (length (tally_bytes t)) old (omega (arith, whole)), append-nil (tally_bytes t))

        pub over_front : (out : List ℕ) → 398 ≤ length out → third ++ drop 398 out ≡ tally_left t out
        unfolding tally_left ◌over◌
        over_front out room = rw (all, le-ltb (length out) 398 room, whole)

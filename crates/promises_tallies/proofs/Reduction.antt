-- Merging as a reduction, proved: what is left of two byte strings is the bytes of what the merge of their tallies leaves. Assumes nothing.
use Prim.Native.Nat.{ℕ, zero, suc}
use native.Mathlib.Omega.{arith}
use mathlib.Core.Path.{◌≡◌, refl, sym, ap, ap₂, ◌∙◌}
use mathlib.Core.Bool.{true, false}
use mathlib.Core.List.{List, []}
use borrow.Author.Tests.{eqb-true, eqb-false}
use lib.Dec.{eqb}
use lib.ListN.{length}
use Rattle.laws.specs.Refusals.{Placed, given}
use Rattle.laws.specs.Tally.{leaves}
use Rattle.laws.proofs.Tests.{by_test}
use Rattle.tally.specs.declared.Tally.{Tally}
use Rattle.tally.specs.Tallies.{Tallied}
use Rattle.tally.specs.InBytes.{tally_bytes, tally_in, InRange}
use Rattle.tally.specs.Tallies.{tally_of, well_formed, no_tally, merge_of}
use Rattle.tally.proofs.Formed.{formed}
use Rattle.tally.proofs.InBytes.{length-tally-bytes, tally_back}
use Rattle.tally.proofs.Ranges.{formed_range, none_range, none-bytes}
use Rattle.tally_calls.specs.Calls.{in_room, tallied, merge_call}
use Rattle.promises_tallies.specs.Tallies.{◌∪◌}
use Rattle.promises_tallies.specs.TallyBytes.{kept}
use Rattle.promises_tallies.specs.Demand3Bytes.{no_bytes}
use Rattle.promises_tallies.specs.Reduction.{reduced, Reduction}
use Rattle.promises_tallies.proofs.Tallies.{of_merge, refused_none}
use Rattle.promises_tallies.proofs.TalliesMerging.{merging}
use Rattle.promises_tallies.proofs.TallyNumbers.{fresh-well, merge_made}
use Rattle.promises_tallies.proofs.Demand3Bytes.{kept-left}

-- what a merge leaves is a tally that bytes can tell
union_range : (a b : Tally) → InRange (a ∪ b)
union_range a b =
    by_test (eqb (merge_of a b).refusal 0)
    (λ (q : eqb (merge_of a b).refusal 0 ≡ true). formed_range (a ∪ b) ((merge_made a b).well (eqb-true (merge_of a b).refusal 0 q)))
    (λ (q : eqb (merge_of a b).refusal 0 ≡ false). rw (of_merge a b (eqb-false (merge_of a b).refusal 0 q)) none_range)

-- as what a call leaves where nothing stood before
union_left : (a b : Tally) → leaves (merge_of a b).refusal (a ∪ b) no_tally ≡ a ∪ b
unfolding leaves
union_left a b = go (merge_of a b).refusal refl
  where
    go : (n : ℕ) → (merge_of a b).refusal ≡ n → leaves n (a ∪ b) no_tally ≡ a ∪ b
    go zero e = refl
    go (suc n) e = sym (of_merge a b (λ z. omega (arith, e, z)))

reduced-is : (a b : List ℕ) → reduced a b ≡ tally_bytes (tally_in a ∪ tally_in b)
unfolding reduced merge_call in_room
reduced-is a b =
    ap (kept (tallied (merge_of (tally_in a) (tally_in b)))) (sym none-bytes)
    ∙ kept-left (merge_of (tally_in a) (tally_in b)) no_tally
    ∙ ap tally_bytes (union_left (tally_in a) (tally_in b))

reduced_back : (a b : List ℕ) → tally_in (reduced a b) ≡ tally_in a ∪ tally_in b
reduced_back a b = ap tally_in (reduced-is a b) ∙ tally_back (tally_in a ∪ tally_in b) (union_range (tally_in a) (tally_in b))

-- 398 zeros are read as no tally
zeros_back : tally_in no_bytes ≡ no_tally
zeros_back = ap tally_in (sym none-bytes) ∙ tally_back no_tally none_range

commutes : (a b : List ℕ) → reduced a b ≡ reduced b a
commutes a b = reduced-is a b ∙ ap (λ (r : Tallied). tally_bytes r.tally) (merging.commutes (tally_in a) (tally_in b)) ∙ sym (reduced-is b a)

associates : (a b c : List ℕ) → reduced (reduced a b) c ≡ reduced a (reduced b c)
associates a b c =
    reduced-is (reduced a b) c
    ∙ ap (λ (x : Tally). tally_bytes (x ∪ tally_in c)) (reduced_back a b)
    ∙ ap tally_bytes (merging.associates (tally_in a) (tally_in b) (tally_in c))
    ∙ ap (λ (x : Tally). tally_bytes (tally_in a ∪ x)) (sym (reduced_back b c))
    ∙ sym (reduced-is a (reduced b c))

zeros_first : (a : List ℕ) → reduced no_bytes a ≡ no_bytes
zeros_first a =
    reduced-is no_bytes a
    ∙ ap (λ (x : Tally). tally_bytes (x ∪ tally_in a)) zeros_back
    ∙ ap (λ (r : Tallied). tally_bytes r.tally) (refused_none.then_first (tally_in a))
    ∙ none-bytes

merged : (a b bytes : List ℕ) → merge_call a b 398 ≡ given bytes → reduced a b ≡ bytes
unfolding reduced
merged a b bytes e = ap (λ (s : Placed (List ℕ)). kept s no_bytes) e

empty : (t : Tally) → well_formed t ≡ true → reduced (tally_bytes (tally_of t.board [])) (tally_bytes t) ≡ tally_bytes t
empty t w =
    let e = tally_back t (formed_range t w) in
    let none = formed_range (tally_of t.board []) (fresh-well t.board (formed t w).board) in
    reduced-is (tally_bytes (tally_of t.board [])) (tally_bytes t)
    ∙ ap₂ (λ (x y : Tally). tally_bytes (x ∪ y)) (tally_back (tally_of t.board []) none) e
    ∙ ap (λ (r : Tallied). tally_bytes r.tally) (merging.empty_first t w)

pub reduction : Reduction
reduction =
    record {
      commutes = commutes;
      associates = associates;
      zeros_first = zeros_first;
      zeros_second = λ a. commutes a no_bytes ∙ zeros_first a;
      many = λ a b. ap length (reduced-is a b) ∙ length-tally-bytes (tally_in a ∪ tally_in b) (union_range (tally_in a) (tally_in b));
      merged = merged;
      empty = empty;
    }

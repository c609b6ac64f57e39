-- Values of one width put one after the other: what a turn of the loop leaves. Assumes nothing.
use Prim.Native.Nat.{ℕ, ◌+◌, ◌/◌, ◌%◌, ◌^◌, ◌≤◌, ◌<◌}
use native.Mathlib.Numerals.{add-one}
use native.Mathlib.Omega.{arith}
use mathlib.Core.Path.{◌≡◌, refl, sym, ◌∙◌}
use mathlib.Core.Bool.{true, false}
use mathlib.Core.List.{List, ◌∷◌}
use lib.Dec.{leb}
use lib.ListN.{length, drop, get_or, drop_of_length-le}
use lib.Seq.{drop-cons, length-sets}
use Rattle.laws.specs.Record.{Field, field, row, bytes_of}
use Rattle.laws.proofs.Tests.{by_test}
use Rattle.packing.specs.declared.Packer.{Packer}
use Rattle.packing.specs.Packed.{waiting, joined, packer_after, bytes_after, packer_after_all, bytes_after_all}

-- a field leaves the buffer's length
pub length-after : (p : Packer) (f : Field) (out : List ℕ) → length (bytes_after p f out) ≡ length out
unfolding bytes_after
length-after p f out =
    by_test (leb f.width 16)
    (λ (q : leb f.width 16 ≡ true). rw q (length-sets out p.at (bytes_of (waiting p f / 8) (joined p f / 2 ^ (waiting p f % 8)))))
    (λ (q : leb f.width 16 ≡ false). rw q)

row_more : (w : ℕ) (vs : List ℕ) (i : ℕ) → i < length vs → row w (drop i vs) ≡ field w (get_or vs i 0) ∷ row w (drop (i + 1) vs)
unfolding row
row_more w vs i h = rw (add-one i, drop-cons vs i 0)

module _ (p : Packer) (out : List ℕ) (w : ℕ) (vs : List ℕ) where
  -- after i turns: what is still to be put leaves what the whole row leaves
  pub record Reached (q : Packer) (left : List ℕ) (i : ℕ) : Type 0 where
    pub within : i ≤ length vs
    pub long : length left ≡ length out
    pub packer : packer_after_all (length out) q (row w (drop i vs)) ≡ packer_after_all (length out) p (row w vs)
    pub bytes : bytes_after_all q (row w (drop i vs)) left ≡ bytes_after_all p (row w vs) out

  pub begins : Reached p out 0
  begins = record { within = omega arith; long = refl; packer = refl; bytes = refl }

  pub goes : {q q' : Packer} {left left' : List ℕ} {i v : ℕ} → Reached q left i → i < length vs → v ≡ get_or vs i 0
      → q' ≡ packer_after (length left) q (field w v) → left' ≡ bytes_after q (field w v) left → Reached q' left' (i + 1)
  unfolding packer_after_all bytes_after_all
  goes {q} {q'} {left} {left'} {i} {v} r h ev eq el =
      let more = row_more w vs i h in
      record {
        within = omega arith;
        long = rw el (length-after q (field w v) left ∙ r.long);
        packer = rw (eq, r.long, ev) (sym (rw more) ∙ r.packer);
        bytes = rw (eq, el, ev) (sym (rw more) ∙ r.bytes);
      }

  pub ends : {q : Packer} {left : List ℕ} {i : ℕ} → Reached q left i → length vs ≤ i
      → (q ≡ packer_after_all (length out) p (row w vs)) × (left ≡ bytes_after_all p (row w vs) out)
  unfolding packer_after_all bytes_after_all row
  ends r h = let none = drop_of_length-le vs h in (rw none at r.packer, rw none at r.bytes)

-- A row filled place by place, and bytes stored place by place in a buffer. Assumes nothing.
use Prim.Native.Nat.{ℕ, suc, ◌≤◌, ◌<◌, ◌+◌, ◌*◌}
use native.Mathlib.Nat.{add-zero}
use native.Mathlib.Numerals.{add-one}
use native.Mathlib.Omega.{arith}
use mathlib.Core.Path.{◌≡◌, sym, ap, ◌∙◌}
use borrow.Rule.Slice.PartMut.{put_mid}
use mathlib.Core.List.{List, [], ◌∷◌, ◌++◌, append_assoc}
use lib.ListN.{length, get_or, take, drop, set}
use lib.Seq.{take-suc, take-suc-set, take_all, take-length, drop-drop, sets, sets-eq, length-take-le}

module _ {A : Type 0} where
  -- one more place of a row is that of the target
  pub filled : (target row : List A) (i : ℕ) (v d : A) → take i row ≡ take i target → i < length row → i < length target → v ≡ get_or target i d
      → take (i + 1) (set row i v) ≡ take (i + 1) target
  filled target row i v d e h k f = rw add-one (take-suc-set row i v h ∙ rw (e, f) (sym (take-suc target i d k)))

  -- all places are
  pub all_filled : (target row : List A) (n : ℕ) → length row ≡ n → length target ≡ n → take n row ≡ take n target → row ≡ target
  all_filled target row n h k e = sym (take-length row) ∙ rw (h, e, ← k) (take-length target)

  -- a run of stores in two parts
  pub sets_append : (l : List A) (at : ℕ) (vs ws : List A) → sets l at (vs ++ ws) ≡ sets (sets l at vs) (at + length vs) ws
  sets_append l at [] ws = rw (add-zero at)
  sets_append l at (v ∷ vs) ws =
      let e : suc at + length vs ≡ at + suc (length vs) = omega arith in
      sets_append (set l at v) (suc at) vs ws ∙ ap (λ (k : ℕ). sets (sets (set l at v) (suc at) vs) k ws) e

  -- the first i of some values are stored from a place on
  module _ (old vs : List A) (at i : ℕ) (d : A) {left : List A} (so_far : left ≡ sets old at (take i vs)) where
    pub stored : {v : A} → i < length vs → v ≡ get_or vs i d → set left (at + i) v ≡ sets old at (take (i + 1) vs)
    stored h e =
        let n = length-take-le i vs (omega arith) in
        rw (so_far, add-one, take-suc vs i d h, sets_append old at (take i vs) (get_or vs i d ∷ []), n, e)

    -- all of them
    pub all_stored : length vs ≤ i → left ≡ sets old at vs
    all_stored h = rw (so_far, take_all i vs h)

  -- two more
  pub stored_two : (old vs : List A) (at i : ℕ) (d : A) {left : List A} → left ≡ sets old at (take (2 * i) vs) → {v w : A} → 2 * i + 1 < length vs
      → v ≡ get_or vs (2 * i) d → w ≡ get_or vs (2 * i + 1) d → set (set left (at + 2 * i) v) (suc at + 2 * i) w ≡ sets old at (take (2 * (i + 1)) vs)
  stored_two old vs at i d e h f g =
      let p : suc at + 2 * i ≡ at + (2 * i + 1) = omega arith in
      let q : 2 * (i + 1) ≡ 2 * i + 1 + 1 = omega arith in
      rw (p, q) (stored old vs at (2 * i + 1) d (stored old vs at (2 * i) d e (omega arith) f) h g)

  -- a part written over is a run of stores
  pub part_stored : (old vs : List A) (at k : ℕ) → length vs ≡ k → at + k ≤ length old → put_mid at k old vs ≡ sets old at vs
  part_stored old vs at k e h =
      rw (drop-drop k at old, ← e) (sym (append_assoc (take at old) vs (drop (at + length vs) old)) ∙ sym (sets-eq vs old at (omega (arith, e, h))))

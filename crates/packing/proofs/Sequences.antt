-- Fields put by several calls, one after the other, are put as one list. Assumes nothing.
use Prim.Native.Nat.{ℕ}
use mathlib.Core.Path.{◌≡◌, refl, sym, ◌∙◌}
use mathlib.Core.List.{List, [], ◌∷◌, ◌++◌}
use lib.ListN.{length}
use Rattle.laws.specs.Record.{Field}
use Rattle.packing.specs.declared.Packer.{Packer}
use Rattle.packing.specs.Packed.{new_packer, packer_after, bytes_after, packer_after_all, bytes_after_all, bytes_finished, bytes_packed}
use Rattle.packing.proofs.Rows.{length-after}

-- from a packer and a buffer the fields lead to another packer, and leave the buffer so
pub record Puts (p : Packer) (old : List ℕ) (fs : List Field) (q : Packer) (left : List ℕ) : Type 0 where
  pub packer : q ≡ packer_after_all (length old) p fs
  pub bytes : left ≡ bytes_after_all p fs old

pub length-after-all : (p : Packer) (fs : List Field) (out : List ℕ) → length (bytes_after_all p fs out) ≡ length out
unfolding bytes_after_all
length-after-all p [] out = refl
length-after-all p (f ∷ fs) out = length-after-all (packer_after (length out) p f) fs (bytes_after p f out) ∙ length-after p f out

packer_append : (room : ℕ) (p : Packer) (fs gs : List Field) → packer_after_all room p (fs ++ gs) ≡ packer_after_all room (packer_after_all room p fs) gs
unfolding packer_after_all
packer_append room p [] gs = refl
packer_append room p (f ∷ fs) gs = packer_append room (packer_after room p f) fs gs

bytes_append : (p : Packer) (fs gs : List Field) (out : List ℕ)
    → bytes_after_all p (fs ++ gs) out ≡ bytes_after_all (packer_after_all (length out) p fs) gs (bytes_after_all p fs out)
unfolding packer_after_all bytes_after_all
bytes_append p [] gs out = refl
bytes_append p (f ∷ fs) gs out =
    bytes_append (packer_after (length out) p f) fs gs (bytes_after p f out)
    ∙ rw (length-after p f out)

-- one field
pub puts_one : (p : Packer) (old : List ℕ) (f : Field) {q : Packer} {left : List ℕ} → (q ≡ packer_after (length old) p f) × (left ≡ bytes_after p f old)
    → Puts p old (f ∷ []) q left
unfolding packer_after_all bytes_after_all
puts_one p old f e = record { packer = e.0; bytes = e.1 }

-- fields, and others behind them
pub puts_then : {p q r : Packer} {old between left : List ℕ} {fs gs : List Field} → Puts p old fs q between → Puts q between gs r left
    → Puts p old (fs ++ gs) r left
puts_then {p} {q} {r} {old} {between} {left} {fs} {gs} a b =
    let long = length-after-all p fs old in
    record {
      packer = b.packer ∙ rw (a.bytes, long, a.packer) (sym (packer_append (length old) p fs gs));
      bytes = b.bytes ∙ rw (a.bytes, a.packer) (sym (bytes_append p fs gs old));
    }

-- from a new packer to the end
pub puts_whole : {q : Packer} {old between : List ℕ} {fs : List Field} → Puts new_packer old fs q between → bytes_finished q between ≡ bytes_packed fs old
unfolding bytes_packed
puts_whole a = rw (a.packer, a.bytes)

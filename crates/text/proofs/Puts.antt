-- Texts put one after the other. Assumes nothing.
use Prim.Native.Nat.{ℕ, zero, suc, ◌+◌, ◌≤◌, ◌<◌}
use native.Mathlib.Numerals.{add-one}
use native.Mathlib.Omega.{arith}
use mathlib.Core.Path.{◌≡◌, refl, sym, ap, ◌∙◌, subst}
use mathlib.Core.Bool.{true, false}
use mathlib.Core.List.{List, [], ◌∷◌, ◌++◌}
use borrow.Author.Tests.{le-leb, lt-leb, leb-true, leb-false}
use lib.Dec.{leb}
use Rattle.std.specs.Prelude.{min, ◌-◌}
use lib.ListN.{length, take, drop, get_or, set, length-append, length-drop, take-append-drop}
use lib.Seq.{sets, length-sets, sets-eq, take-suc, length-take-le, take_at, take_all}
use Rattle.laws.specs.Fitting.{fits}
use Rattle.laws.proofs.Tests.{by_test}
use Rattle.std.specs.Prelude.{Option, Some, None}
use Rattle.text.specs.Putting.{last_place, place_after, Put, written, length_within, left_in}

-- stores from a place on, and then from the place after them
pub sets_append : (o : List ℕ) (at : ℕ) (s t : List ℕ) → sets o at (s ++ t) ≡ sets (sets o at s) (at + length s) t
sets_append o at [] t =
    let e : at + 0 ≡ at = omega arith in
    rw e
sets_append o at (b ∷ s) t =
    let e : at + suc (length s) ≡ suc at + length s = omega arith in
    rw e (sets_append (set o at b) (suc at) s t)

-- a store behind the end, and a run of them, change nothing
set_beyond : (o : List ℕ) (at b : ℕ) → length o ≤ at → set o at b ≡ o
set_beyond [] at b h = refl
set_beyond (x ∷ o) zero b h = absurd (omega arith)
set_beyond (x ∷ o) (suc at) b h = ap (λ (l : List ℕ). x ∷ l) (set_beyond o at b (omega arith))

pub sets-beyond : (o : List ℕ) (at : ℕ) (s : List ℕ) → length o ≤ at → sets o at s ≡ o
sets-beyond o at [] h = refl
sets-beyond o at (b ∷ s) h = rw (set_beyond o at b h) (sets-beyond o (suc at) s (omega arith))

-- ---- the place after a text
pub place-within : (at n : ℕ) → at + n ≤ last_place → place_after at n ≡ at + n
unfolding place_after
place-within at n h = rw (le-leb (at + n) last_place h)

pub place-last : (at n : ℕ) → last_place < at + n → place_after at n ≡ last_place
unfolding place_after
place-last at n h = rw (lt-leb (at + n) last_place h)

pub place_least : (at n : ℕ) → min (at + n) last_place ≡ place_after at n
unfolding place_after
place_least at n =
    by_test (leb (at + n) last_place)
    (λ (q : leb (at + n) last_place ≡ true). let h = leb-true _ _ q in rw q (omega arith))
    (λ (q : leb (at + n) last_place ≡ false). let h = leb-false _ _ q in rw q (omega arith))

place-most : (at n : ℕ) → place_after at n ≤ last_place
unfolding place_after
place-most at n =
    by_test (leb (at + n) last_place)
    (λ (q : leb (at + n) last_place ≡ true). rw q (leb-true (at + n) last_place q))
    (λ (q : leb (at + n) last_place ≡ false). rw q (omega arith))

from_last : (n : ℕ) → place_after last_place n ≡ last_place
from_last zero = place-within last_place 0 (omega arith)
from_last (suc n) = place-last last_place (suc n) (omega arith)

same_place : (a b x y : ℕ) → a + x ≡ b + y → place_after a x ≡ place_after b y
unfolding place_after
same_place a b x y e = rw e

-- a text, and then another at the place after it
pub then : {o l m : List ℕ} {at n k : ℕ} {s t : List ℕ} → Put o at s l n → Put l n t m k → Put o at (s ++ t) m k
then {o} {l} {m} {at} {n} {k} {s} {t} p q =
    by_test (leb (at + length s) last_place)
    (λ (w : leb (at + length s) last_place ≡ true).
    let e : n ≡ at + length s = p.place ∙ place-within at (length s) (leb-true _ _ w) in
    let sum : at + length s + length t ≡ at + length (s ++ t) = simp length-append (omega arith) in
    record {
      place = q.place ∙ rw e (same_place (at + length s) at (length t) (length (s ++ t)) sum);
      bytes = q.bytes ∙ rw (p.bytes, e) (sym (sets_append o at s t));
      within = p.within;
    })
    (λ (w : leb (at + length s) last_place ≡ false).
    let over : last_place < at + length s = leb-false _ _ w in
    let e : n ≡ last_place = p.place ∙ place-last at (length s) over in
    let same : length (sets o at s) ≡ length o = length-sets o at s in
    record {
      place = q.place ∙ rw e (from_last (length t) ∙ sym (place-last at (length (s ++ t)) (omega (arith, length-append s t))));
      bytes =
          q.bytes ∙ rw (p.bytes, e) (sets-beyond (sets o at s) last_place t (omega (arith, same, p.within))
          ∙ sym (sets_append o at s t ∙ sets-beyond (sets o at s) (at + length s) t (omega (arith, same, p.within))));
      within = p.within;
    })

-- the bytes are as many as before
pub put_length : {o l : List ℕ} {at n : ℕ} {s : List ℕ} → Put o at s l n → length l ≡ length o
put_length {o} {l} {at} {n} {s} p = rw p.bytes (length-sets o at s)

-- where the text fits, the place after it is its end
pub put_place : {o l : List ℕ} {at n : ℕ} {s : List ℕ} → Put o at s l n → at + length s ≤ length o → n ≡ at + length s
put_place {o} {l} {at} {n} {s} p h = p.place ∙ place-within at (length s) (omega (arith, p.within))

-- nothing more
pub put_next : {o l : List ℕ} {at n : ℕ} {s : List ℕ} → Put o at s l n → Put l n [] l n
put_next {o} {l} {at} {n} {s} p =
    let most : n ≤ last_place = rw p.place (place-most at (length s)) in
    let none : n + 0 ≡ n = omega arith in
    record { place = sym (place-within n 0 (omega arith) ∙ none); bytes = refl; within = omega (arith, put_length p, p.within) }

-- after nothing was put the bytes are as they were: what is put then is put to the first ones
pub put_again : {o l : List ℕ} {at n : ℕ} → Put o at [] l n → Put l at [] l n
put_again p = record { place = p.place; bytes = refl; within = rw p.bytes p.within }

pub put_since : {o l m : List ℕ} {at n to k : ℕ} {s : List ℕ} → Put o at [] l n → Put l to s m k → Put o to s m k
put_since {o} {l} {m} {at} {n} {to} {k} {s} p q = subst (λ (x : List ℕ). Put x to s m k) p.bytes q

-- ---- a text put byte by byte, as far as there is room
module _ (o bytes : List ℕ) (at i : ℕ) where
  pub put_one : i < length bytes → set (sets o at (take i bytes)) (at + i) (get_or bytes i 0) ≡ sets o at (take (i + 1) bytes)
  put_one h =
      let n : length (take i bytes) ≡ i = length-take-le i bytes (omega arith) in
      rw (add-one i, take-suc bytes i 0 h) (sym (sets_append o at (take i bytes) (get_or bytes i 0 ∷ []) ∙ rw n))

module _ (o bytes : List ℕ) (at start n : ℕ) (from : start ≡ min at (length o)) (many : n ≡ min (length bytes) (length o - start)) where
  -- there is room for some of it, or for all
  put_room : at ≤ length o → sets o at (take n bytes) ≡ sets o at bytes
  put_room h =
      by_test (leb (length bytes) n)
      (λ (q : leb (length bytes) n ≡ true). rw (take_all n bytes (leb-true _ _ q)))
      (λ (q : leb (length bytes) n ≡ false).
      let short : n < length bytes = leb-false _ _ q in
      let full : length o ≤ at + n = omega arith in
      let count : length (take n bytes) ≡ n = length-take-le n bytes (omega arith) in
      let whole = sets_append o at (take n bytes) (drop n bytes) in
      sym (rw (take-append-drop n bytes, count) at whole
      ∙ sets-beyond (sets o at (take n bytes)) (at + n) (drop n bytes) (omega (arith, length-sets o at (take n bytes)))))

  pub put_whole : sets o start (take n bytes) ≡ sets o at bytes
  put_whole =
      by_test (leb at (length o))
      (λ (q : leb at (length o) ≡ true).
      let within : at ≤ length o = leb-true _ _ q in
      let same : start ≡ at = omega arith in
      rw same (put_room within))
      (λ (q : leb at (length o) ≡ false).
      let past : length o < at = leb-false _ _ q in
      let none : n ≡ 0 = omega arith in
      rw none (sym (sets-beyond o at bytes (omega arith))))

-- from the first place: the text, and then the bytes that were after it
pub put_front : (o l : List ℕ) (s : List ℕ) (n : ℕ) → Put o 0 s l n → length s ≤ length o → l ≡ s ++ drop (length s) o
put_front o l s n p h =
    let e : 0 + length s ≡ length s = omega arith in
    p.bytes ∙ sets-eq s o 0 (omega arith) ∙ rw e

-- ---- a text in a local array, and then in lent bytes
module _ (text : List ℕ) (zeros local : List ℕ) (n : ℕ) (p : Put zeros 0 text local n) (room : length text ≤ length zeros) where
  pub local_place : n ≡ length text
  local_place = omega (arith, put_place p (omega arith))

  pub local_length : n ≤ length local
  local_length = omega (arith, local_place, put_length p)

  pub taken-length : n ≡ length (take n local)
  taken-length = sym (length-take-le n local local_length)

  pub taken : take n local ≡ text
  taken =
      rw (put_front zeros local text n p room) (take_at text (drop (length text) zeros) n (sym local_place))

-- a text lent: too few bytes, or as many as it needs
module _ (text out : List ℕ) where
  pub too_short : length out < length text → (written None ≡ length_within text (length out)) × (out ≡ left_in out text)
  unfolding length_within left_in
  too_short h = rw (lt-leb (length text) (length out) h) (refl, refl)

  pub copied : length text ≤ length out → (written (Some (length text)) ≡ length_within text (length out)) × (text ++ drop (length text) out ≡ left_in out text)
  unfolding length_within left_in
  copied h = rw (le-leb (length text) (length out) h) (refl, refl)

-- ---- what a caller of `write` learns
written-within : (text : List ℕ) (room n : ℕ) (r : Option ℕ) → written r ≡ length_within text room → r ≡ Some n → n ≤ room
unfolding length_within
written-within text room n r e q =
    let told : fits n ≡ length_within text room = sym (ap written q) ∙ e in
    by_test (leb (length text) room)
    (λ (t : leb (length text) room ≡ true).
    let k : n ≡ length text = cc (rw t at told) in
    omega (arith, leb-true (length text) room t))
    (λ (t : leb (length text) room ≡ false). absurd (let z : ◌≡◌ {A = ℕ} 0 1 = cc (rw t at told) in omega arith))

left-length : (out text : List ℕ) → length (left_in out text) ≡ length out
unfolding left_in
left-length out text =
    by_test (leb (length text) (length out))
    (λ (t : leb (length text) (length out) ≡ true).
    rw (t, length-append text (drop (length text) out), length-drop (length text) out) (omega (arith, leb-true (length text) (length out) t)))
    (λ (t : leb (length text) (length out) ≡ false). rw t)

-- what was written is the start of the lent bytes
module _ (out left text : List ℕ) (n : ℕ) (r : Option ℕ) (e : written r ≡ length_within text (length out)) (f : left ≡ left_in out text) (q : r ≡ Some n) where
  pub written-prefix : n ≤ length left
  written-prefix = rw (f, left-length out text) (written-within text (length out) n r e q)

  pub written-length : n ≡ length (take n left)
  written-length = sym (length-take-le n left written-prefix)

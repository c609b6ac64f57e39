-- Two lists of ordered entries joined entry by entry, and the places written so far. Assumes nothing.
use Rattle.std.specs.Prelude.{if◌then◌else◌}
use Prim.Native.Nat.{ℕ, zero, suc, ◌≤◌, ◌<◌, ◌+◌}
use native.Mathlib.Omega.{arith}
use mathlib.Core.Path.{◌≡◌, refl, sym, ap, ◌∙◌}
use mathlib.Core.Bool.{Bool, true, false}
use mathlib.Core.List.{List, [], ◌∷◌, map}
use borrow.Author.Tests.{lt-ltb, le-ltb}
use lib.Dec.{ltb, eqb, leb-suc-suc}
use lib.IntN.{ℤ, pos}
use lib.ListN.{length, get_or, take, drop, set}
use lib.Seq.{drop-nil}
use lib.Signed.{lt_z}
use Rattle.laws.specs.Law78.{same_score}
use Rattle.laws.specs.Padded.{padded}
use Rattle.laws.proofs.Tests.{by_test}
use Rattle.laws.proofs.Scores.{Below, Order, less, same, more, order, true_same}
use Rattle.tally.specs.declared.Entry.{Entry}
use Rattle.merging.specs.declared.Next.{Next}
use Rattle.tally.specs.Entries.{score, count, entry, entries, no_entry}
use Rattle.tally.specs.Tallies.{ceiling}
use Rattle.merging.specs.Joins.{higher_of}
use Rattle.tally.proofs.Ordered.{count_of, sum_of, Ordered, valid-high, tail_ordered, none_at, next, no_entries}

-- the first of a list of entries
abbrev pub head_of : List Entry → Entry
head_of [] = no_entry
head_of (e ∷ es) = e

-- two lists of entries, and one with the results of both
pub record Split (a b whole : List Entry) : Type 0 where
  pub first : Ordered ceiling a
  pub second : Ordered ceiling b
  pub both : Ordered ceiling whole
  pub counts : (y : ℤ) → count_of y whole ≡ count_of y a + count_of y b
  pub room : sum_of a + sum_of b ≤ 128

-- what the next entry takes from the two, and from the whole
pub record Taken (n : Next) (a b whole : List Entry) : Type 0 where
  pub begins : whole ≡ entry n.score n.count ∷ drop 1 whole
  pub rest : Split (drop n.first a) (drop n.second b) (drop 1 whole)

under : (s : ℤ) (es : List Entry) → Ordered ceiling es → lt_z (score (head_of es)) s ≡ true → Ordered s es
under s [] w h = tt
under s (e ∷ es) w h = (w.0, h, w.2, w.3)

-- ---- the first list's entry is the higher
module _ (e : Entry) (es fs whole : List Entry) (w : Split (e ∷ es) fs whole) (h : Ordered (score e) fs) where
  left-entry : (whole ≡ e ∷ drop 1 whole) × ((y : ℤ) → count_of y (drop 1 whole) ≡ count_of y es + count_of y fs)
  left-entry =
      next e (λ (y : ℤ). count_of y es + count_of y fs) w.first.2
      (λ (y : ℤ) n. omega (arith, none_at (score e) y es n w.first.3, none_at (score e) y fs n h))
      ceiling whole w.both
      (λ (y : ℤ). omega (arith, w.counts y))

  left-rest : Split es fs (drop 1 whole)
  left-rest =
      record {
        first = tail_ordered ceiling (e ∷ es) w.first;
        second = w.second;
        both = tail_ordered ceiling whole w.both;
        counts = left-entry.1;
        room = omega (arith, w.room);
      }

-- ---- both lists' entries are of one score
module _ (e f : Entry) (es fs whole : List Entry) (w : Split (e ∷ es) (f ∷ fs) whole) (s : score e ≡ score f) where
  one-count : (y : ℤ) (b : Bool) → (if b then count e else 0) + count_of y es + ((if b then count f else 0) + count_of y fs)
      ≡ (if b then count e + count f else 0) + 0 + (count_of y es + count_of y fs)
  one-count y true = omega arith
  one-count y false = omega arith

  both_entry : (whole ≡ entry (score e) (count e + count f) ∷ drop 1 whole) × ((y : ℤ) → count_of y (drop 1 whole) ≡ count_of y es + count_of y fs)
  both_entry =
      next (entry (score e) (count e + count f)) (λ (y : ℤ). count_of y es + count_of y fs) (omega (arith, w.first.2))
      (λ (y : ℤ) n. omega (arith, none_at (score e) y es n w.first.3, none_at (score f) y fs (rw s at n) w.second.3))
      ceiling whole w.both
      (λ (y : ℤ). w.counts y ∙ rw s (one-count y (same_score y (score f))))

  both_rest : Split es fs (drop 1 whole)
  both_rest =
      record {
        first = tail_ordered ceiling (e ∷ es) w.first;
        second = tail_ordered ceiling (f ∷ fs) w.second;
        both = tail_ordered ceiling whole w.both;
        counts = both_entry.1;
        room = omega (arith, w.room);
      }

turned : (a b whole : List Entry) → Split a b whole → Split b a whole
turned a b whole w =
    record { first = w.second; second = w.first; both = w.both; counts = λ y. omega (arith, w.counts y); room = omega (arith, w.room) }

-- ---- one turn: the higher entry of the two is the whole's next
take_left : (e : Entry) (es fs whole : List Entry) → Split (e ∷ es) fs whole → Below (score (head_of fs)) (score e)
    → Taken (higher_of e (head_of fs)) (e ∷ es) fs whole
unfolding higher_of
take_left e es fs whole w b =
    let o = under (score e) fs w.second b.lt in
    rw (b.en, b.lt) (record { begins = (left-entry e es fs whole w o).0; rest = left-rest e es fs whole w o })

take_right : (f : Entry) (es fs whole : List Entry) → Split es (f ∷ fs) whole → Below (score (head_of es)) (score f)
    → Taken (higher_of (head_of es) f) es (f ∷ fs) whole
unfolding higher_of
take_right f es fs whole w b =
    let v = turned es (f ∷ fs) whole w in
    let o = under (score f) es w.first b.lt in
    rw (b.ne, b.ge) (record { begins = (left-entry f fs es whole v o).0; rest = turned fs es (drop 1 whole) (left-rest f fs es whole v o) })

take_same : (e f : Entry) (es fs whole : List Entry) → Split (e ∷ es) (f ∷ fs) whole → score e ≡ score f → Taken (higher_of e f) (e ∷ es) (f ∷ fs) whole
unfolding higher_of
take_same e f es fs whole w s =
    rw (true_same (score e) (score f) s) (record { begins = (both_entry e f es fs whole w s).0; rest = both_rest e f es fs whole w s })

take_both : (e f : Entry) (es fs whole : List Entry) → Split (e ∷ es) (f ∷ fs) whole → Order (score e) (score f) → Taken (higher_of e f) (e ∷ es) (f ∷ fs) whole
take_both e f es fs whole w (less b) = take_right f (e ∷ es) fs whole w b
take_both e f es fs whole w (more b) = take_left e es (f ∷ fs) whole w b
take_both e f es fs whole w (same s) = take_same e f es fs whole w s

-- no result, where both lists have ended, or else an entry with one
pub record Turn (n : Next) (a b whole : List Entry) : Type 0 where
  pub ends : n.count ≡ 0 → whole ≡ []
  pub goes : (n.count ≡ 0 → ⊥) → Taken n a b whole

going : (n : Next) (a b whole : List Entry) → Split a b whole → Taken n a b whole → Turn n a b whole
going n a b whole w k =
    let o : Ordered ceiling (entry n.score n.count ∷ drop 1 whole) = rw k.begins at w.both in
    record { ends = λ z. absurd (omega (arith, o.2)); goes = λ z. k }

ended : (whole : List Entry) → Split [] [] whole → Turn (higher_of no_entry no_entry) [] [] whole
unfolding higher_of
ended whole w = record { ends = λ z. no_entries ceiling whole w.both w.counts; goes = λ z. absurd (z refl) }

pub turn : (a b whole : List Entry) → Split a b whole → Turn (higher_of (head_of a) (head_of b)) a b whole
turn [] [] whole w = ended whole w
turn [] (f ∷ fs) whole w = going _ [] (f ∷ fs) whole w (take_right f [] fs whole w (valid-high (score f) w.second.0))
turn (e ∷ es) [] whole w = going _ (e ∷ es) [] whole w (take_left e es [] whole w (valid-high (score e) w.first.0))
turn (e ∷ es) (f ∷ fs) whole w = going _ (e ∷ es) (f ∷ fs) whole w (take_both e f es fs whole w (order (score e) (score f)))

-- ---- the heads are what the places hold
no_head : (i : ℕ) (x : Entry) → (if ltb i 0 then x else no_entry) ≡ head_of (drop i [])
no_head i x = rw (le-ltb i 0 (omega arith), drop-nil {A = Entry} i)

pub head_at : (i : ℕ) (ss : List ℤ) (cs : List ℕ)
    → (if ltb i (length (entries ss cs)) then entry (get_or ss i (pos 0)) (get_or cs i 0) else no_entry) ≡ head_of (drop i (entries ss cs))
unfolding entries
head_at i [] cs = no_head i _
head_at i (s ∷ ss) [] = no_head i _
head_at zero (s ∷ ss) (c ∷ cs) =
    by_test (eqb c 0)
    (λ (q : eqb c 0 ≡ true). rw q)
    (λ (q : eqb c 0 ≡ false). rw (q, lt-ltb 0 (suc (length (entries ss cs))) (omega arith)))
head_at (suc i) (s ∷ ss) (c ∷ cs) =
    by_test (eqb c 0)
    (λ (q : eqb c 0 ≡ true). rw q (no_head (suc i) _))
    (λ (q : eqb c 0 ≡ false). rw (q, leb-suc-suc (suc i) (length (entries ss cs))) (head_at i ss cs))

-- two heads have at most the results of their lists
head_sum : (es : List Entry) → count (head_of es) ≤ sum_of es
head_sum [] = omega arith
head_sum (e ∷ es) = omega arith

pub heads_fit : (a b whole : List Entry) → Split a b whole → count (head_of a) + count (head_of b) ≤ 128
heads_fit a b whole w = omega (arith, head_sum a, head_sum b, w.room)

-- how many entries a turn takes
pub takes_one : (x y : Entry) → ((higher_of x y).first ≤ 1) × ((higher_of x y).second ≤ 1)
unfolding higher_of
takes_one x y =
    by_test (same_score (score x) (score y))
    (λ (q : same_score (score x) (score y) ≡ true). rw q (omega arith, omega arith))
    (λ (q : same_score (score x) (score y) ≡ false). rw q (by_test (lt_z (score y) (score x))
    (λ (r : lt_z (score y) (score x) ≡ true). rw r (omega arith, omega arith))
    (λ (r : lt_z (score y) (score x) ≡ false). rw r (omega arith, omega arith))))

-- ---- the places written so far: the first k entries of the whole, and zeros
module _ {A : Type 0} (z : A) (f : Entry → A) where
  abbrev pub written : ℕ → ℕ → List Entry → List A
  written n k whole = padded z n (map f (take k whole))

  -- one more is written
  pub write : (n k : ℕ) (x : Entry) (rest whole : List Entry) → drop k whole ≡ x ∷ rest → k < n → set (written n k whole) k (f x) ≡ written n (suc k) whole
  unfolding padded
  write zero k x rest whole e h = absurd (omega arith)
  write (suc n) zero x rest [] e h = cc
  write (suc n) zero x rest (w ∷ ws) e h = ap (λ (y : Entry). f y ∷ padded z n []) (sym (first-of w x ws rest e))
    where
      first-of : (w x : Entry) (ws rest : List Entry) → w ∷ ws ≡ x ∷ rest → w ≡ x
      first-of w x ws rest e = cc
  write (suc n) (suc k) x rest [] e h = cc
  write (suc n) (suc k) x rest (w ∷ ws) e h = ap (λ (l : List A). f w ∷ l) (write n k x rest ws e (omega arith))

-- nothing is left to write
pub all-taken : (k : ℕ) (whole : List Entry) → drop k whole ≡ [] → take k whole ≡ whole
all-taken zero [] e = refl
all-taken zero (w ∷ ws) e = sym e
all-taken (suc k) [] e = refl
all-taken (suc k) (w ∷ ws) e = ap (λ (l : List Entry). w ∷ l) (all-taken k ws e)

-- How merging goes, proved: in any order and bracketing, refused or not. Assumes nothing.
use Prim.Native.Nat.{ℕ, zero, suc, ◌≤◌, ◌+◌}
use native.Mathlib.Omega.{arith}
use mathlib.Core.Path.{◌≡◌, refl, sym, ap, ap₂, ◌∙◌}
use mathlib.Core.Logic.{◌⊎◌, inl, inr, ⊎_elim}
use mathlib.Core.Bool.{true, false}
use mathlib.Core.List.{List, [], ◌∷◌, ◌++◌, append_assoc}
use borrow.Author.Tests.{eqb-true, eqb-false, eq-eqb, ne_eqb}
use lib.Dec.{eqb}
use lib.IntN.{ℤ}
use lib.ListN.{length, length-append}
use Rattle.laws.specs.Tally.{◌or_else◌, on_deal, fouled, no_deal, Refusal, refusal, leaves, AllValid}
use Rattle.laws.specs.Tally.{boards_refusal, fouled_refusal, room_refusal, merge_refusal}
use Rattle.laws.proofs.Tests.{by_test}
use Rattle.laws.proofs.TallyRules.{length_on, merge-allowed, allowed-merge}
use Rattle.tally.specs.declared.Tally.{Tally}
use Rattle.tally.specs.Tallies.{Tallied}
use Rattle.tally.specs.Tallies.{tally_for, tally_of, scores_in, results_in, well_formed}
use Rattle.tally.specs.Tallies.{no_tally, refused_with, accepting, answer_of, merge_of}
use Rattle.tally.specs.Steps.{kept_deal}
use Rattle.tally.proofs.Lists.{valid_append}
use Rattle.merging.proofs.Answers.{answer-accepted, first_malformed, second_malformed}
use Rattle.tally.proofs.Dealing.{carried_none, tally-merge}
use Rattle.tally.proofs.Kept.{kept-none, kept-some, kept_assoc, kept_turned, not-fouled, fouled_deals, deals_fouled, fouled_turned, sound_merge}
use Rattle.tally.proofs.OfLists.{Sound, one-tally, merge-list, answer_by, answer-number, same_turned, tally-board, tally-deal, own_length}
use Rattle.promises_tallies.specs.Tallies.{Fit, Merging, OfTallies, many_in, ◌∪◌}
use Rattle.promises_tallies.proofs.TalliesMatchpoints.{matchpoints}
use Rattle.promises_tallies.proofs.Tallies.{sound, own, of_merge, none_malformed, described, refused_none}

-- ---- merging
-- two tallies that fit do not foul the board
fits : (a b : Tally) → Fit a b → fouled (results_in a) (results_in b) ≡ false
fits a b f = not-fouled a.deal (scores_in a) b.deal (scores_in b) f.one_deal

-- two lists merged
list-merged : (b : ℕ) (d : List ℕ) (l : List ℤ) (e : List ℕ) (m : List ℤ) → Sound b d l → Sound b e m → fouled (on_deal d l) (on_deal e m) ≡ false
    → length l + length m ≤ 128
    → merge_of (tally_for b d l) (tally_for b e m) ≡ accepting (tally_for b (kept_deal (length l) d e) (l ++ m))
list-merged b d l e m v w f r =
    let z = allowed-merge b (on_deal d l) b (on_deal e m) refl f (omega (arith, length_on d l, length_on e m)) in
    merge-list b d l b e m v w ∙ sym (answer-accepted _ _ (ap (λ (x : Refusal). x.number) z))

-- a well-formed tally of board n as that of its list
as_list : (t : Tally) (n : ℕ) → well_formed t ≡ true → t.board ≡ n → t ≡ tally_for n t.deal (scores_in t)
as_list t n w e = sym (own t w) ∙ ap (λ (b : ℕ). tally_for b t.deal (scores_in t)) e

sound_of : (t : Tally) (n : ℕ) → well_formed t ≡ true → t.board ≡ n → Sound n t.deal (scores_in t)
sound_of t n w e = rw (← e) (sound t w)

-- two tallies that fit, merged
module _ (a b : Tally) (n : ℕ) (f : Fit a b) (e : a.board ≡ n) where
  other-board : b.board ≡ n
  other-board = sym f.one_board ∙ e

  merged : merge_of a b ≡ accepting (tally_for n (kept_deal (many_in a) a.deal b.deal) (scores_in a ++ scores_in b))
  merged =
      ap₂ merge_of (as_list a n f.first e) (as_list b n f.second other-board)
      ∙ list-merged n a.deal (scores_in a) b.deal (scores_in b) (sound_of a n f.first e) (sound_of b n f.second other-board) (fits a b f) f.room

  merged-tally : a ∪ b ≡ tally_for n (kept_deal (many_in a) a.deal b.deal) (scores_in a ++ scores_in b)
  merged-tally = ap (λ (r : Tallied). r.tally) merged

  merged_sound : Sound n (kept_deal (many_in a) a.deal b.deal) (scores_in a ++ scores_in b)
  merged_sound =
      sound_merge n a.deal (scores_in a) b.deal (scores_in b) (sound_of a n f.first e) (sound_of b n f.second other-board) f.room

accepts : (a b : Tally) → Fit a b → (merge_of a b).refusal ≡ 0
accepts a b f = ap (λ (r : Tallied). r.refusal) (merged a b a.board f refl)

fouled_28 : (a b : Tally) → well_formed a ≡ true → well_formed b ≡ true → a.board ≡ b.board → 1 ≤ many_in a → 1 ≤ many_in b
    → (a.deal ≡ b.deal → ⊥) → merge_of a b ≡ refused_with (refusal 28)
unfolding merge_of merge_refusal boards_refusal fouled_refusal ◌or_else◌ answer_of leaves
fouled_28 a b v w e h k d = rw (v, w, eq-eqb a.board b.board e, deals_fouled a.deal (scores_in a) b.deal (scores_in b) h k d)

-- ---- the order of two
refusal_turned : (b c : ℕ) (d : List ℕ) (l : List ℤ) (e : List ℕ) (m : List ℤ)
    → merge_refusal b (on_deal d l) c (on_deal e m) ≡ merge_refusal c (on_deal e m) b (on_deal d l)
unfolding merge_refusal boards_refusal fouled_refusal room_refusal
refusal_turned b c d l e m =
    let n : length (on_deal d l) + length (on_deal e m) ≡ length (on_deal e m) + length (on_deal d l) = omega arith in
    by_test (eqb b c)
    (λ (q : eqb b c ≡ true). rw (q, n, fouled_turned d l e m, eq-eqb c b (sym (eqb-true b c q))))
    (λ (q : eqb b c ≡ false). rw (q, n, fouled_turned d l e m, ne_eqb c b (λ z. eqb-false b c q (sym z))))

both_well : (a b : Tally) → well_formed a ≡ true → well_formed b ≡ true → merge_of a b ≡ merge_of b a
unfolding merge_of
both_well a b v w =
    let l = scores_in a in
    let m = scores_in b in
    let n = merge_refusal b.board (results_in b) a.board (results_in a) in
    rw (v, w, refusal_turned a.board b.board a.deal l b.deal m)
    (answer_by n (tally_of a.board (results_in a ++ results_in b)) (tally_of b.board (results_in b ++ results_in a))
    (λ (z : n.number ≡ 0).
    let k = merge-allowed b.board (results_in b) a.board (results_in a) z in
    let u = sound a v in
    let x = sound b w in
    let f = fouled_turned a.deal l b.deal m ∙ k.1 in
    tally-merge a.board a.deal l b.deal m x.deal
    ∙ ap₂ (λ (c : ℕ) (d : List ℕ). tally_for c d (l ++ m)) (sym k.0) (kept_turned a.deal l b.deal m u.deal x.deal f)
    ∙ one-tally b.board (kept_deal (length m) b.deal a.deal) (l ++ m) (m ++ l) (valid_append l m u.valid x.valid)
    (valid_append m l x.valid u.valid) (same_turned l m)
    ∙ sym (tally-merge b.board b.deal m a.deal l u.deal)))

commutes : (a b : Tally) → merge_of a b ≡ merge_of b a
unfolding merge_of answer_of leaves
commutes a b =
    by_test (well_formed a)
    (λ (v : well_formed a ≡ true).
    by_test (well_formed b)
    (λ (w : well_formed b ≡ true). both_well a b v w)
    (λ (w : well_formed b ≡ false). rw (v, w)))
    (λ (v : well_formed a ≡ false).
    by_test (well_formed b)
    (λ (w : well_formed b ≡ true). rw (v, w))
    (λ (w : well_formed b ≡ false). rw (v, w)))

-- ---- three
-- three that fit together, two by two
record Three (a b c : Tally) : Type 0 where
  first : Fit a b
  second : Fit b c
  third : Fit a c
  room : many_in a + many_in b + many_in c ≤ 128

-- one deal where two have a result, of the deal that is kept of the first two
kept-fits : (d : List ℕ) (l : List ℤ) (e : List ℕ) (m : List ℤ) (f : List ℕ) (k : List ℤ) → (1 ≤ length l → 1 ≤ length k → d ≡ f)
    → (1 ≤ length m → 1 ≤ length k → e ≡ f) → 1 ≤ length (l ++ m) → 1 ≤ length k → kept_deal (length l) d e ≡ f
unfolding kept_deal
kept-fits d [] e m f k p q h j = q h j
kept-fits d (s ∷ l) e m f k p q h j = rw (ne_eqb (suc (length l)) 0 (λ z. omega arith)) (p (omega arith) j)

-- both bracketings give the tally of the three lists
module _ (a b c : Tally) (t : Three a b c) where
  abbrev n : ℕ
  n = a.board

  f : Fit a b
  f = t.first

  g : Fit b c
  g = t.second

  of_b : b.board ≡ n
  of_b = sym f.one_board

  of_c : c.board ≡ n
  of_c = sym g.one_board ∙ of_b

  abbrev all : Tallied
  all =
      accepting (tally_for n (kept_deal (many_in a) a.deal (kept_deal (many_in b) b.deal c.deal)) (scores_in a ++ (scores_in b ++ scores_in c)))

  first_two : merge_of (a ∪ b) c ≡ all
  first_two =
      let l = scores_in a in
      let m = scores_in b in
      let k = scores_in c in
      let d = kept_deal (many_in a) a.deal b.deal in
      ap₂ merge_of (merged-tally a b n f refl) (as_list c n g.second of_c)
      ∙ list-merged n d (l ++ m) c.deal k (merged_sound a b n f refl) (sound_of c n g.second of_c)
      (not-fouled d (l ++ m) c.deal k (kept-fits a.deal l b.deal m c.deal k t.third.one_deal g.one_deal))
      (omega (arith, length-append l m, t.room))
      ∙ ap₂ (λ (e : List ℕ) (x : List ℤ). accepting (tally_for n e x))
      (ap (λ (i : ℕ). kept_deal i d c.deal) (length-append l m) ∙ kept_assoc (length l) (length m) a.deal b.deal c.deal) (append_assoc l m k)

  last-two : merge_of a (b ∪ c) ≡ all
  last-two =
      let l = scores_in a in
      let m = scores_in b in
      let k = scores_in c in
      let e = kept_deal (many_in b) b.deal c.deal in
      ap₂ merge_of (as_list a n f.first refl) (merged-tally b c n g of_b)
      ∙ list-merged n a.deal l e (m ++ k) (sound_of a n f.first refl) (merged_sound b c n g of_b)
      (not-fouled a.deal l e (m ++ k)
      (λ h j. sym (kept-fits b.deal m c.deal k a.deal l (λ x y. sym (f.one_deal y x)) (λ x y. sym (t.third.one_deal y x)) j h)))
      (omega (arith, length-append m k, t.room))

  together : ((merge_of (a ∪ b) c).refusal ≡ 0) × ((merge_of a (b ∪ c)).refusal ≡ 0)
  together = (ap (λ (x : Tallied). x.refusal) first_two, ap (λ (x : Tallied). x.refusal) last-two)

  joined : (a ∪ b) ∪ c ≡ a ∪ (b ∪ c)
  joined = ap (λ (x : Tallied). x.tally) (first_two ∙ sym last-two)

-- the number of a merge of well-formed tallies is that of their lists
merged-number : (a b : Tally) → well_formed a ≡ true → well_formed b ≡ true
    → (merge_of a b).refusal ≡ (merge_refusal a.board (results_in a) b.board (results_in b)).number
unfolding merge_of
merged-number a b v w =
    rw (v, w) (answer-number (merge_refusal a.board (results_in a) b.board (results_in b)) (tally_of a.board (results_in a ++ results_in b)))

-- two tallies fit, or their merge leaves no tally
fit_or_none : (a b : Tally) → Fit a b ⊎ (a ∪ b ≡ no_tally)
fit_or_none a b =
    by_test (well_formed a)
    (λ (v : well_formed a ≡ true).
    by_test (well_formed b)
    (λ (w : well_formed b ≡ true). by_refusal v w (merge_refusal a.board (results_in a) b.board (results_in b)).number refl)
    (λ (w : well_formed b ≡ false). inr (ap (λ (x : Tallied). x.tally) (sym (second_malformed a b v w)))))
    (λ (v : well_formed a ≡ false). inr (ap (λ (x : Tallied). x.tally) (sym (first_malformed a b v))))
  where
    by_refusal : well_formed a ≡ true → well_formed b ≡ true → (n : ℕ) → (merge_refusal a.board (results_in a) b.board (results_in b)).number ≡ n
        → Fit a b ⊎ (a ∪ b ≡ no_tally)
    by_refusal v w zero e =
        let m = merge-allowed a.board (results_in a) b.board (results_in b) e in
        inl (record {
          first = v;
          second = w;
          one_board = m.0;
          one_deal = fouled_deals a.deal (scores_in a) b.deal (scores_in b) m.1;
          room = omega (arith, m.2, length_on a.deal (scores_in a), length_on b.deal (scores_in b));
        })
    by_refusal v w (suc n) e = inr (of_merge a b (λ z. omega (arith, merged-number a b v w, e, z)))

turned : (a b c : Tally) → Three c b a → Three a b c
turned a b c t = record { first = back t.second; second = back t.first; third = back t.third; room = omega (arith, t.room) }
  where
    back : {x y : Tally} → Fit x y → Fit y x
    back f =
        record {
          first = f.second;
          second = f.first;
          one_board = sym f.one_board;
          one_deal = λ h k. sym (f.one_deal k h);
          room = omega (arith, f.room);
        }

-- what is merged of two that fit fits a third only where the three fit
three_fit : (a b c : Tally) → Fit a b → Fit (a ∪ b) c → Three a b c
three_fit a b c f g =
    let l = scores_in a in
    let m = scores_in b in
    let d = kept_deal (many_in a) a.deal b.deal in
    let e : a ∪ b ≡ tally_for a.board d (l ++ m) = merged-tally a b a.board f refl in
    let i : many_in (a ∪ b) ≡ length (l ++ m) = rw e (own_length a.board d (l ++ m) (merged_sound a b a.board f refl)) in
    let j : length (l ++ m) ≡ many_in a + many_in b = length-append l m in
    let board : (a ∪ b).board ≡ a.board = rw e (tally-board a.board d (l ++ m)) in
    let deal : (a ∪ b).deal ≡ d = rw e (tally-deal a.board d (l ++ m)) in
    let of_c : a.board ≡ c.board = sym board ∙ g.one_board in
    record {
      first = f;
      second =
          record {
            first = f.second;
            second = g.second;
            one_board = sym f.one_board ∙ of_c;
            one_deal = λ h k. kept_second a.deal l b.deal m f.one_deal h ∙ sym deal ∙ g.one_deal (omega (arith, i, j)) k;
            room = omega (arith, g.room, i, j);
          };
      third =
          record {
            first = f.first;
            second = g.second;
            one_board = of_c;
            one_deal = λ h k. kept-first a.deal l b.deal h ∙ sym deal ∙ g.one_deal (omega (arith, i, j)) k;
            room = omega (arith, g.room, i, j);
          };
      room = omega (arith, g.room, i, j);
    }
  where
    kept-first : (d : List ℕ) (l : List ℤ) (e : List ℕ) → 1 ≤ length l → d ≡ kept_deal (length l) d e
    kept-first d [] e h = absurd (omega arith)
    kept-first d (s ∷ l) e h = sym (kept-some (length l) d e)

    kept_second : (d : List ℕ) (l : List ℤ) (e : List ℕ) (m : List ℤ) → (1 ≤ length l → 1 ≤ length m → d ≡ e) → 1 ≤ length m → e ≡ kept_deal (length l) d e
    kept_second d [] e m p h = sym (kept-none d e)
    kept_second d (s ∷ l) e m p h = sym (p (omega arith) h) ∙ sym (kept-some (length l) d e)

-- so three fit together, or merging them leaves no tally
three_or_none : (a b c : Tally) → Three a b c ⊎ ((a ∪ b) ∪ c ≡ no_tally)
three_or_none a b c =
    ⊎_elim
    (λ (f : Fit a b). ⊎_elim (λ (g : Fit (a ∪ b) c). inl (three_fit a b c f g)) (λ e. inr e) (fit_or_none (a ∪ b) c))
    (λ (e : a ∪ b ≡ no_tally). inr (rw e (ap (λ (x : Tallied). x.tally) (sym (first_malformed no_tally c none_malformed)))))
    (fit_or_none a b)

swapped : (a b : Tally) → a ∪ b ≡ b ∪ a
swapped a b = ap (λ (x : Tallied). x.tally) (commutes a b)

associates : (a b c : Tally) → (a ∪ b) ∪ c ≡ a ∪ (b ∪ c)
associates a b c =
    ⊎_elim
    (joined a b c)
    (λ (e : (a ∪ b) ∪ c ≡ no_tally).
    ⊎_elim
    (λ (t : Three c b a). joined a b c (turned a b c t))
    (λ (f : (c ∪ b) ∪ a ≡ no_tally). e ∙ sym f ∙ swapped (c ∪ b) a ∙ ap (λ (x : Tally). a ∪ x) (swapped c b))
    (three_or_none c b a))
    (three_or_none a b c)

-- ---- the empty tally
module _ (t : Tally) (w : well_formed t ≡ true) where
  empty-is : tally_of t.board [] ≡ tally_for t.board no_deal []
  unfolding tally_of
  empty-is = refl

  none_sound : Sound t.board no_deal []
  unfolding AllValid
  none_sound = record { board = (sound t w).board; valid = tt; room = omega arith; deal = carried_none }

  empty_first : merge_of (tally_of t.board []) t ≡ accepting t
  empty_first =
      ap₂ merge_of empty-is (sym (own t w))
      ∙ list-merged t.board no_deal [] t.deal (scores_in t) none_sound (sound t w)
      (not-fouled no_deal [] t.deal (scores_in t) (λ h k. absurd (omega arith))) (omega (arith, (sound t w).room))
      ∙ ap accepting (ap (λ (d : List ℕ). tally_for t.board d (scores_in t)) (kept-none no_deal t.deal) ∙ own t w)

  empty_second : merge_of t (tally_of t.board []) ≡ accepting t
  empty_second = commutes t (tally_of t.board []) ∙ empty_first

pub merging : Merging
merging =
    record {
      accepts = accepts;
      fouled = fouled_28;
      commutes = commutes;
      associates = associates;
      together = λ a b c f g h r. together a b c (record { first = f; second = g; third = h; room = r });
      empty_first = empty_first;
      empty_second = empty_second;
    }

pub of_tallies : OfTallies
of_tallies = record { described = described; refused_none = refused_none; merging = merging; matchpoints = matchpoints }

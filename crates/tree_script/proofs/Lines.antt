-- A line read as a call, by the tests that the code makes. Assumes nothing.
use Prim.Native.Nat.{ℕ, ◌-◌, ◌≤◌, ◌<◌}
use native.Mathlib.Omega.{arith}
use Rattle.std.specs.List.{starts_with}
use mathlib.Core.Path.{◌≡◌, refl, sym, ap, ◌∙◌}
use mathlib.Core.Bool.{Bool, true, false, ◌&&◌}
use mathlib.Core.List.{List, [], ◌∷◌}
use borrow.Author.Tests.{eq-eqb, ne_eqb, lt-leb, le-leb}
use lib.Dec.{eqb}
use lib.ListN.{length, get_or, take, drop}
use Rattle.laws.proofs.Tests.{eqb_swap, and_right, not_both}
use Rattle.decimal.specs.Scores.{score_on}
use Rattle.std.specs.Prelude.{None, Some}
use Rattle.tree_script.specs.declared.Call.TheVariants.{Add, Merge, Matchpoints}
use Rattle.tree_script.specs.Calls.{is_prefix, fresh_on, of_deal, names_deal, given_on, with_given, fresh_word, add_word, matchpoints_word, merge_word, tally_call_on}

-- ---- a word at the start, as `starts_with` finds it
as_prefix : (word s : List ℕ) → starts_with eqb s word ≡ is_prefix word s
unfolding is_prefix
as_prefix [] s = refl
as_prefix (w ∷ word) [] = refl
as_prefix (w ∷ word) (b ∷ s) = rw (eqb_swap w b) (ap (λ r. eqb b w && r) (as_prefix word s))

pub begun : (word s : List ℕ) {b : Bool} → b ≡ starts_with eqb s word → is_prefix word s ≡ b
begun word s e = sym (e ∙ as_prefix word s)

pub prefix-length : (word s : List ℕ) → is_prefix word s ≡ true → length word ≤ length s
unfolding is_prefix
prefix-length [] s e = omega arith
prefix-length (w ∷ word) [] e = not_both false e refl
prefix-length (w ∷ word) (b ∷ s) e = omega (arith, prefix-length word s (and_right (eqb b w) (is_prefix word s) e))

-- ---- the ladder of words
module _ (s : List ℕ) where
  pub to-fresh : is_prefix fresh_word s ≡ true → fresh_on (drop 6 s) ≡ tally_call_on s
  unfolding tally_call_on
  to-fresh p = rw p

  module _ (no-fresh : is_prefix fresh_word s ≡ false) where
    pub to-add : is_prefix add_word s ≡ true → with_given Add (given_on (drop 4 s)) ≡ tally_call_on s
    unfolding tally_call_on
    to-add p = rw (no-fresh, p)

    module _ (no_add : is_prefix add_word s ≡ false) where
      pub to-matchpoints : is_prefix matchpoints_word s ≡ true → with_given Matchpoints (given_on (drop 12 s)) ≡ tally_call_on s
      unfolding tally_call_on
      to-matchpoints p = rw (no-fresh, no_add, p)

      module _ (no-matchpoints : is_prefix matchpoints_word s ≡ false) where
        pub other_length : (length s ≡ 5 → ⊥) → None ≡ tally_call_on s
        unfolding tally_call_on
        other_length h = rw (no-fresh, no_add, no-matchpoints, ne_eqb (length s) 5 h)

        pub to-merge : length s ≡ 5 → is_prefix merge_word s ≡ true → Some Merge ≡ tally_call_on s
        unfolding tally_call_on
        to-merge h p = rw (no-fresh, no_add, no-matchpoints, eq-eqb (length s) 5 h, p)

        pub to_nothing : length s ≡ 5 → is_prefix merge_word s ≡ false → None ≡ tally_call_on s
        unfolding tally_call_on
        to_nothing h p = rw (no-fresh, no_add, no-matchpoints, eq-eqb (length s) 5 h, p)

-- ---- a score and its deal
module _ (s : List ℕ) where
  abbrev digit : ℕ
  digit = get_or s (length s - 1) 0

  pub too_few : length s < 2 → of_deal 0 (score_on s) ≡ given_on s
  unfolding given_on names_deal
  too_few h = rw (lt-leb 2 (length s) h)

  module _ (two : 2 ≤ length s) where
    pub no_space : (get_or s (length s - 2) 0 ≡ 32 → ⊥) → of_deal 0 (score_on s) ≡ given_on s
    unfolding given_on names_deal
    no_space h = rw (le-leb 2 (length s) two, ne_eqb (get_or s (length s - 2) 0) 32 h)

    module _ (space : get_or s (length s - 2) 0 ≡ 32) where
      pub below_0 : digit < 48 → None ≡ given_on s
      unfolding given_on names_deal
      below_0 h = rw (le-leb 2 (length s) two, eq-eqb (get_or s (length s - 2) 0) 32 space, lt-leb 48 digit h)

      module _ (from : 48 ≤ digit) where
        pub above_5 : 53 < digit → None ≡ given_on s
        unfolding given_on names_deal
        above_5 h = rw (le-leb 2 (length s) two, eq-eqb (get_or s (length s - 2) 0) 32 space, le-leb 48 digit from, lt-leb digit 53 h)

        pub named : digit ≤ 53 → of_deal (digit - 48) (score_on (take (length s - 2) s)) ≡ given_on s
        unfolding given_on names_deal
        named h = rw (le-leb 2 (length s) two, eq-eqb (get_or s (length s - 2) 0) 32 space, le-leb 48 digit from, le-leb digit 53 h)

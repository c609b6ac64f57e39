-- What a check of a tally finds, by the way it ends. Assumes nothing.
use Prim.Native.Nat.{ℕ, ◌+◌}
use native.Mathlib.Omega.{arith}
use mathlib.Core.Path.{◌≡◌, refl, sym, ap, ◌∙◌}
use mathlib.Core.Bool.{Bool, true, false}
use mathlib.Core.List.{List, []}
use lib.ListN.{length}
use Rattle.std.specs.Prelude.{Some, None, Result, Ok, Err}
use Rattle.std.specs.Result.{is_ok}
use Rattle.laws.proofs.Tests.{by_test}
use Rattle.laws.specs.declared.Refusal.TheVariants.{MalformedTally}
use Rattle.laws.specs.declared.Refused.{Refused}
use Rattle.tally.specs.declared.Entry.{Entry}
use Rattle.tally.specs.declared.Size.{Size}
use Rattle.tally.specs.declared.Tally.{Tally}
use Rattle.tally.specs.Entries.{expand}
use Rattle.tally.specs.Tallies.{entries_in, scores_in, in_places, carries, well_formed}
use Rattle.tally.specs.Steps.{size_of, sized, check_of}
use Rattle.tally.proofs.Ordered.{sum_of}
use Rattle.tally.proofs.Lists.{sum_expand}

-- ---- a size by a test
pub none_sized : (test : Bool) (t : Tally) → false ≡ test → None ≡ sized test t
none_sized test t e = rw (← e)

pub some-sized : (test : Bool) (t : Tally) (x : Size) → true ≡ test → x ≡ size_of t → Some x ≡ sized test t
some-sized test t x e q = rw (← e, q)

sized_none : (test : Bool) (t : Tally) → None ≡ sized test t → test ≡ false
sized_none true t e = cc
sized_none false t e = refl

sized-some : (test : Bool) (t : Tally) (x : Size) → Some x ≡ sized test t → (test ≡ true) × (x ≡ size_of t)
sized-some true t x e = (refl, cc)
sized-some false t x e = cc

-- nothing is left to count: what is counted is the size
pub counted : (t : Tally) (i results : ℕ) (rest : List Entry) → rest ≡ [] → sum_of (entries_in t) ≡ results + sum_of rest → length (entries_in t) ≡ i + length rest
    → record { used = i; results = results } ≡ size_of t
unfolding scores_in
counted t i results rest e s n =
    let s' : results ≡ length (expand (entries_in t)) = omega (arith, rw e at s, sum_expand (entries_in t)) in
    let n' : i ≡ length (entries_in t) = omega (arith, rw e at n) in
    rw (s', n')

-- ---- the answer of the check: 17, or the size
abbrev pub malformed : Refused
malformed = record { refusal = MalformedTally; place = 0 }

pub not_places : (t : Tally) → None ≡ sized (in_places t) t → Err malformed ≡ check_of t
unfolding check_of well_formed
not_places t e = rw (sized_none (in_places t) t e)

pub not_carried : (t : Tally) (x : Size) → Some x ≡ sized (in_places t) t → false ≡ carries t.deal x.results → Err malformed ≡ check_of t
unfolding check_of well_formed
not_carried t x e c =
    let p = sized-some (in_places t) t x e in
    let k : carries t.deal (size_of t).results ≡ false = ap (λ (y : Size). carries t.deal y.results) (sym p.1) ∙ sym c in
    rw (p.0, k)

pub is_carried : (t : Tally) (x : Size) → Some x ≡ sized (in_places t) t → true ≡ carries t.deal x.results → Ok x ≡ check_of t
unfolding check_of well_formed
is_carried t x e c =
    let p = sized-some (in_places t) t x e in
    let k : carries t.deal (size_of t).results ≡ true = ap (λ (y : Size). carries t.deal y.results) (sym p.1) ∙ sym c in
    rw (p.0, k, p.1)

-- what a caller learns of it
pub checked : (t : Tally) (x : Size) → Ok x ≡ check_of t → (well_formed t ≡ true) × (x ≡ size_of t)
unfolding check_of
checked t x e =
    by_test (well_formed t)
    (λ (w : well_formed t ≡ true). (w, same (rw w at e)))
    (λ (w : well_formed t ≡ false). never (rw w at e))
  where
    same : {y : Size} → ◌≡◌ {A = Result Size Refused} (Ok x) (Ok y) → x ≡ y
    same q = cc

    never : {A : Type 0} → ◌≡◌ {A = Result Size Refused} (Ok x) (Err malformed) → A
    never q = absurd (let k : ◌≡◌ {A = ℕ} 0 1 = cc in omega arith)

pub unchecked : (t : Tally) (e : Refused) → Err e ≡ check_of t → (well_formed t ≡ false) × (e ≡ malformed)
unfolding check_of
unchecked t e q =
    by_test (well_formed t)
    (λ (w : well_formed t ≡ true). never (rw w at q))
    (λ (w : well_formed t ≡ false). (w, same (rw w at q)))
  where
    same : {y : Refused} → ◌≡◌ {A = Result Size Refused} (Err e) (Err y) → e ≡ y
    same q = cc

    never : {A : Type 0} {y : Size} → ◌≡◌ {A = Result Size Refused} (Err e) (Ok y) → A
    never q = absurd (let k : ◌≡◌ {A = ℕ} 0 1 = cc in omega arith)

pub is_checked : (t : Tally) (r : Result Size Refused) → r ≡ check_of t → is_ok r ≡ well_formed t
unfolding check_of
is_checked t r e =
    by_test (well_formed t)
    (λ (w : well_formed t ≡ true). rw w (ap is_ok (rw w at e)))
    (λ (w : well_formed t ≡ false). rw w (ap is_ok (rw w at e)))

-- the size of a well-formed tally
pub size_results : (t : Tally) (x : Size) → x ≡ size_of t → x.results ≡ length (scores_in t)
size_results t x e = ap (λ (y : Size). y.results) e

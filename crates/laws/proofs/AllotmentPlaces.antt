-- What the pairs of an allotment serve, place by place in the list of revokes: what is due to each revoke there and what is available to it. Assumes nothing.
use Prim.Native.Nat.{ℕ, zero, suc, ◌+◌, ◌≤◌, ◌<◌}
use native.Mathlib.Nat.{zero-add}
use native.Mathlib.Omega.{arith}
use mathlib.Core.Path.{◌≡◌, refl, sym, ap, ◌∙◌}
use mathlib.Core.Bool.{Bool, true, false, ◌&&◌, ◌||◌}
use mathlib.Core.List.{List, [], ◌∷◌, ◌++◌, append_assoc, Memᴰ}
use lib.Dec.{eqb}
use lib.ListN.{length, get_or, take, length-append}
use lib.Seq.{take-append_seam, get_or-append_seam}
use Rattle.laws.specs.Choice.{how_many, some}
use Rattle.laws.specs.Cards.{side_of}
use Rattle.laws.specs.LeadRevoke.{Counted}
use Rattle.laws.specs.Law64.{Due, repeated, is_exempt, entitlement, won_from, dues}
use Rattle.laws.specs.Allotment.{Pair, revoke_of}
use Rattle.laws.proofs.Allotments.{Serves, of_revoke}

-- ---- a revoke's due at its place, whatever way round the earlier ones are listed
or_other : (a b c : Bool) → (a || (b || c)) ≡ (b || (a || c))
or_other true true c = refl
or_other true false c = refl
or_other false b c = refl

-- two revokes of one seat in one suit
abbrev alike : Counted → Counted → Bool
alike e r = eqb e.seat r.seat && eqb e.suit r.suit

-- a repeat is one whatever the order of the earlier revokes
repeated-last : (before : List Counted) (r x : Counted) → repeated (before ++ (r ∷ [])) x ≡ repeated (r ∷ before) x
unfolding repeated some
repeated-last [] r x = refl
repeated-last (e ∷ before) r x =
    ap (λ (b : Bool). alike e x || b) (repeated-last before r x) ∙ or_other (alike e x) (alike r x) (repeated before x)

repeated-more : (before earlier : List Counted) (r : Counted) → ((x : Counted) → repeated before x ≡ repeated earlier x)
    → (x : Counted) → repeated (before ++ (r ∷ [])) x ≡ repeated (r ∷ earlier) x
unfolding repeated some
repeated-more before earlier r same x = repeated-last before r x ∙ ap (λ (b : Bool). alike r x || b) (same x)

abbrev pub no_due : Due
no_due = record { tricks = 0; available = 0 }

module _ (dummy : ℕ) (ws : List ℕ) (claimed : ℕ → ℕ) where
  -- what is due at a place, and what is available
  abbrev pub due_at : List Counted → ℕ → Due
  due_at rs k =
      record {
        tricks = entitlement dummy ws (take k rs) (revoke_of rs k);
        available = won_from ws claimed (side_of (revoke_of rs k).seat) (revoke_of rs k).trick;
      }

  pub dues-length : (earlier rs : List Counted) → length (dues dummy ws claimed earlier rs) ≡ length rs
  unfolding dues
  dues-length earlier [] = refl
  dues-length earlier (r ∷ rs) = ap suc (dues-length (r ∷ earlier) rs)

  dues_at : (before earlier rs : List Counted) → ((x : Counted) → repeated before x ≡ repeated earlier x) → (i : ℕ) → i < length rs
      → get_or (dues dummy ws claimed earlier rs) i no_due ≡ due_at (before ++ rs) (length before + i)
  unfolding dues entitlement is_exempt revoke_of
  dues_at before earlier [] same i h = absurd (omega arith)
  dues_at before earlier (r ∷ rs) same zero h =
      let z : length before + 0 ≡ length before = omega arith in
      rw (z, take-append_seam before (r ∷ rs), get_or-append_seam before r rs, same r)
  dues_at before earlier (r ∷ rs) same (suc i) h =
      let z : length (before ++ (r ∷ [])) + i ≡ length before + suc i = omega (arith, length-append before (r ∷ [])) in
      let more = dues_at (before ++ (r ∷ [])) (r ∷ earlier) rs (repeated-more before earlier r same) i (omega arith) in
      rw (z, append_assoc) at more

  -- from the first revoke on
  pub due_at_lem : (rs : List Counted) (i : ℕ) → i < length rs → get_or (dues dummy ws claimed [] rs) i no_due ≡ due_at rs i
  due_at_lem rs i h = rw zero-add at (dues_at [] [] rs (λ x. refl) i h)

-- ---- what the pairs serve, place by place
pub record Places (tricks : List ℕ) (k : ℕ) (ds : List Due) (pairs : List Pair) : Type 0 where
  pub listed : (q : Pair) → Memᴰ q pairs → q.revoke < k + length ds
  pub few : (i : ℕ) → i < length ds → how_many (of_revoke (k + i)) pairs ≤ (get_or ds i no_due).tricks
  pub had : (i : ℕ) → i < length ds → (q : Pair) → Memᴰ q pairs → q.revoke ≡ k + i → Memᴰ q.trick (take (get_or ds i no_due).available tricks)

module _ (tricks : List ℕ) (pairs : List Pair) where
  pub serves_places : (k : ℕ) (ds : List Due) → Places tricks k ds pairs → Serves tricks k ds pairs
  unfolding Serves
  serves_places k [] s = λ q m. omega (arith, s.listed q m)
  serves_places k (d ∷ ds) s =
      let z : k + 0 ≡ k = omega arith in
      (rw z at (s.few 0 (omega arith)), λ q m e. s.had 0 (omega arith) q m (omega arith), serves_places (suc k) ds (rest s))
    where
      next : (i : ℕ) → k + suc i ≡ suc k + i
      next i = omega arith

      rest : Places tricks k (d ∷ ds) pairs → Places tricks (suc k) ds pairs
      rest s =
          record {
            listed = λ q m. omega (arith, s.listed q m);
            few = λ i h. rw (next i) at (s.few (suc i) (omega arith));
            had = λ i h q m e. s.had (suc i) (omega arith) q m (e ∙ sym (next i));
          }

  pub places_serve : (k : ℕ) (ds : List Due) → Serves tricks k ds pairs → Places tricks k ds pairs
  unfolding Serves
  places_serve k [] s = record { listed = λ q m. omega (arith, s q m); few = λ i h. absurd (omega arith); had = λ i h. absurd (omega arith) }
  places_serve k (d ∷ ds) s =
      let more = places_serve (suc k) ds s.2 in
      record { listed = λ q m. omega (arith, more.listed q m); few = few more; had = had more }
    where
      few : Places tricks (suc k) ds pairs → (i : ℕ) → i < suc (length ds) → how_many (of_revoke (k + i)) pairs ≤ (get_or (d ∷ ds) i no_due).tricks
      few more zero h = let z : k + 0 ≡ k = omega arith in rw z s.0
      few more (suc i) h = let z : k + suc i ≡ suc k + i = omega arith in rw z (more.few i (omega arith))

      had : Places tricks (suc k) ds pairs → (i : ℕ) → i < suc (length ds) → (q : Pair) → Memᴰ q pairs → q.revoke ≡ k + i
          → Memᴰ q.trick (take (get_or (d ∷ ds) i no_due).available tricks)
      had more zero h q m e = s.1 q m (omega arith)
      had more (suc i) h q m e = more.had i (omega arith) q m (omega arith)

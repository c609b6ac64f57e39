-- What the calls on tallies in bytes say, whatever they are given: one of their refusals with a place of at most 4, or as many bytes as they write.
-- Assumes nothing.
use Rattle.std.specs.Prelude.{if◌then◌else◌}
use Prim.Native.Nat.{ℕ, zero, suc, ◌+◌, ◌≤◌, ◌<◌}
use native.Mathlib.Omega.{arith}
use mathlib.Core.Path.{◌≡◌, refl, sym, ap, ap₂, ◌∙◌, subst}
use mathlib.Core.Bool.{Bool, true, false, not}
use mathlib.Core.List.{List, [], ◌∷◌, ◌++◌}
use borrow.Author.Tests.{eqb-true, eqb-false}
use lib.Dec.{ltb, eqb, lit<}
use lib.Ieee.{binary64, to_bits}
use lib.IntN.{ℤ}
use lib.ListN.{length, get_or, replicate, length-append}
use Rattle.laws.specs.Bytes.{Bytes}
use Rattle.laws.specs.Cards.{no_seat, first_without_thirteen, seat_without_thirteen, has_thirteen}
use Rattle.laws.specs.Contents.{are_seats}
use Rattle.laws.specs.Law77.{valid_score}
use Rattle.laws.specs.Law78.{Points, occurrences, matchpoints}
use Rattle.laws.specs.Percentages.{Cell, played, awarded, alone, as_float, cell_asked, is_award, award}
use Rattle.laws.specs.Record.{bytes_of}
use Rattle.laws.specs.Refusals.{Answer, Placed, refused_at, given, placed}
use Rattle.laws.specs.Tally.{Result, ◌or_else◌, on_deal, fouled, no_deal, AllValid, Refusal, refusal, refusal_if, asked, leaves}
use Rattle.laws.specs.Tally.{deal_refusal, score_refusal, boards_refusal, fouled_refusal, room_refusal, fresh_refusal, given_refusal, add_refusal, merge_refusal}
use Rattle.laws.proofs.Bytes.{length-bytes, bytes-of}
use Rattle.laws.proofs.TallyRules.{or_first, or_second, no_seats, uneven, even, merge-allowed, length_on}
use Rattle.laws.proofs.Tests.{by_test}
use Rattle.tally.specs.declared.Tally.{Tally}
use Rattle.tally.specs.Tallies.{Tallied}
use Rattle.tally.specs.Points.{matchpoints_of}
use Rattle.tally.specs.Steps.{kept_deal}
use Rattle.tally.specs.Tallies.{tally_for, tally_of, scores_in, results_in, well_formed, refused_with, accepting, answer_of, fresh_of, add_of, merge_of}
use Rattle.merging.proofs.Answers.{add_malformed, first_malformed, second_malformed}
use Rattle.tally.proofs.Dealing.{carried_none}
use Rattle.tally.proofs.InBytes.{length-tally-bytes, bytes_append, bytes-tally}
use Rattle.tally.proofs.Kept.{sound_add, sound_merge}
use Rattle.tally.proofs.OfLists.{is-well, add-list, merge-list}
use Rattle.tally.proofs.Ranges.{formed_range}
use Rattle.percentages.specs.Cells.{cell_of_tally}
use Rattle.tally_calls.specs.Calls.{spelled, tallied, points_bytes, cell_bytes}
use Rattle.promises_tallies.specs.TallyBytes.{refuses_call}
use Rattle.promises_tallies.proofs.Tallies.{sound, own}

-- ---- refusals
-- where there is a refusal it is one of the calls', with a place of at most 4
abbrev Ruled : Refusal → Type 0
Ruled r = (r.number ≡ 0 → ⊥) → (refuses_call r.number ≡ true) × (r.place ≤ 4)

either_ruled : (a b : Refusal) → Ruled a → Ruled b → Ruled (a or_else b)
either_ruled a b f g =
    by_test (eqb a.number 0)
    (λ (q : eqb a.number 0 ≡ true). rw (or_second a b (eqb-true a.number 0 q)) g)
    (λ (q : eqb a.number 0 ≡ false). rw (or_first a b (eqb-false a.number 0 q)) f)

if_ruled : (test : Bool) (n : ℕ) → refuses_call n ≡ true → Ruled (refusal_if test n)
if_ruled true n e = λ _. (e, omega arith)
if_ruled false n e = λ z. absurd (z refl)

-- the first of some seats without thirteen cards is a seat
seat-within : (deal : List ℕ) (seat : ℕ) (rest : List ℕ) → seat ≤ 4 → first_without_thirteen deal rest ≤ 4 → first_without_thirteen deal (seat ∷ rest) ≤ 4
unfolding first_without_thirteen
seat-within deal seat rest h k =
    by_test (has_thirteen seat deal)
    (λ (q : has_thirteen seat deal ≡ true). rw q k)
    (λ (q : has_thirteen seat deal ≡ false). rw q h)

seat_at_most : (deal : List ℕ) → seat_without_thirteen deal ≤ 4
unfolding first_without_thirteen
seat_at_most deal =
    seat-within deal 0 (1 ∷ 2 ∷ 3 ∷ []) (omega arith)
    (seat-within deal 1 (2 ∷ 3 ∷ []) (omega arith) (seat-within deal 2 (3 ∷ []) (omega arith) (seat-within deal 3 [] (omega arith) (omega arith))))

deal_ruled : (deal : List ℕ) → Ruled (deal_refusal deal)
deal_ruled deal =
    by_test (are_seats deal)
    (λ (e : are_seats deal ≡ true).
    by_test (eqb (seat_without_thirteen deal) no_seat)
    (λ (q : eqb (seat_without_thirteen deal) no_seat ≡ true). rw (even deal e q) (λ z. absurd (z refl)))
    (λ (q : eqb (seat_without_thirteen deal) no_seat ≡ false). rw (uneven deal e q) (λ _. (refl, seat_at_most deal))))
    (λ (e : are_seats deal ≡ false). rw (no_seats deal e) (λ _. (refl, omega arith)))

given_ruled : (l : List Result) (r : Result) → Ruled (given_refusal l r)
unfolding given_refusal score_refusal fouled_refusal
given_ruled l r =
    either_ruled (score_refusal r.score) (deal_refusal r.deal or_else fouled_refusal l (r ∷ [])) (if_ruled (not (valid_score r.score)) 20 refl)
    (either_ruled (deal_refusal r.deal) (fouled_refusal l (r ∷ [])) (deal_ruled r.deal) (if_ruled (fouled l (r ∷ [])) 28 refl))

room_ruled : (n m : ℕ) → Ruled (room_refusal n m)
unfolding room_refusal
room_ruled n m = if_ruled (ltb 128 (n + m)) 19 refl

add_ruled : (l : List Result) (r : Result) → Ruled (add_refusal l r)
unfolding add_refusal
add_ruled l r = either_ruled (given_refusal l r) (room_refusal (length l) 1) (given_ruled l r) (room_ruled (length l) 1)

merge_ruled : (b : ℕ) (l : List Result) (c : ℕ) (m : List Result) → Ruled (merge_refusal b l c m)
unfolding merge_refusal boards_refusal fouled_refusal
merge_ruled b l c m =
    either_ruled (boards_refusal b c) (fouled_refusal l m or_else room_refusal (length l) (length m)) (if_ruled (not (eqb b c)) 18 refl)
    (either_ruled (fouled_refusal l m) (room_refusal (length l) (length m)) (if_ruled (fouled l m) 28 refl) (room_ruled (length l) (length m)))

fresh_ruled : (b : ℕ) → Ruled (refusal (fresh_refusal b))
unfolding fresh_refusal
fresh_ruled b =
    by_test (eqb b 0)
    (λ (q : eqb b 0 ≡ true). rw q (λ _. (refl, omega arith)))
    (λ (q : eqb b 0 ≡ false).
    by_test (ltb 127 b)
    (λ (p : ltb 127 b ≡ true). rw (q, p) (λ _. (refl, omega arith)))
    (λ (p : ltb 127 b ≡ false). rw (q, p) (λ z. absurd (z refl))))

-- ---- what is said
-- a refusal of the calls, or so many bytes
abbrev pub Good : ℕ → Placed (List ℕ) → Type 0
Good needed (refused_at n place) = (refuses_call n ≡ true) × (place ≤ 4)
Good needed (given bytes) = (length bytes ≡ needed) × Bytes bytes

-- ---- tallies
-- an answer is such a refusal, or comes with a tally that is well formed
pub record Made (r : Tallied) : Type 0 where
  pub ruled : (r.refusal ≡ 0 → ⊥) → (refuses_call r.refusal ≡ true) × (r.place ≤ 4)
  pub well : r.refusal ≡ 0 → well_formed r.tally ≡ true

answer_made : (f : Refusal) (made : Tally) → Ruled f → (f.number ≡ 0 → well_formed made ≡ true) → Made (answer_of f made)
unfolding answer_of leaves
answer_made f made r w = go f.number refl
  where
    go : (n : ℕ) → f.number ≡ n → Made (leaves n (accepting made) (refused_with f))
    go zero e = record { ruled = λ z. absurd (z refl); well = λ z. w e }
    go (suc n) e = record { ruled = r; well = λ z. absurd (omega (arith, e, z)) }

pub made_good : (r : Tallied) → Made r → Good 398 (tallied r)
unfolding tallied
made_good r m =
    by_test (eqb r.refusal 0)
    (λ (q : eqb r.refusal 0 ≡ true).
    let i = formed_range r.tally (m.well (eqb-true r.refusal 0 q)) in
    rw q (length-tally-bytes r.tally i, bytes-tally r.tally i))
    (λ (q : eqb r.refusal 0 ≡ false). rw q (m.ruled (eqb-false r.refusal 0 q)))

pub fresh-well : (b : ℕ) → fresh_refusal b ≡ 0 → well_formed (tally_of b []) ≡ true
unfolding tally_of AllValid
fresh-well b z = is-well b no_deal [] (record { board = z; valid = tt; room = omega arith; deal = carried_none })

pub fresh_made : (b : ℕ) → Made (fresh_of b)
unfolding fresh_of
fresh_made b = answer_made (refusal (fresh_refusal b)) (tally_of b []) (fresh_ruled b) (λ z. fresh-well b z)

malformed : Made (refused_with (refusal 17))
malformed = record { ruled = λ z. (refl, omega arith); well = λ z. absurd (omega (arith, z)) }

pub add_made : (t : Tally) (r : Result) → Made (add_of t r)
add_made t r =
    by_test (well_formed t)
    (λ (w : well_formed t ≡ true).
    let l = scores_in t in
    let s = sound t w in
    let e = add-list t.board t.deal l s r in
    subst Made (sym (ap (λ (x : Tally). add_of x r) (sym (own t w)) ∙ e))
    (answer_made (add_refusal (on_deal t.deal l) r) (tally_for t.board r.deal (l ++ (r.score ∷ []))) (add_ruled (on_deal t.deal l) r)
    (λ z. is-well t.board r.deal (l ++ (r.score ∷ [])) (sound_add t.board t.deal l r s z))))
    (λ (w : well_formed t ≡ false). rw (← add_malformed t r w) malformed)

pub merge_made : (a b : Tally) → Made (merge_of a b)
merge_made a b =
    by_test (well_formed a)
    (λ (v : well_formed a ≡ true).
    by_test (well_formed b)
    (λ (w : well_formed b ≡ true). both v w)
    (λ (w : well_formed b ≡ false). rw (← second_malformed a b v w) malformed))
    (λ (v : well_formed a ≡ false). rw (← first_malformed a b v) malformed)
  where
    both : well_formed a ≡ true → well_formed b ≡ true → Made (merge_of a b)
    both v w =
        let l = scores_in a in
        let m = scores_in b in
        let x = sound a v in
        let y = sound b w in
        let f = merge_refusal a.board (on_deal a.deal l) b.board (on_deal b.deal m) in
        let e = ap₂ merge_of (sym (own a v)) (sym (own b w)) ∙ merge-list a.board a.deal l b.board b.deal m x y in
        subst Made (sym e)
        (answer_made f (tally_for a.board (kept_deal (length l) a.deal b.deal) (l ++ m)) (merge_ruled a.board _ b.board _)
        (λ z.
        let k = merge-allowed a.board (on_deal a.deal l) b.board (on_deal b.deal m) z in
        is-well a.board (kept_deal (length l) a.deal b.deal) (l ++ m)
        (sound_merge a.board a.deal l b.deal m x (rw k.0 y) (omega (arith, k.2, length_on a.deal l, length_on b.deal m)))))

-- ---- answers to questions
abbrev pub Allowed : {A : Type 0} → Placed A → Type 0
Allowed (refused_at n place) = (refuses_call n ≡ true) × (place ≤ 4)
Allowed (given a) = Unit {0}

pub spelled-good : {A : Type 0} (needed : ℕ) (bytes : A → List ℕ) (x : Placed A) → Allowed x → ((a : A) → (length (bytes a) ≡ needed) × Bytes (bytes a))
    → Good needed (spelled bytes x)
spelled-good needed bytes (refused_at n place) h f = h
spelled-good needed bytes (given a) h f = f a

module _ {A : Type 0} (question : List ℤ → ℤ → Answer A) (h : (l : List ℤ) (s : ℤ) → Allowed (placed (question l s))) where
  pub asked-allowed : (l : List Result) (r : Result) → Allowed (asked question l r)
  unfolding asked
  asked-allowed l r =
      let g = given_refusal l r in
      by_test (eqb g.number 0)
      (λ (q : eqb g.number 0 ≡ true). rw q (h _ r.score))
      (λ (q : eqb g.number 0 ≡ false). rw q (given_ruled l r (eqb-false g.number 0 q)))

points-allowed : (l : List ℤ) (s : ℤ) → Allowed (placed (matchpoints l s))
unfolding matchpoints
points-allowed l s =
    by_test (valid_score s)
    (λ (v : valid_score s ≡ true).
    by_test (eqb (occurrences s l) 0)
    (λ (o : eqb (occurrences s l) 0 ≡ true). rw (v, o) (refl, omega arith))
    (λ (o : eqb (occurrences s l) 0 ≡ false). rw (v, o) tt))
    (λ (v : valid_score s ≡ false). rw v (refl, omega arith))

cells_allowed : (l : List ℤ) (s : ℤ) → Allowed (placed (cell_asked l s))
unfolding cell_asked
cells_allowed l s =
    by_test (valid_score s)
    (λ (v : valid_score s ≡ true).
    by_test (eqb (occurrences s l) 0)
    (λ (o : eqb (occurrences s l) 0 ≡ true). rw (v, o) (refl, omega arith))
    (λ (o : eqb (occurrences s l) 0 ≡ false). rw (v, o) tt))
    (λ (v : valid_score s ≡ false). rw v (refl, omega arith))

-- of a tally
pub of-tally : {A : Type 0} (t : Tally) (x : Placed A) → Allowed x → Allowed (if well_formed t then x else refused_at 17 0)
of-tally t x h =
    by_test (well_formed t)
    (λ (w : well_formed t ≡ true). rw w h)
    (λ (w : well_formed t ≡ false). rw w (refl, omega arith))

four_bytes : (p : Points) → (length (points_bytes p) ≡ 4) × Bytes (points_bytes p)
unfolding points_bytes
four_bytes p = (
  length-append (bytes_of 2 p.ns) (bytes_of 2 p.ew) ∙ omega (arith, length-bytes 2 p.ns, length-bytes 2 p.ew),
  bytes_append (bytes_of 2 p.ns) (bytes_of 2 p.ew) (bytes-of 2 p.ns) (bytes-of 2 p.ew),
)

zeros : Bytes (2 ∷ replicate 8 0)
zeros zero = lit< tt
zeros (suc i) = go 8 i
  where
    go : (n i : ℕ) → get_or (replicate n 0) i 0 < 256
    go zero i = lit< tt
    go (suc n) zero = lit< tt
    go (suc n) (suc i) = go n i

-- a byte before eight
behind : (kind x : ℕ) → kind < 256 → Bytes (kind ∷ bytes_of 8 x)
behind kind x h zero = h
behind kind x h (suc i) = bytes-of 8 x i

nine_bytes : (c : Cell) → (length (cell_bytes c) ≡ 9) × Bytes (cell_bytes c)
unfolding cell_bytes
nine_bytes (played x) = (omega (arith, length-bytes 8 (to_bits binary64 x)), behind 0 (to_bits binary64 x) (lit< tt))
nine_bytes (awarded x) = (omega (arith, length-bytes 8 (to_bits binary64 x)), behind 1 (to_bits binary64 x) (lit< tt))
nine_bytes alone = (refl, zeros)

pub good-points : (t : Tally) (r : Result) → Good 4 (spelled points_bytes (matchpoints_of t r))
unfolding matchpoints_of
good-points t r =
    spelled-good 4 points_bytes (matchpoints_of t r)
    (of-tally t (asked matchpoints (results_in t) r) (asked-allowed matchpoints points-allowed (results_in t) r)) four_bytes

pub good-cell : (t : Tally) (r : Result) → Good 9 (spelled cell_bytes (cell_of_tally t r))
unfolding cell_of_tally
good-cell t r =
    spelled-good 9 cell_bytes (cell_of_tally t r)
    (of-tally t (asked cell_asked (results_in t) r) (asked-allowed cell_asked cells_allowed (results_in t) r)) nine_bytes

pub good-award : (percent : ℕ) → Good 9 (spelled cell_bytes (placed (award percent)))
unfolding award
good-award percent =
    by_test (is_award percent)
    (λ (e : is_award percent ≡ true). rw e (nine_bytes (awarded (as_float percent))))
    (λ (e : is_award percent ≡ false). rw e (refl, omega arith))

-- What is promised of tallies, proved: which are well formed, and what a refusal gives. Assumes nothing.
use Rattle.std.specs.Prelude.{if◌then◌else◌}
use Prim.Native.Nat.{ℕ, zero, suc, ◌≤◌, ◌+◌}
use native.Mathlib.Omega.{arith}
use mathlib.Core.Path.{◌≡◌, refl, sym, ap, ◌∙◌}
use mathlib.Core.Bool.{true, false, ◌&&◌}
use mathlib.Core.List.{List, [], ◌∷◌, ◌++◌}
use lib.ListN.{length}
use Rattle.laws.specs.Refusals.{refused_at}
use Rattle.laws.specs.Tally.{Result, scores_of, deal_of, Thirteen, Refusal, refusal, leaves, OneDeal}
use Rattle.laws.specs.Tally.{fresh_refusal, add_refusal, merge_refusal}
use Rattle.laws.specs.Padded.{padded}
use Rattle.laws.proofs.Tests.{by_test}
use Rattle.laws.proofs.TallyRules.{scores_on, length_on, length-scores, deal-thirteen, thirteen-deal}
use Rattle.laws.proofs.OneDeal.{all_on}
use Rattle.tally.specs.declared.Tally.{Tally}
use Rattle.tally.specs.Entries.{entries_of}
use Rattle.tally.specs.Tallies.{tally_with, tally_for, tally_of, scores_in, results_in, in_places, carries, well_formed}
use Rattle.tally.specs.Tallies.{no_tally, refused_with, accepting, answer_of, fresh_of, add_of, merge_of}
use Rattle.tally.specs.Points.{matchpoints_of}
use Rattle.tally.proofs.Formed.{formed, carried, valid-scores, room-scores, own_tally}
use Rattle.tally.proofs.Refusing.{board-good, board_range}
use Rattle.merging.proofs.Answers.{add_malformed, first_malformed}
use Rattle.tally.proofs.Dealing.{deal_carried, carried_deal, carried_none, deal_on_lem, tally_on}
use Rattle.tally.proofs.OfLists.{Sound, is-well}
use Rattle.promises_tallies.specs.Tallies.{Holds, Described, WithNone, RefusedNone}

-- ---- described
-- a well-formed tally's own board, deal and scores
pub sound : (t : Tally) → well_formed t ≡ true → Sound t.board t.deal (scores_in t)
sound t e = let w = formed t e in record { board = w.board; valid = valid-scores t w; room = room-scores t w; deal = carried t e }

pub own : (t : Tally) → well_formed t ≡ true → tally_for t.board t.deal (scores_in t) ≡ t
own t w = own_tally t (formed t w)

holds : (t : Tally) → well_formed t ≡ true → (board : ℕ) × (results : List Result) × Holds t board results
holds t e =
    let w = sound t e in
    let d = t.deal in
    let l = scores_in t in
    let r = board_range t.board w.board in
    let f = deal_on_lem d l w.deal in (
      t.board,
      results_in t,
      record {
        from = r.0;
        to = r.1;
        valid = rw (scores_on d l) w.valid;
        room = omega (arith, length_on d l, w.room);
        one_deal = rw f (all_on d l);
        thirteen = λ h. rw f (deal-thirteen d (deal_carried d (length l) (λ z. omega (arith, length_on d l)) w.deal));
        is = sym (tally_on t.board d l w.deal ∙ own t e);
      },
    )

-- what a list of one deal carries
carries-list : (results : List Result) → OneDeal (deal_of results) results → (1 ≤ length results → Thirteen (deal_of results))
    → carries (deal_of results) (length (scores_of results)) ≡ true
carries-list [] o h = carried_none
carries-list (r ∷ results) o h =
    carried_deal r.deal (length (scores_of (r ∷ results))) (λ z. omega arith) (ap (λ (x : Refusal). x.number) (thirteen-deal r.deal (h (omega arith))))

only : (t : Tally) (board : ℕ) (results : List Result) → Holds t board results → well_formed t ≡ true
unfolding tally_of
only t b l h =
    rw h.is (is-well b (deal_of l) (scores_of l) (record {
      board = board-good b (λ z. omega (arith, h.from)) h.to;
      valid = h.valid;
      room = omega (arith, length-scores l, h.room);
      deal = carries-list l h.one_deal h.thirteen;
    }))

pub described : (t : Tally) → Described t
described t = record { holds = holds t; only = only t }

-- ---- refused, no tally
with_none_lem : (r : Refusal) (x : Tally) → WithNone (answer_of r x)
unfolding answer_of leaves
with_none_lem r x = go r.number
  where
    go : (n : ℕ) → WithNone (leaves n (accepting x) (refused_with r))
    go zero = λ h. absurd (h refl)
    go (suc n) = λ h. refl

of_fresh : (b : ℕ) → WithNone (fresh_of b)
unfolding fresh_of
of_fresh b = with_none_lem (refusal (fresh_refusal b)) (tally_of b [])

of_add : (t : Tally) (r : Result) → WithNone (add_of t r)
unfolding add_of
of_add t r = with_none_lem (if well_formed t then add_refusal (results_in t) r else refusal 17) (tally_of t.board (results_in t ++ (r ∷ [])))

pub of_merge : (a b : Tally) → WithNone (merge_of a b)
unfolding merge_of
of_merge a b =
    with_none_lem (if well_formed a && well_formed b then merge_refusal a.board (results_in a) b.board (results_in b) else refusal 17)
    (tally_of a.board (results_in a ++ results_in b))

pub none_malformed : well_formed no_tally ≡ false
unfolding well_formed in_places tally_of tally_for tally_with fresh_refusal
none_malformed = refl

malformed_second : (t : Tally) → merge_of t no_tally ≡ refused_with (refusal 17)
unfolding merge_of answer_of leaves
malformed_second t =
    by_test (well_formed t)
    (λ (q : well_formed t ≡ true). rw (q, none_malformed))
    (λ (q : well_formed t ≡ false). rw q)

malformed_points : (r : Result) → matchpoints_of no_tally r ≡ refused_at 17 0
unfolding matchpoints_of
malformed_points r = rw none_malformed

pub refused_none : RefusedNone
unfolding tally_of tally_for tally_with entries_of padded
refused_none =
    record {
      of_fresh = of_fresh;
      of_add = of_add;
      of_merge = of_merge;
      zero = refl;
      then_add = λ r. sym (add_malformed no_tally r none_malformed);
      then_first = λ t. sym (first_malformed no_tally t none_malformed);
      then_second = malformed_second;
      then_points = malformed_points;
    }

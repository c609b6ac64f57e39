-- The loop that reads the lines: what is read, and what is left to read. Assumes nothing.
use Prim.Native.Nat.{ℕ, suc, ◌+◌, ◌-◌, ◌≤◌, ◌<◌}
use native.Mathlib.Numerals.{add-one}
use native.Mathlib.Omega.{arith}
use mathlib.Core.Path.{◌≡◌, refl, sym, ap, ◌∙◌}
use mathlib.Core.Bool.{true, false, not, ◌||◌}
use mathlib.Core.List.{List, [], ◌∷◌, ◌++◌, map, append_assoc, append-nil}
use borrow.Author.Tests.{le-ltb, ltb-false}
use lib.Dec.{ltb}
use lib.IntN.{ℤ}
use lib.ListN.{length, take, drop, length-append, length-drop, drop_of_length-le}
use lib.Seq.{drop-drop}
use mir.Syntax.{w16}
use mir.Val.{to_z, of_z}
use mir.Facts.{to_z-of_z}
use Rattle.laws.specs.Choice.{how_many, some}
use Rattle.laws.specs.Law77.{valid_score}
use Rattle.laws.specs.Sheet.{lines_of, score_of, is_score, is_zero, is_size, unsigned, refused_line}
use Rattle.laws.specs.Cards.{cards_dealt, first_without_thirteen}
use Rattle.laws.specs.Contents.{are_seats, take_deal}
use Rattle.laws.specs.Reading.{refuse}
use Rattle.laws.specs.Tally.{Result, on_deal, no_deal, deal_of, Refusal, deal_refusal, add_refusal, AllValid, fresh_refusal}
use Rattle.laws.proofs.TallyRules.{scores_on, length_on, given_on_lem, add-allowed, allowed-add}
use Rattle.laws.proofs.Tests.{by_test, and_right}
use Rattle.tally.specs.declared.Tally.{Tally}
use Rattle.tally.specs.Tallies.{Tallied, tally_for, tally_of, carries, add_of, answer_of}
use Rattle.tally.proofs.Dealing.{carried_deal, carried_none}
use Rattle.tally.proofs.Lists.{valid_append}
use Rattle.tally.proofs.OfLists.{Sound, answer-number, answer_made, add-list}
use Rattle.tree_stack.specs.Deals.{suits}
use Rattle.std.specs.Prelude as Std
use Rattle.score_lines.specs.Reading.{line_length, said_on}
use Rattle.score_lines.specs.Whole.{Found}
use Rattle.score_lines.proofs.Lines.{first-line, line-within}
use Rattle.score_lines.proofs.Saying.{valid-fits}

-- the deal of the lines, where there are any
abbrev pub carried : List ℤ → List ℕ
carried l = deal_of (on_deal suits l)

suits-deal : (deal_refusal suits).number ≡ 0
unfolding deal_refusal take_deal are_seats first_without_thirteen cards_dealt how_many some refuse
suits-deal = refl

pub carries-lines : (l : List ℤ) → carries (carried l) (length l) ≡ true
carries-lines [] = carried_none
carries-lines (s ∷ l) = carried_deal suits (suc (length l)) (λ z. omega arith) suits-deal

on_carried : (l : List ℤ) → on_deal (carried l) l ≡ on_deal suits l
on_carried [] = refl
on_carried (s ∷ l) = refl

carried_last : (l : List ℤ) (s : ℤ) → carried (l ++ (s ∷ [])) ≡ suits
carried_last [] s = refl
carried_last (r ∷ l) s = refl

-- the tally of the lines' results
pub lines-tally : (l : List ℤ) → tally_of 1 (on_deal suits l) ≡ tally_for 1 (carried l) l
unfolding tally_of
lines-tally l = ap (tally_for 1 (carried l)) (scores_on suits l)

-- the lines before `at` have said k scores, which the tally holds; those from there on decide the rest
pub record Read (bytes : List ℕ) (t : Tally) (k at : ℕ) : Type 0 where
  pub so_far : List ℤ
  pub is : t ≡ tally_for 1 (carried so_far) so_far
  pub sound : Sound 1 (carried so_far) so_far
  pub count : k ≡ length so_far
  pub scores : map score_of (lines_of bytes) ≡ so_far ++ map score_of (lines_of (drop at bytes))
  pub refused : refused_line 1 (lines_of bytes) ≡ refused_line (suc k) (lines_of (drop at bytes))

pub begins : (bytes : List ℕ) → Read bytes (tally_for 1 no_deal []) 0 0
unfolding fresh_refusal AllValid
begins bytes =
    record {
      so_far = [];
      is = refl;
      sound = record { board = refl; valid = tt; room = omega arith; deal = carried_none };
      count = refl;
      scores = refl;
      refused = refl;
    }

-- what a line says, as the definition has it
said-score : (line : List ℕ) (s : ℤ) → said_on line ≡ Std.Some s → (is_score line ≡ true) × (score_of line ≡ s)
unfolding said_on
said-score line s e =
    by_test (is_score line)
    (λ (q : is_score line ≡ true). (q, cc (rw q at e)))
    (λ (q : is_score line ≡ false). absurd (let z : ◌≡◌ {A = ℕ} 0 1 = cc (rw q at e) in omega arith))

said_nothing : (line : List ℕ) → said_on line ≡ Std.None → is_score line ≡ false
unfolding said_on
said_nothing line e =
    by_test (is_score line)
    (λ (q : is_score line ≡ true). absurd (let z : ◌≡◌ {A = ℕ} 0 1 = cc (rw q at e) in omega arith))
    (λ (q : is_score line ≡ false). q)

module _ (bytes : List ℕ) (t : Tally) (k at : ℕ) (w : Read bytes t k at) where
  pub few : k ≤ 128
  few = omega (arith, w.count, w.sound.room)

  pub ends : length bytes ≤ at → Found bytes (Std.Ok t)
  unfolding lines_of refused_line
  ends h =
      let none : drop at bytes ≡ [] = drop_of_length-le bytes h in
      let all : map score_of (lines_of bytes) ≡ w.so_far = w.scores ∙ rw none (append-nil w.so_far) in
      let same = ap (λ (l : List ℤ). tally_of 1 (on_deal suits l)) (sym all) in
      (w.refused ∙ rw none, w.is ∙ sym (lines-tally w.so_far) ∙ same)

  module _ (h : at < length bytes) (end : ℕ) (is-end : end ≡ at + line_length (drop at bytes)) where
    abbrev line : List ℕ
    line = take (end - at) (drop at bytes)

    pub end_after : at ≤ end
    end_after = omega arith

    pub end_within : end ≤ length bytes
    end_within = omega (arith, line-within (drop at bytes), length-drop at bytes)

    split : lines_of (drop at bytes) ≡ line ∷ lines_of (drop (end + 1) bytes)
    split =
        let e : end - at ≡ line_length (drop at bytes) = omega arith in
        let f : at + suc (line_length (drop at bytes)) ≡ end + 1 = omega arith in
        let n : length (drop at bytes) ≡ 0 → ⊥ = λ z. omega (arith, length-drop at bytes) in
        rw e (first-line (drop at bytes) n ∙ rw (drop-drop (suc (line_length (drop at bytes))) at bytes, f))

    -- the line is refused
    stops : (not (is_score line) || ltb 128 (suc k)) ≡ true → Found bytes (Std.Err (record { 0 = k + 1 }))
    unfolding refused_line
    stops q =
        let e : refused_line 1 (lines_of bytes) ≡ k + 1 = w.refused ∙ rw (split, q) (sym (add-one k)) in
        (e, λ z. omega arith)

    pub bad : (r : Std.Option ℤ) → r ≡ said_on line → r ≡ Std.None → Found bytes (Std.Err (record { 0 = k + 1 }))
    bad r e q = stops (rw (said_nothing line (sym e ∙ q)))

    module _ (r : Std.Option ℤ) (s : ℤ) (e : r ≡ said_on line) (q : r ≡ Std.Some s) where
      is-score : is_score line ≡ true
      is-score = (said-score line s (sym e ∙ q)).0

      is_said : score_of line ≡ s
      is_said = (said-score line s (sym e ∙ q)).1

      pub said-valid : valid_score s ≡ true
      unfolding is_score
      said-valid = rw is_said at (and_right (is_zero line || is_size (unsigned line)) (valid_score (score_of line)) is-score)

      abbrev result : Result
      result = record { score = s; deal = suits }

      abbrev its_number : Refusal
      its_number = add_refusal (on_deal suits w.so_far) result

      answer : add_of t result ≡ answer_of its_number (tally_for 1 suits (w.so_far ++ (s ∷ [])))
      answer = rw w.is (add-list 1 (carried w.so_far) w.so_far w.sound result ∙ rw (on_carried w.so_far))

      number : (add_of t result).refusal ≡ its_number.number
      number = rw answer (answer-number its_number (tally_for 1 suits (w.so_far ++ (s ∷ []))))

      few-lines : length (on_deal suits w.so_far) ≡ k
      few-lines = length_on suits w.so_far ∙ sym w.count

      -- what the call answers, asked for the score as the code holds it
      module _ (a : Tallied) (is-a : a ≡ add_of t (record { score = to_z w16 (of_z w16 s); deal = suits })) where
        added : a ≡ add_of t result
        added = is-a ∙ ap (λ (z : ℤ). add_of t (record { score = z; deal = suits })) (to_z-of_z (valid-fits s said-valid))

        pub over : (a.refusal ≡ 0 → ⊥) → Found bytes (Std.Err (record { 0 = k + 1 }))
        over f =
            by_test (ltb 128 (suc k))
            (λ (z : ltb 128 (suc k) ≡ true). stops (rw (is-score, z)))
            (λ (z : ltb 128 (suc k) ≡ false).
            let room = ltb-false 128 (suc k) z in
            let fine = given_on_lem suits w.so_far s said-valid suits-deal in
            absurd (f (rw added (number ∙ ap (λ (r : Refusal). r.number)
            (allowed-add (on_deal suits w.so_far) result (ap (λ (r : Refusal). r.number) fine) (omega (arith, few-lines)))))))

        pub goes : a.refusal ≡ 0 → Read bytes a.tally (k + 1) (end + 1)
        unfolding refused_line AllValid
        goes z =
            let fine : its_number.number ≡ 0 = sym number ∙ (rw added at z) in
            let room = (add-allowed (on_deal suits w.so_far) result fine).1 in
            let last = carried_last w.so_far s in
            let l = w.so_far ++ (s ∷ []) in
            let n : length l ≡ k + 1 = length-append w.so_far (s ∷ []) ∙ omega (arith, w.count) in
            rw (add-one k)
            (record {
              so_far = l;
              is = rw (added, answer, last) (answer_made its_number (tally_for 1 suits l) fine);
              sound =
                  record {
                    board = w.sound.board;
                    valid = valid_append w.so_far (s ∷ []) w.sound.valid (said-valid, tt);
                    room = omega (arith, n, few-lines);
                    deal = carries-lines l;
                  };
              count = omega (arith, n);
              scores = w.scores ∙ rw (split, is_said) (sym (append_assoc w.so_far (s ∷ []) (map score_of (lines_of (drop (end + 1) bytes)))));
              refused = w.refused ∙ rw (split, is-score, le-ltb 128 (suc k) (omega (arith, few-lines)));
            })

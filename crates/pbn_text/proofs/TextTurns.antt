-- The turns of reading a whole text, a line each. Assumes nothing.
use Prim.Native.Nat.{ℕ, suc, ◌+◌, ◌-◌, ◌≤◌, ◌<◌, min}
use native.Mathlib.Omega.{arith}
use mathlib.Core.Path.{◌≡◌, refl, sym, ap, ◌∙◌}
use mathlib.Core.List.{List, [], ◌∷◌}
use lib.Dec.{lit≤}
use lib.ListN.{length, take, drop, length-drop}
use lib.Seq.{drop-drop}
use Rattle.laws.specs.Sheet.{newline}
use Rattle.laws.specs.PbnText.{Game}
use Rattle.laws.specs.PbnReading.{Read, misses, reads, parted_by, Stage, board, deal, auction, first_calls, calls, calls_over, cards, State, start}
use Rattle.laws.specs.PbnReading.{line_in, end_in, after_line, parse_from, parse}
use Rattle.laws.specs.Pbn.{last_place}
use Rattle.laws.proofs.PbnWords.{some_part}
use Rattle.laws.proofs.PbnStages.{Fine}
use Rattle.laws.proofs.PbnSteps.{step_sound}
use Rattle.laws.proofs.PbnParse.{start_fine}
use Rattle.pbn_text.specs.declared.state.Text.{Text}
use Rattle.parts.specs.Parts.{part_length}
use Rattle.pbn_text.specs.TextOf.{text_of, kept_after, Lists, StepsOn}
use Rattle.pbn_text.specs.ParsedAs.{ParsedAs, EndsAs}
use Rattle.parts.proofs.PartsOf.{part_within, first_part, last_part}
use Rattle.std.specs.Prelude.{Option, Some, None, Result, Err}
use Rattle.std.proofs.lemmas.Option.{none-some, same_Some}

-- lines were read up to a place, and what is left gives what the whole text gives
pub record Reached (text : List ℕ) (t : Text) (line at : ℕ) : Type 0 where
  pub state : State
  pub number : ℕ
  pub kept : t ≡ text_of state
  pub fine : Fine state.stage state.game
  pub line-is : line ≡ min number last_place
  pub from : 1 ≤ number
  pub within : at ≤ length text
  pub same : parse text ≡ parse_from state number (parted_by newline (drop at text))

pub begins : (text : List ℕ) (t : Text) → t ≡ text_of start → Reached text t 1 0
unfolding parse
begins text t e =
    record {
      state = start;
      number = 1;
      kept = e;
      fine = start_fine;
      line-is = refl;
      from = lit≤ tt;
      within = omega arith;
      same = refl;
    }

-- at a line of cards Play lists some
lists : (stage : Stage) (x : Game) → Fine stage x → Lists stage x
lists board x f = tt
lists deal x f = tt
lists auction x f = tt
lists first_calls x f = tt
lists calls x f = tt
lists calls_over x f = tt
lists (cards n) x f = let l = f.at.1 in (l.seat, l.listed, l.is)

-- a line with a part after it
line_first : (s : State) (n : ℕ) (line : List ℕ) (parts : List (List ℕ)) → 1 ≤ length parts
    → parse_from s n (line ∷ parts) ≡ after_line n (line_in s.stage s.game line) (λ t. parse_from t (suc n) parts)
unfolding parse_from
line_first s n line [] h = absurd (omega arith)
line_first s n line (next ∷ parts) h = refl

part_alone : (s : State) (n : ℕ) (rest : List ℕ) → parse_from s n (rest ∷ []) ≡ end_in s n rest
unfolding parse_from
part_alone s n rest = refl

module _ (text : List ℕ) (t : Text) (line at : ℕ) (r : Reached text t line at) (end : ℕ) (e : end ≡ at + part_length 10 (drop at text)) where
  pub end_within : end ≤ length text
  end_within = omega (arith, part_within 10 (drop at text), length-drop at text, r.within)

  -- no newline is left
  pub ends : end ≡ length text → (p : Result Text ℕ) → EndsAs t line (end - at) p → ParsedAs (parse text) p
  ends z p f =
      let rest = drop at text in
      let all : part_length 10 rest ≡ length rest = omega (arith, length-drop at text, r.within) in
      let whole : parse text ≡ end_in r.state r.number rest
      = r.same ∙ ap (parse_from r.state r.number) (last_part 10 rest all) ∙ part_alone r.state r.number rest in
      rw whole (f r.state r.number rest r.kept r.line-is r.from (omega arith))

  abbrev here : List ℕ
  here = take (end - at) (drop at text)

  -- a line, and what follows it
  goes : (end ≡ length text → ⊥)
      → parse text ≡ after_line r.number (line_in r.state.stage r.state.game here)
      (λ s. parse_from s (suc r.number) (parted_by newline (drop (end + 1) text)))
  goes z =
      let rest = drop at text in
      let n : end - at ≡ part_length 10 rest = omega arith in
      let fewer : part_length 10 rest < length rest = omega (arith, part_within 10 rest, length-drop at text, end_within, r.within) in
      let next : at + suc (part_length 10 rest) ≡ end + 1 = omega arith in
      let parts : parted_by newline rest ≡ here ∷ parted_by newline (drop (end + 1) text)
      = rw n (first_part 10 rest fewer ∙ rw (drop-drop (suc (part_length 10 rest)) at text, next)) in
      r.same ∙ ap (parse_from r.state r.number) parts
      ∙ line_first r.state r.number here (parted_by newline (drop (end + 1) text)) (some_part newline (drop (end + 1) text))

  module _ (more : end ≡ length text → ⊥) (read : Option Text) (step : StepsOn t here read) where
    stepped : read ≡ kept_after (line_in r.state.stage r.state.game here)
    stepped = step r.state.stage r.state.game r.kept (lists r.state.stage r.state.game r.fine)

    pub stops : read ≡ None → ParsedAs (parse text) (Err line)
    stops z = go (line_in r.state.stage r.state.game here) stepped (goes more)
      where
        go : (o : Read State) → read ≡ kept_after o
            → parse text ≡ after_line r.number o (λ s. parse_from s (suc r.number) (parted_by newline (drop (end + 1) text)))
            → ParsedAs (parse text) (Err line)
        go misses st q = rw q (r.line-is, r.from)
        go (reads s) st q = absurd (none-some _ (sym z ∙ st))

    pub on : (next : Text) → read ≡ Some next → (k : ℕ) → k ≡ min (line + 1) last_place → Reached text next k (end + 1)
    on next z k f = go (line_in r.state.stage r.state.game here) refl stepped (goes more)
      where
        go : (o : Read State) → line_in r.state.stage r.state.game here ≡ o → read ≡ kept_after o
            → parse text ≡ after_line r.number o (λ s. parse_from s (suc r.number) (parted_by newline (drop (end + 1) text))) → Reached text next k (end + 1)
        go misses i st q = absurd (none-some next (sym st ∙ z))
        go (reads s) i st q =
            record {
              state = s;
              number = suc r.number;
              kept = same_Some _ _ (sym z ∙ st);
              fine = (step_sound r.state.stage r.state.game here s r.fine i).fine;
              line-is = omega (arith, f, r.line-is);
              from = omega arith;
              within = omega (arith, end_within);
              same = q;
            }

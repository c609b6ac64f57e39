-- Reading a whole text of Portable Bridge Notation: the lines that are read, what was read where the reading ends, and that only the text of what was read is
-- read so. Assumes nothing.
use Prim.Native.Nat.{ℕ, zero, suc, ◌+◌, ◌≤◌, ◌<◌}
use native.Mathlib.Omega.{arith}
use mathlib.Core.Path.{◌≡◌, refl, sym, ap, ap₂, ◌∙◌}
use mathlib.Core.Logic.{◌⊎◌, inl, inr, ⊎_elim}
use mathlib.Core.Bool.{true, false}
use mathlib.Core.List.{List, [], ◌∷◌, ◌++◌, append_assoc, append-nil}
use lib.Dec.{lit≤, lit<}
use lib.ListN.{length, replicate}
use Rattle.laws.specs.Sheet.{newline}
use Rattle.laws.specs.PbnText.{Game, EachBelow, Listable, Sayable, game_lines, joined_by, ended, text}
use Rattle.laws.specs.PbnReading.{Read, misses, reads, parted_by, Stage, board, deal, auction, first_calls, calls, calls_over, cards, may_end, State, start}
use Rattle.laws.specs.PbnReading.{line_in, Parsed, outside, game, end_in, after_line, parse_from, parse}
use Rattle.laws.proofs.Tests.{by_test, not_both}
use Rattle.laws.proofs.PbnWords.{parted_joined, some_part}
use Rattle.laws.proofs.PbnStages.{Base, Fine, said, Step}
use Rattle.laws.proofs.PbnSteps.{step_sound}

-- how a reading ends that starts at line n: some lines were read, and the next part of the text is refused, or it is what stands after the last newline
pub record Ran (s : State) (n : ℕ) (parts : List (List ℕ)) (r : Parsed) : Type 0 where
  pub lines : List (List ℕ)
  pub next : List ℕ
  pub rest : List (List ℕ)
  pub state : State
  pub split : parts ≡ lines ++ (next ∷ rest)
  pub fine : Fine state.stage state.game
  pub says : said state.stage state.game ≡ said s.stage s.game ++ lines
  pub ends : (r ≡ outside (n + length lines))
      ⊎ ((r ≡ game state.game) × (may_end state.stage ≡ true) × (next ≡ []) × (rest ≡ []))

-- it ends at once
at_once : (s : State) (n : ℕ) (next : List ℕ) (rest : List (List ℕ)) (r : Parsed) → Fine s.stage s.game
    → (r ≡ outside n) ⊎ ((r ≡ game s.game) × (may_end s.stage ≡ true) × (next ≡ []) × (rest ≡ []))
    → Ran s n (next ∷ rest) r
at_once s n next rest r f e =
    record {
      lines = [];
      next = next;
      rest = rest;
      state = s;
      split = refl;
      fine = f;
      says = sym (append-nil _);
      ends =
          ⊎_elim
          (λ (q : r ≡ outside n).
          let here : n ≡ n + 0 = omega arith in
          inl (q ∙ ap outside here))
          (λ q. inr q)
          e;
    }

end_ran : (s : State) (n : ℕ) (rest : List ℕ) → Fine s.stage s.game → Ran s n (rest ∷ []) (end_in s n rest)
unfolding end_in
end_ran s n [] f =
    at_once s n [] [] _ f
    (by_test (may_end s.stage)
    (λ (q : may_end s.stage ≡ true). inr (rw q, q, refl, refl))
    (λ (q : may_end s.stage ≡ false). inl (rw q)))
end_ran s n (b ∷ rest) f = at_once s n (b ∷ rest) [] _ f (inl refl)

-- a line, and then the others
line_ran : (s t : State) (n : ℕ) (line : List ℕ) (parts : List (List ℕ)) (r : Parsed) → Step (said s.stage s.game) line t → Ran t (suc n) parts r
    → Ran s n (line ∷ parts) r
line_ran s t n line parts r step ran =
    record {
      lines = line ∷ ran.lines;
      next = ran.next;
      rest = ran.rest;
      state = ran.state;
      split = ap (λ l. line ∷ l) ran.split;
      fine = ran.fine;
      says = ran.says ∙ ap (λ l. l ++ ran.lines) step.says ∙ append_assoc (said s.stage s.game) (line ∷ []) ran.lines;
      ends =
          ⊎_elim
          (λ (e : r ≡ outside (suc n + length ran.lines)).
          let more : suc n + length ran.lines ≡ n + suc (length ran.lines) = omega arith in
          inl (e ∙ ap outside more))
          (λ e. inr e)
          ran.ends;
    }

pub ran : (parts : List (List ℕ)) (s : State) (n : ℕ) → Fine s.stage s.game → 1 ≤ length parts → Ran s n parts (parse_from s n parts)
unfolding parse_from
ran [] s n f h = absurd (omega arith)
ran (rest ∷ []) s n f h = end_ran s n rest f
ran (line ∷ next ∷ parts) s n f h = go (line_in s.stage s.game line) refl (λ t. ran (next ∷ parts) t (suc n))
  where
    go : (r : Read State) → line_in s.stage s.game line ≡ r
        → ((t : State) → Fine t.stage t.game → 1 ≤ length (next ∷ parts) → Ran t (suc n) (next ∷ parts) (parse_from t (suc n) (next ∷ parts)))
        → Ran s n (line ∷ next ∷ parts) (after_line n r (λ t. parse_from t (suc n) (next ∷ parts)))
    go misses e more = at_once s n line (next ∷ parts) _ f (inl refl)
    go (reads t) e more =
        let step = step_sound s.stage s.game line t f e in
        line_ran s t n line (next ∷ parts) _ step (more t step.fine (omega arith))

-- ---- nothing read yet
pub each-replicate : (n m k : ℕ) → k < n → EachBelow n (replicate m k)
unfolding EachBelow
each-replicate n zero k h = tt
each-replicate n (suc m) k h = (h, each-replicate n m k h)

pub start_fine : Fine start.stage start.game
unfolding start EachBelow
start_fine =
    record {
      base =
          record {
            board_from = lit≤ tt;
            board_to = lit≤ tt;
            first = lit< tt;
            all = refl;
            holders = each-replicate 4 52 0 (lit< tt);
            caller = lit< tt;
            each = tt;
          };
      at = record { no_calls_lem = refl; no_play = refl };
    }

-- ---- where the text may end, what was read can stand in a text, and its lines were read
pub sayable : (x : Game) → Base x → 1 ≤ length x.calls → Listable x.play → Sayable x
sayable x b some play =
    record {
      board_from = b.board_from;
      board_to = b.board_to;
      first = b.first;
      deal = b.all;
      holders = b.holders;
      caller = b.caller;
      some_call = some;
      calls = b.each;
      play = play;
    }

ended-sayable : (stage : Stage) (x : Game) → Fine stage x → may_end stage ≡ true → Sayable x × (said stage x ≡ game_lines x)
unfolding may_end
ended-sayable board x f e = not_both false e refl
ended-sayable deal x f e = not_both false e refl
ended-sayable auction x f e = not_both false e refl
ended-sayable first_calls x f e = not_both false e refl
ended-sayable calls x f e = (sayable x f.base f.at.0.some_call (rw f.at.0.no_play tt), refl)
ended-sayable calls_over x f e = (sayable x f.base f.at.some_call (rw f.at.no_play tt), refl)
ended-sayable (cards zero) x f e =
    let l = f.at.1 in
    let all = l.left in
    (sayable x f.base f.at.0 (rw l.is (l.low, omega arith, l.each)), refl)
ended-sayable (cards (suc n)) x f e = not_both false e refl

-- ---- only the text of what was read is read so
pub ended-joined : (lines : List (List ℕ)) → joined_by newline (lines ++ ([] ∷ [])) ≡ ended lines
unfolding joined_by ended
ended-joined [] = refl
ended-joined (line ∷ []) = refl
ended-joined (line ∷ next ∷ lines) = ap (λ l. line ++ (newline ∷ l)) (ended-joined (next ∷ lines))

game-same : {x y : Game} → ◌≡◌ {A = Parsed} (game x) (game y) → x ≡ y
game-same e = cc

pub game-outside : {P : Type 0} {x : Game} {n : ℕ} → ◌≡◌ {A = Parsed} (game x) (outside n) → P
game-outside e = let z : ◌≡◌ {A = ℕ} 0 1 = cc in absurd (omega arith)

-- what a text says where its reading came to the end
read_to_end : (t : List ℕ) (x : Game) (r : Ran start 1 (parted_by newline t) (game x)) → Sayable x × (t ≡ text x)
unfolding text start
read_to_end t x r =
    ⊎_elim
    (λ (e : game x ≡ outside (1 + length r.lines)). game-outside e)
    (λ (e : (game x ≡ game r.state.game) × (may_end r.state.stage ≡ true) × (r.next ≡ []) × (r.rest ≡ [])).
    let y = ended-sayable r.state.stage r.state.game r.fine e.1 in
    let z : r.state.game ≡ x = sym (game-same e.0) in
    let parts : parted_by newline t ≡ r.lines ++ ([] ∷ []) = r.split ∙ ap₂ (λ a b. r.lines ++ (a ∷ b)) e.2 e.3 in
    let lines : r.lines ≡ game_lines x = sym r.says ∙ y.1 ∙ ap game_lines z in
    (rw z at y.0, sym (parted_joined newline t) ∙ ap (joined_by newline) parts ∙ ended-joined r.lines ∙ ap ended lines))
    r.ends

pub only_so : (t : List ℕ) (x : Game) → parse t ≡ game x → Sayable x × (t ≡ text x)
unfolding parse
only_so t x e =
    let r = ran (parted_by newline t) start 1 start_fine (some_part newline t) in
    read_to_end t x (rw e at r)

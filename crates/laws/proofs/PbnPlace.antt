-- Where a text of Portable Bridge Notation is refused: the line up to which no text of the subset agrees. Assumes nothing.
use Prim.Native.Nat.{ℕ, zero, suc, ◌+◌, ◌-◌, ◌*◌, ◌≤◌, ◌<◌}
use native.Mathlib.Omega.{arith}
use mathlib.Core.Path.{◌≡◌, refl, sym, ap, ◌∙◌}
use mathlib.Core.Logic.{⊎_elim}
use mathlib.Core.Bool.{true, false}
use mathlib.Core.List.{List, [], ◌∷◌, ◌++◌, map, append_assoc, append-nil, map-append}
use lib.Dec.{eqb, lit≤, lit<}
use lib.ListN.{length, take, drop, replicate, length-append, length-take, length-drop, length-replicate, take-append-drop}
use lib.Seq.{take_at, take-take}
use Rattle.laws.specs.Choice.{some}
use Rattle.laws.specs.Sheet.{newline, before}
use Rattle.laws.specs.PbnText.{columns, Game, EachBelow, Sayable, call_word, card_word, auction_tag, play_tag}
use Rattle.laws.specs.PbnText.{board_line, seat_line, deal_line, row_line, fours, call_lines, card_lines, game_lines, ended, text}
use Rattle.laws.specs.PbnReading.{Read, misses, reads, parted_by, Stage, board, deal, auction, first_calls, calls, calls_over, cards, may_end, State, start}
use Rattle.laws.specs.PbnReading.{with_calls, with_play, line_in, Parsed, outside, game, end_in, after_line, parse_from, parse, whole_lines, Agrees, StopsAt}
use Rattle.laws.proofs.Tests.{by_test}
use Rattle.laws.proofs.PbnWords.{AllFree, some_part, parted_front}
use Rattle.laws.proofs.PbnStages.{fours_append, each_append, Base, with_play_lem, Bare, Fine, said, Step, bare_lines, listed-lines}
use Rattle.laws.proofs.PbnSteps.{calls-said}
use Rattle.laws.proofs.PbnParse.{Ran, ran, start_fine, sayable, each-replicate, game-outside}
use Rattle.laws.proofs.PbnWhole.{read_back}

-- ---- what was read so far begins a text of the subset
record Completed (lines : List (List ℕ)) : Type 0 where
  whole : Game
  ok : Sayable whole
  more : List (List ℕ)
  is : game_lines whole ≡ lines ++ more

-- with a pass where there is no call yet
module _ (x : Game) (b : Base x) (bare : Bare x) where
  abbrev passed : Game
  passed = with_calls x (0 ∷ [])

  none : length x.calls ≡ 0
  none = ap length bare.no_calls_lem

  pass-said : Step (game_lines x) (row_line call_word (0 ∷ [])) (record { stage = calls_over; game = passed })
  unfolding EachBelow
  pass-said = calls-said x (0 ∷ []) b (omega (arith, none)) bare.no_play (lit< tt, tt) (lit≤ tt) (lit≤ tt)

  pass_ok : Sayable passed
  pass_ok = sayable passed pass-said.fine.base pass-said.fine.at.some_call (rw bare.no_play tt)

  pass-lines : game_lines passed ≡ board_line x.board ∷ deal_line x.first x.holders ∷ seat_line auction_tag x.caller ∷ row_line call_word (0 ∷ []) ∷ []
  pass-lines = pass-said.says ∙ ap (λ l. l ++ (row_line call_word (0 ∷ []) ∷ [])) (bare_lines x bare)

-- with clubs twos for the cards that are left
module _ (n : ℕ) (x : Game) (f : Fine (cards n) x) where
  abbrev twos : List ℕ
  twos = replicate (4 * n) 0

  abbrev played_out : Game
  played_out = with_play x (columns f.at.1.seat (f.at.1.listed ++ twos))

  played_ok : Sayable played_out
  played_ok =
      let l = f.at.1 in
      let all = l.left in
      let many : length (l.listed ++ twos) ≡ 52 = omega (arith, length-append l.listed twos, length-replicate {A = ℕ} (4 * n) 0) in
      sayable played_out (with_play_lem x _ f.base) f.at.0 (l.low, many, each_append 52 l.listed twos l.each (each-replicate 52 (4 * n) 0 (lit< tt)))

  played-lines : game_lines played_out ≡ game_lines x ++ card_lines twos
  played-lines =
      let l = f.at.1 in
      let all = l.left in
      let before = board_line x.board ∷ deal_line x.first x.holders ∷ seat_line auction_tag x.caller ∷ call_lines x.calls in
      let rows : card_lines (l.listed ++ twos) ≡ card_lines l.listed ++ card_lines twos
      = ap (map (row_line card_word)) (fours_append l.listed twos (omega arith)) ∙ map-append (row_line card_word) (fours l.listed) (fours twos) in
      listed-lines played_out l.seat (l.listed ++ twos) refl
      ∙ ap (λ rows. before ++ (seat_line play_tag l.seat ∷ rows)) rows
      ∙ sym (append_assoc before (seat_line play_tag l.seat ∷ card_lines l.listed) (card_lines twos))
      ∙ ap (λ lines. lines ++ card_lines twos) (sym (listed-lines x l.seat l.listed l.is))

complete : (stage : Stage) (x : Game) → Fine stage x → Completed (said stage x)
complete board x f = record { whole = passed x f.base f.at; ok = pass_ok x f.base f.at; more = _; is = pass-lines x f.base f.at }
complete deal x f = record { whole = passed x f.base f.at; ok = pass_ok x f.base f.at; more = _; is = pass-lines x f.base f.at }
complete auction x f = record { whole = passed x f.base f.at; ok = pass_ok x f.base f.at; more = _; is = pass-lines x f.base f.at }
complete first_calls x f =
    record { whole = passed x f.base f.at; ok = pass_ok x f.base f.at; more = _; is = (pass-said x f.base f.at).says }
complete calls x f =
    record { whole = x; ok = sayable x f.base f.at.0.some_call (rw f.at.0.no_play tt); more = []; is = sym (append-nil _) }
complete calls_over x f =
    record { whole = x; ok = sayable x f.base f.at.some_call (rw f.at.no_play tt); more = []; is = sym (append-nil _) }
complete (cards n) x f = record { whole = played_out n x f; ok = played_ok n x f; more = card_lines (twos n x f); is = played-lines n x f }

-- ---- lines read before are read again, so that a refusal comes after them
outside-same : {m n : ℕ} → ◌≡◌ {A = Parsed} (outside m) (outside n) → m ≡ n
outside-same e = cc

end_later : (s : State) (n : ℕ) (rest : List ℕ) (m : ℕ) → end_in s n rest ≡ outside m → n ≤ m
unfolding end_in
end_later s n [] m e =
    by_test (may_end s.stage)
    (λ (q : may_end s.stage ≡ true). game-outside (rw q at e))
    (λ (q : may_end s.stage ≡ false). let z : n ≡ m = outside-same (rw q at e) in omega arith)
end_later s n (b ∷ rest) m e = let z : n ≡ m = outside-same e in omega arith

later : (parts : List (List ℕ)) (s : State) (n m : ℕ) → parse_from s n parts ≡ outside m → n ≤ m
unfolding parse_from
later [] s n m e = let z : n ≡ m = outside-same e in omega arith
later (rest ∷ []) s n m e = end_later s n rest m e
later (line ∷ next ∷ parts) s n m e = go (line_in s.stage s.game line) e (λ t. later (next ∷ parts) t (suc n) m)
  where
    go : (r : Read State) → after_line n r (λ t. parse_from t (suc n) (next ∷ parts)) ≡ outside m
        → ((t : State) → parse_from t (suc n) (next ∷ parts) ≡ outside m → suc n ≤ m) → n ≤ m
    go misses e more = let z : n ≡ m = outside-same e in omega arith
    go (reads t) e more = let z = more t e in omega arith

first-line : (s : State) (n : ℕ) (line : List ℕ) (parts : List (List ℕ)) → 1 ≤ length parts
    → parse_from s n (line ∷ parts) ≡ after_line n (line_in s.stage s.game line) (λ t. parse_from t (suc n) parts)
unfolding parse_from
first-line s n line [] h = absurd (omega arith)
first-line s n line (next ∷ parts) h = refl

passes : (lines : List (List ℕ)) (P Q : List (List ℕ)) (s : State) (n m : ℕ) (x : Game) → 1 ≤ length P → 1 ≤ length Q
    → parse_from s n (lines ++ P) ≡ game x → parse_from s n (lines ++ Q) ≡ outside m → n + length lines ≤ m
passes [] P Q s n m x p q d e = let z = later Q s n m e in omega arith
passes (line ∷ lines) P Q s n m x p q d e =
    go (line_in s.stage s.game line)
    (sym (first-line s n line (lines ++ P) (omega (arith, length-append lines P))) ∙ d)
    (sym (first-line s n line (lines ++ Q) (omega (arith, length-append lines Q))) ∙ e)
    (λ t. passes lines P Q t (suc n) m x p q)
  where
    go : (r : Read State) → after_line n r (λ t. parse_from t (suc n) (lines ++ P)) ≡ game x → after_line n r (λ t. parse_from t (suc n) (lines ++ Q)) ≡ outside m
        → ((t : State) → parse_from t (suc n) (lines ++ P) ≡ game x → parse_from t (suc n) (lines ++ Q) ≡ outside m → suc n + length lines ≤ m)
        → n + suc (length lines) ≤ m
    go misses d e more = game-outside (sym d)
    go (reads t) d e more = let z = more t d e in omega arith

-- ---- a text's parts have no newline
before_free : (b : ℕ) (parts : List (List ℕ)) → eqb b newline ≡ false → AllFree newline parts → AllFree newline (before b parts)
unfolding AllFree before some
before_free b [] e h = (rw e, tt)
before_free b (part ∷ parts) e h = (rw e h.0, h.1)

parted_free : (s : List ℕ) → AllFree newline (parted_by newline s)
unfolding AllFree parted_by some
parted_free [] = (refl, tt)
parted_free (b ∷ s) =
    by_test (eqb b newline)
    (λ (q : eqb b newline ≡ true). rw q (refl, parted_free s))
    (λ (q : eqb b newline ≡ false). rw q (before_free b (parted_by newline s) q (parted_free s)))

take_free : (k : ℕ) (lines : List (List ℕ)) → AllFree newline lines → AllFree newline (take k lines)
unfolding AllFree
take_free zero lines h = tt
take_free (suc k) [] h = tt
take_free (suc k) (line ∷ lines) h = (h.0, take_free k lines h.1)

parted_lines : (lines : List (List ℕ)) (rest : List ℕ) → AllFree newline lines → parted_by newline (ended lines ++ rest) ≡ lines ++ parted_by newline rest
unfolding AllFree ended
parted_lines [] rest h = refl
parted_lines (line ∷ lines) rest h =
    ap (parted_by newline) (append_assoc line (newline ∷ ended lines) rest)
    ∙ parted_front newline line (ended lines ++ rest) h.0
    ∙ ap (λ l. line ∷ l) (parted_lines lines rest h.1)

-- ---- the place
ended_append : (l m : List (List ℕ)) → ended (l ++ m) ≡ ended l ++ ended m
unfolding ended
ended_append [] m = refl
ended_append (line ∷ l) m = ap (λ s. line ++ (newline ∷ s)) (ended_append l m) ∙ sym (append_assoc line (newline ∷ ended l) (ended m))

-- some lines with a part after them are whole lines
lines-whole : (t : List ℕ) (lines : List (List ℕ)) (next : List ℕ) (rest : List (List ℕ)) → parted_by newline t ≡ lines ++ (next ∷ rest)
    → (length lines ≤ length (whole_lines t)) × (take (length lines) (whole_lines t) ≡ lines)
unfolding whole_lines
lines-whole t lines next rest e =
    let parts = parted_by newline t in
    let many : length parts ≡ length lines + suc (length rest) = ap length e ∙ length-append lines (next ∷ rest) in (
      omega (arith, length-take (length parts - 1) parts),
      take-take (length lines) (length parts - 1) parts (omega arith) ∙ ap (take (length lines)) e ∙ take_at lines (next ∷ rest) (length lines) refl,
    )

-- whole lines with the parts after them, of which there is one at least
record Cut (t : List ℕ) (k : ℕ) : Type 0 where
  split : parted_by newline t ≡ take k (whole_lines t) ++ drop k (parted_by newline t)
  some-rest : 1 ≤ length (drop k (parted_by newline t))
  free : AllFree newline (take k (whole_lines t))
  as_many : length (take k (whole_lines t)) ≡ k

cut : (t : List ℕ) (k : ℕ) → k ≤ length (whole_lines t) → Cut t k
unfolding whole_lines
cut t k h =
    let parts = parted_by newline t in
    let m = length parts - 1 in
    let one = some_part newline t in
    let all : length (take m parts) ≡ m = omega (arith, length-take m parts) in
    record {
      split = sym (take-append-drop k parts) ∙ ap (λ l. l ++ drop k parts) (sym (take-take k m parts (omega arith)));
      some-rest = omega (arith, length-drop k parts);
      free = take_free k (take m parts) (take_free m parts (parted_free t));
      as_many = omega (arith, length-take k (take m parts));
    }

agree : (t : List ℕ) (r : Ran start 1 (parted_by newline t) (parse t)) → Agrees t (length r.lines)
unfolding start text
agree t r =
    let c = complete r.state.stage r.state.game r.fine in
    let w = lines-whole t r.lines r.next r.rest r.split in
    let n = length r.lines in
    let lines : game_lines c.whole ≡ take n (whole_lines t) ++ c.more = c.is ∙ ap (λ l. l ++ c.more) (r.says ∙ sym w.1) in
    record {
      lines = w.0;
      whole = c.whole;
      sayable = c.ok;
      rest = ended c.more;
      begins = ap ended lines ∙ ended_append (take n (whole_lines t)) c.more;
    }

no_more : (t : List ℕ) (line k : ℕ) → parse t ≡ outside line → Agrees t k → k < line
unfolding parse
no_more t line k e a =
    let c = cut t k a.lines in
    let others = parted_by newline a.rest in
    let as_text : parted_by newline (text a.whole) ≡ take k (whole_lines t) ++ others
    = ap (parted_by newline) a.begins ∙ parted_lines (take k (whole_lines t)) a.rest c.free in
    let back : parse_from start 1 (take k (whole_lines t) ++ others) ≡ game a.whole
    = ap (parse_from start 1) (sym as_text) ∙ read_back a.whole a.sayable in
    let here : parse_from start 1 (take k (whole_lines t) ++ drop k (parted_by newline t)) ≡ outside line
    = ap (parse_from start 1) (sym c.split) ∙ e in
    omega (
      arith,
      passes (take k (whole_lines t)) others (drop k (parted_by newline t)) start 1 line a.whole (some_part newline a.rest) c.some-rest back here,
      c.as_many,
    )

-- a text that is not read stops at the line up to which no text of the subset agrees
pub stops_at : (t : List ℕ) (line : ℕ) → parse t ≡ outside line → StopsAt t line
unfolding parse
stops_at t line e =
    let r = ran (parted_by newline t) start 1 start_fine (some_part newline t) in
    let most = length r.lines in
    let next : line ≡ suc most
    = ⊎_elim
    (λ (q : parse t ≡ outside (1 + most)). let z : line ≡ 1 + most = outside-same (sym e ∙ q) in omega arith)
    (λ q. game-outside (sym q.0 ∙ e))
    r.ends in
    record {
      most = most;
      next = next;
      agrees = agree t r;
      greatest = λ k a. omega (arith, no_more t line k e a);
    }

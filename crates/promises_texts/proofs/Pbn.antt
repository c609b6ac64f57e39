-- Portable Bridge Notation, proved. Assumes nothing.
use Prim.Native.Nat.{ℕ, zero, suc, ◌≤◌, ◌<◌, min}
use native.Mathlib.Omega.{arith}
use mathlib.Core.Path.{◌≡◌, refl, sym, ap, ◌∙◌}
use mathlib.Core.Logic.{◌⊎◌, ◌↔◌, inl, inr}
use mathlib.Core.Bool.{true, false, ◌||◌}
use mathlib.Core.List.{List, [], ◌∷◌}
use borrow.Author.Tests.{le-ltb, ltb-false}
use lib.Dec.{ltb, eqb}
use lib.ListN.{length, take, drop}
use Rattle.laws.specs.Refusals.{short_record_buffer, outside_subset, refuses_game, refuses_text}
use Rattle.laws.specs.Record.{Parts, encode}
use Rattle.laws.specs.Reading.{Reading, Reading.refused as stopped, Reading.found as passed}
use Rattle.laws.specs.Judge.{Outcome, Outcome.refused as declined, Outcome.accepted, Rooms, Enough, judge_of, outcome}
use Rattle.laws.specs.Lawful.{Lawful}
use Rattle.laws.specs.Lengths.{NoMark}
use Rattle.laws.specs.Contents.{Given, contents_of}
use Rattle.laws.specs.Writing.{Written, refused, written, write_by, write_of, number_of, record_left}
use Rattle.laws.specs.PbnText.{Game, EachBelow, Sayable, OfSubset, text}
use Rattle.laws.specs.PbnReading.{Parsed, parse, game, outside, StopsAt}
use Rattle.laws.specs.Pbn.{last_place, take_game, pbn_outcome, read_pbn, contents_in, TagsStand, game_of, Plain}
use Rattle.laws.proofs.Tests.{by_test, not_both}
use Rattle.laws.proofs.Lengths.{at_most_296}
use Rattle.laws.proofs.ContentsLawful.{accepted-fits, accepted-lawful, judged-alike, lawful_fit}
use Rattle.laws.proofs.PbnOrder.{order}
use Rattle.laws.proofs.PbnParse.{only_so}
use Rattle.laws.proofs.PbnWhole.{read_back}
use Rattle.laws.proofs.PbnPlace.{stops_at}
use Rattle.laws.proofs.PbnRecord.{game-taken, tags_stand, game-lawful, heading-refused, dealer-refused, calls-refused, play-refused, calls_checked}
use Rattle.laws.proofs.PbnSame.{plain-sayable, plain_tags, plain_contents, given-plain, given-said}
use Rattle.laws.proofs.PbnNumbers.{said-refused}
use Rattle.promises_texts.specs.Writing.{checks_to}
use Rattle.promises_texts.specs.Pbn.{GivesRecord, InOrder, Pbn}
use Rattle.promises.proofs.Demand1.{front-is, behind-is, length_over}

-- calls below 38 have no mark
no_mark : (l : List ℕ) → EachBelow 38 l → NoMark l
unfolding EachBelow NoMark
no_mark [] each = tt
no_mark (c ∷ l) each = ((λ e. omega (arith, each.0)), no_mark l each.1)

-- what is said of a game's text is what is said of the game
module _ (x : Game) (ok : Sayable x) (table room : ℕ) where
  of-game : read_pbn (text x) table room ≡ write_by (outcome (take_game x table [] 0)) room
  unfolding read_pbn pbn_outcome
  of-game = rw (read_back x ok)

  as_written : TagsStand x → read_pbn (text x) table room ≡ write_of (contents_in x table) room
  unfolding write_of contents_of
  as_written tags = of-game ∙ ap (λ r. write_by (outcome r) room) (game-taken x table tags)

  as_refused : (n place : ℕ) → take_game x table [] 0 ≡ stopped n place → read_pbn (text x) table room ≡ refused n place
  as_refused n place e = of-game ∙ ap (λ r. write_by (outcome r) room) e

  in_order : InOrder x table room
  unfolding checks_to contents_in calls_checked
  in_order =
      record {
        top = λ n place e. as_refused n place (heading-refused x table n place e);
        auction = λ e other. as_refused outside_subset 3 (dealer-refused x table e other);
        deal_and_calls = λ mine n place e. as_refused n place (calls-refused x table mine n place e);
        play = λ mine e absent. as_refused outside_subset _ (play-refused x table mine e absent);
        others = as_written;
      }

any_seat : (p : Parts) → Lawful p → Plain p → (first : ℕ) → first < 4 → (room : ℕ) → length (encode p) ≤ room
    → read_pbn (text (game_of p first)) p.table room ≡ written (encode p)
unfolding write_of
any_seat p lawful plain first low room enough =
    as_written (game_of p first) (plain-sayable p lawful plain first low) p.table room (plain_tags p lawful plain first)
    ∙ ap (λ c. write_of c room) (plain_contents p lawful plain first)
    ∙ simp ((accepted-lawful p).1 lawful, le-ltb room (length (encode p)) enough)

-- two cases of what is said
clash : {A : Type 0} {n place : ℕ} {bytes : List ℕ} → ◌≡◌ {A = Written} (refused n place) (written bytes) → A
clash e = let z : ◌≡◌ {A = ℕ} 0 1 = cc in absurd (omega arith)

same_bytes : {a b : List ℕ} → ◌≡◌ {A = Written} (written a) (written b) → a ≡ b
same_bytes e = cc

module _ (t : List ℕ) (table room : ℕ) (bytes : List ℕ) where
  -- what was taken gives the record
  gives : (x : Game) → parse t ≡ game x → (p : Parts) (m : ℕ) → take_game x table [] 0 ≡ passed p m → length (encode p) ≤ room → bytes ≡ encode p
      → GivesRecord t table room bytes
  unfolding contents_of contents_in
  gives x read p m taken enough are =
      let so = only_so t x read in
      let tags = tags_stand x table taken in
      let accept : contents_of (contents_in x table) ≡ accepted p = ap outcome (sym (game-taken x table tags) ∙ taken) in
      let given = (accepted-fits (contents_in x table) accept).0 in
      let said = given-said x table so.0 tags p given in
      record {
        parts = p;
        first = x.first;
        seat = so.0.first;
        lawful = game-lawful x table taken;
        plain = given-plain x table so.0 tags p given;
        says = so.1 ∙ ap text said;
        at_table = sym (ap (λ (c : Given). c.table) given);
        record_of = are;
        enough = enough;
      }

  same : read_pbn t table room ≡ written bytes → GivesRecord t table room bytes
  unfolding read_pbn pbn_outcome
  same e = by_parse (parse t) refl e
    where
      by_taken : (x : Game) → parse t ≡ game x → (r : Reading Parts) → take_game x table [] 0 ≡ r → write_by (outcome r) room ≡ written bytes
          → GivesRecord t table room bytes
      by_taken x read (stopped n place) taken w = clash w
      by_taken x read (passed p m) taken w =
          by_test (ltb room (length (encode p)))
          (λ (q : ltb room (length (encode p)) ≡ true). clash (let z : refused short_record_buffer 0 ≡ written bytes = rw q at w in z))
          (λ (q : ltb room (length (encode p)) ≡ false).
          let z : written (encode p) ≡ written bytes = rw q at w in
          gives x read p m taken (ltb-false room _ q) (sym (same_bytes z)))

      by_parse : (r : Parsed) → parse t ≡ r → write_by (pbn_outcome r table) room ≡ written bytes → GivesRecord t table room bytes
      by_parse (outside line) read w = clash w
      by_parse (game x) read w = by_taken x read (take_game x table [] 0) refl w

-- ---- texts outside the subset
any_text : (t : List ℕ) → OfSubset t ⊎ ((line : ℕ) × StopsAt t line)
any_text t = go (parse t) refl
  where
    go : (r : Parsed) → parse t ≡ r → OfSubset t ⊎ ((line : ℕ) × StopsAt t line)
    go (outside line) e = inr (line, stops_at t line e)
    go (game x) e = let so = only_so t x e in inl (x, so.0, so.1)

one_line : (t : List ℕ) (j k : ℕ) → StopsAt t j → StopsAt t k → j ≡ k
one_line t j k a b = omega (arith, a.next, b.next, a.greatest b.most b.agrees, b.greatest a.most a.agrees)

refused_at_lem : (t : List ℕ) → (OfSubset t → ⊥) → (line : ℕ) → StopsAt t line → (table room : ℕ)
    → read_pbn t table room ≡ refused outside_subset (min line last_place)
unfolding read_pbn pbn_outcome
refused_at_lem t not-of line stops table room = go (parse t) refl
  where
    go : (r : Parsed) → parse t ≡ r → write_by (pbn_outcome r table) room ≡ refused outside_subset (min line last_place)
    go (outside k) e = ap (λ k. refused outside_subset (min k last_place)) (one_line t k line (stops_at t k e) stops)
    go (game x) e = let so = only_so t x e in absurd (not-of (x, so.0, so.1))

judged : (t : List ℕ) (table room : ℕ) (bytes : List ℕ) → read_pbn t table room ≡ written bytes → (rooms : Rooms) → Enough rooms
    → (r : GivesRecord t table room bytes) × (judge_of bytes rooms ≡ accepted r.parts)
judged t table room bytes e rooms enough =
    let r = same t table room bytes e in
    let p = r.parts in
    (r, ap (λ b. judge_of b rooms) r.record_of ∙ judged-alike rooms enough p (lawful_fit p r.lawful) ∙ (accepted-lawful p).1 r.lawful)

-- ---- the numbers
same-refusal : {n m place at : ℕ} → ◌≡◌ {A = Written} (refused n place) (refused m at) → (n ≡ m) × (place ≡ at)
same-refusal e = (cc, cc)

module _ (t : List ℕ) (table room : ℕ) where
  numbers : (n place : ℕ) → read_pbn t table room ≡ refused n place → (refuses_text n ≡ true) × (place < 1024)
  unfolding read_pbn
  numbers n place e = go (pbn_outcome (parse t) table) refl e
    where
      go : (o : Outcome) → pbn_outcome (parse t) table ≡ o → write_by o room ≡ refused n place → (refuses_text n ≡ true) × (place < 1024)
      go (declined m at) q w =
          let f = said-refused t table q in
          let s = same-refusal w in
          rw (← s.0, ← s.1) (ap (λ b. b || eqb m short_record_buffer) f.number, f.place_lt)
      go (accepted p) q w =
          by_test (ltb room (length (encode p)))
          (λ (r : ltb room (length (encode p)) ≡ true).
          let s = same-refusal (let z : refused short_record_buffer 0 ≡ refused n place = rw r at w in z) in
          rw (← s.0, ← s.1) (refl, omega arith))
          (λ (r : ltb room (length (encode p)) ≡ false). clash (sym (let z : written (encode p) ≡ refused n place = rw r at w in z)))

  short : (bytes : List ℕ) → read_pbn t table room ≡ written bytes → length bytes ≤ 296
  short bytes e =
      let r = same t table room bytes e in
      rw r.record_of (at_most_296 r.parts r.lawful r.plain.plays (no_mark r.parts.calls r.plain.calls))

  number : (number_of (read_pbn t table room) < 1024) ↔ ((bytes : List ℕ) × (read_pbn t table room ≡ written bytes))
  number = (go (read_pbn t table room) refl, λ (bytes, e). rw e (omega (arith, short bytes e)))
    where
      from_1 : (n : ℕ) → refuses_text n ≡ true → 1 ≤ n
      from_1 zero e = not_both false e refl
      from_1 (suc n) e = omega arith

      go : (w : Written) → read_pbn t table room ≡ w → number_of w < 1024 → (bytes : List ℕ) × (w ≡ written bytes)
      go (refused n place) e l = absurd (omega (arith, from_1 n (numbers n place e).0))
      go (written bytes) e l = (bytes, refl)

-- with room for every record 22 is not said
pub enough : (t : List ℕ) (table room place : ℕ) → 296 ≤ room → read_pbn t table room ≡ refused short_record_buffer place → ⊥
unfolding read_pbn
enough t table room place roomy e = go (pbn_outcome (parse t) table) refl e
  where
    other : (n : ℕ) → refuses_game n ≡ true → n ≡ short_record_buffer → ⊥
    other n f q = not_both false (rw q at f) refl

    go : (o : Outcome) → pbn_outcome (parse t) table ≡ o → write_by o room ≡ refused short_record_buffer place → ⊥
    go (declined n at) q w = other n (said-refused t table q).number (same-refusal w).0
    go (accepted p) q w =
        let whole : read_pbn t table (length (encode p)) ≡ written (encode p)
        = ap (λ o. write_by o (length (encode p))) q ∙ rw (le-ltb (length (encode p)) (length (encode p)) (omega arith)) in
        let few = short t table (length (encode p)) (encode p) whole in
        clash (sym (let z : written (encode p) ≡ refused short_record_buffer place = rw (le-ltb room (length (encode p)) (omega arith)) at w in z))

-- ---- the buffer
module _ (t : List ℕ) (table : ℕ) (old : List ℕ) where
  abbrev left : List ℕ
  left = record_left (read_pbn t table (length old)) old

  front : (bytes : List ℕ) → read_pbn t table (length old) ≡ written bytes → take (length bytes) left ≡ bytes
  unfolding record_left
  front bytes e = rw e (front-is bytes old)

  behind : (bytes : List ℕ) → read_pbn t table (length old) ≡ written bytes → drop (length bytes) left ≡ drop (length bytes) old
  unfolding record_left
  behind bytes e = rw e (behind-is bytes old)

  untouched : (n place : ℕ) → read_pbn t table (length old) ≡ refused n place → left ≡ old
  unfolding record_left
  untouched n place e = rw e

  same_length : length left ≡ length old
  unfolding record_left
  same_length = go (read_pbn t table (length old)) refl
    where
      go : (w : Written) → read_pbn t table (length old) ≡ w → length (record_left w old) ≡ length old
      go (refused n place) e = refl
      go (written bytes) e = let r = same t table (length old) bytes e in length_over bytes old (rw r.record_of r.enough)

pub pbn : Pbn
pbn =
    record {
      read_back = read_back;
      only_so = only_so;
      order = order;
      any_seat = any_seat;
      same = same;
      outside = any_text;
      one_line = one_line;
      refused_at_lem = refused_at_lem;
      in_order = in_order;
      judged = judged;
      numbers = numbers;
      number = number;
      count = λ t table room bytes e. rw e;
      short = short;
      enough = enough;
      front = front;
      behind = behind;
      untouched = untouched;
      same_length = same_length;
    }

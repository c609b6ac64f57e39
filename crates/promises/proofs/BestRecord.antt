-- What best play would give from a record, proved. Assumes nothing.
use Prim.Native.Nat.{ℕ, ◌≤◌, ◌<◌}
use native.Mathlib.Omega.{arith}
use mathlib.Core.Path.{◌≡◌, refl, sym, ap, subst, ◌∙◌}
use mathlib.Core.Logic.{◌⊎◌, inl, inr}
use mathlib.Core.Bool.{true, false, not, ◌&&◌}
use mathlib.Core.List.{List, [], ◌∷◌, reverse, reverse-reverse}
use borrow.Author.Tests.{leb-true, leb-false, le-leb, lt-leb, eqb-true, eqb-false}
use lib.Dec.{leb, eqb, lit≤}
use lib.ListN.{take}
use Rattle.laws.specs.Refusals.{Placed, refused_at, given, refuses_to_last_card, refuses_behind, record_ends, no_ending}
use Rattle.laws.specs.Auction.{passed_out}
use Rattle.laws.specs.Law44.{tricks_complete, tricks_left}
use Rattle.laws.specs.Events.{cards_of}
use Rattle.laws.specs.Record.{Parts}
use Rattle.laws.specs.Reading.{Reading, Reading.refused as stopped, Reading.found as read-to, onward, refuse, ending}
use Rattle.laws.specs.Judge.{Outcome, Outcome.refused as declined, Outcome.accepted, outcome, Rooms, Enough, judge_of, read_claim}
use Rattle.laws.specs.Lengths.{most_bytes}
use Rattle.laws.specs.LastCard.{ToLastCard, read_to_last_card, read_behind}
use Rattle.laws.specs.BestRecord.{trump_in, opening_in, side_in, cards_in, cards_left, is_ending, best_after, read_best, answer, best_of, best_number}
use Rattle.laws.proofs.Tests.{by_test, not_both, and_left, and_right}
use Rattle.laws.proofs.Readings.{first-of, first-ending}
use Rattle.laws.proofs.Accepts.{lent_is}
use Rattle.laws.proofs.CardRefusals.{accepted-is}
use Rattle.laws.proofs.FirstBytes.{first-to-last-card}
use Rattle.laws.proofs.LastCard.{record_is, last-card-found}
use Rattle.laws.proofs.Numbered.{Fair, fair_last_card, fair_behind}
use Rattle.play.specs.History.{AllPlayed}
use Rattle.position.proofs.AtMost.{cards-allowed}
use Rattle.last_card.proofs.Standing.{events_played}
use Rattle.best_record.proofs.Ending.{rest, said-is}
use Rattle.best_record.proofs.Told.{Tricks, Refusal, at_most, told}
use Rattle.promises.specs.BestPlay.{InTurn, Ending, BestPlay}
use Rattle.promises.specs.BestRecord.{NoEnding, ReadAs, Answered, AsTheJudge, OfEnding, BestRecord}
use Rattle.promises.proofs.BestPlay.{best-plays}

-- ---- no ending, as the test and as its three causes
module _ (r : ToLastCard) where
  no_ending_lem : is_ending r ≡ false → NoEnding r
  unfolding is_ending
  no_ending_lem e =
      by_test (passed_out r.calls)
      (λ (q : passed_out r.calls ≡ true). inl q)
      (λ (q : passed_out r.calls ≡ false). inr (by_test (leb (cards_left r) 16)
      (λ (l : leb (cards_left r) 16 ≡ true). inr (eqb-false _ _ (rw (q, l) at e)))
      (λ (l : leb (cards_left r) 16 ≡ false). inl (leb-false _ _ l))))

  is-ending : is_ending r ≡ true → NoEnding r → ⊥
  unfolding is_ending
  is-ending e (inl q) = not_both (is_ending r) e (rw q)
  is-ending e (inr (inl l)) = not_both (leb (cards_left r) 16) (and_left (leb (cards_left r) 16) _ (and_right (not (passed_out r.calls)) _ e)) (lt-leb _ _ l)
  is-ending e (inr (inr o)) = o (eqb-true _ _ (and_right (leb (cards_left r) 16) _ (and_right (not (passed_out r.calls)) _ e)))

  or_ending : {P : Type 0} → (NoEnding r → P) → (is_ending r ≡ true → P) → P
  or_ending f g = by_test (is_ending r) (λ (q : is_ending r ≡ true). g q) (λ (q : is_ending r ≡ false). f (no_ending_lem q))

-- ---- what is answered, by the reading up to the last card
module _ (bytes : List ℕ) where
  said : {q : Reading ToLastCard} → read_to_last_card bytes 0 ≡ q → best_of bytes ≡ answer (rest bytes q)
  said e = said-is bytes ∙ ap (λ (q : Reading ToLastCard). answer (rest bytes q)) e

  said_31 : (r : ToLastCard) → ReadAs bytes r → NoEnding r → best_of bytes ≡ refused_at no_ending 0
  unfolding refuse
  said_31 r w o =
      by_test (is_ending r)
      (λ (q : is_ending r ≡ true). absurd (is-ending r q o))
      (λ (q : is_ending r ≡ false). said w.1 ∙ rw q)

  said-best : (r : ToLastCard) → ReadAs bytes r → is_ending r ≡ true → best_of bytes ≡ given (best_after r)
  unfolding refuse
  said-best r w q = said w.1 ∙ rw q

  -- an answer is of one kind, and has one value
  same-refusal : {n m p s : ℕ} → ◌≡◌ {A = Placed ℕ} (refused_at n p) (refused_at m s) → (n ≡ m) × (p ≡ s)
  same-refusal e = (cc, cc)

  same-given : {n m : ℕ} → ◌≡◌ {A = Placed ℕ} (given n) (given m) → n ≡ m
  same-given e = cc

  no_both : {P : Type 0} {n place tricks : ℕ} → ◌≡◌ {A = Placed ℕ} (refused_at n place) (given tricks) → P
  no_both e = let z : ◌≡◌ {A = ℕ} 0 1 = cc in absurd (omega arith)

  -- ---- exactly when
  module _ (n place : ℕ) where
    abbrev Causes : Type 0
    Causes = (read_to_last_card bytes 0 ≡ stopped n place) ⊎ ((n ≡ no_ending) × (place ≡ 0) × ((r : ToLastCard) × ReadAs bytes r × NoEnding r))

    refused_so : (q : Reading ToLastCard) → read_to_last_card bytes 0 ≡ q → best_of bytes ≡ refused_at n place → Causes
    refused_so (stopped m s) q e =
        let w = same-refusal (sym (said q) ∙ e) in
        inl (q ∙ rw (w.0, w.1))
    refused_so (read-to r at) q e =
        or_ending r
        (λ o. let w = same-refusal (sym e ∙ said_31 r (at, q) o) in inr (w.0, w.1, (r, (at, q), o)))
        (λ t. no_both (sym e ∙ said-best r (at, q) t))

    so_refused : Causes → best_of bytes ≡ refused_at n place
    so_refused (inl q) = said q
    so_refused (inr w) = said_31 w.2.0 w.2.1 w.2.2 ∙ rw (w.0, w.1)

  module _ (tricks : ℕ) where
    abbrev Best : Type 0
    Best = (r : ToLastCard) × ReadAs bytes r × (NoEnding r → ⊥) × (tricks ≡ best_after r)

    answered_so : (q : Reading ToLastCard) → read_to_last_card bytes 0 ≡ q → best_of bytes ≡ given tricks → Best
    answered_so (stopped m s) q e = no_both (sym (said q) ∙ e)
    answered_so (read-to r at) q e =
        or_ending r
        (λ o. no_both (sym (said_31 r (at, q) o) ∙ e))
        (λ t. (r, (at, q), is-ending r t, same-given (sym e ∙ said-best r (at, q) t)))

    so_answered : Best → best_of bytes ≡ given tricks
    so_answered w =
        or_ending w.0
        (λ o. absurd (w.2 o))
        (λ t. said-best w.0 w.1 t ∙ ap given (sym w.3))

-- ---- what is read is an ending
module _ (bytes : List ℕ) (r : ToLastCard) (w : ReadAs bytes r) where
  in_turn : (g : List ℕ) → AllPlayed r.deal (trump_in r) (opening_in r) g → InTurn (trump_in r) (opening_in r) r.deal g
  unfolding AllPlayed InTurn
  in_turn [] a = tt
  in_turn (c ∷ g) a =
      let s = last-card-found bytes r w.0 w.1 in
      ((accepted-is (trump_in r) (opening_in r) r.deal g c s.dealt.holders).0 a.0, in_turn g a.1)

  as_ending : Ending (trump_in r) (opening_in r) r.deal (cards_in r)
  as_ending =
      let s = last-card-found bytes r w.0 w.1 in
      record {
        holders = s.dealt.holders;
        thirteen = s.dealt.thirteen;
        played = in_turn (cards_in r) (cards-allowed r.deal (trump_in r) (opening_in r) r.plays (events_played s));
      }

  best : BestPlay (trump_in r) (opening_in r) r.deal (side_in r) (cards_in r)
  best = best-plays (trump_in r) (opening_in r) r.deal (side_in r) (cards_in r) as_ending

  of_ending : OfEnding r
  of_ending = record { ending = as_ending; theorems = best; at_most = at_most bytes r w.0 w.1 }

-- ---- beside the judge
module _ (bytes : List ℕ) (rooms : Rooms) (enough : Enough rooms) where
  abbrev behind : Reading ToLastCard → Reading Parts
  behind q = onward q (λ r at. read_behind r bytes at)

  judged : {q : Reading ToLastCard} → read_to_last_card bytes 0 ≡ q → judge_of bytes rooms ≡ outcome (behind q)
  judged e = lent_is rooms enough bytes ∙ ap outcome (record_is bytes ∙ ap behind e)

  same_declined : {n m p s : ℕ} → ◌≡◌ {A = Outcome} (declined n p) (declined m s) → (n ≡ m) × (p ≡ s)
  same_declined e = (cc, cc)

  -- what is refused behind the last card has another number, unless it is 2
  told_apart : (n : ℕ) → refuses_to_last_card n ≡ true → refuses_behind n ≡ true → n ≡ record_ends
  told_apart n a b =
      by_test (eqb n 2)
      (λ (q : eqb n 2 ≡ true). eqb-true n 2 q)
      (λ (q : eqb n 2 ≡ false).
      let c : (leb 13 n && leb n 16) ≡ true = rw q at b in
      let from = leb-true 13 n (and_left (leb 13 n) _ c) in
      let to = leb-true n 16 (and_right (leb 13 n) _ c) in
      not_both (refuses_to_last_card n) a (rw (
        lt-leb n 12 (omega arith),
        le-leb 2 n (omega arith),
        lt-leb 23 n (omega arith),
      )))

  -- a refusal behind the last card is numbered so
  behind-numbered : (x : Reading Parts) → Fair refuses_behind x → {n place : ℕ} → outcome x ≡ declined n place → refuses_behind n ≡ true
  behind-numbered (stopped m s) f e = rw (← (same_declined e).0) f.number
  behind-numbered (read-to p at) f e = let z : ◌≡◌ {A = ℕ} 0 1 = cc in absurd (omega arith)

  alike : (q : Reading ToLastCard) → read_to_last_card bytes 0 ≡ q → (n place : ℕ) → judge_of bytes rooms ≡ declined n place → refuses_to_last_card n ≡ true
      → (n ≡ record_ends → ⊥)
      → best_of bytes ≡ refused_at n place
  alike (stopped m s) q n place e t o = let w = same_declined (sym (judged q) ∙ e) in said bytes q ∙ rw (w.0, w.1)
  alike (read-to r at) q n place e t o =
      absurd (o (told_apart n t (behind-numbered (read_behind r bytes at) (fair_behind bytes r at q) (sym (judged q) ∙ e))))

  or_read : (q : Reading ToLastCard) → read_to_last_card bytes 0 ≡ q → (place : ℕ) → judge_of bytes rooms ≡ declined record_ends place
      → (best_of bytes ≡ refused_at record_ends place) ⊎ ((r : ToLastCard) × ReadAs bytes r)
  or_read (stopped m s) q place e = let w = same_declined (sym (judged q) ∙ e) in inl (said bytes q ∙ rw (w.0, w.1))
  or_read (read-to r at) q place e = inr (r, (at, q))

  -- the parts of an accepted record, latest first
  abbrev up_to : Parts → ToLastCard
  up_to p = record { board = p.board; table = p.table; deal = p.deal; calls = reverse p.calls; plays = reverse p.plays }

  same_parts : (x : Reading Parts) {p : Parts} → outcome x ≡ accepted p → (end : ℕ) × (x ≡ read-to p end)
  same_parts (stopped n place) e = let z : ◌≡◌ {A = ℕ} 0 1 = cc in absurd (omega arith)
  same_parts (read-to y end) {p} e = let z : y ≡ p = cc in (end, ap (λ (x : Parts). read-to x end) z)

  parts_in : {p : Parts} {y : Parts} {m end : ℕ} → ◌≡◌ {A = Reading Parts} (read-to y m) (read-to p end) → y ≡ p
  parts_in e = cc

  back : (r : ToLastCard) (p : Parts) (at end : ℕ) → read_behind r bytes at ≡ read-to p end → r ≡ up_to p
  unfolding read_behind
  back r p at end e =
      let c = first-of (read_claim r.calls (cards_of r.plays) bytes at) _ e in
      let z = first-ending bytes c.1 _ c.3 in
      rw (← parts_in z.1, reverse-reverse r.calls, reverse-reverse r.plays)

  accepts : (q : Reading ToLastCard) → read_to_last_card bytes 0 ≡ q → (p : Parts) → judge_of bytes rooms ≡ accepted p → ReadAs bytes (up_to p)
  accepts (stopped m s) q p e = let z : ◌≡◌ {A = Outcome} (declined m s) (accepted p) = sym (judged q) ∙ e in
      let y : ◌≡◌ {A = ℕ} 0 1 = cc in absurd (omega arith)
  accepts (read-to r at) q p e =
      let x = same_parts (read_behind r bytes at) (sym (judged q) ∙ e) in
      (at, q ∙ ap (λ (y : ToLastCard). read-to y at) (back r p at x.0 x.1))

  as_the_judge : AsTheJudge bytes rooms
  as_the_judge =
      record {
        refuses = λ n place q. judged q;
        alike = alike (read_to_last_card bytes 0) refl;
        or_read = or_read (read_to_last_card bytes 0) refl;
        accepts = accepts (read_to_last_card bytes 0) refl;
      }

-- ---- numbers and tricks
module _ (bytes : List ℕ) where
  fair : {q : Reading ToLastCard} → read_to_last_card bytes 0 ≡ q → Fair refuses_to_last_card q
  fair e = subst (Fair refuses_to_last_card) e (fair_last_card bytes)

  numbered : (n place : ℕ) → read_to_last_card bytes 0 ≡ stopped n place → (refuses_to_last_card n ≡ true) × (place < 1024)
  numbered n place q = let f = fair q in (f.number, f.place_lt)

  apart : Tricks (best_of bytes) ⊎ Refusal (best_of bytes) → Tricks (best_of bytes) ⊎ (2048 ≤ best_number (best_of bytes))
  apart (inl t) = inl t
  apart (inr t) = inr (rw t.2 (omega (arith, t.3)))

  answered : Answered bytes
  answered =
      record {
        refused = λ n place. (refused_so bytes n place (read_to_last_card bytes 0) refl, so_refused bytes n place);
        answered = λ tricks. (answered_so bytes tricks (read_to_last_card bytes 0) refl, so_answered bytes tricks);
        numbered = numbered;
        told_apart = apart (told bytes);
      }

  -- ---- the first bytes
  first : best_of bytes ≡ best_of (take most_bytes bytes)
  unfolding refuse
  first = said bytes (first-to-last-card most_bytes bytes (lit≤ tt)) ∙ sym (said-is (take most_bytes bytes))

pub best_record_lem : (bytes : List ℕ) → BestRecord bytes
best_record_lem bytes =
    record {
      answers = answered bytes;
      judged = as_the_judge bytes;
      of_ending = of_ending bytes;
      first_bytes = first bytes;
    }

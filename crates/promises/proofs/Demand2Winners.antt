-- Demand 2, the fifth slice, proved: the cards in order of play are tricks of four, and each adds its answer. Assumes nothing.
use Prim.Native.Nat.{ℕ, zero, suc, ◌+◌, ◌-◌, ◌*◌, ◌/◌, ◌≤◌, ◌<◌}
use native.Mathlib.Omega.{arith}
use mathlib.Core.Path.{◌≡◌, refl, sym, ap, ◌∙◌}
use mathlib.Core.Bool.{true, false}
use mathlib.Core.List.{List, [], ◌∷◌, ◌++◌, reverse, reverse-append, reverse-reverse}
use borrow.Author.Tests.{ltb-true, ltb-false, ne_eqb}
use lib.Dec.{eqb, ltb}
use lib.ListN.{length, get_or, take, drop, length-reverse, length-take, length-drop, take-append-drop, get_or-append}
use lib.Seq.{take-add, get_or_at}
use Rattle.laws.specs.Choice.{some}
use Rattle.laws.specs.Law44.{cards_played, tricks_complete, cards_in_trick, trick_under_way, leader, Won, won_by, won_tricks, winner, winning_card, is_played}
use Rattle.laws.specs.Events.{cards_of}
use Rattle.laws.specs.Record.{Parts}
use Rattle.laws.specs.Judgement.{play_of, trump_of, opening_of, won_tricks_of, winners_bytes}
use Rattle.laws.specs.Lawful.{Lawful}
use Rattle.laws.proofs.Tests.{by_test, not_both}
use Rattle.laws.proofs.Plays.{none_refused}
use Rattle.laws.proofs.TricksWon.{won-same, won-more, bytes-long, no_answer, byte_seat, byte_card}
use Rattle.play.proofs.Cards.{leader-same, in_trick_more, in_trick_last}
use Rattle.play.proofs.Winning.{winning_played}
use Rattle.play.proofs.Worth.{winner-low}
use Rattle.play.proofs.Stands.{played-low}
use Rattle.play.proofs.Complete.{answers-count}
use Rattle.position.proofs.AtMost.{cards-allowed}
use Rattle.promises.specs.Demand2Winners.{complete, in_order, cards_before, trick_at, PairOf, one_notrump, Demand2Winners}
use Rattle.promises.proofs.Demand2Records.{judged}
use Rattle.promises.proofs.Demand2Accepts.{by_judging}
use Rattle.promises.proofs.Demand2Judgement.{few}

module _ (trump opening : ℕ) where
  abbrev answers : List ℕ → List Won
  answers g = won_tricks trump opening g

  -- a card that is not the last of its trick adds no answer and changes no leader
  record Under (c : ℕ) (h : List ℕ) : Type 0 where
    count : cards_in_trick (c ∷ h) ≡ suc (cards_in_trick h)
    same : answers (c ∷ h) ≡ answers h
    lead : leader trump opening (c ∷ h) ≡ leader trump opening h

  under : (c : ℕ) (h : List ℕ) → cards_in_trick h < 3 → Under c h
  under c h k =
      let more = in_trick_more c h k in
      record {
        count = more;
        same = won-same trump opening c h (rw more (ne_eqb (suc (cards_in_trick h)) 0 (λ e. omega arith)));
        lead = leader-same trump opening c h k;
      }

  module _ (h : List ℕ) (z : cards_in_trick h ≡ 0) where
    -- fewer than four cards after complete tricks
    few-more : (r : List ℕ) → length r < 4 → answers (r ++ h) ≡ answers h
    few-more [] k = refl
    few-more (a ∷ []) k = (under a h (omega arith)).same
    few-more (b ∷ a ∷ []) k =
        let u = under a h (omega arith) in
        let v = under b (a ∷ h) (omega (arith, u.count)) in
        v.same ∙ u.same
    few-more (c ∷ b ∷ a ∷ []) k =
        let u = under a h (omega arith) in
        let v = under b (a ∷ h) (omega (arith, u.count)) in
        let w = under c (b ∷ a ∷ h) (omega (arith, u.count, v.count)) in
        w.same ∙ v.same ∙ u.same
    few-more (d ∷ c ∷ b ∷ a ∷ r) k = absurd (omega arith)

    -- four cards, given in order of play, are a trick
    four-more : (l : List ℕ) → 4 ≤ length l
        → answers (reverse (take 4 l) ++ h) ≡ answers h ++ (won_by trump (leader trump opening h) (reverse (take 4 l)) ∷ [])
    unfolding trick_under_way
    four-more [] k = absurd (omega arith)
    four-more (a ∷ []) k = absurd (omega arith)
    four-more (a ∷ b ∷ []) k = absurd (omega arith)
    four-more (a ∷ b ∷ c ∷ []) k = absurd (omega arith)
    four-more (a ∷ b ∷ c ∷ d ∷ l) k =
        let u = under a h (omega arith) in
        let v = under b (a ∷ h) (omega (arith, u.count)) in
        let w = under c (b ∷ a ∷ h) (omega (arith, u.count, v.count)) in
        let three : cards_in_trick (c ∷ b ∷ a ∷ h) ≡ 3 = omega (arith, u.count, v.count, w.count) in
        let last = in_trick_last d (c ∷ b ∷ a ∷ h) (omega arith) in
        won-more trump opening d (c ∷ b ∷ a ∷ h) (rw last)
        ∙ rw (w.same, v.same, u.same, w.lead, v.lead, u.lead, three)

  -- ---- the cards l in order of play
  module _ (l : List ℕ) where
    -- the first n tricks, latest card first
    abbrev first : ℕ → List ℕ
    first n = reverse (take (4 * n) l)

    abbrev trick : ℕ → List ℕ
    trick n = reverse (take 4 (drop (4 * n) l))

    abbrev answer_at : ℕ → Won
    answer_at n = won_by trump (leader trump opening (first n)) (trick n)

    whole : (n : ℕ) → 4 * n ≤ length l → cards_in_trick (first n) ≡ 0
    unfolding cards_in_trick cards_played
    whole n h = rw (length-reverse (take (4 * n) l), length-take (4 * n) l) (omega arith)

    next : (n : ℕ) → first (suc n) ≡ trick n ++ first n
    next n =
        let e : 4 * suc n ≡ 4 * n + 4 = omega arith in
        rw (e, take-add (4 * n) 4 l) (reverse-append (take (4 * n) l) (take 4 (drop (4 * n) l)))

    first_more : (n : ℕ) → 4 * suc n ≤ length l → answers (first (suc n)) ≡ answers (first n) ++ (answer_at n ∷ [])
    first_more n h =
        ap answers (next n)
        ∙ four-more (first n) (whole n (omega arith)) (drop (4 * n) l) (rw (length-drop (4 * n) l) (omega arith))

    first-many : (n : ℕ) → 4 * n ≤ length l → length (answers (first n)) ≡ n
    unfolding tricks_complete cards_played
    first-many n h =
        answers-count trump opening (first n) ∙ rw (length-reverse (take (4 * n) l), length-take (4 * n) l) (omega arith)

    -- the k-th answer of the first n tricks
    at_place : (n k : ℕ) → 4 * n ≤ length l → k < n → get_or (answers (first n)) k no_answer ≡ answer_at k
    at_place zero k h b = absurd (omega arith)
    at_place (suc n) k h b =
        let many = first-many n (omega arith) in
        rw (first_more n h) (by_test (ltb k n)
        (λ (q : ltb k n ≡ true).
        let j = ltb-true k n q in
        get_or-append (answers (first n)) _ no_answer k (omega (arith, many)) ∙ at_place n k (omega arith) j)
        (λ (q : ltb k n ≡ false).
        let e : k ≡ n = omega (arith, ltb-false k n q) in
        rw e (get_or_at (answers (first n)) (answer_at n) [] no_answer n many)))

    -- all cards: the complete tricks, and fewer than four cards more
    all-answers : answers (reverse l) ≡ answers (first (length l / 4))
    all-answers =
        let n = length l / 4 in
        let rest = reverse (drop (4 * n) l) in
        let parts : reverse l ≡ rest ++ first n = ap reverse (sym (take-append-drop (4 * n) l)) ∙ reverse-append (take (4 * n) l) (drop (4 * n) l) in
        ap answers parts
        ∙ few-more (first n) (whole n (omega arith)) rest (rw (length-reverse (drop (4 * n) l), length-drop (4 * n) l) (omega arith))

-- ---- a trick that has a card
winning_among : (trump : ℕ) (t : List ℕ) → 1 ≤ length t → is_played t (winning_card trump t) ≡ true
winning_among trump [] h = absurd (omega arith)
winning_among trump (c ∷ t) h = winning_played trump c t

winner_among : (trump lead : ℕ) (t : List ℕ) → 1 ≤ length t → winner trump lead t < 4
winner_among trump lead [] h = absurd (omega arith)
winner_among trump lead (c ∷ t) h = winner-low trump lead c t

-- ---- a card among others
played-behind : (s t : List ℕ) (x : ℕ) → is_played t x ≡ true → is_played (s ++ t) x ≡ true
unfolding is_played some
played-behind [] t x e = e
played-behind (c ∷ s) t x e =
    by_test (eqb c x)
    (λ (q : eqb c x ≡ true). rw q)
    (λ (q : eqb c x ≡ false). rw q (played-behind s t x e))

played-front : (s t : List ℕ) (x : ℕ) → is_played s x ≡ true → is_played (s ++ t) x ≡ true
unfolding is_played some
played-front [] t x e = not_both false e refl
played-front (c ∷ s) t x e =
    by_test (eqb c x)
    (λ (q : eqb c x ≡ true). rw q)
    (λ (q : eqb c x ≡ false). rw q (played-front s t x (rw q at e)))

-- ---- the slice
module _ (p : Parts) where
  abbrev cards : List ℕ
  cards = in_order p

  cards-many : length cards / 4 ≡ complete p
  unfolding tricks_complete cards_played
  cards-many = ap (λ (n : ℕ). n / 4) (length-reverse (cards_of (play_of p)))

  answers_are : won_tricks_of p ≡ won_tricks (trump_of p) (opening_of p) (reverse cards)
  unfolding won_tricks_of
  answers_are = rw (reverse-reverse (cards_of (play_of p)))

  winners-long : length (winners_bytes p) ≡ 2 * complete p
  unfolding winners_bytes won_tricks_of
  winners-long = bytes-long (won_tricks_of p) ∙ ap (λ (n : ℕ). 2 * n) (answers-count (trump_of p) (opening_of p) (cards_of (play_of p)))

  answer-is : (k : ℕ) → k < complete p
      → get_or (won_tricks_of p) k no_answer ≡ won_by (trump_of p) (leader (trump_of p) (opening_of p) (cards_before p k)) (trick_at p k)
  answer-is k h =
      rw (answers_are, all-answers (trump_of p) (opening_of p) cards)
      (at_place (trump_of p) (opening_of p) cards (length cards / 4) k (omega arith) (omega (arith, cards-many)))

  -- a trick of four cards has a first one
  trick-four : (k : ℕ) → k < complete p → length (trick_at p k) ≡ 4
  trick-four k h =
      rw (length-reverse (take 4 (drop (4 * k) cards)), length-take 4 (drop (4 * k) cards), length-drop (4 * k) cards) (omega (arith, cards-many))

  -- a card of a trick is a card of the play
  in_play : (k x : ℕ) → is_played (trick_at p k) x ≡ true → is_played (cards_of (play_of p)) x ≡ true
  in_play k x e =
      let n = 4 * suc k in
      let trick = next (trump_of p) (opening_of p) cards k in
      let parts = sym (reverse-reverse (cards_of (play_of p))) ∙ ap reverse (sym (take-append-drop n cards)) ∙ reverse-append (take n cards) (drop n cards) in
      rw (parts, trick) (played-behind (reverse (drop n cards)) _ x (played-front (trick_at p k) (cards_before p k) x e))

  module _ (ok : Lawful p) where
    card-low : (x : ℕ) → is_played (cards_of (play_of p)) x ≡ true → x < 52
    card-low x =
        let w = none_refused (trump_of p) (opening_of p) p.deal ok.layout.holders p.plays ok.cards.each ok.cards.codes in
        played-low p.deal (trump_of p) (opening_of p) ok.layout.holders (cards_of (play_of p))
        (cards-allowed p.deal (trump_of p) (opening_of p) (play_of p) w) x

    pair : (k : ℕ) → k < complete p → PairOf p k
    unfolding winners_bytes won_by
    pair k h =
        let a = answer-is k h in
        let four = trick-four k h in
        let one : 1 ≤ length (trick_at p k) = omega (arith, four) in
        let seat = byte_seat (won_tricks_of p) k ∙ ap (λ (w : Won). w.seat) a in
        let card = byte_card (won_tricks_of p) k ∙ ap (λ (w : Won). w.card) a in
        let on_table = winning_among (trump_of p) (trick_at p k) one in
        record {
          four = four;
          winner_is = seat;
          card_is = card;
          seat = rw seat (winner_among (trump_of p) (leader (trump_of p) (opening_of p) (cards_before p k)) (trick_at p k) one);
          card = rw card (card-low (winning_card (trump_of p) (trick_at p k)) (in_play k (winning_card (trump_of p) (trick_at p k)) on_table));
          of_trick_lem = rw card on_table;
        }

at_most_26 : (p : Parts) → Lawful p → length (winners_bytes p) ≤ 26
unfolding winners_bytes
at_most_26 p ok = omega (arith, (few p ok).tricks, bytes-long (won_tricks_of p))

pub demand_2_winners : Demand2Winners
demand_2_winners =
    record {
      long = winners-long;
      at_most_26 = at_most_26;
      pairs = pair;
      by_trump = judged.trump_wins;
      by_suit_led = (by_judging one_notrump judged.notrump, judged.suit_led_wins);
    }

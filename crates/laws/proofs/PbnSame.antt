-- The texts of Portable Bridge Notation that give a record are those of a record's lawful parts, and each gives the record of its parts. Assumes nothing.
use Prim.Native.Nat.{ℕ, zero, suc, ◌-◌, ◌≤◌, ◌<◌}
use native.Mathlib.Nat.{mod-lt}
use native.Mathlib.Omega.{arith}
use mathlib.Core.Path.{◌≡◌, refl, sym, ap, ap₂, ◌∙◌}
use mathlib.Core.Bool.{true, false, not}
use mathlib.Core.List.{List, [], ◌∷◌, reverse}
use borrow.Author.Tests.{eq-eqb, eqb-true, not-true, leb-true, leb-false}
use lib.Dec.{eqb, leb, lit<}
use lib.ListN.{length, get_or, get_or-eq_default}
use Rattle.laws.specs.Cards.{no_seat, clockwise, dealt_to}
use Rattle.laws.specs.Law2.{dealer}
use Rattle.laws.specs.Auction.{is_over, has_bid, last_bid, passes_in_a_row, passed_out, trump_after, opening_after}
use Rattle.laws.specs.Law44.{cards_played, all_played, winner, to_play, holds, playable}
use Rattle.laws.specs.Events.{Event, played, exposed, choice, cards_of, cards_among, codes_of}
use Rattle.laws.specs.FlatPlay.{flat_of}
use Rattle.laws.specs.Plays.{MayStand, EachStands}
use Rattle.laws.specs.Record.{Parts}
use Rattle.laws.specs.Lawful.{Lawful}
use Rattle.laws.specs.Contents.{Given, given_of}
use Rattle.laws.specs.PbnText.{Listed, absent, columns, Game, EachBelow, Listable, Sayable}
use Rattle.laws.specs.PbnOrder.{places_to, relisted, order_from, columns_from}
use Rattle.laws.specs.Pbn.{play_stands, cards_listed, contents_in, TagsStand, listed_of, game_of, Plain}
use Rattle.laws.proofs.Tests.{by_test, and_left, and_right, not_both}
use Rattle.laws.proofs.Plays.{cards-reverse}
use Rattle.laws.proofs.PbnOrder.{in_columns, in_order}

-- ---- each number of a list
pub each_from : (n : ℕ) (l : List ℕ) → ((k : ℕ) → k < length l → get_or l k 0 < n) → EachBelow n l
unfolding EachBelow
each_from n [] h = tt
each_from n (x ∷ l) h = (h 0 (omega arith), each_from n l (λ k i. h (suc k) (omega arith)))

-- four cards listed from another seat are some of the four
relisted-each : (n from to a b c d : ℕ) → 0 < n → EachBelow n (a ∷ b ∷ c ∷ d ∷ []) → EachBelow n (relisted from to (a ∷ b ∷ c ∷ d ∷ []))
unfolding EachBelow relisted
relisted-each n from to a b c d some h =
    let at : (k : ℕ) → get_or (a ∷ b ∷ c ∷ d ∷ []) k 0 < n = in_row in
    (at (places_to from to), (at (places_to from (clockwise to 1)), (at (places_to from (clockwise to 2)), (at (places_to from (clockwise to 3)), tt))))
  where
    in_row : (k : ℕ) → get_or (a ∷ b ∷ c ∷ d ∷ []) k 0 < n
    in_row zero = h.0
    in_row (suc zero) = h.1.0
    in_row (suc (suc zero)) = h.1.1.0
    in_row (suc (suc (suc zero))) = h.1.1.1.0
    in_row (suc (suc (suc (suc k)))) = some

module _ (n trump first : ℕ) (some : 0 < n) where
  order-each : (leader : ℕ) (cards : List ℕ) → EachBelow n cards → EachBelow n (order_from trump first leader cards)
  unfolding order_from EachBelow relisted
  order-each leader [] h = tt
  order-each leader (a ∷ []) h = h
  order-each leader (a ∷ b ∷ []) h = h
  order-each leader (a ∷ b ∷ c ∷ []) h = h
  order-each leader (a ∷ b ∷ c ∷ d ∷ cards) h =
      let row = relisted-each n first leader a b c d some (h.0, (h.1.0, (h.1.1.0, (h.1.1.1.0, tt)))) in
      (row.0, (row.1.0, (row.1.1.0, (row.1.1.1.0, order-each (winner trump leader (reverse (relisted first leader (a ∷ b ∷ c ∷ d ∷ [])))) cards h.1.1.1.1))))

  columns-each : (leader : ℕ) (cards : List ℕ) → EachBelow n cards → EachBelow n (columns_from trump first leader cards)
  unfolding columns_from EachBelow relisted
  columns-each leader [] h = tt
  columns-each leader (a ∷ []) h = h
  columns-each leader (a ∷ b ∷ []) h = h
  columns-each leader (a ∷ b ∷ c ∷ []) h = h
  columns-each leader (a ∷ b ∷ c ∷ d ∷ cards) h =
      let row = relisted-each n leader first a b c d some (h.0, (h.1.0, (h.1.1.0, (h.1.1.1.0, tt)))) in
      (row.0, (row.1.0, (row.1.1.0, (row.1.1.1.0, columns-each (winner trump leader (d ∷ c ∷ b ∷ a ∷ [])) cards h.1.1.1.1))))

pub columns-length : (trump first leader : ℕ) (cards : List ℕ) → length (columns_from trump first leader cards) ≡ length cards
unfolding columns_from relisted
columns-length trump first leader [] = refl
columns-length trump first leader (a ∷ []) = refl
columns-length trump first leader (a ∷ b ∷ []) = refl
columns-length trump first leader (a ∷ b ∷ c ∷ []) = refl
columns-length trump first leader (a ∷ b ∷ c ∷ d ∷ cards) = ap (λ n. suc (suc (suc (suc n)))) (columns-length trump first (winner trump leader (d ∷ c ∷ b ∷ a ∷ [])) cards)

-- ---- plays without codes
pub flat-cards : (plays : List Event) → codes_of plays ≡ 0 → flat_of plays ≡ cards_of plays
unfolding codes_of flat_of cards_of
flat-cards [] e = refl
flat-cards (played c ∷ plays) e = ap (λ l. c ∷ l) (flat-cards plays e)
flat-cards (exposed c deliberate ∷ plays) e = absurd (omega arith)
flat-cards (choice kind suit ∷ plays) e = absurd (omega arith)

pub cards-flat : (plays : List Event) → EachBelow 52 (flat_of plays) → codes_of plays ≡ 0
unfolding codes_of flat_of EachBelow
cards-flat [] h = refl
cards-flat (played c ∷ plays) h = cards-flat plays h.1
cards-flat (exposed c deliberate ∷ plays) h = absurd (omega (arith, h.0))
cards-flat (choice kind suit ∷ plays) h = absurd (omega (arith, h.0))

-- ---- what lawful parts say can stand in a text
-- a card that may be played is one
card-below : (trump opening : ℕ) (deal g : List ℕ) (card : ℕ) → length deal ≡ 52 → playable trump opening deal g card ≡ true → card < 52
unfolding playable holds to_play clockwise
card-below trump opening deal g card all e =
    let seat = to_play trump opening g in
    let dealt : dealt_to deal card ≡ seat = eqb-true _ _ (and_left (eqb (dealt_to deal card) seat) _ e) in
    let low : seat < 4 = mod-lt _ (lit< tt) in
    by_test (leb 52 card)
    (λ (q : leb 52 card ≡ true).
    let past : dealt_to deal card ≡ no_seat = get_or-eq_default deal no_seat (omega (arith, leb-true 52 card q)) in
    absurd (omega arith))
    (λ (q : leb 52 card ≡ false). omega (arith, leb-false 52 card q))

cards-below : (trump opening : ℕ) (deal : List ℕ) → length deal ≡ 52 → (e plays : List Event) → EachStands trump opening deal e plays → codes_of plays ≡ 0
    → EachBelow 52 (cards_of plays)
unfolding EachStands MayStand codes_of cards_of EachBelow
cards-below trump opening deal all e [] stands bare = tt
cards-below trump opening deal all e (played c ∷ plays) stands bare =
    (card-below trump opening deal (cards_of e) c all stands.0, cards-below trump opening deal all (played c ∷ e) plays stands.1 bare)
cards-below trump opening deal all e (exposed c deliberate ∷ plays) stands bare = absurd (omega arith)
cards-below trump opening deal all e (choice kind suit ∷ plays) stands bare = absurd (omega arith)

some-calls : (calls : List ℕ) → is_over (reverse calls) ≡ true → 1 ≤ length calls
unfolding is_over has_bid last_bid passes_in_a_row
some-calls [] e = not_both false e refl
some-calls (c ∷ calls) e = omega arith

no_members : (l : List ℕ) → length l ≡ 0 → [] ≡ l
no_members [] e = refl
no_members (x ∷ l) e = absurd (omega arith)

module _ (p : Parts) (lawful : Lawful p) (plain : Plain p) where
  abbrev d : ℕ
  d = dealer p.board

  abbrev h : List ℕ
  h = reverse p.calls

  opening_seat : opening_after d h < 4
  unfolding opening_after clockwise
  opening_seat = mod-lt _ (lit< tt)

  all-cards : passed_out h ≡ false → length (cards_of p.plays) ≡ 52
  unfolding all_played cards_played cards_among
  all-cards e =
      let over : passed_out h ≡ false → all_played (cards_of (reverse p.plays)) ≡ true = rw plain.claim at lawful.claim in
      sym (cards-reverse p.plays) ∙ eqb-true _ _ (over e)

  play_listable : Listable (listed_of d h (cards_of p.plays))
  unfolding listed_of
  play_listable =
      let cards = cards_of p.plays in
      let below = cards-below (trump_after h) (opening_after d h) p.deal lawful.layout.holders [] p.plays lawful.cards.each plain.plays in
      by_test (passed_out h)
      (λ (q : passed_out h ≡ true). rw q tt)
      (λ (q : passed_out h ≡ false).
      rw q (
        opening_seat,
        columns-length (trump_after h) (opening_after d h) (opening_after d h) cards ∙ all-cards q,
        columns-each 52 (trump_after h) (opening_after d h) (lit< tt) (opening_after d h) cards below,
      ))

  pub plain-sayable : (first : ℕ) → first < 4 → Sayable (game_of p first)
  unfolding game_of dealer
  plain-sayable first low =
      let l = lawful.layout in
      let all = l.holders in
      record {
        board_from = l.board_from;
        board_to = omega (arith, l.board_to);
        first = low;
        deal = all;
        holders = each_from 4 p.deal (λ k i. omega (arith, l.holder k (omega arith)));
        caller = mod-lt (p.board - 1) (lit< tt);
        some_call = some-calls p.calls lawful.calls.over;
        calls = plain.calls;
        play = play_listable;
      }

  pub plain_tags : (first : ℕ) → TagsStand (game_of p first)
  unfolding game_of listed_of play_stands
  plain_tags first =
      record {
        auction = refl;
        play =
            by_test (passed_out h)
            (λ (q : passed_out h ≡ true). rw q q)
            (λ (q : passed_out h ≡ false). rw (q, q, eq-eqb (opening_after d h) (opening_after d h) refl));
      }

  plays-listed : cards_listed (trump_after h) (listed_of d h (cards_of p.plays)) ≡ flat_of p.plays
  unfolding cards_listed listed_of cards_among
  plays-listed =
      let same = flat-cards p.plays plain.plays in
      by_test (passed_out h)
      (λ (q : passed_out h ≡ true). rw q (no_members (cards_of p.plays) (lawful.cards.none_if_passed_out q) ∙ sym same))
      (λ (q : passed_out h ≡ false).
      rw q (in_order (trump_after h) (opening_after d h) opening_seat (opening_after d h) opening_seat (cards_of p.plays) ∙ sym same))

  pub plain_contents : (first : ℕ) → contents_in (game_of p first) p.table ≡ given_of p
  unfolding contents_in game_of
  plain_contents first =
      ap₂ (λ plays claim. record { board = p.board; table = p.table; deal = p.deal; calls = p.calls; plays = plays; claim = claim })
      plays-listed (sym plain.claim)

-- ---- what stands in a text whose contents are those of parts is what the parts say
abbrev game_from : Given → ℕ → Game
game_from c first =
    record {
      board = c.board;
      first = first;
      holders = c.deal;
      caller = dealer c.board;
      calls = c.calls;
      play = listed_of (dealer c.board) (reverse c.calls) c.plays;
    }

-- Play as the calls have it is listed again
listed_back : (d : ℕ) (h : List ℕ) (play : Listed) → Listable play → play_stands d h play ≡ true → listed_of d h (cards_listed (trump_after h) play) ≡ play
unfolding listed_of cards_listed play_stands
listed_back d h absent ok e = rw e
listed_back d h (columns seat cards) ok e =
    let bid : passed_out h ≡ false = not-true _ (and_left _ _ e) in
    let leads : seat ≡ opening_after d h = eqb-true _ _ (and_right (not (passed_out h)) _ e) in
    rw (bid, ← leads) (ap (columns seat) (in_columns (trump_after h) seat ok.0 seat ok.0 cards))

pub listed-each : (trump : ℕ) (play : Listed) → Listable play → EachBelow 52 (cards_listed trump play)
unfolding cards_listed EachBelow
listed-each trump absent ok = tt
listed-each trump (columns seat cards) ok = order-each 52 trump seat (lit< tt) seat cards ok.2

module _ (x : Game) (table : ℕ) (ok : Sayable x) (tags : TagsStand x) (p : Parts) (e : contents_in x table ≡ given_of p) where
  abbrev given : Given
  given = contents_in x table

  said-from : x ≡ game_from given x.first
  unfolding contents_in
  said-from =
      ap₂ (λ caller play. record { board = x.board; first = x.first; holders = x.holders; caller = caller; calls = x.calls; play = play })
      tags.auction (sym (listed_back (dealer x.board) (reverse x.calls) x.play ok.play tags.play))

  pub given-plain : Plain p
  unfolding contents_in
  given-plain =
      record {
        calls = rw (ap (λ (c : Given). c.calls) e) at ok.calls;
        plays = cards-flat p.plays (rw (ap (λ (c : Given). c.plays) e) at (listed-each (trump_after (reverse x.calls)) x.play ok.play));
        claim = sym (ap (λ (c : Given). c.claim) e);
      }

  pub given-said : x ≡ game_of p x.first
  unfolding game_of
  given-said =
      said-from
      ∙ ap (λ c. game_from c x.first) e
      ∙ ap
      (λ l. record {
        board = p.board;
        first = x.first;
        holders = p.deal;
        caller = dealer p.board;
        calls = p.calls;
        play = listed_of (dealer p.board) (reverse p.calls) l;
      })
      (flat-cards p.plays given-plain.plays)

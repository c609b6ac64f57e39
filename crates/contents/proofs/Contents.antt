-- The whole contents checked: a law for each way out of the code, over what its calls ensure. Assumes nothing.
use Prim.Native.Nat.{ℕ, ◌<◌}
use native.Mathlib.Omega.{arith}
use mathlib.Core.Path.{◌≡◌, refl, sym, ap, ◌∙◌}
use mathlib.Core.List.{List, [], reverse}
use Rattle.laws.specs.Law2.{dealer}
use Rattle.laws.specs.Record.{Parts}
use Rattle.laws.specs.Reading.{Reading, Reading.refused, Reading.found, onward}
use Rattle.laws.specs.Judge.{outcome}
use Rattle.laws.specs.Refusals.{Placed, refused_at, given}
use Rattle.laws.specs.Refused.{checked_in}
use Rattle.laws.proofs.Answered.{is-refused}
use Rattle.laws.specs.Events.{Event, cards_of}
use Rattle.laws.specs.Contents.{Given, take_heading, take_deal, take_calls, take_cards, take_claim, take_parts, contents_of}
use Rattle.laws.proofs.ContentsStop.{heading_stays, deal_stays, calls_stay}
use Rattle.laws.proofs.ContentsLawful.{heading-kept, deal-thirteen}
use Rattle.position.specs.History.{ThirteenEach}
use Rattle.deal.specs.Hands.{words_of}
use Rattle.auction.specs.Position.{position_of}
use Rattle.deal.specs.declared.given.Dealt.{Dealt}
use Rattle.deal.specs.Taking.{taken_by}
use Rattle.auction.specs.declared.Auction.{Auction}
use Rattle.contents.specs.Checked.{checked, calls_by, after_calls}
use Rattle.contents.proofs.Composing.{passed_on}

check_is : (r : Reading Parts) → checked (outcome r) ≡ checked_in r
check_is (refused n place) = refl
check_is (found p m) = refl

-- giving the parts at the end refuses nothing
gives : {A B : Type 0} (f : A → Parts) (r : Reading A) (s : A → ℕ → Reading B)
    → checked_in (onward r (λ a m. onward (s a m) (λ b k. found (f a) k))) ≡ checked_in (onward r s)
gives f (refused n place) s = refl
gives f (found a m) s = last (f a) (s a m)
  where
    last : {B : Type 0} (p : Parts) (t : Reading B) → checked_in (onward t (λ b k. found p k)) ≡ checked_in t
    last p (refused n place) = refl
    last p (found b k) = refl

module _ (p : Given) where
  abbrev d : ℕ
  d = dealer p.board

  abbrev parts : List Event → Parts
  parts e = record { board = p.board; table = p.table; deal = p.deal; calls = p.calls; plays = reverse e; claim = p.claim }

  abbrev after_deal : ℕ → Reading Parts
  after_deal from =
      onward (take_calls d p.calls [] from) (λ h m.
      onward (take_cards d p.deal h p.plays [] m) (λ e k. onward (take_claim h (cards_of e) p.claim [] k) (λ u i. found (parts e) i)))

  abbrev after_heading : ℕ → Reading Parts
  after_heading from = onward (take_deal p.deal [] from) (λ u m. after_deal m)

  whole : checked (contents_of p) ≡ checked_in (onward (take_heading p.board p.table [] 0) (λ u m. after_heading m))
  unfolding contents_of take_parts
  whole = check_is (take_parts p [] 0)

  pub heading-refused : {n place : ℕ} → refused_at n place ≡ checked_in (take_heading p.board p.table [] 0) → refused_at n place ≡ checked (contents_of p)
  heading-refused e = sym (whole ∙ rw (is-refused (λ _. tt) (take_heading p.board p.table [] 0) e))

  module _ (et : given tt ≡ checked_in (take_heading p.board p.table [] 0)) where
    headed : (u : Unit {0}) × (take_heading p.board p.table [] 0 ≡ found u 0) × (◌≡◌ {A = Unit {0}} tt tt)
    headed = passed_on (λ _. tt) (take_heading p.board p.table [] 0) (λ u m q. heading_stays p.board p.table 0 q) et

    pub board-low : p.board < 256
    board-low = omega (arith, (heading-kept p.board p.table 0 headed.1).0)

    whole-deal : checked (contents_of p) ≡ checked_in (after_heading 0)
    whole-deal = whole ∙ rw headed.1

    abbrev dealt_as : Unit {0} → Dealt
    dealt_as u = record { holders = p.deal; hands = words_of p.deal }

    pub deal-refused : {n place : ℕ} → refused_at n place ≡ taken_by p.deal (take_deal p.deal [] 0) → refused_at n place ≡ checked (contents_of p)
    deal-refused e = sym (whole-deal ∙ rw (is-refused dealt_as (take_deal p.deal [] 0) e))

    module _ {t : Dealt} (ed : given t ≡ taken_by p.deal (take_deal p.deal [] 0)) where
      dealt : (u : Unit {0}) × (take_deal p.deal [] 0 ≡ found u 0) × (t ≡ dealt_as u)
      dealt = passed_on dealt_as (take_deal p.deal [] 0) (λ u m q. deal_stays p.deal 0 q) ed

      pub holders_are : t.holders ≡ p.deal
      holders_are = ap (λ (x : Dealt). x.holders) dealt.2

      pub hands_are : t.hands ≡ words_of t.holders
      hands_are = ap (λ (x : Dealt). x.hands) dealt.2 ∙ ap words_of (sym holders_are)

      pub thirteen_are : ThirteenEach t.holders
      thirteen_are =
          let k = deal-thirteen p.deal 0 dealt.1 in
          rw holders_are (record { places = k.0; thirteen = k.1 })

      whole-calls : checked (contents_of p) ≡ checked_in (after_deal 0)
      whole-calls = whole-deal ∙ rw dealt.1

      module _ (seat : ℕ) (es : seat ≡ dealer p.board) where
        pub calls-refused : {n place : ℕ} → refused_at n place ≡ calls_by seat (take_calls seat p.calls [] 0) → refused_at n place ≡ checked (contents_of p)
        calls-refused e = sym (whole-calls ∙ rw (is-refused (position_of d) (take_calls d p.calls [] 0) (rw es at e)))

        module _ {a : Auction} (ek : given a ≡ calls_by seat (take_calls seat p.calls [] 0)) where
          called : (h : List ℕ) × (take_calls (dealer p.board) p.calls [] 0 ≡ found h 0) × (a ≡ position_of (dealer p.board) h)
          called = passed_on (position_of d) (take_calls d p.calls [] 0) (λ h m q. calls_stay d p.calls 0 q) (rw es at ek)

          abbrev after_calling : List ℕ → Reading Parts
          after_calling h =
              onward (take_cards d p.deal h p.plays [] 0) (λ e m. onward (take_claim h (cards_of e) p.claim [] m) (λ u i. found (parts e) i))

          whole-play : {h : List ℕ} → take_calls (dealer p.board) p.calls [] 0 ≡ found h 0 → checked (contents_of p) ≡ checked_in (after_calling h)
          whole-play q = whole-calls ∙ rw q

          pub rest_checked : {r : Placed (Unit {0})}
              → ((s : ℕ) (h : List ℕ) → a ≡ position_of s h → r ≡ after_calls s t.holders h p.plays p.claim)
              → r ≡ checked (contents_of p)
          unfolding after_calls
          rest_checked f =
              let h = called.0 in
              let same = ap (λ (l : List ℕ). after_calls (dealer p.board) l h p.plays p.claim) holders_are in
              let last = gives parts (take_cards (dealer p.board) p.deal h p.plays [] 0) (λ e m. take_claim h (cards_of e) p.claim [] m) in
              f (dealer p.board) h called.2 ∙ same ∙ sym last ∙ sym (whole-play called.1)

-- Lawful parts are what the sections take, and the other way round; and the values of lawful parts fit their fields. Assumes nothing.
use Prim.Native.Nat.{ℕ, ◌<◌}
use native.Mathlib.Omega.{arith}
use mathlib.Core.Path.{◌≡◌}
use mathlib.Core.List.{List, [], ◌++◌, reverse, reverse-reverse}
use borrow.Author.Tests.{leb-true}
use lib.ListN.{get_or, length-reverse}
use Rattle.laws.specs.Law2.{dealer}
use Rattle.laws.specs.Auction.{trump_after, opening_after}
use Rattle.laws.specs.Law44.{tricks_left}
use Rattle.laws.specs.Law68.{Claim, none, agreed, claimable}
use Rattle.laws.specs.Events.{Event, cards_of}
use Rattle.laws.specs.Record.{Parts, row, play_fields, claim_fields, layout}
use Rattle.laws.specs.Judge.{Heading}
use Rattle.laws.specs.Lawful.{Claimed, Lawful}
use Rattle.laws.proofs.Written.{Fit, fit_append}
use Rattle.laws.proofs.Histories.{Each, each-place, fit_each}
use Rattle.laws.proofs.Exact.{Narrow}
use Rattle.laws.proofs.CallRefusals.{allowed_lt}
use Rattle.laws.proofs.PlaysFit.{each_fits, plays_fit}
use Rattle.laws.proofs.Sections.{HeadingStands, heading_fields, DealStands, MayCall, CallsStand, calls_fields, CardsStand, cards_fields}

-- the parts that the sections make, of the calls h and the events e of the play, latest first
abbrev pub parts_of : Heading → List ℕ → List ℕ → List Event → Claim → Parts
parts_of x deal h e claim = record { board = x.board; table = x.table; deal = deal; calls = reverse h; plays = reverse e; claim = claim }

-- what all sections take
pub record AllStand (x : Heading) (deal h : List ℕ) (e : List Event) (claim : Claim) : Type 0 where
  pub heading : HeadingStands x
  pub dealt : DealStands deal
  pub calls : CallsStand (dealer x.board) h
  pub cards : CardsStand (dealer x.board) deal h e
  pub claimed : Claimed h (cards_of e) claim

-- the layout by sections
pub staged : (x : Heading) (deal h : List ℕ) (e : List Event) (claim : Claim)
    → layout (parts_of x deal h e claim) ≡ heading_fields x ++ (row 2 deal ++ (calls_fields h ++ (cards_fields e ++ claim_fields claim)))
unfolding layout
staged x deal h e claim = rw (length-reverse h)

module _ (x : Heading) (deal h : List ℕ) (e : List Event) (claim : Claim) where
  pub lawful-of : AllStand x deal h e claim → Lawful (parts_of x deal h e claim)
  lawful-of a =
      record {
        layout =
            record {
              board_from = a.heading.board_from;
              board_to = omega (arith, a.heading.board_to);
              table_from = a.heading.table_from;
              table_to = a.heading.table_to;
              holders = a.dealt.holders;
              holder = λ k w. let b : get_or deal k 0 < 4 = (each-place (Narrow 2) deal).0 a.dealt.seats k (rw a.dealt.holders w) in omega arith;
              calls = rw (length-reverse h) a.calls.count;
              cards = a.cards.count;
            };
        deal = a.dealt.thirteen;
        calls =
            record {
              each = (each-place (MayCall (dealer x.board)) (reverse h)).0 a.calls.allow;
              over = rw (reverse-reverse h) a.calls.over;
            };
        cards =
            record {
              each = rw (reverse-reverse h) a.cards.each;
              follow = a.cards.follow;
              codes = a.cards.codes;
              none_if_passed_out = rw (reverse-reverse h) a.cards.none_if_passed_out;
            };
        claim = rw (reverse-reverse h, reverse-reverse e) a.claimed;
      }

-- parts as the sections make them
abbrev pub heading_of : Parts → Heading
heading_of p = record { board = p.board; table = p.table }

abbrev pub as_read : Parts → Parts
as_read p = parts_of (heading_of p) p.deal (reverse p.calls) (reverse p.plays) p.claim

pub as_read_lem : (p : Parts) → as_read p ≡ p
as_read_lem p = rw (reverse-reverse p.calls, reverse-reverse p.plays)

module _ (p : Parts) (ok : Lawful p) where
  abbrev trump : ℕ
  trump = trump_after (reverse p.calls)

  abbrev opening : ℕ
  opening = opening_after (dealer p.board) (reverse p.calls)

  seats-of : Each (Narrow 2) [] p.deal
  seats-of = (each-place (Narrow 2) p.deal).1 (λ k w. let b = ok.layout.holder k (omega (arith, ok.layout.holders)) in omega arith)

  calls-of : Each (MayCall (dealer p.board)) [] p.calls
  calls-of = (each-place (MayCall (dealer p.board)) p.calls).1 ok.calls.each

  pub stand_of : AllStand (heading_of p) p.deal (reverse p.calls) (reverse p.plays) p.claim
  stand_of =
      record {
        heading =
            record {
              board_from = ok.layout.board_from;
              board_to = omega (arith, ok.layout.board_to);
              table_from = ok.layout.table_from;
              table_to = ok.layout.table_to;
            };
        dealt = record { holders = ok.layout.holders; seats = seats-of; thirteen = ok.deal };
        calls = record { count = rw (length-reverse p.calls) ok.layout.calls; allow = rw (reverse-reverse p.calls) calls-of; over = ok.calls.over };
        cards =
            record {
              count = rw (reverse-reverse p.plays) ok.layout.cards;
              none_if_passed_out = rw (reverse-reverse p.plays) ok.cards.none_if_passed_out;
              each = rw (reverse-reverse p.plays) ok.cards.each;
              follow = rw (reverse-reverse p.plays) ok.cards.follow;
              codes = rw (reverse-reverse p.plays) ok.cards.codes;
            };
        claimed = ok.claim;
      }

  claim-fits : (claim : Claim) → Claimed (reverse p.calls) (cards_of (reverse p.plays)) claim → Fit (claim_fields claim)
  unfolding claim_fields Fit claimable tricks_left
  claim-fits none a = (omega arith, tt)
  claim-fits (agreed tricks) a = (omega arith, (omega (arith, leb-true tricks _ a.2), tt))

  pub lawful-fits : Fit (layout p)
  unfolding layout Fit
  lawful-fits = (
    omega (arith, ok.layout.board_to),
    (
      omega (arith, ok.layout.table_to),
      fit_append (row 2 p.deal) _ (fit_each (Narrow 2) 2 (λ h c a. a) [] p.deal seats-of) (
        omega (arith, ok.layout.calls),
        fit_append (row 6 p.calls) _ (fit_each _ 6 (allowed_lt (dealer p.board)) [] p.calls calls-of) (
          omega (arith, ok.layout.cards),
          fit_append (play_fields p.plays) _
              (plays_fit p.plays (each_fits trump opening p.deal ok.layout.holders [] p.plays ok.cards.each))
              (claim-fits p.claim ok.claim),
        ),
      ),
    ),
  )

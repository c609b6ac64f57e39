-- The penalty cards and the lead choices after each event of the play, proved. Assumes nothing.
use Prim.Native.Nat.{ℕ, ◌<◌}
use mathlib.Core.Path.{◌≡◌}
use mathlib.Core.List.{List, [], ◌∷◌}
use lib.ListN.{length}
use Rattle.laws.specs.Cards.{suit_of}
use Rattle.laws.specs.Events.{Event}
use Rattle.laws.specs.Law50.{is_faced, is_major}
use Rattle.laws.specs.Law51.{is_forbidden}
use Rattle.laws.specs.Kept.{NoneRefused}
use Rattle.laws.specs.Judgement.{trump_of, opening_of}
use Rattle.laws.proofs.Plays.{none_refused}
use Rattle.laws.proofs.KeptCards.{kept-cards}
use Rattle.laws.proofs.KeptChoices.{kept_choices}
use Rattle.position.specs.History.{ThirteenEach}
use Rattle.penalty.proofs.Sets.{word_has}
use Rattle.position.proofs.TableStands.{table-stands}
use Rattle.promises.proofs.Demand2Revokes.{none-behind}
use Rattle.promises.specs.PenaltyCards.{Kept, Position, PenaltyCards}

kept : (trump opening : ℕ) (deal : List ℕ) → length deal ≡ 52 → (e : List Event) → NoneRefused trump opening deal e → Kept trump opening deal e
kept trump opening deal all e w = (kept-cards trump opening deal all e w, kept_choices trump opening deal e w)

position : (trump opening : ℕ) (deal : List ℕ) → ThirteenEach deal → opening < 4 → (e : List Event) → NoneRefused trump opening deal e
    → Position trump opening deal e
position trump opening deal t low e w =
    let s = (table-stands deal trump opening t.places t.thirteen low e w).penalty in
    record {
      faced = λ k h. rw s.faced (word_has (λ k. is_faced trump opening deal e k) k h);
      major = λ k h. rw s.major (word_has (λ k. is_major trump opening deal e k) k h);
      forbidden = λ k h. rw s.forbidden (word_has (λ k. is_forbidden trump opening e (suit_of k)) k h);
      requires = s.requires;
      codes = s.codes;
    }

pub penalty_cards : PenaltyCards
unfolding NoneRefused
penalty_cards =
    record {
      start = λ trump opening deal all. kept trump opening deal all [] tt;
      step = λ trump opening deal all e w v a. kept trump opening deal all (v ∷ e) (a, w);
      lawful = λ p ok later e q.
          kept (trump_of p) (opening_of p) p.deal ok.layout.holders e
          (none-behind (trump_of p) (opening_of p) p.deal later e
          (rw q at (none_refused (trump_of p) (opening_of p) p.deal ok.layout.holders p.plays ok.cards.each ok.cards.codes)));
      position = position;
    }

-- Each step of the play that is not refused keeps the lead choices true: who they bind, and never a requirement beside a ban. Assumes nothing.
use Prim.Native.Nat.{ℕ, ◌<◌}
use native.Mathlib.Omega.{arith}
use mathlib.Core.Path.{◌≡◌, refl}
use mathlib.Core.Bool.{Bool, true, false, not, ◌&&◌, ◌||◌}
use mathlib.Core.List.{List, [], ◌∷◌}
use borrow.Author.Tests.{eqb-true, ne_eqb, not-true}
use lib.Dec.{eqb, leb}
use Rattle.laws.specs.Choice.{some_below}
use Rattle.laws.specs.Cards.{suit_of, partner_of}
use Rattle.laws.specs.Law44.{cards_in_trick, is_of, leader}
use Rattle.laws.specs.Events.{Event, played, exposed, choice, require, forbid, cards_of}
use Rattle.laws.specs.Law50.{is_defender, leader_after, is_major_of}
use Rattle.laws.specs.Law51.{no_suit, required, is_forbidden, ban_runs, defender_to_lead, partner_has_major, is_open}
use Rattle.laws.specs.Kept.{NoneRefused, KeptChoices}
use Rattle.laws.proofs.Tests.{by_test, not_both, and_left, and_right}
use Rattle.laws.proofs.Counts.{below-some, some_below_lem}
use Rattle.laws.proofs.CodeRefusals.{chosen}

module _ (trump opening : ℕ) (deal : List ℕ) where
  -- a choice that is open, taken apart
  pub record Open (e : List Event) (kind suit : ℕ) : Type 0 where
    pub kinds : leb kind forbid ≡ true
    pub lead : cards_in_trick (cards_of e) ≡ 0
    pub defender : is_defender opening (leader_after trump opening e) ≡ true
    pub partner : partner_has_major trump opening deal e suit ≡ true
    pub none_required : required e ≡ no_suit
    pub no_ban : (eqb kind forbid || not (ban_runs trump opening e)) ≡ true

  pub opened : (e : List Event) (kind suit : ℕ) → is_open trump opening deal e kind suit ≡ true → Open e kind suit
  unfolding is_open defender_to_lead
  opened e kind suit o =
      let lead = eqb (cards_in_trick (cards_of e)) 0 in
      let defender = is_defender opening (leader_after trump opening e) in
      let partner = partner_has_major trump opening deal e suit in
      let none = eqb (required e) no_suit in
      let kinds = eqb kind forbid || not (ban_runs trump opening e) in
      let a = and_right (leb kind forbid) _ o in
      let b = and_right (lead && defender) _ a in
      let c = and_right partner (none && kinds) b in
      let d = and_left (lead && defender) (partner && (none && kinds)) a in
      record {
        kinds = and_left (leb kind forbid) _ o;
        lead = eqb-true (cards_in_trick (cards_of e)) 0 (and_left lead defender d);
        defender = and_right lead defender d;
        partner = and_left partner (none && kinds) b;
        none_required = eqb-true (required e) no_suit (and_left none kinds c);
        no_ban = and_right none kinds c;
      }

  -- the suit of an open choice is one of four
  pub open_suit : (e : List Event) (kind suit : ℕ) → Open e kind suit → suit < 4
  unfolding partner_has_major
  open_suit e kind suit o =
      let mine : ℕ → Bool = λ (k : ℕ). is_major_of trump opening deal e (partner_of (leader_after trump opening e)) k in
      let k = below-some (λ k. is_of suit k && mine k) 52 o.partner in
      omega (arith, k.1, eqb-true (suit_of k.0) suit (and_left (is_of suit k.0) (mine k.0) k.2))

  abbrev forbidden : List Event → ℕ → Bool
  forbidden e s = is_forbidden trump opening e s

  abbrev ok : List Event → Type 0
  ok e = NoneRefused trump opening deal e

  -- an open choice after a history that is not refused
  is_open_lem : (e : List Event) (kind suit : ℕ) → ok (choice kind suit ∷ e) → Open e kind suit
  unfolding NoneRefused
  is_open_lem e kind suit w = opened e kind suit (chosen trump opening deal e kind suit w.0).1

  required_lead : (e : List Event) → ok e → (required e ≡ no_suit → ⊥)
      → (cards_in_trick (cards_of e) ≡ 0) × (is_defender opening (leader_after trump opening e) ≡ true)
  unfolding required cards_of NoneRefused
  required_lead [] w n = absurd (n refl)
  required_lead (played c ∷ e) w n = absurd (n refl)
  required_lead (exposed c deliberate ∷ e) w n = required_lead e w.1 n
  required_lead (choice kind suit ∷ e) w n = let o = is_open_lem e kind suit w in (o.lead, o.defender)

  required_suit : (e : List Event) → ok e → (required e ≡ no_suit → ⊥) → required e < 4
  unfolding required NoneRefused
  required_suit [] w n = absurd (n refl)
  required_suit (played c ∷ e) w n = absurd (n refl)
  required_suit (exposed c deliberate ∷ e) w n = required_suit e w.1 n
  required_suit (choice kind suit ∷ e) w n =
      let o = is_open_lem e kind suit w in
      by_test (eqb kind require)
      (λ (q : eqb kind require ≡ true). rw q (open_suit e kind suit o))
      (λ (q : eqb kind require ≡ false). absurd (rw q at n o.none_required))

  forbidden_lead : (e : List Event) → ok e → (s : ℕ) → forbidden e s ≡ true → is_defender opening (leader_after trump opening e) ≡ true
  unfolding is_forbidden cards_of NoneRefused
  forbidden_lead [] w s f = not_both false f refl
  forbidden_lead (played c ∷ e) w s f =
      let same = eqb (leader trump opening (c ∷ cards_of e)) (leader trump opening (cards_of e)) in
      rw (eqb-true (leader trump opening (c ∷ cards_of e)) (leader trump opening (cards_of e)) (and_right (forbidden e s) same f))
      (forbidden_lead e w.1 s (and_left (forbidden e s) same f))
  forbidden_lead (exposed c deliberate ∷ e) w s f = forbidden_lead e w.1 s f
  forbidden_lead (choice kind suit ∷ e) w s f = (is_open_lem e kind suit w).defender

  forbidden_suit : (e : List Event) → ok e → (s : ℕ) → forbidden e s ≡ true → s < 4
  unfolding is_forbidden NoneRefused
  forbidden_suit [] w s f = not_both false f refl
  forbidden_suit (played c ∷ e) w s f = forbidden_suit e w.1 s (and_left (forbidden e s) _ f)
  forbidden_suit (exposed c deliberate ∷ e) w s f = forbidden_suit e w.1 s f
  forbidden_suit (choice kind suit ∷ e) w s f =
      by_test (forbidden e s)
      (λ (q : forbidden e s ≡ true). forbidden_suit e w.1 s q)
      (λ (q : forbidden e s ≡ false).
      let named = and_right (eqb kind forbid) (eqb suit s) (rw q at f) in
      rw (← eqb-true suit s named) (open_suit e kind suit (is_open_lem e kind suit w)))

  -- where no ban runs, no suit is forbidden
  none_runs : (e : List Event) → ok e → ban_runs trump opening e ≡ false → (s : ℕ) → forbidden e s ≡ false
  unfolding ban_runs
  none_runs e w n s =
      by_test (forbidden e s)
      (λ (q : forbidden e s ≡ true). not_both (some_below 4 (λ t. forbidden e t)) (some_below_lem (λ t. forbidden e t) 4 s (forbidden_suit e w s q) q) n)
      (λ (q : forbidden e s ≡ false). q)

  one_kind : (e : List Event) → ok e → (required e ≡ no_suit → ⊥) → (s : ℕ) → forbidden e s ≡ false
  unfolding required is_forbidden NoneRefused
  one_kind [] w n s = refl
  one_kind (played c ∷ e) w n s = absurd (n refl)
  one_kind (exposed c deliberate ∷ e) w n s = one_kind e w.1 n s
  one_kind (choice kind suit ∷ e) w n s =
      let o = is_open_lem e kind suit w in
      by_test (eqb kind require)
      (λ (q : eqb kind require ≡ true).
      let other = ne_eqb kind forbid (λ z. omega (arith, eqb-true kind require q)) in
      rw (none_runs e w.1 (not-true (ban_runs trump opening e) (rw other at o.no_ban)) s, other))
      (λ (q : eqb kind require ≡ false). absurd (rw q at n o.none_required))

  -- the theorem: what holds of the lead choices holds after every history of which no event is refused
  pub kept_choices : (e : List Event) → NoneRefused trump opening deal e → KeptChoices trump opening deal e
  kept_choices e w =
      record {
        required_lead = required_lead e w;
        required_suit = required_suit e w;
        forbidden_lead = forbidden_lead e w;
        forbidden_suit = forbidden_suit e w;
        one_kind = one_kind e w;
      }

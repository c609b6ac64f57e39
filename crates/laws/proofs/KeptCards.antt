-- Each step of the play that is not refused keeps the penalty cards true. Assumes nothing.
use Prim.Native.Nat.{ℕ, ◌<◌}
use native.Mathlib.Omega.{arith}
use mathlib.Core.Path.{◌≡◌, refl, sym, ap, ◌∙◌}
use mathlib.Core.Bool.{Bool, true, false, not, ◌&&◌}
use mathlib.Core.List.{List, [], ◌∷◌, ◌++◌}
use borrow.Author.Tests.{eqb-true, eq-eqb, ltb-true, leb-true, leb-false, not-true}
use lib.Dec.{eqb, leb, ltb}
use lib.ListN.{length, get_or-eq_default}
use Rattle.laws.specs.Choice.{some}
use Rattle.laws.specs.Cards.{no_seat, same_side, dealt_to}
use Rattle.laws.specs.Law44.{is_played, holds}
use Rattle.laws.specs.Events.{Event, played, exposed, choice, cards_of}
use Rattle.laws.specs.Law50.{is_defender, is_honour, is_picked_up, is_faced, is_faced_of, has_faced, is_major, is_minor, is_exposable}
use Rattle.laws.specs.Kept.{NoneRefused, is_of_card, NoneOfCard, LatestExposed, KeptCards}
use Rattle.laws.proofs.Tests.{by_test, not_both, and_left, and_right, and_both, or_left, or_right}
use Rattle.laws.proofs.Counts.{some_below_lem}
use Rattle.laws.proofs.CodeRefusals.{exposable}

-- a conjunction that fails beside a test that holds
and_fails : (a b : Bool) → (a && b) ≡ false → b ≡ true → a ≡ false
and_fails true b e t = not_both b t e
and_fails false b e t = refl

-- a defender was dealt the card, so it is one of the deal
pub defenders-card : (opening : ℕ) (deal : List ℕ) (k : ℕ) → is_defender opening (dealt_to deal k) ≡ true → k < length deal
defenders-card opening deal k e =
    by_test (leb (length deal) k)
    (λ (q : leb (length deal) k ≡ true).
    let nobody : dealt_to deal k ≡ no_seat = get_or-eq_default deal no_seat (leb-true (length deal) k q) in
    absurd (omega (arith, ltb-true (dealt_to deal k) 4 (and_left (ltb (dealt_to deal k) 4) (same_side (dealt_to deal k) opening) e))))
    (λ (q : leb (length deal) k ≡ false). leb-false (length deal) k q)

module _ (trump opening : ℕ) (deal : List ℕ) where
  abbrev faced : List Event → ℕ → Bool
  faced e k = is_faced trump opening deal e k

  abbrev major : List Event → ℕ → Bool
  major e k = is_major trump opening deal e k

  abbrev picked : List Event → ℕ → ℕ → Bool
  picked e suit k = is_picked_up trump opening deal e suit k

  -- what holds of a card when it is exposed, and after each event that is not one of the card, holds of a penalty card
  of-faced : (Q : List Event → ℕ → Type 0)
      → ((e : List Event) (k : ℕ) (deliberate : Bool) → is_exposable trump opening deal e k ≡ true → Q (exposed k deliberate ∷ e) k)
      → ((e : List Event) (v : Event) (k : ℕ) → is_of_card trump opening deal e v k ≡ false → Q e k → Q (v ∷ e) k)
      → (e : List Event) → NoneRefused trump opening deal e → (k : ℕ) → faced e k ≡ true → Q e k
  unfolding is_faced is_of_card NoneRefused
  of-faced Q begins goes [] w k f = not_both false f refl
  of-faced Q begins goes (played c ∷ e) w k f =
      goes e (played c) k (not-true (eqb c k) (and_right (faced e k) (not (eqb c k)) f))
      (of-faced Q begins goes e w.1 k (and_left (faced e k) (not (eqb c k)) f))
  of-faced Q begins goes (exposed c deliberate ∷ e) w k f =
      by_test (eqb c k)
      (λ (q : eqb c k ≡ true). rw (← eqb-true c k q) (begins e c deliberate (exposable trump opening deal e c deliberate w.0).1))
      (λ (q : eqb c k ≡ false). goes e (exposed c deliberate) k q (of-faced Q begins goes e w.1 k (rw q at f)))
  of-faced Q begins goes (choice kind suit ∷ e) w k f =
      goes e (choice kind suit) k (not-true (picked e suit k) (and_right (faced e k) (not (picked e suit k)) f))
      (of-faced Q begins goes e w.1 k (and_left (faced e k) (not (picked e suit k)) f))

  -- ---- what a card that can be exposed is
  module _ (e : List Event) (k : ℕ) (x : is_exposable trump opening deal e k ≡ true) where
    pub exposed_defender : is_defender opening (dealt_to deal k) ≡ true
    unfolding is_exposable
    exposed_defender =
        and_left (is_defender opening (dealt_to deal k)) (not (is_played (cards_of e) k))
        (and_left (is_defender opening (dealt_to deal k) && not (is_played (cards_of e) k)) (not (faced e k)) x)

    pub exposed_unplayed : is_played (cards_of e) k ≡ false
    unfolding is_exposable
    exposed_unplayed =
        not-true (is_played (cards_of e) k)
        (and_right (is_defender opening (dealt_to deal k)) (not (is_played (cards_of e) k))
        (and_left (is_defender opening (dealt_to deal k) && not (is_played (cards_of e) k)) (not (faced e k)) x))

    pub exposed_unfaced : faced e k ≡ false
    unfolding is_exposable
    exposed_unfaced = not-true (faced e k) (and_right (is_defender opening (dealt_to deal k) && not (is_played (cards_of e) k)) (not (faced e k)) x)

  pub faced_defender : (e : List Event) → NoneRefused trump opening deal e → (k : ℕ) → faced e k ≡ true → is_defender opening (dealt_to deal k) ≡ true
  faced_defender = of-faced (λ e k. is_defender opening (dealt_to deal k) ≡ true) (λ e k d x. exposed_defender e k x) (λ e v k n t. t)

  pub faced_unplayed : (e : List Event) → NoneRefused trump opening deal e → (k : ℕ) → faced e k ≡ true → is_played (cards_of e) k ≡ false
  unfolding cards_of is_played some is_of_card
  faced_unplayed = of-faced (λ e k. is_played (cards_of e) k ≡ false) (λ e k d x. exposed_unplayed e k x) goes
    where
      goes : (e : List Event) (v : Event) (k : ℕ) → is_of_card trump opening deal e v k ≡ false → is_played (cards_of e) k ≡ false
          → is_played (cards_of (v ∷ e)) k ≡ false
      goes e (played c) k n t = rw (n, t)
      goes e (exposed c deliberate) k n t = t
      goes e (choice kind suit) k n t = t

  pub faced-held : (e : List Event) → NoneRefused trump opening deal e → (k : ℕ) → faced e k ≡ true → holds deal (cards_of e) (dealt_to deal k) k ≡ true
  unfolding holds
  faced-held e w k f = rw (eq-eqb (dealt_to deal k) (dealt_to deal k) refl, faced_unplayed e w k f)

  -- a major penalty card is a penalty card
  pub major-faced : (e : List Event) (k : ℕ) → major e k ≡ true → faced e k ≡ true
  unfolding is_major is_faced is_faced_of
  major-faced [] k m = m
  major-faced (played c ∷ e) k m =
      and_both (faced e k) (not (eqb c k)) (major-faced e k (and_left (major e k) (not (eqb c k)) m)) (and_right (major e k) (not (eqb c k)) m)
  major-faced (exposed c deliberate ∷ e) k m =
      by_test (eqb c k)
      (λ (q : eqb c k ≡ true). rw q)
      (λ (q : eqb c k ≡ false). rw q (by_test (major e k)
      (λ (r : major e k ≡ true). major-faced e k r)
      (λ (r : major e k ≡ false). and_left (faced e k) (eqb (dealt_to deal k) (dealt_to deal c)) (rw (q, r) at m))))
  major-faced (choice kind suit ∷ e) k m =
      let stays = not (picked e suit k) in
      and_both (faced e k) stays (major-faced e k (and_left (major e k) stays m)) (and_right (major e k) stays m)

  -- ---- a minor penalty card is alone
  module _ (all : length deal ≡ 52) where
    has-faced : (e : List Event) → NoneRefused trump opening deal e → (seat j : ℕ) → faced e j ≡ true → dealt_to deal j ≡ seat
        → has_faced trump opening deal e seat ≡ true
    unfolding has_faced is_faced_of
    has-faced e w seat j f o =
        some_below_lem (λ k. is_faced_of trump opening deal e seat k) 52 j (omega (arith, defenders-card opening deal j (faced_defender e w j f)))
        (and_both (faced e j) (eqb (dealt_to deal j) seat) f (eq-eqb (dealt_to deal j) seat o))

    minor-alone : (e : List Event) → NoneRefused trump opening deal e → (k j : ℕ) → faced e k ≡ true → major e k ≡ false → faced e j ≡ true
        → dealt_to deal j ≡ dealt_to deal k → j ≡ k
    unfolding is_faced is_major is_faced_of NoneRefused
    minor-alone [] w k j f m g o = not_both false f refl
    minor-alone (played c ∷ e) w k j f m g o =
        minor-alone e w.1 k j (and_left (faced e k) (not (eqb c k)) f) (and_fails (major e k) (not (eqb c k)) m (and_right (faced e k) (not (eqb c k)) f))
        (and_left (faced e j) (not (eqb c j)) g) o
    minor-alone (exposed c deliberate ∷ e) w k j f m g o =
        by_test (eqb c k)
        (λ (q : eqb c k ≡ true). by_test (eqb c j)
        (λ (r : eqb c j ≡ true). sym (eqb-true c j r) ∙ eqb-true c k q)
        (λ (r : eqb c j ≡ false).
        let none = or_right (is_honour c) _ (or_right deliberate _ (rw q at m)) in
        not_both (has_faced trump opening deal e (dealt_to deal c)) (has-faced e w.1 (dealt_to deal c) j (rw r at g) (rw (eqb-true c k q) o)) none))
        (λ (q : eqb c k ≡ false).
        let low = rw q at m in
        let held = rw q at f in
        by_test (eqb c j)
        (λ (r : eqb c j ≡ true).
        not_both (eqb (dealt_to deal k) (dealt_to deal c)) (eq-eqb (dealt_to deal k) (dealt_to deal c) (rw (eqb-true c j r) (sym o)))
        (rw held at (or_right (major e k) _ low)))
        (λ (r : eqb c j ≡ false). minor-alone e w.1 k j held (or_left (major e k) _ low) (rw r at g) o))
    minor-alone (choice kind suit ∷ e) w k j f m g o =
        minor-alone e w.1 k j (and_left (faced e k) (not (picked e suit k)) f)
        (and_fails (major e k) (not (picked e suit k)) m (and_right (faced e k) (not (picked e suit k)) f)) (and_left (faced e j) (not (picked e suit j)) g) o

  -- ---- a card is faced exactly when its latest event is an exposure
  abbrev latest_exposed : List Event → ℕ → Type 0
  latest_exposed e k = LatestExposed trump opening deal e k

  faced-latest : (e : List Event) → NoneRefused trump opening deal e → (k : ℕ) → faced e k ≡ true → latest_exposed e k
  unfolding NoneOfCard
  faced-latest = of-faced latest_exposed (λ e k d x. record { after = []; deliberate = d; before = e; parts = refl; latest = tt }) goes
    where
      goes : (e : List Event) (v : Event) (k : ℕ) → is_of_card trump opening deal e v k ≡ false → latest_exposed e k → latest_exposed (v ∷ e) k
      goes e v k n l =
          record {
            after = v ∷ l.after;
            deliberate = l.deliberate;
            before = l.before;
            parts = ap (λ (t : List Event). v ∷ t) l.parts;
            latest = (rw l.parts at n, l.latest);
          }

  stays_faced : (after e : List Event) (k : ℕ) → NoneOfCard trump opening deal after e k → faced e k ≡ true → faced (after ++ e) k ≡ true
  unfolding NoneOfCard is_of_card is_faced
  stays_faced [] e k n f = f
  stays_faced (played c ∷ after) e k n f = rw (stays_faced after e k n.1 f, n.0)
  stays_faced (exposed c deliberate ∷ after) e k n f = rw n.0 (stays_faced after e k n.1 f)
  stays_faced (choice kind suit ∷ after) e k n f = rw (stays_faced after e k n.1 f, n.0)

  latest-faced : (e : List Event) (k : ℕ) → latest_exposed e k → faced e k ≡ true
  unfolding is_faced
  latest-faced e k l =
      rw l.parts (stays_faced l.after (exposed k l.deliberate ∷ l.before) k l.latest (rw (eq-eqb k k refl)))

  -- the theorem: what holds of the penalty cards holds after every history of which no event is refused
  pub kept-cards : length deal ≡ 52 → (e : List Event) → NoneRefused trump opening deal e → KeptCards trump opening deal e
  unfolding is_minor
  kept-cards all e w =
      record {
        exactly = λ k. (faced-latest e w k, latest-faced e k);
        defenders = faced_defender e w;
        held = faced-held e w;
        major = major-faced e;
        alone = λ k j m f o.
            minor-alone all e w k j (and_left (faced e k) (not (major e k)) m) (not-true (major e k) (and_right (faced e k) (not (major e k)) m)) f o;
      }

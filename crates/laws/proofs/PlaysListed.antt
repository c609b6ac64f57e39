-- A list of plays has an entry exactly when some play of the history passes the test; every list of the same plays has as many. Assumes nothing.
use Rattle.std.specs.Prelude.{if◌then◌else◌}
use Prim.Native.Nat.{ℕ}
use mathlib.Core.Path.{◌≡◌, refl, ap, ◌∙◌}
use mathlib.Core.Logic.{◌↔◌, ⊎_elim}
use mathlib.Core.Bool.{Bool, true, false}
use mathlib.Core.List.Memᴰ
use mathlib.Core.List.{List, [], ◌∷◌, ◌++◌, map, map-append, Memᴰ}
use Rattle.laws.specs.Events.{Event, played, exposed, choice, list_plays}
use Rattle.laws.proofs.Tests.{by_test}

module _ {A : Type 0} (test : List Event → ℕ → Bool) (entry : List Event → ℕ → A) where
  -- a play of the history that passes the test, with its entry
  pub record PlayIn (e : List Event) (x : A) : Type 0 where
    pub after : List Event
    pub card : ℕ
    pub before : List Event
    pub parts : e ≡ after ++ (played card ∷ before)
    pub passes : test before card ≡ true
    pub as_listed : x ≡ entry before card

  abbrev at_card : List Event → ℕ → List A
  at_card e c = if test e c then (entry e c ∷ []) else []

  -- one event more
  on : (v : Event) (e : List Event) (x : A) → PlayIn e x → PlayIn (v ∷ e) x
  on v e x i =
      let parts = ap (λ (l : List Event). v ∷ l) i.parts in
      record { after = v ∷ i.after; card = i.card; before = i.before; parts = parts; passes = i.passes; as_listed = i.as_listed }

  listed_in_lem : (e : List Event) (x : A) → Memᴰ x (list_plays test entry e) → PlayIn e x
  unfolding list_plays
  listed_in_lem [] x m = absurd (Memᴰ.not-nil m)
  listed_in_lem (played c ∷ e) x m =
      ⊎_elim
      (λ (k : Memᴰ x (list_plays test entry e)). on (played c) e x (listed_in_lem e x k))
      (λ (k : Memᴰ x (at_card e c)). by_test (test e c)
      (λ (q : test e c ≡ true).
      record { after = []; card = c; before = e; parts = refl; passes = q; as_listed = Memᴰ.eq_of_singleton (rw q at k) })
      (λ (q : test e c ≡ false). absurd (Memᴰ.not-nil (rw q at k))))
      (Memᴰ.append_cases (list_plays test entry e) m)
  listed_in_lem (exposed c deliberate ∷ e) x m = on (exposed c deliberate) e x (listed_in_lem e x m)
  listed_in_lem (choice kind suit ∷ e) x m = on (choice kind suit) e x (listed_in_lem e x m)

  stays_listed : (after : List Event) (c : ℕ) (e : List Event) → test e c ≡ true → Memᴰ (entry e c) (list_plays test entry (after ++ (played c ∷ e)))
  unfolding list_plays
  stays_listed [] c e q = rw q (Memᴰ.append_right (list_plays test entry e) (Memᴰ.head refl))
  stays_listed (played d ∷ after) c e q = Memᴰ.append_left (at_card (after ++ (played c ∷ e)) d) (stays_listed after c e q)
  stays_listed (exposed d deliberate ∷ after) c e q = stays_listed after c e q
  stays_listed (choice kind suit ∷ after) c e q = stays_listed after c e q

  -- the theorem: the list has an entry exactly when some play of the history passed the test
  pub listed-exactly : (e : List Event) (x : A) → Memᴰ x (list_plays test entry e) ↔ PlayIn e x
  listed-exactly e x = (listed_in_lem e x, λ i. rw (i.as_listed, i.parts) (stays_listed i.after i.card i.before i.passes))

-- another entry for the same plays
pub list-map : {A B : Type 0} (f : A → B) (test : List Event → ℕ → Bool) (entry : List Event → ℕ → A) (e : List Event)
    → map f (list_plays test entry e) ≡ list_plays test (λ d c. f (entry d c)) e
unfolding list_plays
list-map f test entry [] = refl
list-map f test entry (played c ∷ e) =
    map-append f (list_plays test entry e) _
    ∙ rw (list-map f test entry e) (by_test (test e c) (λ (q : test e c ≡ true). rw q) (λ (q : test e c ≡ false). rw q))
list-map f test entry (exposed c deliberate ∷ e) = list-map f test entry e
list-map f test entry (choice kind suit ∷ e) = list-map f test entry e

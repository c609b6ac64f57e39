-- Tests of two cards or suits, and conjunctions in another order. Assumes nothing.
use Prim.Native.Nat.{ℕ}
use mathlib.Core.Path.{◌≡◌, refl, sym}
use mathlib.Core.Bool.{Bool, true, false, not, ◌&&◌, ◌||◌}
use borrow.Author.Tests.{eqb-true, eq-eqb}
use lib.Dec.{eqb}
use Rattle.laws.proofs.Tests.{same_test}

pub eqb-sym : (a b : ℕ) → eqb a b ≡ eqb b a
eqb-sym a b = same_test (eqb a b) (eqb b a) (λ e. eq-eqb b a (sym (eqb-true a b e))) (λ e. eq-eqb a b (sym (eqb-true b a e)))

pub and_comm : (a b : Bool) → (a && b) ≡ (b && a)
and_comm true true = refl
and_comm true false = refl
and_comm false true = refl
and_comm false false = refl

pub or_comm : (a b : Bool) → (a || b) ≡ (b || a)
or_comm true true = refl
or_comm true false = refl
or_comm false true = refl
or_comm false false = refl

pub or_none : (a : Bool) → (a || false) ≡ a
or_none true = refl
or_none false = refl

-- in the hand, no revoke and faced: faced, its own, and no revoke
pub in_hand : (own left obeys faced : Bool) → (faced ≡ true → left ≡ true) → (((own && left) && obeys) && faced) ≡ ((faced && own) && obeys)
in_hand own left obeys false h = none (own && left) obeys
  where
    none : (a b : Bool) → ((a && b) && false) ≡ false
    none true true = refl
    none true false = refl
    none false b = refl
in_hand true left obeys true h = rw (h refl) (and_comm obeys true)
in_hand false left obeys true h = refl

-- the same where it is said twice that the card is in the hand
pub own_faced : (own left obeys faced : Bool) → (faced ≡ true → left ≡ true)
    → (((own && left) && obeys) && (faced && (own && left))) ≡ ((faced && own) && obeys)
own_faced own left obeys false h = and_comm ((own && left) && obeys) false
own_faced true left obeys true h = rw (h refl) (and_comm obeys true)
own_faced false left obeys true h = refl

-- faced, not major, in the hand, another card and of its suit: a minor card of its own, and another one of its suit
pub own_minor : (faced major own left other suit : Bool) → (faced ≡ true → left ≡ true)
    → ((((faced && not major) && (own && left)) && other) && suit) ≡ (((faced && not major) && own) && (other && suit))
own_minor false major own left other suit h = refl
own_minor true true own left other suit h = refl
own_minor true false true left other suit h = rw (h refl)
own_minor true false false left other suit h = refl

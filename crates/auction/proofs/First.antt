-- The first player of each side to have bid each strain, and so the declarer. Assumes nothing.
use Rattle.std.specs.Prelude.{if◌then◌else◌}
use Prim.Native.Nat.{ℕ, ◌+◌, ◌-◌, ◌*◌, ◌/◌, ◌%◌, ◌^◌, ◌<◌}
use mathlib.Core.Path.{◌≡◌, refl, sym, ap, ◌∙◌}
use mathlib.Core.Logic.{◌≢◌}
use mathlib.Core.Bool.{true, false, not, ◌&&◌}
use mathlib.Core.List.{List, [], ◌∷◌}
use native.Mathlib.Nat.{add-mul-div_right, mul_assoc, add_assoc, zero-div}
use native.Mathlib.Omega.{arith}
use borrow.Author.Tests.{eqb-true, eqb-false, ne_eqb, ltb-true, ltb-false}
use lib.Dec.{eqb, ltb}
use lib.Pow.{pow_pos, pow-add, field, shr-shr, mod-mod-pow}
use Rattle.laws.specs.Cards.{no_seat, clockwise, side_of}
use Rattle.laws.specs.Auction.{is_bid, strain_of, to_call, last_bid, last_bidder, bids_strain, first_to_bid, declarer}
use Rattle.laws.proofs.Tests.{by_test}
use Rattle.auction.specs.Position.{first_place, entry_at, seat_at, entered, before_calls, after_call, position_of}
use Rattle.auction.proofs.History.{turned, turn_is, last-is, bidder-is}

-- ---- the entries of a word
-- the bits behind the fortieth do not count
entry_mod : (w j : ℕ) → j < 10 → entry_at (w % 2 ^ 40) j ≡ entry_at w j
unfolding entry_at
entry_mod w j h =
    let forty : 40 ≡ 40 - 3 * j + 3 * j = omega arith in
    let rest : 40 - 3 * j ≡ 37 - 3 * j + 3 = omega arith in
    ap (λ (n : ℕ). w % 2 ^ n / 2 ^ (3 * j) % 8) forty
    ∙ ap (λ (n : ℕ). n % 8) (field w (40 - 3 * j) (3 * j))
    ∙ ap (λ (n : ℕ). w / 2 ^ (3 * j) % 2 ^ n % 8) rest
    ∙ mod-mod-pow (w / 2 ^ (3 * j)) (37 - 3 * j) 3

shuffle : (x a b : ℕ) → x * (a * 8 * b) ≡ x * a * 8 * b
shuffle x a b = sym (mul_assoc x (a * 8) b) ∙ ap (λ (n : ℕ). n * b) (sym (mul_assoc x a 8))

-- something put at a place where nothing stands
module _ (w i x : ℕ) (free : entry_at w i ≡ 0) (small : x < 8) where
  put_here : entry_at (w + x * 2 ^ (3 * i)) i ≡ x
  unfolding entry_at
  put_here = rw (add-mul-div_right w x (pow_pos (3 * i))) (omega arith)

  put_below : (j : ℕ) → j < i → entry_at (w + x * 2 ^ (3 * i)) j ≡ entry_at w j
  unfolding entry_at
  put_below j h =
      let m = 3 * (i - j - 1) in
      let parts : 3 * i ≡ m + 3 + 3 * j = omega arith in
      let split : x * 2 ^ (3 * i) ≡ x * 2 ^ m * 8 * 2 ^ (3 * j) = rw (parts, pow-add 2 (m + 3) (3 * j), pow-add 2 m 3) (shuffle x (2 ^ m) (2 ^ (3 * j))) in
      rw (split, add-mul-div_right w (x * 2 ^ m * 8) (pow_pos (3 * j))) (omega arith)

  put_above : (j : ℕ) → i < j → entry_at (w + x * 2 ^ (3 * i)) j ≡ entry_at w j
  unfolding entry_at
  put_above j h =
      let m = 3 * (j - i - 1) in
      let parts : 3 * j ≡ 3 * i + (3 + m) = omega arith in
      let high : (w + x * 2 ^ (3 * i)) / 2 ^ (3 * i) / 8 ≡ w / 2 ^ (3 * i) / 8 = rw (add-mul-div_right w x (pow_pos (3 * i))) (omega arith) in
      let down : (n : ℕ) → n / 2 ^ (3 * j)
      ≡ n / 2 ^ (3 * i) / 8 / 2 ^ m = λ n. rw parts
      (sym (ap (λ (k : ℕ). k / 2 ^ m) (shr-shr n (3 * i) 3) ∙ shr-shr n (3 * i + 3) m ∙ rw (add_assoc (3 * i) 3 m))) in
      rw (down (w + x * 2 ^ (3 * i)), down w, high)

  pub put_there : (j : ℕ) → j ≢ i → entry_at (w + x * 2 ^ (3 * i)) j ≡ entry_at w j
  put_there j ne =
      by_test (ltb j i) (λ (q : ltb j i ≡ true). put_below j (ltb-true j i q)) (λ (q : ltb j i ≡ false). put_above j (omega (arith, ltb-false j i q, ne)))

-- ---- the seats of a word
nobody : (w j : ℕ) → entry_at w j ≡ 0 → seat_at w j ≡ no_seat
unfolding seat_at
nobody w j e = rw e

somebody : (w j e : ℕ) → entry_at w j ≡ e → (e ≡ 0 → ⊥) → seat_at w j ≡ (e - 1) % 4
unfolding seat_at
somebody w j e q n = rw (q, ne_eqb e 0 n)

same-seat : (v w j : ℕ) → entry_at v j ≡ entry_at w j → seat_at v j ≡ seat_at w j
unfolding seat_at
same-seat v w j e = rw e

-- a place where nobody stands takes the first that comes, and the others stay
module _ (w i s : ℕ) (place : i < 10) where
  enters : entry_at w i ≡ 0 → entered w i s ≡ w % 2 ^ 40 + (s % 4 + 1) * 2 ^ (3 * i)
  unfolding entered
  enters e = rw e (omega arith)

  stays_out : (entry_at w i ≡ 0 → ⊥) → entered w i s ≡ w % 2 ^ 40
  unfolding entered
  stays_out n = rw (ne_eqb (entry_at w i) 0 n) (omega arith)

  entered_here : s < 4 → seat_at (entered w i s) i ≡ (if eqb (seat_at w i) no_seat then s else seat_at w i)
  entered_here low =
      by_test (eqb (entry_at w i) 0)
      (λ (q : eqb (entry_at w i) 0 ≡ true).
      let none = eqb-true (entry_at w i) 0 q in
      let put = put_here (w % 2 ^ 40) i (s % 4 + 1) (entry_mod w i place ∙ none) (omega arith) in
      rw (nobody w i none, enters none) (somebody (w % 2 ^ 40 + (s % 4 + 1) * 2 ^ (3 * i)) i (s % 4 + 1) put (λ e. omega arith) ∙ omega arith))
      (λ (q : eqb (entry_at w i) 0 ≡ false).
      let some = eqb-false (entry_at w i) 0 q in
      let is = somebody w i (entry_at w i) refl some in
      rw (stays_out some, same-seat (w % 2 ^ 40) w i (entry_mod w i place), ne_eqb (seat_at w i) no_seat (λ e. omega (arith, is))))

  entered-there : (j : ℕ) → j < 10 → j ≢ i → seat_at (entered w i s) j ≡ seat_at w j
  entered-there j other ne =
      by_test (eqb (entry_at w i) 0)
      (λ (q : eqb (entry_at w i) 0 ≡ true).
      let none = eqb-true (entry_at w i) 0 q in
      rw (enters none) (same-seat (w % 2 ^ 40 + (s % 4 + 1) * 2 ^ (3 * i)) w j
      (put_there (w % 2 ^ 40) i (s % 4 + 1) (entry_mod w i place ∙ none) (omega arith) j ne ∙ entry_mod w j other)))
      (λ (q : eqb (entry_at w i) 0 ≡ false).
      rw (stays_out (eqb-false (entry_at w i) 0 q)) (same-seat (w % 2 ^ 40) w j (entry_mod w j other)))

-- somebody stays, and nobody stays where nobody comes
kept : (x : ℕ) → x ≡ (if not (eqb x no_seat) then x else no_seat)
kept x = by_test (eqb x no_seat) (λ (q : eqb x no_seat ≡ true). simp q (eqb-true x no_seat q)) (λ (q : eqb x no_seat ≡ false). simp q)

-- one bid more, by seat t: it counts for its side and its strain
module _ (l t c side strain : ℕ) (low : t < 4) (ls : side < 2) (lt : strain < 5) where
  bid-more : seat_at (entered l (first_place t c) t) (side * 5 + strain)
      ≡ (if not (eqb (seat_at l (side * 5 + strain)) no_seat) then seat_at l (side * 5 + strain)
      else if eqb (strain_of c) strain && eqb (side_of t) side then t
      else no_seat)
  unfolding first_place strain_of
  bid-more =
      let place : ℕ = side * 5 + strain in
      let x : ℕ = seat_at l place in
      let within : first_place t c < 10 = omega arith in
      by_test (eqb (strain_of c) strain)
      (λ (p : eqb (strain_of c) strain ≡ true). by_test (eqb (side_of t) side)
      (λ (q : eqb (side_of t) side ≡ true).
      let e : first_place t c ≡ place = omega (arith, eqb-true (strain_of c) strain p, eqb-true (side_of t) side q) in
      simp (p, q) (rw e (entered_here l place t (omega arith) low) ∙ turned (eqb x no_seat) t x))
      (λ (q : eqb (side_of t) side ≡ false).
      simp (p, q) (entered-there l (first_place t c) t within place (omega arith) (λ e. eqb-false (side_of t) side q (omega arith)) ∙ kept x)))
      (λ (p : eqb (strain_of c) strain ≡ false).
      simp p (entered-there l (first_place t c) t within place (omega arith) (λ e. eqb-false (strain_of c) strain p (omega arith)) ∙ kept x))

none_yet : (j : ℕ) → entry_at 0 j ≡ 0
unfolding entry_at
none_yet j = rw (zero-div (2 ^ (3 * j)))

caller : (d : ℕ) (h : List ℕ) → to_call d h < 4
unfolding to_call clockwise
caller d h = omega arith

module _ (d : ℕ) where
  -- the first player of a side to have bid a strain
  pub first-is : (side strain : ℕ) → side < 2 → strain < 5 → (h : List ℕ) → seat_at (position_of d h).first (side * 5 + strain) ≡ first_to_bid d side strain h
  unfolding position_of before_calls after_call first_to_bid bids_strain
  first-is side strain ls lt [] = nobody 0 (side * 5 + strain) (none_yet (side * 5 + strain))
  first-is side strain ls lt (c ∷ h) =
      let more = first-is side strain ls lt h in
      by_test (is_bid c)
      (λ (q : is_bid c ≡ true). simp (q, turn_is d h)
      (bid-more (position_of d h).first (to_call d h) c side strain (caller d h) ls lt
      ∙ ap (λ (x : ℕ). if not (eqb x no_seat) then x else if eqb (strain_of c) strain && eqb (side_of (to_call d h)) side then to_call d h else no_seat) more))
      (λ (q : is_bid c ≡ false). simp q (more ∙ kept (first_to_bid d side strain h)))

  -- the declarer: the first player of the last bidder's side to have bid the last bid's strain
  pub declarer-is : (h : List ℕ) → seat_at (position_of d h).first (first_place (position_of d h).bidder (position_of d h).last) ≡ declarer d h
  unfolding first_place strain_of declarer
  declarer-is h =
      rw (bidder-is d h, last-is d h)
      (first-is (side_of (last_bidder d h)) (strain_of (last_bid h)) (omega arith) (omega arith) h)

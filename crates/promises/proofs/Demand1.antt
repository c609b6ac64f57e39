-- Demand 1 of the judge, proved. Assumes nothing.
use Prim.Native.Nat.{ℕ, ◌+◌, ◌-◌, ◌≤◌}
use native.Mathlib.Omega.{arith}
use mathlib.Core.Path.{◌≡◌, refl, sym, ap, ◌∙◌}
use mathlib.Core.List.{List, [], ◌∷◌, ◌++◌}
use lib.ListN.{length, take, drop, length-append, length-drop, length-map}
use Rattle.laws.specs.Record.{Parts}
use Rattle.laws.specs.Reading.{Reading.found}
use Rattle.laws.specs.Judge.{Outcome, Outcome.refused, Outcome.accepted, read_record, Rooms, number_of}
use Rattle.laws.specs.Judgement.{answer_bytes, revokes_of, revoke_byte, revoke_bytes, failures_of, failures_bytes, winners_bytes}
use Rattle.laws.specs.Failures.{failure_bytes}
use Rattle.laws.specs.Lent.{rooms_of, ◌over◌, answer_left, list_left, failures_left, winners_left}
use Rattle.laws.proofs.Padded.{length-padded}
use Rattle.laws.proofs.Accepts.{lent_is}
use Rattle.laws.proofs.Numbered.{ruled}
use Rattle.judgement.proofs.Told.{seven_long, Few, few-found, winners-long}
use Rattle.promises.specs.Demand1.{said_of, Demand1}
use Rattle.promises.proofs.Demand2Accepts.{either, was_found, lent_enough}

-- ---- bytes over the front of a buffer
pub front-is : (front old : List ℕ) → take (length front) (front over old) ≡ front
unfolding ◌over◌
front-is front old = go front (drop (length front) old)
  where
    go : (front rest : List ℕ) → take (length front) (front ++ rest) ≡ front
    go [] rest = refl
    go (x ∷ front) rest = ap (λ (l : List ℕ). x ∷ l) (go front rest)

pub behind-is : (front old : List ℕ) → drop (length front) (front over old) ≡ drop (length front) old
unfolding ◌over◌
behind-is front old = go front (drop (length front) old)
  where
    go : (front rest : List ℕ) → drop (length front) (front ++ rest) ≡ rest
    go [] rest = refl
    go (x ∷ front) rest = go front rest

pub length_over : (front old : List ℕ) → length front ≤ length old → length (front over old) ≡ length old
unfolding ◌over◌
length_over front old h = length-append front (drop (length front) old) ∙ rw (length-drop (length front) old) (omega arith)

revoke-bytes-long : (p : Parts) → length (revoke_bytes p) ≡ length (revokes_of p)
unfolding revoke_bytes
revoke-bytes-long p = length-map (revokes_of p) revoke_byte

pub failures-long : (p : Parts) → length (failures_bytes p) ≡ 52
unfolding failures_bytes
failures-long p = length-padded 0 52 (failure_bytes (failures_of p))

module _ (bytes answer list failures winners : List ℕ) where
  abbrev rooms : Rooms
  rooms = rooms_of answer list failures winners

  abbrev said : Outcome
  said = said_of bytes answer list failures winners

  -- ---- refused
  untouched : (o : Outcome) → (number_of o ≡ 0 → ⊥)
      → (answer_left o answer ≡ answer) × (list_left o list ≡ list) × (failures_left o failures ≡ failures) × (winners_left o winners ≡ winners)
  unfolding answer_left list_left failures_left winners_left
  untouched (refused n place) h = (refl, refl, refl, refl)
  untouched (accepted p) h = absurd (h refl)

  -- ---- accepted
  pub was_read : (p : Parts) → said ≡ accepted p → (e : ℕ) × (read_record bytes 0 ≡ found p e)
  was_read p q = was_found (read_record bytes 0) (sym (lent_is rooms (lent_enough bytes rooms p q) bytes) ∙ q)

  few : (p : Parts) → said ≡ accepted p → Few p
  few p q = few-found bytes (was_read p q).1

  lengths : (o : Outcome) → said ≡ o
      → (length (answer_left o answer) ≡ length answer) × (length (list_left o list) ≡ length list) × (length (failures_left o failures) ≡ length failures)
      × (length (winners_left o winners) ≡ length winners)
  unfolding answer_left list_left failures_left winners_left
  lengths (refused n place) q = (refl, refl, refl, refl)
  lengths (accepted p) q =
      let lent = lent_enough bytes rooms p q in (
        length_over (answer_bytes p) answer (omega (arith, seven_long p, lent.answer)),
        length_over (revoke_bytes p) list (omega (arith, revoke-bytes-long p, (few p q).revokes, lent.list)),
        length_over (failures_bytes p) failures (omega (arith, failures-long p, lent.failures)),
        length_over (winners_bytes p) winners (omega (arith, winners-long p, (few p q).tricks, lent.winners)),
      )

  pub demand_1 : Demand1 bytes answer list failures winners
  unfolding answer_left list_left failures_left winners_left
  demand_1 =
      record {
        number = either said (ruled bytes rooms);
        refusal_leaves = untouched said;
        answer_front = λ p q. rw q (rw (seven_long p) at (front-is (answer_bytes p) answer));
        answer_behind = λ p q. rw q (rw (seven_long p) at (behind-is (answer_bytes p) answer));
        list_front = λ p q. rw q (rw (revoke-bytes-long p) at (front-is (revoke_bytes p) list));
        list_behind = λ p q. rw q (rw (revoke-bytes-long p) at (behind-is (revoke_bytes p) list));
        at_most_48 = λ p q. (few p q).revokes;
        failures_front = λ p q. rw q (rw (failures-long p) at (front-is (failures_bytes p) failures));
        failures_behind = λ p q. rw q (rw (failures-long p) at (behind-is (failures_bytes p) failures));
        winners_front = λ p q. rw q (rw (winners-long p) at (front-is (winners_bytes p) winners));
        winners_behind = λ p q. rw q (rw (winners-long p) at (behind-is (winners_bytes p) winners));
        at_most_13 = λ p q. (few p q).tricks;
        same_lengths = lengths said refl;
      }

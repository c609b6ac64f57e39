-- Demand 2, what the judge answers, proved. Assumes nothing.
use Prim.Native.Nat.{ℕ, ◌+◌, ◌≤◌}
use native.Mathlib.Omega.{arith}
use mathlib.Core.Path.{◌≡◌, refl, sym, ap, ◌∙◌}
use mathlib.Core.Logic.{◌↔◌}
use mathlib.Core.Bool.{Bool, true, false}
use mathlib.Core.List.{List, [], ◌∷◌, ◌++◌, Memᴰ}
use lib.ListN.{length, replicate}
use Rattle.laws.specs.Law61.{Revoke}
use Rattle.laws.specs.Record.{Parts, encode, Field, field, bits}
use Rattle.laws.specs.Reading.{number_at}
use Rattle.laws.specs.Auction.{passed_out}
use Rattle.laws.specs.Judge.{least_rooms, Outcome, Outcome.accepted, number_of}
use Rattle.laws.specs.Events.{Event, list_plays}
use Rattle.laws.specs.LeadRevoke.{disobeys, all_revokes}
use Rattle.laws.specs.Failures.{Failure, is_failure, failures}
use Rattle.laws.specs.Judgement.{calls_of, contract_of, declarer_of, trump_of, opening_of, play_of, won_of, after_of, revokes_of, failures_of, score_of}
use Rattle.laws.specs.Judgement.{twos_complement, played_fields, answer_fields, answer_bytes, revoke_bytes, failures_bytes, winners_bytes}
use Rattle.laws.specs.Lawful.{Lawful}
use Rattle.laws.specs.Lent.{rooms_of, ◌over◌, answer_left, list_left, failures_left, winners_left}
use Rattle.laws.proofs.Accepts as Accepts
use Rattle.laws.proofs.Tests.{by_test}
use Rattle.laws.proofs.Written.{Fit, read_back}
use Rattle.judgement.proofs.Told.{answer-bits, seven_bytes, Few, few-found}
use Rattle.promises.proofs.Demand1.{was_read}
use Rattle.judgement.proofs.Widths.{won-le, after-le, declarer_lt, level-le, strain-le, doubled_le, valid, word_lt}
use Rattle.laws.proofs.PlaysListed.{listed-exactly}
use Rattle.laws.proofs.LeadRevokes.{disobeys-exactly}
use Rattle.laws.proofs.FailuresInFull.{failure_exactly}
use Rattle.promises.specs.Demand1.{said_of}
use Rattle.promises.specs.Demand2Judgement.{PlayOf, Revokes, Fails, revoke_entry, failure_entry, RevokeOf, FailureOf}
use Rattle.promises.specs.Demand2Judgement.{Demand2Judgement, ContractBits, AnswerBits, Demand2Bits}

left : (p : Parts) (answer list failures winners : List ℕ) (o : Outcome) → o ≡ accepted p
    → (number_of o ≡ 0)
    × (answer_left o answer ≡ answer_bytes p over answer)
    × (list_left o list ≡ revoke_bytes p over list)
    × (failures_left o failures ≡ failures_bytes p over failures)
    × (winners_left o winners ≡ winners_bytes p over winners)
unfolding answer_left list_left failures_left winners_left
left p answer list failures winners o q = rw q (refl, refl, refl, refl, refl)

-- the list of the plays that pass a test has an entry exactly when it stands for a play of which that holds
module _ {A : Type 0} (p : Parts) (test : List Event → ℕ → Bool) (entry : List Event → ℕ → A) (Is : List Event → ℕ → Type 0)
    (tells : (e : List Event) (c : ℕ) → (test e c ≡ true) ↔ Is e c) where
  play-listed : (x : A) → Memᴰ x (list_plays test entry (play_of p)) ↔ PlayOf p Is entry x
  play-listed x =
      let e = listed-exactly test entry (play_of p) x in (
        λ m.
            let i = e.0 m in
            record {
              later = i.after;
              card = i.card;
              earlier = i.before;
              play = i.parts;
              is = (tells i.before i.card).0 i.passes;
              as_listed = i.as_listed;
            },
        λ i.
            e.1
            (record {
              after = i.later;
              card = i.card;
              before = i.earlier;
              parts = i.play;
              passes = (tells i.earlier i.card).1 i.is;
              as_listed = i.as_listed;
            }),
      )

revoked : (p : Parts) (r : Revoke) → Memᴰ r (revokes_of p) ↔ RevokeOf p r
unfolding revokes_of all_revokes
revoked p = play-listed p (disobeys (trump_of p) (opening_of p) p.deal) (revoke_entry p) (Revokes p) (disobeys-exactly (trump_of p) (opening_of p) p.deal)

failed : (p : Parts) (f : Failure) → Memᴰ f (failures_of p) ↔ FailureOf p f
unfolding failures_of failures
failed p = play-listed p (is_failure (trump_of p) (opening_of p) p.deal) (failure_entry p) (Fails p) (failure_exactly (trump_of p) (opening_of p) p.deal)

-- ---- every bit of the answer
-- a field among those of seven bytes, read back
field_back : (p : Parts) (before : List Field) (f : Field) (behind : List Field) → answer_fields p ≡ before ++ f ∷ behind → Fit (f ∷ behind)
    → number_at (answer_bytes p) (bits before) f.width ≡ f.value
field_back p before f behind e fit =
    rw (seven_bytes p, e) (read_back before f behind 7 fit (ap bits (sym e) ∙ answer-bits p))

module _ (p : Parts) (ok : Lawful p) where
  pub few : Few p
  few =
      few-found (encode p)
      (was_read (encode p) (replicate 7 0) (replicate 48 0) (replicate 52 0) (replicate 26 0) p
      (Accepts.read_back least_rooms Accepts.least-enough p ok)).1

  head_fit : (rest : List Field) → Fit rest → Fit (field 7 p.board ∷ field 9 p.table ∷ rest)
  unfolding Fit
  head_fit rest a = (omega (arith, ok.layout.board_to), (omega (arith, ok.layout.table_to), a))

  module _ (out : passed_out (calls_of p) ≡ true) where
    abbrev zeros : List Field
    zeros = field 40 0 ∷ []

    out_fields : answer_fields p ≡ field 7 p.board ∷ field 9 p.table ∷ zeros
    unfolding answer_fields
    out_fields = rw out

    zeros_fit : Fit zeros
    unfolding Fit
    zeros_fit = (omega arith, tt)

    out_zeros : number_at (answer_bytes p) 16 40 ≡ 0
    unfolding bits
    out_zeros = field_back p (field 7 p.board ∷ field 9 p.table ∷ []) (field 40 0) [] out_fields zeros_fit

  module _ (bid : passed_out (calls_of p) ≡ false) where
    bid-fields : answer_fields p ≡ field 7 p.board ∷ field 9 p.table ∷ played_fields p
    unfolding answer_fields
    bid-fields = rw bid

    played_fit : Fit (played_fields p)
    unfolding Fit played_fields
    played_fit =
        let score : Fit (field 16 (twos_complement (score_of p)) ∷ []) = (word_lt (score_of p) (valid p ok bid), tt) in
        let tricks : Fit (field 4 (won_of p) ∷ field 4 (after_of p) ∷ field 6 (length (revokes_of p)) ∷ field 16 (twos_complement (score_of p)) ∷ [])
        = (omega (arith, won-le p ok), (omega (arith, after-le p ok), (omega (arith, few.revokes), score))) in (
          omega (arith, (level-le p ok bid).1),
          (omega (arith, strain-le p ok bid), (omega (arith, doubled_le p ok bid), (omega (arith, declarer_lt p ok bid), tricks))),
        )

    -- the fields from each on
    abbrev f1 : Field
    f1 = field 3 (contract_of p).level

    abbrev f2 : Field
    f2 = field 3 (contract_of p).strain

    abbrev f3 : Field
    f3 = field 2 (contract_of p).doubling

    abbrev f4 : Field
    f4 = field 2 (declarer_of p)

    abbrev f5 : Field
    f5 = field 4 (won_of p)

    abbrev f6 : Field
    f6 = field 4 (after_of p)

    abbrev f7 : Field
    f7 = field 6 (length (revokes_of p))

    abbrev f8 : Field
    f8 = field 16 (twos_complement (score_of p))

    abbrev top : List Field
    top = field 7 p.board ∷ field 9 p.table ∷ []

    bits-of-contract : ContractBits p
    unfolding bits played_fields Fit
    bits-of-contract =
        record {
          level = field_back p (top ++ ([])) f1 (f2 ∷ f3 ∷ f4 ∷ f5 ∷ f6 ∷ f7 ∷ f8 ∷ []) bid-fields played_fit;
          strain = field_back p (top ++ (f1 ∷ [])) f2 (f3 ∷ f4 ∷ f5 ∷ f6 ∷ f7 ∷ f8 ∷ []) bid-fields played_fit.1;
          doubling = field_back p (top ++ (f1 ∷ f2 ∷ [])) f3 (f4 ∷ f5 ∷ f6 ∷ f7 ∷ f8 ∷ []) bid-fields played_fit.1.1;
          declarer = field_back p (top ++ (f1 ∷ f2 ∷ f3 ∷ [])) f4 (f5 ∷ f6 ∷ f7 ∷ f8 ∷ []) bid-fields played_fit.1.1.1;
          won = field_back p (top ++ (f1 ∷ f2 ∷ f3 ∷ f4 ∷ [])) f5 (f6 ∷ f7 ∷ f8 ∷ []) bid-fields played_fit.1.1.1.1;
          after = field_back p (top ++ (f1 ∷ f2 ∷ f3 ∷ f4 ∷ f5 ∷ [])) f6 (f7 ∷ f8 ∷ []) bid-fields played_fit.1.1.1.1.1;
          revokes = field_back p (top ++ (f1 ∷ f2 ∷ f3 ∷ f4 ∷ f5 ∷ f6 ∷ [])) f7 (f8 ∷ []) bid-fields played_fit.1.1.1.1.1.1;
          score = field_back p (top ++ (f1 ∷ f2 ∷ f3 ∷ f4 ∷ f5 ∷ f6 ∷ f7 ∷ [])) f8 ([]) bid-fields played_fit.1.1.1.1.1.1.1;
          valid = valid p ok bid;
        }

  rest_fit : Fit (answer_fields p)
  rest_fit =
      by_test (passed_out (calls_of p))
      (λ (q : passed_out (calls_of p) ≡ true). rw (out_fields q) (head_fit (zeros q) (zeros_fit q)))
      (λ (q : passed_out (calls_of p) ≡ false). rw (bid-fields q) (head_fit (played_fields p) (played_fit q)))

  bits-of-answer : AnswerBits p
  unfolding bits answer_fields Fit
  bits-of-answer =
      record {
        board = field_back p [] (field 7 p.board) _ refl rest_fit;
        table = field_back p (field 7 p.board ∷ []) (field 9 p.table) _ refl rest_fit.1;
        passed_out_lem = out_zeros;
        contract = bits-of-contract;
      }

pub demand_2_bits : Demand2Bits
demand_2_bits p ok = bits-of-answer p ok

pub demand_2_judgement : Demand2Judgement
demand_2_judgement =
    record {
      answers = λ p ok answer list failures winners enough.
          left p answer list failures winners (said_of (encode p) answer list failures winners)
          (Accepts.read_back (rooms_of answer list failures winners) enough p ok);
      revokes = revoked;
      failures = failed;
    }

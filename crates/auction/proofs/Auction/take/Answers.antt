-- `Auction::take` meets its contract: by what is said of the code. Assumes nothing.
use Rattle.std.proofs.Common.{◌≡◌, ℕ, Ok, Err, sym, ap}
use borrow.Author.Tests.{ne_eqb}
use Rattle.laws.specs.Refusals.{accepted}
use Rattle.laws.specs.Refused.{number, number_or_none}
use Rattle.laws.proofs.RefusalNumbers.{number_not_none}
use Rattle.laws.specs.declared.Refusal.{Refusal}
use Rattle.auction.specs.declared.Auction.{Auction}
use Rattle.auction.specs.Asked.{verdict_of, refusal_of, taken_of}
use Rattle.auction.proofs.Auction.take.Goals as goal

allowed : (a : Auction) (c : ℕ) → Ok tt ≡ verdict_of a c → refusal_of a c ≡ accepted
unfolding refusal_of
allowed a c e = sym (ap number_or_none e)

not_allowed : (a : Auction) (c : ℕ) {refusal : Refusal} → Err refusal ≡ verdict_of a c → refusal_of a c ≡ number refusal
unfolding refusal_of
not_allowed a c e = sym (ap number_or_none e)

pub returns-in-Ok : goal.returns-in-Ok
unfolding taken_of
returns-in-Ok c = rw (allowed c.args.self c.args.code c.in-Ok.ensures, c.call.ensures)

pub returns-in-Err : goal.returns-in-Err
unfolding taken_of
returns-in-Err c =
    let refusal = c.in-Err.refusal in
    rw (
      c.at.ensures,
      c.place_of.ensures,
      c.number.ensures,
      not_allowed c.args.self c.args.code c.in-Err.ensures,
      ne_eqb (number refusal) accepted (number_not_none refusal),
    )

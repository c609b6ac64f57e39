-- `pbn_words::words::is_call` meets its contract. Assumes nothing.
use Rattle.std.proofs.Common.{◌≤◌, ◌∙◌, arith}
use borrow.Author.Tests.{ne_eqb}
use Rattle.laws.specs.PbnText.{call_word}
use Rattle.laws.specs.Auction.{level_of, strain_of}
use Rattle.pbn_words.proofs.SameBytes.{equal_bytes}
use Rattle.pbn_words.proofs.words.is_call.Goals as goal

pub returns-in-0 : goal.returns-in-0
unfolding call_word
returns-in-0 c = rw c.in-0.is (rw c.as_slice.ensures at c.eq.ensures ∙ equal_bytes c.args.word.now _)

pub returns-in-1 : goal.returns-in-1
unfolding call_word
returns-in-1 c = rw c.in-1.is (rw c.as_slice-in-1.ensures at c.eq-in-1.ensures ∙ equal_bytes c.args.word.now _)

pub returns-in-2 : goal.returns-in-2
unfolding call_word
returns-in-2 c = rw c.in-2.is (rw c.as_slice-in-2.ensures at c.eq-in-2.ensures ∙ equal_bytes c.args.word.now _)

pub returns-in_default : goal.returns-in_default
unfolding call_word level_of strain_of
returns-in_default c =
    let three : 3 ≤ c.args.call = omega arith in
    rw (ne_eqb c.args.call 0 (λ e. omega arith), ne_eqb c.args.call 1 (λ e. omega arith), ne_eqb c.args.call 2 (λ e. omega arith)) c.is_bid.ensures

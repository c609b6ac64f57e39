-- `answer_text::put_said` meets its contract. Assumes nothing.
use native.Mathlib.Omega.{arith}
use Prim.Native.Nat.{◌<◌, ◌^◌}
use Rattle.laws.specs.Slip.{refusal_line}
use Rattle.answer_text.specs.Answers.{said_text, played_word, awarded_word}
use Rattle.answer_text.proofs.Answering.{refused_at_short, points-short, bits-length}
use Rattle.text.proofs.RefusalLengths.{line-short}
use borrow.Author.Rules.{rules}
use Rattle.laws.specs.Refused.{number}
use Rattle.laws.proofs.RefusalNumbers.{number_most}
use Rattle.answer_text.proofs.put_said.Goals as goal

pub returns-in-Done : goal.returns-in-Done
unfolding said_text
returns-in-Done c = rw c.in-Done.is (c.put_bytes.ensures, omega arith)

pub returns-in-Refused : goal.returns-in-Refused
unfolding said_text
returns-in-Refused c =
    let e = c.in-Refused.refused in
    let m : e.place < 65536 = search rules in
    let short = refused_at_short (number e.refusal) e.place (omega (arith, number_most e.refusal)) m in
    rw (c.in-Refused.is, ← c.number.ensures) (c.put_refused_at.ensures, rw c.number.ensures short)

pub returns-in-Points : goal.returns-in-Points
unfolding said_text refusal_line
returns-in-Points c =
    let ns = c.in-Points.ns in
    let ew = c.in-Points.ew in
    let k : ns < 2 ^ 32 = search rules in
    let m : ew < 2 ^ 32 = search rules in
    rw c.in-Points.is (c.put_pair.ensures, points-short ns ew k m)

pub returns-in-Played : goal.returns-in-Played
unfolding said_text
returns-in-Played c = rw c.in-Played.is (c.put_bits.ensures, omega (arith, bits-length played_word c.in-Played.bits))

pub returns-in-Awarded : goal.returns-in-Awarded
unfolding said_text
returns-in-Awarded c = rw c.in-Awarded.is (c.put_bits-in-Awarded.ensures, omega (arith, bits-length awarded_word c.in-Awarded.bits))

pub returns-in-Alone : goal.returns-in-Alone
unfolding said_text
returns-in-Alone c = rw c.in-Alone.is (c.put_bytes-in-Alone.ensures, omega arith)

pub returns-in-Stopped : goal.returns-in-Stopped
unfolding said_text
returns-in-Stopped c =
    rw c.in-Stopped.is
    (c.put_refusal.ensures, line-short c.args.line (omega (arith, c.ranges.line.fits)))

-- A score with the holders of its deal: what is said of them is what is said of the deal as it was taken. Assumes nothing.
use Prim.Native.Nat.{ℕ}
use mathlib.Core.Path.{◌≡◌}
use mathlib.Core.List.{List, []}
use lib.IntN.{ℤ}
use Rattle.std.specs.Prelude as Std
use Rattle.laws.specs.Contents.{take_deal}
use Rattle.laws.specs.Refusals.{fouled_board}
use Rattle.laws.specs.Refused.{placed_of, placed_by}
use Rattle.laws.specs.declared.Refused.{Refused}
use Rattle.laws.specs.Tally.{refusal_if, deal_refusal, score_refusal, ◌or_else◌}
use Rattle.laws.proofs.TallyRules.{or_second}
use Rattle.deal.specs.declared.given.Dealt.{Dealt}
use Rattle.deal.specs.Taking.{taken_by}
use Rattle.tally.specs.Steps.{apart, ruled, given_by, dealt_by}
use Rattle.tally.proofs.Dealing.{deal-refused, deal-found}
use Rattle.tally.proofs.Refusing.{refused_first, refused-when, score_or}

pub dealt_as_given : (carried : List ℕ) (results : ℕ) (s : ℤ) (d : List ℕ) (x : Std.Result Dealt Refused) → placed_of x ≡ taken_by d (take_deal d [] 0)
    → dealt_by carried results s x ≡ placed_by (given_by carried results s d).number (given_by carried results s d).place d
unfolding dealt_by given_by
dealt_as_given carried results s d (Std.Ok a) e =
    let f = deal-found d a e in
    rw (f.1, or_second (deal_refusal d) (refusal_if (apart results 1 carried d) fouled_board) f.0)
dealt_as_given carried results s d (Std.Err g) e =
    let fouls = refusal_if (apart results 1 carried d) fouled_board in
    let p = refused_first g (deal_refusal d) fouls (deal-refused d g e) in
    rw (← p) (refused-when (score_refusal s or_else ruled g) d (score_or carried results s g))

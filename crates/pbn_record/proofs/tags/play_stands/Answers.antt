-- `tags::play_stands` meets its contract: a law of Auctions for each way out. Assumes nothing.
use Rattle.pbn_record.proofs.Auctions.{no_play, play_out, play_led}
use Rattle.pbn_record.proofs.tags.play_stands.Goals as goal

pub returns-in_default : goal.returns-in_default
returns-in_default c = λ d h listed ea es ok. no_play _ d h ea _ c.is_passed_out-out.ensures listed _ es c.in_default.is

pub returns-then-out : goal.returns-then-out
returns-then-out c =
    λ d h listed ea es ok.
    play_out _ d h ea _ c.is_passed_out-out.ensures listed _ _ es c.in-Some.is c.if-out.true

pub returns : goal.returns
returns c =
    λ d h listed ea es ok.
    play_led _ d h ea _ c.is_passed_out-out.ensures listed _ _ es c.in-Some.is c.if-out.false _ c.contract-k.ensures _
    c.opening_leader.ensures

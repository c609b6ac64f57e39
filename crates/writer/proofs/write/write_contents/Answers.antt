-- `write_contents` meets its contract: the sections of the layout, and the end. Assumes nothing.
use Rattle.writer.specs.Fields.{fields_of}
use Rattle.writer.proofs.Writing.{both, cards_among_lem, sections}
use Rattle.writer.proofs.write.write_contents.Goals as goal

pub returns : goal.returns
unfolding fields_of
returns c =
    sections _ _ _ _ _ _ _ _ _ _ _ _ c.new.ensures (c.put_deal-dealt.ensures.packer, c.put_deal-dealt.ensures.bytes) (c.put_calls-called.ensures.packer, c.put_calls-called.ensures.bytes)
    (rw (cards_among_lem _ c.count_cards.ensures) at (both c.put_plays-played.ensures.packer c.put_plays-played.ensures.bytes)) (c.put_claim-claimed.ensures.packer, c.put_claim-claimed.ensures.bytes) c.finish.ensures

-- `put_plays` meets its contract: two calls; without a code the fields are a row. Assumes nothing.
use mathlib.Core.Path.{sym, ◌∙◌}
use Rattle.writer.proofs.Writing.{both, front}
use Rattle.writer.proofs.CardsAlone.{fields-alone}
use Rattle.writer.proofs.write.put_plays.Goals as goal

pub returns-then-has_code : goal.returns-then-has_code
returns-then-has_code c = record { packer = (front _ _ _ _ _ _ (c.put-a.ensures.packer, c.put-a.ensures.bytes) (c.put_events.ensures.packer, c.put_events.ensures.bytes)).0; bytes = (front _ _ _ _ _ _ (c.put-a.ensures.packer, c.put-a.ensures.bytes) (c.put_events.ensures.packer, c.put_events.ensures.bytes)).1 }

pub returns : goal.returns
returns c =
    let alone = fields-alone _ (sym c.has_code.ensures ∙ c.if-has_code.false) in
    record { packer = (front _ _ _ _ _ _ (c.put-a.ensures.packer, c.put-a.ensures.bytes) (rw alone at (both c.put_row.ensures.packer c.put_row.ensures.bytes))).0; bytes = (front _ _ _ _ _ _ (c.put-a.ensures.packer, c.put-a.ensures.bytes) (rw alone at (both c.put_row.ensures.packer c.put_row.ensures.bytes))).1 }

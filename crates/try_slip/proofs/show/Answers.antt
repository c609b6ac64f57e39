-- What `show` writes is the start of the bytes that were lent.
use Rattle.text.proofs.Puts.{written-prefix, written-length}
use Rattle.try_slip.proofs.show.Goals as goal

pub slice_bounds-text-end : goal.slice_bounds-text-end
slice_bounds-text-end g c = written-prefix _ _ _ _ _ c.write.ensures.answer c.write.ensures.bytes c.in-Some.is

pub slice_bounds-write_all-end : goal.slice_bounds-write_all-end
slice_bounds-write_all-end g c = written-length _ _ _ _ _ c.write.ensures.answer c.write.ensures.bytes c.in-Some.is

-- What `main` writes is the start of the bytes that were lent.
use Rattle.text.proofs.Puts.{written-prefix, written-length}
use Rattle.pbn.proofs.main.Goals as goal

pub slice_bounds-record-end : goal.slice_bounds-record-end
slice_bounds-record-end c = written-prefix _ _ _ _ _ c.write.ensures.answer c.write.ensures.bytes c.in-Some.is

pub slice_bounds-write_all-end : goal.slice_bounds-write_all-end
slice_bounds-write_all-end c = written-length _ _ _ _ _ c.write.ensures.answer c.write.ensures.bytes c.in-Some.is

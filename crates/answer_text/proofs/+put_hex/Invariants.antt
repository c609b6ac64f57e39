-- The measure of `answer_text::put_hex` is the number of digits. Assumes nothing.
use Rattle.answer_text.proofs.+put_hex.Given as goal

abbrev pub decreases-put_hex : goal.decreases-put_hex
decreases-put_hex l = l.digits

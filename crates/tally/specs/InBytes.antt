-- A tally in bytes, 398 of them, always: board 1; the deal 13, two bits a card from card 0 on, the most significant first, as in a record; 128 scores, two
-- bytes each, two's complement, the most significant first; 128 counts. Both directions.
-- Assumes nothing.
use Rattle.std.specs.Prelude.{ℕ, ◌<◌, ◌≤◌, ◌+◌, ◌-◌, ◌*◌, ◌/◌, ◌%◌, ◌≡◌, List, [], ◌∷◌, ◌++◌, ltb, eqb, ℤ, pos, negsuc, length, get_or, drop, if◌then◌else◌}
use Rattle.std.proofs.Math.Seq.{slice}
use Rattle.std.specs.Int.Signed.{mag}
use Rattle.laws.specs.Bytes.{Bytes}
use Rattle.laws.specs.Judgement.{twos_complement}
use Rattle.laws.specs.Record.{bytes_of}
use Rattle.tally.specs.declared.Tally.{Tally}
use Rattle.tally.specs.Tallies.{no_tally}

-- how many bytes a tally has
abbrev pub tally_length : ℕ
tally_length = 398

-- ---- a tally as bytes
-- a byte for each four holders, of each the last two bits
unfoldable pub deal_bytes : List ℕ → List ℕ
deal_bytes [] = []
deal_bytes (a ∷ []) = []
deal_bytes (a ∷ b ∷ []) = []
deal_bytes (a ∷ b ∷ c ∷ []) = []
deal_bytes (a ∷ b ∷ c ∷ d ∷ deal) = (a % 4 * 64 + b % 4 * 16 + c % 4 * 4 + d % 4) ∷ deal_bytes deal

-- two bytes for each score
unfoldable pub score_bytes : List ℤ → List ℕ
score_bytes [] = []
score_bytes (s ∷ scores) = bytes_of 2 (twos_complement s) ++ score_bytes scores

-- the bytes of a tally
unfoldable pub tally_bytes : Tally → List ℕ
tally_bytes t = t.board ∷ (deal_bytes t.deal ++ (score_bytes t.scores ++ t.counts))

-- ---- bytes as a tally
-- the four holders of each byte
unfoldable pub deal_in : List ℕ → List ℕ
deal_in [] = []
deal_in (byte ∷ bytes) = byte / 64 % 4 ∷ byte / 16 % 4 ∷ byte / 4 % 4 ∷ byte % 4 ∷ deal_in bytes

-- the number that 16 bits stand for in two's complement
unfoldable pub signed : ℕ → ℤ
signed word = if ltb word 32768 then pos word else negsuc (65535 - word)

-- the score of each two bytes
unfoldable pub scores_in_bytes : List ℕ → List ℤ
scores_in_bytes [] = []
scores_in_bytes (high ∷ []) = []
scores_in_bytes (high ∷ low ∷ bytes) = signed (high * 256 + low) ∷ scores_in_bytes bytes

-- the tally that 398 bytes stand for
unfoldable pub tally_from : List ℕ → Tally
tally_from bytes =
    record {
      board = get_or bytes 0 0;
      deal = deal_in (slice 1 14 bytes);
      scores = scores_in_bytes (slice 14 270 bytes);
      counts = drop 270 bytes;
    }

-- the tally in a list of bytes. Another number of bytes holds none: it reads as the all-zero one, which every call refuses with 17
unfoldable pub tally_in : List ℕ → Tally
tally_in bytes = if eqb (length bytes) tally_length then tally_from bytes else no_tally

-- ---- which tallies the bytes can tell
-- a board and 128 counts of a byte each, 52 holders of two bits, and 128 scores of two bytes
pub record InRange (t : Tally) : Type 0 where
  pub board : t.board < 256
  pub holders : length t.deal ≡ 52
  pub holder : (k : ℕ) → get_or t.deal k 0 ≤ 3
  pub scores : length t.scores ≡ 128
  pub score : (k : ℕ) → mag (get_or t.scores k (pos 0)) < 32768
  pub counts : length t.counts ≡ 128
  pub count : Bytes t.counts

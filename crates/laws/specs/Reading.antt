-- Reading a record from its first bit on: what is read with the bit behind it, or a refusal with its number and place.
-- Bit 0 is the most significant bit of the first byte. A reader is written in `do` notation, a line for each field and each refusal.
-- Assumes nothing.
use Rattle.std.specs.Prelude.{ℕ, zero, suc, ◌+◌, ◌-◌, ◌*◌, ◌/◌, ◌%◌, ◌^◌, Bool, not, ◌||◌, List, [], ◌∷◌, leb, eqb, length, get_or, if◌then◌else◌}
use Rattle.laws.specs.Refusals.{accepted, record_ends, not_padding}

infixl 10 ◌>>=◌
infixl 10 ◌>>◌
-- a bit of the bytes; 0 past their end
unfoldable pub bit_at : List ℕ → ℕ → ℕ
bit_at bytes i = get_or bytes (i / 8) 0 / 2 ^ (7 - i % 8) % 2

-- the number that w bits from a bit on make, the first the most significant
unfoldable pub number_at : List ℕ → ℕ → ℕ → ℕ
number_at bytes at zero = 0
number_at bytes at (suc w) = number_at bytes at w * 2 + bit_at bytes (at + w)

-- a refusal with its number and place, or a value and the bit behind what was read
pub data Reading (A : Type 0) : Type 0 where
  refused : ℕ → ℕ → Reading A
  found : A → ℕ → Reading A

-- something that is read from the bytes from a bit on
abbrev pub Reader : Type 0 → Type 0
Reader A = List ℕ → ℕ → Reading A

-- what is read after a first reading: nothing where that was refused
abbrev pub onward : {A B : Type 0} → Reading A → (A → ℕ → Reading B) → Reading B
onward (refused n place) next = refused n place
onward (found a at) next = next a at

abbrev pub ◌>>=◌ : {A B : Type 0} → Reader A → (A → Reader B) → Reader B
◌>>=◌ m f = λ bytes at. onward (m bytes at) (λ a behind. f a bytes behind)

abbrev pub ◌>>◌ : {B : Type 0} → Reader (Unit {0}) → Reader B → Reader B
◌>>◌ m k = λ bytes at. onward (m bytes at) (λ _ behind. k bytes behind)

-- a value, with nothing read
abbrev pub give : {A : Type 0} → A → Reader A
give a = λ bytes at. found a at

-- a field of w bits; 2 where the record ends before it is whole
unfoldable pub read : ℕ → Reader ℕ
read w = λ bytes at. if leb (at + w) (8 * length bytes) then found (number_at bytes at w) (at + w) else refused record_ends 0

-- a refusal where the test holds
unfoldable pub refuse : ℕ → ℕ → Bool → Reader (Unit {0})
refuse n place test = λ bytes at. if test then refused n place else found tt at

-- n fields of w bits
unfoldable pub read_row : ℕ → ℕ → Reader (List ℕ)
read_row w zero = give []
read_row w (suc n) = do
  value ← read w
  rest ← read_row w n
  give (value ∷ rest)

-- a code is refused by a rule on the history before it, at a place that history and code tell
abbrev pub check_code : (List ℕ → ℕ → ℕ) → (List ℕ → ℕ → ℕ) → List ℕ → ℕ → Reader (Unit {0})
check_code place rule h code = refuse (rule h code) (place h code) (not (eqb (rule h code) accepted))

-- n codes of w bits, each checked on the history before it; the whole history, latest first
unfoldable pub read_each : ℕ → (List ℕ → ℕ → ℕ) → (List ℕ → ℕ → ℕ) → ℕ → List ℕ → Reader (List ℕ)
read_each w place rule zero h = give h
read_each w place rule (suc n) h = do
  code ← read w
  check_code place rule h code
  read_each w place rule n (code ∷ h)

-- a padding bit is 1, or a byte follows
unfoldable pub overfull : List ℕ → ℕ → Bool
overfull bytes at = leb 8 (8 * length bytes - at) || not (eqb (number_at bytes at (8 * length bytes - at)) 0)

-- nothing is left but padding
unfoldable pub ending : Reader (Unit {0})
ending = λ bytes at. refuse not_padding 0 (overfull bytes at) bytes at

-- Decimal numbers as text, printed and read. A text is a list of bytes, each the ASCII code of its character.
-- Assumes nothing.
use Rattle.std.specs.Prelude.{ℕ, zero, suc, ◌+◌, ◌-◌, ◌*◌, ◌/◌, ◌%◌, Bool, true, false, ◌&&◌, List, [], ◌∷◌, ◌++◌, ltb, leb, eqb, ℤ, pos, negsuc, length, if◌then◌else◌}

-- `0`, the first of ten digits in a row
abbrev pub zero_digit : ℕ
zero_digit = 48

-- the digit of a number below 10
abbrev pub digit : ℕ → ℕ
digit n = zero_digit + n

-- `-`
abbrev pub minus : ℕ
minus = 45

-- a text starts with a byte
unfoldable pub starts_with : ℕ → List ℕ → Bool
starts_with byte [] = false
starts_with byte (b ∷ bytes) = eqb b byte

-- ---- printed
-- the last digits of a number, at most so many, without leading zeros
unfoldable pub last_digits : ℕ → ℕ → List ℕ
last_digits zero n = []
last_digits (suc most) n =
    if ltb n 10 then (digit n ∷ [])
    else last_digits most (n / 10) ++ (digit (n % 10) ∷ [])

-- a number in decimal, without leading zeros. It has no more digits than its successor counts.
unfoldable pub decimal : ℕ → List ℕ
decimal n = last_digits (suc n) n

-- an integer in decimal, with a minus where it is negative
unfoldable pub signed_decimal : ℤ → List ℕ
signed_decimal (pos n) = decimal n
signed_decimal (negsuc n) = minus ∷ decimal (suc n)

-- ---- read
-- a byte is a digit
abbrev pub is_digit : ℕ → Bool
is_digit b = leb zero_digit b && leb b (digit 9)

-- every byte is a digit
unfoldable pub all_digits : List ℕ → Bool
all_digits [] = true
all_digits (b ∷ bytes) = is_digit b && all_digits bytes

-- a text is a number: one to five digits, with or without leading zeros
unfoldable pub is_number : List ℕ → Bool
is_number bytes = leb 1 (length bytes) && (leb (length bytes) 5 && all_digits bytes)

-- the value of digits that follow a number: 4 and then `20` is 420
unfoldable pub value_after : ℕ → List ℕ → ℕ
value_after n [] = n
value_after n (b ∷ bytes) = value_after (10 * n + (b - zero_digit)) bytes

-- the value of digits
abbrev pub value : List ℕ → ℕ
value bytes = value_after 0 bytes

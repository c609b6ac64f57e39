-- What is found of the cards played, on the struct that the code keeps. A word of entries has the last entry lowest.
-- Assumes nothing.
use Rattle.std.specs.Prelude.{ℕ, ◌+◌, ◌*◌, ◌/◌, ◌%◌, ◌^◌, Bool, ◌&&◌, List, [], ◌∷◌, ltb, get_or, if◌then◌else◌}
use Rattle.play.specs.Words.{bit_of, with_bit}
use Rattle.found.specs.declared.found.Found.{Found}

-- before the first card
unfoldable pub none_found : Found
none_found = record { leads = 0; excused = 0; named = 0; failures = 0; failed = 0 ∷ 0 ∷ 0 ∷ 0 ∷ 0 ∷ [] }

-- what is told of a lead: 4 + the suit required where it is a revoke against a requirement, else 0
unfoldable pub named_by : Bool → ℕ → ℕ
named_by revoke required = if revoke && ltb required 4 then 4 + required else 0

-- with a card that is a revoke or not, a lead or not, and by a seat that is excused or not
unfoldable pub with_revoke : Found → Bool → Bool → Bool → Found
with_revoke f lead revoke excused =
    record {
      leads = with_bit f.leads (bit_of (lead && revoke));
      excused = with_bit f.excused (bit_of (revoke && excused));
      named = f.named;
      failures = f.failures;
      failed = f.failed;
    }

-- with a lead, where the card is one
unfoldable pub with_lead : Found → Bool → Bool → ℕ → Found
with_lead f lead revoke required =
    record {
      leads = f.leads;
      excused = f.excused;
      named = if lead then f.named % 2 ^ 60 * 8 + named_by revoke required else f.named;
      failures = f.failures;
      failed = f.failed;
    }

-- a word of five entries with one more, lowest; the entry that it loses stands in the next word
unfoldable pub push_word : ℕ → ℕ → ℕ
push_word word entry = word % 2 ^ 48 * 4096 + entry % 4096

-- the entry that a full word loses
unfoldable pub last_of : ℕ → ℕ
last_of word = word / 2 ^ 48

-- the five words with one entry more, lowest
unfoldable pub pushed : List ℕ → ℕ → List ℕ
pushed words entry =
    push_word (get_or words 0 0) entry
    ∷ push_word (get_or words 1 0) (last_of (get_or words 0 0))
    ∷ push_word (get_or words 2 0) (last_of (get_or words 1 0))
    ∷ push_word (get_or words 3 0) (last_of (get_or words 2 0))
    ∷ push_word (get_or words 4 0) (last_of (get_or words 3 0))
    ∷ []

-- with a play against Law 50
unfoldable pub with_failure : Found → ℕ → Found
with_failure f entry =
    record {
      leads = f.leads;
      excused = f.excused;
      named = f.named;
      failures = f.failures % 64 + 1;
      failed = pushed f.failed entry;
    }

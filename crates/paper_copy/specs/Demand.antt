-- Demand 3 of the mission, as far as it speaks of the copy itself. Each statement is a type; the law that proves it has
-- its name in small letters (proofs/Demand, Made and Unchanged).
--
--   "Its canonical copy, made in a buffer long enough, is accepted, answers every such question with the same values
--   and words at the same places, and is its own copy. Two accepted entries have the same copy exactly when they have
--   the same number fields, equal bytes outside them, blanks in the same ones, and equal decimals in the rest."
use Rattle.std.specs.Prelude.{ℕ, ◌+◌, ◌/◌, ◌%◌, ◌<◌, ◌≤◌, ◌≡◌, ◌↔◌, Bool, true, false, List, length, take, drop, get_or}
use Rattle.laws.specs.Copies.{marks}
use Rattle.paper_number.specs.declared.types.Decimal.{Decimal}
use Rattle.paper_number.specs.declared.types.Reading.{Reading}
use Rattle.paper_number.specs.declared.types.Reading.TheVariants.{Blank, Number}
use Rattle.paper_number.specs.Reading.{read_field}
use Rattle.paper_rules.specs.State.{Context, start_context}
use Rattle.paper_entry.specs.Judging.{role_of, turn_of, judge_of, Accepted}
use Rattle.paper_entry.specs.Answer.{answer_of}
use Rattle.paper_copy.specs.Call.{copied, stored_copy}
use Rattle.paper_copy.specs.Copy.{records_in, number_field, field_in, copy_of}

-- how two answers about a value are compared: in all that they say
abbrev pub Alike : Reading → Reading → Type 0
Alike a b = a ≡ b

-- two fields of one place: alike where they are number fields, equal where they are not
abbrev pub AlikeField : Bool → List ℕ → List ℕ → Type 0
AlikeField true f g = Alike (read_field f) (read_field g)
AlikeField false f g = f ≡ g

-- ---- "Its canonical copy, made in a buffer long enough": the call says 0 and stores it; bytes behind it stay

abbrev pub CopyMade : Type 0
CopyMade =
    (s out : List ℕ) → Accepted s → length s ≤ length out
    → (copied s (length out) ≡ answer_of 0)
    × (take (length s) (stored_copy s out) ≡ copy_of s)
    × (drop (length s) (stored_copy s out) ≡ drop (length s) out)

-- ---- "is accepted": with the same totals, since the verdict is the same

abbrev pub CopyAccepted : Type 0
CopyAccepted = (s : List ℕ) → Accepted s → judge_of (copy_of s) ≡ judge_of s

-- ---- "with the same values and words at the same places"

-- the same number fields, and each field of the entry reads alike
abbrev pub CopyFields : Type 0
CopyFields = (s : List ℕ) → Accepted s → (i k : ℕ) → number_field (copy_of s) i k ≡ number_field s i k

abbrev pub CopyReads : Type 0
CopyReads =
    (s : List ℕ) → Accepted s → (i k : ℕ) → Alike (read_field (field_in (copy_of s) i k)) (read_field (field_in s i k))

-- the byte p stands in a number field
abbrev pub in_number : List ℕ → ℕ → Bool
in_number s p = number_field s (p / 81) (p % 81 / 11)

-- a part that has no byte of a number field is equal
abbrev pub CopyPart : Type 0
CopyPart =
    (s : List ℕ) → Accepted s → (at n : ℕ) → at + n ≤ length s
    → ((p : ℕ) → at ≤ p → p < at + n → in_number s p ≡ false)
    → take n (drop at (copy_of s)) ≡ take n (drop at s)

-- each record has the same role, in the same context
abbrev pub contexts : List ℕ → List Context
contexts s = marks turn_of (λ c r. c) start_context 0 (records_in s)

abbrev pub roles : List ℕ → List ℕ
roles s = marks turn_of role_of start_context 0 (records_in s)

abbrev pub CopyContexts : Type 0
CopyContexts = (s : List ℕ) → Accepted s → contexts (copy_of s) ≡ contexts s

abbrev pub CopyRoles : Type 0
CopyRoles = (s : List ℕ) → Accepted s → roles (copy_of s) ≡ roles s

-- ---- "and is its own copy"

abbrev pub CopyAgain : Type 0
CopyAgain = (s : List ℕ) → Accepted s → copy_of (copy_of s) ≡ copy_of s

-- ---- "Two accepted entries have the same copy exactly when they have [..]"

pub record SameNumbers (s t : List ℕ) : Type 0 where
  -- "the same number fields"
  pub fields : (i k : ℕ) → number_field s i k ≡ number_field t i k
  -- "equal bytes outside them", and so as many
  pub long : length s ≡ length t
  pub outside : (p : ℕ) → p < length s → in_number s p ≡ false → get_or s p 0 ≡ get_or t p 0
  -- "blanks in the same ones"
  pub blanks : (i k : ℕ) → number_field s i k ≡ true
      → (read_field (field_in s i k) ≡ Blank) ↔ (read_field (field_in t i k) ≡ Blank)
  -- "and equal decimals in the rest"
  pub decimals : (i k : ℕ) → number_field s i k ≡ true → (v w : Decimal)
      → read_field (field_in s i k) ≡ Number v → read_field (field_in t i k) ≡ Number w → v ≡ w

abbrev pub OneCopy : Type 0
OneCopy = (s t : List ℕ) → Accepted s → Accepted t → (copy_of s ≡ copy_of t) ↔ SameNumbers s t

-- What holds of every record, and the system records' identifiers and counts (document 01, "Record, line and field" and
-- "Nesting and counts").
use Rattle.std.specs.Prelude.{ℕ, ◌+◌, ◌<◌, ◌≡◌, true, List, [], ◌∷◌, ◌++◌, length, get_or}
use Rattle.laws.specs.Walk.{All}
use Rattle.paper_record.specs.Columns.{has_line_feed}
use Rattle.paper_record.specs.Class.{is_permitted}
use Rattle.paper_record.specs.Fields.{field_at}
use Rattle.paper_record.specs.Identifier.{identifier_of}
use Rattle.paper_record.specs.Expected.{identification_of, sequence_of, in_digits}
use Rattle.paper_record.specs.Same.{SameColumns}
use Rattle.paper_record.specs.Plain.{CountSays}
use Rattle.good.specs.Parts.{Record}

-- ---- every record

-- "A record is 80 columns and one line feed (81 bytes)."; "Permitted characters ..", in columns 1 to 80;
-- "67-71 accession, 72-74 subentry, 75-79 sequence"
pub record Marked (identification : List ℕ) (sequence : ℕ) (r : Record) : Type 0 where
  pub whole : length r ≡ 81
  pub line_feed : has_line_feed r ≡ true
  pub permitted : (i : ℕ) → i < 80 → is_permitted (get_or r i 0) ≡ true
  pub identified : SameColumns 8 (identification_of r) identification
  pub sequenced : SameColumns 5 (sequence_of r) (in_digits 5 sequence)

-- "one more on each following record": records in order, the first with this sequence
unfoldable pub Following : List ℕ → ℕ → List Record → Type 0
Following identification n [] = Unit
Following identification n (r ∷ rs) = Marked identification n r × Following identification (n + 1) rs

-- ---- system records

-- "one fills columns 1-11, blanks behind"
abbrev pub name_of : Record → ℕ
name_of r = identifier_of (field_at r 0)

-- "A count is blanks, then digits up to the last column.": the field, eleven columns, says this number
abbrev pub CountIs : List ℕ → ℕ → Type 0
CountIs f n = CountSays 11 f n

-- ---- lists in which nothing occurs twice

-- no member is the same as one before it, nor as one of `before`
unfoldable pub Once : {A : Type 0} → (A → A → Type 0) → List A → List A → Type 0
Once Same before [] = Unit
Once Same before (x ∷ xs) = All (λ y. Same x y → ⊥) before × Once Same (before ++ (x ∷ [])) xs

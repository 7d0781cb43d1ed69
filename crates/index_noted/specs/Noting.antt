-- What a record leaves in the rows of an index.
use Rattle.std.specs.Prelude.{ℕ, ◌-◌, ◌*◌, ◌≤◌, ◌≡◌, Bool, true, cond, ◌||◌, List, length}
use Rattle.std.proofs.Math.Seq.{paste}
use Rattle.paper_record.specs.declared.types.RecordNo.{RecordNo}
use Rattle.paper_rules.specs.Roles.{opens_subentry, opens_section}
use Rattle.paper_questions.specs.declared.types.Row.{Row}
use Rattle.paper_questions.specs.Row.{empty_row, noted_in}
use Rattle.paper_index.specs.Rows.{row_numbers}

-- only these change a row
abbrev pub is_noted : ℕ → Bool
is_noted role = opens_section role || opens_subentry role

-- SUBENT and NOSUBENT with a number begin its row
abbrev pub row_begun : Row → ℕ → ℕ → Row
row_begun x number role = cond (opens_subentry role) (empty_row number) x

-- the row in hand behind a record of the subentry with a number
unfoldable pub row_behind : Row → ℕ → ℕ → RecordNo → Row
row_behind x number role at = cond (is_noted role) (noted_in (row_begun x number role) number role at) x

-- that row stored, the last of so many
unfoldable pub stored_behind : List ℕ → ℕ → Row → ℕ → List ℕ
stored_behind t rows x role = cond (is_noted role) (paste t ((rows - 1) * 5) (row_numbers x) 5) t

-- there is room for it
pub record RoomBehind (t : List ℕ) (rows role : ℕ) : Type 0 where
  pub some : is_noted role ≡ true → 1 ≤ rows
  pub fits : is_noted role ≡ true → rows * 5 ≤ length t

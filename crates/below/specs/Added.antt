-- A record behind an accepted entry (document 02, M-111):
--
--   "For an accepted entry, adding a whole record at the end gives a refusal at that added record, as long as 20,000 is
--   not passed."
use Rattle.std.specs.Prelude.{ℕ, ◌+◌, ◌*◌, ◌/◌, ◌<◌, ◌≤◌, ◌≡◌, true, false, List, ◌++◌, length, get_or, take}
use Rattle.paper_record.specs.Columns.{has_line_feed}
use Rattle.paper_record.specs.Class.{is_permitted}
use Rattle.paper_rules.specs.Limits.{MOST-RECORDS}
use Rattle.paper_entry.specs.Verdict.{refused}
use Rattle.paper_entry.specs.Judging.{judge_of, Accepted}
use Rattle.below.specs.Below.{RecordsWhole}

-- the first n characters of a record are permitted
abbrev pub FirstPermitted : List ℕ → ℕ → Type 0
FirstPermitted r n = (i : ℕ) → i < n → is_permitted (get_or r i 0) ≡ true

-- number and column of a record's refusal where nothing is due
pub data BehindEnd (r : List ℕ) : ℕ → ℕ → Type 0 where
  -- "byte 81 not a line feed | 81"
  no_line_feed : has_line_feed r ≡ false → BehindEnd r 2 81
  -- "character not permitted | that one"
  not-permitted : (i : ℕ) → has_line_feed r ≡ true → i < 80 → is_permitted (get_or r i 0) ≡ false → FirstPermitted r i
      → BehindEnd r 3 (i + 1)
  -- "anything after ENDENTRY | 1"
  nothing_due : has_line_feed r ≡ true → FirstPermitted r 80 → BehindEnd r 4 1

-- they go by the record alone: there is one number with one column
abbrev pub OneBehind : Type 0
OneBehind = (r : List ℕ) (n k m j : ℕ) → BehindEnd r n k → BehindEnd r m j → (n ≡ m) × (k ≡ j)

-- what is added behind s is refused at its first record, by 2, 3 or 4
pub record RefusedBehind (s x : List ℕ) : Type 0 where
  pub number : ℕ
  pub column : ℕ
  pub from : 2 ≤ number
  pub to : number ≤ 4
  pub said : BehindEnd (take 81 x) number column
  pub verdict : judge_of (s ++ x) ≡ refused number (record { 0 = length s / 81 + 1 }) column

abbrev pub AddedRefused : Type 0
AddedRefused =
    (s r : List ℕ) → Accepted s → length r ≡ 81 → length s + 81 ≤ MOST-RECORDS * 81 → RefusedBehind s r

-- so is anything that is added, of which the rest plays no part
abbrev pub AnythingAdded : Type 0
AnythingAdded = (s x : List ℕ) → Accepted s → 0 < length x → RecordsWhole (length (s ++ x)) → RefusedBehind s x

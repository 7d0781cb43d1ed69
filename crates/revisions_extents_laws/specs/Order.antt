-- Where the subentries of an accepted entry stand: behind ENTRY and before ENDENTRY, in number order, one behind the other
-- with nothing between them.
use Rattle.std.specs.Prelude.{ℕ, ◌+◌, ◌-◌, ◌*◌, ◌<◌, ◌≤◌, ◌≡◌, true, cond, List, [], ◌++◌, ltb, take, drop}
use Rattle.laws.specs.Blocks.{block_at}
use Rattle.laws.specs.Members.{join_of}
use Rattle.paper_rules.specs.Limits.{LAST-SUBENTRY}
use Rattle.paper_entry.specs.Judging.{Accepted}
use Rattle.paper_revisions.specs.Extents.{records_of, subentry_at, past_from, extent_of, has, bytes_of}

-- ENTRY, the index 0, and ENDENTRY, the last, are in none
abbrev pub ExtentInner : Type 0
ExtentInner =
    (s : List ℕ) → Accepted s → (n : ℕ) → has s n ≡ true
    → (1 ≤ (extent_of s n).from) × ((extent_of s n).past + 1 ≤ records_of s)

-- "Later numbers rise strictly"
abbrev pub ExtentsInOrder : Type 0
ExtentsInOrder =
    (s : List ℕ) → Accepted s → (m n : ℕ) → has s m ≡ true → has s n ≡ true → m < n
    → (extent_of s m).past ≤ (extent_of s n).from

-- ---- from number to number

-- the records before the index p say less than n, those from it on at least n
pub record Cursor (s : List ℕ) (n p : ℕ) : Type 0 where
  pub upto : p ≤ records_of s
  pub before : (i : ℕ) → i < p → subentry_at s i < n
  pub behind : (i : ℕ) → p ≤ i → i < records_of s → n ≤ subentry_at s i

abbrev pub CursorStarts : Type 0
CursorStarts = (s : List ℕ) → Accepted s → Cursor s 1 1

-- it goes behind the records from it on that say n
abbrev pub CursorMoves : Type 0
CursorMoves = (s : List ℕ) → Accepted s → (n p : ℕ) → Cursor s n p → Cursor s (n + 1) (past_from s n p)

abbrev pub CursorEnds : Type 0
CursorEnds = (s : List ℕ) → Accepted s → (p : ℕ) → Cursor s 999 p → p + 1 ≡ records_of s

-- what it has met is the subentry n
pub record Met (s : List ℕ) (n p : ℕ) : Type 0 where
  pub there : has s n ≡ ltb p (past_from s n p)
  pub from : has s n ≡ true → (extent_of s n).from ≡ p
  pub past : has s n ≡ true → (extent_of s n).past ≡ past_from s n p

abbrev pub CursorMeets : Type 0
CursorMeets =
    (s : List ℕ) → Accepted s → (n p : ℕ) → 1 ≤ n → n ≤ LAST-SUBENTRY → Cursor s n p → Met s n p

-- ---- all of them

-- the subentry n, nothing where there is none
abbrev pub part_in : List ℕ → ℕ → List ℕ
part_in s n = cond (has s n) (bytes_of s (extent_of s n)) []

-- the k numbers from n on, between their cursors
abbrev pub RunCovered : Type 0
RunCovered =
    (s : List ℕ) → Accepted s → (n k p q : ℕ) → 1 ≤ n → n + k ≤ 999 → Cursor s n p → Cursor s (n + k) q
    → join_of (part_in s) n k ≡ take ((q - p) * 81) (drop (p * 81) s)

abbrev pub AllCovered : Type 0
AllCovered =
    (s : List ℕ) → Accepted s
    → join_of (part_in s) 1 LAST-SUBENTRY ≡ take ((records_of s - 2) * 81) (drop 81 s)

-- so an entry is ENTRY, its subentries by their numbers, ENDENTRY
abbrev pub EntryWhole : Type 0
EntryWhole =
    (s : List ℕ) → Accepted s
    → s ≡ block_at 81 s 0 ++ (join_of (part_in s) 1 LAST-SUBENTRY ++ block_at 81 s (records_of s - 1))

-- The totals of a good entry, as sums over its parts (document 01, "Refusal numbers and their order"):
--
--   "four totals: subentries (NOSUBENT included), keywords, DATA lines, non-blank numbers"
use Rattle.std.specs.Prelude.{ℕ, ◌+◌, List, [], ◌∷◌, length}
use Rattle.paper_rules.specs.declared.types.Totals.{Totals}
use Rattle.good.specs.Parts.{Record, Bib, Table, Section, present, absent, Subentry, nosubent, subent, Entry}
use Rattle.good.specs.Tables.{columns_of, numbers_in_line}
use Rattle.good.specs.Good.{subentries_of}

abbrev pub keywords_in : Section Bib → ℕ
keywords_in (present b) = length b.keywords
keywords_in (absent r) = 0

abbrev pub lines_in : Section Table → ℕ
lines_in (present t) = length t.lines
lines_in (absent r) = 0

unfoldable pub numbers_of_lines : ℕ → List (List Record) → ℕ
numbers_of_lines n [] = 0
numbers_of_lines n (row ∷ rows) = numbers_in_line n row + numbers_of_lines n rows

abbrev pub numbers_of : Section Table → ℕ
numbers_of (present t) = numbers_of_lines (columns_of t) t.lines
numbers_of (absent r) = 0

-- a total of each subentry, added up
unfoldable pub sum_of : (Subentry → ℕ) → List Subentry → ℕ
sum_of total [] = 0
sum_of total (s ∷ ss) = total s + sum_of total ss

abbrev pub keywords_of_subentry : Subentry → ℕ
keywords_of_subentry (nosubent r) = 0
keywords_of_subentry (subent s) = keywords_in s.bib

abbrev pub lines_of_subentry : Subentry → ℕ
lines_of_subentry (nosubent r) = 0
lines_of_subentry (subent s) = lines_in s.values

abbrev pub numbers_of_subentry : Subentry → ℕ
numbers_of_subentry (nosubent r) = 0
numbers_of_subentry (subent s) = numbers_of s.common + numbers_of s.values

abbrev pub keywords_of : Entry → ℕ
keywords_of e = keywords_in e.first.bib + sum_of keywords_of_subentry e.later

abbrev pub lines_of : Entry → ℕ
lines_of e = sum_of lines_of_subentry e.later

-- filled values of COMMON and DATA
abbrev pub numbers_of_entry : Entry → ℕ
numbers_of_entry e = numbers_of e.first.common + sum_of numbers_of_subentry e.later

abbrev pub totals_of : Entry → Totals
totals_of e =
    record { subentries = subentries_of e; keywords = keywords_of e; lines = lines_of e; numbers = numbers_of_entry e }

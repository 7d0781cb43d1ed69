-- A good entry, and the bytes of a good entry (document 01).
use Rattle.std.specs.Prelude.{ℕ, ◌+◌, ◌≤◌, ◌≡◌, List, length}
use Rattle.laws.specs.Walk.{All}
use Rattle.laws.specs.Blocks.{joined}
use Rattle.paper_record.specs.Fields.{fields_of, n1, n2}
use Rattle.paper_record.specs.Identifier.{ENTRY, ENDENTRY}
use Rattle.paper_record.specs.Plain.{Date, EntryN1}
use Rattle.paper_record.specs.Expected.{accession_of, identification_for, entry_accession}
use Rattle.paper_rules.specs.Limits.{MOST-RECORDS}
use Rattle.good.specs.Parts.{Record, Entry, records_of}
use Rattle.good.specs.Marks.{Marked, name_of, CountIs}
use Rattle.good.specs.Subentries.{GoodFirst, GoodSubentry, NumbersRise}

-- ---- a good entry

-- "ENTRY | 6 blanks, accession (capital or digit, then 4 digits) | date"; "subentry 000 on ENTRY"; "Sequence 00001"
pub record GoodOpening (r : Record) : Type 0 where
  pub named : name_of r ≡ ENTRY
  pub numbered : EntryN1 (n1 (fields_of r))
  pub dated : Date (n2 (fields_of r))
  pub marked : Marked (identification_for (entry_accession (n1 (fields_of r))) 0) 1 r

-- "ENDENTRY | subentries, NOSUBENT included"; "999 on ENDENTRY"; "99999 on .. ENDENTRY"
pub record GoodEnding (accession : List ℕ) (subentries : ℕ) (r : Record) : Type 0 where
  pub named : name_of r ≡ ENDENTRY
  pub counted : CountIs (n1 (fields_of r)) subentries
  pub marked : Marked (identification_for accession 999) 99999 r

-- SUBENTs and NOSUBENTs
abbrev pub subentries_of : Entry → ℕ
subentries_of e = 1 + length e.later

pub record GoodEntry (e : Entry) : Type 0 where
  pub opening : GoodOpening e.opening
  pub first : GoodFirst (accession_of e.opening) e.first
  pub later : All (GoodSubentry (accession_of e.opening) e.first) e.later
  pub rising : NumbersRise 1 e.later
  pub ending : GoodEnding (accession_of e.opening) (subentries_of e) e.ending

-- "An entry is 1 to 20,000 records.": the bytes of its records, one behind the other
pub record GoodBytes (s : List ℕ) : Type 0 where
  pub entry : Entry
  pub good : GoodEntry entry
  pub same : s ≡ joined (records_of entry)
  pub most : length (records_of entry) ≤ MOST-RECORDS

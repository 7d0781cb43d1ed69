-- TRANS and ENDTRANS in the paper's own words (document 02, M-100), of columns only:
--
--   "TRANS carries seven blanks, a file identifier of four capitals or digits in columns 19-22 (004 prints five places;
--   four decides), and a date like ENTRY's; ENDTRANS carries the number of entries in N1. Their columns 67-79 are judged
--   only as characters."
--
-- That the rules find nothing on such a record, and on no other, is stated at the end.
use Rattle.std.specs.Prelude.{ℕ, ◌+◌, ◌<◌, ◌≤◌, ◌≡◌, true, ◌↔◌, List, length, get_or}
use Rattle.paper_record.specs.Columns.{has_line_feed}
use Rattle.paper_record.specs.Fields.{field_at}
use Rattle.paper_record.specs.Class.{is_permitted}
use Rattle.paper_record.specs.Identifier.{TRANS, ENDTRANS}
use Rattle.paper_record.specs.PlainNames.{Named}
use Rattle.paper_record.specs.Plain.{BlankColumns, CapitalOrDigit, Date, CountSays}
use Rattle.files_shape.specs.Shape.{GoodOutside}

-- 81 bytes, the last a line feed, the others permitted; its columns 1-11 are the name
pub record Outer (name : ℕ) (r : List ℕ) : Type 0 where
  pub whole : length r ≡ 81
  pub line_feed : has_line_feed r ≡ true
  pub permitted : (i : ℕ) → i < 80 → is_permitted (get_or r i 0) ≡ true
  pub named : Named (field_at r 0) name

-- "seven blanks, a file identifier of four capitals or digits in columns 19-22": N1 begins with column 12
pub record TransN1 (f : List ℕ) : Type 0 where
  pub blank : BlankColumns 7 f
  pub identifier : (i : ℕ) → i < 4 → CapitalOrDigit (get_or f (7 + i) 0)

pub record GoodTrans (r : List ℕ) : Type 0 where
  pub outer : Outer TRANS r
  pub numbered : TransN1 (field_at r 1)
  pub dated : Date (field_at r 2)

pub record GoodEndtrans (entries : ℕ) (r : List ℕ) : Type 0 where
  pub outer : Outer ENDTRANS r
  pub counted : CountSays 11 (field_at r 1) entries

abbrev pub TransExactly : Type 0
TransExactly = (entries : ℕ) (r : List ℕ) → GoodOutside TRANS entries r ↔ GoodTrans r

abbrev pub EndtransExactly : Type 0
EndtransExactly = (entries : ℕ) (r : List ℕ) → GoodOutside ENDTRANS entries r ↔ GoodEndtrans entries r

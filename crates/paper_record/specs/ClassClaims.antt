-- What is claimed of the characters (document 01, "Record, line and field"). Each type is that of a law in
-- proofs/ClassTable, under the law's name.
use Rattle.std.specs.Prelude.{ℕ, ◌<◌, ◌≡◌, not, eqb, get_or}
use Rattle.paper_record.specs.Class.{is_permitted, class_of, class_table}

-- "The class of each of the 256 byte values is kept in one table"
abbrev pub ClassAt : Type 0
ClassAt = (k : ℕ) → k < 256 → get_or class_table k 0 ≡ class_of k

-- "0 not permitted", and no other class is
abbrev pub PermittedClass : Type 0
PermittedClass = (b : ℕ) → is_permitted b ≡ not (eqb (class_of b) 0)

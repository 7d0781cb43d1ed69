-- What a file is, with no machine in it (document 02, M-100):
--
--   "A file is TRANS, one or more entries, ENDTRANS (document 004, 2.2) [..] A file may have 200,000 records, an entry
--   still 20,000. [..] totals over the file. Demands 2 and 3 hold entry by entry".
--
-- Its entries are accepted ones, so what is proved of an accepted entry holds of each.
use Rattle.std.specs.Prelude.{ℕ, ◌*◌, ◌≤◌, ◌≡◌, List, [], ◌∷◌, ◌++◌, length}
use Rattle.laws.specs.Walk.{All}
use Rattle.laws.specs.Blocks.{joined}
use Rattle.paper_record.specs.Fields.{fields_of}
use Rattle.paper_record.specs.Identifier.{TRANS, ENDTRANS}
use Rattle.paper_rules.specs.declared.types.Totals.{Totals}
use Rattle.paper_rules.specs.State.{no_totals}
use Rattle.paper_faults.specs.Least.{Nothing}
use Rattle.paper_entry.specs.Judging.{judge_of, Accepted}
use Rattle.paper_files.specs.Outside.{outside_findings}
use Rattle.paper_files.specs.File.{MOST-IN-FILE, name_of, added}

-- TRANS or ENDTRANS, with so many entries before it: a record with that name on which the rules find nothing
pub record GoodOutside (name entries : ℕ) (r : List ℕ) : Type 0 where
  pub whole : length r ≡ 81
  pub named : name_of r ≡ name
  pub nothing : Nothing (outside_findings entries name (fields_of r) r)

-- "totals over the file"
unfoldable pub totals_of : List (List ℕ) → Totals
totals_of [] = no_totals
totals_of (e ∷ es) = added (judge_of e).totals (totals_of es)

-- TRANS, and entries one behind the other, with `rest` behind them
pub record Begun (s : List ℕ) (entries : List (List ℕ)) (rest : List ℕ) : Type 0 where
  pub opening : List ℕ
  pub same : s ≡ opening ++ (joined entries ++ rest)
  pub opens : GoodOutside TRANS 0 opening
  pub each : All Accepted entries

-- "A file is TRANS, one or more entries, ENDTRANS": ENDTRANS is all that stands behind the entries, and tells how many
-- they are
pub record FileOf (s : List ℕ) (entries : List (List ℕ)) : Type 0 where
  pub ending : List ℕ
  pub begun : Begun s entries ending
  pub some : 1 ≤ length entries
  pub ends : GoodOutside ENDTRANS (length entries) ending
  pub most : length s ≤ MOST-IN-FILE * 81

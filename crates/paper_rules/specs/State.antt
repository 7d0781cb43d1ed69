-- Where judging stands between two records: a phase of the nesting, a track of plain numbers, and the parts of the
-- entry that a rule may look back at. No rule sees anything else of what stands before its record. What the code keeps
-- in place of the parts is in `Ranging`.
use Rattle.std.specs.Prelude.{Bool, true, cond, List, [], ℕ, ◌+◌, leb, replicate}
use Rattle.paper_rules.specs.declared.types.Phase.{Phase}
use Rattle.paper_rules.specs.declared.types.Phase.TheVariants.{Start}
use Rattle.paper_rules.specs.declared.types.Totals.{Totals}
use Rattle.paper_rules.specs.declared.types.Subentry.{Subentry}
use Rattle.paper_rules.specs.declared.types.Bib.{Bib}
use Rattle.paper_rules.specs.declared.types.Table.{Table}
use Rattle.paper_rules.specs.declared.types.Track.{Track}

-- ---- the context of a record

-- what a rule may look back at, each part as the bytes of its records
pub record Seen : Type 0 where
  -- the text records of this subentry's BIB so far
  pub bib : List ℕ
  -- of them those under the keyword in hand, from the record with the keyword on
  pub under : List ℕ
  -- the text records of the BIB of 001, from the end of 001 on
  pub bib001 : List ℕ
  -- the heading records of the COMMON of 001, from the end of 001 on
  pub common001 : List ℕ
  -- the heading records of this subentry's COMMON, from its ENDCOMMON on
  pub common : List ℕ
  -- the heading records of the COMMON or DATA in hand so far
  pub table : List ℕ

-- where judging stands before a record
pub record Context : Type 0 where
  -- what is due: the place in the nesting
  pub phase : Phase
  -- what is counted and announced; each field is said in src/state.rt
  pub track : Track
  pub seen : Seen

-- the rows of a table: headings, units, and the lines
abbrev pub HEADINGS : ℕ
HEADINGS = 0

abbrev pub UNITS : ℕ
UNITS = 1

abbrev pub VALUES : ℕ
VALUES = 2

-- ---- the start: nothing counted, nothing seen

abbrev pub no_totals : Totals
no_totals = record { subentries = 0; keywords = 0; lines = 0; numbers = 0 }

abbrev pub start_track : Track
start_track =
    record {
      records = record { 0 = 0 };
      accession = replicate 5 32;
      totals = no_totals;
      subentry = record { number = 0; records = 0 };
      section = 0;
      bib = record { keywords = 0; records = 0; met = 0 };
      table = record {
        columns = 0;
        last = record { 0 = 0 };
        row = VALUES;
        line = record { 0 = 0 };
        rest = 0;
        blank = true;
      };
    }

abbrev pub start_context : Context
start_context =
    record {
      phase = Start;
      track = start_track;
      seen = record { bib = []; under = []; bib001 = []; common001 = []; common = []; table = [] };
    }

-- ---- a track with one group changed

abbrev pub with_accession : Track → List ℕ → Track
with_accession t x =
    record {
      records = t.records;
      accession = x;
      totals = t.totals;
      subentry = t.subentry;
      section = t.section;
      bib = t.bib;
      table = t.table;
    }

abbrev pub with_totals : Track → Totals → Track
with_totals t x =
    record {
      records = t.records;
      accession = t.accession;
      totals = x;
      subentry = t.subentry;
      section = t.section;
      bib = t.bib;
      table = t.table;
    }

abbrev pub with_subentry : Track → Subentry → Track
with_subentry t x =
    record {
      records = t.records;
      accession = t.accession;
      totals = t.totals;
      subentry = x;
      section = t.section;
      bib = t.bib;
      table = t.table;
    }

abbrev pub with_section : Track → ℕ → Track
with_section t x =
    record {
      records = t.records;
      accession = t.accession;
      totals = t.totals;
      subentry = t.subentry;
      section = x;
      bib = t.bib;
      table = t.table;
    }

abbrev pub with_bib : Track → Bib → Track
with_bib t x =
    record {
      records = t.records;
      accession = t.accession;
      totals = t.totals;
      subentry = t.subentry;
      section = t.section;
      bib = x;
      table = t.table;
    }

abbrev pub with_table : Track → Table → Track
with_table t x =
    record {
      records = t.records;
      accession = t.accession;
      totals = t.totals;
      subentry = t.subentry;
      section = t.section;
      bib = t.bib;
      table = x;
    }

-- the record in hand is counted: in the entry, behind SUBENT, behind the section's system record
abbrev pub counted : Track → Track
counted t =
    record {
      records = record { 0 = t.records.0 + 1 };
      accession = t.accession;
      totals = t.totals;
      subentry = record { number = t.subentry.number; records = t.subentry.records + 1 };
      section = t.section + 1;
      bib = t.bib;
      table = t.table;
    }

-- ---- a table's rows

-- the fields that are used in the record in hand: six, or what is left of the columns
unfoldable pub used : Track → ℕ
used t = cond (leb t.table.rest 6) t.table.rest 6

-- the record in hand is the last of its row
abbrev pub row_ends : Track → Bool
row_ends t = leb t.table.rest 6

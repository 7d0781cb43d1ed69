-- COMMON and DATA sections under one name: their identifiers and limits, and the pieces of a good one. Of DATA where
-- the Boolean is true, else of COMMON. Assumes nothing.
use Prim.Native.Nat.{ℕ, ◌+◌, ◌*◌, ◌≤◌}
use mathlib.Core.Path.{◌≡◌, refl, sym}
use mathlib.Core.Bool.{Bool, true, false}
use native.Mathlib.Omega.{arith}
use lib.Dec.{leb}
use lib.ListN.{length}
use borrow.Author.Tests.{leb-true, le-leb}
use Rattle.laws.proofs.Booleans.{and_left, and_right, differ}
use Rattle.paper_record.specs.Places.{records_for}
use Rattle.paper_record.specs.Fields.{fields_of, n2}
use Rattle.paper_record.specs.Identifier.{COMMON, NOCOMMON, DATA, NODATA}
use Rattle.paper_rules.specs.declared.types.Phase.{Phase}
use Rattle.paper_rules.specs.declared.types.Phase.TheVariants.{AfterCommon, AfterData}
use Rattle.paper_rules.specs.State.{Context}
use Rattle.paper_rules.specs.Limits.{MOST-COLUMNS, MOST-LINES}
use Rattle.paper_rules.specs.Every.{expected_identification, expected_sequence}
use Rattle.paper_rules.specs.Counts.{limit_n1, limit_n2, meets, true_count, keywords_true}
use Rattle.good.specs.Parts.{Record, Table, Section, present}
use Rattle.good.specs.Marks.{name_of, CountIs}
use Rattle.good.specs.Tables.{columns_of, GoodTable, GoodCommonPart, GoodDataPart}
use Rattle.good.proofs.Steps.{MarkedFor}
use Rattle.good.proofs.Marks.{says-as}
use Rattle.good.proofs.Systems.{Here, FreeRole, OpenRole, EndRole}
use Rattle.good.proofs.SystemRoles.{free-NOCOMMON, free-NODATA, open-COMMON, open-DATA, end-COMMON, end-DATA}
use Rattle.good.proofs.Rows.{end_for}
use Rattle.good.proofs.Lines.{LinesGood}
use Rattle.good.proofs.LineNumbers.{counted-lines, lines-counted}

-- ---- the two kinds

abbrev pub open_for : Bool → ℕ
open_for false = COMMON
open_for true = DATA

abbrev pub no_for : Bool → ℕ
no_for false = NOCOMMON
no_for true = NODATA

abbrev pub phase_behind : Bool → Phase
phase_behind false = AfterCommon
phase_behind true = AfterData

pub open-for : (d : Bool) → OpenRole (open_for d)
open-for false = open-COMMON
open-for true = open-DATA

pub free-for : (d : Bool) → FreeRole (no_for d)
free-for false = free-NOCOMMON
free-for true = free-NODATA

pub end-for : (d : Bool) → EndRole (end_for d)
end-for false = end-COMMON
end-for true = end-DATA

pub differ-for : (d : Bool) → open_for d ≡ no_for d → ⊥
differ-for false e = absurd (omega arith)
differ-for true e = absurd (omega arith)

pub end_marked : (d : Bool) (c : Context) (r : Record) → MarkedFor c (end_for d) r → Here c r
unfolding expected_identification expected_sequence
end_marked false c r m = m
end_marked true c r m = m

pub marked-end : (d : Bool) (c : Context) (r : Record) → Here c r → MarkedFor c (end_for d) r
unfolding expected_identification expected_sequence
marked-end false c r m = m
marked-end true c r m = m

pub section-count : (d : Bool) (c : Context) → true_count c.track (end_for d) ≡ c.track.section
unfolding true_count
section-count false c = refl
section-count true c = refl

pub no-keywords : (d : Bool) (c : Context) → keywords_true c.track (end_for d) ≡ true
no-keywords false c = refl
no-keywords true c = refl

-- the last line, and what N2 says
abbrev pub last_for : Bool → ℕ → ℕ
last_for false b = 1
last_for true b = b

pub record Limits (d : Bool) (a b : ℕ) : Type 0 where
  pub least : 1 ≤ a
  pub most : a ≤ MOST-COLUMNS
  pub common : d ≡ false → b ≡ 3 * records_for a
  pub data-least : d ≡ true → 1 ≤ b
  pub data-most : d ≡ true → b ≤ MOST-LINES

pub limits_of : (d : Bool) (a b : ℕ) → meets (limit_n1 (open_for d)) a ≡ true → meets (limit_n2 (open_for d) a) b ≡ true
    → Limits d a b
unfolding limit_n1 limit_n2
limits_of false a b h l =
    let k = 3 * records_for a in
    let x = leb-true k b (and_left (leb k b) (leb b k) l) in
    let y = leb-true b k (and_right (leb k b) (leb b k) l) in
    record {
      least = leb-true 1 a (and_left (leb 1 a) (leb a MOST-COLUMNS) h);
      most = leb-true a MOST-COLUMNS (and_right (leb 1 a) (leb a MOST-COLUMNS) h);
      common = λ e. omega arith;
      data-least = λ e. differ (sym e);
      data-most = λ e. differ (sym e);
    }
limits_of true a b h l =
    record {
      least = leb-true 1 a (and_left (leb 1 a) (leb a MOST-COLUMNS) h);
      most = leb-true a MOST-COLUMNS (and_right (leb 1 a) (leb a MOST-COLUMNS) h);
      common = λ e. differ e;
      data-least = λ e. leb-true 1 b (and_left (leb 1 b) (leb b MOST-LINES) l);
      data-most = λ e. leb-true b MOST-LINES (and_right (leb 1 b) (leb b MOST-LINES) l);
    }

pub of-limits : (d : Bool) (a b : ℕ) → Limits d a b
    → (meets (limit_n1 (open_for d)) a ≡ true) × (meets (limit_n2 (open_for d) a) b ≡ true)
unfolding limit_n1 limit_n2
of-limits false a b l =
    let e = l.common refl in (
      rw (le-leb 1 a l.least, le-leb a MOST-COLUMNS l.most),
      rw (le-leb (3 * records_for a) b (omega arith), le-leb b (3 * records_for a) (omega arith)),
    )
of-limits true a b l = (
  rw (le-leb 1 a l.least, le-leb a MOST-COLUMNS l.most),
  rw (le-leb 1 b (l.data-least refl), le-leb b MOST-LINES (l.data-most refl)),
)

-- ---- what a good section is, of either kind

abbrev pub GoodPart : Bool → Section Table → Type 0
GoodPart false part = GoodCommonPart part
GoodPart true part = GoodDataPart part

pub record Pieces (d : Bool) (t : Table) (b : ℕ) : Type 0 where
  pub opens : name_of t.opening ≡ open_for d
  pub table : GoodTable t
  pub second : CountIs (n2 (fields_of t.opening)) b
  pub limits : Limits d (columns_of t) b
  pub many : 1 + length t.lines ≡ last_for d b + 1
  pub lines : LinesGood d (columns_of t) t.lines
  pub ends : name_of t.ending ≡ end_for d

pub pieces-good : (d : Bool) (t : Table) (b : ℕ) → Pieces d t b → GoodPart d (present t)
pieces-good false t b p =
    record {
      opens = p.opens;
      table = p.table;
      one = let m = p.many in omega arith;
      records = says-as (n2 (fields_of t.opening)) b (3 * records_for (columns_of t)) p.second
          (p.limits.common refl);
      values = p.lines.0;
      ends = p.ends;
    }
pieces-good true t b p =
    let m : b ≡ length t.lines = (let x = p.many in omega arith) in
    let l = p.limits.data-least refl in
    let h = p.limits.data-most refl in
    record {
      opens = p.opens;
      table = p.table;
      lines = says-as (n2 (fields_of t.opening)) b (length t.lines) p.second m;
      least = rw m at l;
      most = rw m at h;
      values = p.lines.0;
      numbers = counted-lines (columns_of t) t.lines (p.lines.1 refl);
      ends = p.ends;
    }

abbrev pub second_for : Bool → Table → ℕ
second_for false t = 3 * records_for (columns_of t)
second_for true t = length t.lines

pub good-pieces : (d : Bool) (t : Table) → GoodPart d (present t) → Pieces d t (second_for d t)
good-pieces false t g =
    let o = g.one in
    record {
      opens = g.opens;
      table = g.table;
      second = g.records;
      limits = record {
        least = g.table.least;
        most = g.table.most;
        common = λ e. refl;
        data-least = λ e. differ (sym e);
        data-most = λ e. differ (sym e);
      };
      many = omega arith;
      lines = (g.values, λ e. differ (sym e));
      ends = g.ends;
    }
good-pieces true t g =
    record {
      opens = g.opens;
      table = g.table;
      second = g.lines;
      limits = record {
        least = g.table.least;
        most = g.table.most;
        common = λ e. differ e;
        data-least = λ e. g.least;
        data-most = λ e. g.most;
      };
      many = omega arith;
      lines = (g.values, λ e. lines-counted (columns_of t) t.lines g.numbers);
      ends = g.ends;
    }

-- A line is its fifteen parts.
-- Assumes nothing.
use Prim.Native.Nat.{ℕ}
use mathlib.Core.Path.{◌≡◌}
use mathlib.Core.List.{List}
use Rattle.paper_number.specs.Digits.{field_read}
use Rattle.paper_record.specs.System.{number_in}
use Rattle.paper_cinda.specs.declared.types.Line.{Line}
use Rattle.paper_cinda.specs.Layout.{column_of, energy_at}
use Rattle.paper_cinda.specs.Apart.{integer_at, mass_of, line_of}

-- each part is that of the bytes
pub record Parts (l : List ℕ) (x : Line) : Type 0 where
  pub operation : x.operation ≡ column_of l 1
  pub z : x.z ≡ integer_at l 2 3
  pub mass : x.mass ≡ mass_of l
  pub isomer : x.isomer ≡ column_of l 8
  pub area : x.area ≡ column_of l 34
  pub block : x.block ≡ integer_at l 35 3
  pub sequence : x.sequence ≡ integer_at l 38 2
  pub work : x.work ≡ column_of l 40
  pub reader : x.reader ≡ column_of l 41
  pub least : x.least ≡ field_read (energy_at l 42)
  pub greatest : x.greatest ≡ field_read (energy_at l 49)
  pub hierarchy : x.hierarchy ≡ column_of l 56
  pub kind : x.kind ≡ column_of l 57
  pub year : x.year ≡ number_in l 79 4
  pub month : x.month ≡ number_in l 83 2

pub all-parts : (l : List ℕ) (x : Line) → Parts l x → x ≡ line_of l
unfolding line_of
all-parts l x p =
    λ i.
    record {
      operation = p.operation i;
      z = p.z i;
      mass = p.mass i;
      isomer = p.isomer i;
      area = p.area i;
      block = p.block i;
      sequence = p.sequence i;
      work = p.work i;
      reader = p.reader i;
      least = p.least i;
      greatest = p.greatest i;
      hierarchy = p.hierarchy i;
      kind = p.kind i;
      year = p.year i;
      month = p.month i;
    }

-- A row of units. Assumes nothing.
use Prim.Native.Nat.{ℕ, ◌+◌, ◌-◌, ◌*◌, ◌<◌, ◌≤◌}
use mathlib.Core.Path.{◌≡◌, refl}
use mathlib.Core.Bool.{Bool, true, false}
use mathlib.Core.Logic.{◌↔◌}
use mathlib.Core.List.{List, [], ◌∷◌, ◌++◌}
use native.Mathlib.Omega.{arith}
use lib.ListN.{length}
use borrow.Author.Tests.{lt-ltb, le-ltb, not-false}
use lib.Dec.{eqb}
use Rattle.laws.specs.Walk.{All}
use Rattle.laws.proofs.Search.{either}
use Rattle.paper_record.specs.Places.{records_for}
use Rattle.paper_record.specs.Fields.{field_at, fields_of, in_field}
use Rattle.paper_record.specs.Word.{blank_to}
use Rattle.paper_record.specs.Faults.{is_unit_word, unit_fault}
use Rattle.paper_record.proofs.PlainColumns.{blank-exactly, unit-exactly}
use Rattle.paper_rules.specs.State.{Context, used}
use Rattle.paper_rules.specs.Roles.{NOT-DUE, is_unit as unit_role}
use Rattle.paper_rules.specs.Record.{field_column}
use Rattle.paper_rules.specs.Headings.{rule12_unit}
use Rattle.paper_faults.proofs.NoColumns.{where-none, none-where}
use Rattle.paper_rules.proofs.ByKind.{clean-unit}
use Rattle.rules_plain.specs.Places.{cell}
use Rattle.good.specs.Parts.{Record}
use Rattle.good.specs.Marks.{Following}
use Rattle.good.specs.Tables.{UnitCell, BlankCell, GoodUnits}
use Rattle.good.proofs.Steps.{Takes, MarkedFor, marked-every}
use Rattle.good.proofs.Runs.{Run, after_run}
use Rattle.good.proofs.Systems.{identification_in}
use Rattle.good.proofs.RowPlaces.{RowAt, NoEnd}
use Rattle.good.proofs.Rows.{units, role_for}
use Rattle.good.proofs.Rowwise.{RowFine, run_row, BehindRow, behind-row, count_row}
use Rattle.good.proofs.Cells.{field-at, few, few-used, few-below, few_past, Cells, fine-used, fine-unused}
use Rattle.good.proofs.Cells.{cells-here, used-there, unused-there}

-- ---- rule 12

unit-role : (d : Bool) → (unit_role (role_for units d) ≡ true) × (eqb (role_for units d) NOT-DUE ≡ false)
unit-role false = (refl, refl)
unit-role true = (refl, refl)

unit-rule : (d : Bool) (c : Context) (r : Record) → Takes c (role_for units d) r
    → rule12_unit c.track (fields_of r) ≡ []
unit-rule d c r t = t.1.twelve_unit (unit-role d).0

rule-unit : (d : Bool) (c : Context) (r : Record) → MarkedFor c (role_for units d) r
    → rule12_unit c.track (fields_of r) ≡ [] → Takes c (role_for units d) r
rule-unit d c r m e =
    let role = role_for units d in
    let (kind, due) = unit-role d in
    (m.whole, clean-unit c.track c.seen role (fields_of r) r (marked-every c role r m due) kind e)

-- ---- a record of units

abbrev UnitsFine : ℕ → List Record → ℕ → Record → Type 0
UnitsFine rest before m r = Cells UnitCell BlankCell rest r

abbrev pub no_count : ℕ → Record → ℕ
no_count rest r = 0

abbrev NothingKnown : Context → List Record → ℕ → Type 0
NothingKnown c before m = Unit {0}

takes-units : (d : Bool) (c : Context) (rest : ℕ) (before : List Record) (m : ℕ) (r : Record)
    → c.track.table.rest ≡ rest → Unit {0} → Takes c (role_for units d) r → UnitsFine rest before m r
unfolding rule12_unit unit_fault
takes-units d c rest before m r e k t =
    let h = where-none (in_field (unit_fault (used c.track)) (fields_of r)) field_column 6 (unit-rule d c r t) in
    record {
      used = λ j l a.
          (unit-exactly (field_at r j)).0
          (not-false (is_unit_word (field_at r j))
          (rw (few-used c.track rest e, lt-ltb j (few rest) (few-below rest j l a), field-at r j l) at (h j l)));
      unused = λ j l a.
          (blank-exactly 11 (field_at r j)).0
          (not-false (blank_to 11 (field_at r j))
          (rw (few-used c.track rest e, le-ltb j (few rest) (few_past rest j l a), field-at r j l) at (h j l)));
    }

units-takes : (d : Bool) (c : Context) (rest : ℕ) (before : List Record) (m : ℕ) (r : Record)
    → c.track.table.rest ≡ rest → Unit {0} → MarkedFor c (role_for units d) r → UnitsFine rest before m r
    → Takes c (role_for units d) r
unfolding rule12_unit unit_fault
units-takes d c rest before m r e k mk f =
    rule-unit d c r mk
    (none-where (in_field (unit_fault (used c.track)) (fields_of r)) field_column 6
    (λ j l.
    rw (few-used c.track rest e, field-at r j l)
    (either j rest
    (λ a. rw (lt-ltb j (few rest) (few-below rest j l a), (unit-exactly (field_at r j)).1 (f.used j l a)))
    (λ a. rw (le-ltb j (few rest) (few_past rest j l a), (blank-exactly 11 (field_at r j)).1 (f.unused j l a))))))

-- the judge's run over a row of units
run-units : (d : Bool) (n last line rest : ℕ) (c : Context) (identification : List ℕ) (s : ℕ)
    (before : List Record) (m : ℕ) (rs : List Record) → RowAt c d units n last line rest → 1 ≤ rest
    → identification_in c ≡ identification → c.track.subentry.records + 2 ≡ s → Unit {0} → length rs ≡ records_for rest
    → Run NoEnd (role_for units d) c rs
    ↔ (All NoEnd rs × Following identification s rs × RowFine UnitsFine no_count rest before m rs)
run-units d =
    run_row d units no_count UnitsFine NothingKnown (takes-units d) (units-takes d) (λ c rest before m r e k l t. tt)

units-row-fine : (rest : ℕ) (before : List Record) (m : ℕ) (rs : List Record)
    → ((c : ℕ) → c < length rs * 6 → c < rest → UnitCell (cell rs c))
    → ((c : ℕ) → rest ≤ c → c < length rs * 6 → BlankCell (cell rs c))
    → RowFine UnitsFine no_count rest before m rs
unfolding RowFine
units-row-fine rest before m [] u v = tt
units-row-fine rest before m (r ∷ rs) u v = (
  cells-here UnitCell BlankCell rest r rs u v,
  units-row-fine (rest - 6) (before ++ (r ∷ [])) (m + 0) rs (used-there UnitCell rest r rs u)
      (unused-there BlankCell rest r rs v),
)

pub units-good : (d : Bool) (n last line : ℕ) (c : Context) (rs : List Record) → RowAt c d units n last line n → 1 ≤ n
    → length rs ≡ records_for n
    → Run NoEnd (role_for units d) c rs
    ↔ (Following (identification_in c) (c.track.subentry.records + 2) rs × GoodUnits n rs)
units-good d n last line c rs a p l =
    let w = run-units d n last line n c (identification_in c)
    (c.track.subentry.records + 2) [] 0 rs a p refl refl tt l in (
      λ run.
          let h = w.0 run in (
            h.1,
            record {
              records = l;
              used = λ x y. fine-used UnitCell BlankCell UnitsFine no_count (λ rest before m r f. f) n [] 0 rs h.2 x
                  (omega arith) y;
              unused = λ x y z. fine-unused UnitCell BlankCell UnitsFine no_count (λ rest before m r f. f) n [] 0 rs
                  h.2 x y z;
              no_end = h.0;
            },
          ),
      λ g.
          w.1 (g.1.no_end, g.0, units-row-fine n [] 0 rs (λ x y z. g.1.used x z) g.1.unused),
    )

pub behind-units : (d : Bool) (n last line rest : ℕ) (c : Context) (rs : List Record) → RowAt c d units n last line rest
    → 1 ≤ rest → length rs ≡ records_for rest → Run NoEnd (role_for units d) c rs
    → BehindRow c (after_run (role_for units d) c rs) d units rs (count_row no_count rest rs)
behind-units d = behind-row d units no_count (λ c r t. refl)

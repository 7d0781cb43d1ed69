use Rattle.paper_copy.proofs.WholeRecords.{rest-pasted}
use Rattle.paper_copy.proofs.WholeRecords.{plain-record}
use Rattle.paper_copy.specs.CopyField.{number_in}
use Rattle.paper_rules.specs.Roles.{is_value}
use mathlib.Core.Bool.{false}
use mathlib.Core.Path.{◌∙◌, ◌≡◌, refl, sym}
use native.Mathlib.Omega.{arith}
use Rattle.copy_records.proofs.records.copy_record.Goals as goal

pub returns-then-not-is_value : goal.returns-then-not-is_value
returns-then-not-is_value c =
    let c4 = c in
    let c5 = c4 in
    let c9 = c5 in
    let a = c9.args in
    let e : is_value a.role ≡ false =
    sym c5.is_value.ensures ∙ c4.if-not-is_value.true in
    rw (plain-record (number_in a.table.now a.t a.role) a.rec.now (λ k. rw e refl))
    c.copy_columns.ensures

pub returns : goal.returns
returns c =
    let c6 = c in
    let c13 = c6 in
    let a = c13.args in
    c.copy_columns-2.ensures ∙ rw c6.copy_fields.ensures
    (rest-pasted (number_in a.table.now a.t a.role) a.rec.now c13.requires.at_in_bounds.1.long a.out.now
    a.at (omega (arith, c13.requires.at_in_bounds.0)))

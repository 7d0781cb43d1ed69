use Prim.Native.Nat.{◌/◌}
use Rattle.paper_files.proofs.EntryRecords.{few-upto, first_field}
use lib.ListN.{length}
use mathlib.Core.Path.{refl}
use native.Mathlib.Omega.{arith}
use borrow.Author.Rules.{rules}
use Rattle.files_parts.proofs.parts.named_at.Goals as goal

pub overflow_mul-i : goal.overflow_mul-i
overflow_mul-i c =
    let u = (few-upto (length c.args.bytes.now / 81)).0 in
    let l = c.requires in
    search rules

pub field-f-requires : goal.field-f-requires
field-f-requires c =
    let u = (few-upto (length c.args.bytes.now / 81)).0 in
    let l = c.requires in
    record { room = omega arith }

pub returns : goal.returns
returns c =
    let a = c.args in
    rw (← first_field a.bytes.now a.i, ← c.field-f.ensures, ← c.identifier_of-name.ensures) refl

use Rattle.paper_files.proofs.PlainParts.{to_the_end, length-by, length-past, length-there}
use mathlib.Core.Path.{sym}
use native.Mathlib.Omega.{arith}
use Rattle.files_parts.proofs.parts.entry_length.Goals as goal

pub returns-then-file-at : goal.returns-then-file-at
returns-then-file-at c =
    let z = length-past c.args.file.now c.args.at c.if-file-at.true in
    let u = length-there c.args.file.now c.args.at in
    record {
      value = z;
      at_in_bounds = omega arith;
    }

pub returns : goal.returns
returns c =
    let a = c.args in
    let n = rw (to_the_end a.file.now a.at) at c.entry_records-n.ensures.value in
    let z = length-by a.file.now a.at c.entry_records-n.result (sym n) in
    let u = length-there a.file.now a.at in
    record {
      value = sym z;
      at_in_bounds = omega arith;
    }

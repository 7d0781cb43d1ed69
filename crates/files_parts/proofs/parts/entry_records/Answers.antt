use Prim.Native.Nat.{◌/◌}
use Rattle.paper_files.proofs.EntryRecords.{few-upto, no-records, not-ended, not_opened, records-found}
use lib.ListN.{length}
use mathlib.Core.Path.{◌∙◌, sym}
use native.Mathlib.Omega.{arith}
use Rattle.files_parts.proofs.parts.entry_records.Goals as goal

pub returns-then-n-eq0 : goal.returns-then-n-eq0
returns-then-n-eq0 c =
    let s = c.args.bytes.now in
    record {
      value = no-records s (sym c.few-n.ensures.value ∙ c.if-n-eq0.true);
      result_in_bounds = omega arith;
    }

pub named_at-requires : goal.named_at-requires
named_at-requires c =
    let n = c.few-n.ensures.value in
    omega arith

pub returns-then-not-named_at : goal.returns-then-not-named_at
returns-then-not-named_at c =
    let n = c.few-n.ensures.value in
    let s = c.args.bytes.now in
    record {
      value = not_opened s (omega arith) (sym c.named_at.ensures ∙ c.if-not-named_at.true);
      result_in_bounds = omega arith;
    }

pub end_of-last-requires : goal.end_of-last-requires
end_of-last-requires c =
    let n = c.few-n.ensures.value in
    n

pub returns-then-last-n : goal.returns-then-last-n
returns-then-last-n c =
    let n = c.few-n.ensures.value in
    let e = c.end_of-last.ensures in
    let s = c.args.bytes.now in
    let u = (few-upto (length s / 81)).0 in
    let opens = sym c.named_at.ensures
    ∙ c.if-not-named_at.false in
    record {
      value = rw e (sym (records-found s (omega arith) opens (omega arith)));
      result_in_bounds = omega arith;
    }

pub returns : goal.returns
returns c =
    let n = c.few-n.ensures.value in
    let e = c.end_of-last.ensures in
    let s = c.args.bytes.now in
    let opens = sym c.named_at.ensures
    ∙ c.if-not-named_at.false in
    record {
      value = not-ended s (omega arith) opens (omega arith);
      result_in_bounds = omega arith;
    }

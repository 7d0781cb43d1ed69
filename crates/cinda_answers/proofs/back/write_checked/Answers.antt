use Prim.Native.Nat.{◌<◌, ◌≤◌}
use mathlib.Core.Path.{◌≡◌, sym, ◌∙◌}
use lib.ListN.{length}
use Rattle.paper_cinda.specs.Check.{check_of}
use native.Mathlib.Omega.{arith}
use Rattle.paper_cinda.proofs.Written.{when-good, when-short, when-refused, stored_lines, nothing-refused, nothing-short}
use Rattle.cinda_back_laws.proofs.GoodFile.{lined}
use Rattle.cinda_answers.proofs.back.write_checked.Goals as goal

pub returns-then-number-ne0 : goal.returns-then-number-ne0
returns-then-number-ne0 c =
    let at = c in
    let s = at.args.lines.now in
    let out = at.args.out.now in
    let bad : (check_of s).number ≡ 0 → ⊥ = rw (← at.requires) c.if-number-ne0.true in
    record {
      value = at.requires ∙ sym (when-refused s (length out) bad);
      out_after = sym (nothing-refused s out bad);
    }

pub returns-then-out-lines : goal.returns-then-out-lines
returns-then-out-lines c =
    let at = c in
    let s = at.args.lines.now in
    let out = at.args.out.now in
    let good : (check_of s).number ≡ 0 = rw (← at.requires) c.if-number-ne0.false in
    let short : length out < length s = omega arith in
    record {
      value = c.said.ensures ∙ sym (when-short s (length out) good short);
      out_after = sym (nothing-short s out good short);
    }

pub put_lines-requires : goal.put_lines-requires
put_lines-requires c =
    let at = c in
    let good : (check_of at.args.lines.now).number ≡ 0 = rw (← at.requires) c.if-number-ne0.false in
    ((lined at.args.lines.now (record { good = good })).whole, omega arith)

pub returns : goal.returns
returns c =
    let at = c in
    let s = at.args.lines.now in
    let out = at.args.out.now in
    let good : (check_of s).number ≡ 0 = rw (← at.requires) c.if-number-ne0.false in
    let room : length s ≤ length out = omega arith in
    record {
      value = c.said-2.ensures ∙ sym (when-good s (length out) good room);
      out_after = c.put_lines.ensures ∙ sym (stored_lines s out good room);
    }

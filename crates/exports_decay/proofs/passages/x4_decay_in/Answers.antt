use Prim.Native.Nat.{◌≤◌}
use mathlib.Core.Path.{◌≡◌}
use native.Mathlib.Omega.{arith}
use lib.ListN.{length}
use Rattle.paper_codes.specs.Asked.{code_in}
use Rattle.paper_codes.proofs.Answers.{in-reaches}
use Rattle.exports_decay.proofs.passages.x4_decay_in.Goals as goal

pub put_code_in-requires : goal.put_code_in-requires
put_code_in-requires c =
    let d = c in
    let a = d.args in
    let x = code_in a.passage.now a.code (length a.out.now) in
    let e : d.code_in-x.result ≡ x = d.code_in-x.ensures.value in
    let wide = (in-reaches a.passage.now a.code (length a.out.now)).1 in
    let few : x.column ≤ 255 = omega arith in
    rw e few

pub returns : goal.returns
returns c =
    let d = c in
    let a = d.args in
    let e : d.code_in-x.result ≡ code_in a.passage.now a.code (length a.out.now) = d.code_in-x.ensures.value in
    let p = c.put_code_in.ensures in
    record {
      value = rw (← e) p.value;
      out_after = d.code_in-x.ensures.out_after;
      long_after = rw (← e) p.long_after;
    }

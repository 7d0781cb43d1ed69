use Prim.Native.Nat.{◌-◌}
use Rattle.laws.proofs.Search.{scan-all, scan-done, scan-found, scan-next}
use Rattle.std.proofs.Common.{length-take-le, rules}
use borrow.Author.Tests.{eq-eqb, ne_eqb}
use lib.Seq.{get_or-take}
use native.Mathlib.Omega.{arith}
use mathlib.Core.Path.{◌≡◌, ◌∙◌, sym}
use Rattle.record_words.proofs.word.word_end.Goals as goal

pub loop-i-init : goal.loop-i-init
loop-i-init c = scan-all 10

pub returns-then-b-eq32 : goal.returns-then-b-eq32
returns-then-b-eq32 c =
    let w = length-take-le 10 c.args.f (search rules) in
    let z = get_or-take 10 c.args.f c.loop-i.i 0 (omega arith) in
    record {
      value = scan-found c.loop-i.invariant (omega arith) (eq-eqb _ _ (sym z ∙ c.if-b-eq32.true));
      upper_bound = omega arith;
    }

pub loop-i-preserved : goal.loop-i-preserved
loop-i-preserved c =
    let w = length-take-le 10 c.args.f (search rules) in
    let z = get_or-take 10 c.args.f c.loop-i.i 0 (omega arith) in
    scan-next c.loop-i.invariant (omega arith) (rw z at (ne_eqb _ _ c.if-b-eq32.false))

pub returns : goal.returns
returns c =
    let w = length-take-le 10 c.args.f (search rules) in
    record {
      value = scan-done c.loop-i.invariant (omega arith);
      upper_bound = omega arith;
    }

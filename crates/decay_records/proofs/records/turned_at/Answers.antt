use Prim.Native.Nat.{◌-◌}
use mathlib.Core.Path.{◌≡◌, refl}
use borrow.Author.Tests.{eq-eqb, ne_eqb}
use native.Mathlib.Omega.{arith}
use lib.ListN.{length, take, drop}
use lib.Seq.{length-take-le}
use Rattle.paper_decay.specs.Records.{turned_of}
use Rattle.decay_records.proofs.records.turned_at.Goals as goal

pub returns-then-filled-eq0 : goal.returns-then-filled-eq0
unfolding turned_of
returns-then-filled-eq0 c =
    rw (
      c.turned_out.ensures,
      c.said.ensures,
      ← c.filled_to-filled.ensures.value,
      eq-eqb _ _ c.if-filled-eq0.true,
    ) refl

pub behind_text-requires : goal.behind_text-requires
behind_text-requires c =
    let text = c.args.text.now in
    let n = c.filled_to-filled.result in
    let h = c.filled_to-filled.ensures.upper_bound in
    let long : length (take (n - 0) (drop 0 text)) ≡ n - 0 = length-take-le (n - 0) (drop 0 text) (omega arith) in
    let k = c.scan_text-stop.ensures.at_in_bounds in
    (omega arith, omega arith)

pub returns : goal.returns
unfolding turned_of
returns c =
    let n = c.filled_to-filled.result in
    let z : n - 0 ≡ n = omega arith in
    let q = rw z at c.scan_text-stop.ensures.value in
    rw (← c.filled_to-filled.ensures.value, ne_eqb _ _ c.if-filled-eq0.false, ← q) c.behind_text.ensures

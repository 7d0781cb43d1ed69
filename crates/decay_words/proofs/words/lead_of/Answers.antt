use mathlib.Core.Path.{◌≡◌}
use Prim.Native.Nat.{ℕ, suc, ◌+◌}
use native.Mathlib.Omega.{arith}
use lib.ListN.{drop}
use Rattle.paper_decay_run.specs.Run.{lead_of}
use Rattle.decay_words.proofs.Cutting.{lead-stop, lead-more, lead-end}
use Rattle.decay_words.proofs.words.lead_of.Goals as goal

shift : (n i a b : ℕ) → n ≡ i + a → a ≡ b + 1 → n ≡ i + 1 + b
shift n i a b e f = omega arith

pub loop-i-init : goal.loop-i-init
loop-i-init c = (omega arith, omega arith)

pub returns-then-b-ne32 : goal.returns-then-b-ne32
returns-then-b-ne32 c =
    let text = c.args.text.now in
    let i = c.loop-i.i in
    let inv = c.loop-i.invariant in
    let e = lead-stop text i (omega arith) c.if-b-ne32.true in
    record {
      value = omega (arith, e, inv.1);
      upper_bound = omega arith;
    }

pub loop-i-preserved : goal.loop-i-preserved
loop-i-preserved c =
    let text = c.args.text.now in
    let i = c.loop-i.i in
    let inv = c.loop-i.invariant in
    let e = lead-more text i (omega arith) c.if-b-ne32.false in
    let z : suc i ≡ i + 1 = omega arith in
    (omega arith, rw z at (shift (lead_of text) i (lead_of (drop i text)) (lead_of (drop (suc i) text)) inv.1 e))

pub returns : goal.returns
returns c =
    let text = c.args.text.now in
    let i = c.loop-i.i in
    let inv = c.loop-i.invariant in
    let e = lead-end text i (omega arith) in
    record {
      value = omega (arith, e, inv.1);
      upper_bound = omega arith;
    }

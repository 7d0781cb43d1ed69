use lib.ListN.{drop, length-drop, length-set}
use lib.Seq.{get_or-drop, paste-suc, paste-zero}
use mathlib.Core.Path.{◌≡◌, refl}
use native.Mathlib.Numerals.{add-one}
use native.Mathlib.Omega.{arith}
use borrow.Author.Rules.{rules}
use Rattle.copy_records.proofs.records.copy_columns.Goals as goal

pub loop-i-init : goal.loop-i-init
loop-i-init c =
    let a = c.args in
    (paste-zero a.out.now a.at (drop a.from a.rec.now), search rules, refl)

pub loop-i-preserved : goal.loop-i-preserved
loop-i-preserved c =
    let a = c.args in
    let loop = c.loop-i in
    let inside = c.requires.1 in (
      rw (loop.invariant.0, add-one, ← get_or-drop a.from a.rec.now loop.i 0)
          (paste-suc a.out.now a.at (drop a.from a.rec.now) loop.i 0 (omega arith)
          (simp length-drop (omega arith))),
      omega arith,
      simp length-set loop.invariant.2,
    )

pub returns : goal.returns
returns c =
    let e : ◌≡◌ c.loop-i.i c.args.n = omega arith in rw e at c.loop-i.invariant.0

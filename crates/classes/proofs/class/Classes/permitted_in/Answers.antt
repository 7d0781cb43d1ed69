use Rattle.std.proofs.lemmas.List.{get_or-take, length-take-le}
use Rattle.laws.proofs.Search.{scan-all, scan-done, scan-found, scan-next}
use Rattle.paper_record.proofs.ClassTable.{permitted-class}
use Rattle.paper_record.specs.Class.{permitted_in}
use borrow.Author.Tests.{eq-eqb, ne_eqb}
use lib.ListN.{length, take}
use mathlib.Core.Path.{◌≡◌, ◌∙◌, sym}
use Prim.Native.Nat.{◌<◌}
use native.Mathlib.Omega.{arith}
use Rattle.classes.proofs.class.Classes.permitted_in.Goals as goal

pub loop-i-init : goal.loop-i-init
unfolding permitted_in
loop-i-init c = scan-all c.args.w

pub returns-then-class_of-eq0 : goal.returns-then-class_of-eq0
returns-then-class_of-eq0 c =
    let w = c.args.w in
    let part = c.args.part.now in
    let i = c.loop-i.i in
    let len : length (take w part) ≡ w = length-take-le w part (omega arith) in
    let h : i < w = omega arith in
    scan-found c.loop-i.invariant h
    (rw (permitted-class, ← get_or-take w part i 0 h, eq-eqb _ _ (sym c.class_of.ensures ∙ c.if-class_of-eq0.true)))

pub loop-i-preserved : goal.loop-i-preserved
loop-i-preserved c =
    let w = c.args.w in
    let part = c.args.part.now in
    let i = c.loop-i.i in
    let len : length (take w part) ≡ w = length-take-le w part (omega arith) in
    let h : i < w = omega arith in
    scan-next c.loop-i.invariant h
    (rw (permitted-class, ← get_or-take w part i 0 h, ne_eqb _ _ (λ e. c.if-class_of-eq0.false (c.class_of.ensures ∙ e))))

pub returns : goal.returns
returns c =
    let w = c.args.w in
    let part = c.args.part.now in
    let len : length (take w part) ≡ w = length-take-le w part (omega arith) in
    scan-done c.loop-i.invariant (omega arith)

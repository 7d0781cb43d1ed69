use Rattle.laws.proofs.Search.{scan-all, scan-next, scan-passed, scan-stopped}
use Rattle.paper_record.proofs.NameTable.{name-read}
use Rattle.paper_record.specs.Identifier.{is_name}
use Rattle.paper_record.specs.Word.{equal_to}
use borrow.Author.Tests.{eq-eqb, ne_eqb}
use mathlib.Core.Path.{◌∙◌, sym}
use native.Mathlib.Omega.{arith}
use Rattle.record_names.proofs.identifier.Names.is_name.Goals as goal

pub loop-i-init : goal.loop-i-init
loop-i-init c = scan-all 11

pub returns-then-b-self : goal.returns-then-b-self
unfolding is_name equal_to
returns-then-b-self c =
    let read = name-read (record { same = c.args.self.now.same }) c.args.k c.loop-i.i c.requires (omega arith) in
    scan-stopped c.loop-i.invariant (omega arith)
    (rw (ne_eqb _ _ (λ e. c.if-b-self.true (e ∙ sym read))))

pub loop-i-preserved : goal.loop-i-preserved
loop-i-preserved c =
    let read = name-read (record { same = c.args.self.now.same }) c.args.k c.loop-i.i c.requires (omega arith) in
    scan-next c.loop-i.invariant (omega arith) (rw (eq-eqb _ _ (c.if-b-self.false ∙ read)))

pub returns : goal.returns
unfolding is_name equal_to
returns c = scan-passed c.loop-i.invariant (omega arith)

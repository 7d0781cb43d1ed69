use mathlib.Core.Path.{◌≡◌, ◌∙◌, ap}
use mathlib.Core.Bool.{true, false}
use native.Mathlib.Omega.{arith}
use lib.Dec.{leb}
use borrow.Author.Tests.{le-leb, lt-leb}
use Rattle.paper_number.specs.declared.types.Reading.TheVariants.{Blank}
use Rattle.paper_number.specs.Reading.{read_field}
use Rattle.paper_decay_fields.specs.declared.types.Part.{Part}
use Rattle.paper_decay_fields.specs.Parts.{number_in}
use Rattle.decay_parts.proofs.Within.{part-text, part-long}
use Rattle.decay_parts.proofs.parts.number_in.Goals as goal

pub returns-then-length-gt11 : goal.returns-then-length-gt11
unfolding number_in
returns-then-length-gt11 c =
    let p = c.args.p in
    let more : leb p.length 11 ≡ false = lt-leb _ _ c.if-length-gt11.true in
    rw more (ap (λ (x : Part). record { part = x; value = Blank }) c.or_none-part.ensures)

pub read_narrow-value-requires : goal.read_narrow-value-requires
read_narrow-value-requires c =
    let b = c in
    let long = part-long b.args.run.now b.args.p b.requires in
    omega arith

pub returns : goal.returns
unfolding number_in
returns c =
    let l = c.args.run.now in
    let p = c.args.p in
    let e = c.read_narrow-value.ensures ∙ ap read_field (part-text l p) in
    let f = c.or_none-part.ensures in
    let few : leb p.length 11 ≡ true = le-leb _ _ c.if-length-gt11.false in
    rw few (λ i. record { part = f i; value = e i })

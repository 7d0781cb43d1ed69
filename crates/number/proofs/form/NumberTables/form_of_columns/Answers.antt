use mathlib.Core.List.{List}
use mathlib.Core.Path.{ap, refl, sym, ◌∙◌}
use Prim.Native.Nat.{ℕ}
use native.Mathlib.Omega.{arith}
use lib.ListN.{take}
use lib.Seq.{take_all}
use Rattle.number.proofs.Tables.{ends, place-small, scan-take}
use Rattle.paper_number.specs.Form.{form_at_end, place_number}
use Rattle.paper_number.specs.Reading.{Lead, read_field, scan_of}
use Rattle.number.proofs.form.NumberTables.form_of_columns.Goals as goal

pub next_place-place-requires : goal.next_place-place-requires
next_place-place-requires c =
    let loop = c.loop-b in
    rw loop.invariant (place-small (scan_of Lead (take loop.b-index c.args.s.now)))

pub loop-b-preserved : goal.loop-b-preserved
loop-b-preserved c =
    let loop = c.loop-b in
    let s = c.args.s.now in
    let i = loop.b-index in
    c.next_place-place.ensures (scan_of Lead (take i s)) loop.invariant
    ∙ ap place_number (sym (scan-take s Lead i (omega arith)))

pub returns : goal.returns
unfolding read_field
returns c =
    let loop = c.loop-b in
    let s = c.args.s.now in
    let i = loop.b-index in
    let e = loop.invariant ∙ ap (λ (l : List ℕ). place_number (scan_of Lead l)) (take_all i s (omega arith)) in
    c.form_at.ensures ∙ ap form_at_end e ∙ ends (scan_of Lead s)

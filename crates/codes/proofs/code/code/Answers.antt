use Rattle.codes.proofs.Passed.{lies, keyed, refused, placed, given}
use Rattle.codes.proofs.code.code.Goals as goal

pub returns-then-refusal-ne0 : goal.returns-then-refusal-ne0
returns-then-refusal-ne0 c =
    let d = c in
    let a = d.args in
    let is = keyed a.entry.now a.number a.pointer _ _ d.passage-part.ensures d.decay_data-keyword.ensures in
    let both = refused a.entry.now a.number a.pointer a.j _ is a.out.now c.if-refusal-ne0.true in
    record { value = both.0; out_after = both.1 }

pub part_of-bytes-requires : goal.part_of-bytes-requires
part_of-bytes-requires c =
    let d = c in
    let a = d.args in
    let is = keyed a.entry.now a.number a.pointer _ _ d.passage-part.ensures d.decay_data-keyword.ensures in
    rw is (lies a.entry.now a.number a.pointer)

pub answered-requires : goal.answered-requires
answered-requires c =
    let found = c in
    let part = found in
    let d = part in
    let a = d.args in
    let is = keyed a.entry.now a.number a.pointer _ _ d.passage-part.ensures d.decay_data-keyword.ensures in
    placed a.entry.now a.number a.pointer a.j _ is _ _ _ part.part_of-bytes.ensures.result_value found.code_in-found.ensures.value
    part.if-refusal-ne0.false

pub returns : goal.returns
returns c =
    let found = c in
    let part = found in
    let d = part in
    let a = d.args in
    let is = keyed a.entry.now a.number a.pointer _ _ d.passage-part.ensures d.decay_data-keyword.ensures in
    let both = given a.entry.now a.number a.pointer a.j _ is _ _ _ a.out.now _ part.part_of-bytes.ensures.result_value
    found.code_in-found.ensures.value found.code_in-found.ensures.out_after c.answered.ensures part.if-refusal-ne0.false in
    record { value = both.0; out_after = both.1 }

use Rattle.paper_files.proofs.PlainParts.{first-begun, first-none, from-begun, from-none}
use mathlib.Core.Path.{◌∙◌, refl, sym}
use native.Mathlib.Nat.{add-sub_cancel_left}
use native.Mathlib.Omega.{arith}
use borrow.Author.Rules.{rules}
use Rattle.files_parts.proofs.parts.entry_from.Goals as goal

pub returns-then-n-eq0 : goal.returns-then-n-eq0
returns-then-n-eq0 c =
    let a = c.args in
    let z = sym c.entry_length-n.ensures.value ∙ c.if-n-eq0.true in
    let f = first-none a.file.now a.at z in
    record {
      behind = record { block = refl; offset = omega arith };
      result_value = sym (from-none a.file.now a.at z);
    }

pub overflow_add-past : goal.overflow_add-past
overflow_add-past c =
    let a = c.args in
    let e = c.entry_length-n.ensures.value in
    let u = c.entry_length-n.ensures.at_in_bounds in
    let f = first-begun a.file.now a.at (λ z. c.if-n-eq0.false (e ∙ z)) in
    search rules

pub slice_bounds-result-end-2 : goal.slice_bounds-result-end-2
slice_bounds-result-end-2 c =
    let a = c.args in
    let e = c.entry_length-n.ensures.value in
    let u = c.entry_length-n.ensures.at_in_bounds in
    let f = first-begun a.file.now a.at (λ z. c.if-n-eq0.false (e ∙ z)) in
    search rules

pub returns : goal.returns
returns c =
    let a = c.args in
    let e = c.entry_length-n.ensures.value in
    let f = first-begun a.file.now a.at (λ z. c.if-n-eq0.false (e ∙ z)) in
    record {
      behind = record { block = refl; offset = omega arith };
      result_value = rw (add-sub_cancel_left, e) (sym (from-begun a.file.now a.at (λ z. c.if-n-eq0.false (e ∙ z))));
    }

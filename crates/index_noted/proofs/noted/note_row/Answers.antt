use mathlib.Core.Path.{◌≡◌, ◌∙◌, refl, sym}
use mathlib.Core.Bool.{true, false}
use native.Mathlib.Omega.{arith}
use Rattle.index_noted.specs.Noting.{is_noted, row_behind, stored_behind}
use Rattle.index_noted.proofs.noted.note_row.Goals as goal

pub returns-then-not-is_noted : goal.returns-then-not-is_noted
unfolding row_behind stored_behind
returns-then-not-is_noted c =
    let none : is_noted c.args.role ≡ false =
    sym c.is_noted.ensures ∙ c.if-not-is_noted.true in
    record {
      value = rw none (refl);
      index_after = rw none (refl);
    }

pub overflow_sub-before : goal.overflow_sub-before
overflow_sub-before c =
    c.requires.some
    (sym c.is_noted.ensures ∙ c.if-not-is_noted.false)

pub put_row-requires : goal.put_row-requires
put_row-requires c =
    let d = c in
    let is : is_noted d.args.role ≡ true =
    sym d.is_noted.ensures ∙ d.if-not-is_noted.false in
    let some = d.requires.some is in
    let fits = d.requires.fits is in
    omega arith

pub returns : goal.returns
unfolding row_behind stored_behind
returns c =
    let d = c in
    let is : is_noted d.args.role ≡ true =
    sym d.is_noted.ensures ∙ d.if-not-is_noted.false in
    record {
      value = rw (is, ← c.row_begun-begun.ensures)
          c.noted_in-noted.ensures;
      index_after = rw is c.put_row.ensures;
    }

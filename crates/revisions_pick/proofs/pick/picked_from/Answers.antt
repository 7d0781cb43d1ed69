use Rattle.paper_revisions.proofs.ExtentLies.{extent-lies}
use Rattle.paper_revisions.specs.Picking.{is_gone}
use Rattle.paper_revisions.specs.Taken.{Lies}
use mathlib.Core.Bool.{true, false}
use mathlib.Core.Path.{◌≡◌, ◌∙◌, refl, sym}
use borrow.Author.Rules.{rules}
use Rattle.revisions_pick.proofs.pick.picked_from.Goals as goal

pub returns-then-is_gone : goal.returns-then-is_gone
returns-then-is_gone c =
    let t = c in
    let a = t.args in
    let gone : is_gone a.entry.now a.n ≡ true = sym t.is_gone.ensures ∙ t.if-is_gone.true in
    rw (gone, c.no_part.ensures, c.answer_of-gone.ensures) refl

pub overflow_sub-records : goal.overflow_sub-records
overflow_sub-records c =
    let l : Lies c.args.entry.now c.args.e = rw c.requires.e_value (extent-lies _ _) in
    search rules

pub overflow_mul-first : goal.overflow_mul-first
overflow_mul-first c =
    let l : Lies c.args.entry.now c.args.e = rw c.requires.e_value (extent-lies _ _) in
    search rules

pub overflow_mul-length : goal.overflow_mul-length
overflow_mul-length c =
    let l : Lies c.args.entry.now c.args.e = rw c.requires.e_value (extent-lies _ _) in
    search rules

pub returns : goal.returns
returns c =
    let t = c in
    let s = t in
    let there : is_gone s.args.entry.now s.args.n ≡ false = sym t.is_gone.ensures ∙ t.if-is_gone.false in
    rw (there, c.answer_of-answer.ensures, ← s.requires.e_value) refl

use Rattle.paper_revisions.proofs.ExtentLies.{extent-lies}
use Rattle.revisions_pick.proofs.PickedBy.{among-no-number, taken-some, among-revision, among-held, among-neither}
use mathlib.Core.Path.{◌∙◌, sym}
use Rattle.revisions_pick.proofs.pick.picked_among.Goals as goal

pub returns-then-not-is_subentry : goal.returns-then-not-is_subentry
returns-then-not-is_subentry c =
    let w = c in
    rw (c.no_part.ensures, c.answer_of-no_number.ensures)
    (among-no-number _ _ _ w.is_subentry.ensures c.if-not-is_subentry.true)

pub by_revision-requires : goal.by_revision-requires
by_revision-requires c =
    record {
      lies = rw c.extent-d.ensures (extent-lies _ _);
      lies_2 = rw c.extent-e.ensures (extent-lies _ _);
    }

pub picked_from-requires : goal.picked_from-requires
picked_from-requires c =
    let e = c in
    let d = e in
    record {
      e_value = e.extent-e.ensures;
      e_value_2 = taken-some _ _ d.extent-d.result e.extent-e.result c.by_revision.ensures c.if-by_revision.true;
    }

pub returns-then-by_revision : goal.returns-then-by_revision
returns-then-by_revision c =
    let t = c in
    rw c.picked_from.ensures
    (among-revision _ _ _ t.is_subentry.ensures t.if-not-is_subentry.false
    t.extent-d.ensures t.extent-e.ensures t.by_revision.ensures t.if-by_revision.true)

pub picked_from-requires-then-some : goal.picked_from-requires-then-some
picked_from-requires-then-some c =
    record {
      e_value = c.extent-d.ensures;
      e_value_2 = sym c.some.ensures ∙ c.if-some.true;
    }

pub returns-then-some : goal.returns-then-some
returns-then-some c =
    let t = c in
    let there = sym c.some.ensures ∙ c.if-some.true in
    rw c.picked_from-then-some.ensures
    (among-held _ _ _ t.is_subentry.ensures t.if-not-is_subentry.false
    t.extent-d.ensures t.extent-e.ensures t.by_revision.ensures t.if-by_revision.false
    there)

pub returns : goal.returns
returns c =
    let t = c in
    let none = sym c.some.ensures ∙ c.if-some.false in
    rw (c.no_part-2.ensures, c.answer_of-none.ensures)
    (among-neither _ _ _ t.is_subentry.ensures t.if-not-is_subentry.false
    t.extent-d.ensures t.extent-e.ensures t.by_revision.ensures t.if-by_revision.false
    none)

use mathlib.Core.Path.{◌∙◌, sym}
use Rattle.revisions_merging.specs.Cursors.{taken_of}
use Rattle.revisions_merging.proofs.chosen.put_chosen.Goals as goal

pub returns-then-by_revision : goal.returns-then-by_revision
unfolding taken_of
returns-then-by_revision c =
    let e = sym c.by_revision.ensures ∙ c.if-by_revision.true in
    record {
      value = rw e c.put_records.ensures.value;
      out_after = rw e c.put_records.ensures.out_after;
    }

pub returns : goal.returns
unfolding taken_of
returns c =
    let e = sym c.by_revision.ensures ∙ c.if-by_revision.false in
    record {
      value = rw e c.put_records-2.ensures.value;
      out_after = rw e c.put_records-2.ensures.out_after;
    }

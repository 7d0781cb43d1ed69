use Rattle.paper_revisions.specs.Merging.{count_columns}
use borrow.Author.Rules.{rules}
use Rattle.revisions_merging.proofs.ends.put_count.Goals as goal

-- src/ends.rt:40:9
pub digit_from-hundreds-requires : goal.digit_from-hundreds-requires
digit_from-hundreds-requires c = search rules

-- src/ends.rt:41:9
pub digit_from-tens-requires : goal.digit_from-tens-requires
digit_from-tens-requires c = search rules

-- src/ends.rt:42:21
pub overflow_cast-ones : goal.overflow_cast-ones
overflow_cast-ones c = search rules

-- src/ends.rt:42:16
pub overflow_add-ones : goal.overflow_add-ones
overflow_add-ones c = search rules

-- src/ends.rt:44:24
pub slice_bounds-put_plain-end : goal.slice_bounds-put_plain-end
slice_bounds-put_plain-end c = search rules

-- src/ends.rt:44:5
pub put_plain-requires : goal.put_plain-requires
put_plain-requires c = search rules

-- src/ends.rt:36:1
pub returns : goal.returns
unfolding count_columns
returns c = rw (← c.digit_from-hundreds.ensures, ← c.digit_from-tens.ensures) c.put_plain.ensures

use Rattle.files_reasons.proofs.Answers.{by-ending, by-nothing, by-entry}
use Rattle.files_reasons.proofs.There.{ending-stands, file-few}
use Rattle.paper_files.specs.Parts.{few}
use Rattle.paper_record.proofs.PlainColumns.{there}
use native.Mathlib.Omega.{arith}
use borrow.Author.Rules.{rules}
use Rattle.files_reasons.proofs.explain_file.file_reason.Goals as goal

pub overflow_sub-i : goal.overflow_sub-i
overflow_sub-i c = let st = ending-stands _ _ c.requires c.if-v-eq8.true c.if-ordinal-eq0.true in let x = st.some in search rules

pub reason_at_ending-requires : goal.reason_at_ending-requires
reason_at_ending-requires c = let st = ending-stands _ _ c.requires c.if-v-eq8.true c.if-ordinal-eq0.true in let x = st.some in let y = st.there in let z = st.few in
    record {
      i_in_bounds = omega arith;
      i_bound = omega arith;
    }

pub returns-then-v-eq8 : goal.returns-then-v-eq8
returns-then-v-eq8 c = by-ending _ _ _ c.if-ordinal-eq0.true c.if-v-eq8.true c.reason_at_ending.ensures

pub returns-then-ordinal-eq0 : goal.returns-then-ordinal-eq0
returns-then-ordinal-eq0 c = by-nothing _ _ _ c.if-ordinal-eq0.true c.if-v-eq8.false c.stating.ensures

pub reason_within-requires : goal.reason_within-requires
reason_within-requires c = let few = file-few _ _ c.requires c.if-ordinal-eq0.false in let l = c.pass_entries-p.ensures.at_bound in omega arith

pub returns : goal.returns
returns c = by-entry _ _ _ _ c.if-ordinal-eq0.false c.pass_entries-p.ensures.value c.reason_within.ensures

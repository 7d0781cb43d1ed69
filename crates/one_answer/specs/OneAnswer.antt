-- Two answers that a promise allows are equal, for each call that users make (document 01, "How much each promise
-- says"):
--
--   "The promise of every public call determines its entire answer and every byte lent to it, refused calls included;
--   that two answers allowed by it are equal is proved"
--
-- `Post` is the promise itself: the kit's reading of the call's own `ensures`, for a walker's two calls ByHand's. Behind it
-- stands what is lent to be written, by its place among the arguments.
use Rattle.number_reading.proofs.read.read_field.Reads as read-field
use Rattle.number_reading.proofs.read.read_digits.Reads as read_digits
use Rattle.number_reading.proofs.read.read_number.Reads as read_number
use Rattle.canonical.proofs.write.write_number.Reads as write_number
use Rattle.entry.proofs.judge.judge.Reads as judge
use Rattle.questions.proofs.ask.value.Reads as value
use Rattle.questions.proofs.ask.heading.Reads as heading
use Rattle.questions.proofs.ask.unit.Reads as unit
use Rattle.questions.proofs.ask.passage.Reads as passage
use Rattle.questions.proofs.ask.heading_part.Reads as heading_part
use Rattle.questions.proofs.ask.unit_part.Reads as unit_part
use Rattle.questions.proofs.ask.passage_part.Reads as passage_part
use Rattle.copy.proofs.copy.copy.Reads as copy
use Rattle.exports.proofs.version.x4_version.Reads as x4_version
use Rattle.exports.proofs.judging.x4_judge.Reads as x4_judge
use Rattle.exports.proofs.numbers.x4_read_number.Reads as x4_read_number
use Rattle.exports.proofs.numbers.x4_write_number.Reads as x4_write_number
use Rattle.exports_questions.proofs.asking.x4_value.Reads as x4_value
use Rattle.exports_questions.proofs.asking.x4_heading.Reads as x4_heading
use Rattle.exports_questions.proofs.asking.x4_unit.Reads as x4_unit
use Rattle.exports_questions.proofs.asking.x4_passage.Reads as x4_passage
use Rattle.exports_questions.proofs.copying.x4_copy.Reads as x4_copy
use Rattle.files.proofs.judge_file.judge_file.Reads as judge-file
use Rattle.files_parts.proofs.parts.entry_records.Reads as entry-records
use Rattle.files_parts.proofs.parts.entry_length.Reads as entry_length
use Rattle.files_parts.proofs.parts.entry_from.Reads as entry-from
use Rattle.files_copy.proofs.copy_file.copy_file.Reads as copy_file
use Rattle.exports_files.proofs.transmissions.x4_judge_file.Reads as x4_judge_file
use Rattle.exports_file_copies.proofs.copying.x4_entry_length.Reads as x4_entry_length
use Rattle.exports_file_copies.proofs.copying.x4_copy_file.Reads as x4_copy_file
use Rattle.reasons.proofs.explain.explain.Reads as explain
use Rattle.files_reasons.proofs.explain_file.explain_file.Reads as explain-file
use Rattle.exports_reasons.proofs.explaining.x4_explain.Reads as explained
use Rattle.exports_reasons.proofs.explaining.x4_explain_file.Reads as explained-file
use Rattle.questions_values.proofs.answers.value_from_row.Reads as value-from-row
use Rattle.questions_columns.proofs.answers.heading_from_row.Reads as heading-from-row
use Rattle.questions_columns.proofs.answers.unit_from_row.Reads as unit-from-row
use Rattle.questions_runs.proofs.answers.passage_from_row.Reads as passage-from-row
use Rattle.index_making.proofs.making.make_index.Reads as make_index
use Rattle.index_finding.proofs.finding.find_row.Reads as find_row
use Rattle.index_asking.proofs.asking.value_by_index.Reads as value-by-index
use Rattle.index_parts.proofs.parts.heading_by_index.Reads as heading-by-index
use Rattle.index_parts.proofs.parts.unit_by_index.Reads as unit-by-index
use Rattle.index_parts.proofs.parts.passage_by_index.Reads as passage-by-index
use Rattle.index_handing.proofs.handing.heading_part_by_index.Reads as heading_part_by_index
use Rattle.index_handing.proofs.handing.unit_part_by_index.Reads as unit_part_by_index
use Rattle.index_handing.proofs.handing.passage_part_by_index.Reads as passage_part_by_index
use Rattle.exports_index.proofs.making.x4_index.Reads as x4-made
use Rattle.exports_index.proofs.making.x4_index_row.Reads as x4_index_row
use Rattle.exports_index.proofs.asking.x4_index_value.Reads as x4_index_value
use Rattle.exports_index.proofs.asking.x4_index_heading.Reads as x4_index_heading
use Rattle.exports_index.proofs.asking.x4_index_unit.Reads as x4_index_unit
use Rattle.exports_index.proofs.asking.x4_index_passage.Reads as x4_index_passage
use Rattle.walk.proofs.walk.start_from_row.Reads as start-from-row
use Rattle.walk.proofs.walk.one_on.Reads as one_on
use Rattle.walk_start.proofs.start.start.Reads as start_walk
use Rattle.exports_walk.proofs.walking.x4_walk.Reads as x4_walk
use Rattle.exports_walk.proofs.walking.x4_walk_next.Reads as x4-next
use Rattle.double.proofs.convert.doubled.Reads as doubled
use Rattle.double_asking.proofs.asking.double.Reads as double
use Rattle.double_rows.proofs.rows.double_from_row.Reads as double-from-row
use Rattle.double_rows.proofs.rows.double_by_index.Reads as double-by-index
use Rattle.exports_doubles.proofs.doubles.x4_double.Reads as x4_double
use Rattle.exports_doubles.proofs.doubles.x4_index_double.Reads as x4_index_double
use Rattle.exports_reals.proofs.reals.x4_read_double.Reads as x4_read_double
use Rattle.exports_reals.proofs.hand.x4_as_double.Reads as x4_as_double
use Rattle.exports_reals.proofs.hand.x4_as_double_kind.Reads as x4_as_double_kind
use Rattle.cinda_check.proofs.check.check.Reads as check_lines
use Rattle.cinda.proofs.ask.line.Reads as line
use Rattle.cinda.proofs.ask.piece.Reads as piece
use Rattle.cinda.proofs.ask.piece_part.Reads as piece_part
use Rattle.cinda.proofs.back.write_back.Reads as write_back
use Rattle.exports_cinda.proofs.lines.x4_cinda_check.Reads as x4_cinda_check
use Rattle.exports_cinda.proofs.lines.x4_cinda_line.Reads as x4-line
use Rattle.exports_cinda.proofs.lines.x4_cinda_pieces.Reads as x4_cinda_pieces
use Rattle.exports_cinda.proofs.lines.x4_cinda_back.Reads as x4_cinda_back
use Rattle.codes.proofs.code.code.Reads as code
use Rattle.decay_code.proofs.code.code_in.Reads as code-in
use Rattle.decay_fields.proofs.fields.head.Reads as code_head
use Rattle.decay_fields.proofs.fields.group.Reads as code-group
use Rattle.decay_fields.proofs.fields.kind.Reads as code_type
use Rattle.decay_fields.proofs.fields.energy.Reads as code_energy
use Rattle.exports_codes.proofs.asking.x4_decay.Reads as x4-code
use Rattle.exports_decay.proofs.passages.x4_decay_in.Reads as x4-code-in
use Rattle.exports_decay.proofs.fields.x4_decay_head.Reads as x4-head
use Rattle.exports_decay.proofs.fields.x4_decay_group.Reads as x4-group
use Rattle.exports_decay.proofs.fields.x4_decay_type.Reads as x4_decay_type
use Rattle.exports_decay.proofs.fields.x4_decay_energy.Reads as x4-energy
use Rattle.revisions.proofs.subentry.subentry.Reads as subentry
use Rattle.revisions.proofs.subentry.subentry_part.Reads as subentry_part
use Rattle.revisions_merge.proofs.merge.merge.Reads as merge
use Rattle.exports_revisions.proofs.asking.x4_subentry.Reads as x4_subentry
use Rattle.exports_revisions.proofs.asking.x4_merge.Reads as x4-merged
use Rattle.one_answer.specs.ByHand.{NewPost, NextPost}
use Rattle.one_answer.specs.Determined.{Determined, DeterminedWith, DeterminedPart}

pub record OneAnswer : Type 0 where
  -- the library
  pub read-field : Determined read-field.Post
  pub read_digits : Determined read_digits.Post
  pub read_number : Determined read_number.Post
  pub write_number : DeterminedWith write_number.Post (λ κs s. s.1.1.1.0.now)
  pub judge : Determined judge.Post
  pub value : Determined value.Post
  pub heading : Determined heading.Post
  pub unit : Determined unit.Post
  pub passage : Determined passage.Post
  pub heading_part : DeterminedPart heading_part.Post
  pub unit_part : DeterminedPart unit_part.Post
  pub passage_part : DeterminedPart passage_part.Post
  pub copy : DeterminedWith copy.Post (λ κs s. s.1.0.now)
  pub judge-file : Determined judge-file.Post
  pub entry-records : Determined entry-records.Post
  pub entry_length : Determined entry_length.Post
  pub entry-from : DeterminedPart entry-from.Post
  pub copy_file : DeterminedWith copy_file.Post (λ κs s. s.1.0.now)
  pub explain : Determined explain.Post
  pub explain-file : Determined explain-file.Post
  pub value-from-row : Determined value-from-row.Post
  pub heading-from-row : Determined heading-from-row.Post
  pub unit-from-row : Determined unit-from-row.Post
  pub passage-from-row : Determined passage-from-row.Post
  pub make_index : DeterminedWith make_index.Post (λ κs s. s.1.0.now)
  pub find_row : Determined find_row.Post
  pub value-by-index : Determined value-by-index.Post
  pub heading-by-index : Determined heading-by-index.Post
  pub unit-by-index : Determined unit-by-index.Post
  pub passage-by-index : Determined passage-by-index.Post
  pub heading_part_by_index : DeterminedPart heading_part_by_index.Post
  pub unit_part_by_index : DeterminedPart unit_part_by_index.Post
  pub passage_part_by_index : DeterminedPart passage_part_by_index.Post
  pub start-from-row : Determined start-from-row.Post
  pub start_walk : Determined start_walk.Post
  pub one_on : Determined one_on.Post
  pub walker_new : Determined NewPost
  -- the walker itself is lent
  pub walker_next : DeterminedWith NextPost (λ κs s. s.0.now)
  pub doubled : Determined doubled.Post
  pub double : Determined double.Post
  pub double-from-row : Determined double-from-row.Post
  pub double-by-index : Determined double-by-index.Post
  -- the library, lines
  pub check_lines : Determined check_lines.Post
  pub line : Determined line.Post
  pub piece : Determined piece.Post
  pub piece_part : DeterminedPart piece_part.Post
  pub write_back : DeterminedWith write_back.Post (λ κs s. s.1.0.now)
  -- the library, codes
  pub code : DeterminedWith code.Post (λ κs s. s.1.1.1.1.0.now)
  pub code-in : DeterminedWith code-in.Post (λ κs s. s.1.1.0.now)
  pub code_head : Determined code_head.Post
  pub code-group : Determined code-group.Post
  pub code_type : Determined code_type.Post
  pub code_energy : Determined code_energy.Post
  -- the library, a held entry and its revision
  pub subentry : Determined subentry.Post
  pub subentry_part : DeterminedPart subentry_part.Post
  pub merge : DeterminedWith merge.Post (λ κs s. s.1.1.0.now)
  -- for host programs
  pub x4_version : Determined x4_version.Post
  pub x4_judge : DeterminedWith x4_judge.Post (λ κs s. s.1.0.now)
  pub x4_read_number : DeterminedWith x4_read_number.Post (λ κs s. s.1.0.now)
  pub x4_write_number : DeterminedWith x4_write_number.Post (λ κs s. s.1.1.1.0.now)
  pub x4_value : DeterminedWith x4_value.Post (λ κs s. s.1.1.1.1.1.0.now)
  pub x4_heading : DeterminedWith x4_heading.Post (λ κs s. s.1.1.1.1.0.now)
  pub x4_unit : DeterminedWith x4_unit.Post (λ κs s. s.1.1.1.1.0.now)
  pub x4_passage : DeterminedWith x4_passage.Post (λ κs s. s.1.1.1.1.0.now)
  pub x4_copy : DeterminedWith x4_copy.Post (λ κs s. s.1.0.now)
  pub x4_judge_file : DeterminedWith x4_judge_file.Post (λ κs s. s.1.0.now)
  pub x4_entry_length : Determined x4_entry_length.Post
  pub x4_copy_file : DeterminedWith x4_copy_file.Post (λ κs s. s.1.0.now)
  -- three arrays are lent: totals, facts and characters
  pub x4_explain : DeterminedWith explained.Post (λ κs s. s.1.0.now)
  pub x4_explain_facts : DeterminedWith explained.Post (λ κs s. s.1.1.0.now)
  pub x4_explain_characters : DeterminedWith explained.Post (λ κs s. s.1.1.1.0.now)
  pub x4_explain_file : DeterminedWith explained-file.Post (λ κs s. s.1.0.now)
  pub x4_explain_file_facts : DeterminedWith explained-file.Post (λ κs s. s.1.1.0.now)
  pub x4_explain_file_characters : DeterminedWith explained-file.Post (λ κs s. s.1.1.1.0.now)
  -- two are lent: the index and how many rows it has
  pub x4_index : DeterminedWith x4-made.Post (λ κs s. s.1.0.now)
  pub x4_index_rows : DeterminedWith x4-made.Post (λ κs s. s.1.1.0.now)
  pub x4_index_row : DeterminedWith x4_index_row.Post (λ κs s. s.1.1.0.now)
  pub x4_index_value : DeterminedWith x4_index_value.Post (λ κs s. s.1.1.1.1.1.1.0.now)
  pub x4_index_heading : DeterminedWith x4_index_heading.Post (λ κs s. s.1.1.1.1.1.0.now)
  pub x4_index_unit : DeterminedWith x4_index_unit.Post (λ κs s. s.1.1.1.1.1.0.now)
  pub x4_index_passage : DeterminedWith x4_index_passage.Post (λ κs s. s.1.1.1.1.1.0.now)
  pub x4_walk : DeterminedWith x4_walk.Post (λ κs s. s.1.1.1.0.now)
  -- three arrays are lent: where the walk stands, a place and a value
  pub x4_walk_next : DeterminedWith x4-next.Post (λ κs s. s.1.0.now)
  pub x4_walk_next_place : DeterminedWith x4-next.Post (λ κs s. s.1.1.0.now)
  pub x4_walk_next_value : DeterminedWith x4-next.Post (λ κs s. s.1.1.1.0.now)
  pub x4_double : DeterminedWith x4_double.Post (λ κs s. s.1.1.1.1.1.0.now)
  pub x4_index_double : DeterminedWith x4_index_double.Post (λ κs s. s.1.1.1.1.1.1.0.now)
  pub x4_read_double : DeterminedWith x4_read_double.Post (λ κs s. s.1.0.now)
  pub x4_as_double : Determined x4_as_double.Post
  pub x4_as_double_kind : Determined x4_as_double_kind.Post
  pub x4_cinda_check : Determined x4_cinda_check.Post
  -- three arrays are lent: numbers, least and greatest energy
  pub x4_cinda_line : DeterminedWith x4-line.Post (λ κs s. s.1.1.0.now)
  pub x4_cinda_line_least : DeterminedWith x4-line.Post (λ κs s. s.1.1.1.0.now)
  pub x4_cinda_line_greatest : DeterminedWith x4-line.Post (λ κs s. s.1.1.1.1.0.now)
  pub x4_cinda_pieces : DeterminedWith x4_cinda_pieces.Post (λ κs s. s.1.1.0.now)
  pub x4_cinda_back : DeterminedWith x4_cinda_back.Post (λ κs s. s.1.0.now)
  -- two are lent: the run and how long it is
  pub x4_decay : DeterminedWith x4-code.Post (λ κs s. s.1.1.1.1.0.now)
  pub x4_decay_length : DeterminedWith x4-code.Post (λ κs s. s.1.1.1.1.1.0.now)
  pub x4_decay_in : DeterminedWith x4-code-in.Post (λ κs s. s.1.1.0.now)
  pub x4_decay_in_length : DeterminedWith x4-code-in.Post (λ κs s. s.1.1.1.0.now)
  -- two are lent: places or numbers, and a value
  pub x4_decay_head : DeterminedWith x4-head.Post (λ κs s. s.1.0.now)
  pub x4_decay_head_half : DeterminedWith x4-head.Post (λ κs s. s.1.1.0.now)
  pub x4_decay_group : DeterminedWith x4-group.Post (λ κs s. s.1.1.0.now)
  pub x4_decay_group_abundance : DeterminedWith x4-group.Post (λ κs s. s.1.1.1.0.now)
  pub x4_decay_type : DeterminedWith x4_decay_type.Post (λ κs s. s.1.1.1.0.now)
  pub x4_decay_energy : DeterminedWith x4-energy.Post (λ κs s. s.1.1.1.0.now)
  pub x4_decay_energy_value : DeterminedWith x4-energy.Post (λ κs s. s.1.1.1.1.0.now)
  pub x4_subentry : DeterminedWith x4_subentry.Post (λ κs s. s.1.1.1.0.now)
  -- two are lent: the merge and how long it is
  pub x4_merge : DeterminedWith x4-merged.Post (λ κs s. s.1.1.0.now)
  pub x4_merge_length : DeterminedWith x4-merged.Post (λ κs s. s.1.1.1.0.now)

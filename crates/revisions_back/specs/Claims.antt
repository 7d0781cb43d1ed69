-- What is claimed of the words and arrays of calls about a held entry and its revision: they say all of the answer, for all bytes and
-- whatever the arrays held. Each type is that of a law in proofs/Back, under the law's name.
use Rattle.std.specs.Prelude.{ℕ, ◌≡◌, List, length, take, drop, replicate}
use Rattle.paper_revisions.specs.declared.types.Merged.{Merged}
use Rattle.paper_revisions.specs.Picking.{picked}
use Rattle.paper_revisions.specs.Merging.{merge_of, merged, merged_into}
use Rattle.exports_picks.specs.Picks.{picked_word, picked_stored, merged_word, merged_stored}
use Rattle.revisions_back.specs.Host.{picked_said, merged_said}

abbrev pub SubentryBack : Type 0
SubentryBack =
    (held revision part : List ℕ) (n : ℕ)
    → let p = picked held revision n in
    picked_said (picked_word p) (picked_stored part p) ≡ p

abbrev pub MergeBack : Type 0
MergeBack =
    (held revision out long : List ℕ)
    → let m = merged held revision (length out) in
    merged_said (merged_word m) (merged_stored long m) ≡ m

-- ---- the bytes of the buffer: the merge or blanks, as long as is said, and what stands behind stays

pub record Holding (held revision out : List ℕ) (m : Merged) (after : List ℕ) : Type 0 where
  pub made : m.answer.number ≡ 0 → take m.length after ≡ merge_of held revision
  pub refused : m.answer.number ≡ 63 → take m.length after ≡ replicate (length (merge_of held revision)) 32
  pub behind : drop m.length after ≡ drop m.length out

abbrev pub BufferBack : Type 0
BufferBack =
    (held revision out : List ℕ)
    → Holding held revision out (merged held revision (length out)) (merged_into held revision out)

-- ---- "A refused call stores nothing": 63 alone does

abbrev pub SubentryKept : Type 0
SubentryKept =
    (held revision part : List ℕ) (n : ℕ)
    → let p = picked held revision n in
    (p.answer.number ≡ 0 → ⊥) → picked_stored part p ≡ part

abbrev pub MergeKept : Type 0
MergeKept =
    (held revision out long : List ℕ)
    → let m = merged held revision (length out) in
    (m.answer.number ≡ 0 → ⊥) → (m.answer.number ≡ 63 → ⊥)
    → (merged_stored long m ≡ long) × (merged_into held revision out ≡ out)

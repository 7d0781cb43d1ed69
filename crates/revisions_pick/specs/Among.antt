-- What is answered by two verdicts, by two accessions, and then by the two entries alone; that these together are `both_of` and
-- `picked` are the laws `both-named`, `both-other`, `picked-refused` and `picked-among`.
use Rattle.std.specs.Prelude.{ℕ, ◌+◌, ◌≤◌, Bool, cond, List, [], ◌∷◌, eqb, length}
use Rattle.paper_entry.specs.declared.types.Answer.{Answer}
use Rattle.paper_entry.specs.declared.types.Verdict.{Verdict}
use Rattle.paper_entry.specs.Answer.{Refusal, refusal, first_of, is_refused, answer_of}
use Rattle.paper_revisions.specs.declared.types.Both.{Both}
use Rattle.paper_revisions.specs.declared.types.Picked.{Picked}
use Rattle.paper_revisions.specs.Extents.{extent_of}
use Rattle.paper_revisions.specs.Picking.{holder, in_revision, neither, is_gone, beside_verdict, part_of, no_part}

-- ---- what stands before

abbrev pub both_by : Answer → ℕ → Both
both_by a which = record { answer = a; which = which }

-- "60 either entry refused, the held one named first"
unfoldable pub named_first : Verdict → Verdict → Both
named_first v w =
    cond (is_refused v) (both_by (beside_verdict 60 v) 1)
    (cond (is_refused w) (both_by (beside_verdict 60 w) 2) (both_by (answer_of 0) 0))

-- "61 accessions differ"
abbrev pub by_accession : Bool → Both
by_accession other = both_by (answer_of (first_of (refusal 61 other ∷ []))) 0

-- ---- of two accepted entries with one accession

-- "32 neither has n; 62 the one to hand out is NOSUBENT"
abbrev pub among_refusals : List ℕ → List ℕ → ℕ → List Refusal
among_refusals held revision n =
    refusal 32 (neither held revision n) ∷ refusal 62 (is_gone (holder held revision n) n) ∷ []

unfoldable pub picked_among : List ℕ → List ℕ → ℕ → Picked
picked_among held revision n =
    let number : ℕ = first_of (among_refusals held revision n) in
    cond (eqb number 0) (part_of (in_revision held revision n) (extent_of (holder held revision n) n))
    (no_part (answer_of number) 0)

-- ---- the part

-- it lies in the one that it names
pub record LiesInOne (held revision : List ℕ) (p : Picked) : Type 0 where
  pub inside : p.first + p.length ≤ length (cond p.revision revision held)

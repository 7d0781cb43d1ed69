-- What a question reads of the row of an accepted entry, its first record and the section's, is good: 39 is never
-- given there, and the refusals are those of the full question.
-- Assumes nothing.
use Prim.Native.Nat.{ℕ, suc, ◌-◌, ◌<◌}
use mathlib.Core.Path.{◌≡◌, refl, ◌∙◌}
use mathlib.Core.Bool.{Bool, true, false, not}
use mathlib.Core.List.{List, [], ◌∷◌, ◌++◌}
use native.Mathlib.Omega.{arith}
use borrow.Author.Tests.{eqb-false, eq-eqb, not-false}
use Rattle.laws.specs.Blocks.{block_at}
use Rattle.laws.proofs.Booleans.{and_both}
use Rattle.paper_record.specs.Fields.{fields_of, n1, n2}
use Rattle.paper_record.specs.Identifier.{OTHER}
use Rattle.paper_record.specs.System.{count_of, is_count}
use Rattle.paper_record.specs.declared.types.RecordNo.{RecordNo}
use Rattle.paper_rules.specs.declared.types.Track.{Track}
use Rattle.paper_rules.specs.State.{Seen}
use Rattle.paper_rules.specs.Roles.{is_system}
use Rattle.paper_faults.specs.Fault.{when}
use Rattle.paper_rules.specs.System.{form_n1, form_n2, in_form, rule7}
use Rattle.paper_rules.specs.Counts.{count_n1, count_n2, limit_n1, limit_n2, meets, announced_fault, rule8}
use Rattle.paper_rules.specs.Clean.{Clean}
use Rattle.paper_faults.proofs.NoColumns.{whens-none}
use Rattle.paper_entry.specs.Judging.{judge_of, Accepted}
use Rattle.paper_entry.specs.Contexts.{context_at, role_at}
use Rattle.paper_entry.specs.Answer.{Refusal, refusal, first_of, is_refused}
use Rattle.paper_questions.specs.Located.{row_of}
use Rattle.paper_questions.specs.Refused.{is_subent, no_section, section_refusals}
use Rattle.paper_questions.proofs.RowChanges.{Section, bib, common, table, opener, named}
use Rattle.inside.proofs.RowFound.{Opening}
use Rattle.inside.proofs.TextLaid.{row-opening}
use Rattle.paper_index.specs.Reads.{is_nosubent, good_first, good_counts, good_section, read_refusals}
use Rattle.row_answers.proofs.ReadRecords.{record-clean, in_entry_lem, fields-there, identifier-there}
use Rattle.row_answers.proofs.FirstRecord.{first_read}

-- ---- the section's own record

neither : (a b : Bool) → when (not a) 12 ++ when (not b) 23 ≡ [] → (a ≡ true) × (b ≡ true)
neither a b e = let (p, q) = whens-none (not a) (not b) 12 23 e in (not-false a p, not-false b q)

-- 7: both counts are in form
counts-formed : (k : Section) (fs : List (List ℕ)) → rule7 (opener k) fs ≡ []
    → (is_count (count_of (n1 fs)) ≡ true) × (is_count (count_of (n2 fs)) ≡ true)
unfolding rule7 form_n1 form_n2 in_form
counts-formed bib fs e = neither (is_count (count_of (n1 fs))) (is_count (count_of (n2 fs))) e
counts-formed common fs e = neither (is_count (count_of (n1 fs))) (is_count (count_of (n2 fs))) e
counts-formed table fs e = neither (is_count (count_of (n1 fs))) (is_count (count_of (n2 fs))) e

-- 8: and in range
counts-met : (k : Section) (t : Track) (fs : List (List ℕ)) → rule8 t (opener k) fs ≡ []
    → (meets (limit_n1 (opener k)) (count_n1 fs) ≡ true)
    × (meets (limit_n2 (opener k) (count_n1 fs)) (count_n2 fs) ≡ true)
unfolding rule8 announced_fault
counts-met bib t fs e = neither _ _ e
counts-met common t fs e = neither _ _ e
counts-met table t fs e = neither _ _ e

is-system : (k : Section) → is_system (opener k) ≡ true
is-system bib = refl
is-system common = refl
is-system table = refl

below_other : (k : Section) → opener k < OTHER
below_other bib = omega arith
below_other common = omega arith
below_other table = omega arith

counts-good : (k : Section) (t : Track) (seen : Seen) (fs : List (List ℕ)) (r : List ℕ)
    → Clean t seen (opener k) fs r → good_counts (opener k) fs ≡ true
unfolding good_counts
counts-good k t seen fs r clean =
    let (a, b) = counts-formed k fs (clean.seven (is-system k)) in
    let (c, d) = counts-met k t fs (clean.eight (is-system k)) in
    and_both a (and_both b (and_both c d))

-- the record with the index a opens a section of the subentry n: reading it is good
pub section-good : (s : List ℕ) → Accepted s → (n : ℕ) (k : Section) (a : ℕ) → Opening s n k a
    → (at : RecordNo) → at.0 ≡ suc a → good_section s at (opener k) ≡ true
unfolding good_section
section-good s accepted n k a o at e =
    let c = context_at s a in
    let r = block_at 81 s a in
    let there = o.there in
    let system : role_at s a < OTHER = rw o.role (below_other k) in
    let clean : Clean c.track c.seen (opener k) (fields_of r) r =
    rw o.role at (record-clean s accepted a there) in
    and_both
    (and_both (in_entry_lem s accepted a there at e)
    (eq-eqb _ _ (identifier-there s accepted a there at e system ∙ o.role)))
    (rw (fields-there s accepted a there at e) (counts-good k c.track c.seen (fields_of r) r clean))

-- the section's record that a row names opens it
pub section-opened : (s : List ℕ) → Accepted s → (n : ℕ) (k : Section) → ((named k (row_of s n)).0 ≡ 0 → ⊥)
    → (a : ℕ) × (((named k (row_of s n)).0 ≡ suc a) × Opening s n k a)
section-opened s accepted n k some =
    ((named k (row_of s n)).0 - 1, (omega (arith, some), row-opening s n accepted k some))

-- ---- the refusals by these two reads

in_order : (refused nosubent good none section sub : Bool) (ys : List Refusal) → refused ≡ false
    → nosubent ≡ not sub → good ≡ sub → (none ≡ false → section ≡ true)
    → first_of (refusal 32 nosubent ∷ refusal 39 (not good) ∷ refusal 33 none ∷ refusal 39 (not section) ∷ ys)
    ≡ first_of (refusal 31 refused ∷ refusal 32 (not sub) ∷ refusal 33 none ∷ ys)
in_order refused nosubent good none section sub ys r a b h = rw (r, a, b) (by_tests sub none section h)
  where
    by_tests : (sub none section : Bool) → (none ≡ false → section ≡ true)
        → first_of (refusal 32 (not sub) ∷ refusal 39 (not sub) ∷ refusal 33 none ∷ refusal 39 (not section) ∷ ys)
        ≡ first_of (refusal 31 false ∷ refusal 32 (not sub) ∷ refusal 33 none ∷ ys)
    by_tests false none section h = refl
    by_tests true true section h = refl
    by_tests true false section h = rw (h refl)

module _ (s : List ℕ) (accepted : Accepted s) (n : ℕ) (some : (row_of s n).first.0 ≡ 0 → ⊥) where
  -- a section that is none, or good
  pub reads_at : (at : RecordNo) (identifier : ℕ) → ((at.0 ≡ 0 → ⊥) → good_section s at identifier ≡ true)
      → (ys : List Refusal)
      → first_of (read_refusals s (row_of s n) at identifier ++ ys)
      ≡ first_of (section_refusals s (judge_of s) (row_of s n) at ++ ys)
  reads_at at identifier h ys =
      let x = row_of s n in
      let f = first_read s accepted n some in
      let r : is_refused (judge_of s) ≡ false = rw accepted in
      in_order (is_refused (judge_of s)) (is_nosubent s x) (good_first s x) (no_section at) (good_section s at identifier)
      (is_subent s x) ys r f.nosubent f.good (λ z. h (eqb-false at.0 0 z))

  pub reads_same : (k : Section) (ys : List Refusal)
      → first_of (read_refusals s (row_of s n) (named k (row_of s n)) (opener k) ++ ys)
      ≡ first_of (section_refusals s (judge_of s) (row_of s n) (named k (row_of s n)) ++ ys)
  reads_same k ys =
      reads_at (named k (row_of s n)) (opener k)
      (λ there.
      let (a, (e, o)) = section-opened s accepted n k there in
      section-good s accepted n k a o (named k (row_of s n)) e) ys

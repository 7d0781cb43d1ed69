-- The copy of an accepted entry, record by record: the same contexts, and what each record of it says.
-- Assumes nothing.
use Prim.Native.Nat.{ℕ, zero, suc, ◌-◌, ◌/◌, ◌<◌, ◌≤◌}
use mathlib.Core.Path.{◌≡◌, refl, sym, ◌∙◌, ap}
use mathlib.Core.Bool.{Bool, true, false, cond}
use mathlib.Core.List.{List, []}
use native.Mathlib.Omega.{arith}
use lib.ListN.{length, get_or, replicate}
use Rattle.laws.specs.Blocks.{block_at}
use Rattle.laws.specs.Copies.{Passing}
use Rattle.laws.proofs.Search.{either}
use Rattle.paper_number.specs.Reading.{read_field}
use Rattle.paper_record.specs.Fields.{fields_of}
use Rattle.paper_record.specs.Identifier.{identifier_of}
use Rattle.paper_record.specs.declared.types.RecordNo.{RecordNo}
use Rattle.paper_record.specs.declared.types.Place.{Place}
use Rattle.paper_record.proofs.ReadColumns.{field-of, past-fields}
use Rattle.paper_rules.specs.State.{Context}
use Rattle.paper_rules.specs.Roles.{is_value}
use Rattle.paper_entry.specs.Judging.{turn_of, Accepted}
use Rattle.entry_walk.proofs.GoingOn.{go-fine}
use Rattle.entry_walk.proofs.AcceptedWalk.{walked}
use Rattle.entry_walk.proofs.Contexts.{context-start, context-after}
use Rattle.paper_entry.specs.Contexts.{context_at, role_at, behind}
use Rattle.paper_questions.specs.Place.{has_record, fields_at, identifier_at, field_of}
use Rattle.paper_questions.proofs.Records.{record-there}
use Rattle.inside.proofs.RowWalked.{fields-at}
use Rattle.paper_copy.specs.Copy.{copy_record, copy_of}
use Rattle.paper_copy.proofs.FaithfulRecords.{identifier-kept, not-copied, faithful}
use Rattle.paper_copy.proofs.Demand.{passed, copy-long}
use Rattle.paper_copy.proofs.CopiedBlocks.{copied-block}
use Rattle.paper_copy.proofs.Unchanged.{copy-reads}

behind-kept : Passing turn_of (λ c i r d. behind c (copy_record c r) ≡ behind c r)
behind-kept c i r d h = (go-fine c i (copy_record c r) d (faithful.keeps c i r d h)).1 ∙ sym (go-fine c i r d h).1

module _ (s : List ℕ) (accepted : Accepted s) where
  pub copied-context : (i : ℕ) → i ≤ length s / 81 → context_at (copy_of s) i ≡ context_at s i
  copied-context zero l = context-start (copy_of s) ∙ sym (context-start s)
  copied-context (suc i) l =
      let c = context_at s i in
      context-after (copy_of s) i
      ∙ ap (λ (x : Context). behind x (block_at 81 (copy_of s) i)) (copied-context i (omega arith))
      ∙ ap (behind c) (copied-block s accepted i (omega arith))
      ∙ behind-kept c i (block_at 81 s i) (context_at s (suc i)) ((walked s accepted).turns i (omega arith))
      ∙ sym (context-after s i)

  -- a record that is no value record
  pub block-kept : (i : ℕ) → i < length s / 81 → is_value (role_at s i) ≡ false → block_at 81 (copy_of s) i ≡ block_at 81 s i
  block-kept i l e = copied-block s accepted i l ∙ not-copied (context_at s i) (block_at 81 s i) e

  -- ---- by the number of a record

  same_length : length (copy_of s) ≡ length s
  same_length = copy-long s (passed s accepted)

  abbrev blank : List (List ℕ)
  blank = replicate 6 (replicate 11 32)

  -- what holds of the fields of each record, and of those that are not there
  fields-by : (P : List (List ℕ) → List (List ℕ) → Type 0) → ((f : List (List ℕ)) → P f f)
      → ((i : ℕ) → i < length s / 81 → P (fields_of (block_at 81 (copy_of s) i)) (fields_of (block_at 81 s i)))
      → (at : RecordNo) → P (fields_at (copy_of s) at) (fields_at s at)
  unfolding fields_at
  fields-by P same each at = rw same_length (by-test (has_record s at) refl)
    where
      by-test : (t : Bool) → has_record s at ≡ t
          → P (cond t (fields_of (block_at 81 (copy_of s) (at.0 - 1))) (replicate 6 (replicate 11 32)))
          (cond t (fields_of (block_at 81 s (at.0 - 1))) (replicate 6 (replicate 11 32)))
      by-test true e = let (a, b) = record-there s at e in each (at.0 - 1) (omega arith)
      by-test false e = same (replicate 6 (replicate 11 32))

  pub copied-identifiers : (at : RecordNo) → identifier_at (copy_of s) at ≡ identifier_at s at
  copied-identifiers =
      fields-by (λ f g. identifier_of (get_or f 0 []) ≡ identifier_of (get_or g 0 [])) (λ f. refl)
      (λ i l.
      let c = context_at s i in
      let r = block_at 81 s i in
      rw (field-of (block_at 81 (copy_of s) i) 0 (omega arith), field-of r 0 (omega arith), copied-block s accepted i l)
      (identifier-kept c i r (context_at s (suc i)) ((walked s accepted).turns i l)))

  -- every field of the copy reads alike
  pub copied-places : (p : Place) → read_field (field_of (copy_of s) p) ≡ read_field (field_of s p)
  copied-places p =
      fields-by (λ f g. (k : ℕ) → read_field (get_or f k []) ≡ read_field (get_or g k [])) (λ f k. refl)
      (λ i l k.
      either k 6
      (λ h. rw (field-of (block_at 81 (copy_of s) i) k h, field-of (block_at 81 s i) k h) (copy-reads s accepted i k))
      (λ h. rw (past-fields (block_at 81 (copy_of s) i) k h, past-fields (block_at 81 s i) k h)))
      p.at p.field

  -- the fields of a record that is no value record
  pub fields-kept : (i : ℕ) → i < length s / 81 → is_value (role_at s i) ≡ false → (at : RecordNo) → at.0 ≡ suc i
      → fields_at (copy_of s) at ≡ fields_at s at
  fields-kept i l e at q =
      let long = same_length in
      let whole = (passed s accepted).whole in
      fields-at (copy_of s) i (omega arith) at q
      ∙ ap fields_of (block-kept i l e)
      ∙ sym (fields-at s i (omega arith) at q)

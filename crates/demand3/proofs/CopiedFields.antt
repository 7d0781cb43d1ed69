-- A number field of the copy is the canonical field of what the entry's field reads to, a blank one stays.
-- Assumes nothing.
use Prim.Native.Nat.{ℕ, zero, suc, ◌+◌, ◌*◌, ◌/◌, ◌<◌}
use mathlib.Core.Path.{◌≡◌, sym, ◌∙◌, ap}
use mathlib.Core.Bool.{Bool, true, false}
use mathlib.Core.List.{List, []}
use native.Mathlib.Omega.{arith}
use native.Mathlib.Nat.{zero-mul}
use native.Mathlib.Numerals.{add-one}
use lib.ListN.{length, drop, get_or, get_or-eq_default}
use Rattle.laws.specs.Blocks.{blocks, block_at}
use Rattle.laws.specs.Copies.{marks}
use Rattle.paper_copy.specs.Replaced.{Each}
use Rattle.laws.proofs.Search.{either}
use Rattle.laws.proofs.Blocks.{next-block, length-blocks}
use Rattle.laws.proofs.Copies.{length-marks}
use Rattle.paper_copy.proofs.Replaced.{each_at}
use Rattle.paper_number.specs.declared.types.Reading.TheVariants.{Blank, Number}
use Rattle.paper_canonical.specs.Replacing.{canonical}
use Rattle.paper_canonical.proofs.Laws.{canonical-best, number-normal, number_fits}
use Rattle.paper_canonical.proofs.WriteBack.{canonical-read}
use Rattle.paper_record.specs.Fields.{field_at}
use Rattle.paper_entry.specs.Judging.{turn_of, Accepted}
use Rattle.paper_rules.specs.State.{start_context}
use Rattle.paper_entry.specs.Contexts.{context_at}
use Rattle.entry_walk.proofs.AcceptedWalk.{Walked, walked}
use Rattle.entry_walk.proofs.Contexts.{context-start}
use Rattle.paper_copy.specs.CopyField.{copy_field}
use Rattle.paper_copy.specs.Copy.{mask_of, copy_record, records_in, number_field, field_in, copy_of}
use Rattle.paper_copy.proofs.CanonicalFields.{Fit, copied-field}
use Rattle.paper_copy.proofs.FaithfulRecords.{length-mask-of, fits}
use Rattle.paper_copy.proofs.Demand.{passed}
use Rattle.paper_copy.proofs.CopiedBlocks.{copied-block}
use Rattle.demand3.specs.Fields.{CopyCanonical, CopyBlank}

module _ (s : List ℕ) (n : ℕ) (w : Walked s n) where
  marks-from : (j i : ℕ) → i + j ≡ n → (m : ℕ) → m < j
      → get_or (marks turn_of mask_of (context_at s i) i (blocks 81 j (drop (i * 81) s))) m []
      ≡ mask_of (context_at s (i + m)) (block_at 81 s (i + m))
  unfolding marks blocks
  marks-from zero i e m l = absurd (omega arith)
  marks-from (suc j) i e zero l = let z : i + 0 ≡ i = omega arith in rw z
  marks-from (suc j) i e (suc m) l =
      let z : suc i + m ≡ i + suc m = omega arith in
      rw (w.turns i (omega arith), next-block 81 i s, add-one i)
      (rw z at (marks-from j (suc i) (omega arith) m (omega arith)))

module _ (s : List ℕ) (accepted : Accepted s) where
  -- a number field stands in a record of the entry
  pub row_of : (i k : ℕ) → number_field s i k ≡ true → i < length s / 81
  unfolding number_field
  row_of i k e =
      let p = passed s accepted in
      let n = length s / 81 in
      let ms = marks turn_of mask_of start_context 0 (blocks 81 n s) in
      let all : length ms ≡ n =
      length-marks turn_of mask_of start_context 0 (records_in s) p.last p.goes ∙ length-blocks 81 n s in
      either i n (λ l. l)
      (λ l. let none : get_or ms i [] ≡ [] = get_or-eq_default ms [] (rw all l) in
      let z : ◌≡◌ {A = ℕ} 0 1 = (let f = rw none at e in cc) in absurd (omega arith))

  pub mask_is : (i k : ℕ) → i < length s / 81
      → number_field s i k ≡ get_or (mask_of (context_at s i) (block_at 81 s i)) k false
  unfolding number_field
  mask_is i k l =
      let z : 0 + i ≡ i = omega arith in
      ap (λ (m : List Bool). get_or m k false)
      (rw (zero-mul 81, context-start s, z) at
      (marks-from s (length s / 81) (walked s accepted) (length s / 81) 0 (omega arith) i l))

  field-copied : (i k : ℕ) → number_field s i k ≡ true
      → (field_in (copy_of s) i k ≡ canonical (field_in s i k)) × (length (field_in s i k) ≡ 11)
  unfolding copy_record
  field-copied i k e =
      let l = row_of i k e in
      let c = context_at s i in
      let r = block_at 81 s i in
      let fit : Each Fit (mask_of c r) r = fits c i r (context_at s (suc i)) ((walked s accepted).turns i l) in
      let six = length-mask-of c r in
      let here : get_or (mask_of c r) k false ≡ true = sym (mask_is i k l) ∙ e in
      let column : k < length (mask_of c r) =
      either k (length (mask_of c r)) (λ h. h)
      (λ h. let none = get_or-eq_default (mask_of c r) false h in
      let z : ◌≡◌ {A = ℕ} 0 1 = (let f = sym none ∙ here in cc) in absurd (omega arith)) in (
        ap (λ (x : List ℕ). field_at x k) (copied-block s accepted i l)
            ∙ copied-field (mask_of c r) r fit k column
            ∙ ap (λ (b : Bool). copy_field b (field_at r k)) here,
        (each_at Fit false (mask_of c r) r fit k column).wide,
      )

pub copy-canonical : CopyCanonical
copy-canonical s accepted i k e v h =
    let f = field_in s i k in
    let (same, eleven) = field-copied s accepted i k e in
    let best = canonical-best (length f) v (number-normal f v h) (number_fits f v h) in
    rw (same, canonical-read f (Number v) h, eleven) (rw eleven at best)

pub copy-blank : CopyBlank
copy-blank s accepted i k e h = (field-copied s accepted i k e).0 ∙ canonical-read (field_in s i k) Blank h

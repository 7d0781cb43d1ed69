-- By what a merge is refused, as far as its length and its last record go.
-- Assumes nothing.
use Prim.Native.Nat.{ℕ, ◌+◌, ◌-◌, ◌/◌, ◌<◌}
use mathlib.Core.Path.{◌≡◌, refl, sym, ap, ◌∙◌}
use mathlib.Core.Bool.{Bool, false, ◌||◌}
use mathlib.Core.List.{List, ◌++◌}
use native.Mathlib.Omega.{arith}
use borrow.Author.Tests.{eq-eqb}
use lib.Dec.{eqb}
use lib.ListN.{length, get_or, take, drop}
use lib.Seq.{length-take-le, take_at}
use Rattle.laws.specs.Blocks.{block_at}
use Rattle.laws.specs.Search.{first}
use Rattle.laws.proofs.Booleans.{differ, or-first, or-second}
use Rattle.laws.proofs.Search.{first-pass}
use Rattle.paper_record.specs.Identifier.{ENDENTRY, identifier_of}
use Rattle.paper_record.proofs.ReadColumns.{field-of}
use Rattle.paper_entry.specs.Verdict.{refused}
use Rattle.paper_entry.specs.Judging.{judge_of, Accepted}
use Rattle.refusal_table.specs.Table.{refusals, no_row, TableAllows}
use Rattle.refusal_table.specs.KindOf.{name_in}
use Rattle.refusal_table.specs.Listed.{BadLength, none, not_whole, too_long, Listed, at_once, on_record, behind_last}
use Rattle.refusal_table.proofs.Listed.{refusals_listed, length_first}
use Rattle.paper_revisions.specs.Extents.{records_of}
use Rattle.paper_revisions.specs.Merging.{count_columns, how_many_of, merge_of}
use Rattle.revisions_extents_laws.proofs.Columns.{records-some, last_end}
use Rattle.revisions_extents_laws.proofs.Laid.{stands}
use Rattle.revisions_laws.specs.Refused.{MergeTooLong, MergeEnded}
use Rattle.revisions_laws.proofs.Ends.{merge-long, merge-records, last_block, end_is, q-long}

-- ---- 1 and 16 stand on no record

abbrev outside : ℕ → Bool
outside at = eqb (get_or refusals at no_row).number 1 || eqb (get_or refusals at no_row).number 16

none-outside : (at : ℕ) → at < length refusals → outside at ≡ false
unfolding first
none-outside at h =
    let e : first outside 0 (length refusals) ≡ 0 + length refusals = refl in
    first-pass outside 0 (length refusals) e at (omega arith) (omega arith)

not-one : (n kind k : ℕ) → TableAllows n kind k → n ≡ 1 → ⊥
not-one n kind k x e =
    let b = (get_or refusals x.at no_row).number in
    differ (sym (or-first (eqb b 1) (eqb b 16) (eq-eqb b 1 (x.number ∙ e))) ∙ none-outside x.at x.there)

not-sixteen : (n kind k : ℕ) → TableAllows n kind k → n ≡ 16 → ⊥
not-sixteen n kind k x e =
    let b = (get_or refusals x.at no_row).number in
    differ (sym (or-second (eqb b 1) (eqb b 16) (eq-eqb b 16 (x.number ∙ e))) ∙ none-outside x.at x.there)

listed-one : (s : List ℕ) (n r k : ℕ) → Listed s n r k → n ≡ 1 → BadLength (length s)
listed-one s _ _ _ (at_once b) e = b
listed-one s _ _ _ (on_record i kind n k l x t) e = absurd (not-one n kind k t e)
listed-one s _ _ _ (behind_last h) e = absurd (omega arith)

listed-sixteen : (s : List ℕ) (n r k : ℕ) → Listed s n r k → n ≡ 16
    → (i : ℕ) → i + 1 ≡ length s / 81 → name_in s i ≡ ENDENTRY → ⊥
listed-sixteen s _ _ _ (at_once b) e = absurd (omega arith)
listed-sixteen s _ _ _ (on_record i kind n k l x t) e = absurd (not-sixteen n kind k t e)
listed-sixteen s _ _ _ (behind_last h) e = h

-- ---- the merge

not-refused : (s : List ℕ) (n : ℕ) → 0 < n → (judge_of s).refusal ≡ n → Accepted s → ⊥
not-refused s n l e a = omega arith

module _ (held revision : List ℕ) (a : Accepted held) (b : Accepted revision) where
  abbrev m : List ℕ
  m = merge_of held revision

  long-enough : BadLength (length m) → 20000 < records_of m
  long-enough (none e) =
      let l = merge-records held revision a b in
      absurd (omega arith)
  long-enough (not_whole h) = let l = merge-long held revision a b in absurd (h (omega arith))
  long-enough (too_long h) = let l = merge-long held revision a b in omega arith

  from_one : (judge_of m).refusal ≡ 1 → 20000 < records_of m
  from_one e =
      long-enough
      (listed-one m (judge_of m).refusal (judge_of m).«record».0 (judge_of m).column
      (refusals_listed m (not-refused m 1 (omega arith) e)) e)

  by_length : 20000 < records_of m → judge_of m ≡ refused 1 (record { 0 = 0 }) 0
  by_length h = let l = merge-long held revision a b in length_first m (too_long (omega arith))

  last_name : name_in m (records_of m - 1) ≡ ENDENTRY
  last_name =
      let some = records-some revision b in
      let l = q-long held revision a b in
      let last = records_of revision - 1 in
      let q = block_at 81 revision last in
      let c = count_columns (how_many_of held revision) in
      ap identifier_of
      (field-of (block_at 81 m (records_of m - 1)) 0 (omega arith)
      ∙ ap (take 11) (last_block held revision a b ∙ end_is held revision a b)
      ∙ take_at (take 11 q) (c ++ drop 22 q) 11 (length-take-le 11 q (omega arith)))
      ∙ (stands revision b last ENDENTRY (omega arith) (last_end revision b last (omega arith))).written

  ended : (judge_of m).refusal ≡ 16 → ⊥
  ended e =
      let r = merge-records held revision a b in
      listed-sixteen m (judge_of m).refusal (judge_of m).«record».0 (judge_of m).column
      (refusals_listed m (not-refused m 16 (omega arith) e)) e (records_of m - 1) (omega arith) last_name

pub merge-too-long : MergeTooLong
merge-too-long held revision a b =
    record {
      exactly = (from_one held revision a b, λ h. ap (λ v. v.refusal) (by_length held revision a b h));
      beside = by_length held revision a b;
    }

pub merge-ended : MergeEnded
merge-ended held revision a b = ended held revision a b

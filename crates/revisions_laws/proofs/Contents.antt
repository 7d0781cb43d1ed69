-- What the merge holds, and that it holds nothing else.
-- Assumes nothing.
use Prim.Native.Nat.{ℕ, ◌-◌}
use mathlib.Core.Path.{◌≡◌, refl, sym, ap, subst, ◌∙◌}
use mathlib.Core.Bool.{Bool, true, false}
use mathlib.Core.List.{List, ◌++◌}
use lib.ListN.{length, take, drop}
use Rattle.laws.specs.Blocks.{block_at}
use Rattle.laws.specs.Members.{join_of}
use Rattle.laws.proofs.Booleans.{or_left, or_right}
use Rattle.paper_entry.specs.Judging.{Accepted}
use Rattle.paper_revisions.specs.Extents.{records_of, has}
use Rattle.paper_revisions.specs.Picking.{in_revision}
use Rattle.paper_revisions.specs.Merging.{present, chosen, how_many_of, entry_record, end_record, merge_of}
use Rattle.revisions_extents_laws.specs.Order.{part_in}
use Rattle.revisions_laws.specs.Picks.{one_of, bytes_under}
use Rattle.revisions_laws.specs.Contents.{PartSays, of_holder, of_neither, MergeParts, MergeWhole, MergeOfParts}
use Rattle.revisions_laws.proofs.Parts.{chosen-some, chosen_none, merge-has, merge-bytes}
use Rattle.revisions_laws.proofs.Ends.{merge-long, first_block, behind-inner, last_block}
use Rattle.revisions_laws.proofs.Whole.{join-same}
use Rattle.revisions_laws.proofs.Holders.{holds-is, is_held}

module _ (held revision : List ℕ) (n : ℕ) where
  said : PartSays held revision n (chosen held revision n)
  said = by-test (present held revision n) refl
    where
      by-test : (b : Bool) → present held revision n ≡ b → PartSays held revision n (chosen held revision n)
      by-test true e =
          subst (PartSays held revision n) (sym (chosen-some held revision n e))
          (of_holder (in_revision held revision n) (is_held held revision n e))
      by-test false e =
          subst (PartSays held revision n) (sym (chosen_none held revision n e))
          (of_neither (or_left (has held n) (has revision n) e) (or_right (has held n) (has revision n) e))

  answered : (part : List ℕ) → PartSays held revision n part → chosen held revision n ≡ part
  answered _ (of_holder which h) =
      let y = holds-is held revision n which h in
      chosen-some held revision n y.0 ∙ ap (λ (t : Bool). bytes_under (one_of held revision t) n) y.1
  answered _ (of_neither h r) = chosen_none held revision n (rw (h, r) refl)

module _ (held revision : List ℕ) (a : Accepted held) (b : Accepted revision) where
  -- what it holds under n is what was chosen
  part-chosen : (n : ℕ) → part_in (merge_of held revision) n ≡ chosen held revision n
  part-chosen n = by-test (present held revision n) refl
    where
      by-test : (t : Bool) → present held revision n ≡ t
          → part_in (merge_of held revision) n ≡ chosen held revision n
      by-test true e = rw (merge-has held revision a b n ∙ e) (merge-bytes held revision a b n e)
      by-test false e = rw (merge-has held revision a b n ∙ e) (sym (chosen_none held revision n e))

  all_in : merge_of held revision
      ≡ entry_record held revision
      ++ (join_of (chosen held revision) 1 998 ++ end_record revision (how_many_of held revision))
  unfolding merge_of
  all_in = refl

  whole : merge_of held revision
      ≡ block_at 81 (merge_of held revision) 0
      ++ (join_of (part_in (merge_of held revision)) 1 998
      ++ block_at 81 (merge_of held revision) (records_of (merge_of held revision) - 1))
  whole =
      let m = merge_of held revision in
      let last = block_at 81 m (records_of m - 1) in
      all_in
      ∙ ap (λ (l : List ℕ). entry_record held revision ++ (join_of (chosen held revision) 1 998 ++ l))
      (sym (last_block held revision a b))
      ∙ ap (λ (l : List ℕ). entry_record held revision ++ (l ++ last))
      (sym (join-same (part_in m) (chosen held revision) part-chosen 1 998))
      ∙ ap (λ (l : List ℕ). l ++ (join_of (part_in m) 1 998 ++ last)) (sym (first_block held revision a b))

  made : merge_of held revision
      ≡ take 81 (merge_of held revision)
      ++ (join_of (chosen held revision) 1 998
      ++ drop (length (merge_of held revision) - 81) (merge_of held revision))
  made =
      let m = merge_of held revision in
      let last = drop (length m - 81) m in
      all_in
      ∙ ap (λ (l : List ℕ). entry_record held revision ++ (join_of (chosen held revision) 1 998 ++ l))
      (sym (behind-inner held revision a b))
      ∙ ap (λ (l : List ℕ). l ++ (join_of (chosen held revision) 1 998 ++ last)) (sym (first_block held revision a b))

pub merge-parts : MergeParts
merge-parts held revision a b n part = (
  λ e. subst (PartSays held revision n) (sym (part-chosen held revision a b n) ∙ e) (said held revision n),
  λ x. part-chosen held revision a b n ∙ answered held revision n part x,
)

pub merge-whole : MergeWhole
merge-whole held revision a b = record { records = merge-long held revision a b; whole = whole held revision a b }

pub merge-of-parts : MergeOfParts
merge-of-parts held revision a b =
    record { part = chosen held revision; says = said held revision; made = made held revision a b }

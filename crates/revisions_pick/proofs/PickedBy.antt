-- What `picked` answers, by the cases of the code, and that a part lies in the entry that it names. Assumes nothing.
use Prim.Native.Nat.{ℕ, ◌+◌, ◌-◌, ◌*◌, ◌≤◌}
use mathlib.Core.Path.{◌≡◌, refl, sym, ◌∙◌}
use mathlib.Core.Bool.{Bool, true, false, cond, not, ◌||◌}
use mathlib.Core.List.{List}
use native.Mathlib.Omega.{arith}
use lib.Dec.{eqb, leb}
use lib.ListN.{length}
use borrow.Author.Tests.{ne_eqb}
use Rattle.laws.proofs.Booleans.{and_left, and-with-true, or-first, or-second}
use Rattle.paper_record.specs.Text.{within}
use Rattle.paper_rules.specs.Limits.{LAST-SUBENTRY}
use Rattle.paper_entry.specs.Answer.{first_of, answer_of}
use Rattle.paper_entry.proofs.Firsts.{first-given, none-given}
use Rattle.paper_revisions.specs.declared.types.Both.{Both}
use Rattle.paper_revisions.specs.declared.types.Extent.{Extent}
use Rattle.paper_revisions.specs.declared.types.Picked.{Picked}
use Rattle.paper_revisions.specs.Extents.{extent_of, has, date_at}
use Rattle.paper_revisions.specs.Taken.{some, by_revision}
use Rattle.paper_revisions.specs.Picking.{holder, in_revision, neither, is_gone, both_refusals, pick_refusal}
use Rattle.paper_revisions.specs.Picking.{answer_of_both, which_of_both, both_of, part_of, no_part, picked}
use Rattle.paper_revisions.proofs.ExtentLies.{extent-lies, has-no-number, has-by, in-revision-by}
use Rattle.revisions_pick.specs.Among.{among_refusals, picked_among, LiesInOne}
use Rattle.revisions_pick.proofs.BothBy.{both-number}

-- where the revision's records are taken there are some
pub taken-some : (held revision : List ℕ) (d e : Extent) {i : Bool} → i ≡ by_revision held revision d e → i ≡ true
    → some e ≡ true
taken-some held revision d e taken y =
    and_left (some e) (not (some d) || leb (date_at held d.from) (date_at revision e.from)) (sym taken ∙ y)

module _ (held revision : List ℕ) (n : ℕ) where
  -- ---- of two accepted entries with one accession

  by-gone : (g : Bool) (p : Picked)
      → cond (eqb (cond g 62 0) 0) p (no_part (answer_of (cond g 62 0)) 0) ≡ cond g (no_part (answer_of 62) 0) p
  by-gone true p = refl
  by-gone false p = refl

  among_one : (has held n || has revision n) ≡ true
      → picked_among held revision n
      ≡ cond (is_gone (holder held revision n) n) (no_part (answer_of 62) 0)
      (part_of (in_revision held revision n) (extent_of (holder held revision n) n))
  unfolding picked_among
  among_one e = rw e (by-gone (is_gone (holder held revision n) n) _)

  among_none : (has held n || has revision n) ≡ false → picked_among held revision n ≡ no_part (answer_of 32) 0
  unfolding picked_among
  among_none e = rw e refl

  -- ---- as the code meets them: whether n is a subentry's number, and by the extents whose records are taken

  pub among-no-number : {w : Bool} → w ≡ within 1 LAST-SUBENTRY n → w ≡ false
      → no_part (answer_of 32) 0 ≡ picked_among held revision n
  among-no-number said f =
      let z : within 1 LAST-SUBENTRY n ≡ false = sym said ∙ f in
      sym (among_none (rw (has-no-number held n z, has-no-number revision n z) refl))

  module _ {w i : Bool} {d e : Extent} (said : w ≡ within 1 LAST-SUBENTRY n) (t : w ≡ true) (of-held : d ≡ extent_of held n)
      (of-revision : e ≡ extent_of revision n) (taken : i ≡ by_revision held revision d e) where
    number : within 1 LAST-SUBENTRY n ≡ true
    number = sym said ∙ t

    in-revision : in_revision held revision n ≡ i
    in-revision = rw (in-revision-by n number held revision, ← of-held, ← of-revision) (sym taken)

    held_some : has held n ≡ some d
    held_some = rw (has-by n number held, ← of-held) refl

    revision_some : has revision n ≡ some e
    revision_some = rw (has-by n number revision, ← of-revision) refl

    pub among-revision : i ≡ true
        → cond (is_gone revision n) (no_part (answer_of 62) 0) (part_of true (extent_of revision n))
        ≡ picked_among held revision n
    among-revision y =
        let x : in_revision held revision n ≡ true = in-revision ∙ y in
        let h : has revision n ≡ true = revision_some ∙ taken-some held revision d e taken y in
        sym (rw x at (among_one (or-second (has held n) (has revision n) h)))

    pub among-held : i ≡ false → some d ≡ true
        → cond (is_gone held n) (no_part (answer_of 62) 0) (part_of false (extent_of held n)) ≡ picked_among held revision n
    among-held f y =
        let x : in_revision held revision n ≡ false = in-revision ∙ f in
        sym (rw x at (among_one (or-first (has held n) (has revision n) (held_some ∙ y))))

    -- where the held entry has none, the revision's are taken if there are some
    pub among-neither : i ≡ false → some d ≡ false → no_part (answer_of 32) 0 ≡ picked_among held revision n
    among-neither f y =
        let g : some e ≡ false = sym (rw y at taken ∙ and-with-true (some e)) ∙ f in
        sym (among_none (rw (held_some ∙ y, revision_some ∙ g) refl))

  -- ---- behind what both calls answer first

  not-60 : (x y : Bool) → eqb (cond x 32 (cond y 62 0)) 60 ≡ false
  not-60 true y = refl
  not-60 false true = refl
  not-60 false false = refl

  refused-number : (first_of (both_refusals held revision) ≡ 0 → ⊥)
      → pick_refusal held revision n ≡ first_of (both_refusals held revision)
  unfolding pick_refusal
  refused-number h = first-given (both_refusals held revision) (among_refusals held revision n) h

  among-number : first_of (both_refusals held revision) ≡ 0
      → pick_refusal held revision n ≡ first_of (among_refusals held revision n)
  unfolding pick_refusal
  among-number h = none-given (both_refusals held revision) (among_refusals held revision n) refl h

  module _ {x : Both} (same : x ≡ both_of held revision) where
    first-number : x.answer.number ≡ first_of (both_refusals held revision)
    first-number = rw same (both-number held revision)

    pub picked-refused : (x.answer.number ≡ 0 → ⊥) → no_part x.answer x.which ≡ picked held revision n
    unfolding picked both_of
    picked-refused h =
        let z : first_of (both_refusals held revision) ≡ 0 → ⊥ = λ e. h (first-number ∙ e) in
        rw (same, refused-number z, ne_eqb _ 0 z) refl

    pub picked-among : x.answer.number ≡ 0 → picked_among held revision n ≡ picked held revision n
    unfolding picked picked_among answer_of_both
    picked-among h =
        let z : first_of (both_refusals held revision) ≡ 0 = sym first-number ∙ h in
        rw (among-number z, not-60 (neither held revision n) (is_gone (holder held revision n) n)) refl

-- ---- the part lies in the one that it names

bytes_inside : (s : List ℕ) (n : ℕ)
    → (extent_of s n).from * 81 + ((extent_of s n).past - (extent_of s n).from) * 81 ≤ length s
bytes_inside s n = let l = extent-lies s n in omega (arith, l.rises, l.ends)

pub picked-lies : (held revision : List ℕ) (n : ℕ) → LiesInOne held revision (picked held revision n)
unfolding picked
picked-lies held revision n = by_number (eqb (pick_refusal held revision n) 0) (in_revision held revision n)
  where
    by_number : (t i : Bool)
        → LiesInOne held revision
        (cond t (part_of i (extent_of (cond i revision held) n))
        (no_part (answer_of_both held revision (pick_refusal held revision n))
        (which_of_both held revision (pick_refusal held revision n))))
    by_number true true = record { inside = bytes_inside revision n }
    by_number true false = record { inside = bytes_inside held n }
    by_number false i = record { inside = omega arith }

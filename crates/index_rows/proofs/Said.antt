-- What a row of an accepted entry says: its first record is the SUBENT or NOSUBENT with its number, and each section's
-- record is the one that its subentry has, or there is none. Assumes nothing.
use Prim.Native.Nat.{ℕ, zero, suc, ◌+◌, ◌-◌, ◌/◌, ◌<◌, ◌≤◌}
use mathlib.Core.Path.{◌≡◌, refl, sym, ap, ◌∙◌}
use mathlib.Core.Bool.{Bool, true, false}
use mathlib.Core.List.{List}
use mathlib.Core.Logic.{◌⊎◌, inl, inr}
use native.Mathlib.Omega.{arith}
use borrow.Author.Tests.{eqb-true, eqb-false}
use lib.Dec.{eqb}
use lib.ListN.{length}
use Rattle.laws.specs.Blocks.{block_at}
use Rattle.laws.proofs.Booleans.{or-either}
use Rattle.paper_record.specs.Fields.{fields_of}
use Rattle.paper_record.specs.Identifier.{SUBENT, NOSUBENT}
use Rattle.paper_record.specs.Places.{record_of}
use Rattle.paper_record.specs.declared.types.RecordNo.{RecordNo}
use Rattle.paper_rules.specs.Roles.{opens_subentry}
use Rattle.paper_entry.specs.Due.{phase_after}
use Rattle.paper_entry.specs.Judging.{Accepted}
use Rattle.paper_entry.specs.Contexts.{context_at, role_at}
use Rattle.entry_walk.proofs.Contexts.{records-at}
use Rattle.entry_walk.proofs.AcceptedWalk.{walked}
use Rattle.paper_questions.specs.declared.types.Row.{Row}
use Rattle.paper_questions.specs.Row.{NONE}
use Rattle.paper_questions.specs.Located.{row_at, row_of}
use Rattle.paper_questions.proofs.FoundRow.{found-row}
use Rattle.paper_questions.proofs.RowChanges.{Section, bib, common, table, opener, named, first-stays, first-set}
use Rattle.paper_questions.proofs.RowChanges.{section-stays, section-set}
use Rattle.inside.proofs.Nesting.{rank}
use Rattle.inside.proofs.RowFound.{nested-at, first-stands, row-names}
use Rattle.inside.proofs.RowWalked.{number-of, row_next}
use Rattle.paper_index.specs.Rows.{number_at}
use Rattle.index_rows.specs.Index.{OpensWith, RowNone, FoundHasFirst, RecordSaid, none, one, RowSaid}
use Rattle.index_rows.proofs.RowsWalked.{row_first}
use Rattle.index_rows.proofs.Found.{every-opened, found-opened}

record-here : (s : List ℕ) (i : ℕ) → (record_of (context_at s i).track.records).0 ≡ i + 1
record-here s i = ap (λ (k : ℕ). k + 1) (records-at s i)

-- ---- the first record

-- behind SUBENT one is inside the subentry, behind NOSUBENT past it
rank-opened : (role : ℕ) → opens_subentry role ≡ true → 1 ≤ rank (phase_after role)
unfolding phase_after
rank-opened role o =
    or-either (eqb role SUBENT) (eqb role NOSUBENT) o
    (λ q. rw (eqb-true role SUBENT q) (omega arith))
    (λ q. rw (eqb-true role NOSUBENT q) (omega arith))

first-is : (s : List ℕ) → Accepted s → (n i : ℕ) → OpensWith s n i → (row_of s n).first.0 ≡ i + 1
first-is s a n i x =
    let last = length s / 81 in
    let w = walked s a in
    let y = nested-at s last w (omega arith) i x.there in
    let b = rw (← y.behind) at (rank-opened (role_at s i) x.role) in
    let m = (y.opens x.role).0 ∙ x.bears in
    let e : suc i + (last - suc i) ≡ last = omega (arith, x.there) in
    let stands : (row_at s n last).first ≡ (row_at s n (suc i)).first =
    rw e at
    (first-stands s last w (omega arith) n (suc i) (omega arith) (last - suc i) (omega (arith, x.there))) in
    rw (found-row s n a, stands, row_next s n i)
    (ap (λ (r : RecordNo). r.0)
    (first-set (context_at s i).track (role_at s i) (fields_of (block_at 81 s i)) (row_at s n i) x.role
    (x.bears ∙ sym (number-of s n i)))
    ∙ record-here s i)

pub found-has-first : FoundHasFirst
found-has-first s a n h e =
    let (i, x) = found-opened s a n h in
    let f = first-is s a n i x in
    omega arith

-- a row has none where no record opens it
abbrev NoneOpens : List ℕ → ℕ → ℕ → Type 0
NoneOpens s n i = (k : ℕ) → k < i → opens_subentry (role_at s k) ≡ true → number_at s k ≡ n → ⊥

no-first : (s : List ℕ) (n i : ℕ) → NoneOpens s n i → (row_at s n i).first ≡ NONE
no-first s n zero h = ap (λ (x : Row). x.first) (row_first s n)
no-first s n (suc i) h =
    ap (λ (x : Row). x.first) (row_next s n i)
    ∙ first-stays (context_at s i).track (role_at s i) (fields_of (block_at 81 s i)) (row_at s n i)
    (λ o e. h i (omega arith) o (e ∙ number-of s n i))
    ∙ no-first s n i (λ k l. h k (omega arith))

pub row-none : RowNone
row-none s a n h =
    rw (found-row s n a)
    (no-first s n (length s / 81)
    (λ k l o e.
    let b = every-opened s a n k (record { there = l; role = o; bears = e }) in
    omega arith))

-- ---- the sections

-- the row names a record of that subentry, or none
abbrev Named : List ℕ → ℕ → Section → ℕ → Type 0
Named s n k i =
    ((named k (row_at s n i)).0 ≡ 0)
    ⊎ ((j : ℕ) × (j < i) × (role_at s j ≡ opener k) × ((context_at s j).track.subentry.number ≡ n)
    × ((named k (row_at s n i)).0 ≡ j + 1))

module _ (s : List ℕ) (n : ℕ) (k : Section) where
  none_named : (k : Section) → (named k (row_at s n 0)).0 ≡ 0
  unfolding row_at
  none_named bib = refl
  none_named common = refl
  none_named table = refl

  here : (i : ℕ) → role_at s i ≡ opener k → (context_at s i).track.subentry.number ≡ n → Named s n k (suc i)
  here i e m =
      inr (
        i,
        omega arith,
        e,
        m,
        rw (row_next s n i)
            (ap (λ (r : RecordNo). r.0)
            (section-set (context_at s i).track (role_at s i) (fields_of (block_at 81 s i)) (row_at s n i) k e
            (m ∙ sym (number-of s n i)))
            ∙ record-here s i),
      )

  earlier : (i : ℕ) → (role_at s i ≡ opener k → (context_at s i).track.subentry.number ≡ n → ⊥)
      → Named s n k i → Named s n k (suc i)
  earlier i h before = by-case before
    where
      stays : (named k (row_at s n (suc i))).0 ≡ (named k (row_at s n i)).0
      stays =
          rw (row_next s n i)
          (ap (λ (r : RecordNo). r.0)
          (section-stays (context_at s i).track (role_at s i) (fields_of (block_at 81 s i)) (row_at s n i) k
          (λ e m. h e (m ∙ number-of s n i))))

      by-case : Named s n k i → Named s n k (suc i)
      by-case (inl z) = inl (stays ∙ z)
      by-case (inr (j, l, e, m, z)) = inr (j, omega arith, e, m, stays ∙ z)

  named-at : (i : ℕ) → Named s n k i
  named-at zero = inl (none_named k)
  named-at (suc i) =
      by_tests (eqb (role_at s i) (opener k)) refl (eqb (context_at s i).track.subentry.number n) refl (named-at i)
    where
      by_tests : (a : Bool) → eqb (role_at s i) (opener k) ≡ a
          → (b : Bool) → eqb (context_at s i).track.subentry.number n ≡ b → Named s n k i → Named s n k (suc i)
      by_tests true p true q before = here i (eqb-true _ _ p) (eqb-true _ _ q)
      by_tests true p false q before = earlier i (λ e m. eqb-false _ _ q m) before
      by_tests false p b q before = earlier i (λ e m. eqb-false _ _ p e) before

  pub section-said : Accepted s → RecordSaid s n (opener k) (named k (row_of s n))
  section-said a = by-case (named-at (length s / 81))
    where
      at-end : (named k (row_of s n)).0 ≡ (named k (row_at s n (length s / 81))).0
      at-end = ap (λ (x : Row). (named k x).0) (found-row s n a)

      by-case : Named s n k (length s / 81) → RecordSaid s n (opener k) (named k (row_of s n))
      by-case (inl z) =
          none (at-end ∙ z) (λ i o. let e = row-names s a n k i o in let f = at-end ∙ z in omega arith)
      by-case (inr (j, l, e, m, z)) = one j (record { there = l; role = e; subentry = m }) (at-end ∙ z)

pub row-said : RowSaid
row-said s a n i x =
    record {
      number = ap (λ (x : Row). x.number) (found-row s n a) ∙ number-of s n (length s / 81);
      first = first-is s a n i x;
      bib = section-said s n bib a;
      common = section-said s n common a;
      «data» = section-said s n table a;
    }

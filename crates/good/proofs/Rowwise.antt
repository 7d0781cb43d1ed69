-- A row of a table, record by record, without the judge's contexts; and the context behind it.
-- Assumes nothing; what the rules of a kind of row have to satisfy stands in the section's parameters.
use Prim.Native.Nat.{ℕ, suc, ◌+◌, ◌-◌, ◌<◌, ◌≤◌}
use mathlib.Core.Path.{◌≡◌, refl, sym, ◌∙◌, ap}
use mathlib.Core.Bool.{Bool, true, false}
use mathlib.Core.Logic.{◌↔◌}
use mathlib.Core.List.{List, [], ◌∷◌, ◌++◌, append-nil, append_assoc}
use native.Mathlib.Omega.{arith}
use lib.ListN.{length}
use borrow.Author.Tests.{le-leb, lt-leb}
use Rattle.laws.specs.Walk.{All}
use Rattle.laws.specs.Blocks.{joined}
use Rattle.paper_record.specs.Places.{records_for}
use Rattle.paper_rules.specs.declared.types.Table.{Table}
use Rattle.paper_rules.specs.State.{Context}
use Rattle.paper_rules.specs.Every.{expected_identification, expected_sequence}
use Rattle.good.specs.Parts.{Record}
use Rattle.good.specs.Marks.{Following}
use Rattle.good.proofs.Steps.{Takes, next, MarkedFor, takes-marked}
use Rattle.good.proofs.Runs.{Run, after_run}
use Rattle.good.proofs.Moves.{Moved, moved_on, recount}
use Rattle.good.proofs.Systems.{identification_in, Here}
use Rattle.good.proofs.Rows.{Kind, headings, units, values, role_for, numbers_of, lines_of, joined_by, last_of}
use Rattle.good.proofs.Rows.{row_step}
use Rattle.good.proofs.RowPlaces.{RowAt, NoEnd, row_same}

-- ---- marks

pub row-marked : (k : Kind) (d : Bool) (c : Context) (r : Record) → MarkedFor c (role_for k d) r ↔ Here c r
unfolding expected_identification expected_sequence
row-marked headings false c r = (λ m. m, λ m. m)
row-marked headings true c r = (λ m. m, λ m. m)
row-marked units false c r = (λ m. m, λ m. m)
row-marked units true c r = (λ m. m, λ m. m)
row-marked values false c r = (λ m. m, λ m. m)
row-marked values true c r = (λ m. m, λ m. m)

-- ---- the numbers of a row, record by record: `count rest r` are those of a record with so many columns left

unfoldable pub count_row : (ℕ → Record → ℕ) → ℕ → List Record → ℕ
count_row count rest [] = 0
count_row count rest (r ∷ rs) = count rest r + count_row count (rest - 6) rs

abbrev pub joined_row : Kind → List ℕ → List Record → List ℕ
joined_row headings part rs = part ++ joined rs
joined_row units part rs = part
joined_row values part rs = part

pub record BehindRow (c e : Context) (d : Bool) (k : Kind) (rs : List Record) (m : ℕ) : Type 0 where
  pub moved : Moved c e (length rs) 0 (lines_of k d true) m
  pub section : e.track.section ≡ c.track.section + length rs
  pub part : e.seen.table ≡ joined_row k c.seen.table rs
  pub bib : e.seen.bib ≡ c.seen.bib
  pub common : e.seen.common ≡ c.seen.common
  pub blank : e.track.table.blank ≡ true

no_lines : (k : Kind) (d : Bool) → lines_of k d false ≡ 0
no_lines headings d = refl
no_lines units d = refl
no_lines values false = refl
no_lines values true = refl

part-one : (k : Kind) (part r : List ℕ) → joined_by k part r ≡ joined_row k part (r ∷ [])
unfolding joined
part-one headings part r = ap (λ (w : List ℕ). part ++ w) (sym (append-nil r))
part-one units part r = refl
part-one values part r = refl

part-more : (k : Kind) (part r : List ℕ) (rs : List Record)
    → joined_row k (joined_by k part r) rs ≡ joined_row k part (r ∷ rs)
unfolding joined
part-more headings part r rs = append_assoc part r (joined rs)
part-more units part r rs = refl
part-more values part r rs = refl

module _ (d : Bool) (k : Kind) (count : ℕ → Record → ℕ)
    (counts : (c : Context) (r : Record) → Takes c (role_for k d) r → numbers_of k d c r ≡ count
    c.track.table.rest r)
  where
    pub behind-row : (n last line rest : ℕ) (c : Context) (rs : List Record) → RowAt c d k n last line rest → 1 ≤ rest
        → length rs ≡ records_for rest → Run NoEnd (role_for k d) c rs
        → BehindRow c (after_run (role_for k d) c rs) d k rs (count_row count rest rs)
    unfolding Run after_run count_row
    behind-row n last line rest c [] a p l run = absurd (omega arith)
    behind-row n last line rest c (r ∷ []) a p l run =
        let s = row_step k d c r in
        let b : last_of c ≡ true = rw a.left (le-leb rest 6 (omega arith)) in
        let t = rw b at s.table in
        let q = counts c r run.1 ∙ ap (λ (x : ℕ). count x r) a.left in
        record {
          moved = recount 1 0 (lines_of k d true) (count rest r + 0) s.moved refl refl (ap (lines_of k d) b)
              (omega arith);
          section = s.section;
          part = s.part ∙ part-one k c.seen.table r;
          bib = s.bib;
          common = s.common;
          blank = ap (λ (x : Table). x.blank) t;
        }
    behind-row n last line rest c (r ∷ r' ∷ rs) a p l run =
        let s = row_step k d c r in
        let b : last_of c ≡ false = rw a.left (lt-leb rest 6 (omega arith)) in
        let q = counts c r run.1 ∙ ap (λ (x : ℕ). count x r) a.left in
        let o = ap (lines_of k d) b ∙ no_lines k d in
        let w = behind-row n last line (rest - 6) (next c (role_for k d) r) (r' ∷ rs)
        (row_same d k n last line rest c r a (omega arith)) (omega arith) (omega arith) run.2 in
        record {
          moved = recount (suc (suc (length rs))) 0 (lines_of k d true) (count_row count rest (r ∷ r' ∷ rs))
              (moved_on s.moved w.moved) (omega arith) refl (omega arith) (omega arith);
          section = let x = s.section in let y = w.section in omega arith;
          part = w.part ∙ ap (λ (x : List ℕ). joined_row k x (r' ∷ rs)) s.part ∙ part-more k c.seen.table r
              (r' ∷ rs);
          bib = w.bib ∙ s.bib;
          common = w.common ∙ s.common;
          blank = w.blank;
        }

-- ---- the rules of a row, record by record

-- The judge's context moves with each record: six columns fewer are left, the records of the row before grow by one,
-- their numbers add up. `RowFine` says the same without contexts, and `run_row` that both say the same. It stops at the
-- last record of the row, since the context behind that one belongs to the next row.

-- `before` are the records of the row before it, and m their numbers
unfoldable pub RowFine : (ℕ → List Record → ℕ → Record → Type 0) → (ℕ → Record → ℕ)
    → ℕ → List Record → ℕ → List Record → Type 0
RowFine Fine count rest before m [] = Unit
RowFine Fine count rest before m (r ∷ rs) =
    Fine rest before m r × RowFine Fine count (rest - 6) (before ++ (r ∷ [])) (m + count rest r) rs

module _ (d : Bool) (k : Kind) (count : ℕ → Record → ℕ) (Fine : ℕ → List Record → ℕ → Record → Type 0)
    (Knows : Context → List Record → ℕ → Type 0)
    (to : (c : Context) (rest : ℕ) (before : List Record) (m : ℕ) (r : Record) → c.track.table.rest ≡ rest
    → Knows c before m → Takes c (role_for k d) r → Fine rest before m r)
    (from : (c : Context) (rest : ℕ) (before : List Record) (m : ℕ) (r : Record) → c.track.table.rest ≡ rest
    → Knows c before m → MarkedFor c (role_for k d) r → Fine rest before m r → Takes c (role_for k d) r)
    (onward : (c : Context) (rest : ℕ) (before : List Record) (m : ℕ) (r : Record) → c.track.table.rest ≡ rest
    → Knows c before m → 6 < rest → Takes c (role_for k d) r
    → Knows (next c (role_for k d) r) (before ++ (r ∷ [])) (m + count rest r))
  where
    pub run_row : (n last line rest : ℕ) (c : Context) (identification : List ℕ) (s : ℕ) (before : List Record) (m : ℕ)
        (rs : List Record) → RowAt c d k n last line rest → 1 ≤ rest → identification_in c ≡ identification
        → c.track.subentry.records + 2 ≡ s → Knows c before m → length rs ≡ records_for rest
        → Run NoEnd (role_for k d) c rs
        ↔ (All NoEnd rs × Following identification s rs × RowFine Fine count rest before m rs)
    unfolding Run Following RowFine
    run_row n last line rest c identification s before m [] a p i q e l = absurd (omega arith)
    run_row n last line rest c identification s before m (r ∷ []) a p i q e l = (
      λ run. (
        (run.0, tt),
        (rw (i, q) at ((row-marked k d c r).0 (takes-marked c (role_for k d) r run.1)), tt),
        (to c rest before m r a.left e run.1, tt),
      ),
      λ h.
          (h.0.0, from c rest before m r a.left e ((row-marked k d c r).1 (rw (i, q) h.1.0)) h.2.0, tt),
    )
    run_row n last line rest c identification s before m (r ∷ r' ∷ rs) a p i q e l =
        let st = row_step k d c r in
        let rest' : Takes c (role_for k d) r → Run NoEnd (role_for k d) (next c (role_for k d) r) (r' ∷ rs)
        ↔ (All NoEnd (r' ∷ rs) × Following identification (s + 1) (r' ∷ rs)
        × RowFine Fine count (rest - 6) (before ++ (r ∷ [])) (m + count rest r) (r' ∷ rs)) = λ t.
        let x = st.moved.records in
        let h = a.left in
        run_row n last line (rest - 6) (next c (role_for k d) r) identification (s + 1) (before ++ (r ∷ []))
        (m + count rest r) (r' ∷ rs) (row_same d k n last line rest c r a (omega arith)) (omega arith)
        (rw (st.moved.accession, st.moved.number) i) (omega arith)
        (onward c rest before m r a.left e (omega arith) t) (omega arith) in (
          λ run.
              let w = (rest' run.1).0 run.2 in (
                (run.0, w.0),
                (rw (i, q) at ((row-marked k d c r).0 (takes-marked c (role_for k d) r run.1)), w.1),
                (to c rest before m r a.left e run.1, w.2),
              ),
          λ h.
              let t = from c rest before m r a.left e ((row-marked k d c r).1 (rw (i, q) h.1.0)) h.2.0 in
              (h.0.0, t, (rest' t).1 (h.0.1, h.1.1, h.2.1)),
        )

-- Between two records that stand in the same section of the same subentry no record opens a subentry or a section, so
-- that the rows stay as they are. Assumes nothing.
use Prim.Native.Nat.{ℕ, zero, suc, ◌+◌, ◌*◌, ◌-◌, ◌<◌, ◌≤◌}
use mathlib.Core.Path.{◌≡◌, refl, ◌∙◌}
use mathlib.Core.Bool.{Bool, true, false}
use mathlib.Core.List.{List}
use native.Mathlib.Omega.{arith}
use borrow.Author.Tests.{eqb-true}
use lib.Dec.{eqb}
use lib.ListN.{length}
use Rattle.laws.proofs.Booleans.{or-either}
use Rattle.paper_record.specs.Identifier.{BIB, COMMON, DATA}
use Rattle.paper_rules.specs.Roles.{opens_subentry, opens_section}
use Rattle.paper_entry.specs.Contexts.{context_at, role_at}
use Rattle.entry_walk.proofs.AcceptedWalk.{Walked}
use Rattle.paper_questions.specs.Located.{row_at}
use Rattle.inside.proofs.Nesting.{rank, key}
use Rattle.inside.proofs.RowFound.{nested-at, key-rises}
use Rattle.paper_index.specs.Rows.{opened_to}
use Rattle.index_rows.proofs.Opened.{opened-same}
use Rattle.index_rows.proofs.RowsWalked.{row_plain}

module _ (s : List ℕ) (n : ℕ) (w : Walked s n) (fits : n * 81 ≤ length s) (a e half : ℕ) (inside : a + e ≤ n)
    (section : rank (context_at s a).phase ≡ 2 * half) (same : key (context_at s (a + e)) ≡ key (context_at s a)) where
  -- the nesting does not rise
  level : (j : ℕ) → j ≤ e → key (context_at s (a + j)) ≡ key (context_at s a)
  level j h =
      let d : ℕ = e - j in
      let z : a + j + d ≡ a + e = omega arith in
      let up = key-rises s n w fits a j (omega arith) in
      let down = rw z at (key-rises s n w fits (a + j) d (omega arith)) in
      omega arith

  -- so no record opens a subentry or a section
  none-opened : (j : ℕ) → j < e → opens_subentry (role_at s (a + j)) ≡ false
  none-opened j h = by-test (opens_subentry (role_at s (a + j))) refl
    where
      by-test : (b : Bool) → opens_subentry (role_at s (a + j)) ≡ b → b ≡ false
      by-test true o =
          let x = (nested-at s n w fits (a + j) (omega arith)).opens o in
          let number = x.0 in
          let below = x.1 in
          let here = level j (omega arith) in
          let z : a + suc j ≡ suc (a + j) = omega arith in
          let behind = rw z at (level (suc j) (omega arith)) in
          absurd (omega arith)
      by-test false o = refl

  no-section : (j : ℕ) → j < e → opens_section (role_at s (a + j)) ≡ false
  no-section j h = by-test (opens_section (role_at s (a + j))) refl
    where
      role : ℕ
      role = role_at s (a + j)

      by-test : (b : Bool) → opens_section role ≡ b → b ≡ false
      by-test true o =
          let x = nested-at s n w fits (a + j) (omega arith) in
          let here = level j (omega arith) in
          or-either (eqb role BIB) _ o
          (λ q. let z = x.bib (eqb-true role BIB q) in absurd (omega arith))
          (λ q.
          or-either (eqb role COMMON) _ q
          (λ q. let z = x.common (eqb-true role COMMON q) in absurd (omega arith))
          (λ q. let z = x.«data» (eqb-true role DATA q) in absurd (omega arith)))
      by-test false o = refl

  -- and the rows stay
  pub rows_stay : (number j : ℕ) → j ≤ e → row_at s number (a + j) ≡ row_at s number a
  rows_stay number zero h = let z : a + 0 ≡ a = omega arith in rw z
  rows_stay number (suc j) h =
      let z : a + suc j ≡ suc (a + j) = omega arith in
      rw z
      (row_plain s n w fits number (a + j) (none-opened j (omega arith)) (no-section j (omega arith))
      ∙ rows_stay number j (omega arith))

  pub opened-stay : (j : ℕ) → j ≤ e → opened_to s (a + j) ≡ opened_to s a
  opened-stay zero h = let z : a + 0 ≡ a = omega arith in rw z
  opened-stay (suc j) h =
      let z : a + suc j ≡ suc (a + j) = omega arith in
      rw z (opened-same s (a + j) (none-opened j (omega arith)) ∙ opened-stay j (omega arith))

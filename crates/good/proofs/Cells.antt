-- The cells of a row: by record and field, and by column. Assumes nothing.
use Prim.Native.Nat.{ℕ, ◌+◌, ◌-◌, ◌*◌, ◌<◌, ◌≤◌}
use mathlib.Core.Path.{◌≡◌, refl, ap}
use mathlib.Core.Bool.{Bool, true, false, cond}
use mathlib.Core.List.{List, [], ◌∷◌, ◌++◌}
use native.Mathlib.Omega.{arith}
use lib.Dec.{leb}
use lib.ListN.{length, get_or}
use borrow.Author.Tests.{leb-true, leb-false}
use Rattle.laws.proofs.Search.{either}
use Rattle.paper_record.specs.Fields.{field_at, fields_of}
use Rattle.paper_record.proofs.ReadColumns.{field-of}
use Rattle.paper_rules.specs.declared.types.Track.{Track}
use Rattle.paper_rules.specs.State.{used}
use Rattle.rules_plain.specs.Places.{cell}
use Rattle.rules_plain.proofs.Rows.{cell-here, cell-there}
use Rattle.good.specs.Parts.{Record}
use Rattle.good.proofs.Rowwise.{RowFine}

-- ---- a record's fields

pub field-at : (r : Record) (j : ℕ) → j < 6 → get_or (fields_of r) j [] ≡ field_at r j
field-at r j l = field-of r j l

-- six, or what is left of the columns
abbrev pub few : ℕ → ℕ
few rest = cond (leb rest 6) rest 6

pub few-used : (t : Track) (rest : ℕ) → t.table.rest ≡ rest → used t ≡ few rest
unfolding used
few-used t rest e = ap few e

pub few-least : (rest : ℕ) → few rest ≤ 6
few-least rest = by-test (leb rest 6) refl
  where
    by-test : (b : Bool) → leb rest 6 ≡ b → cond b rest 6 ≤ 6
    by-test true e = leb-true rest 6 e
    by-test false e = omega arith

pub below-few : (rest j : ℕ) → j < few rest → j < rest
below-few rest j = by-test (leb rest 6) refl
  where
    by-test : (b : Bool) → leb rest 6 ≡ b → j < cond b rest 6 → j < rest
    by-test true e l = l
    by-test false e l = let x = leb-false rest 6 e in omega arith

pub few-below : (rest j : ℕ) → j < 6 → j < rest → j < few rest
few-below rest j = by-test (leb rest 6)
  where
    by-test : (b : Bool) → j < 6 → j < rest → j < cond b rest 6
    by-test true l m = m
    by-test false l m = l

pub few_past : (rest j : ℕ) → j < 6 → rest ≤ j → few rest ≤ j
few_past rest j = by-test (leb rest 6) refl
  where
    by-test : (b : Bool) → leb rest 6 ≡ b → j < 6 → rest ≤ j → cond b rest 6 ≤ j
    by-test true e l m = m
    by-test false e l m = let x = leb-false rest 6 e in omega arith

-- ---- by column

-- the used fields of a record have one property, the unused ones another
pub record Cells (Used Unused : List ℕ → Type 0) (rest : ℕ) (r : Record) : Type 0 where
  pub used : (j : ℕ) → j < 6 → j < rest → Used (field_at r j)
  pub unused : (j : ℕ) → j < 6 → rest ≤ j → Unused (field_at r j)

module _ (Used Unused : List ℕ → Type 0) (Fine : ℕ → List Record → ℕ → Record → Type 0) (count : ℕ → Record → ℕ)
    (cells : (rest : ℕ) (before : List Record) (m : ℕ) (r : Record) → Fine rest before m r
    → Cells Used Unused rest r) where
  pub fine-used : (rest : ℕ) (before : List Record) (m : ℕ) (rs : List Record) → RowFine Fine count rest before m rs
      → (c : ℕ) → c < length rs * 6 → c < rest → Used (cell rs c)
  unfolding RowFine
  fine-used rest before m [] h c l u = absurd (omega arith)
  fine-used rest before m (r ∷ rs) h c l u =
      either c 6
      (λ a. rw (cell-here r rs c a) ((cells rest before m r h.0).used c a u))
      (λ a. rw (cell-there r rs c a)
      (fine-used (rest - 6) (before ++ (r ∷ [])) (m + count rest r) rs h.1 (c - 6) (omega arith) (omega arith)))

  pub fine-unused : (rest : ℕ) (before : List Record) (m : ℕ) (rs : List Record) → RowFine Fine count rest before m rs
      → (c : ℕ) → rest ≤ c → c < length rs * 6 → Unused (cell rs c)
  unfolding RowFine
  fine-unused rest before m [] h c u l = absurd (omega arith)
  fine-unused rest before m (r ∷ rs) h c u l =
      either c 6
      (λ a. rw (cell-here r rs c a) ((cells rest before m r h.0).unused c a u))
      (λ a. rw (cell-there r rs c a)
      (fine-unused (rest - 6) (before ++ (r ∷ [])) (m + count rest r) rs h.1 (c - 6) (omega arith) (omega arith)))

-- the cells of the first record
pub cells-here : (Used Unused : List ℕ → Type 0) (rest : ℕ) (r : Record) (rs : List Record)
    → ((c : ℕ) → c < length (r ∷ rs) * 6 → c < rest → Used (cell (r ∷ rs) c))
    → ((c : ℕ) → rest ≤ c → c < length (r ∷ rs) * 6 → Unused (cell (r ∷ rs) c))
    → Cells Used Unused rest r
cells-here Used Unused rest r rs u v =
    record {
      used = λ j l a. rw (cell-here r rs j l) at (u j (omega arith) a);
      unused = λ j l a. rw (cell-here r rs j l) at (v j a (omega arith));
    }

-- and those of the others
pub used-there : (Used : List ℕ → Type 0) (rest : ℕ) (r : Record) (rs : List Record)
    → ((c : ℕ) → c < length (r ∷ rs) * 6 → c < rest → Used (cell (r ∷ rs) c))
    → (c : ℕ) → c < length rs * 6 → c < rest - 6 → Used (cell rs c)
used-there Used rest r rs u c l a =
    let e : c + 6 - 6 ≡ c = omega arith in
    rw (cell-there r rs (c + 6) (omega arith), e) at (u (c + 6) (omega arith) (omega arith))

pub unused-there : (Unused : List ℕ → Type 0) (rest : ℕ) (r : Record) (rs : List Record)
    → ((c : ℕ) → rest ≤ c → c < length (r ∷ rs) * 6 → Unused (cell (r ∷ rs) c))
    → (c : ℕ) → rest - 6 ≤ c → c < length rs * 6 → Unused (cell rs c)
unused-there Unused rest r rs v c a l =
    let e : c + 6 - 6 ≡ c = omega arith in
    rw (cell-there r rs (c + 6) (omega arith), e) at (v (c + 6) (omega arith) (omega arith))

-- One record of a file: its role by where it stands, and the turn by its role.
-- Assumes nothing.
use Prim.Native.Nat.{ℕ, ◌+◌, ◌<◌, ◌≤◌}
use mathlib.Core.Path.{◌≡◌, refl, ◌∙◌}
use mathlib.Core.Bool.{Bool, true, false, cond, ◌&&◌}
use mathlib.Core.List.{List}
use native.Mathlib.Omega.{arith}
use borrow.Author.Tests.{eqb-true, leb-true, ne_eqb, le-leb, lt-leb}
use lib.Dec.{eqb, leb}
use Rattle.laws.specs.Turns.{go, out}
use Rattle.laws.proofs.Booleans.{and_none}
use Rattle.paper_record.specs.Places.{record_of}
use Rattle.paper_record.specs.Fields.{fields_of}
use Rattle.paper_record.specs.Identifier.{ENTRY, TRANS, ENDTRANS}
use Rattle.paper_rules.specs.Roles.{NOT-DUE}
use Rattle.paper_faults.specs.Fault.{first_fault, fault_at, faultless}
use Rattle.paper_rules.specs.declared.types.Totals.{Totals}
use Rattle.paper_rules.specs.State.{Context, start_context}
use Rattle.paper_rules.specs.Limits.{MOST-RECORDS}
use Rattle.paper_rules.specs.Role.{only}
use Rattle.laws.proofs.EitherWay.{either_way}
use Rattle.paper_entry.specs.Verdict.{refused_within}
use Rattle.paper_entry.specs.Contexts.{behind}
use Rattle.entry_walk.specs.First.{found_in}
use Rattle.paper_files.specs.Outside.{outside_findings}
use Rattle.paper_files.specs.declared.types.Stage.TheVariants.{Within, Behind}
use Rattle.paper_files.specs.File.{FileContext, start_file, OF-ENTRY, name_of, closes, file_role, file_findings}
use Rattle.paper_files.specs.File.{ordinal_of, at_stage, behind_entry, file_after, on_file_fault, file_turn}

-- ---- the turn by the role

-- a record of the entry in hand
turn_inside : (f : FileContext) (r : List ℕ) → file_role f r ≡ OF-ENTRY
    → file_turn f 0 r
    ≡ on_file_fault (ordinal_of f r) (record_of f.records) (first_fault (found_in f.entry r))
    (behind_entry f (behind f.entry r))
unfolding file_turn file_findings file_after
turn_inside f r e = rw e refl

-- a record that belongs to no entry
turn-outside : (f : FileContext) (r : List ℕ) (role : ℕ) → file_role f r ≡ role → eqb role OF-ENTRY ≡ false
    → file_turn f 0 r
    ≡ on_file_fault (ordinal_of f r) (record_of f.records)
    (first_fault (outside_findings f.entries role (fields_of r) r))
    (cond (eqb role TRANS) (at_stage f Within) (at_stage f Behind))
unfolding file_turn file_findings file_after
turn-outside f r role e o = rw (e, o) refl

module _ (f : FileContext) (r : List ℕ) where
  pub inside-go : file_role f r ≡ OF-ENTRY → first_fault (found_in f.entry r) ≡ faultless
      → file_turn f 0 r ≡ go (behind_entry f (behind f.entry r))
  inside-go e h = turn_inside f r e ∙ rw h refl

  pub inside-out : (o n k : ℕ) → file_role f r ≡ OF-ENTRY → ordinal_of f r ≡ o
      → first_fault (found_in f.entry r) ≡ fault_at n k
      → file_turn f 0 r ≡ out (refused_within o n (record_of f.records) k)
  inside-out o n k e q h = turn_inside f r e ∙ rw (h, q) refl

  pub outside-go : (role : ℕ) → file_role f r ≡ role → eqb role OF-ENTRY ≡ false
      → first_fault (outside_findings f.entries role (fields_of r) r) ≡ faultless
      → file_turn f 0 r ≡ go (cond (eqb role TRANS) (at_stage f Within) (at_stage f Behind))
  outside-go role e o h = turn-outside f r role e o ∙ rw h refl

  pub outside-out : (role : ℕ) → file_role f r ≡ role → eqb role OF-ENTRY ≡ false
      → (o n k : ℕ) → ordinal_of f r ≡ o
      → first_fault (outside_findings f.entries role (fields_of r) r) ≡ fault_at n k
      → file_turn f 0 r ≡ out (refused_within o n (record_of f.records) k)
  outside-out role e o p n k q h = turn-outside f r role e o ∙ rw (h, q) refl

-- ---- behind TRANS

-- n records stand before; e entries have ended, and come to t; c is the context of the entry in hand
abbrev pub standing : ℕ → ℕ → Totals → Context → FileContext
standing n e t c = record { stage = Within; records = record { 0 = n }; entries = e; totals = t; entry = c }

module _ (n e : ℕ) (t : Totals) (c : Context) (r : List ℕ) where
  -- inside an entry nothing closes the file
  pub open-inside : 0 < c.track.records.0 → closes (standing n e t c) (name_of r) ≡ false
  open-inside h = rw (ne_eqb c.track.records.0 0 (λ z. omega arith))

  -- nor does a record that is not ENDTRANS, nor ENDTRANS with no entry before it
  pub open-else : (1 ≤ e → name_of r ≡ ENDTRANS → ⊥) → closes (standing n e t c) (name_of r) ≡ false
  open-else h =
      and_none (eqb c.track.records.0 0) (leb 1 e && eqb (name_of r) ENDTRANS)
      (by_tests (leb 1 e) refl (eqb (name_of r) ENDTRANS) refl)
    where
      by_tests : (a : Bool) → leb 1 e ≡ a → (b : Bool) → eqb (name_of r) ENDTRANS ≡ b → (a && b) ≡ false
      by_tests true p true q = absurd (h (leb-true 1 e p) (eqb-true (name_of r) ENDTRANS q))
      by_tests true p false q = refl
      by_tests false p b q = refl

  pub role-inside : closes (standing n e t c) (name_of r) ≡ false → c.track.records.0 < MOST-RECORDS
      → file_role (standing n e t c) r ≡ OF-ENTRY
  unfolding file_role
  role-inside p h = rw (p, lt-leb MOST-RECORDS c.track.records.0 h) refl

  pub ordinal-inside : 0 < c.track.records.0 → ordinal_of (standing n e t c) r ≡ e + 1
  unfolding ordinal_of
  ordinal-inside h = rw (ne_eqb c.track.records.0 0 (λ z. omega arith)) refl

  -- ENTRY begins the next one
  pub ordinal-begun : name_of r ≡ ENTRY → ordinal_of (standing n e t c) r ≡ e + 1
  unfolding ordinal_of
  ordinal-begun h = rw h (by-test (eqb c.track.records.0 0))
    where
      by-test : (b : Bool) → cond (b && false) 0 (e + 1) ≡ e + 1
      by-test true = refl
      by-test false = refl

-- between two entries
module _ (n e : ℕ) (t : Totals) (r : List ℕ) where
  pub ordinal-none : (name_of r ≡ ENTRY → ⊥) → ordinal_of (standing n e t start_context) r ≡ 0
  unfolding ordinal_of
  ordinal-none h = rw (ne_eqb (name_of r) ENTRY h) refl

  pub role-ending : 1 ≤ e → name_of r ≡ ENDTRANS → file_role (standing n e t start_context) r ≡ ENDTRANS
  unfolding file_role
  role-ending h p = rw (p, le-leb 1 e h) refl

-- behind the most records that an entry may have
pub role-full : (n e : ℕ) (t : Totals) (c : Context) (r : List ℕ) → MOST-RECORDS ≤ c.track.records.0
    → file_role (standing n e t c) r ≡ NOT-DUE
unfolding file_role
role-full n e t c r h =
    rw (open-inside n e t c r (omega arith), le-leb MOST-RECORDS c.track.records.0 h) refl

-- ---- before TRANS, and behind ENDTRANS

pub role-opening : (r : List ℕ) → file_role start_file r ≡ only TRANS (name_of r)
unfolding file_role
role-opening r = refl

pub ordinal-opening : (r : List ℕ) → ordinal_of start_file r ≡ 0
unfolding ordinal_of
ordinal-opening r = refl

pub only-outside : (k : ℕ) → eqb (only TRANS k) OF-ENTRY ≡ false
only-outside k = either_way (λ x. eqb x OF-ENTRY ≡ false) (eqb k TRANS) _ _ refl refl

pub role-behind : (f : FileContext) (r : List ℕ) → file_role (at_stage f Behind) r ≡ NOT-DUE
unfolding file_role
role-behind f r = refl

pub ordinal-behind : (f : FileContext) (r : List ℕ) → ordinal_of (at_stage f Behind) r ≡ 0
unfolding ordinal_of
ordinal-behind f r = refl

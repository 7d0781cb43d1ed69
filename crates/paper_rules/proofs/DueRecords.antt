-- A record without fault is due, and what a section announces and the number of a subentry are in their ranges.
-- Assumes nothing.
use Rattle.paper_faults.specs.Fault.{faultless}
use mathlib.Core.Path.{◌≡◌, sym, ◌∙◌}
use mathlib.Core.Bool.{true, not, ◌&&◌}
use mathlib.Core.List.{List}
use Prim.Native.Nat.{ℕ, ◌≤◌}
use borrow.Author.Tests.{eq-eqb, not-false}
use lib.Dec.{eqb}
use Rattle.laws.proofs.Booleans.{differ, and_right}
use Rattle.paper_record.specs.Fields.{n1}
use Rattle.paper_record.proofs.Within.{within-bounds}
use Rattle.paper_record.specs.Identifier.{COMMON, DATA}
use Rattle.paper_record.specs.Word.{equal_to}
use Rattle.paper_record.specs.System.{subentry_of}
use Rattle.paper_rules.specs.declared.types.Track.{Track}
use Rattle.paper_rules.specs.State.{Seen}
use Rattle.paper_rules.specs.Limits.{MOST-COLUMNS, MOST-LINES}
use Rattle.paper_rules.specs.Roles.{NOT-DUE, is_system, opens_subentry, opens_section}
use Rattle.paper_rules.specs.Every.{rule4}
use Rattle.paper_rules.specs.Counts.{count_n1, count_n2, limit_n1, limit_n2, meets, announced_fault, rule8}
use Rattle.paper_rules.specs.System.{number_due, accession_n1, rule9}
use Rattle.paper_rules.specs.Order.{fault_of}
use Rattle.paper_rules.specs.Clean.{Clean}
use Rattle.paper_faults.proofs.NoColumns.{when-none, whens-none}
use Rattle.paper_rules.proofs.Clean.{fine-clean}

module _ (t : Track) (seen : Seen) (role : ℕ) (fs : List (List ℕ)) (r : List ℕ)
    (fine : fault_of t seen role fs r ≡ faultless) where
  clean : Clean t seen role fs r
  clean = fine-clean t seen role fs r fine

  -- 4: it is due
  pub fine-due : role ≡ NOT-DUE → ⊥
  unfolding rule4
  fine-due e = differ (sym (eq-eqb role NOT-DUE e) ∙ when-none (eqb role NOT-DUE) 1 clean.every.four)

  -- 8: what COMMON and DATA announce is in its ranges
  announced : is_system role ≡ true → opens_section role ≡ true
      → (meets (limit_n1 role) (count_n1 fs) ≡ true) × (meets (limit_n2 role (count_n1 fs)) (count_n2 fs) ≡ true)
  unfolding rule8 announced_fault
  announced system section =
      let (a, b) =
      whens-none (not (meets (limit_n1 role) (count_n1 fs))) (not (meets (limit_n2 role (count_n1 fs)) (count_n2 fs))) 12 23
      (rw section at (clean.eight system)) in
      (not-false (meets (limit_n1 role) (count_n1 fs)) a, not-false (meets (limit_n2 role (count_n1 fs)) (count_n2 fs)) b)

  pub fine-common : role ≡ COMMON → (1 ≤ count_n1 fs) × (count_n1 fs ≤ MOST-COLUMNS)
  unfolding limit_n1
  fine-common e = within-bounds 1 MOST-COLUMNS (count_n1 fs) (rw e at (announced (rw e) (rw e)).0)

  pub fine-data : role ≡ DATA
      → ((1 ≤ count_n1 fs) × (count_n1 fs ≤ MOST-COLUMNS)) × ((1 ≤ count_n2 fs) × (count_n2 fs ≤ MOST-LINES))
  unfolding limit_n1 limit_n2
  fine-data e =
      let (a, b) = announced (rw e) (rw e) in
      (within-bounds 1 MOST-COLUMNS (count_n1 fs) (rw e at a), within-bounds 1 MOST-LINES (count_n2 fs) (rw e at b))

  -- 9: the number of a subentry is the next one due
  pub fine-number : opens_subentry role ≡ true → number_due t (subentry_of (n1 fs)) ≡ true
  unfolding rule9
  fine-number e =
      let same = equal_to 5 (accession_n1 fs) t.accession in
      let due = number_due t (subentry_of (n1 fs)) in
      and_right same due (not-false (same && due) (when-none (not (same && due)) 12 (clean.nine e)))

-- What the parts of the code come to, put together as the definition has it.
-- Assumes nothing.
use Prim.Native.Nat.{ℕ, ◌+◌, ◌-◌, ◌*◌, ◌/◌, ◌≤◌}
use mathlib.Core.Path.{◌≡◌, refl, sym, ◌∙◌, ap}
use mathlib.Core.Bool.{false}
use mathlib.Core.List.{List}
use native.Mathlib.Omega.{arith}
use borrow.Author.Tests.{eq-eqb, ne_eqb}
use lib.Dec.{eqb}
use Rattle.laws.specs.Blocks.{block_at}
use Rattle.paper_record.specs.Fields.{fields_of}
use Rattle.paper_record.specs.declared.types.RecordNo.{RecordNo}
use Rattle.paper_rules.specs.Counts.{count_n1}
use Rattle.paper_entry.specs.declared.types.Verdict.{Verdict}
use Rattle.paper_files.specs.File.{MOST-IN-FILE, judge_file}
use Rattle.paper_reasons.specs.declared.types.Facts.{Facts}
use Rattle.paper_reasons.specs.declared.types.Facts.TheVariants.{Count, Equal}
use Rattle.paper_reasons.specs.declared.types.Reason.{Reason}
use Rattle.paper_reasons.specs.declared.types.Explained.{Explained}
use Rattle.paper_reasons.specs.declared.types.Passed.{Passed}
use Rattle.paper_reasons.specs.Reason.{nothing, stating, explain}
use Rattle.paper_reasons.specs.File.{passed, raised, between, reason_within, reason_at_ending, file_reason, explain_file}
use Rattle.reasons_true.proofs.Small.{equal-small}
use Rattle.files_passing.specs.Raising.{Raisable}

-- a place in the entry's own records can be raised
pub raisable : (own : List ℕ) (e : Explained) (n : ℕ) → e ≡ explain own → n ≤ MOST-IN-FILE + 1
    → Raisable n e.reason.facts
raisable own e n q few =
    record {
      room = λ at column f.
          let h = equal-small own at column (ap (λ (x : Explained). x.reason.facts) (sym q) ∙ f) in
          omega arith;
    }

pub within-said : (s own : List ℕ) (first past : ℕ) (e : Explained) (facts : Facts) → own ≡ between first past s
    → e ≡ explain own → facts ≡ raised (first / 81) e.reason.facts
    → ◌≡◌ {A = Reason} (record { facts = facts; characters = e.reason.characters }) (reason_within s first past)
unfolding reason_within
within-said s own first past e facts o q f =
    let g = q ∙ ap explain o in
    λ k. record {
      facts = (f ∙ ap (λ (x : Explained). raised (first / 81) x.reason.facts) g) k;
      characters = ap (λ (x : Explained). x.reason.characters) g k;
    }

pub ending-said : (s : List ℕ) (i n : ℕ) (fs : List (List ℕ)) (p : Passed) (r : Reason)
    → r ≡ stating (Count n p.entries) → fs ≡ fields_of (block_at 81 s i) → n ≡ count_n1 fs → p ≡ passed s i
    → r ≡ reason_at_ending s i
unfolding reason_at_ending
ending-said s i n fs p r e f q g =
    e ∙ ap (λ (x : ℕ). stating (Count x p.entries)) (q ∙ ap count_n1 f)
    ∙ ap (λ (x : Passed). stating (Count (count_n1 (fields_of (block_at 81 s i))) x.entries)) g

module _ (s : List ℕ) (v : Verdict) where
  pub by-ending : (r : Reason) → v.ordinal ≡ 0 → v.refusal ≡ 8 → r ≡ reason_at_ending s (v.«record».0 - 1)
      → r ≡ file_reason s v
  unfolding file_reason
  by-ending r o n e = rw (eq-eqb v.ordinal 0 o, eq-eqb v.refusal 8 n) e

  pub by-nothing : (r : Reason) → v.ordinal ≡ 0 → (v.refusal ≡ 8 → ⊥) → r ≡ nothing → r ≡ file_reason s v
  unfolding file_reason
  by-nothing r o n e = rw (eq-eqb v.ordinal 0 o, ne_eqb v.refusal 8 n) e

  pub by-entry : (r : Reason) (p : Passed) → (v.ordinal ≡ 0 → ⊥) → p ≡ passed s (v.ordinal - 1)
      → r ≡ reason_within s p.at (v.«record».0 * 81) → r ≡ file_reason s v
  unfolding file_reason
  by-entry r p o q e =
      rw (ne_eqb v.ordinal 0 o) (e ∙ ap (λ (x : Passed). reason_within s x.at (v.«record».0 * 81)) q)

pub file-explained : (s : List ℕ) (v : Verdict) (r : Reason) → v ≡ judge_file s → r ≡ file_reason s v
    → ◌≡◌ {A = Explained} (record { verdict = v; reason = r }) (explain_file s)
unfolding explain_file
file-explained s v r e q = λ k. record { verdict = e k; reason = (q ∙ ap (file_reason s) e) k }

-- A place that is named is said with 13 alone, and is a record of an entry.
-- Assumes nothing.
use Prim.Native.Nat.{ℕ, ◌+◌, ◌/◌, ◌≤◌}
use mathlib.Core.Path.{◌≡◌, refl, sym, ◌∙◌, ap, subst}
use mathlib.Core.Bool.{Bool, true}
use mathlib.Core.List.{List}
use native.Mathlib.Omega.{arith}
use borrow.Author.Tests.{eqb-true}
use lib.Dec.{eqb}
use lib.ListN.{length}
use Rattle.laws.proofs.Booleans.{either-as}
use Rattle.paper_record.specs.declared.types.RecordNo.{RecordNo}
use Rattle.paper_record.specs.Identifier.{COMMON}
use Rattle.paper_rules.specs.declared.types.Track.{Track}
use Rattle.paper_rules.specs.declared.types.Ranges.{Ranges}
use Rattle.paper_rules.specs.declared.types.Limit.{Limit}
use Rattle.paper_rules.specs.declared.types.Limit.TheVariants.{AtLeast, Between}
use Rattle.paper_rules.specs.Limits.{MOST-RECORDS}
use Rattle.paper_rules.specs.State.{Seen}
use Rattle.paper_rules.specs.Roles.{Role, opens_section}
use Rattle.paper_rules.specs.Record.{Fields, Record}
use Rattle.paper_rules.specs.Counts.{count_n1, limit_n1, limit_n2, true_count}
use Rattle.laws.proofs.EitherWay.{either_way}
use Rattle.paper_entry.specs.declared.types.Verdict.{Verdict}
use Rattle.paper_entry.specs.Verdict.{refused, length_good}
use Rattle.paper_entry.specs.Judging.{judge_of}
use Rattle.entry_walk.specs.First.{First, by_length, by_record, by_end, by_none}
use Rattle.entry_walk.proofs.FirstRefused.{refused_first}
use Rattle.below.proofs.Agree.{length-exactly}
use Rattle.paper_reasons.specs.declared.types.Facts.{Facts}
use Rattle.paper_reasons.specs.declared.types.Facts.TheVariants.{Alone, Count, Range as Limits, Previous, Equal, Pointer, Expected}
use Rattle.paper_reasons.specs.declared.types.Reason.{Reason}
use Rattle.paper_reasons.specs.Reason.{limits_of, announced_facts, end_facts, count_facts, reason_for, reason_at, reason_of}
use Rattle.paper_reasons.specs.Reason.{explain}
use Rattle.reasons_true.proofs.ReasonAt.{reason-at}
use Rattle.reasons_true.proofs.Told.{equal-there}

-- ---- 13 alone

-- no place is named
abbrev Other : Facts → Type 0
Other facts = (at : RecordNo) (column : ℕ) → facts ≡ Equal at column → ⊥

other-alone : Other Alone
other-alone at column e = let z : ◌≡◌ {A = ℕ} 0 1 = cc in absurd (omega arith)

other-count : (a b : ℕ) → Other (Count a b)
other-count a b at column e = let z : ◌≡◌ {A = ℕ} 0 1 = cc in absurd (omega arith)

other-limits : (l : Limit) → Other (limits_of l)
other-limits (AtLeast a) at column e = let z : ◌≡◌ {A = ℕ} 0 1 = cc in absurd (omega arith)
other-limits (Between a b) at column e = let z : ◌≡◌ {A = ℕ} 0 1 = cc in absurd (omega arith)

other-previous : (n : ℕ) → Other (Previous n)
other-previous n at column e = let z : ◌≡◌ {A = ℕ} 0 1 = cc in absurd (omega arith)

other-pointer : (n : ℕ) → Other (Pointer n)
other-pointer n at column e = let z : ◌≡◌ {A = ℕ} 0 1 = cc in absurd (omega arith)

other-expected : Other Expected
other-expected at column e = let z : ◌≡◌ {A = ℕ} 0 1 = cc in absurd (omega arith)

other-counted : (t : Track) (role : Role) (fs : Fields) (column : ℕ) → Other (count_facts t role fs column)
unfolding count_facts announced_facts end_facts
other-counted t role fs column =
    either_way Other (opens_section role) _ _
    (either_way Other (eqb column 12) _ _ (other-limits (limit_n1 role))
    (either_way Other (eqb role COMMON) _ _ (other-count _ _) (other-limits (limit_n2 role (count_n1 fs)))))
    (either_way Other (eqb (count_n1 fs) (true_count t role)) _ _ (other-count _ _) (other-count _ _))

module _ (n : ℕ) where
  -- where one is named it is said with 13
  abbrev With13 : Reason → Type 0
  With13 r = (at : RecordNo) (column : ℕ) → r.facts ≡ Equal at column → n ≡ 13

  none : (facts : Facts) → Other facts → (at : RecordNo) (column : ℕ) → facts ≡ Equal at column → n ≡ 13
  none facts o at column e = absurd (o at column e)

  with13 : (t : Track) (s : Seen) (g : Ranges) (role : Role) (fs : Fields) (r : Record) (k : ℕ)
      → With13 (reason_for t s g role fs r n k)
  unfolding reason_for
  with13 t s g role fs r k =
      either_way With13 (eqb n 5) _ _ (none _ other-expected)
      (either_way With13 (eqb n 6) _ _ (none _ other-expected)
      (either_way With13 (eqb n 8) _ _ (none _ (other-counted t role fs k))
      (either_way With13 (eqb n 9) _ _ (none _ (other-previous _))
      (either-as With13 (eqb n 13) _ _ (λ e at column q. eqb-true n 13 e)
      (λ e. either_way With13 (eqb n 14) _ _ (none _ (other-pointer _)) (none _ other-alone))))))

-- ---- a record of an entry

small-first : (s : List ℕ) (v : Verdict) → First s v → judge_of s ≡ v → (at : RecordNo) (column : ℕ)
    → (explain s).reason.facts ≡ Equal at column → at.0 ≤ MOST-RECORDS
unfolding explain
small-first s v (by_length l) q at column e =
    absurd (other-alone at column (sym (ap (λ (x : Verdict). (reason_of s x).facts) q) ∙ e))
small-first s v (by_record i n k f) q at column e =
    let said = ap (λ (x : Reason). x.facts) (reason-at s i n k q) in
    let w = (length-exactly (length s)).0 f.length-good in
    let here = f.there in
    let most = w.most in
    let whole = w.whole in
    let z = with13 n _ _ _ _ _ _ k at column (sym said ∙ e) in
    let h = (equal-there s i k at column (q ∙ ap (λ (x : ℕ). refused x (record { 0 = i + 1 }) k) z) e).0 in
    omega arith
small-first s v (by_end a d) q at column e =
    let said = ap (λ (x : Reason). x.facts) (reason-at s (length s / 81) 16 0 q) in
    let z = with13 16 _ _ _ _ _ _ 0 at column (sym said ∙ e) in
    absurd (omega arith)
small-first s v (by_none a d) q at column e =
    absurd (other-alone at column (sym (ap (λ (x : Verdict). (reason_of s x).facts) q) ∙ e))

pub equal-small : (s : List ℕ) (at : RecordNo) (column : ℕ) → (explain s).reason.facts ≡ Equal at column
    → at.0 ≤ MOST-RECORDS
equal-small s at column = small-first s (judge_of s) (refused_first s) refl at column

-- A refusal that has a reason stands at a record of the entry, and 13 and 14 in one of its six fields; of any other
-- refusal the verdict stands alone. Assumes nothing.
use Prim.Native.Nat.{ℕ, ◌+◌, ◌*◌, ◌-◌, ◌/◌, ◌<◌, ◌≤◌}
use mathlib.Core.Path.{◌≡◌, refl, sym, ◌∙◌, ap, subst}
use mathlib.Core.Bool.{Bool, true, false, cond}
use mathlib.Core.List.{List}
use native.Mathlib.Omega.{arith}
use borrow.Author.Tests.{ltb-true, ne_eqb}
use lib.Dec.{eqb, ltb}
use lib.ListN.{length, get_or}
use Rattle.laws.specs.Walk.{All}
use Rattle.laws.specs.Search.{first}
use Rattle.laws.proofs.Walk.{all-at}
use Rattle.laws.proofs.Booleans.{differ}
use Rattle.paper_rules.specs.declared.types.Track.{Track}
use Rattle.paper_rules.specs.declared.types.Ranges.{Ranges}
use Rattle.paper_rules.specs.State.{Seen, used}
use Rattle.paper_faults.specs.Fault.{Finding, Columns, on, leftmost, columns_where, column_at}
use Rattle.paper_rules.specs.Record.{Fields, Record, field_column}
use Rattle.paper_rules.specs.Headings.{rule13}
use Rattle.paper_rules.specs.Pointers.{rule14}
use Rattle.paper_rules.specs.Order.{findings}
use Rattle.paper_faults.specs.Least.{no_finding, Least}
use Rattle.paper_rules.specs.Roles.{DATA-HEADING, is_heading}
use Rattle.paper_faults.proofs.Leftmost.{leftmost-where}
use Rattle.paper_rules.proofs.FewUsed.{used-few}
use Rattle.paper_entry.specs.declared.types.Verdict.{Verdict}
use Rattle.paper_entry.specs.Judging.{judge_of}
use Rattle.entry_walk.specs.First.{First, by_length, by_record, by_end, by_none}
use Rattle.entry_walk.proofs.FirstRefused.{refused_first}
use Rattle.paper_reasons.specs.declared.types.Reason.{Reason}
use Rattle.paper_reasons.specs.declared.types.Explained.{Explained}
use Rattle.paper_reasons.specs.Reason.{nothing, has_reason, reason_at, reason_of, explain}
use Rattle.paper_reasons.proofs.NoReason.{reason-none}
use Rattle.reasons.specs.Asked.{InField, Asked}

-- ---- the column of 13 and 14

on-few : (b : Bool) (ks : Columns) → leftmost ks ≤ 66 → leftmost (on b ks) ≤ 66
on-few true ks l = l
on-few false ks l = omega arith

at-few : (k n : ℕ) → n ≤ 6 → column_at field_column k n ≤ 66
at-few k n h = by-test (ltb k n) refl
  where
    by-test : (b : Bool) → ltb k n ≡ b → cond b (field_column k) 0 ≤ 66
    by-test true e = let l = ltb-true k n e in omega arith
    by-test false e = omega arith

fields-few : (test : ℕ → Bool) (n : ℕ) → n ≤ 6 → leftmost (columns_where test field_column n) ≤ 66
fields-few test n h = rw (leftmost-where test field_column n) (at-few (first test 0 n) n h)

abbrev Few : Finding → Type 0
Few f = 13 ≤ f.number → f.number ≤ 14 → leftmost f.columns ≤ 66

few-at : (n m k j : ℕ) → m ≡ n → j ≡ k → 1 ≤ k → (13 ≤ m → m ≤ 14 → j ≤ 66) → InField n k
few-at n m k j x y some f = record { within = λ a b. (some, let h = f (omega arith) (omega arith) in omega arith) }

module _ (t : Track) (s : Seen) (role : ℕ) (fs : Fields) (r : Record) where
  few13 : leftmost (rule13 s t role fs r) ≤ 66
  unfolding rule13
  few13 = fields-few _ (used t) (used-few t)

  few14 : leftmost (rule14 s t fs) ≤ 66
  unfolding rule14
  few14 = fields-few _ (used t) (used-few t)

  all-few : All Few (findings t s role fs r)
  all-few = (
    λ a b. absurd (omega arith),
    (
      λ a b. absurd (omega arith),
      (
        λ a b. absurd (omega arith),
        (
          λ a b. absurd (omega arith),
          (
            λ a b. absurd (omega arith),
            (
              λ a b. absurd (omega arith),
              (
                λ a b. absurd (omega arith),
                (
                  λ a b. absurd (omega arith),
                  (
                    λ a b. absurd (omega arith),
                    (
                      λ a b. absurd (omega arith),
                      (
                        λ a b. absurd (omega arith),
                        (
                          λ a b. on-few (is_heading role) _ few13,
                          (
                            λ a b. on-few (eqb role DATA-HEADING) _ few14,
                            (
                              λ a b. absurd (omega arith),
                              (
                                λ a b. absurd (omega arith),
                                tt,
                              ),
                            ),
                          ),
                        ),
                      ),
                    ),
                  ),
                ),
              ),
            ),
          ),
        ),
      ),
    ),
  )

  in_field : (n k : ℕ) → Least (findings t s role fs r) n k → InField n k
  in_field n k l =
      few-at n _ k _ l.number l.column l.some
      (all-at Few no_finding (findings t s role fs r) all-few l.at l.there)

-- ---- the record

pub record AskedOf (s : List ℕ) (v : Verdict) : Type 0 where
  pub some : 1 ≤ v.«record».0
  pub asked : Asked s (v.«record».0 - 1) v.refusal v.column

asked-first : (s : List ℕ) (v : Verdict) → First s v → has_reason v.refusal ≡ true → AskedOf s v
unfolding has_reason
asked-first s v (by_length e) h = differ (sym h)
asked-first s v (by_record i n k f) h =
    let z : i ≡ i + 1 - 1 = omega arith in
    record {
      some = omega arith;
      asked = subst (λ (x : ℕ). Asked s x n k) z
          (record { good = f.length-good; there = f.there; heading = in_field _ _ _ _ _ n k f.least });
    }
asked-first s v (by_end a e) h = differ (sym h)
asked-first s v (by_none a e) h = differ (sym h)

pub asked_of : (s : List ℕ) (v : Verdict) → v ≡ judge_of s → has_reason v.refusal ≡ true → AskedOf s v
asked_of s v e h = asked-first s v (subst (First s) (sym e) (refused_first s)) h

reason-there : (s : List ℕ) (v : Verdict) → 1 ≤ v.«record».0
    → reason_of s v ≡ reason_at s (v.«record».0 - 1) v.refusal v.column
reason-there s v l = rw (ne_eqb v.«record».0 0 (λ z. omega arith)) refl

-- ---- no reason

reason-nothing : (s : List ℕ) (v : Verdict) → has_reason v.refusal ≡ false → reason_of s v ≡ nothing
reason-nothing s v h = by-test (eqb v.«record».0 0)
  where
    by-test : (b : Bool) → cond b nothing (reason_at s (v.«record».0 - 1) v.refusal v.column) ≡ nothing
    by-test true = refl
    by-test false = reason-none _ _ _ _ _ _ v.refusal v.column h

-- ---- both

explained : (s : List ℕ) (v : Verdict) (r : Reason) → v ≡ judge_of s → r ≡ reason_of s v
    → ◌≡◌ {A = Explained} (record { verdict = v; reason = r }) (explain s)
unfolding explain
explained s v r e q = λ k. record { verdict = e k; reason = (q ∙ ap (reason_of s) e) k }

pub explained-alone : (s : List ℕ) (v : Verdict) (r : Reason) → v ≡ judge_of s → has_reason v.refusal ≡ false
    → r ≡ nothing → ◌≡◌ {A = Explained} (record { verdict = v; reason = r }) (explain s)
explained-alone s v r e h q = explained s v r e (q ∙ sym (reason-nothing s v h))

pub explained-there : (s : List ℕ) (v : Verdict) (r : Reason) → v ≡ judge_of s → has_reason v.refusal ≡ true
    → r ≡ reason_at s (v.«record».0 - 1) v.refusal v.column
    → ◌≡◌ {A = Explained} (record { verdict = v; reason = r }) (explain s)
explained-there s v r e h q = explained s v r e (q ∙ sym (reason-there s v (asked_of s v e h).some))

-- ---- the field of a column

pub field-few : (column : ℕ) → 1 ≤ column → column ≤ 66 → (column - 1) / 11 < 6
field-few column a b = omega arith

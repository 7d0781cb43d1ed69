-- What is said for 9, 13 and 14.
-- Assumes nothing.
use Prim.Native.Nat.{ℕ, ◌+◌, ◌*◌, ◌-◌, ◌/◌, ◌%◌, ◌≤◌, ◌<◌}
use Rattle.std.specs.Prelude.{Option, Some as At, None}
use mathlib.Core.Path.{◌≡◌, refl, sym, ◌∙◌, ap, subst}
use mathlib.Core.Bool.{Bool, true}
use mathlib.Core.List.{List, []}
use native.Mathlib.Omega.{arith}
use lib.Dec.{eqb}
use lib.ListN.{length, get_or}
use Rattle.laws.specs.Blocks.{block_at}
use Rattle.laws.proofs.Booleans.{differ}
use Rattle.paper_record.specs.Places.{record_of}
use Rattle.paper_record.specs.Fields.{fields_of, field_at}
use Rattle.paper_record.specs.Identifier.{identifier_of}
use Rattle.paper_record.specs.Word.{pointer_of}
use Rattle.paper_record.specs.declared.types.RecordNo.{RecordNo}
use Rattle.paper_record.proofs.ReadColumns.{field-of}
use Rattle.paper_rules.specs.declared.types.Track.{Track}
use Rattle.paper_rules.specs.declared.types.Ranges.{Ranges}
use Rattle.paper_rules.specs.declared.types.HeadingPlace.{HeadingPlace}
use Rattle.paper_rules.specs.State.{Seen, used}
use Rattle.paper_rules.specs.Roles.{DATA-HEADING, is_heading}
use Rattle.paper_rules.specs.Record.{Fields, Record, field_column}
use Rattle.paper_rules.specs.Earlier.{Earlier, earlier, equal_heading}
use Rattle.paper_rules.specs.Repeats.{clash, heading_repeated}
use Rattle.paper_rules.specs.Headings.{rule13}
use Rattle.paper_rules.specs.Pointers.{pointers_for, lost_at, rule14}
use Rattle.paper_rules.proofs.FewUsed.{used-few}
use Rattle.paper_rules.proofs.RolePlaces.{heading-in-table}
use Rattle.paper_entry.specs.Verdict.{refused}
use Rattle.paper_entry.specs.Judging.{judge_of}
use Rattle.paper_entry.specs.Contexts.{context_at, role_at}
use Rattle.paper_reasons.specs.declared.types.Facts.TheVariants.{Equal, Pointer}
use Rattle.paper_reasons.specs.declared.types.Reason.{Reason}
use Rattle.paper_reasons.specs.Ranges.{ranges_at}
use Rattle.paper_reasons.specs.Reason.{field_in, heading_records, heading_place, equal_facts, reason_for, explain}
use Rattle.entry_walk.proofs.Contexts.{records-at}
use Rattle.rules_plain.specs.Places.{Some}
use Rattle.rules_plain.specs.Found.{searched}
use Rattle.rules_plain.proofs.Somewhere.{PlaceOf, columns-place}
use Rattle.rules_plain.proofs.Found.{found-exactly}
use Rattle.refusal_table.proofs.ByNumber.{least-found, on_some}
use Rattle.reasons_true.specs.Counted.{Explained9, Explained14}
use Rattle.reasons_true.specs.Equal.{FirstPlace, EqualNamed, EqualSaid, EqualThere, EqualFirst}
use Rattle.reasons_true.proofs.ReasonAt.{first-there, record-there, reason-at}
use Rattle.reasons_true.proofs.Ranged.{ranged}
use Rattle.reasons_true.proofs.Sections.{headings_before, long-headings, same-search}
use Rattle.reasons_true.proofs.FirstPlace.{not_behind, first-place}

-- ---- 9

pub explained9 : Explained9
unfolding reason_for
explained9 s i e = ap (λ (x : Reason). x.facts) (reason-at s i 9 12 e)

-- ---- the field of a column

record FieldOf (k : ℕ) : Type 0 where
  field : ℕ
  few : field < 6
  column : field_column field ≡ k

of-column : (k : ℕ) (x : FieldOf k) → (field_in k ≡ x.field) × (k / 11 ≡ x.field)
of-column k x = let e = x.column in (omega arith, omega arith)

of-place : (test : ℕ → Bool) (t : Track) (k : ℕ) → PlaceOf test field_column 0 (used t) k → FieldOf k
of-place test t k p =
    let n = used-few t in
    let l = p.to in
    record { field = p.place; few = omega arith; column = p.same }

abbrev repeated_in : Seen → ℕ → Record → ℕ → Bool
repeated_in s role r = heading_repeated (eqb role DATA-HEADING) s.common001 s.common s.table r (fields_of r)

place13 : (s : Seen) (t : Track) (role : ℕ) (r : Record) (k : ℕ) → Some (λ c. c ≡ k) (rule13 s t role (fields_of r) r)
    → PlaceOf (repeated_in s role r) field_column 0 (used t) k
unfolding rule13
place13 s t role r k h = columns-place (repeated_in s role r) field_column k 0 (used t) h

abbrev lost_in : Seen → Fields → ℕ → Bool
lost_in s fs = lost_at (pointers_for s.bib s.bib001 s.common s.common001) fs

place14 : (s : Seen) (t : Track) (fs : Fields) (k : ℕ) → Some (λ c. c ≡ k) (rule14 s t fs)
    → PlaceOf (lost_in s fs) field_column 0 (used t) k
unfolding rule14
place14 s t fs k h = columns-place (lost_in s fs) field_column k 0 (used t) h

-- ---- 14

pub explained14 : Explained14
unfolding reason_for
explained14 s i k e =
    let c = context_at s i in
    let r = block_at 81 s i in
    let h = first-there s i 14 k (omega arith) (omega arith) e in
    let (role, found) =
    on_some (λ c. c ≡ k) (eqb (role_at s i) DATA-HEADING) _
    (least-found c.track c.seen (role_at s i) (fields_of r) r 14 k h.least) in
    let x = of-place (lost_in c.seen (fields_of r)) c.track k (place14 c.seen c.track (fields_of r) k found) in
    let (a, b) = of-column k x in
    ap (λ (y : Reason). y.facts) (reason-at s i 14 k e)
    ∙ ap (λ (y : ℕ). Pointer (pointer_of (get_or (fields_of r) y []))) a
    ∙ ap (λ (y : List ℕ). Pointer (pointer_of y)) (field-of r x.field x.few)
    ∙ ap (λ (y : ℕ). Pointer (pointer_of (field_at r y))) (sym b)

-- ---- 13

module _ (s : List ℕ) (i f : ℕ) (there : (i + 1) * 81 ≤ length s) (few : f < 6)
    (role : is_heading (role_at s i) ≡ true) where
  abbrev r : Record
  r = block_at 81 s i

  -- the section in hand reaches up to the record
  reaches : (ranges_at s i).table.past.0 ≡ i
  reaches =
      let c = context_at s i in
      let h = heading-in-table c.phase c.track (identifier_of (get_or (fields_of r) 0 [])) role in
      (ranged s i (omega arith)).joins.table h.table h.row ∙ records-at s i

  facts13 : equal_facts (context_at s i).seen (ranges_at s i) (fields_of r) r f
      ≡ heading_place (ranges_at s i) (equal_heading (field_at r f) (searched (headings_before s i) r f))
  unfolding equal_facts
  facts13 =
      let c = (context_at s i).seen in
      let g = ranges_at s i in
      ap (λ (x : List ℕ). heading_place g (equal_heading x (earlier c.common001 c.common c.table r f)))
      (field-of r f few)
      ∙ ap (λ (x : Earlier). heading_place g (equal_heading (field_at r f) x)) (same-search s i f there few reaches)

  place-said : (at : RecordNo) (column : ℕ) (found : Option HeadingPlace)
      → equal_heading (field_at r f) (searched (headings_before s i) r f) ≡ found
      → heading_place (ranges_at s i) found ≡ Equal at column → FirstPlace s i f (at.0 - 1) (column / 11)
  place-said at column (At place) q e =
      let g = ranges_at s i in
      let section = place.section in
      let m = place.column in
      let h =
      (found-exactly (field_at r f) (headings_before s i) r f (long-headings s i f there few reaches) (omega arith) section
      m).0 q in
      let x : record_of (record { 0 = (heading_records g section).from.0 + (m - 1) / 6 }) ≡ at = cc in
      let y : field_column ((m - 1) % 6) ≡ column = cc in
      let a : (heading_records g section).from.0 + (m - 1) / 6 + 1 ≡ at.0 = ap (λ (z : RecordNo). z.0) x in
      let b : (heading_records g section).from.0 + (m - 1) / 6 ≡ at.0 - 1 = omega arith in
      let d : (m - 1) % 6 ≡ column / 11 = omega arith in
      subst (λ (z : ℕ). FirstPlace s i f z (column / 11)) b
      (subst (λ (z : ℕ). FirstPlace s i f ((heading_records g section).from.0 + (m - 1) / 6) z) d
      (first-place s i f there few reaches section m h))
  place-said at column None q e = let z : ◌≡◌ {A = ℕ} 0 1 = cc in absurd (omega arith)

-- the rule has found a field of a heading record
record Found13 (s : List ℕ) (i k : ℕ) : Type 0 where
  there : (i + 1) * 81 ≤ length s
  role : is_heading (role_at s i) ≡ true
  place : PlaceOf (repeated_in (context_at s i).seen (role_at s i) (block_at 81 s i)) field_column 0
      (used (context_at s i).track) k

found13 : (s : List ℕ) (i k : ℕ) → judge_of s ≡ refused 13 (record { 0 = i + 1 }) k → Found13 s i k
found13 s i k e =
    let c = context_at s i in
    let r = block_at 81 s i in
    let h = first-there s i 13 k (omega arith) (omega arith) e in
    let (role, found) =
    on_some (λ c. c ≡ k) (is_heading (role_at s i)) _
    (least-found c.track c.seen (role_at s i) (fields_of r) r 13 k h.least) in
    record {
      there = record-there s i 13 k (omega arith) (omega arith) e;
      role = role;
      place = place13 c.seen c.track (role_at s i) r k found;
    }

said13 : (s : List ℕ) (i k : ℕ) (x : FieldOf k) → judge_of s ≡ refused 13 (record { 0 = i + 1 }) k
    → (explain s).reason.facts
    ≡ equal_facts (context_at s i).seen (ranges_at s i) (fields_of (block_at 81 s i)) (block_at 81 s i) x.field
unfolding reason_for
said13 s i k x e =
    ap (λ (y : Reason). y.facts) (reason-at s i 13 k e)
    ∙ ap (λ (y : ℕ). equal_facts (context_at s i).seen (ranges_at s i) (fields_of (block_at 81 s i)) (block_at 81 s i) y)
    (of-column k x).0

pub equal-first : EqualFirst
equal-first s i k at column e q =
    let w = found13 s i k e in
    let x = of-place _ (context_at s i).track k w.place in
    let f = x.field in
    subst (λ (y : ℕ). FirstPlace s i y (at.0 - 1) (column / 11)) (sym (of-column k x).1)
    (place-said s i f w.there x.few w.role at column _ refl
    (sym (said13 s i k x e ∙ facts13 s i f w.there x.few w.role) ∙ q))

-- where a heading clashes an equal one is found
named : (g : Ranges) (in_data : Bool) (found : Option HeadingPlace) (f left : List ℕ) → clash in_data found f left ≡ true
    → EqualNamed (heading_place g found)
unfolding clash
named g in_data (At place) f left e =
    record { index = _; field = (place.column - 1) % 6; few = omega arith; is = refl }
named g in_data None f left e = differ (sym e)

pub equal-said : EqualSaid
unfolding equal_facts of-place
equal-said s i k e =
    let w = found13 s i k e in
    let x = of-place _ (context_at s i).track k w.place in
    subst EqualNamed (sym (said13 s i k x e))
    (named (ranges_at s i) (eqb (role_at s i) DATA-HEADING) _ _ _ w.place.met)

-- a heading that is searched does not stand behind the record
pub equal-there : EqualThere
equal-there s i k at column e q =
    let x = equal-first s i k at column e q in
    let there = record-there s i 13 k (omega arith) (omega arith) e in
    let h = not_behind s i (k / 11) x.section (at.0 - 1) (column / 11) (omega arith) x.searched in
    (omega arith, x.same)

-- THE THEOREMS: "Over an accepted entry it gives each place of one table once, equal to the value question there."
-- Assumes nothing.
use Prim.Native.Nat.{ℕ, ◌-◌}
use mathlib.Core.Path.{◌≡◌, sym, ap, ◌∙◌}
use mathlib.Core.List.{List, []}
use native.Mathlib.Omega.{arith}
use lib.Dec.{leb}
use borrow.Author.Tests.{leb-true}
use Rattle.laws.proofs.Booleans.{and_right}
use Rattle.paper_number.specs.declared.types.FieldRead.{FieldRead}
use Rattle.paper_record.specs.declared.types.RecordNo.{RecordNo}
use Rattle.paper_rules.specs.Limits.{MOST-RECORDS}
use Rattle.paper_entry.specs.Judging.{judge_of}
use Rattle.paper_entry.specs.Answer.{first_of}
use Rattle.paper_questions.specs.declared.types.Shape.{Shape}
use Rattle.paper_questions.specs.Located.{row_of}
use Rattle.paper_questions.specs.Place.{has_record, shape_of}
use Rattle.paper_questions.specs.Refused.{section_in, section_refusals}
use Rattle.inside.specs.Inside.{is_said}
use Rattle.inside.proofs.Asked.{section-named, answered-said}
use Rattle.inside.proofs.NotRefused.{asked_of}
use Rattle.row_answers.proofs.ReadRecords.{in_entry_lem}
use Rattle.paper_walk.specs.Walk.{walk_from, at_place}
use Rattle.paper_walk.specs.Claims.{value_there, Fits, WalkGives, WalkOnce}
use Rattle.paper_walk.proofs.Order.{gives-each, gives-once}
use Rattle.paper_walk.proofs.Steps.{same_place}
use Rattle.paper_walk.proofs.Started.{few-columns, few-lines, number-said, made, value-said, walk-places}
use Rattle.walk_laws.specs.Said.{WalkSaid}

module _ (s : List ℕ) (n section : ℕ) where
  abbrev own : RecordNo
  own = section_in (row_of s n) section

  abbrev shape : Shape
  shape = shape_of s section own

  abbrev number : ℕ
  number = first_of (section_refusals s (judge_of s) (row_of s n) own)

  -- the section is a record of the entry, which has no more than 20,000
  fits : number ≡ 0 → Fits (walk_from own shape)
  fits none =
      let k = asked_of s (row_of s n) own [] none in
      let (b, (e, o)) = section-named s n section k.accepted k.some in
      let there = in_entry_lem s k.accepted (own.0 - 1) o.there own (omega (arith, k.some)) in
      record {
        section = leb-true own.0 MOST-RECORDS (and_right (has_record s own) (leb own.0 MOST-RECORDS) there);
        columns = few-columns s section own;
        lines = few-lines s section own;
      }

pub walk-gives : WalkGives
walk-gives s n section e line column =
    let none : number s n section ≡ 0 = sym (number-said s n section) ∙ e in
    rw (made s n section none)
    (λ p.
    gives-each s (own s n section) (shape s n section) (fits s n section none) line column p
    ∙ ap (at_place line column) (sym (value-said s n section line column none p)))

pub walk-once : WalkOnce
walk-once s n section e =
    let none : number s n section ≡ 0 = sym (number-said s n section) ∙ e in
    rw (made s n section none) (gives-once s (own s n section) (shape s n section) (fits s n section none))

pub walk-said : WalkSaid
walk-said s n section e i line column field g =
    let (t, p) = walk-once s n section e i line column field g in
    let v = value_there s n section line column in
    let h : at_place line column v ≡ at_place line column field =
    sym (rw (← t) at (walk-gives s n section e line column p)) ∙ g in
    let same : v ≡ field = (same_place line line column column v field h).1.1 in
    ap (λ (f : FieldRead). is_said f.reading) (sym same)
    ∙ answered-said s n section line column ((walk-places s n section e line column).1 p)

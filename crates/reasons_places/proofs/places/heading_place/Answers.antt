use Rattle.paper_rules.specs.declared.types.Range.{Range}
use Rattle.reasons_places.proofs.PlacesEqual.{equal-at}
use mathlib.Core.Path.{ap, refl}
use borrow.Author.Rules.{rules}
use Rattle.reasons_places.proofs.places.heading_place.Goals as goal

pub overflow_sub-m : goal.overflow_sub-m
overflow_sub-m c = let a = (c.requires.place _ c.in-Some.is).0 in search rules

pub overflow_cast-further : goal.overflow_cast-further
overflow_cast-further c =
    let b = (c.requires.place _ c.in-Some.is).1
    in
    let e = ap (λ (x : Range). x.from.0) c.heading_records-records.ensures in
    search rules

pub overflow_add-i : goal.overflow_add-i
overflow_add-i c =
    let b = (c.requires.place _ c.in-Some.is).1 in
    let e = ap (λ (x : Range). x.from.0) c.heading_records-records.ensures in
    search rules

pub record_of-at-requires : goal.record_of-at-requires
record_of-at-requires c =
    let b = (c.requires.place _ c.in-Some.is).1 in
    let e = ap (λ (x : Range). x.from.0) c.heading_records-records.ensures in
    search rules

pub returns-in-Some : goal.returns-in-Some
returns-in-Some c =
    rw (
      c.in-Some.is,
      ← c.heading_records-records.ensures,
    ) (equal-at _ c.record_of-at.ensures)

pub returns-in-None : goal.returns-in-None
returns-in-None c = rw c.in-None.is refl

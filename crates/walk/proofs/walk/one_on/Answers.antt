use Prim.Native.Nat.{ℕ}
use mathlib.Core.Path.{◌≡◌, refl, sym, ◌∙◌, ap}
use Rattle.laws.proofs.Promise.{said-too}
use Rattle.paper_number.specs.Digits.{field_read}
use Rattle.paper_number.specs.declared.types.FieldRead.{FieldRead}
use Rattle.paper_record.specs.declared.types.Place.{Place}
use Rattle.paper_record.specs.declared.types.LineNo.{LineNo}
use Rattle.paper_questions.specs.Place.{field_of}
use Rattle.paper_questions.proofs.ValuePlaces.{value_placed, value-field}
use Rattle.paper_walk.specs.declared.types.Walk.{Walk}
use Rattle.paper_walk.specs.declared.types.Step.{Step}
use Rattle.paper_walk.specs.Walk.{given_said, at_place}
use Rattle.paper_walk.specs.Claims.{shape_in}
use Rattle.paper_walk.proofs.Standing.{standing}
use Rattle.paper_walk.proofs.Steps.{step-on, step-done}
use Rattle.walk.proofs.walk.one_on.Goals as goal

-- the two parts of a step
stepped : (line : LineNo) (column : ℕ) {v w : Walk} {f g : FieldRead} → v ≡ w → f ≡ g
    → ◌≡◌ {A = Step} (record { walk = v; given = at_place line column f }) (record { walk = w; given = at_place line column g })
stepped line column p q = rw (p, q) refl

pub returns-then-not-stands : goal.returns-then-not-stands
returns-then-not-stands c =
    let d = c in
    let a = d.args in
    let both = said-too (λ (z : Step). given_said z.given)
    (sym (step-done a.entry.now a.walk
    (sym d.stands.ensures ∙ c.if-not-stands.true))) in
    record { value = both.0; given_value = both.1 }

pub place_of-place-requires : goal.place_of-place-requires
place_of-place-requires c =
    let d = c in
    let w = d.args.walk in
    let b = standing w (sym d.stands.ensures ∙ c.if-not-stands.false) in
    value_placed w.section (shape_in w) w.line w.column b.fits.section b.fits.columns b.fits.lines
    b.place

pub read_at-field-requires : goal.read_at-field-requires
read_at-field-requires c =
    let w = c.args.walk in
    rw c.place_of-place.ensures (value-field w.section w.columns w.line w.column)

pub onward-next-requires : goal.onward-next-requires
onward-next-requires c =
    let d = c in
    sym d.stands.ensures ∙ c.if-not-stands.false

pub returns : goal.returns
returns c =
    let d = c in
    let a = d.args in
    let v = c.read_at-field.ensures
    ∙ ap (λ (p : Place). field_read (field_of a.entry.now p)) c.place_of-place.ensures in
    let e = step-on a.entry.now a.walk
    (sym d.stands.ensures ∙ c.if-not-stands.false) in
    let both = said-too (λ (z : Step). given_said z.given)
    (stepped a.walk.line a.walk.column c.onward-next.ensures v ∙ sym e) in
    record { value = both.0; given_value = both.1 }

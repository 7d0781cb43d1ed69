-- Where the reading of a field ends: in an exponent exactly where the field has one.
-- Assumes nothing.
use mathlib.Core.Path.{◌≡◌, sym, ap, ◌∙◌}
use mathlib.Core.Bool.{Bool, true}
use mathlib.Core.List.{List}
use Prim.Native.Nat.{ℕ}
use Rattle.laws.proofs.Booleans.{differ}
use Rattle.paper_number.specs.Grammar.{Tail, plain, Field, Spells}
use Rattle.paper_number.specs.Form.{form_of}
use Rattle.paper_number.specs.Reading as R
use Rattle.paper_number.specs.Reading.{Mantissa, Scan, scan_of, read_field}
use Rattle.paper_number.proofs.Reach.{Reach, reached}
use Rattle.paper_number.proofs.Ended.{Ended, ended-gap, ended-fraction, ended-power}
use Rattle.paper_number.proofs.Laws.{spelt-once, reads-field}
use Rattle.paper_number.specs.Walk.{spelt_at, spelt}
use Rattle.paper_number.specs.Whole.{is_raised, spells_exponent, has_exponent}
use Rattle.paper_number.specs.WholeClaims.{Raised}
use Rattle.paper_number.proofs.WholeTold.{formed, number-spelt, raised-formed}

-- the columns are a field, with an exponent or without
record Tailed (l : List ℕ) (raised : Bool) : Type 0 where
  field : Field
  spells : Spells l field
  tail : is_raised field.tail ≡ raised

tailed : (l : List ℕ) (m : Mantissa) (t : Tail) → Ended l m t → Tailed l (is_raised t)
tailed l m t x = record { field = x.field; spells = x.spells; tail = ap is_raised x.tail }

module _ (l : List ℕ) where
  ended_at : (t : Scan) → Reach l t → formed (spelt_at t) ≡ true → Tailed l (spells_exponent (spelt_at t))
  unfolding spelt_at
  ended_at R.Lead r q = differ (sym q)
  ended_at (R.Signed g) r q = differ (sym q)
  ended_at (R.Whole g c) r q = differ (sym q)
  ended_at (R.Point g) r q = differ (sym q)
  ended_at (R.Fraction m) r q = tailed l m (plain 0) (ended-fraction l m r)
  ended_at (R.Gap m) (k, r) q = tailed l m (plain k) (ended-gap l m k r)
  ended_at (R.Mark m) r q = differ (sym q)
  ended_at (R.MarkGap m) r q = differ (sym q)
  ended_at (R.PowerSign m g) r q = differ (sym q)
  ended_at (R.Power m g e) r q = tailed l m _ (ended-power l m g e r)
  ended_at R.Bad r q = differ (sym q)

  ended : formed (spelt l) ≡ true → Tailed l (has_exponent l)
  unfolding spelt has_exponent
  ended q = ended_at (scan_of R.Lead l) (reached l) q

  -- an exponent is told exactly where the field has one
  pub exponent-of : (f : Field) → Spells l f → has_exponent l ≡ is_raised f.tail
  exponent-of f s =
      let read = ap read_field (sym s.same) ∙ reads-field f s.good in
      let x = ended (number-spelt l (ap form_of read)) in
      let same : x.field ≡ f = spelt-once l x.field f x.spells s in
      sym x.tail ∙ ap (λ (g : Field). is_raised g.tail) same

  pub raised-field : has_exponent l ≡ true → Raised l
  unfolding has_exponent
  raised-field e =
      let x = ended (raised-formed (spelt l) e) in
      record { field = x.field; spells = x.spells; raised = x.tail ∙ e }

use mathlib.Core.Path.{refl}
use Rattle.paper_record.specs.Places.{place_of}
use native.Mathlib.Omega.{arith}
use Rattle.columns_places.proofs.places.place_of.Goals as goal

pub overflow_mul-lines : goal.overflow_mul-lines
unfolding place_of
overflow_mul-lines c = let h = rw (← c.records_for.ensures, ← c.from-k.ensures, ← c.from-above.ensures, ← c.from-part.ensures) at c.requires.number in omega (arith, h)

pub overflow_add-lines : goal.overflow_add-lines
unfolding place_of
overflow_add-lines c = let h = rw (← c.records_for.ensures, ← c.from-k.ensures, ← c.from-above.ensures, ← c.from-part.ensures) at c.requires.number in omega (arith, h)

pub overflow_add-number : goal.overflow_add-number
unfolding place_of
overflow_add-number c =
    let h = rw (← c.records_for.ensures, ← c.from-k.ensures, ← c.from-above.ensures, ← c.from-part.ensures) at c.requires.number in
    omega (arith, h)

pub overflow_add-number-2 : goal.overflow_add-number-2
unfolding place_of
overflow_add-number-2 c =
    let h = rw (← c.records_for.ensures, ← c.from-k.ensures, ← c.from-above.ensures, ← c.from-part.ensures) at c.requires.number in
    omega (arith, h)

pub overflow_cast-at : goal.overflow_cast-at
unfolding place_of
overflow_cast-at c =
    let h = rw (← c.records_for.ensures, ← c.from-k.ensures, ← c.from-above.ensures, ← c.from-part.ensures) at c.requires.number in
    omega (arith, h)

pub returns : goal.returns
unfolding place_of
returns c =
    rw (← c.records_for.ensures, ← c.from-k.ensures, ← c.from-above.ensures, ← c.from-part.ensures, ← c.from.ensures) refl

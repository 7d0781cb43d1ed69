-- What it is that a promise allows one answer only.
--
-- A promise speaks of the call's lifetimes, its arguments, its answer, and its arguments again as they are at the end
-- of the call: a lent buffer then has its final bytes.
use Rattle.std.specs.Prelude.{◌≡◌}
use Rattle.std.specs.Borrow.{Bor}

module _ {K : Type 0} {A R E : K → Type 0} (Promised : (κs : K) → A κs → R κs → E κs → Type 0) where
  -- two answers to the same arguments are equal
  abbrev pub Determined : Type 0
  Determined =
      (κs : K) (a : A κs) (first second : R κs) (s t : E κs) → Promised κs a first s → Promised κs a second t
      → first ≡ second

  -- and so are two final contents of what was lent, `lent` of the arguments at the end
  abbrev pub DeterminedWith : {B : Type 0} → ((κs : K) → E κs → B) → Type 0
  DeterminedWith lent =
      (κs : K) (a : A κs) (first second : R κs) (s t : E κs) → Promised κs a first s → Promised κs a second t
      → (first ≡ second) × (lent κs s ≡ lent κs t)

-- a call that hands back a part of what was lent: two answers begin in one place, and have the same bytes
module _ {K : Type 0} {A E : K → Type 0} {X : Type 0} (Promised : (κs : K) → A κs → Bor X → E κs → Type 0) where
  abbrev pub DeterminedPart : Type 0
  DeterminedPart =
      (κs : K) (a : A κs) (first second : Bor X) (s t : E κs) → Promised κs a first s → Promised κs a second t
      → (first.ref_ptr ≡ second.ref_ptr) × (first.now ≡ second.now)

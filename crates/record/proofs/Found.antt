-- What the layers above use of an answer, without opening its definition.
-- Assumes nothing.
use mathlib.Core.Path.{◌≡◌, refl}
use mathlib.Core.List.{List}
use Prim.Native.Nat.{ℕ}
use Rattle.laws.specs.Search.{first}
use Rattle.paper_record.specs.Class.{not_permitted, permitted_in, permitted_to}

pub permitted-first : (r : List ℕ) → permitted_to r ≡ first (not_permitted r) 0 80
unfolding permitted_to
permitted-first r = refl

pub permitted-in-first : (w : ℕ) (r : List ℕ) → permitted_in w r ≡ first (not_permitted r) 0 w
unfolding permitted_in
permitted-in-first w r = refl

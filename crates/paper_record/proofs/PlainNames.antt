-- The sixteen system identifiers: what is computed is what is said plainly.
-- Assumes nothing.
use Prim.Native.Nat.{ℕ, ◌+◌, ◌<◌}
use mathlib.Core.Path.{◌≡◌, refl, ◌∙◌, subst}
use mathlib.Core.Bool.{Bool, true, false}
use mathlib.Core.List.{List}
use native.Mathlib.Omega.{arith}
use lib.Dec.{eqb, eqb→eq}
use lib.ListN.{get_or, replicate}
use Rattle.laws.specs.Search.{first}
use Rattle.laws.proofs.Counting.{first_holds}
use Rattle.laws.proofs.Search.{first-same, pass-first}
use Rattle.laws.proofs.Table.{at}
use Rattle.paper_record.specs.Word.{differ_at, equal_to}
use Rattle.paper_record.specs.Identifier.{OTHER, name_at, is_name, identifier_of}
use Rattle.paper_record.specs.Same.{SameColumns}
use Rattle.paper_record.specs.PlainNames.{Named, NameExactly, OtherExactly}
use Rattle.paper_record.proofs.EqualColumns.{equal-at}

-- each name is its own, computed for all of them: so no two are equal
right : ℕ → ℕ → Bool
right k x = eqb (identifier_of (name_at k)) k

name-itself : (k : ℕ) → k < OTHER → identifier_of (name_at k) ≡ k
unfolding right identifier_of is_name equal_to first
name-itself k h = eqb→eq (identifier_of (name_at k)) k (at right (replicate OTHER 0) tt k h)

equal_as : (w : ℕ) (a b c : List ℕ) → SameColumns w a b → equal_to w a c ≡ equal_to w b c
unfolding equal_to
equal_as w a b c s =
    let e : first (differ_at a c) 0 w ≡ first (differ_at b c) 0 w =
    first-same (differ_at a c) (differ_at b c) 0 w (λ k p q. rw (s k (omega arith))) in
    rw e

named-is : (f : List ℕ) (k : ℕ) → k < OTHER → Named f k → identifier_of f ≡ k
unfolding identifier_of is_name
named-is f k h s =
    first-same (is_name f) (is_name (name_at k)) 0 OTHER (λ j p q. equal_as 11 f (name_at k) (name_at j) s)
    ∙ name-itself k h

is-named : (f : List ℕ) (k : ℕ) → k < OTHER → identifier_of f ≡ k → Named f k
unfolding identifier_of is_name
is-named f k h e =
    let l : first (is_name f) 0 OTHER < 0 + OTHER = omega (arith, e, h) in
    equal-at 11 f (name_at k) (subst (λ (j : ℕ). is_name f j ≡ true) e (first_holds (is_name f) 0 OTHER l))

pub name-exactly : NameExactly
name-exactly f k h = (is-named f k h, named-is f k h)

by-test : (f : List ℕ) (k : ℕ) → (Named f k → ⊥) → (t : Bool) → is_name f k ≡ t → is_name f k ≡ false
unfolding is_name
by-test f k none true e = absurd (none (equal-at 11 f (name_at k) e))
by-test f k none false e = e

none_other : (f : List ℕ) → ((k : ℕ) → k < OTHER → Named f k → ⊥) → identifier_of f ≡ OTHER
unfolding identifier_of
none_other f none = pass-first (is_name f) 0 OTHER (λ k p q. by-test f k (none k (omega arith)) (is_name f k) refl)

pub other-exactly : OtherExactly
other-exactly f = (λ e k h s. let d = named-is f k h s in omega arith, none_other f)

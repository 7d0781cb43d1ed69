-- A pointer that occurs among others: what the judge looks for is what is said plainly. Assumes nothing.
use Prim.Native.Nat.{ℕ}
use mathlib.Core.Path.{◌≡◌}
use mathlib.Core.Bool.{true, false}
use mathlib.Core.List.{List}
use mathlib.Core.Logic.{◌↔◌}
use lib.Dec.{eqb}
use borrow.Author.Tests.{eqb-true, eqb-false, eq-eqb, ne_eqb}
use Rattle.laws.specs.Members.{any_of}
use Rattle.paper_record.specs.Text.{is_blank}
use Rattle.paper_record.specs.Word.{pointer_of}
use Rattle.rules_plain.specs.Places.{Some}
use Rattle.rules_plain.proofs.Somewhere.{any-exactly}
use Rattle.good.specs.Subentries.{Occurs}

-- as the judge looks for it
abbrev pub FoundIn : List ℕ → List ℕ → Type 0
FoundIn pointers h = is_blank (pointer_of h) ≡ false → any_of (eqb (pointer_of h)) pointers ≡ true

module _ (pointers h : List ℕ) where
  among : (any_of (eqb (pointer_of h)) pointers ≡ true) ↔ Some (λ p. pointer_of h ≡ p) pointers
  among =
      any-exactly (eqb (pointer_of h)) (λ p. pointer_of h ≡ p)
      (λ p. (eqb-true (pointer_of h) p, eq-eqb (pointer_of h) p)) pointers

  pub occurs-found : Occurs pointers h → FoundIn pointers h
  occurs-found o e = among.1 (o (eqb-false (pointer_of h) 32 e))

  pub found-occurs : FoundIn pointers h → Occurs pointers h
  found-occurs f n = among.0 (f (ne_eqb (pointer_of h) 32 n))

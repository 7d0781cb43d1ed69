-- What is wrong at a flag, by what the number layer tells of the field.
-- Assumes nothing.
use Prim.Native.Nat.{ℕ}
use mathlib.Core.Path.{◌≡◌, refl, sym, ◌∙◌}
use mathlib.Core.Bool.{true, false, not, ◌&&◌}
use mathlib.Core.List.{List, ◌++◌}
use lib.Dec.{eqb}
use Rattle.laws.specs.Members.{any_of}
use Rattle.laws.proofs.Booleans.{and-with-true}
use Rattle.laws.proofs.Listing.{any_same, any-never}
use Rattle.paper_number.specs.declared.types.WholeRead.TheVariants.{NoNumber, Raised, Broken, Whole}
use Rattle.paper_number.specs.Whole.{whole_read, whole_is}
use Rattle.paper_number.proofs.WholeTold.{tells_number, number-told, exponent-told, told-broken, told-whole}
use Rattle.paper_record.specs.Numbers.{form_at, says_number}
use Rattle.paper_record.specs.Flags.{is_flag}
use Rattle.paper_rules.specs.Codes.{codes_of}
use Rattle.paper_rules.specs.Flags.{has_code, flag_wrong}

number-says : (f : List ℕ) → says_number (form_at f) ≡ tells_number (whole_read f)
number-says f = number-told f says_number refl refl refl

module _ (bib bib001 h f : List ℕ) where
  pub wrong-none : whole_read f ≡ NoNumber → false ≡ flag_wrong bib bib001 h f
  unfolding flag_wrong
  wrong-none e = rw (number-says f, e)

  pub wrong-raised : whole_read f ≡ Raised → true ≡ flag_wrong bib bib001 h f
  unfolding flag_wrong
  wrong-raised e = rw (number-says f, exponent-told f, e)

  pub wrong-broken : whole_read f ≡ Broken → is_flag h ≡ flag_wrong bib bib001 h f
  unfolding flag_wrong has_code
  wrong-broken e =
      let none : any_of (whole_is f) (codes_of bib ++ codes_of bib001) ≡ false =
      any_same (whole_is f) (λ x. false) (codes_of bib ++ codes_of bib001) (told-broken f e).2
      ∙ any-never (codes_of bib ++ codes_of bib001) in
      rw (number-says f, exponent-told f, e, none) (sym (and-with-true (is_flag h)))

  pub wrong-whole : (v : ℕ) → whole_read f ≡ Whole v
      → (is_flag h && not (any_of (eqb v) (codes_of bib ++ codes_of bib001))) ≡ flag_wrong bib bib001 h f
  unfolding flag_wrong has_code
  wrong-whole v e =
      let same : any_of (whole_is f) (codes_of bib ++ codes_of bib001) ≡ any_of (eqb v) (codes_of bib ++ codes_of bib001) =
      any_same (whole_is f) (eqb v) (codes_of bib ++ codes_of bib001) (told-whole f v e).2 in
      rw (number-says f, exponent-told f, e, same)

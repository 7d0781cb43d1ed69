-- The laws of number fields, which the layers above cite by these names.
-- Assumes nothing.
use mathlib.Core.Path.{◌≡◌, refl, sym, ap, ◌∙◌}
use mathlib.Core.List.{List, ◌++◌}
use Prim.Native.Nat.{ℕ, ◌<◌, ◌≤◌}
use native.Mathlib.Omega.{arith}
use borrow.Author.Tests.{eq-eqb, ne_eqb}
use lib.ListN.{length, get_or}
use Rattle.paper_number.specs.declared.types.Decimal.{Decimal}
use Rattle.paper_number.specs.declared.types.Reading.{Reading}
use Rattle.paper_number.specs.declared.types.Reading.TheVariants.{Blank, Number, Refused}
use Rattle.paper_number.specs.Grammar.{blanks, Field, GoodField, write, Letter}
use Rattle.paper_number.specs.Value.{meaning, Reads, Says, blank, number, malformed, WithinColumns}
use Rattle.paper_number.specs.Reading.{Lead, finish, read_field, read_number, answer}
use Rattle.paper_number.specs.Form.{form_of, form_refusal}
use Rattle.paper_number.specs.Claims.{ValueFound, ValueOne, SpeltOnce, SaysExactly, SaysOnce, ReadsExactly}
use Rattle.paper_number.specs.Claims.{BlankRead, ElevenRead, OthersRefused, ReadBoundsEleven}
use Rattle.paper_number.proofs.Equation as Equation
use Rattle.paper_number.proofs.Spelling as Spelling
use Rattle.paper_number.proofs.Follow as Follow
use Rattle.paper_number.proofs.Agree as Agree
use Rattle.paper_number.proofs.Letters as Letters
use Rattle.paper_number.proofs.Bounds as Bounds
use Rattle.paper_number.proofs.Sums as Sums

-- ---- values

-- every sign, whole number and power of ten has a value, and `value_of` works it out
pub value_found : ValueFound
value_found negative a p = Equation.found negative a p

-- it has no other
pub value-one : ValueOne
value-one negative a p v w x y = Equation.one x y

-- ---- fields

-- the grammar is unambiguous: columns are one field at most
pub spelt-once : SpeltOnce
spelt-once l f g s t = Spelling.once s t

-- a field reads to its value
pub reads-field : (f : Field) → GoodField f → read_field (write f) ≡ Number (meaning f)
reads-field f h = Follow.reads-field f h

-- ---- reading

-- a list reads to a value exactly when the grammar gives that value
pub reads-exactly : ReadsExactly
reads-exactly l v = (λ e. by-says (Agree.says l) e, Agree.reads-number)
  where
    by-says : {r : Reading} → Says l r → r ≡ Number v → Reads l v
    by-says (blank b) e = let z : ◌≡◌ {A = ℕ} 0 1 = cc in absurd (omega arith)
    by-says (number {v = w} r) e = let q : w ≡ v = cc in rw (← q) r
    by-says (malformed b n) e = let z : ◌≡◌ {A = ℕ} 0 1 = cc in absurd (omega arith)

-- it reads to one value only
pub reads-once : {l : List ℕ} {v w : Decimal} → Reads l v → Reads l w → v ≡ w
reads-once x y = let e = Agree.reads-number x in let f = Agree.reads-number y in cc

-- it reads as blank exactly when it is blanks
pub blank-read : BlankRead
blank-read l = (λ e. by-says (Agree.says l) e, λ b. Agree.said-so (blank b))
  where
    by-says : {r : Reading} → Says l r → r ≡ Blank → l ≡ blanks (length l)
    by-says (blank b) e = b
    by-says (number r) e = let z : ◌≡◌ {A = ℕ} 0 1 = cc in absurd (omega arith)
    by-says (malformed b n) e = let z : ◌≡◌ {A = ℕ} 0 1 = cc in absurd (omega arith)

-- the reading is total: of each list it says what the paper says
pub says_exactly : SaysExactly
says_exactly l r = (λ e. rw e at (Agree.says l), Agree.said-so)

-- and one: the paper says one thing of it
pub says-once : SaysOnce
says-once l r s x y = sym (Agree.said-so x) ∙ Agree.said-so y

-- "40 not eleven bytes"
pub eleven-read : ElevenRead
unfolding read_number
eleven-read l w = rw (eq-eqb (length l) 11 w)

pub others-refused : OthersRefused
unfolding read_number
others-refused l w = rw (ne_eqb (length l) 11 w)

-- its form has the number of what it reads to
pub form-refusal : (l : List ℕ) → form_refusal (form_of (read_field l)) ≡ (answer (read_field l)).refusal
form-refusal l = by-says (Agree.says l)
  where
    by-says : {r : Reading} → Says l r → form_refusal (form_of r) ≡ (answer r).refusal
    by-says (blank b) = refl
    by-says (number r) = refl
    by-says (malformed b n) = refl

-- a field of fewer columns reads like the wider one with blanks in front
pub read-wider : (k : ℕ) (l : List ℕ) → read_field (blanks k ++ l) ≡ read_field l
unfolding read_field
read-wider k l = ap finish (Follow.scan-lead k l)

-- a field that is blank or a number holds no other characters than these
pub number-letters : (l : List ℕ) → (read_field l ≡ Refused 15 → ⊥) → (i : ℕ) → i < length l → Letter (get_or l i 0)
unfolding read_field
number-letters l h i m = Letters.letters l Lead h i m

-- ---- sizes

-- what a field of at most w columns says is no larger than w columns allow; by `read-wider` w may be taken as 4 or more
pub read-bounds : (w : ℕ) (l : List ℕ) (v : Decimal) → 4 ≤ w → length l ≤ w → read_field l ≡ Number v → WithinColumns w v
read-bounds w l v h m e =
    let r = (reads-exactly l v).0 e in
    let f = r.field in
    let s : write f ≡ l = r.spells.same in
    let q : meaning f ≡ v = value-one _ _ _ _ _ (value_found _ _ _) r.means in
    rw q at (Bounds.within w f r.spells.good h (rw s m))

-- in eleven columns: coefficient at most 9,999,999,999, power from -100,000,000 to 99,999,999
pub read-bounds-eleven : ReadBoundsEleven
read-bounds-eleven l v h e =
    let r = read-bounds 11 l v (omega arith) (omega arith) e in
    (omega (arith, r.coefficient), r.least, Sums.lt-le v.power 99999999 r.most)

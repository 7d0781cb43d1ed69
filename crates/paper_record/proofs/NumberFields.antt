-- A field that reads, as blank or as a number, holds permitted characters only and is no system identifier.
-- Assumes nothing.
use mathlib.Core.Path.{◌≡◌, refl}
use mathlib.Core.Bool.{Bool, true, false, cond, not, ◌&&◌}
use mathlib.Core.List.{List}
use Prim.Native.Nat.{ℕ, ◌+◌, ◌*◌, ◌%◌, ◌<◌}
use native.Mathlib.Omega.{arith}
use borrow.Author.Tests.{eqb-true, not-false}
use lib.Dec.{T, eqb, leb}
use lib.ListN.{length, get_or}
use Rattle.laws.specs.Search.{first}
use Rattle.laws.specs.Members.{join_of, any_of}
use Rattle.laws.proofs.Search.{first-pass, pass-first}
use Rattle.laws.proofs.Table.{at}
use Rattle.paper_number.specs.Grammar.{sign_byte, Letter, blank, digit, point, sign, mark}
use Rattle.paper_number.specs.declared.types.Reading.{Reading}
use Rattle.paper_number.specs.declared.types.Reading.TheVariants.{Refused}
use Rattle.paper_number.specs.Reading.{read_field}
use Rattle.paper_number.proofs.Laws.{number-letters}
use Rattle.paper_number.specs.Form.{form_of}
use Rattle.paper_record.specs.Numbers.{form_at, no_value}
use Rattle.paper_record.specs.Class.{is_permitted, digits}
use Rattle.paper_record.specs.Word.{differ_at, equal_to}
use Rattle.paper_record.specs.Identifier.{OTHER, name_at, name_table, is_name, identifier_of}
use Rattle.paper_record.proofs.NameTable.{name-at}

pub true_of : (t : Bool) → T t → t ≡ true
true_of true h = refl
true_of false h = absurd h

-- a field that is blank or a number is not malformed
reads : (x : Reading) → no_value true (form_of x) ≡ false → x ≡ Refused 15 → ⊥
reads x e h = let z : ◌≡◌ {A = Bool} true false = rw h at e in let w : ◌≡◌ {A = ℕ} 0 1 = cc in omega arith

-- a letter of names: a capital that is not E
unfoldable name_letter : ℕ → Bool
name_letter b = leb 65 b && not (eqb b 69)

-- what holds of each character of a number field, computed
unfoldable numbers : ℕ → Bool
numbers b = is_permitted b && not (name_letter b)

digit-numbers : (d : ℕ) → d < 10 → numbers (48 + d) ≡ true
unfolding numbers name_letter is_permitted any_of
digit-numbers d h = true_of (numbers (48 + d)) (at (λ k x. numbers (48 + k)) digits tt d h)

sign_numbers : (g : Bool) → numbers (sign_byte g) ≡ true
unfolding numbers name_letter is_permitted any_of
sign_numbers true = refl
sign_numbers false = refl

letter-numbers : (b : ℕ) → Letter b → numbers b ≡ true
unfolding numbers name_letter is_permitted any_of
letter-numbers b (blank e) = rw e refl
letter-numbers b (digit d h e) = rw e (digit-numbers d h)
letter-numbers b (point e) = rw e refl
letter-numbers b (sign g e) = rw e (sign_numbers g)
letter-numbers b (mark e) = rw e refl

both : (a b : Bool) → (a && not b) ≡ true → (a ≡ true) × (b ≡ false)
both true true e = let z : ◌≡◌ {A = ℕ} 0 1 = cc in absurd (omega arith)
both true false e = (refl, refl)
both false b e = let z : ◌≡◌ {A = ℕ} 0 1 = cc in absurd (omega arith)

module _ (f : List ℕ) (good : no_value true (form_at f) ≡ false) where
  letters : (i : ℕ) → i < length f → (is_permitted (get_or f i 0) ≡ true) × (name_letter (get_or f i 0) ≡ false)
  unfolding numbers
  letters i h =
      both (is_permitted (get_or f i 0)) (name_letter (get_or f i 0))
      (letter-numbers (get_or f i 0) (number-letters f (reads (read_field f) good) i h))

  pub read-permitted : (i : ℕ) → i < length f → is_permitted (get_or f i 0) ≡ true
  read-permitted i h = (letters i h).0

-- the second letter of each name, computed for all of them
second : ℕ → ℕ → Bool
second p x = cond (eqb (p % 11) 1) (name_letter x) true

name-second : (k : ℕ) → k < OTHER → name_letter (get_or (name_at k) 1 0) ≡ true
unfolding second name_letter name_table join_of
name-second k h =
    let m : (11 * k + 1) % 11 ≡ 1 = omega arith in
    let t : T (second (11 * k + 1) (get_or name_table (11 * k + 1) 0)) = at second name_table tt (11 * k + 1)
    (omega arith) in
    let u : T (cond (eqb ((11 * k + 1) % 11) 1) (name_letter (get_or name_table (11 * k + 1) 0)) true) = t in
    let v : T (name_letter (get_or name_table (11 * k + 1) 0)) = rw m at u in
    rw (← name-at k 1 h (omega arith)) (true_of (name_letter (get_or name_table (11 * k + 1) 0)) v)

-- a field that is a name has its second letter
name-letter : (f : List ℕ) (k : ℕ) → is_name f k ≡ true → get_or f 1 0 ≡ get_or (name_at k) 1 0
unfolding is_name equal_to
name-letter f k h =
    let differs : ℕ → Bool = differ_at f (name_at k) in
    let e : first differs 0 11 ≡ 11 = eqb-true (first differs 0 11) 11 h in
    eqb-true (get_or f 1 0) (get_or (name_at k) 1 0)
    (not-false (eqb (get_or f 1 0) (get_or (name_at k) 1 0)) (first-pass differs 0 11 e 1 (omega arith) (omega arith)))

pub read-identifier : (f : List ℕ) → 1 < length f → no_value true (form_at f) ≡ false → identifier_of f ≡ OTHER
unfolding identifier_of
read-identifier f long good = pass-first (is_name f) 0 OTHER (λ k a b. none k b (is_name f k) refl)
  where
    none : (k : ℕ) → k < OTHER → (t : Bool) → is_name f k ≡ t → is_name f k ≡ false
    none k h true e =
        let a : name_letter (get_or f 1 0) ≡ true = rw (name-letter f k e) (name-second k h) in
        let b : name_letter (get_or f 1 0) ≡ false = (letters f good 1 long).1 in
        let z : ◌≡◌ {A = ℕ} 0 1 = cc in
        absurd (omega arith)
    none k h false e = e

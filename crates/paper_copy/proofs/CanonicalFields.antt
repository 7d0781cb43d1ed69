-- A record whose number fields are made canonical: what is read from it, what stands behind its fields and which
-- characters it holds.
-- Assumes nothing.
use Prim.Native.Nat.{ℕ, suc, ◌+◌, ◌*◌, ◌-◌, ◌/◌, ◌%◌, ◌<◌, ◌≤◌}
use mathlib.Core.Path.{◌≡◌, refl, sym, ◌∙◌, ap}
use mathlib.Core.Bool.{Bool, true, false}
use mathlib.Core.List.{List, [], ◌∷◌, ◌++◌}
use native.Mathlib.Omega.{arith}
use lib.ListN.{length, take, drop, get_or, length-drop, get_or-append, get_or-eq_default}
use lib.Seq.{length-take-le, get_or-take, get_or-drop, get_or-append-add, ext_get_or}
use Rattle.paper_copy.specs.Replaced.{replaced, Each, FieldsAlike}
use Rattle.laws.proofs.Search.{either}
use Rattle.paper_copy.proofs.Replaced.{length-copy, field-of-copy, past-copy, each_at, copy-twice, alike-copy}
use Rattle.paper_copy.proofs.Replaced.{copy-alike, alike-behind, alike_at, fields-alike}
use Rattle.paper_number.specs.declared.types.Reading.{Reading}
use Rattle.paper_number.specs.declared.types.Reading.TheVariants.{Blank, Number, Refused}
use Rattle.paper_number.specs.Reading.{read_field}
use Rattle.paper_canonical.specs.Replacing.{canonical, Formed}
use Rattle.paper_canonical.proofs.Laws.{canonical-length, canonical-same, canonical-alike, canonical-again}
use Rattle.paper_number.specs.Form.{form_of}
use Rattle.paper_record.specs.Numbers.{form_at, no_value}
use Rattle.paper_record.specs.Class.{is_permitted}
use Rattle.paper_record.specs.Fields.{field_at}
use Rattle.paper_record.specs.Identifier.{identifier_of}
use Rattle.paper_copy.specs.CopyField.{copy_field}
use Rattle.paper_copy.specs.Demand.{AlikeField}
use Rattle.paper_record.proofs.NumberFields.{read-permitted, read-identifier}

-- what a field has to be to be copied: eleven columns, and blank or a number where it is a number field
pub record Fit (number : Bool) (f : List ℕ) : Type 0 where
  pub wide : length f ≡ 11
  pub good : number ≡ true → no_value true (form_at f) ≡ false

formed : (x : Reading) → no_value true (form_of x) ≡ false → Formed x
formed Blank e = tt
formed (Number v) e = tt
formed (Refused n) e = let z : ◌≡◌ {A = ℕ} 0 1 = cc in absurd (omega arith)

-- ---- one field

wide-field : (m : Bool) (f : List ℕ) → Fit m f → length (copy_field m f) ≡ 11
wide-field true f h = canonical-length f ∙ h.wide
wide-field false f h = h.wide

reads-field : (m : Bool) (f : List ℕ) → read_field (copy_field m f) ≡ read_field f
reads-field true f = canonical-same f
reads-field false f = refl

once-field : (m : Bool) (f : List ℕ) → Fit m f → copy_field m (copy_field m f) ≡ copy_field m f
once-field true f h = canonical-again f
once-field false f h = refl

one_field : (m : Bool) (f g : List ℕ) → Fit m f → Fit m g → AlikeField m f g → copy_field m f ≡ copy_field m g
one_field true f g p q a =
    canonical-alike f g (p.wide ∙ sym q.wide) (formed (read_field f) (p.good refl)) a
one_field false f g p q a = a

alike-field : (m : Bool) (f g : List ℕ) → Fit m f → Fit m g → copy_field m f ≡ copy_field m g → AlikeField m f g
alike-field true f g p q e = sym (canonical-same f) ∙ ap read_field e ∙ canonical-same g
alike-field false f g p q e = e

-- a number field and its canonical field bear the same identifier: none
identifier-field : (m : Bool) (f : List ℕ) → Fit m f → identifier_of (copy_field m f) ≡ identifier_of f
identifier-field true f h =
    let good = h.good refl in
    let wide : length (canonical f) ≡ 11 = canonical-length f ∙ h.wide in
    let w : length f ≡ 11 = h.wide in
    read-identifier (canonical f) (omega arith) (rw (canonical-same f) good)
    ∙ sym (read-identifier f (omega arith) good)
identifier-field false f h = refl

letters-field : (m : Bool) (f : List ℕ) → Fit m f → (i : ℕ) → i < 11 → is_permitted (get_or f i 0) ≡ true
    → is_permitted (get_or (copy_field m f) i 0) ≡ true
letters-field true f h i l p =
    read-permitted (canonical f) (rw (canonical-same f) (h.good refl)) i (rw (canonical-length f, h.wide) l)
letters-field false f h i l p = p

-- ---- the fields of a record

module _ (ms : List Bool) (r : List ℕ) (fit : Each Fit ms r) where
  pub copied-length : length ms * 11 ≤ length r → length (replaced copy_field ms r) ≡ length r
  copied-length room = length-copy copy_field Fit wide-field ms r room fit

  pub copied-field : (i : ℕ) → i < length ms
      → field_at (replaced copy_field ms r) i ≡ copy_field (get_or ms i false) (field_at r i)
  copied-field = field-of-copy copy_field Fit wide-field false ms r fit

  pub copied-past : (n : ℕ) → length ms * 11 ≤ n → drop n (replaced copy_field ms r) ≡ drop n r
  copied-past = past-copy copy_field Fit wide-field ms r fit

  -- each field, number field or not, reads as before
  pub copied-reads : (i : ℕ) → read_field (field_at (replaced copy_field ms r) i) ≡ read_field (field_at r i)
  copied-reads i =
      either i (length ms)
      (λ l. rw (copied-field i l) (reads-field (get_or ms i false) (field_at r i)))
      (λ l. rw (copied-past (i * 11) (omega arith)))

  pub copied-identifier : identifier_of (field_at (replaced copy_field ms r) 0) ≡ identifier_of (field_at r 0)
  copied-identifier =
      either 0 (length ms)
      (λ l. rw (copied-field 0 l) (identifier-field (get_or ms 0 false) (field_at r 0) (each_at Fit false ms r fit 0 l)))
      (λ l. rw (copied-past 0 (omega arith)))

  pub copied-once : replaced copy_field ms (replaced copy_field ms r) ≡ replaced copy_field ms r
  copied-once = copy-twice copy_field Fit wide-field once-field ms r fit

module _ (ms : List Bool) (r t : List ℕ) (p : Each Fit ms r) (q : Each Fit ms t) where
  pub alike-copied : FieldsAlike AlikeField ms r t → replaced copy_field ms r ≡ replaced copy_field ms t
  alike-copied = alike-copy copy_field Fit wide-field AlikeField one_field ms r t p q

  pub copied-alike : replaced copy_field ms r ≡ replaced copy_field ms t → FieldsAlike AlikeField ms r t
  copied-alike = copy-alike copy_field Fit wide-field AlikeField alike-field ms r t p q

-- permitted characters stay permitted
pub copied-letters : (ms : List Bool) (r : List ℕ) → length ms * 11 ≤ length r → Each Fit ms r
    → (n : ℕ) → ((i : ℕ) → i < n → is_permitted (get_or r i 0) ≡ true)
    → (i : ℕ) → i < n → is_permitted (get_or (replaced copy_field ms r) i 0) ≡ true
unfolding replaced Each
copied-letters [] r h g n p i l = p i l
copied-letters (m ∷ ms) r h g n p i l =
    let a = copy_field m (take 11 r) in
    let x = replaced copy_field ms (drop 11 r) in
    let w : length a ≡ 11 = wide-field m (take 11 r) g.0 in
    either i 11
    (λ q.
    rw (get_or-append a x 0 i (omega arith))
    (letters-field m (take 11 r) g.0 i q (rw (get_or-take 11 r i 0 q) (p i l))))
    (λ q.
    let e : i ≡ length a + (i - 11) = omega arith in
    rw (ap (λ (j : ℕ). get_or (a ++ x) j 0) e ∙ get_or-append-add a x (i - 11) 0)
    (copied-letters ms (drop 11 r) (simp length-drop (omega arith)) g.1 (n - 11)
    (λ j m. rw (get_or-drop 11 r j 0) (p (11 + j) (omega arith))) (i - 11) (omega arith)))

-- ---- alike, byte by byte: what is no number field is equal

byte-in : (r : List ℕ) (j : ℕ) → get_or (field_at r (j / 11)) (j % 11) 0 ≡ get_or r j 0
byte-in r j =
    let e : j / 11 * 11 + j % 11 ≡ j = omega arith in
    get_or-take 11 (drop (j / 11 * 11) r) (j % 11) 0 (omega arith)
    ∙ get_or-drop (j / 11 * 11) r (j % 11) 0
    ∙ ap (λ (k : ℕ). get_or r k 0) e

byte_past : (r : List ℕ) (m j : ℕ) → m ≤ j → get_or (drop m r) (j - m) 0 ≡ get_or r j 0
byte_past r m j h =
    let e : m + (j - m) ≡ j = omega arith in
    get_or-drop m r (j - m) 0 ∙ ap (λ (k : ℕ). get_or r k 0) e

pub alike-byte : (ms : List Bool) (r t : List ℕ) → FieldsAlike AlikeField ms r t → (j : ℕ)
    → get_or ms (j / 11) false ≡ false → get_or r j 0 ≡ get_or t j 0
alike-byte ms r t a j e =
    either (j / 11) (length ms)
    (λ l.
    let same : field_at r (j / 11) ≡ field_at t (j / 11) = rw e at (alike_at AlikeField false ms r t a (j / 11) l) in
    sym (byte-in r j) ∙ ap (λ (f : List ℕ). get_or f (j % 11) 0) same ∙ byte-in t j)
    (λ l.
    let m = length ms * 11 in
    sym (byte_past r m j (omega arith))
    ∙ ap (λ (f : List ℕ). get_or f (j - m) 0) (alike-behind AlikeField ms r t a)
    ∙ byte_past t m j (omega arith))

pub alike-reads : (ms : List Bool) (r t : List ℕ) → FieldsAlike AlikeField ms r t → (k : ℕ) → k < length ms
    → get_or ms k false ≡ true → AlikeField true (field_at r k) (field_at t k)
alike-reads ms r t a k l e = rw e at (alike_at AlikeField false ms r t a k l)

-- and the other way round
module _ (ms : List Bool) (r t : List ℕ) (n : ℕ) (p : length r ≡ n) (q : length t ≡ n) (room : length ms * 11 ≤ n)
    (bytes : (j : ℕ) → j < n → get_or ms (j / 11) false ≡ false → get_or r j 0 ≡ get_or t j 0)
    (reads : (k : ℕ) → get_or ms k false ≡ true → AlikeField true (field_at r k) (field_at t k)) where
  behind : drop (length ms * 11) r ≡ drop (length ms * 11) t
  behind =
      let m = length ms * 11 in
      ext_get_or 0 (drop m r) (drop m t) (simp length-drop (omega arith))
      (λ i l.
      let b : i < n - m = rw (length-drop m r, p) at l in
      rw (get_or-drop m r i 0, get_or-drop m t i 0)
      (bytes (m + i) (omega arith) (get_or-eq_default ms false (omega arith))))

  wide : (s : List ℕ) (k : ℕ) → length s ≡ n → k < length ms → length (field_at s k) ≡ 11
  wide s k e l = length-take-le 11 (drop (k * 11) s) (simp length-drop (omega arith))

  at_mark : (k : ℕ) → k < length ms → (b : Bool) → get_or ms k false ≡ b → AlikeField b (field_at r k) (field_at t k)
  at_mark k l true e = reads k e
  at_mark k l false e =
      ext_get_or 0 (field_at r k) (field_at t k) (wide r k p l ∙ sym (wide t k q l))
      (λ i u.
      let w : i < 11 = rw (wide r k p l) at u in
      let d : (k * 11 + i) / 11 ≡ k = omega arith in
      rw (get_or-take 11 (drop (k * 11) r) i 0 w, get_or-take 11 (drop (k * 11) t) i 0 w)
      (rw (get_or-drop (k * 11) r i 0, get_or-drop (k * 11) t i 0) (bytes (k * 11 + i) (omega arith) (rw d e))))

  pub bytes-alike : FieldsAlike AlikeField ms r t
  bytes-alike = fields-alike AlikeField false ms r t behind (λ k l. at_mark k l (get_or ms k false) refl)

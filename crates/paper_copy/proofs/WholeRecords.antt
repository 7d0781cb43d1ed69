-- The copy of a whole record, field by field, whatever its fields read to.
-- Assumes nothing.
use Prim.Native.Nat.{ℕ, suc, ◌+◌, ◌*◌, ◌<◌, ◌≤◌}
use mathlib.Core.Path.{◌≡◌, refl, sym, ◌∙◌, ap}
use mathlib.Core.Bool.{Bool, true, false}
use mathlib.Core.List.{List, [], ◌∷◌}
use native.Mathlib.Omega.{arith}
use lib.ListN.{length, take, drop, get_or, length-drop, take-append-drop}
use lib.Seq.{paste, length-take-le, take-take}
use Rattle.paper_copy.specs.Replaced.{replaced, Each, mask}
use Rattle.paper_copy.proofs.Replaced.{each_of, length-mask, mask_at, length-copy, field-of-copy, behind-copy}
use Rattle.paper_canonical.proofs.Laws.{canonical-length}
use Rattle.paper_record.specs.Fields.{field_at}
use Rattle.paper_copy.specs.CopyField.{copy_field}
use Rattle.laws.proofs.Pasted.{paste_more}

abbrev Eleven : Bool → List ℕ → Type 0
Eleven m f = length f ≡ 11

wide : (m : Bool) (f : List ℕ) → length f ≡ 11 → length (copy_field m f) ≡ 11
wide true f h = canonical-length f ∙ h
wide false f h = h

-- ---- no number field: nothing is changed

pub none-copied : (ms : List Bool) (r : List ℕ) → ((i : ℕ) → i < length ms → get_or ms i false ≡ false)
    → replaced copy_field ms r ≡ r
unfolding replaced
none-copied [] r h = refl
none-copied (m ∷ ms) r h =
    let e : m ≡ false = h 0 (omega arith) in
    rw (e, none-copied ms (drop 11 r) (λ i l. h (suc i) (omega arith))) (take-append-drop 11 r)

module _ (test : ℕ → Bool) (r : List ℕ) (whole : length r ≡ 81) where
  six : length (mask test 0 6) ≡ 6
  six = length-mask test 0 6

  eleven : Each Eleven (mask test 0 6) r
  eleven =
      each_of Eleven false (mask test 0 6) r
      (λ k l.
      let few : k < 6 = rw six at l in
      length-take-le 11 (drop (k * 11) r) (simp length-drop (omega arith)))

  pub whole_length : length (replaced copy_field (mask test 0 6) r) ≡ 81
  whole_length =
      let e : length (mask test 0 6) ≡ 6 = six in
      length-copy copy_field Eleven wide (mask test 0 6) r (omega arith) eleven ∙ whole

  pub whole-field : (k : ℕ) → k < 6 → field_at (replaced copy_field (mask test 0 6) r) k
      ≡ copy_field (test k) (field_at r k)
  whole-field k h =
      let z : 0 + k ≡ k = omega arith in
      let e : get_or (mask test 0 6) k false ≡ test k = mask_at test false 6 0 k h ∙ ap test z in
      field-of-copy copy_field Eleven wide false (mask test 0 6) r eleven k (rw six h)
      ∙ ap (λ (m : Bool). copy_field m (field_at r k)) e

  pub whole-rest : drop 66 (replaced copy_field (mask test 0 6) r) ≡ drop 66 r
  whole-rest = rw six at (behind-copy copy_field Eleven wide (mask test 0 6) r eleven)

  -- ---- stored part by part

  -- the field k behind the fields before it
  pub field-pasted : (d : List ℕ) (at k : ℕ) → at + 66 ≤ length d → k < 6
      → paste (paste d at (replaced copy_field (mask test 0 6) r) (k * 11)) (at + k * 11)
      (copy_field (test k) (field_at r k)) 11
      ≡ paste d at (replaced copy_field (mask test 0 6) r) ((k + 1) * 11)
  field-pasted d at k room h =
      let new = replaced copy_field (mask test 0 6) r in
      let long : length new ≡ 81 = whole_length in
      let e : k * 11 + 11 ≡ (k + 1) * 11 = omega arith in
      let same : take 11 (copy_field (test k) (field_at r k)) ≡ take 11 (drop (k * 11) new) =
      ap (take 11) (sym (whole-field k h)) ∙ take-take 11 11 (drop (k * 11) new) (omega arith) in
      paste_more d new (copy_field (test k) (field_at r k)) at (k * 11) 11 (omega arith) (omega arith) same
      ∙ ap (λ (n : ℕ). paste d at new n) e

  -- columns 67 to 81 behind the six fields
  pub rest-pasted : (d : List ℕ) (at : ℕ) → at + 66 ≤ length d
      → paste (paste d at (replaced copy_field (mask test 0 6) r) 66) (at + 66) (drop 66 r) 15
      ≡ paste d at (replaced copy_field (mask test 0 6) r) 81
  rest-pasted d at room =
      let new = replaced copy_field (mask test 0 6) r in
      let long : length new ≡ 81 = whole_length in
      paste_more d new (drop 66 r) at 66 15 (omega arith) (omega arith) (ap (take 15) (sym whole-rest))

-- a record that has no number field is copied as it is
pub plain-record : (test : ℕ → Bool) (r : List ℕ) → ((k : ℕ) → test k ≡ false)
    → replaced copy_field (mask test 0 6) r ≡ r
plain-record test r none =
    none-copied (mask test 0 6) r
    (λ k l. mask_at test false 6 0 k (rw (length-mask test 0 6) at l) ∙ none (0 + k))

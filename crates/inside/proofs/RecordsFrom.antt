-- Records one behind the other, as the judge keeps them for its rules, and the first eleven columns of each.
-- Assumes nothing.
use Prim.Native.Nat.{ℕ, suc, ◌+◌, ◌*◌, ◌-◌, ◌/◌, ◌<◌, ◌≤◌}
use mathlib.Core.Path.{◌≡◌, refl, sym, ◌∙◌, ap}
use mathlib.Core.Bool.{false}
use mathlib.Core.List.{List, [], ◌++◌}
use native.Mathlib.Omega.{arith}
use lib.Dec.{eqb}
use lib.ListN.{length, take, drop, get_or, length-drop}
use lib.Seq.{length-take-le, take-add, take-take, drop-drop, drop_at, get_or-take, get_or-drop}
use Rattle.laws.specs.Blocks.{block_at}
use Rattle.laws.specs.Members.{any_of}
use Rattle.laws.proofs.Listing.{any_none}
use Rattle.paper_record.specs.Fields.{fields_of}
use Rattle.paper_record.specs.Word.{equal_to, pointer_of}
use Rattle.paper_record.proofs.ReadColumns.{field-of}
use Rattle.paper_rules.specs.Text.{place_in_part, places_of, pointers_of, pointer_at}

-- columns 1 to 11 are the first field
pub place-field : (s : List ℕ) (i : ℕ) → get_or (fields_of (block_at 81 s i)) 0 [] ≡ place_in_part s i
place-field s i =
    let r = drop (i * 81) s in
    field-of (take 81 r) 0 (omega arith) ∙ take-take 11 81 r (omega arith)

-- e records from the index b on
abbrev pub records_from : List ℕ → ℕ → ℕ → List ℕ
records_from s b e = take (e * 81) (drop (b * 81) s)

pub records-none : (s : List ℕ) (b : ℕ) → records_from s b 0 ≡ []
records-none s b = refl

pub records-next : (s : List ℕ) (b e : ℕ) → records_from s b e ++ block_at 81 s (b + e) ≡ records_from s b (suc e)
records-next s b e =
    let l = drop (b * 81) s in
    let x : suc e * 81 ≡ e * 81 + 81 = omega arith in
    let y : b * 81 + e * 81 ≡ (b + e) * 81 = omega arith in
    rw x (sym (take-add (e * 81) 81 l ∙ rw (drop-drop (e * 81) (b * 81) s, y)))

drop-taken : (q w : ℕ) (l : List ℕ) → q ≤ length l → drop q (take (q + w) l) ≡ take w (drop q l)
drop-taken q w l h = rw (take-add q w l) (drop_at (take q l) (take w (drop q l)) q (length-take-le q l h))

module _ (s : List ℕ) (b e : ℕ) (fits : (b + e) * 81 ≤ length s) where
  records-count : length (records_from s b e) / 81 ≡ e
  records-count =
      let z : length (records_from s b e) ≡ e * 81 =
      length-take-le (e * 81) (drop (b * 81) s) (simp length-drop (omega arith)) in
      omega arith

  -- columns 1 to 11 of the record q of them
  record-place : (q : ℕ) → q < e → place_in_part (records_from s b e) q ≡ place_in_part s (b + q)
  record-place q h =
      let l = drop (b * 81) s in
      let r = drop ((b + q) * 81) s in
      let w = (e - q) * 81 in
      let x : e * 81 ≡ q * 81 + w = omega arith in
      let y : b * 81 + q * 81 ≡ (b + q) * 81 = omega arith in
      let here : drop (q * 81) (records_from s b e) ≡ take w r =
      ap (λ (n : ℕ). drop (q * 81) (take n l)) x ∙ drop-taken (q * 81) w l (simp length-drop (omega arith))
      ∙ ap (take w) (drop-drop (q * 81) (b * 81) s ∙ ap (λ (n : ℕ). drop n s) y) in
      ap (take 11) here ∙ take-take 11 w r (omega arith)

  record-pointer : (q : ℕ) → q < e → pointer_at (records_from s b e) q ≡ pointer_of (place_in_part s (b + q))
  record-pointer q h =
      let part = records_from s b e in
      sym (get_or-take 11 (drop (q * 81) part) 10 0 (omega arith) ∙ get_or-drop (q * 81) part 10 0)
      ∙ ap pointer_of (record-place q h)

-- none of them has these ten columns, or this pointer
module _ (s : List ℕ) (b e : ℕ) (fits : (b + e) * 81 ≤ length s) where
  pub not-among : (f : List ℕ) → any_of (equal_to 10 f) (places_of (records_from s b e)) ≡ false → (q : ℕ) → q < e
      → equal_to 10 f (place_in_part s (b + q)) ≡ false
  unfolding places_of
  not-among f none q h =
      let n = records-count s b e fits in
      rw (record-place s b e fits q h) at
      (any_none (equal_to 10 f) _ 0 (length (records_from s b e) / 81) none q (omega arith) (omega arith))

  pub not-pointed : (p : ℕ) → any_of (eqb p) (pointers_of (records_from s b e)) ≡ false → (q : ℕ) → q < e
      → eqb p (pointer_of (place_in_part s (b + q))) ≡ false
  unfolding pointers_of
  not-pointed p none q h =
      let n = records-count s b e fits in
      rw (record-pointer s b e fits q h) at
      (any_none (eqb p) _ 0 (length (records_from s b e) / 81) none q (omega arith) (omega arith))

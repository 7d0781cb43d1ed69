-- The records of a table among those of an entry, by their index: behind the record that opens it the headings, the
-- units and the lines, k records to a row. And ten columns of a field among the bytes of an entry.
-- Assumes nothing.
use Prim.Native.Nat.{ℕ, zero, suc, ◌+◌, ◌*◌, ◌<◌, ◌≤◌}
use mathlib.Core.Path.{◌≡◌, sym, ◌∙◌, ap}
use mathlib.Core.List.{List, [], ◌∷◌, ◌++◌, append_assoc}
use native.Mathlib.Omega.{arith}
use native.Mathlib.Nat.{suc-mul, zero-mul}
use lib.ListN.{length, get_or, take, drop, length-append, length-drop, get_or-append}
use lib.Seq.{get_or-append-add, get_or-take, get_or-drop, length-take-le, ext_get_or}
use Rattle.laws.specs.Walk.{All}
use Rattle.laws.specs.Blocks.{block_at}
use Rattle.paper_record.specs.Fields.{field_at}
use Rattle.rules_plain.specs.Places.{concat}
use Rattle.good.specs.Parts.{Record, Table, rows_of}

-- ---- rows of k records

concat-at : (rows : List (List Record)) (tail : List Record) (k l m : ℕ) → All (λ row. length row ≡ k) rows
    → l < length rows → m < k → get_or (concat rows ++ tail) (l * k + m) [] ≡ get_or (get_or rows l []) m []
unfolding concat
concat-at [] tail k l m a h i = absurd (omega arith)
concat-at (row ∷ rows) tail k zero m a h i =
    let z : 0 * k + m ≡ m = omega (arith, zero-mul k) in
    let e = a.0 in
    let n = length-append row (concat rows) in
    rw z
    (get_or-append (row ++ concat rows) tail [] m (omega arith)
    ∙ get_or-append row (concat rows) [] m (omega arith))
concat-at (row ∷ rows) tail k (suc l) m a h i =
    let e = a.0 in
    let z : suc l * k + m ≡ length row + (l * k + m) = omega (arith, suc-mul l k) in
    rw (z, append_assoc row (concat rows) tail)
    (get_or-append-add row (concat rows ++ tail) (l * k + m) [] ∙ concat-at rows tail k l m a.1 (omega arith) i)

-- a line of a table among its records
pub line_at : (pre : List Record) (o : Record) (t : Table) (behind : List Record) (k l m : ℕ) → length t.headings ≡ k
    → length t.units ≡ k → All (λ row. length row ≡ k) t.lines → l < length t.lines → m < k
    → get_or (pre ++ (o ∷ (rows_of t ++ behind))) (suc (length pre) + suc (suc l) * k + m) []
    ≡ get_or (get_or t.lines l []) m []
line_at pre o t behind k l m h u a i j =
    let x = suc-mul (suc l) k in
    let y = suc-mul l k in
    let z : suc (length pre) + suc (suc l) * k + m
    ≡ length pre + suc (length t.headings + (length t.units + (l * k + m))) = omega arith in
    rw (
      z,
      append_assoc t.headings (t.units ++ concat t.lines) behind,
      append_assoc t.units (concat t.lines) behind,
    )
    (get_or-append-add pre _ _ []
    ∙ get_or-append-add t.headings _ _ []
    ∙ get_or-append-add t.units _ _ []
    ∙ concat-at t.lines behind k l m a i j)

-- a heading and a unit record among them
pub head_at : (pre : List Record) (o : Record) (t : Table) (behind : List Record) (k m : ℕ)
    → length t.headings ≡ k → m < k
    → get_or (pre ++ (o ∷ (rows_of t ++ behind))) (suc (length pre) + 0 * k + m) [] ≡ get_or t.headings m []
head_at pre o t behind k m h j =
    let z : suc (length pre) + 0 * k + m ≡ length pre + suc m = omega (arith, zero-mul k) in
    rw (z, append_assoc t.headings (t.units ++ concat t.lines) behind)
    (get_or-append-add pre _ _ [] ∙ get_or-append t.headings _ [] m (omega arith))

pub unit-at : (pre : List Record) (o : Record) (t : Table) (behind : List Record) (k m : ℕ) → length t.headings ≡ k
    → length t.units ≡ k → m < k
    → get_or (pre ++ (o ∷ (rows_of t ++ behind))) (suc (length pre) + 1 * k + m) [] ≡ get_or t.units m []
unit-at pre o t behind k m h u j =
    let x = suc-mul 0 k in
    let y = zero-mul k in
    let z : suc (length pre) + 1 * k + m ≡ length pre + suc (length t.headings + m) = omega arith in
    rw (
      z,
      append_assoc t.headings (t.units ++ concat t.lines) behind,
      append_assoc t.units (concat t.lines) behind,
    )
    (get_or-append-add pre _ _ []
    ∙ get_or-append-add t.headings _ _ []
    ∙ get_or-append t.units _ [] m (omega arith))

-- ten columns of the entry are those of a field of a record
pub ten-of : (s : List ℕ) (i f : ℕ) → f < 6 → i * 81 + 81 ≤ length s
    → take 10 (drop (i * 81 + f * 11) s) ≡ take 10 (field_at (block_at 81 s i) f)
ten-of s i f h l =
    let r = block_at 81 s i in
    let wide : length r ≡ 81 = length-take-le 81 (drop (i * 81) s) (simp length-drop (omega arith)) in
    let a : length (take 10 (drop (i * 81 + f * 11) s)) ≡ 10 =
    length-take-le 10 (drop (i * 81 + f * 11) s) (simp length-drop (omega arith)) in
    let b : length (take 10 (field_at r f)) ≡ 10 =
    length-take-le 10 (field_at r f)
    (rw (length-take-le 11 (drop (f * 11) r) (simp length-drop (omega arith))) (omega arith)) in
    ext_get_or 0 (take 10 (drop (i * 81 + f * 11) s)) (take 10 (field_at r f)) (a ∙ sym b)
    (λ j m.
    let n : j < 10 = omega arith in
    let e : i * 81 + f * 11 + j ≡ i * 81 + (f * 11 + j) = omega arith in
    get_or-take 10 (drop (i * 81 + f * 11) s) j 0 n
    ∙ get_or-drop (i * 81 + f * 11) s j 0
    ∙ ap (λ (x : ℕ). get_or s x 0) e
    ∙ sym (get_or-drop (i * 81) s (f * 11 + j) 0)
    ∙ sym (get_or-take 81 (drop (i * 81) s) (f * 11 + j) 0 (omega arith))
    ∙ sym (get_or-drop (f * 11) r j 0)
    ∙ sym (get_or-take 11 (drop (f * 11) r) j 0 (omega arith))
    ∙ sym (get_or-take 10 (field_at r f) j 0 n))

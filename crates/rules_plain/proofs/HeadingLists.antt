-- The headings of records as a list: how many, which at a place, and that bytes by offsets are the same.
-- Assumes nothing.
use Prim.Native.Nat.{ℕ, suc, ◌+◌, ◌-◌, ◌*◌, ◌<◌, ◌≤◌}
use mathlib.Core.Path.{◌≡◌, refl, sym, ◌∙◌, ap}
use mathlib.Core.List.{List, [], ◌∷◌, ◌++◌, map}
use native.Mathlib.Omega.{arith}
use lib.ListN.{length, get_or, take, get_or-append, length-append}
use lib.Seq.{get_or-append-add, get_or-take, length-take-le}
use Rattle.laws.specs.Walk.{All}
use Rattle.laws.specs.Blocks.{joined}
use Rattle.laws.specs.Members.{list_of}
use Rattle.laws.proofs.Search.{either}
use Rattle.paper_record.specs.Fields.{fields_of}
use Rattle.paper_record.proofs.ReadColumns.{field-of}
use Rattle.paper_rules.specs.Record.{Record}
use Rattle.paper_record.specs.Word.{pointer_of}
use Rattle.paper_rules.specs.Earlier.{heading_at, headings_in}
use Rattle.paper_rules.specs.Pointers.{heading_pointer_at, heading_pointers}
use Rattle.rules_plain.specs.Places.{Long, concat, cell, pointers_on}
use Rattle.rules_plain.specs.Repeated.{headings_on}
use Rattle.rules_plain.proofs.Rows.{cell-here, cell-there, heading-cell, heading-here, headings-in, pointer-cell}

six : (r : Record) → length (fields_of r) ≡ 6
unfolding fields_of
six r = refl

pub headings-length : (rows : List Record) → length (headings_on rows) ≡ length rows * 6
unfolding headings_on concat
headings-length [] = refl
headings-length (r ∷ rows) =
    let n = six r in
    let m = headings-length rows in
    rw length-append (omega arith)

-- the heading with the index m is the cell of that column
pub heading-of : (rows : List Record) (m : ℕ) → m < length rows * 6 → get_or (headings_on rows) m [] ≡ cell rows m
unfolding headings_on concat
heading-of [] m l = absurd (omega arith)
heading-of (r ∷ rows) m l =
    let n = six r in
    either m 6
    (λ h.
    get_or-append (fields_of r) (headings_on rows) [] m (omega arith) ∙ field-of r m h
    ∙ sym (cell-here r rows m h))
    (λ h.
    let e : m ≡ length (fields_of r) + (m - 6) = omega arith in
    ap (λ (x : ℕ). get_or (fields_of r ++ headings_on rows) x []) e
    ∙ get_or-append-add (fields_of r) (headings_on rows) (m - 6) []
    ∙ heading-of rows (m - 6) (omega arith) ∙ sym (cell-there r rows m h))

-- and the one that stands there in the bytes of the records
pub heading-bytes : (rows : List Record) (m : ℕ) → All Long rows → m < length rows * 6
    → heading_at (joined rows) m ≡ get_or (headings_on rows) m []
heading-bytes rows m a l = heading-cell rows m a l ∙ sym (heading-of rows m l)

-- the fields to the left in a record
pub left-length : (r : Record) (k : ℕ) → k ≤ 6 → length (take k (fields_of r)) ≡ k
left-length r k l = let n = six r in length-take-le k (fields_of r) (omega arith)

pub left-bytes : (r : Record) (k m : ℕ) → k ≤ 6 → m < k → heading_at r m ≡ get_or (take k (fields_of r)) m []
left-bytes r k m l h =
    heading-here r m (omega arith) ∙ sym (field-of r m (omega arith)) ∙ sym (get_or-take k (fields_of r) m [] h)

-- ---- pointers

-- a list told by its places is the other one, member by member
list-map : {A B : Type 0} (f : A → B) (d : A) (g : ℕ → B) (xs : List A) (i : ℕ)
    → ((m : ℕ) → m < length xs → g (i + m) ≡ f (get_or xs m d)) → list_of g i (length xs) ≡ map f xs
unfolding list_of
list-map f d g [] i h = refl
list-map {A} {B} f d g (x ∷ xs) i h =
    let z : i + 0 ≡ i = omega arith in
    let e : g i ≡ f x = ap g (sym z) ∙ h 0 (omega arith) in
    rw (
      e,
      list-map f d g xs (i + 1)
          (λ m l. let y : i + 1 + m ≡ i + suc m = omega arith in ap g y ∙ h (suc m) (omega arith)),
    )

pub pointers-on : (rows : List Record) → All Long rows → heading_pointers (joined rows) ≡ pointers_on (headings_on rows)
unfolding heading_pointers
pointers-on rows a =
    let n : length (headings_on rows) ≡ length rows * 6 = headings-length rows in
    let e : headings_in (joined rows) ≡ length (headings_on rows) = headings-in rows a ∙ sym n in
    ap (list_of (heading_pointer_at (joined rows)) 0) e
    ∙ list-map pointer_of [] (heading_pointer_at (joined rows)) (headings_on rows) 0
    (λ m l.
    let z : 0 + m ≡ m = omega arith in
    ap (heading_pointer_at (joined rows)) z ∙ pointer-cell rows m a (omega arith)
    ∙ ap pointer_of (sym (heading-of rows m (omega arith))))

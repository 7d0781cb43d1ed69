-- A line without a fault: it has its 126 bytes, its energies are blank or numbers, and written back it has no fault either.
-- Assumes nothing.
use Prim.Native.Nat.{ℕ, ◌+◌, ◌-◌, ◌<◌, ◌≤◌}
use mathlib.Core.Path.{◌≡◌, refl, sym, ◌∙◌, ap}
use mathlib.Core.Bool.{true, false, not}
use mathlib.Core.List.{List, [], ◌∷◌}
use native.Mathlib.Omega.{arith}
use borrow.Author.Tests.{eqb-true, not-false}
use lib.Dec.{eqb}
use lib.ListN.{length, drop, get_or}
use lib.Seq.{get_or-take, get_or-drop}
use Rattle.laws.specs.Walk.{All}
use Rattle.laws.proofs.Search.{either}
use Rattle.paper_faults.specs.Fault.{finding, faultless}
use Rattle.paper_faults.proofs.Least.{Empty, first-none, none_first}
use Rattle.paper_faults.proofs.NoColumns.{when-none, whens-none, where-none, none-where}
use Rattle.paper_number.specs.declared.types.Reading.{Reading}
use Rattle.paper_number.specs.declared.types.Reading.TheVariants.{Blank, Number, Refused}
use Rattle.paper_number.specs.Form.{form_of}
use Rattle.paper_number.specs.Reading.{read_field}
use Rattle.paper_canonical.specs.Replacing.{Formed}
use Rattle.paper_canonical.proofs.Laws.{canonical-length, canonical-same, canonical-again, canonical-alike}
use Rattle.paper_record.specs.Class.{is_permitted, not_permitted}
use Rattle.paper_record.specs.Columns.{columns_at}
use Rattle.paper_record.specs.Numbers.{form_at, no_value}
use Rattle.paper_record.proofs.NumberFields.{read-permitted}
use Rattle.paper_record.proofs.PlainColumns.{there}
use Rattle.paper_cinda.specs.Layout.{column_of, energy_at}
use Rattle.paper_cinda.specs.Rules.{rule71, rule72, rule73, rule74, rule75, rule76, rule77, findings, line_fault}
use Rattle.paper_cinda.specs.Back.{line_back}
use Rattle.paper_cinda.proofs.Rising.{findings-rise}
use Rattle.cinda_back_laws.proofs.LineBack.{wide, back-front, back-behind, back-least, back-greatest, back-of}
use Rattle.cinda_back_laws.proofs.SameOutside.{SameOutside, byte-before, byte-behind, same71, same73, same74}
use Rattle.cinda_back_laws.proofs.SameOutside.{same75, same77}

pub formed : (x : Reading) → no_value true (form_of x) ≡ false → Formed x
formed Blank e = tt
formed (Number v) e = tt
formed (Refused n) e = let z : ◌≡◌ {A = ℕ} 0 1 = cc in absurd (omega arith)

module _ (l : List ℕ) where
  ends : rule71 l ≡ [] → column_of l 126 ≡ 10
  unfolding rule71
  ends e =
      eqb-true (column_of l 126) 10
      (not-false (eqb (column_of l 126) 10) (when-none (not (eqb (column_of l 126) 10)) 126 e))

  letters : rule72 l ≡ [] → (k : ℕ) → k < 125 → is_permitted (get_or l k 0) ≡ true
  unfolding rule72
  letters e k h =
      not-false (is_permitted (get_or l k 0)) (where-none (not_permitted l) (λ i. i + 1) 125 e k h)

  no-letters : ((k : ℕ) → k < 125 → is_permitted (get_or l k 0) ≡ true) → rule72 l ≡ []
  unfolding rule72
  no-letters h = none-where (not_permitted l) (λ i. i + 1) 125 (λ k b. rw (h k b) refl)

  energies : rule76 l ≡ []
      → (no_value true (form_at (energy_at l 42)) ≡ false) × (no_value true (form_at (energy_at l 49)) ≡ false)
  unfolding rule76
  energies e = whens-none (no_value true (form_at (energy_at l 42))) (no_value true (form_at (energy_at l 49))) 42 49 e

  no-energies : no_value true (form_at (energy_at l 42)) ≡ false → no_value true (form_at (energy_at l 49)) ≡ false
      → rule76 l ≡ []
  unfolding rule76
  no-energies a b = rw (a, b) refl

  -- a byte of an energy
  energy-byte : (n k : ℕ) → n ≤ k → k < n + 7 → get_or (columns_at n 7 l) (k - n) 0 ≡ get_or l k 0
  energy-byte n k a b =
      let e : n + (k - n) ≡ k = omega arith in
      get_or-take 7 (drop n l) (k - n) 0 (omega arith) ∙ get_or-drop n l (k - n) 0 ∙ ap (λ (j : ℕ). get_or l j 0) e

-- ---- no rule finds anything on a line without a fault, and the other way round

pub record NoFinding (l : List ℕ) : Type 0 where
  pub none71 : rule71 l ≡ []
  pub none72 : rule72 l ≡ []
  pub none73 : rule73 l ≡ []
  pub none74 : rule74 l ≡ []
  pub none75 : rule75 l ≡ []
  pub none76 : rule76 l ≡ []
  pub none77 : rule77 l ≡ []

pub fine-none : (l : List ℕ) → line_fault l ≡ faultless → NoFinding l
unfolding line_fault
fine-none l fine =
    let (a, (b, (c, (d, (e, (f, (g, z))))))) = first-none 70 (findings l) (findings-rise l) fine in
    record { none71 = a; none72 = b; none73 = c; none74 = d; none75 = e; none76 = f; none77 = g }

pub none-fine : (l : List ℕ) → NoFinding l → line_fault l ≡ faultless
unfolding line_fault
none-fine l n =
    let last : All Empty (finding 77 (rule77 l) ∷ []) = (n.none77, tt) in
    let three : All Empty (finding 75 (rule75 l) ∷ finding 76 (rule76 l) ∷ finding 77 (rule77 l) ∷ []) =
    (n.none75, (n.none76, last)) in
    none_first (findings l) (n.none71, (n.none72, (n.none73, (n.none74, three))))

-- ---- a line without a fault

module _ (l : List ℕ) (fine : line_fault l ≡ faultless) where
  nothing : NoFinding l
  nothing = fine-none l fine

  pub good-long : 125 < length l
  good-long = let e = ends l nothing.none71 in there l 125 (omega arith)

  long : 55 ≤ length l
  long = let h = good-long in omega arith

  pub good-least : no_value true (form_at (energy_at l 42)) ≡ false
  good-least = (energies l nothing.none76).0

  pub good-greatest : no_value true (form_at (energy_at l 49)) ≡ false
  good-greatest = (energies l nothing.none76).1

  pub back-outside : SameOutside (line_back l) l
  back-outside = record { front = back-front l long; behind = back-behind l long }

  -- ---- each energy reads alike

  pub back-reads-least : read_field (energy_at (line_back l) 42) ≡ read_field (energy_at l 42)
  back-reads-least = rw (back-least l long) (canonical-same (energy_at l 42))

  pub back-reads-greatest : read_field (energy_at (line_back l) 49) ≡ read_field (energy_at l 49)
  back-reads-greatest = rw (back-greatest l long) (canonical-same (energy_at l 49))

  back-good-least : no_value true (form_at (energy_at (line_back l) 42)) ≡ false
  back-good-least = rw back-reads-least good-least

  back-good-greatest : no_value true (form_at (energy_at (line_back l) 49)) ≡ false
  back-good-greatest = rw back-reads-greatest good-greatest

  -- ---- each character is permitted

  in-energy : (n : ℕ) → no_value true (form_at (columns_at n 7 (line_back l))) ≡ false
      → length (columns_at n 7 (line_back l)) ≡ 7
      → (k : ℕ) → n ≤ k → k < n + 7 → is_permitted (get_or (line_back l) k 0) ≡ true
  in-energy n good w k a b =
      rw (← energy-byte (line_back l) n k a b)
      (read-permitted (columns_at n 7 (line_back l)) good (k - n) (rw w (omega arith)))

  least-wide : length (energy_at (line_back l) 42) ≡ 7
  least-wide = rw (back-least l long) (canonical-length (energy_at l 42) ∙ wide l 41 7 (let h = long in omega arith))

  greatest-wide : length (energy_at (line_back l) 49) ≡ 7
  greatest-wide =
      rw (back-greatest l long) (canonical-length (energy_at l 49) ∙ wide l 48 7 (let h = long in omega arith))

  back-letters : (k : ℕ) → k < 125 → is_permitted (get_or (line_back l) k 0) ≡ true
  back-letters k h =
      let was : is_permitted (get_or l k 0) ≡ true = letters l nothing.none72 k h in
      either k 41
      (λ a. rw (byte-before (line_back l) l back-outside k a) was)
      (λ a. either k 48
      (λ b. in-energy 41 back-good-least least-wide k a b)
      (λ b. either k 55
      (λ c. in-energy 48 back-good-greatest greatest-wide k b c)
      (λ c. rw (byte-behind (line_back l) l back-outside k c) was)))

  -- ---- no rule finds anything

  pub back-fine : line_fault (line_back l) ≡ faultless
  back-fine =
      let o = back-outside in
      none-fine (line_back l)
      (record {
        none71 = same71 (line_back l) l o ∙ nothing.none71;
        none72 = no-letters (line_back l) back-letters;
        none73 = same73 (line_back l) l o ∙ nothing.none73;
        none74 = same74 (line_back l) l o ∙ nothing.none74;
        none75 = same75 (line_back l) l o ∙ nothing.none75;
        none76 = no-energies (line_back l) back-good-least back-good-greatest;
        none77 = same77 (line_back l) l o ∙ nothing.none77;
      })

  -- ---- written back again it is the same

  pub back-again-line : line_back (line_back l) ≡ line_back l
  back-again-line =
      back-of (line_back l) l (back-front l long) (back-behind l long)
      (rw (back-least l long) (canonical-again (energy_at l 42)))
      (rw (back-greatest l long) (canonical-again (energy_at l 49)))

-- ---- two good lines

-- equal outside their energies, which read alike
pub record AlikeLines (l m : List ℕ) : Type 0 where
  pub outside : SameOutside l m
  pub least : read_field (energy_at l 42) ≡ read_field (energy_at m 42)
  pub greatest : read_field (energy_at l 49) ≡ read_field (energy_at m 49)

module _ (l m : List ℕ) (p : line_fault l ≡ faultless) (q : line_fault m ≡ faultless) where
  as_wide : (n : ℕ) → n ≤ 48 → length (columns_at n 7 l) ≡ length (columns_at n 7 m)
  as_wide n h =
      let a = good-long l p in
      let b = good-long m q in
      wide l n 7 (omega arith) ∙ sym (wide m n 7 (omega arith))

  pub one_line : AlikeLines l m → line_back l ≡ line_back m
  one_line a =
      back-of l m a.outside.front a.outside.behind
      (canonical-alike (energy_at l 42) (energy_at m 42) (as_wide 41 (omega arith))
      (formed (read_field (energy_at l 42)) (good-least l p)) a.least)
      (canonical-alike (energy_at l 49) (energy_at m 49) (as_wide 48 (omega arith))
      (formed (read_field (energy_at l 49)) (good-greatest l p)) a.greatest)

  pub line-alike : line_back l ≡ line_back m → AlikeLines l m
  line-alike e =
      let x = back-outside l p in
      let y = back-outside m q in
      record {
        outside = record {
          front = sym x.front ∙ rw e y.front;
          behind = sym x.behind ∙ rw e y.behind;
        };
        least = sym (back-reads-least l p) ∙ rw e (back-reads-least m q);
        greatest = sym (back-reads-greatest l p) ∙ rw e (back-reads-greatest m q);
      }

-- The search finds the codes of the paper, and nothing else.
-- Assumes nothing.
use Prim.Native.Nat.{ℕ, zero, suc, ◌+◌, ◌-◌, ◌<◌, ◌≤◌}
use mathlib.Core.Path.{◌≡◌, refl, sym, ◌∙◌, ap}
use mathlib.Core.Bool.{Bool, true, false, not, ◌&&◌}
use mathlib.Core.List.{List, [], ◌∷◌, ◌++◌}
use native.Mathlib.Omega.{arith}
use borrow.Author.Tests.{eqb-true, eqb-false, eq-eqb, ne_eqb, le-leb, lt-leb, not-true, not-false}
use lib.Dec.{eqb, leb}
use lib.ListN.{length, get_or, take, get_or-append, get_or-eq_default, length-append, length-take}
use lib.Seq.{get_or-take, length-take-le, ext_get_or, get_or-append-add}
use Rattle.laws.specs.Search.{first}
use Rattle.laws.specs.Members.{list_of}
use Rattle.laws.proofs.Search.{either}
use Rattle.laws.proofs.Members.{list_at, list_length}
use Rattle.laws.proofs.Counting.{first-is}
use Rattle.laws.proofs.Booleans.{and_left, and_right, and_both}
use Rattle.paper_number.specs.Grammar.{Digits, digits_text, num}
use Rattle.paper_number.proofs.Bounds.{text-length}
use Rattle.paper_record.specs.Text.{is_digit}
use Rattle.paper_record.specs.Flags.{digit_behind, code_digits, code_digit, is_code, code_number}
use Rattle.paper_record.specs.PlainFlags.{code_text, Code, TextColumns, CodeExactly}
use Rattle.paper_record.proofs.Codes.{digits-few, digit_at}

-- ---- digits and their text

text_at : (ds : List ℕ) (j : ℕ) → j < length ds → get_or (digits_text ds) j 0 ≡ 48 + get_or ds j 0
text_at [] j l = absurd (omega arith)
text_at (d ∷ ds) zero l = refl
text_at (d ∷ ds) (suc j) l = text_at ds j (omega arith)

small_at : (ds : List ℕ) → Digits ds → (j : ℕ) → j < length ds → get_or ds j 0 < 10
small_at [] g j l = absurd (omega arith)
small_at (d ∷ ds) g zero l = g.0
small_at (d ∷ ds) g (suc j) l = small_at ds g.1 j (omega arith)

at_small : (ds : List ℕ) → ((j : ℕ) → j < length ds → get_or ds j 0 < 10) → Digits ds
at_small [] h = tt
at_small (d ∷ ds) h = (h 0 (omega arith), at_small ds (λ j l. h (suc j) (omega arith)))

-- ---- the letters of a code, by their places

code-length : (ds : List ℕ) → length (code_text ds) ≡ length ds + 3
code-length ds =
    let n = text-length ds in
    let e : length (digits_text ds ++ (46 ∷ 41 ∷ [])) ≡ length (digits_text ds) + 2 = length-append (digits_text ds) (46 ∷ 41 ∷ []) in
    omega arith

digit-in : (ds : List ℕ) (j : ℕ) → j < length ds → get_or (code_text ds) (j + 1) 0 ≡ 48 + get_or ds j 0
digit-in ds j l =
    let n = text-length ds in
    let e : j + 1 ≡ suc j = omega arith in
    rw e (get_or-append (digits_text ds) (46 ∷ 41 ∷ []) 0 j (omega arith) ∙ text_at ds j l)

behind : (ds : List ℕ) (i : ℕ) → get_or (code_text ds) (length ds + 1 + i) 0 ≡ get_or (46 ∷ 41 ∷ []) i 0
behind ds i =
    let n = text-length ds in
    let e : length ds + 1 + i ≡ suc (length (digits_text ds) + i) = omega arith in
    rw e (get_or-append-add (digits_text ds) (46 ∷ 41 ∷ []) i 0)

-- ---- what starts with a code

module _ (x ds : List ℕ) (starts : take (length ds + 3) x ≡ code_text ds) where
  here : (i : ℕ) → i < length ds + 3 → get_or x i 0 ≡ get_or (code_text ds) i 0
  here i l = sym (get_or-take (length ds + 3) x i 0 l) ∙ ap (λ (y : List ℕ). get_or y i 0) starts

  digit-here : (j : ℕ) → j < length ds → get_or x (j + 1) 0 ≡ 48 + get_or ds j 0
  digit-here j l = here (j + 1) (omega arith) ∙ digit-in ds j l

  point-here : get_or x (length ds + 1) 0 ≡ 46
  point-here =
      let e : length ds + 1 + 0 ≡ length ds + 1 = omega arith in
      here (length ds + 1) (omega arith) ∙ ap (λ (i : ℕ). get_or (code_text ds) i 0) (sym e) ∙ behind ds 0

  closing-here : get_or x (length ds + 2) 0 ≡ 41
  closing-here =
      let e : length ds + 1 + 1 ≡ length ds + 2 = omega arith in
      here (length ds + 2) (omega arith) ∙ ap (λ (i : ℕ). get_or (code_text ds) i 0) (sym e) ∙ behind ds 1

-- "digits" end at the point
module _ (x : List ℕ) (t : TextColumns x) (n : ℕ) (c : Code x n) where
  abbrev ds : List ℕ
  ds = c.digits

  room : length c.digits ≤ 52
  room =
      let long = t.long in
      let a : length (take (length ds + 3) x) ≡ length ds + 3 = ap length c.starts ∙ code-length ds in
      let b = length-take (length ds + 3) x in
      omega arith

  is_digit_lem : (j : ℕ) → j < length c.digits → not (digit_behind x j) ≡ false
  is_digit_lem j l =
      let e : get_or x (j + 1) 0 ≡ 48 + get_or ds j 0 = digit-here x ds c.starts j l in
      let s = small_at ds c.good j l in
      rw (e, le-leb 48 (48 + get_or ds j 0) (omega arith), le-leb (48 + get_or ds j 0) 57 (omega arith))

  count : code_digits x ≡ length c.digits
  unfolding code_digits
  count =
      let r = room in
      let e : get_or x (length ds + 1) 0 ≡ 46 = point-here x ds c.starts in
      first-is (λ j. not (digit_behind x j)) 0 54 (length ds) (omega arith) (omega arith) (rw e refl)
      (λ j a l. is_digit_lem j l)

  number : code_number x ≡ n
  unfolding code_number
  number =
      let e : list_of (code_digit x) 0 (length ds) ≡ ds =
      ext_get_or 0 (list_of (code_digit x) 0 (length ds)) ds (list_length (code_digit x) 0 (length ds))
      (λ j l.
      let m : j < length ds = rw (list_length (code_digit x) 0 (length ds)) at l in
      let z : 0 + j ≡ j = omega arith in
      let d : get_or x (j + 1) 0 ≡ 48 + get_or ds j 0 = digit-here x ds c.starts j m in
      let y : 48 + get_or ds j 0 - 48 ≡ get_or ds j 0 = omega arith in
      list_at (code_digit x) 0 (length ds) j 0 m ∙ ap (code_digit x) z ∙ rw d y) in
      rw (count, e) c.says

  found : (is_code x && eqb n (code_number x)) ≡ true
  unfolding is_code
  found =
      let some = c.some in
      let z : eqb (length ds) 0 ≡ false = ne_eqb (length ds) 0 (λ e. omega arith) in
      let first : eqb (get_or x 0 0) 40 ≡ true = eq-eqb (get_or x 0 0) 40 (here x ds c.starts 0 (omega arith)) in
      let digit : not (eqb (code_digits x) 0) ≡ true = rw (count, z) in
      let point : eqb (get_or x (code_digits x + 1) 0) 46 ≡ true = rw count (eq-eqb _ _ (point-here x ds c.starts)) in
      let last : eqb (get_or x (code_digits x + 2) 0) 41 ≡ true = rw count (eq-eqb _ _ (closing-here x ds c.starts)) in
      and_both (and_both first (and_both digit (and_both point last))) (eq-eqb n (code_number x) (sym number))

opened : (x : List ℕ) → code_number x ≡ num (list_of (code_digit x) 0 (code_digits x))
unfolding code_number
opened x = refl

-- what is found is a code
module _ (x : List ℕ) (t : TextColumns x) (n : ℕ) (e : (is_code x && eqb n (code_number x)) ≡ true) where
  abbrev m : ℕ
  m = code_digits x

  abbrev own : List ℕ
  own = list_of (code_digit x) 0 (code_digits x)

  record Parts : Type 0 where
    opening : get_or x 0 0 ≡ 40
    some : code_digits x ≡ 0 → ⊥
    point : get_or x (code_digits x + 1) 0 ≡ 46
    closing : get_or x (code_digits x + 2) 0 ≡ 41

  parts : Parts
  unfolding is_code
  parts =
      let a = eqb (get_or x 0 0) 40 in
      let b = not (eqb (code_digits x) 0) in
      let c = eqb (get_or x (code_digits x + 1) 0) 46 in
      let d = eqb (get_or x (code_digits x + 2) 0) 41 in
      let all : (a && (b && (c && d))) ≡ true = and_left (a && (b && (c && d))) (eqb n (code_number x)) e in
      let rest : (b && (c && d)) ≡ true = and_right a (b && (c && d)) all in
      let last : (c && d) ≡ true = and_right b (c && d) rest in
      record {
        opening = eqb-true (get_or x 0 0) 40 (and_left a (b && (c && d)) all);
        some = eqb-false (code_digits x) 0 (not-true (eqb (code_digits x) 0) (and_left b (c && d) rest));
        point = eqb-true (get_or x (code_digits x + 1) 0) 46 (and_left c d last);
        closing = eqb-true (get_or x (code_digits x + 2) 0) 41 (and_right c d last);
      }

  fits : code_digits x + 3 ≤ 55
  fits =
      let long = t.long in
      let p = parts.closing in
      either (code_digits x + 2) 55 (λ l. omega arith)
      (λ l. let z : get_or x (code_digits x + 2) 0 ≡ 0 = get_or-eq_default x 0 (omega arith) in absurd (omega arith))

  own-length : length (list_of (code_digit x) 0 (code_digits x)) ≡ code_digits x
  own-length = list_length (code_digit x) 0 (code_digits x)

  own_at : (j : ℕ) → j < code_digits x → get_or (list_of (code_digit x) 0 (code_digits x)) j 0 ≡ code_digit x j
  own_at j l =
      let z : 0 + j ≡ j = omega arith in
      list_at (code_digit x) 0 (code_digits x) j 0 l ∙ ap (code_digit x) z

  letter : (i : ℕ) → i < code_digits x + 3 → get_or x i 0 ≡ get_or (code_text (list_of (code_digit x) 0 (code_digits x))) i 0
  letter zero l = parts.opening
  letter (suc j) l =
      let n = own-length in
      let y : suc j ≡ j + 1 = omega arith in
      either j m
      (λ h.
      let d = digit_at x j h in
      let b : 48 + (get_or x (j + 1) 0 - 48) ≡ get_or x (j + 1) 0 = omega arith in
      rw y (sym (digit-in own j (omega arith) ∙ rw (own_at j h) b)))
      (λ h.
      either j (m + 1)
      (λ k.
      let z : suc j ≡ m + 1 = omega arith in
      let w : length own + 1 + 0 ≡ m + 1 = omega arith in
      rw z (parts.point ∙ sym (rw w at (behind own 0))))
      (λ k.
      let z : suc j ≡ m + 2 = omega arith in
      let w : length own + 1 + 1 ≡ m + 2 = omega arith in
      rw z (parts.closing ∙ sym (rw w at (behind own 1)))))

  is-code : Code x n
  is-code =
      let k = own-length in
      let long = t.long in
      let f = fits in
      let s = parts.some in
      record {
        digits = own;
        good = at_small own
            (λ j l.
            let h : j < m = omega arith in
            let d = digit_at x j h in
            rw (own_at j h) (omega arith));
        some = omega arith;
        starts = rw own-length
            (ext_get_or 0 (take (m + 3) x) (code_text own)
            (length-take-le (m + 3) x (omega arith) ∙ sym (rw own-length at (code-length own)))
            (λ i l.
            let h : i < m + 3 = rw (length-take-le (m + 3) x (omega arith)) at l in
            get_or-take (m + 3) x i 0 h ∙ letter i h));
        says = says;
      }
    where
      says : num (list_of (code_digit x) 0 (code_digits x)) ≡ n
      says = sym (eqb-true n (code_number x) (and_right (is_code x) (eqb n (code_number x)) e) ∙ opened x)

pub code-exactly : CodeExactly
code-exactly x n t = (is-code x t n, found x t n)

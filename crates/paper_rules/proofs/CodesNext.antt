-- The codes from a record on, where the loop has come to: with that record, and without it.
-- Assumes nothing.
use Prim.Native.Nat.{ℕ, ◌+◌, ◌-◌, ◌*◌, ◌/◌, ◌<◌, ◌≤◌}
use mathlib.Core.Path.{◌≡◌, refl, sym, ◌∙◌, ap}
use mathlib.Core.Bool.{Bool, true, false, cond, ◌&&◌}
use mathlib.Core.List.{List, [], ◌∷◌, ◌++◌}
use native.Mathlib.Omega.{arith}
use lib.Dec.{eqb}
use lib.ListN.{length, take, drop, length-drop}
use lib.Seq.{take-add, take-take, drop_at, drop-drop, length-take-le}
use Rattle.laws.specs.Members.{any_of}
use Rattle.laws.specs.Blocks.{blocks, block_at}
use Rattle.laws.proofs.Blocks.{next-block}
use Rattle.laws.proofs.Search.{less as before_last}
use Rattle.laws.proofs.Booleans.{cond-itself}
use Rattle.laws.proofs.Members.{any_append}
use Rattle.paper_record.specs.Columns.{columns_at}
use Rattle.paper_record.specs.Fields.{field_at}
use Rattle.paper_record.specs.Word.{blank_to}
use Rattle.paper_record.specs.Flags.{is_flag, is_code, code_number}
use Rattle.paper_record.specs.PlainFlags.{TextColumns}
use Rattle.paper_rules.specs.Codes.{text_of, under_flag, code_of, codes_from, codes_of}

-- ---- the text of a record of a part

pub text-lent : (part : List ℕ) (from past : ℕ) → past ≡ from + 55 → past ≤ length part
    → TextColumns (take (past - from) (drop from part))
text-lent part from past e l =
    let z : past - from ≡ 55 = omega arith in
    rw z (record { long = length-take-le 55 (drop from part) (simp length-drop (omega arith)) })

pub text-of : (part : List ℕ) (at : ℕ) → at + 81 ≤ length part
    → text_of (columns_at at 81 part) ≡ columns_at (at + 11) 55 part
text-of part at l =
    let r = drop at part in
    let long : length (take 11 r) ≡ 11 = length-take-le 11 r (simp length-drop (omega arith)) in
    ap (λ (x : List ℕ). take 55 (drop 11 x)) (take-add 11 70 r)
    ∙ ap (take 55) (drop_at (take 11 r) (take 70 (drop 11 r)) 11 long)
    ∙ take-take 55 70 (drop 11 r) (omega arith)
    ∙ ap (take 55) (drop-drop 11 at part)

-- whether the code of a record is n
pub one_code : (n : ℕ) (b : Bool) (m : ℕ) → any_of (eqb n) (cond b (m ∷ []) []) ≡ (b && eqb n m)
unfolding any_of
one_code n true m = cond-itself (eqb n m)
one_code n false m = refl

-- of the columns 12 to 66, as the code takes them
pub code_here : (part : List ℕ) (at n : ℕ) → at + 81 ≤ length part
    → (is_code (take (at + 66 - (at + 11)) (drop (at + 11) part))
    && eqb n (code_number (take (at + 66 - (at + 11)) (drop (at + 11) part))))
    ≡ any_of (eqb n) (code_of true (columns_at at 81 part))
code_here part at n l =
    let x = columns_at (at + 11) 55 part in
    let z : at + 66 - (at + 11) ≡ 55 = omega arith in
    rw z
    (sym
    (ap (λ (y : List ℕ). any_of (eqb n) (cond (is_code y) (code_number y ∷ []) [])) (text-of part at l)
    ∙ one_code n (is_code x) (code_number x)))

-- ---- the loop

-- the answer for the whole part is that for the records from i on, behind a record that is under FLAG or not
pub record Codes (part : List ℕ) (n : ℕ) (under : Bool) (i : ℕ) : Type 0 where
  pub low : i ≤ length part / 81
  pub rest : any_of (eqb n) (codes_of part)
      ≡ any_of (eqb n) (codes_from under (blocks 81 (length part / 81 - i) (drop (i * 81) part)))

pub codes-start : (part : List ℕ) (n : ℕ) → Codes part n false 0
unfolding codes_of
codes-start part n =
    let z : length part / 81 - 0 ≡ length part / 81 = omega arith in
    record {
      low = omega arith;
      rest = ap (λ (m : ℕ). any_of (eqb n) (codes_from false (blocks 81 m part))) (sym z);
    }

module _ {part : List ℕ} {n : ℕ} {under : Bool} {i : ℕ} (c : Codes part n under i) where
  pub codes-done : length part / 81 ≤ i → false ≡ any_of (eqb n) (codes_of part)
  unfolding blocks codes_from any_of
  codes-done h = let z : length part / 81 - i ≡ 0 = omega arith in sym (rw z at c.rest)

  module _ (less : i < length part / 81) (next : Bool)
      (is : next ≡ cond (blank_to 10 (columns_at (i * 81) 11 part)) under (is_flag (columns_at (i * 81) 11 part))) where
    under_next : under_flag under (block_at 81 part i) ≡ next
    under_next =
        let e : field_at (block_at 81 part i) 0 ≡ columns_at (i * 81) 11 part =
        take-take 11 81 (drop (i * 81) part) (omega arith) in
        ap (λ (f : List ℕ). cond (blank_to 10 f) under (is_flag f)) e ∙ sym is

    here : any_of (eqb n) (codes_of part)
        ≡ cond (any_of (eqb n) (code_of next (block_at 81 part i))) true
        (any_of (eqb n) (codes_from next (blocks 81 (length part / 81 - (i + 1)) (drop ((i + 1) * 81) part))))
    unfolding blocks codes_from
    here =
        let e : length part / 81 - i ≡ _ = before_last i (length part / 81) less in
        (rw (e, under_next, next-block 81 i part) at c.rest)
        ∙ any_append (eqb n) (code_of next (block_at 81 part i))
        (codes_from next (blocks 81 (length part / 81 - (i + 1)) (drop ((i + 1) * 81) part)))

    pub codes-found : true ≡ any_of (eqb n) (code_of next (block_at 81 part i)) → true ≡ any_of (eqb n) (codes_of part)
    codes-found e = sym (here ∙ rw (← e) refl)

    pub codes-next : false ≡ any_of (eqb n) (code_of next (block_at 81 part i)) → Codes part n next (i + 1)
    codes-next e = record { low = omega arith; rest = here ∙ rw (← e) refl }

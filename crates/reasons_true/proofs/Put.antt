-- Characters put into a record of an entry: they stand there, and all that stands before them is kept.
-- Assumes nothing.
use Prim.Native.Nat.{ℕ, zero, suc, ◌+◌, ◌*◌, ◌≤◌, ◌<◌}
use mathlib.Core.Path.{◌≡◌, refl, sym, ◌∙◌, ap}
use mathlib.Core.List.{List, [], ◌∷◌, ◌++◌, append_assoc}
use native.Mathlib.Omega.{arith}
use lib.ListN.{length, take, drop, length-drop, take-append-drop}
use lib.Seq.{paste, length-take-le, take-append-le, drop-append-le, take-take, drop-drop, take_at, drop_at}
use Rattle.laws.specs.Blocks.{block_at}
use Rattle.paper_record.specs.Columns.{columns_at}
use Rattle.paper_record.specs.Fields.{fields_of, field_at}
use Rattle.paper_entry.specs.Contexts.{context_at}
use Rattle.below.specs.Below.{Agrees}
use Rattle.below.proofs.Agree.{contexts-agree}
use Rattle.reasons_true.specs.Mended.{put_at}

-- ---- columns of a list that is pasted into

front : (p x : List ℕ) (n m : ℕ) → n + m ≤ length p → columns_at n m (p ++ x) ≡ columns_at n m p
front p x n m h =
    ap (take m) (drop-append-le n p x (omega arith)) ∙ take-append-le m (drop n p) x (simp length-drop (omega arith))

kept : (s e : List ℕ) (at w n m : ℕ) → at ≤ length s → n + m ≤ at
    → columns_at n m (paste s at e w) ≡ columns_at n m s
kept s e at w n m h l =
    let long : length (take at s) ≡ at = length-take-le at s h in
    ap (columns_at n m) (append_assoc (take at s) (take w e) (drop (at + w) s))
    ∙ front (take at s) (take w e ++ drop (at + w) s) n m (omega arith)
    ∙ sym (front (take at s) (drop at s) n m (omega arith))
    ∙ ap (columns_at n m) (take-append-drop at s)

placed : (s e : List ℕ) (at w : ℕ) → at ≤ length s → w ≤ length e → columns_at at w (paste s at e w) ≡ take w e
placed s e at w h l =
    ap (columns_at at w) (append_assoc (take at s) (take w e) (drop (at + w) s))
    ∙ ap (take w) (drop_at (take at s) (take w e ++ drop (at + w) s) at (length-take-le at s h))
    ∙ take_at (take w e) (drop (at + w) s) w (length-take-le w e l)

-- ---- columns of a record

pub inside : (n m k : ℕ) (x : List ℕ) → n + m ≤ k → columns_at n m (take k x) ≡ columns_at n m x
inside zero m k x h = take-take m k x (omega arith)
inside (suc n) m zero x h = absurd (omega arith)
inside (suc n) m (suc k) [] h = refl
inside (suc n) m (suc k) (y ∷ x) h = inside n m k x (omega arith)

pub of-block : (s : List ℕ) (i n m : ℕ) → n + m ≤ 81 → columns_at n m (block_at 81 s i) ≡ columns_at (i * 81 + n) m s
of-block s i n m h = inside n m 81 (drop (i * 81) s) h ∙ ap (take m) (drop-drop n (i * 81) s)

-- ---- w characters behind c columns of the record with the index i

module _ (s e : List ℕ) (i c w : ℕ) (there : (i + 1) * 81 ≤ length s) (within : c + w ≤ 81) where
  abbrev put : List ℕ
  put = put_at s i c w e

  agrees : Agrees i s put
  agrees j h = kept s e (i * 81 + c) w (j * 81) 81 (omega arith) (omega arith)

  pub same-context : context_at put i ≡ context_at s i
  same-context = contexts-agree i s put agrees i (omega arith)

  same-columns : (n m : ℕ) → n + m ≤ c → columns_at n m (block_at 81 put i) ≡ columns_at n m (block_at 81 s i)
  same-columns n m h =
      of-block put i n m (omega arith)
      ∙ kept s e (i * 81 + c) w (i * 81 + n) m (omega arith) (omega arith)
      ∙ sym (of-block s i n m (omega arith))

  pub same-fields : 66 ≤ c → fields_of (block_at 81 put i) ≡ fields_of (block_at 81 s i)
  unfolding fields_of
  same-fields h =
      let f : (k : ℕ) → k < 6 → field_at (block_at 81 put i) k ≡ field_at (block_at 81 s i) k =
      λ k l. same-columns (k * 11) 11 (omega arith) in
      λ x.
      f 0 (omega arith) x ∷ f 1 (omega arith) x ∷ f 2 (omega arith) x ∷ f 3 (omega arith) x ∷ f 4 (omega arith) x
      ∷ f 5 (omega arith) x ∷ []

  pub put-columns : w ≤ length e → columns_at c w (block_at 81 put i) ≡ take w e
  put-columns l = of-block put i c w within ∙ placed s e (i * 81 + c) w (omega arith) l

-- The run of a text between the places of a character: what is stored of the next word, and what is left behind it.
-- Assumes nothing.
use Prim.Native.Nat.{ℕ, ◌+◌, ◌-◌, ◌<◌, ◌≤◌}
use mathlib.Core.Path.{◌≡◌, refl, sym, ap, ◌∙◌}
use mathlib.Core.List.{List, [], ◌∷◌, ◌++◌, map}
use native.Mathlib.Omega.{arith}
use borrow.Author.Tests.{eqb-true}
use lib.Dec.{eqb}
use lib.ListN.{length, get_or, take, drop, length-map, length-drop}
use lib.Seq.{drop-cons, take_all, length-take-le}
use Rattle.laws.proofs.Counting.{first_holds}
use Rattle.paper_decay.specs.Code.{split}
use Rattle.paper_decay.specs.Fields.{cut_at}
use Rattle.paper_decay_run.specs.Run.{run_number}
use Rattle.decay_words.proofs.Cutting.{cut-at, cut-last, cut-some, end_of}

-- from a place up to another
abbrev pub between : List ℕ → ℕ → ℕ → List ℕ
between l from past = take (past - from) (drop from l)

pub between-long : (l : List ℕ) (from past : ℕ) → from ≤ past → past ≤ length l → length (between l from past) ≡ past - from
between-long l from past h k =
    let long = length-drop from l in
    length-take-le (past - from) (drop from l) (omega arith)

pub split-more : (c : ℕ) (w : List ℕ) (ws : List (List ℕ)) → 1 ≤ length ws → split c (w ∷ ws) ≡ w ++ (c ∷ split c ws)
split-more c w [] h = absurd (omega arith)
split-more c w (x ∷ ws) h = refl

-- the next place of the character is `past`
module _ (c : ℕ) (l : List ℕ) (start past : ℕ) (low : start ≤ length l) (found : past ≡ end_of c l start) where
  -- the last word
  pub word-last : past ≡ length l → cut_at c (drop start l) ≡ between l start past ∷ []
  word-last e =
      let long = length-drop start l in
      let t : between l start past ≡ drop start l = take_all (past - start) (drop start l) (omega arith) in
      cut-last c l start low (omega arith) ∙ ap (λ (w : List ℕ). w ∷ []) (sym t)

  -- a word that is not, and the character that ends it
  pub word_next : past < length l → cut_at c (drop start l) ≡ between l start past ∷ cut_at c (drop (past + 1) l)
  word_next h = rw found (cut-at c l start low (omega arith))

  pub word-ends : past < length l → between l past (past + 1) ≡ c ∷ []
  word-ends h =
      let z : past + 1 - past ≡ 1 = omega arith in
      let here = first_holds (λ (i : ℕ). eqb (get_or l i 0) c) start (length l - start) (omega arith) in
      let b : get_or l past 0 ≡ c = eqb-true (get_or l past 0) c (rw found here) in
      rw (z, drop-cons l past 0 h, b) refl

-- ---- numbers between slashes

abbrev pub run_numbers : List ℕ → List ℕ
run_numbers l = split 47 (map run_number (cut_at 47 l))

module _ (l : List ℕ) (start past : ℕ) (low : start ≤ length l) (found : past ≡ end_of 47 l start) where
  pub numbers-last : past ≡ length l → run_numbers (drop start l) ≡ run_number (between l start past)
  numbers-last e = rw (word-last 47 l start past low found e) refl

  pub numbers-next : past < length l
      → run_numbers (drop start l)
      ≡ run_number (between l start past) ++ (between l past (past + 1) ++ run_numbers (drop (past + 1) l))
  numbers-next h =
      let ws = cut_at 47 (drop (past + 1) l) in
      let n = length-map ws run_number in
      let k = cut-some 47 (drop (past + 1) l) in
      rw (word_next 47 l start past low found h, word-ends 47 l start past low found h)
      (split-more 47 (run_number (between l start past)) (map run_number ws) (omega arith))

-- The judge of a file from one record on: over the first record of what is left, and at its end.
-- Assumes nothing.
use Prim.Native.Nat.{ℕ, suc, ◌+◌, ◌/◌, ◌<◌, ◌≤◌}
use mathlib.Core.Path.{◌≡◌, refl, ◌∙◌}
use mathlib.Core.Bool.{true}
use mathlib.Core.List.{List, [], ◌∷◌}
use native.Mathlib.Omega.{arith}
use lib.ListN.{length, take, drop, length-drop}
use Rattle.laws.specs.Turns.{Turn, go, out, after}
use Rattle.laws.specs.Walk.{walk}
use Rattle.laws.specs.Blocks.{blocks}
use Rattle.paper_entry.specs.declared.types.Verdict.{Verdict}
use Rattle.paper_files.specs.File.{FileContext, start_file, file_turn, file_end, file_length_good, judge_file}

-- the verdict, from the context before what is left
unfoldable pub onward : FileContext → List ℕ → Verdict
onward f rest = walk file_turn file_end f 0 (blocks 81 (length rest / 81) rest)

-- a turn goes by the record, and not by its index
any-index : (rs : List (List ℕ)) (f : FileContext) (i j : ℕ)
    → walk file_turn file_end f i rs ≡ walk file_turn file_end f j rs
unfolding walk file_turn
any-index [] f i j = refl
any-index (r ∷ rs) f i j = by_turn (file_turn f i r) (λ g. any-index rs g (i + 1) (j + 1))
  where
    by_turn : (t : Turn FileContext Verdict)
        → ((g : FileContext) → walk file_turn file_end g (i + 1) rs ≡ walk file_turn file_end g (j + 1) rs)
        → after t (λ g. walk file_turn file_end g (i + 1) rs) ≡ after t (λ g. walk file_turn file_end g (j + 1) rs)
    by_turn (go g) same = same g
    by_turn (out v) same = refl

module _ (f : FileContext) (s : List ℕ) where
  module _ (some : 81 ≤ length s) where
    one_more : length s / 81 ≡ suc (length (drop 81 s) / 81)
    one_more = simp length-drop (omega arith)

    onward-turn : onward f s
        ≡ after (file_turn f 0 (take 81 s))
        (λ g. walk file_turn file_end g 1 (blocks 81 (length (drop 81 s) / 81) (drop 81 s)))
    unfolding onward walk blocks
    onward-turn = rw one_more refl

    pub onward-go : (g : FileContext) → file_turn f 0 (take 81 s) ≡ go g → onward f s ≡ onward g (drop 81 s)
    unfolding onward
    onward-go g e = onward-turn ∙ rw e (any-index (blocks 81 (length (drop 81 s) / 81) (drop 81 s)) g 1 0)

    pub onward-out : (v : Verdict) → file_turn f 0 (take 81 s) ≡ out v → onward f s ≡ v
    onward-out v e = onward-turn ∙ rw e refl

  pub onward-end : length s < 81 → onward f s ≡ file_end f
  unfolding onward walk blocks
  onward-end few = let z : length s / 81 ≡ 0 = omega arith in rw z refl

-- a file of a good length is judged so from its start
pub judged-onward : (s : List ℕ) → file_length_good (length s) ≡ true → judge_file s ≡ onward start_file s
unfolding judge_file onward
judged-onward s e = rw e refl

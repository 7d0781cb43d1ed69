-- The bytes between two places, where one of them or both lie behind the end.
-- Assumes nothing.
use Prim.Native.Nat.{ℕ, ◌-◌, ◌<◌, ◌≤◌}
use mathlib.Core.Path.{◌≡◌, refl, sym, ◌∙◌, ap}
use mathlib.Core.List.{List, [], ◌∷◌}
use native.Mathlib.Omega.{arith}
use lib.ListN.{length, take, drop, length-drop}
use lib.Seq.{take_all}
use Rattle.paper_reasons.specs.File.{between}

no_bytes : (l : List ℕ) → length l ≡ 0 → [] ≡ l
no_bytes [] e = refl
no_bytes (x ∷ xs) e = absurd (omega arith)

pub none_between : (first past : ℕ) (s : List ℕ) → past < first → [] ≡ between first past s
none_between first past s h = let z : past - first ≡ 0 = omega arith in rw z refl

pub none-behind : (first past : ℕ) (s : List ℕ) → length s < first → [] ≡ between first past s
none-behind first past s h =
    let l = length-drop first s in
    let e = no_bytes (drop first s) (omega arith) in
    let t = take_all (past - first) (drop first s) (omega arith) in
    e ∙ sym t

pub all-behind : (first past : ℕ) (s : List ℕ) → length s < past
    → take (length s - first) (drop first s) ≡ between first past s
all-behind first past s h =
    let l = length-drop first s in
    take_all (length s - first) (drop first s) (omega arith)
    ∙ sym (take_all (past - first) (drop first s) (omega arith))

-- What is stored part by part, one behind the other, is stored whole.
-- Assumes nothing.
use Prim.Native.Nat.{ℕ, ◌+◌, ◌≤◌}
use mathlib.Core.Path.{◌≡◌, sym, ◌∙◌, ap}
use mathlib.Core.List.{List, ◌++◌, append_assoc}
use native.Mathlib.Omega.{arith}
use lib.ListN.{length, take, drop}
use lib.Seq.{paste, take-paste, drop-paste, take-add, take_all, drop-drop}

-- n elements more, behind the m that are stored
pub paste_more : (d x y : List ℕ) (at m n : ℕ) → at ≤ length d → m + n ≤ length x → take n y ≡ take n (drop m x)
    → paste (paste d at x m) (at + m) y n ≡ paste d at x (m + n)
paste_more d x y at m n room long same =
    let e : at + m + n ≡ at + (m + n) = omega arith in
    let rest : drop (at + m + n) (paste d at x m) ≡ drop (at + (m + n)) d =
    sym (drop-drop n (at + m) (paste d at x m))
    ∙ ap (drop n) (drop-paste d at x m room (omega arith))
    ∙ drop-drop n (at + m) d
    ∙ ap (λ (k : ℕ). drop k d) e in
    rw (take-paste d at x m room (omega arith), rest, same, take-add m n x) (simp append_assoc)

-- a part that was lent and is full
pub paste-lent : (d y : List ℕ) (at n : ℕ) → length y ≡ n → take at d ++ (y ++ drop n (drop at d)) ≡ paste d at y n
paste-lent d y at n long =
    rw (drop-drop n at d, take_all n y (omega arith)) (simp append_assoc)

-- What is lent of a text is its part, and is as long. Assumes nothing.
use mathlib.Core.Path.{◌≡◌, ◌∙◌, ap}
use mathlib.Core.List.{List}
use Prim.Native.Nat.{ℕ, ◌+◌, ◌-◌, ◌≤◌}
use native.Mathlib.Omega.{arith}
use native.Mathlib.Nat.{sub-zero, add-sub_cancel_left}
use lib.ListN.{length, take, drop, length-drop}
use lib.Seq.{length-take-le, take_all}
use Rattle.paper_decay_run.specs.Run.{without_last}
use Rattle.paper_decay_fields.specs.declared.types.Part.{Part}
use Rattle.paper_decay_fields.specs.Parts.{text_in}
use Rattle.paper_decay_fields.specs.Claims.{Lies}

pub part-text : (l : List ℕ) (p : Part) → take (p.first + p.length - p.first) (drop p.first l) ≡ text_in l p
part-text l p = rw (add-sub_cancel_left p.first p.length)

pub part-long : (l : List ℕ) (p : Part) → Lies l p
    → length (take (p.first + p.length - p.first) (drop p.first l)) ≡ p.length
part-long l p h =
    let d = length-drop p.first l in
    ap length (part-text l p) ∙ length-take-le p.length (drop p.first l) (omega arith)

-- all but the last character
pub most-text : (l : List ℕ) (n : ℕ) → n ≡ length l - 1 → take (n - 0) (drop 0 l) ≡ without_last l
most-text l n e = rw (sub-zero n, e)

-- all behind two characters
pub behind-text : (l : List ℕ) → take (length l - 2) (drop 2 l) ≡ drop 2 l
behind-text l = let d = length-drop 2 l in take_all (length l - 2) (drop 2 l) (omega arith)

pub behind-long : (l : List ℕ) → length (take (length l - 2) (drop 2 l)) ≤ length l
behind-long l =
    let d = length-drop 2 l in
    let q = ap length (behind-text l) in
    omega arith

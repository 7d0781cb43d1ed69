-- What begins a code: each part of it does, and none that ends with a comma is a code itself.
-- Assumes nothing.
use mathlib.Core.Path.{◌≡◌, sym, ap, ◌∙◌}
use mathlib.Core.Bool.{false}
use mathlib.Core.List.{List, [], ◌∷◌, ◌++◌, append_assoc}
use Prim.Native.Nat.{ℕ, ◌<◌}
use native.Mathlib.Omega.{arith}
use lib.ListN.{length, get_or, length-append}
use lib.Seq.{get_or-append_seam}
use Rattle.paper_decay.specs.declared.types.Scan.{Scan}
use Rattle.paper_decay.specs.Scan.{fresh}
use Rattle.paper_decay.specs.Code.{Viable}
use Rattle.paper_decay.proofs.Steps.{steps}
use Rattle.paper_decay.proofs.Stopping.{spelt-closed}
use Rattle.paper_decay.proofs.Shutting.{shutting}
use Rattle.decay_first.specs.Faults.{NoCode}

abbrev pub start : Scan
start = fresh 0 false

pub start-going : start.place < 5
start-going = omega arith

pub part-viable : (a b : List ℕ) → Viable (a ++ b) → Viable a
part-viable a b v =
    let s = v.spells in
    record {
      code = v.code;
      rest = b ++ v.rest;
      spells = record { good = s.good; same = s.same ∙ append_assoc a b v.rest };
    }

-- no code ends with a comma
pub comma-unclosed : (l t : List ℕ) → t ++ (44 ∷ []) ≡ l → NoCode l
comma-unclosed l t e c s =
    let z : (steps start l).place ≡ 5 = ap (λ (x : Scan). x.place) (spelt-closed l c s) in
    let r = shutting l start start-going z in
    let n = length-append t (44 ∷ []) in
    let m = length-append r.before (41 ∷ []) in
    let f : t ++ (44 ∷ []) ≡ r.before ++ (41 ∷ []) = e ∙ sym r.same in
    let k : length (t ++ (44 ∷ [])) ≡ length (r.before ++ (41 ∷ [])) = ap length f in
    let j : length t ≡ length r.before = omega arith in
    let y : ◌≡◌ {A = ℕ} 44 41 =
    sym (get_or-append_seam t 44 [] 0) ∙ ap (λ (x : List ℕ). get_or x (length t) 0) f
    ∙ ap (λ (i : ℕ). get_or (r.before ++ (41 ∷ [])) i 0) j ∙ get_or-append_seam r.before 41 [] 0 in
    omega arith

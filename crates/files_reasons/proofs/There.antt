-- ENDTRANS refused by 8 is a record of the file; and inside an entry the file is no longer than a file may be.
-- Assumes nothing.
use Prim.Native.Nat.{ℕ, ◌+◌, ◌-◌, ◌*◌, ◌/◌, ◌≤◌}
use mathlib.Core.Path.{◌≡◌, sym, ◌∙◌, ap, subst}
use mathlib.Core.List.{List, ◌++◌}
use native.Mathlib.Omega.{arith}
use lib.ListN.{length, length-append}
use Rattle.laws.specs.Blocks.{joined}
use Rattle.paper_entry.specs.declared.types.Verdict.{Verdict}
use Rattle.paper_files.specs.File.{MOST-IN-FILE, file_length_good, judge_file}
use Rattle.files_shape.specs.Shape.{Begun}
use Rattle.files_said.specs.Said.{FileSaid, There, number_of, by_length, at_opening, between, at_ending, behind, in_entry, full}
use Rattle.files_said.specs.Said.{no_ending, no_endentry, whole}
use Rattle.files_said.proofs.Cuts.{WholeFile, whole-file}
use Rattle.files_said.proofs.Says.{file-says}

-- the record with the number at stands in s
pub record Standing (s : List ℕ) (at : ℕ) : Type 0 where
  pub some : 1 ≤ at
  pub there : at * 81 ≤ length s
  pub few : at ≤ MOST-IN-FILE

rest-long : (s : List ℕ) (es : List (List ℕ)) (rest : List ℕ) → Begun s es rest → length rest ≤ length s
rest-long s es rest b =
    let e = ap length b.same ∙ length-append b.opening (joined es ++ rest) in
    let f = length-append (joined es) rest in
    omega arith

behind-long : (s f rest : List ℕ) → s ≡ f ++ rest → length rest ≤ length s
behind-long s f rest e = let l = ap length e ∙ length-append f rest in omega arith

-- the first record of what is left
first-standing : (s rest : List ℕ) → WholeFile (length s) → length rest ≤ length s → There rest 1
    → Standing s (number_of s rest 0)
first-standing s rest w l t =
    let most = w.most in
    let whole = w.whole in
    record { some = omega arith; there = omega arith; few = omega arith }

standing : (s : List ℕ) (v : Verdict) → FileSaid s v → v.refusal ≡ 8 → v.ordinal ≡ 0
    → Standing s v.«record».0
standing s v (by_length e) n o = absurd (omega arith)
standing s v (at_opening m k e f) n o =
    let w = whole-file (length s) e in
    let some = w.some in
    record { some = omega arith; there = omega arith; few = omega arith }
standing s v (between es rest m k e b t x y z) n o =
    first-standing s rest (whole-file (length s) e) (rest-long s es rest b) t
standing s v (at_ending es rest m k e b t x y z) n o =
    first-standing s rest (whole-file (length s) e) (rest-long s es rest b) t
standing s v (behind es f rest m k e x y t z) n o =
    first-standing s rest (whole-file (length s) e) (behind-long s f rest y) t
standing s v (in_entry es rest m x k e b t y z a q) n o = absurd (omega arith)
standing s v (full es rest x k e b t y z) n o = absurd (omega arith)
standing s v (no_ending es e b) n o = absurd (omega arith)
standing s v (no_endentry es rest e b z) n o = absurd (omega arith)
standing s v (whole es f) n o = absurd (omega arith)

pub ending-stands : (s : List ℕ) (v : Verdict) → v ≡ judge_file s → v.refusal ≡ 8 → v.ordinal ≡ 0
    → Standing s v.«record».0
ending-stands s v e = standing s v (subst (FileSaid s) (sym e) (file-says s))

-- an ordinal is given inside an entry only
few-said : (s : List ℕ) (v : Verdict) → FileSaid s v → (v.ordinal ≡ 0 → ⊥) → length s ≤ MOST-IN-FILE * 81
few-said s v (by_length e) o = absurd (o (omega arith))
few-said s v (at_opening m k e f) o = absurd (o (omega arith))
few-said s v (between es rest m k e b t x y z) o = absurd (o (omega arith))
few-said s v (at_ending es rest m k e b t x y z) o = absurd (o (omega arith))
few-said s v (behind es f rest m k e x y t z) o = absurd (o (omega arith))
few-said s v (in_entry es rest m x k e b t y z a q) o = (whole-file (length s) e).most
few-said s v (full es rest x k e b t y z) o = (whole-file (length s) e).most
few-said s v (no_ending es e b) o = absurd (o (omega arith))
few-said s v (no_endentry es rest e b z) o = absurd (o (omega arith))
few-said s v (whole es f) o = absurd (o (omega arith))

pub file-few : (s : List ℕ) (v : Verdict) → v ≡ judge_file s → (v.ordinal ≡ 0 → ⊥) → length s ≤ MOST-IN-FILE * 81
file-few s v e = few-said s v (subst (FileSaid s) (sym e) (file-says s))

-- The copy of a file is the copies of its entries in place.
-- Assumes nothing.
use Prim.Native.Nat.{ℕ, zero, suc, ◌+◌, ◌*◌, ◌/◌, ◌≤◌}
use mathlib.Core.Path.{◌≡◌, refl, sym, ◌∙◌, ap}
use mathlib.Core.List.{List, [], ◌∷◌, ◌++◌, map, append_assoc}
use native.Mathlib.Omega.{arith}
use borrow.Author.Tests.{eq-eqb, ne_eqb}
use lib.ListN.{length, take, drop, length-append}
use lib.Seq.{take_at, drop_at}
use Rattle.laws.specs.Walk.{All}
use Rattle.laws.specs.Blocks.{joined}
use Rattle.paper_entry.specs.Judging.{Accepted}
use Rattle.paper_copy.specs.Copy.{copy_of}
use Rattle.paper_copy.proofs.Demand.{passed, copy-long}
use Rattle.paper_files.specs.Parts.{entry_records, entry_length}
use Rattle.paper_files.proofs.PlainParts.{length-by}
use Rattle.files_shape.specs.Shape.{FileOf}
use Rattle.files_entries.proofs.AcceptedBegins.{accepted-whole}
use Rattle.files_entries.proofs.EntriesMet.{none-begins, length-met}
use Rattle.files_copy_laws.specs.CopyFile.{copies_from, copy_file_of}
use Rattle.files_copy_laws.specs.Demand.{CopiesInPlace, FileCopyLong}

-- ---- entries, one behind the other

-- the last of them is met: what follows stays
copies-none : (m : ℕ) (rest : List ℕ) → entry_records rest ≡ 0 → copies_from m rest ≡ rest
unfolding copies_from
copies-none zero rest none = refl
copies-none (suc m) rest none = rw (eq-eqb (entry_length rest 0) 0 (length-by rest 0 0 none))

copies-one : (m : ℕ) (e x : List ℕ) → Accepted e → copies_from (suc m) (e ++ x) ≡ copy_of e ++ copies_from m x
unfolding copies_from
copies-one m e x a =
    let some = (accepted-whole e a).1 in
    let long : entry_length (e ++ x) 0 ≡ length e = length-met (e ++ x) [] e x refl a in
    rw (ne_eqb (entry_length (e ++ x) 0) 0 (λ z. omega arith)) (rw long
    (rw (take_at e x (length e) refl, drop_at e x (length e) refl)))

copies-all : (m : ℕ) (es : List (List ℕ)) (rest : List ℕ) → All Accepted es → entry_records rest ≡ 0 → length es ≤ m
    → copies_from m (joined es ++ rest) ≡ joined (map copy_of es) ++ rest
unfolding joined
copies-all m [] rest each none h = copies-none m rest none
copies-all zero (e ∷ es) rest each none h = absurd (omega arith)
copies-all (suc m) (e ∷ es) rest each none h =
    ap (copies_from (suc m)) (append_assoc e (joined es) rest)
    ∙ copies-one m e (joined es ++ rest) each.0
    ∙ ap (λ (x : List ℕ). copy_of e ++ x) (copies-all m es rest each.1 none (omega arith))
    ∙ sym (append_assoc (copy_of e) (joined (map copy_of es)) rest)

-- every entry has a record
entries-few : (es : List (List ℕ)) → All Accepted es → length es * 81 ≤ length (joined es)
unfolding joined
entries-few [] each = omega arith
entries-few (e ∷ es) each =
    let (whole, some) = accepted-whole e each.0 in
    let rest = entries-few es each.1 in
    rw length-append (omega arith)

-- the copies are as long
pub copies-long : (es : List (List ℕ)) → All Accepted es → length (joined (map copy_of es)) ≡ length (joined es)
unfolding joined
copies-long [] each = refl
copies-long (e ∷ es) each =
    length-append (copy_of e) (joined (map copy_of es))
    ∙ rw (copy-long e (passed e each.0), copies-long es each.1) (sym (length-append e (joined es)))

-- ---- a file

module _ (s : List ℕ) (es : List (List ℕ)) (f : FileOf s es) where
  pub file-long : length s ≡ 81 + (length (joined es) + 81)
  file-long =
      let a = f.begun.opens.whole in
      let b = f.ends.whole in
      ap length f.begun.same ∙ rw (length-append, length-append, a, b)

  pub no_more : entry_records f.ending ≡ 0
  no_more = none-begins f.ending (length es) f.ends

  pub behind-opening : drop 81 s ≡ joined es ++ f.ending
  behind-opening =
      ap (drop 81) f.begun.same ∙ drop_at f.begun.opening (joined es ++ f.ending) 81 f.begun.opens.whole

  pub opening-first : take 81 s ≡ f.begun.opening
  opening-first =
      ap (take 81) f.begun.same ∙ take_at f.begun.opening (joined es ++ f.ending) 81 f.begun.opens.whole

pub copies-in-place : CopiesInPlace
unfolding copy_file_of
copies-in-place s es f =
    let few = entries-few es f.begun.each in
    let long = file-long s es f in
    let behind = joined (map copy_of es) ++ f.ending in
    let copied : copies_from (length s / 81) (drop 81 s) ≡ behind =
    ap (copies_from (length s / 81)) (behind-opening s es f)
    ∙ copies-all (length s / 81) es f.ending f.begun.each (no_more s es f) (omega arith) in
    rw copied (ap (λ (x : List ℕ). x ++ behind) (opening-first s es f))

pub file-copy-long : FileCopyLong
file-copy-long s es f =
    let a = f.begun.opens.whole in
    let b = f.ends.whole in
    ap length (copies-in-place s es f)
    ∙ rw (length-append, length-append, a, b, copies-long es f.begun.each) (sym (file-long s es f))

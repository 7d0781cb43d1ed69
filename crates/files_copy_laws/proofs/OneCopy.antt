-- Two files have the same copy exactly when TRANS, ENDTRANS and, one by one, the copies of their entries are the same.
-- Assumes nothing.
use Prim.Native.Nat.{ℕ}
use mathlib.Core.Path.{◌≡◌, refl, sym, ◌∙◌, ap, subst}
use mathlib.Core.List.{List, [], ◌∷◌, ◌++◌, map}
use native.Mathlib.Omega.{arith}
use lib.ListN.{length, take, drop}
use lib.Seq.{take_at, drop_at}
use Rattle.laws.specs.Walk.{All}
use Rattle.laws.specs.Blocks.{joined}
use Rattle.paper_entry.specs.Judging.{Accepted}
use Rattle.paper_copy.specs.Copy.{copy_of}
use Rattle.paper_copy.specs.Demand.{SameNumbers}
use Rattle.paper_copy.proofs.Demand.{one_copy}
use Rattle.files_shape.specs.Shape.{FileOf}
use Rattle.files_entries.proofs.EntriesMet.{one-cut}
use Rattle.files_copy_laws.specs.CopyFile.{copy_file_of}
use Rattle.files_copy_laws.specs.Demand.{OneByOne, SameEntries, OneFileCopy}
use Rattle.files_copy_laws.proofs.InPlace.{copies-in-place}
use Rattle.files_copy_laws.proofs.Demand.{copy-is-file}

-- ---- lists of entries

same-one : (xs ys : List (List ℕ)) → All Accepted xs → All Accepted ys → map copy_of xs ≡ map copy_of ys
    → OneByOne SameNumbers xs ys
unfolding OneByOne
same-one [] [] a b e = tt
same-one [] (y ∷ ys) a b e = let z : ◌≡◌ {A = ℕ} 0 1 = cc in absurd (omega arith)
same-one (x ∷ xs) [] a b e = let z : ◌≡◌ {A = ℕ} 0 1 = cc in absurd (omega arith)
same-one (x ∷ xs) (y ∷ ys) a b e =
    let first : copy_of x ≡ copy_of y = cc in
    let rest : map copy_of xs ≡ map copy_of ys = cc in
    ((one_copy x y a.0 b.0).0 first, same-one xs ys a.1 b.1 rest)

one_same : (xs ys : List (List ℕ)) → All Accepted xs → All Accepted ys → OneByOne SameNumbers xs ys
    → map copy_of xs ≡ map copy_of ys
unfolding OneByOne
one_same [] [] a b h = refl
one_same [] (y ∷ ys) a b h = absurd h
one_same (x ∷ xs) [] a b h = absurd h
one_same (x ∷ xs) (y ∷ ys) a b h =
    rw ((one_copy x y a.0 b.0).1 h.0, one_same xs ys a.1 b.1 h.1)

-- ---- files

-- the same bytes behind beginnings of one length
cut-first : (a b x y : List ℕ) (n : ℕ) → length a ≡ n → length b ≡ n → a ++ x ≡ b ++ y → a ≡ b
cut-first a b x y n la lb e = sym (take_at a x n la) ∙ ap (take n) e ∙ take_at b y n lb

cut-rest : (a b x y : List ℕ) (n : ℕ) → length a ≡ n → length b ≡ n → a ++ x ≡ b ++ y → x ≡ y
cut-rest a b x y n la lb e = sym (drop_at a x n la) ∙ ap (drop n) e ∙ drop_at b y n lb

module _ (s t : List ℕ) (xs ys : List (List ℕ)) (f : FileOf s xs) (g : FileOf t ys) where
  same_entries : copy_file_of s ≡ copy_file_of t → SameEntries f g
  same_entries e =
      let whole = sym (copies-in-place s xs f) ∙ e ∙ copies-in-place t ys g in
      let cut : map copy_of xs ≡ map copy_of ys =
      one-cut (copy_file_of t) (map copy_of xs) (map copy_of ys)
      (subst (λ (c : List ℕ). FileOf c (map copy_of xs)) e (copy-is-file s xs f)) (copy-is-file t ys g) in
      let behind : joined (map copy_of xs) ++ f.ending ≡ joined (map copy_of ys) ++ g.ending =
      cut-rest f.begun.opening g.begun.opening _ _ 81 f.begun.opens.whole g.begun.opens.whole whole in
      record {
        opening = cut-first f.begun.opening g.begun.opening _ _ 81 f.begun.opens.whole
            g.begun.opens.whole whole;
        entries = same-one xs ys f.begun.each g.begun.each cut;
        ending = cut-rest (joined (map copy_of xs)) (joined (map copy_of ys)) f.ending g.ending
            (length (joined (map copy_of ys))) (ap (λ (zs : List (List ℕ)). length (joined zs)) cut) refl behind;
      }

  same_copy : SameEntries f g → copy_file_of s ≡ copy_file_of t
  same_copy h =
      copies-in-place s xs f
      ∙ rw (h.opening, h.ending, one_same xs ys f.begun.each g.begun.each h.entries) refl
      ∙ sym (copies-in-place t ys g)

pub one-file-copy : OneFileCopy
one-file-copy s t xs ys f g = (same_entries s t xs ys f g, same_copy s t xs ys f g)

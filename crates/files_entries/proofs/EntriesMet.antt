-- The entries of a file are met as parts, one behind the other, and behind the last stands none. So a file is cut in one
-- way only.
-- Assumes nothing.
use Prim.Native.Nat.{ℕ, ◌+◌, ◌/◌}
use mathlib.Core.Path.{◌≡◌, refl, sym, ◌∙◌, ap}
use mathlib.Core.List.{List, [], ◌∷◌, ◌++◌, append_assoc}
use native.Mathlib.Omega.{arith}
use lib.ListN.{length, drop, length-append}
use lib.Seq.{take_all, take_at, drop_at}
use Rattle.laws.specs.Walk.{All}
use Rattle.laws.specs.Blocks.{block_at, joined}
use Rattle.paper_record.specs.Fields.{field_at}
use Rattle.paper_record.specs.Identifier.{ENTRY, ENDTRANS, identifier_of}
use Rattle.paper_entry.specs.Judging.{Accepted}
use Rattle.paper_files.specs.Parts.{entry_records, entry_length, entry_from}
use Rattle.paper_files.proofs.PlainParts.{length-by, from-begun, from-none}
use Rattle.paper_files.proofs.EntryRecords.{not_opened}
use Rattle.files_shape.specs.Shape.{GoodOutside}
use Rattle.files_entries.specs.Entries.{Met, EntriesMet, OneCut}
use Rattle.files_entries.proofs.AcceptedBegins.{name-plain, accepted-records, accepted-whole}

-- ---- where an entry begins, and where none does

-- a record that is not ENTRY begins none
pub none-begins : (r : List ℕ) (entries : ℕ) → GoodOutside ENDTRANS entries r → entry_records r ≡ 0
none-begins r entries g =
    let wide = g.whole in
    let here : block_at 81 r 0 ≡ r = take_all 81 r (omega arith) in
    let name : identifier_of (field_at (block_at 81 r 0) 0) ≡ ENDTRANS = rw here (sym (name-plain r) ∙ g.named) in
    let one : length r / 81 ≡ 1 = omega arith in
    sym (not_opened r (rw one (omega arith)) (rw name refl))

module _ (s before e x : List ℕ) (same : s ≡ before ++ (e ++ x)) (a : Accepted e) where
  here : drop (length before) s ≡ e ++ x
  here = rw same (drop_at before (e ++ x) (length before) refl)

  pub length-met : entry_length s (length before) ≡ length e
  length-met =
      length-by s (length before) (length e / 81) (rw here (accepted-records e a x)) ∙ sym (accepted-whole e a).0

  pub entry-met : entry_from s (length before) ≡ e
  entry-met =
      let some = (accepted-whole e a).1 in
      let long = length-met in
      from-begun s (length before) (λ z. omega arith) ∙ rw (long, here) (take_at e x (length e) refl)

-- ---- one behind the other

met-from : (s before : List ℕ) (es : List (List ℕ)) (rest : List ℕ) → s ≡ before ++ (joined es ++ rest)
    → All Accepted es → entry_records rest ≡ 0 → Met s (length before) es
unfolding Met joined
met-from s before [] rest same each none =
    let here : drop (length before) s ≡ rest = rw same (drop_at before rest (length before) refl) in
    from-none s (length before) (length-by s (length before) 0 (rw here none))
met-from s before (e ∷ es) rest same each none =
    let split : s ≡ before ++ (e ++ (joined es ++ rest)) = same ∙ rw (append_assoc e (joined es) rest) refl in
    let next : s ≡ (before ++ e) ++ (joined es ++ rest) = split ∙ sym (append_assoc before e (joined es ++ rest)) in (
      entry-met s before e (joined es ++ rest) split each.0,
      rw (length-append before e) at (met-from s (before ++ e) es rest next each.1 none),
    )

pub entries-met : EntriesMet
entries-met s entries f =
    let long = f.begun.opens.whole in
    rw long at (met-from s f.begun.opening entries f.ending f.begun.same f.begun.each
    (none-begins f.ending (length entries) f.ends))

-- ---- one way to cut

no-entry : {X : Type 0} (e : List ℕ) → Accepted e → [] ≡ e → X
no-entry e a z = let some = (accepted-whole e a).1 in let y : 0 ≡ length e = ap length z in absurd (omega arith)

one_list : (s : List ℕ) (at : ℕ) (xs ys : List (List ℕ)) → All Accepted xs → All Accepted ys → Met s at xs → Met s at ys
    → xs ≡ ys
unfolding Met
one_list s at [] [] a b p q = refl
one_list s at [] (y ∷ ys) a b p q = no-entry y b.0 (sym p ∙ q.0)
one_list s at (x ∷ xs) [] a b p q = no-entry x a.0 (sym q ∙ p.0)
one_list s at (x ∷ xs) (y ∷ ys) a b p q =
    let e : x ≡ y = sym p.0 ∙ q.0 in
    let rest : xs ≡ ys = one_list s (at + length x) xs ys a.1 b.1 p.1 (rw e q.1) in
    rw (e, rest)

pub one-cut : OneCut
one-cut s xs ys f g =
    one_list s 81 xs ys f.begun.each g.begun.each (entries-met s xs f) (entries-met s ys g)

-- Behind TRANS and accepted entries just these entries are passed, and the byte behind them is the first of the rest.
-- Assumes nothing.
use Prim.Native.Nat.{ℕ, zero, suc, ◌+◌, ◌-◌, ◌*◌, ◌/◌, ◌<◌, ◌≤◌}
use mathlib.Core.Path.{◌≡◌, refl, sym, ◌∙◌, ap, subst}
use mathlib.Core.Bool.{false}
use mathlib.Core.List.{List, [], ◌∷◌, ◌++◌, append_assoc}
use native.Mathlib.Omega.{arith}
use borrow.Author.Tests.{ne_eqb}
use lib.Dec.{leb}
use lib.ListN.{length, take, drop, length-append}
use lib.Seq.{drop_at}
use Rattle.laws.specs.Walk.{All}
use Rattle.laws.specs.Blocks.{block_at, joined}
use Rattle.paper_record.specs.Fields.{field_at}
use Rattle.paper_record.specs.Identifier.{ENTRY, identifier_of}
use Rattle.paper_rules.specs.Limits.{MOST-RECORDS}
use Rattle.laws.proofs.EitherWay.{either_way}
use Rattle.paper_entry.specs.Judging.{Accepted}
use Rattle.paper_files.specs.File.{name_of}
use Rattle.paper_files.specs.Parts.{records_of, entry_records, entry_length}
use Rattle.paper_files.proofs.PlainParts.{length-by}
use Rattle.paper_files.proofs.EntryRecords.{not_opened}
use Rattle.files_shape.specs.Shape.{Begun}
use Rattle.files_said.specs.Said.{records_before, record_at, There}
use Rattle.files_said.proofs.Through.{Reached, reached}
use Rattle.files_entries.proofs.AcceptedBegins.{name-plain, accepted-whole}
use Rattle.files_entries.proofs.EntriesMet.{length-met}
use Rattle.paper_reasons.specs.File.{passed}
use Rattle.paper_reasons.proofs.Passed.{so, none_passed, one-passed, still}

-- ---- one behind the other

passed_on : (s before : List ℕ) (n : ℕ) (es : List (List ℕ)) (rest : List ℕ) → s ≡ before ++ (joined es ++ rest)
    → All Accepted es → passed s n ≡ so n (length before)
    → passed s (n + length es) ≡ so (n + length es) (length before + length (joined es))
unfolding joined
passed_on s before n [] rest same each here =
    let x : n ≡ n + 0 = omega arith in
    let y : length before ≡ length before + 0 = omega arith in
    subst (λ (m : ℕ). passed s m ≡ so m (length before + 0)) x
    (subst (λ (m : ℕ). passed s n ≡ so n m) y here)
passed_on s before n (e ∷ es) rest same each here =
    let split : s ≡ before ++ (e ++ (joined es ++ rest)) = same ∙ rw (append_assoc e (joined es) rest) refl in
    let next : s ≡ (before ++ e) ++ (joined es ++ rest) = split ∙ sym (append_assoc before e (joined es ++ rest)) in
    let long = length-met s before e (joined es ++ rest) split each.0 in
    let some = (accepted-whole e each.0).1 in
    let one =
    one-passed s n (length before) here (λ z. omega arith)
    ∙ ap (λ (m : ℕ). so (n + 1) (length before + m)) long
    ∙ ap (λ (m : ℕ). so (n + 1) m) (sym (length-append before e)) in
    let more = passed_on s (before ++ e) (n + 1) es rest next each.1 one in
    let x : n + 1 + length es ≡ n + suc (length es) = omega arith in
    let y : length (before ++ e) + length (joined es) ≡ length before + length (e ++ joined es) =
    let p = length-append before e in let q = length-append e (joined es) in omega arith in
    subst (λ (m : ℕ). passed s m ≡ so m (length before + length (e ++ joined es))) x
    (subst (λ (m : ℕ). passed s (n + 1 + length es) ≡ so (n + 1 + length es) m) y more)

-- each has a record at least
some-records : (es : List (List ℕ)) → All Accepted es → length es * 81 ≤ length (joined es)
unfolding joined
some-records [] each = omega arith
some-records (e ∷ es) each =
    let w = (accepted-whole e each.0).0 in
    let some = (accepted-whole e each.0).1 in
    let more = some-records es each.1 in
    let l = length-append e (joined es) in
    omega arith

-- ---- up to the rest

module _ (s : List ℕ) (es : List (List ℕ)) (rest : List ℕ) (b : Begun s es rest) where
  abbrev records : ℕ
  records = records_before s rest

  size : length s ≡ 81 + (length (joined es) + length rest)
  size =
      let wide = b.opens.whole in
      let p = ap length b.same ∙ length-append b.opening (joined es ++ rest) in
      let q = length-append (joined es) rest in
      omega arith

  -- as bytes
  pub bytes-before : 81 + length (joined es) ≡ records * 81
  bytes-before =
      let p = (reached s es rest b).placed in
      let l = size in
      omega arith

  pub entries-passed : passed s (length es) ≡ so (length es) (records * 81)
  entries-passed =
      let wide = b.opens.whole in
      let start : passed s 0 ≡ so 0 (length b.opening) = rw wide (none_passed s) in
      let all = passed_on s b.opening 0 es rest b.same b.each start in
      let x : 0 + length es ≡ length es = omega arith in
      let l = bytes-before in
      let y : length b.opening + length (joined es) ≡ records * 81 = omega arith in
      subst (λ (m : ℕ). passed s m ≡ so m (records * 81)) x
      (subst (λ (m : ℕ). passed s (0 + length es) ≡ so (0 + length es) m) y all)

  pub rest-there : drop (records * 81) s ≡ rest
  rest-there =
      let split : s ≡ (b.opening ++ joined es) ++ rest = b.same ∙ sym (append_assoc b.opening (joined es) rest) in
      let wide = b.opens.whole in
      let l = bytes-before in
      let p = length-append b.opening (joined es) in
      let y : length (b.opening ++ joined es) ≡ records * 81 = omega arith in
      ap (drop (records * 81)) split ∙ drop_at (b.opening ++ joined es) rest (records * 81) y

  -- where the rest begins with no ENTRY, no further is passed
  none-further : There rest 1 → (name_of (record_at rest 0) ≡ ENTRY → ⊥) → entry_length s (records * 81) ≡ 0
  none-further there other =
      let name : identifier_of (field_at (block_at 81 rest 0) 0) ≡ ENTRY → ⊥ =
      λ z. other (name-plain (record_at rest 0) ∙ z) in
      let some : 0 < records_of rest =
      either_way (λ (n : ℕ). 0 < n) (leb (length rest / 81) MOST-RECORDS) _ _ (omega arith) (omega arith) in
      let none = not_opened rest some (ne_eqb (identifier_of (field_at (block_at 81 rest 0) 0)) ENTRY name) in
      length-by s (records * 81) 0 (rw rest-there (sym none))

  pub all-passed : There rest 1 → (name_of (record_at rest 0) ≡ ENTRY → ⊥)
      → passed s records ≡ so (length es) (records * 81)
  all-passed there other =
      let few = some-records es b.each in
      let l = bytes-before in
      let z : records - length es + length es ≡ records = omega arith in
      subst (λ (m : ℕ). passed s m ≡ so (length es) (records * 81)) z
      (still s (length es) (records - length es) _ entries-passed (none-further there other))

-- The verdict on a file is such as is said: record by record, something is met that can be said of the file, and what
-- is said of it is the verdict.
-- Assumes nothing.
use Rattle.std.specs.Prelude.{Ok, Err}
use Prim.Native.Nat.{ℕ, zero, suc, ◌+◌, ◌*◌, ◌/◌, ◌<◌, ◌≤◌}
use mathlib.Core.Path.{◌≡◌, refl, sym, ◌∙◌, ap, subst}
use mathlib.Core.Bool.{Bool, true, false}
use mathlib.Core.List.{List, [], ◌∷◌, ◌++◌, append_assoc, append-nil}
use native.Mathlib.Omega.{arith}
use borrow.Author.Tests.{eqb-true, eqb-false, leb-true, leb-false}
use lib.Dec.{eqb, leb}
use lib.ListN.{length, take, drop, length-append, length-drop, take-append-drop}
use lib.Seq.{length-take-le}
use Rattle.laws.specs.Blocks.{joined}
use Rattle.laws.proofs.Listing.{all_append, joined-one}
use Rattle.paper_record.specs.Fields.{fields_of}
use Rattle.paper_record.specs.Identifier.{ENTRY, TRANS, ENDTRANS}
use Rattle.paper_faults.specs.Fault.{first_fault, Checked, fault_at, faultless}
use Rattle.paper_rules.specs.Role.{only}
use Rattle.paper_rules.specs.Every.{rule4}
use Rattle.paper_faults.specs.Least.{Nothing}
use Rattle.paper_faults.proofs.Least.{first-least}
use Rattle.paper_faults.proofs.FaultSaid.{first-nothing}
use Rattle.paper_entry.specs.Judging.{Accepted}
use Rattle.below.proofs.Behind.{behind-end}
use Rattle.paper_files.specs.Outside.{outside_findings}
use Rattle.paper_files.specs.File.{name_of, file_length_good}
use Rattle.files_shape.specs.Shape.{GoodOutside, Begun, FileOf}
use Rattle.files_said.specs.Said.{cut, record_at, There, FoundOutside, FileSaid, by_length, at_opening, between}
use Rattle.files_said.specs.Said.{at_ending, behind, no_ending, whole, FileSays}
use Rattle.files_said.proofs.Outside.{outside-rises}
use Rattle.files_said.proofs.Cuts.{whole-file}
use Rattle.files_said.proofs.Alone.{file-alone}
use Rattle.files_said.proofs.EntryTold.{Told, entry-told}

-- ---- a record that belongs to no entry

module _ (entries role : ℕ) (r : List ℕ) where
  abbrev fault : Checked
  fault = first_fault (outside_findings entries role (fields_of r) r)

  found-outside : (n k : ℕ) → fault ≡ fault_at n k → FoundOutside entries role r n k
  found-outside n k e =
      first-least 1 (outside_findings entries role (fields_of r) r) (outside-rises entries role (fields_of r) r) n k e

  none-outside : fault ≡ faultless → Nothing (outside_findings entries role (fields_of r) r)
  none-outside e =
      first-nothing (outside_findings entries role (fields_of r) r) (outside-rises entries role (fields_of r) r) e

-- ---- one entry more

begun_more : (s : List ℕ) (es : List (List ℕ)) (rest : List ℕ) (i : ℕ) → Begun s es rest → Accepted (cut i rest)
    → Begun s (es ++ (cut i rest ∷ [])) (drop (i * 81) rest)
begun_more s es rest i b a =
    let x = cut i rest in
    let later = drop (i * 81) rest in
    record {
      opening = b.opening;
      same =
          b.same
          ∙ ap (λ (w : List ℕ). b.opening ++ w)
          (ap (λ (w : List ℕ). joined es ++ w) (sym (take-append-drop (i * 81) rest))
          ∙ sym (append_assoc (joined es) x later)
          ∙ ap (λ (w : List ℕ). w ++ later) (sym (joined-one es x)));
      opens = b.opens;
      each = all_append Accepted es (x ∷ []) b.each (a, tt);
    }

-- ---- at ENDTRANS

module _ (s : List ℕ) (es : List (List ℕ)) (rest : List ℕ) (good : file_length_good (length s) ≡ true)
    (b : Begun s es rest) (there : There rest 1) where
  module _ (some : 1 ≤ length es) (named : name_of (record_at rest 0) ≡ ENDTRANS) where
    -- the file up to it
    abbrev part : List ℕ
    part = b.opening ++ (joined es ++ take 81 rest)

    split : s ≡ part ++ drop 81 rest
    split =
        b.same
        ∙ ap (λ (w : List ℕ). b.opening ++ w)
        (ap (λ (w : List ℕ). joined es ++ w) (sym (take-append-drop 81 rest))
        ∙ sym (append_assoc (joined es) (take 81 rest) (drop 81 rest)))
        ∙ sym (append_assoc b.opening (joined es ++ take 81 rest) (drop 81 rest))

    closed : Nothing (outside_findings (length es) ENDTRANS (fields_of (record_at rest 0)) (record_at rest 0))
        → FileOf part es
    closed none =
        let most = (whole-file (length s) good).most in
        let size : length s ≡ length part + length (drop 81 rest) =
        ap length split ∙ length-append part (drop 81 rest) in
        record {
          ending = take 81 rest;
          begun = record { opening = b.opening; same = refl; opens = b.opens; each = b.each };
          some = some;
          ends = record { whole = length-take-le 81 rest there; named = named; nothing = none };
          most = omega arith;
        }

    -- it is the last record, or one follows
    behind-told : FileOf part es → (later : List ℕ) → s ≡ part ++ later → length later ≡ length later / 81 * 81 → Told s
    behind-told o [] e long =
        let same : part ≡ s = sym (e ∙ append-nil part) in
        (_, whole es (subst (λ (w : List ℕ). FileOf w es) same o))
    behind-told o (x ∷ xs) e long =
        let q = behind-end (record_at (x ∷ xs) 0) in
        (_, behind es part (x ∷ xs) q.number q.column good o e (omega arith) q.said)

    ending-told : length rest ≡ length rest / 81 * 81 → Told s
    ending-told long = by-fault (fault (length es) ENDTRANS (record_at rest 0)) refl
      where
        by-fault : (x : Checked) → fault (length es) ENDTRANS (record_at rest 0) ≡ x → Told s
        by-fault (Ok u) e =
            behind-told (closed (none-outside (length es) ENDTRANS (record_at rest 0) e)) (drop 81 rest) split
            (simp length-drop (omega arith))
        by-fault (Err fault) e =
            let l = found-outside (length es) ENDTRANS (record_at rest 0) fault.number fault.column e in
            (_, at_ending es rest fault.number fault.column good b there some named l)

  -- ---- at any record that no entry has before it

  between-told : (name_of (record_at rest 0) ≡ ENTRY → ⊥) → (1 ≤ length es → name_of (record_at rest 0) ≡ ENDTRANS → ⊥)
      → Told s
  between-told other unclosed =
      let q = behind-end (record_at rest 0) in
      (_, between es rest q.number q.column good b there other unclosed q.said)

-- ---- record by record

-- behind TRANS and entries, where what follows one entry more is told of
next-told : (s : List ℕ) (es : List (List ℕ)) (rest : List ℕ) → file_length_good (length s) ≡ true → Begun s es rest
    → length rest ≡ length rest / 81 * 81
    → ((i : ℕ) → 0 < i → There rest i → Accepted (cut i rest) → Told s) → Told s
next-told s es [] good b long next = (_, no_ending es good b)
next-told s es (x ∷ xs) good b long next =
    by_names (eqb name ENTRY) refl (leb 1 (length es)) refl (eqb name ENDTRANS) refl
  where
    name : ℕ
    name = name_of (record_at (x ∷ xs) 0)

    by_names : (p : Bool) → eqb name ENTRY ≡ p → (q : Bool) → leb 1 (length es) ≡ q → (r : Bool)
        → eqb name ENDTRANS ≡ r → Told s
    by_names true e q f r g =
        entry-told s es (x ∷ xs) good b (eqb-true name ENTRY e) next (omega arith) long
    by_names false e true f true g =
        ending-told s es (x ∷ xs) good b (omega arith) (leb-true 1 (length es) f) (eqb-true name ENDTRANS g) long
    by_names false e true f false g =
        between-told s es (x ∷ xs) good b (omega arith) (eqb-false name ENTRY e) (λ h. eqb-false name ENDTRANS g)
    by_names false e false f r g =
        between-told s es (x ∷ xs) good b (omega arith) (eqb-false name ENTRY e)
        (λ h z. let k = leb-false 1 (length es) f in omega arith)

-- with m records left at most
told-from : (m : ℕ) (s : List ℕ) (es : List (List ℕ)) (rest : List ℕ) → file_length_good (length s) ≡ true
    → Begun s es rest → length rest ≡ length rest / 81 * 81 → length rest ≤ m * 81 → Told s
told-from zero s es rest good b long few =
    next-told s es rest good b long (λ i some there a. absurd (omega arith))
told-from (suc m) s es rest good b long few =
    next-told s es rest good b long
    (λ i some there a.
    told-from m s (es ++ (cut i rest ∷ [])) (drop (i * 81) rest) good (begun_more s es rest i b a)
    (simp length-drop (omega arith)) (simp length-drop (omega arith)))

-- a first record on which nothing is found is TRANS
opening-named : (k entries : ℕ) (r : List ℕ) → Nothing (outside_findings entries (only TRANS k) (fields_of r) r)
    → k ≡ TRANS
unfolding rule4
opening-named k entries r none = by-test (eqb k TRANS) refl
  where
    by-test : (b : Bool) → eqb k TRANS ≡ b → k ≡ TRANS
    by-test true e = eqb-true k TRANS e
    by-test false e =
        let z : ◌≡◌ {A = List ℕ} (1 ∷ []) [] = rw e at (none 2 (omega arith)) in
        let y : ◌≡◌ {A = ℕ} 1 0 = ap length z in
        absurd (omega arith)

opening-told : (s : List ℕ) → file_length_good (length s) ≡ true → Told s
unfolding joined
opening-told s good = by-fault (fault 0 (only TRANS (name_of r)) r) refl
  where
    r : List ℕ
    r = record_at s 0

    by-fault : (x : Checked) → fault 0 (only TRANS (name_of (record_at s 0))) (record_at s 0) ≡ x → Told s
    by-fault (Ok u) e =
        let w = whole-file (length s) good in
        let some = w.some in
        let long = w.whole in
        let none = none-outside 0 (only TRANS (name_of r)) r e in
        let named : name_of r ≡ TRANS = opening-named (name_of r) 0 r none in
        let opens : GoodOutside TRANS 0 r = record {
          whole = length-take-le 81 s some;
          named = named;
          nothing = subst (λ (role : ℕ). Nothing (outside_findings 0 role (fields_of r) r)) (ap (only TRANS) named) none;
        } in
        told-from (length s / 81) s [] (drop 81 s) good
        (record { opening = take 81 s; same = sym (take-append-drop 81 s); opens = opens; each = tt })
        (simp length-drop (omega arith)) (simp length-drop (omega arith))
    by-fault (Err fault) e = (_, at_opening fault.number fault.column good (found-outside 0 (only TRANS (name_of r)) r fault.number fault.column e))

told : (s : List ℕ) → Told s
told s = by-length-test (file_length_good (length s)) refl
  where
    by-length-test : (b : Bool) → file_length_good (length s) ≡ b → Told s
    by-length-test true e = opening-told s e
    by-length-test false e = (_, by_length e)

pub file-says : FileSays
file-says s = let t = told s in subst (FileSaid s) (file-alone s t.0 t.1) t.1

-- How many records an entry has: from ENTRY to the first ENDENTRY, among whole records.
-- Assumes nothing.
use Prim.Native.Nat.{ℕ, zero, suc, ◌+◌, ◌*◌, ◌-◌, ◌/◌, ◌<◌, ◌≤◌}
use mathlib.Core.Path.{◌≡◌, refl, sym, ◌∙◌}
use mathlib.Core.Bool.{Bool, true, false, cond}
use mathlib.Core.List.{List}
use native.Mathlib.Omega.{arith}
use borrow.Author.Tests.{leb-true, leb-false, ltb-true, lt-ltb, le-ltb, eq-eqb, eqb-true}
use lib.Dec.{leb, ltb}
use lib.ListN.{length, drop}
use lib.Seq.{take-take}
use Rattle.laws.proofs.Booleans.{differ}
use Rattle.laws.proofs.Search.{Scan, scan-all}
use Rattle.laws.proofs.Counting.{first-before, first_holds, first-is}
use Rattle.paper_record.specs.Columns.{columns_at}
use Rattle.paper_record.specs.Fields.{field_at}
use Rattle.laws.specs.Blocks.{block_at}
use Rattle.paper_record.specs.Identifier.{OTHER, ENTRY, ENDENTRY, identifier_of}
use Rattle.paper_record.proofs.PlainNames.{name-exactly}
use Rattle.paper_rules.specs.Limits.{MOST-RECORDS}
use Rattle.paper_files.specs.Parts.{named_at, few, records_of, end_of, entry_records}
use Rattle.paper_files.specs.PlainParts.{RecordNamed, Begins}

-- ---- the whole records of some bytes

pub few-upto : (n : ℕ) → (few n ≤ n) × (few n ≤ MOST-RECORDS)
few-upto n = by-test (leb n MOST-RECORDS) refl
  where
    by-test : (b : Bool) → leb n MOST-RECORDS ≡ b → (cond b n MOST-RECORDS ≤ n) × (cond b n MOST-RECORDS ≤ MOST-RECORDS)
    by-test true e = let h = leb-true n MOST-RECORDS e in (omega arith, omega arith)
    by-test false e = let h = leb-false n MOST-RECORDS e in (omega arith, omega arith)

-- no fewer than any number that both allow
few-least : (m n : ℕ) → m ≤ n → m ≤ MOST-RECORDS → m ≤ few n
few-least m n h l = by-test (leb n MOST-RECORDS)
  where
    by-test : (b : Bool) → m ≤ cond b n MOST-RECORDS
    by-test true = h
    by-test false = l

-- columns 1 to 11 of a record, as the code takes them
pub first_field : (s : List ℕ) (i : ℕ) → columns_at (i * 81) 11 s ≡ field_at (block_at 81 s i) 0
first_field s i = sym (take-take 11 81 (drop (i * 81) s) (omega arith))

-- the search for ENDENTRY at its start
pub end-scan : (s : List ℕ) (n : ℕ) → n ≡ records_of s → Scan (named_at ENDENTRY s) (end_of s) 0 n
end-scan s n e = rw e (scan-all (records_of s))

-- ---- the names, as they are computed and plainly

module _ (k : ℕ) (h : k < OTHER) (s : List ℕ) (i : ℕ) where
  pub named-plain : named_at k s i ≡ true → RecordNamed k s i
  named-plain e =
      let f = field_at (block_at 81 s i) 0 in (name-exactly f k h).0 (eqb-true (identifier_of f) k e)

  pub plain-named : RecordNamed k s i → named_at k s i ≡ true
  plain-named p =
      let f = field_at (block_at 81 s i) 0 in eq-eqb (identifier_of f) k ((name-exactly f k h).1 p)

  not_plain : (RecordNamed k s i → ⊥) → named_at k s i ≡ false
  not_plain none = by-test (named_at k s i) refl
    where
      by-test : (b : Bool) → named_at k s i ≡ b → b ≡ false
      by-test true e = absurd (none (named-plain e))
      by-test false e = refl

-- ---- an entry begins with so many records

-- what is computed, by its tests
pub records-found : (s : List ℕ) → 0 < records_of s → named_at ENTRY s 0 ≡ true → end_of s < records_of s
    → entry_records s ≡ end_of s + 1
unfolding entry_records
records-found s a b c = rw (lt-ltb 0 (records_of s) a, b, lt-ltb (end_of s) (records_of s) c)

pub no-records : (s : List ℕ) → records_of s ≡ 0 → 0 ≡ entry_records s
unfolding entry_records
no-records s e = rw (le-ltb 0 (records_of s) (omega arith))

pub not_opened : (s : List ℕ) → 0 < records_of s → named_at ENTRY s 0 ≡ false → 0 ≡ entry_records s
unfolding entry_records
not_opened s a b = rw (lt-ltb 0 (records_of s) a, b)

pub not-ended : (s : List ℕ) → 0 < records_of s → named_at ENTRY s 0 ≡ true → records_of s ≤ end_of s → 0 ≡ entry_records s
unfolding entry_records
not-ended s a b c = rw (lt-ltb 0 (records_of s) a, b, le-ltb (end_of s) (records_of s) c)

-- the tests, by what is computed
pub record Found (s : List ℕ) (n : ℕ) : Type 0 where
  pub opens : named_at ENTRY s 0 ≡ true
  pub ends : end_of s < records_of s
  pub same : n ≡ end_of s + 1

pub found-records : (s : List ℕ) (n : ℕ) → entry_records s ≡ n → 0 < n → Found s n
unfolding entry_records
found-records s n e l = by_tests (ltb 0 (records_of s)) (named_at ENTRY s 0) refl (ltb (end_of s) (records_of s)) refl e
  where
    by_tests : (a b : Bool) → named_at ENTRY s 0 ≡ b → (c : Bool) → ltb (end_of s) (records_of s) ≡ c
        → cond a (cond b (cond c (end_of s + 1) 0) 0) 0 ≡ n → Found s n
    by_tests false b p c q h = absurd (omega arith)
    by_tests true false p c q h = absurd (omega arith)
    by_tests true true p false q h = absurd (omega arith)
    by_tests true true p true q h =
        record { opens = p; ends = ltb-true (end_of s) (records_of s) q; same = sym h }

pub begins-records : (s : List ℕ) (n : ℕ) → Begins s n → entry_records s ≡ n
begins-records s n b =
    let some = b.some in
    let there = b.there in
    let room : n ≤ records_of s = few-least n (length s / 81) (omega arith) b.most in
    let z : n - 1 + 1 ≡ n = omega arith in
    let end : end_of s ≡ n - 1 =
    first-is (named_at ENDENTRY s) 0 (records_of s) (n - 1) (omega arith) (omega arith)
    (plain-named ENDENTRY (omega arith) s (n - 1) (b.last (n - 1) z))
    (λ j p q. not_plain ENDENTRY (omega arith) s j (b.no_other j (omega arith))) in
    records-found s (omega arith) (plain-named ENTRY (omega arith) s 0 b.first) (omega arith) ∙ rw end z

pub records-begins : (s : List ℕ) (n : ℕ) → entry_records s ≡ n → 0 < n → Begins s n
records-begins s n e l =
    let f = found-records s n e l in
    let ends = f.ends in
    let same = f.same in
    let upto = few-upto (length s / 81) in
    record {
      some = l;
      most = let u = upto.1 in omega arith;
      there = let u = upto.0 in omega arith;
      first = named-plain ENTRY (omega arith) s 0 f.opens;
      last = λ i h.
          let z : end_of s ≡ i = omega arith in
          named-plain ENDENTRY (omega arith) s i
          (rw z at (first_holds (named_at ENDENTRY s) 0 (records_of s) (omega arith)));
      no_other = λ i h p.
          differ (sym (plain-named ENDENTRY (omega arith) s i p)
          ∙ first-before (named_at ENDENTRY s) 0 (records_of s) i (omega arith) (omega arith) (omega arith));
    }

-- they are there
pub records-there : (s : List ℕ) → entry_records s * 81 ≤ length s
records-there s = by_number (entry_records s) refl
  where
    by_number : (n : ℕ) → entry_records s ≡ n → n * 81 ≤ length s
    by_number zero e = omega arith
    by_number (suc n) e = (records-begins s (suc n) e (omega arith)).there

-- Demand 3 of the mission: the theorems that specs/Demand.antt states.
-- Assumes nothing.
use Prim.Native.Nat.{ℕ, ◌+◌, ◌*◌, ◌/◌, ◌%◌, ◌<◌}
use mathlib.Core.Path.{◌≡◌, refl, sym, ◌∙◌, ap}
use mathlib.Core.Logic.{◌↔◌}
use mathlib.Core.Bool.{Bool, true, false}
use mathlib.Core.List.{List, []}
use native.Mathlib.Omega.{arith}
use lib.ListN.{length, drop, get_or, length-drop, get_or-eq_default}
use lib.Seq.{length-take-le, get_or-take, get_or-drop, ext_get_or}
use Rattle.laws.specs.Walk.{walk, Goes}
use Rattle.laws.specs.Blocks.{blocks, joined, block_at}
use Rattle.laws.specs.Copies.{copies, marks, Alikes}
use Rattle.paper_copy.specs.Replaced.{Each, FieldsAlike}
use Rattle.laws.proofs.Walk.{all-at}
use Rattle.laws.proofs.Search.{either}
use Rattle.laws.proofs.Blocks.{length-blocks, block-at}
use Rattle.paper_copy.proofs.Replaced.{each_at}
use Rattle.laws.proofs.Copies.{length-marks, marks-each, marks-hold, copies-walk, copies-twice, alike-copies}
use Rattle.laws.proofs.Copies.{copies-alike, rows-copied, length-copied, alikes-at, at-alikes}
use Rattle.paper_number.specs.declared.types.Decimal.{Decimal}
use Rattle.paper_number.specs.declared.types.Reading.{Reading}
use Rattle.paper_number.specs.declared.types.Reading.TheVariants.{Blank, Number, Refused}
use Rattle.paper_number.specs.Form.{form_of}
use Rattle.paper_number.specs.Reading.{read_field}
use Rattle.paper_record.specs.Fields.{field_at}
use Rattle.paper_record.specs.Numbers.{no_value}
use Rattle.paper_rules.specs.State.{Context, start_context}
use Rattle.paper_entry.specs.Judging.{turn_of, end_of, judge_of, Accepted}
use Rattle.paper_entry.specs.Verdict.{length_good}
use Rattle.paper_copy.specs.Copy.{mask_of, copy_record, records_in, number_field, field_in, copy_of}
use Rattle.paper_copy.specs.Demand.{AlikeField, in_number, SameNumbers, CopyAccepted, CopyAgain, OneCopy}
use Rattle.paper_entry.proofs.Lengths.{whole-records, accepted-good}
use Rattle.entry_walk.proofs.AcceptedWalk.{accepted-goes}
use Rattle.paper_copy.proofs.CanonicalFields.{Fit, alike-byte, alike-reads, bytes-alike}
use Rattle.paper_copy.proofs.FaithfulRecords.{length-mask-of, fits, faithful}

-- ---- an accepted entry: whole records, and every turn goes on

pub record Passed (s : List ℕ) : Type 0 where
  pub good : length_good (length s) ≡ true
  pub whole : length s ≡ length s / 81 * 81
  pub last : Context
  pub goes : Goes turn_of start_context 0 (records_in s) last

pub passed : (s : List ℕ) → Accepted s → Passed s
passed s f =
    let good = accepted-good s f in
    let (z, g) = accepted-goes s f in
    record { good = good; whole = (whole-records (length s) good).0; last = z; goes = g }

-- ---- the copy

abbrev copies_of : ℕ → List ℕ → List (List ℕ)
copies_of n s = copies turn_of copy_record start_context 0 (blocks 81 n s)

copy_at : (n : ℕ) (s : List ℕ) → length s / 81 ≡ n → copy_of s ≡ joined (copies_of n s)
unfolding copy_of
copy_at n s e = rw e

pub copy-long : (s : List ℕ) → Passed s → length (copy_of s) ≡ length s
unfolding copy_of
copy-long s p = length-copied faithful start_context 81 (length s / 81) s p.whole p.last p.goes

-- its records are the copies of the records
pub copy-records : (s : List ℕ) → Passed s → records_in (copy_of s) ≡ copies_of (length s / 81) s
copy-records s p =
    rw (copy-long s p, copy_at (length s / 81) s refl)
    (rows-copied faithful start_context 81 (length s / 81) s p.whole p.last p.goes)

-- "is accepted", with the same totals
pub copy-accepted : CopyAccepted
copy-accepted s f = same (passed s f)
  where
    walks : Passed s → walk turn_of end_of start_context 0 (records_in (copy_of s))
        ≡ walk turn_of end_of start_context 0 (records_in s)
    walks p = rw (copy-records s p) (copies-walk faithful end_of start_context 0 (records_in s) p.last p.goes)

    same : Passed s → judge_of (copy_of s) ≡ judge_of s
    same p = let w = walks p in let e = copy-long s p in unfold judge_of in (rw (w, e))

-- "and is its own copy"
pub copy-again : CopyAgain
copy-again s f = same (passed s f)
  where
    same : Passed s → copy_of (copy_of s) ≡ copy_of s
    same p =
        let twice = copies-twice faithful start_context 0 (records_in s) p.last p.goes in
        let at = copy_at (length s / 81) s refl in
        let long : length (copy_of s) / 81 ≡ length s / 81 = rw (copy-long s p) in
        copy_at (length s / 81) (copy_of s) long
        ∙ ap (λ (rs : List (List ℕ)). joined (copies turn_of copy_record start_context 0 rs))
        (rw long at (copy-records s p))
        ∙ ap joined twice
        ∙ sym at

-- ---- number fields of an entry

abbrev masks : ℕ → List ℕ → List (List Bool)
masks n s = marks turn_of mask_of start_context 0 (blocks 81 n s)

-- a byte of the entry is one of its record
pub byte-of : (s : List ℕ) (p : ℕ) → get_or (block_at 81 s (p / 81)) (p % 81) 0 ≡ get_or s p 0
byte-of s p =
    let e : p / 81 * 81 + p % 81 ≡ p = omega arith in
    get_or-take 81 (drop (p / 81 * 81) s) (p % 81) 0 (omega arith)
    ∙ get_or-drop (p / 81 * 81) s (p % 81) 0
    ∙ ap (λ (k : ℕ). get_or s k 0) e

false-true : {X : Type 0} (b : Bool) → b ≡ false → b ≡ true → X
false-true b p q = let z : ◌≡◌ {A = ℕ} 0 1 = cc in absurd (omega arith)

-- a number field stands in a record of the entry, and among its six fields
field_row : (ms : List (List Bool)) (i k : ℕ) → get_or (get_or ms i []) k false ≡ true → i < length ms
field_row ms i k e =
    either i (length ms) (λ l. l)
    (λ l. false-true (get_or (get_or ms i []) k false) (rw (get_or-eq_default ms [] l) refl) e)

field-column : (m : List Bool) (k : ℕ) → get_or m k false ≡ true → k < length m
field-column m k e =
    either k (length m) (λ l. l) (λ l. false-true (get_or m k false) (get_or-eq_default m false l) e)

masks-all : (s : List ℕ) (p : Passed s) → length (masks (length s / 81) s) ≡ length s / 81
masks-all s p =
    length-marks turn_of mask_of start_context 0 (records_in s) p.last p.goes ∙ length-blocks 81 (length s / 81) s

-- each is blank or a number
pub number-reads : (s : List ℕ) → Passed s → (i k : ℕ) → number_field s i k ≡ true
    → no_value true (form_of (read_field (field_in s i k))) ≡ false
unfolding number_field
number-reads s p i k e =
    let n = length s / 81 in
    let row : i < n = rw (masks-all s p) at (field_row (masks n s) i k e) in
    let column = field-column (get_or (masks n s) i []) k e in
    let fit : Each Fit (get_or (masks n s) i []) (get_or (blocks 81 n s) i []) =
    alikes-at (λ m r t. Each Fit m r) [] [] (masks n s) (blocks 81 n s) (blocks 81 n s)
    (marks-hold turn_of mask_of (Each Fit) fits start_context 0 (blocks 81 n s) p.last p.goes) i
    (rw (masks-all s p) row) in
    let here : Fit (get_or (get_or (masks n s) i []) k false) (field_at (block_at 81 s i) k) =
    each_at Fit false (get_or (masks n s) i []) (block_at 81 s i) (rw (block-at 81 n s i row) at fit) k column in
    here.good e

-- ---- the same numbers, field by field

pub record SameFields (s t : List ℕ) : Type 0 where
  pub long : length s ≡ length t
  pub fields : (i k : ℕ) → number_field s i k ≡ number_field t i k
  pub outside : (p : ℕ) → p < length s → in_number s p ≡ false → get_or s p 0 ≡ get_or t p 0
  pub inside : (i k : ℕ) → number_field s i k ≡ true → AlikeField true (field_in s i k) (field_in t i k)

-- "blanks in the same ones, and equal decimals in the rest" say together that each reads alike
numbers-fields : (s t : List ℕ) → SameFields s t → SameNumbers s t
numbers-fields s t h =
    record {
      long = h.long;
      fields = h.fields;
      outside = h.outside;
      blanks = λ i k e. (λ b. sym (h.inside i k e) ∙ b, λ b. h.inside i k e ∙ b);
      decimals = λ i k e v w a b. same (sym a ∙ h.inside i k e ∙ b);
    }
  where
    same : {v w : Decimal} → Number v ≡ Number w → v ≡ w
    same e = cc

read_alike : (x y : Reading) → no_value true (form_of x) ≡ false → no_value true (form_of y) ≡ false
    → (x ≡ Blank → y ≡ Blank) → (y ≡ Blank → x ≡ Blank)
    → ((v w : Decimal) → x ≡ Number v → y ≡ Number w → v ≡ w) → x ≡ y
read_alike Blank y p q a b d = sym (a refl)
read_alike (Number v) Blank p q a b d = b refl
read_alike (Number v) (Number w) p q a b d = ap Number (d v w refl refl)
read_alike (Number v) (Refused n) p q a b d = let z : ◌≡◌ {A = ℕ} 0 1 = cc in absurd (omega arith)
read_alike (Refused n) y p q a b d = let z : ◌≡◌ {A = ℕ} 0 1 = cc in absurd (omega arith)

fields-numbers : (s t : List ℕ) → Passed s → Passed t → SameNumbers s t → SameFields s t
fields-numbers s t p q h =
    record {
      long = h.long;
      fields = h.fields;
      outside = h.outside;
      inside = λ i k e.
          read_alike (read_field (field_in s i k)) (read_field (field_in t i k)) (number-reads s p i k e)
          (number-reads t q i k (sym (h.fields i k) ∙ e)) (h.blanks i k e).0 (h.blanks i k e).1
          (h.decimals i k e);
    }

-- alike records are the same fields
module _ (n : ℕ) (s t : List ℕ) (long : length s ≡ length t) (whole : length s ≡ n * 81)
    (all : length (masks n s) ≡ n) (same : masks n s ≡ masks n t)
    (a : Alikes (FieldsAlike AlikeField) (masks n s) (blocks 81 n s) (blocks 81 n t)) where
  row-alike : (i : ℕ) → i < n → FieldsAlike AlikeField (get_or (masks n s) i []) (block_at 81 s i) (block_at 81 t i)
  row-alike i l =
      rw (block-at 81 n s i l, block-at 81 n t i l) at
      (alikes-at (FieldsAlike AlikeField) [] [] (masks n s) (blocks 81 n s) (blocks 81 n t) a i (rw all l))

  fields-of-alike : length s / 81 ≡ n → length t / 81 ≡ n → SameFields s t
  unfolding number_field
  fields-of-alike ns nt =
      record {
        long = long;
        fields = λ i k. rw (ns, nt, same);
        outside = λ p l e.
            sym (byte-of s p)
            ∙ alike-byte (get_or (masks n s) (p / 81) []) (block_at 81 s (p / 81)) (block_at 81 t (p / 81))
            (row-alike (p / 81) (omega arith)) (p % 81) (rw ns at e)
            ∙ byte-of t p;
        inside = λ i k e.
            let e2 : get_or (get_or (masks n s) i []) k false ≡ true = rw ns at e in
            alike-reads (get_or (masks n s) i []) (block_at 81 s i) (block_at 81 t i)
            (row-alike i (rw all at (field_row (masks n s) i k e2))) k (field-column (get_or (masks n s) i []) k e2) e2;
      }

-- and the same fields make alike records
module _ (n : ℕ) (s t : List ℕ) (whole-s : length s ≡ n * 81) (whole-t : length t ≡ n * 81)
    (ns : length s / 81 ≡ n) (nt : length t / 81 ≡ n)
    (all-s : length (masks n s) ≡ n) (all-t : length (masks n t) ≡ n) (h : SameFields s t) where
  mask-six : (u : List ℕ) → length (masks n u) ≡ n → (i : ℕ) → i < n → length (get_or (masks n u) i []) ≡ 6
  mask-six u all i l =
      all-at (λ (m : List Bool). length m ≡ 6) [] (masks n u)
      (marks-each turn_of mask_of (λ m. length m ≡ 6) length-mask-of start_context 0 (blocks 81 n u)) i (rw all l)

  opened : (i k : ℕ) → number_field s i k ≡ number_field t i k
      → get_or (get_or (masks n s) i []) k false ≡ get_or (get_or (masks n t) i []) k false
  unfolding number_field
  opened i k e = rw (ns, nt) at e

  masks-same : masks n s ≡ masks n t
  masks-same =
      ext_get_or [] (masks n s) (masks n t) (all-s ∙ sym all-t)
      (λ i l.
      let m : i < n = rw all-s at l in
      ext_get_or false (get_or (masks n s) i []) (get_or (masks n t) i []) (mask-six s all-s i m ∙ sym (mask-six t all-t i m))
      (λ k u. opened i k (h.fields i k)))

  outside_of : (p : ℕ) → p < length s → get_or (get_or (masks n s) (p / 81) []) (p % 81 / 11) false ≡ false
      → get_or s p 0 ≡ get_or t p 0
  unfolding number_field
  outside_of p l e = h.outside p l (rw ns e)

  inside_of : (i k : ℕ) → get_or (get_or (masks n s) i []) k false ≡ true → AlikeField true (field_in s i k) (field_in t i k)
  unfolding number_field
  inside_of i k e = h.inside i k (rw ns e)

  row-alike-of : (i : ℕ) → i < n → FieldsAlike AlikeField (get_or (masks n s) i []) (block_at 81 s i) (block_at 81 t i)
  row-alike-of i l =
      bytes-alike (get_or (masks n s) i []) (block_at 81 s i) (block_at 81 t i) 81
      (length-take-le 81 (drop (i * 81) s) (simp length-drop (omega arith)))
      (length-take-le 81 (drop (i * 81) t) (simp length-drop (omega arith)))
      (let z = mask-six s all-s i l in omega arith)
      (λ j b e.
      let pi : (i * 81 + j) / 81 ≡ i = omega arith in
      let pj : (i * 81 + j) % 81 ≡ j = omega arith in
      let here = outside_of (i * 81 + j) (omega arith) (rw (pi, pj) e) in
      (let x = byte-of s (i * 81 + j) in rw (pi, pj) at x) ∙ here
      ∙ sym (let x = byte-of t (i * 81 + j) in rw (pi, pj) at x))
      (inside_of i)

  rows_alike : Alikes (FieldsAlike AlikeField) (masks n s) (blocks 81 n s) (blocks 81 n t)
  rows_alike =
      at-alikes (FieldsAlike AlikeField) [] [] (masks n s) (blocks 81 n s) (blocks 81 n t)
      (length-blocks 81 n s ∙ sym all-s) (length-blocks 81 n t ∙ sym all-s)
      (λ i l. let m : i < n = rw all-s at l in rw (block-at 81 n s i m, block-at 81 n t i m) (row-alike-of i m))

module _ (s t : List ℕ) (p : Passed s) (q : Passed t) (long : length s ≡ length t) where
  tn : length t / 81 ≡ length s / 81
  tn = rw long

  whole-t : length t ≡ length s / 81 * 81
  whole-t = rw (← long) p.whole

  goes-t : Goes turn_of start_context 0 (blocks 81 (length s / 81) t) q.last
  goes-t = rw tn at q.goes

  masks-t : length (masks (length s / 81) t) ≡ length s / 81
  masks-t = rw tn at (masks-all t q)

  fields-of-one : copy_of s ≡ copy_of t → SameFields s t
  fields-of-one e =
      let n = length s / 81 in
      let e2 : joined (copies_of n s) ≡ joined (copies_of n t) = sym (copy_at n s refl) ∙ e ∙ copy_at n t tn in
      let rows : copies_of n s ≡ copies_of n t =
      sym (rows-copied faithful start_context 81 n s p.whole p.last p.goes)
      ∙ ap (blocks 81 n) e2
      ∙ rows-copied faithful start_context 81 n t whole-t q.last goes-t in
      let (m, a) = copies-alike faithful start_context 0 (blocks 81 n s) (blocks 81 n t) p.last q.last
      p.goes goes-t rows in
      fields-of-alike n s t long p.whole (masks-all s p) m a refl tn

  one-of-fields : SameFields s t → copy_of s ≡ copy_of t
  one-of-fields h =
      let n = length s / 81 in
      let m = masks-same n s t p.whole whole-t refl tn (masks-all s p) masks-t h in
      let a = rows_alike n s t p.whole whole-t refl tn (masks-all s p) masks-t h in
      let rows = alike-copies faithful start_context 0 (blocks 81 n s) (blocks 81 n t) p.last q.last
      p.goes goes-t m a in
      copy_at n s refl ∙ ap joined rows ∙ sym (copy_at n t tn)

-- "Two accepted entries have the same copy exactly when they have the same number fields, equal bytes outside them,
-- blanks in the same ones, and equal decimals in the rest."
pub one-fields : (s t : List ℕ) → Accepted s → Accepted t → (copy_of s ≡ copy_of t) ↔ SameFields s t
one-fields s t f g =
    let p = passed s f in
    let q = passed t g in (
      λ e. fields-of-one s t p q (sym (copy-long s p) ∙ ap length e ∙ copy-long t q) e,
      λ h. one-of-fields s t p q h.long h,
    )

pub one_copy : OneCopy
one_copy s t f g =
    let (to, from) = one-fields s t f g in
    (λ e. numbers-fields s t (to e), λ h. from (fields-numbers s t (passed s f) (passed t g) h))

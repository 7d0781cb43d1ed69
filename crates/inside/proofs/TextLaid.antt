-- The text records behind BIB in an accepted entry (document 01: "Sections end by these counts; then the END record
-- must stand there"): as many as the BIB record announces, each a text record of the same subentry. And the BIB record
-- that a row names is one of that subentry.
-- Assumes nothing.
use Prim.Native.Nat.{ℕ, zero, suc, ◌+◌, ◌-◌, ◌/◌, ◌<◌, ◌≤◌}
use mathlib.Core.Path.{◌≡◌, refl, sym, ◌∙◌}
use mathlib.Core.Bool.{Bool, true, false, cond}
use mathlib.Core.List.{List, []}
use native.Mathlib.Omega.{arith}
use lib.Dec.{eqb}
use lib.ListN.{length, get_or}
use borrow.Author.Tests.{eqb-true, eqb-false, ne_eqb, le-leb}
use Rattle.laws.specs.Turns.{go}
use Rattle.laws.specs.Blocks.{block_at}
use Rattle.laws.proofs.Search.{either}
use Rattle.laws.proofs.Booleans.{either-as}
use Rattle.paper_record.specs.Fields.{fields_of}
use Rattle.paper_record.specs.Identifier.{BIB, OTHER, identifier_of}
use Rattle.paper_record.specs.Word.{blank_to}
use Rattle.paper_record.specs.declared.types.RecordNo.{RecordNo}
use Rattle.paper_rules.specs.declared.types.Phase.{Phase}
use Rattle.paper_rules.specs.declared.types.Phase.TheVariants.{InBib}
use Rattle.paper_rules.specs.declared.types.Track.{Track}
use Rattle.paper_rules.specs.State.{Context}
use Rattle.paper_rules.specs.Limits.{MOST-RECORDS}
use Rattle.paper_rules.specs.Counts.{count_n2}
use Rattle.paper_rules.specs.Roles.{TEXT, NOT-DUE, is_value}
use Rattle.paper_rules.specs.Role.{bib_role, role_in}
use Rattle.paper_rules.proofs.DueRecords.{fine-due}
use Rattle.paper_entry.specs.Due.{phase_after}
use Rattle.paper_entry.specs.Tally.{text_read}
use Rattle.paper_entry.specs.Counted.{after_system, after_inside, track_after}
use Rattle.paper_entry.specs.Next.{context_after}
use Rattle.paper_entry.specs.Judging.{role_of, turn_of, Accepted}
use Rattle.paper_entry.specs.Verdict.{is_done}
use Rattle.entry_walk.proofs.GoingOn.{go-fine}
use Rattle.paper_entry.proofs.Lengths.{whole-records, accepted-good}
use Rattle.paper_entry.specs.Contexts.{behind, context_at, role_at}
use Rattle.entry_walk.proofs.Contexts.{records-at}
use Rattle.paper_questions.specs.declared.types.Row.{Row}
use Rattle.paper_questions.specs.Located.{noted_as, row_at, row_of}
use Rattle.paper_questions.specs.Passage.{text_records}
use Rattle.paper_questions.proofs.RowChanges.{Section, bib, common, table, opener, named, section-stays, section-set}
use Rattle.paper_questions.proofs.FoundRow.{found-row}
use Rattle.inside.specs.Inside.{TextOf}
use Rattle.entry_walk.proofs.AcceptedWalk.{walked}
use Rattle.inside.proofs.RowWalked.{number-of, row_next}
use Rattle.inside.proofs.RowFound.{Opening, row-fields}

-- ---- one record

-- the context before the text record m, of so many in the BIB of the subentry n
pub record InTexts (n records m : ℕ) (c : Context) : Type 0 where
  pub phase : c.phase ≡ InBib
  pub subentry : c.track.subentry.number ≡ n
  pub announced : c.track.bib.records ≡ records
  pub before : c.track.section ≡ m

opened-bib : (c : Context) (fs : List (List ℕ)) (r : List ℕ)
    → InTexts c.track.subentry.number (count_n2 fs) 0 (context_after c BIB fs r)
unfolding context_after phase_after track_after after_system
opened-bib c fs r = record { phase = refl; subentry = refl; announced = refl; before = refl }

text-behind : (c : Context) (fs : List (List ℕ)) (r : List ℕ)
    → InTexts c.track.subentry.number c.track.bib.records (c.track.section + 1) (context_after c TEXT fs r)
unfolding context_after phase_after track_after after_inside text_read
text-behind c fs r =
    either-as P (blank_to 10 (get_or fs 0 [])) _ _
    (λ e. record { phase = refl; subentry = refl; announced = refl; before = refl })
    (λ e. record { phase = refl; subentry = refl; announced = refl; before = refl })
  where
    P : Track → Type 0
    P t =
        InTexts c.track.subentry.number c.track.bib.records (c.track.section + 1)
        (record { phase = InBib; track = t; seen = (context_after c TEXT fs r).seen })

text-due : (c : Context) (k : ℕ) → c.phase ≡ InBib → eqb c.track.section c.track.bib.records ≡ false
    → role_in c.phase c.track k ≡ cond (eqb k OTHER) TEXT NOT-DUE
unfolding role_in bib_role
text-due c k p e = rw (p, e)

module _ (n records m : ℕ) (c : Context) (l : InTexts n records m c) (i : ℕ) (r : List ℕ) (d : Context)
    (goes : turn_of c i r ≡ go d) (more : m < records) where
  text-role : role_of c r ≡ TEXT
  text-role =
      let k = identifier_of (get_or (fields_of r) 0 []) in
      let e : eqb c.track.section c.track.bib.records ≡ false =
      ne_eqb c.track.section c.track.bib.records (λ e. omega (arith, l.before, l.announced)) in
      by-test (eqb k OTHER) (text-due c k l.phase e)
    where
      by-test : (t : Bool) → role_of c r ≡ cond t TEXT NOT-DUE → role_of c r ≡ TEXT
      by-test true e = e
      by-test false e = absurd (fine-due c.track c.seen (role_of c r) (fields_of r) r (go-fine c i r d goes).0 e)

  text-next : InTexts n records (suc m) d
  text-next =
      let e : behind c r ≡ d = (go-fine c i r d goes).1 in
      let b = text-behind c (fields_of r) r in
      let z : InTexts c.track.subentry.number c.track.bib.records (c.track.section + 1) d =
      rw (← e, text-role) b in
      record {
        phase = z.phase;
        subentry = z.subentry ∙ l.subentry;
        announced = z.announced ∙ l.announced;
        before = z.before ∙ omega (arith, l.before);
      }

-- ---- the records behind BIB

pub no_value : {s : List ℕ} {n i : ℕ} → TextOf s n i → is_value (role_at s i) ≡ false
no_value x = rw x.role

not_done : (p : Phase) → p ≡ InBib → is_done p ≡ true → ⊥
not_done p e d = let z : ◌≡◌ {A = ℕ} 0 1 = (let f = rw e at d in cc) in omega arith

-- the text records that the record with the index a announces
abbrev pub texts_of : List ℕ → ℕ → ℕ
texts_of s a = count_n2 (fields_of (block_at 81 s a))

module _ (s : List ℕ) (accepted : Accepted s) (n a : ℕ) (o : Opening s n bib a) where
  abbrev N2 : ℕ
  N2 = texts_of s a

  first-text : InTexts n N2 0 (context_at s (suc a))
  unfolding context_at
  first-text =
      let b = opened-bib (context_at s a) (fields_of (block_at 81 s a)) (block_at 81 s a) in
      rw o.role
      (record { phase = b.phase; subentry = b.subentry ∙ o.subentry; announced = b.announced; before = b.before })

  -- inside BIB the entry does not end
  not_last : (i m : ℕ) → i ≤ length s / 81 → InTexts n N2 m (context_at s i) → i < length s / 81
  not_last i m h l =
      either i (length s / 81) (λ x. x)
      (λ x.
      let e : i ≡ length s / 81 = omega arith in
      absurd (not_done (context_at s (length s / 81)).phase (rw e at l.phase) (walked s accepted).done))

  texts : (m : ℕ) → m ≤ N2 → (suc a + m < length s / 81) × InTexts n N2 m (context_at s (suc a + m))
  texts zero h =
      let e : suc a + 0 ≡ suc a = omega arith in
      rw e (not_last (suc a) 0 (omega (arith, o.there)) first-text, first-text)
  texts (suc m) h =
      let (x, y) = texts m (omega arith) in
      let i = suc a + m in
      let e : suc a + suc m ≡ suc i = omega arith in
      let z =
      text-next n N2 m (context_at s i) y i (block_at 81 s i) (context_at s (suc i)) ((walked s accepted).turns i x)
      (omega arith) in
      rw e (not_last (suc i) (suc m) (omega arith) z, z)

  -- they are all there, and one record more
  pub texts-there : suc a + N2 < length s / 81
  texts-there = (texts N2 (omega arith)).0

  -- how the walk stands before each
  pub texts-stand : (m : ℕ) → m ≤ N2 → InTexts n N2 m (context_at s (suc a + m))
  texts-stand m h = (texts m h).1

  -- THE TEXT RECORDS: the record m behind BIB
  pub text-laid : (m : ℕ) → m < N2 → TextOf s n (suc a + m)
  text-laid m h =
      let (x, y) = texts m (omega arith) in
      let i = suc a + m in
      record {
        there = x;
        role = text-role n N2 m (context_at s i) y i (block_at 81 s i) (context_at s (suc i))
            ((walked s accepted).turns i x) h;
        subentry = y.subentry;
      }

-- the text records of the section, by the row of the subentry, are those that its own record announces
pub texts-number : (s : List ℕ) (accepted : Accepted s) (n a : ℕ) → Opening s n bib a
    → text_records s (row_of s n).bib ≡ texts_of s a
unfolding text_records
texts-number s accepted n a o =
    let l = texts-there s accepted n a o in
    let few = (whole-records (length s) (accepted-good s accepted)).1 in
    rw (row-fields s accepted n bib a o, le-leb (texts_of s a) MOST-RECORDS (omega arith))

-- ---- the section's record that a row names

module _ (s : List ℕ) (n : ℕ) where
  -- it is none, or opens that section of that subentry
  abbrev Named : Section → ℕ → Type 0
  Named k at = (at ≡ 0 → ⊥) → Opening s n k (at - 1)

  named-next : (k : Section) (i : ℕ) → i < length s / 81 → Named k (named k (row_at s n i)).0
      → Named k (named k (row_at s n (suc i))).0
  named-next k i h before =
      rw (row_next s n i)
      (by_tests (eqb (role_at s i) (opener k)) refl (eqb c.track.subentry.number n) refl)
    where
      c : Context
      c = context_at s i

      fs : List (List ℕ)
      fs = fields_of (block_at 81 s i)

      x : Row
      x = row_at s n i

      y : Row
      y = noted_as c.track (role_at s i) fs x

      stays : (role_at s i ≡ opener k → c.track.subentry.number ≡ x.number → ⊥) → Named k (named k y).0
      stays other = rw (section-stays c.track (role_at s i) fs x k other) before

      by_tests : (p : Bool) → eqb (role_at s i) (opener k) ≡ p → (q : Bool) → eqb c.track.subentry.number n ≡ q
          → Named k (named k y).0
      by_tests false p q u = stays (λ e z. eqb-false (role_at s i) (opener k) p e)
      by_tests true p false u =
          stays (λ e z. eqb-false c.track.subentry.number n u (z ∙ number-of s n i))
      by_tests true p true u =
          let e = eqb-true (role_at s i) (opener k) p in
          let m = eqb-true c.track.subentry.number n u in
          let at = section-set c.track (role_at s i) fs x k e (m ∙ sym (number-of s n i)) in
          let z : c.track.records.0 + 1 - 1 ≡ i = omega (arith, records-at s i) in
          rw at (λ some. rw z (record { there = h; role = e; subentry = m }))

  none_yet : (k : Section) → Named k (named k (row_at s n 0)).0
  unfolding row_at
  none_yet bib = λ some. absurd (some refl)
  none_yet common = λ some. absurd (some refl)
  none_yet table = λ some. absurd (some refl)

  named-at : (k : Section) (i : ℕ) → i ≤ length s / 81 → Named k (named k (row_at s n i)).0
  named-at k zero h = none_yet k
  named-at k (suc i) h = named-next k i (omega arith) (named-at k i (omega arith))

  pub row-opening : Accepted s → (k : Section) → ((named k (row_of s n)).0 ≡ 0 → ⊥)
      → Opening s n k ((named k (row_of s n)).0 - 1)
  row-opening accepted k = rw (found-row s n accepted) (named-at k (length s / 81) (omega arith))

-- ---- by the row

module _ (s : List ℕ) (accepted : Accepted s) (n : ℕ) (some : (row_of s n).bib.0 ≡ 0 → ⊥) where
  abbrev at : RecordNo
  at = (row_of s n).bib

  pub row-bib : Opening s n bib (at.0 - 1)
  row-bib = row-opening s n accepted bib some

  pub row-announced : text_records s at ≡ texts_of s (at.0 - 1)
  row-announced = texts-number s accepted n (at.0 - 1) row-bib

  -- THE TEXT RECORDS, by the row of the subentry
  pub row-texts : (m : ℕ) → m < text_records s at → TextOf s n (at.0 + m)
  row-texts m h =
      let a = at.0 - 1 in
      let e : at.0 + m ≡ suc a + m = omega (arith, some) in
      rw e (text-laid s accepted n a row-bib m (rw row-announced at h))

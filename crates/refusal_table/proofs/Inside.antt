-- Where the judge stands before a record, inside BIB and inside tables: the record that opened the section, and how far
-- behind it. From one record without fault to the next.
-- Assumes nothing.
use Prim.Native.Nat.{ℕ, zero, suc, ◌+◌, ◌*◌, ◌<◌, ◌≤◌}
use mathlib.Core.Path.{◌≡◌, refl, sym, subst}
use mathlib.Core.Bool.{Bool, true, false, cond}
use mathlib.Core.List.{List}
use native.Mathlib.Omega.{arith}
use native.Mathlib.Nat.{zero-mul, suc-mul}
use borrow.Author.Tests.{eqb-true, ltb-false}
use lib.Dec.{eqb}
use Rattle.laws.specs.Turns.{go}
use Rattle.laws.specs.Blocks.{block_at}
use Rattle.laws.proofs.Search.{either}
use Rattle.laws.proofs.Booleans.{either-as}
use Rattle.paper_record.specs.Places.{records_for}
use Rattle.paper_record.specs.Identifier.{ENTRY, SUBENT, NOSUBENT, BIB, NOBIB, ENDBIB, COMMON, NOCOMMON, ENDCOMMON, DATA}
use Rattle.paper_record.specs.Identifier.{NODATA, ENDDATA, ENDSUBENT, ENDENTRY, OTHER, is_end}
use Rattle.paper_rules.specs.declared.types.Phase.{Phase}
use Rattle.paper_rules.specs.declared.types.Phase.TheVariants.{Start, Opened, InSubentry, InBib, AfterBib, InCommon}
use Rattle.paper_rules.specs.declared.types.Phase.TheVariants.{AfterCommon, InData, AfterData, Between, Done}
use Rattle.paper_rules.specs.declared.types.Track.{Track}
use Rattle.paper_rules.specs.State.{Context}
use Rattle.paper_rules.specs.Roles.{TEXT, NOT-DUE}
use Rattle.paper_rules.specs.Role.{all_read, only, either as either_of, bib_role, table_role, data_role, role_in}
use Rattle.laws.proofs.EitherWay.{either_way}
use Rattle.paper_rules.proofs.DueRecords.{fine-common, fine-data}
use Rattle.paper_entry.specs.Due.{phase_after}
use Rattle.paper_entry.specs.Next.{context_after}
use Rattle.paper_entry.specs.Judging.{turn_of}
use Rattle.paper_entry.specs.Contexts.{context_at, role_at}
use Rattle.entry_walk.proofs.GoingOn.{fine-go}
use Rattle.entry_walk.proofs.Laid.{phase_in, row_role, line_of, Laid, row-role, laid_on, laid-over}
use Rattle.entry_walk.proofs.TableLaid.{section_role, lines_of, opened-common, opened-data}
use Rattle.refusal_table.specs.KindOf.{fields_in, name_in, announced_n1, announced_n2}
use Rattle.refusal_table.proofs.InTexts.{FineAt, InTexts, context-as, bib-opened, text-met}

-- ---- counting

first-record : (n : ℕ) → 1 ≤ n → 0 < records_for n
first-record n h = omega arith

one-record : (n m : ℕ) → m * 6 + 6 < n → m + 1 < records_for n
one-record n m h = omega arith

last-record : (n m : ℕ) → m < records_for n → n ≤ m * 6 + 6 → records_for n ≡ m + 1
last-record n m h l = omega arith

first-place : (i k : ℕ) → suc i ≡ i + 1 + (0 * k + 0)
first-place i k = omega (arith, zero-mul k)

next_place : (i j a m : ℕ) → i ≡ j + 1 + (a + m) → suc i ≡ j + 1 + (a + (m + 1))
next_place i j a m e = omega arith

next_row : (i j q k m : ℕ) → i ≡ j + 1 + (q * k + m) → k ≡ m + 1 → suc i ≡ j + 1 + (suc q * k + 0)
next_row i j q k m e f = omega (arith, suc-mul q k)

as_many : (line last q lines : ℕ) → line ≤ last → line ≡ q → last ≡ lines → q ≤ lines
as_many line last q lines h e f = omega arith

-- ---- what holds before the record with the index i

-- inside a table: at the record m of the row q behind the record j
pub record InRows (s : List ℕ) (b : Bool) (i : ℕ) : Type 0 where
  pub j : ℕ
  pub q : ℕ
  pub m : ℕ
  pub number : ℕ
  pub opens : name_in s j ≡ section_role b
  pub of_row : m < records_for (announced_n1 s j)
  pub place : i ≡ j + 1 + (q * records_for (announced_n1 s j) + m)
  pub laid : Laid b number (announced_n1 s j) (lines_of b (fields_in s j)) q m (context_at s i)

abbrev pub Inside : List ℕ → ℕ → Phase → Type 0
Inside s i Start = Unit
Inside s i Opened = Unit
Inside s i InSubentry = Unit
Inside s i InBib = InTexts s i
Inside s i AfterBib = Unit
Inside s i InCommon = InRows s false i
Inside s i AfterCommon = Unit
Inside s i InData = InRows s true i
Inside s i AfterData = Unit
Inside s i Between = Unit
Inside s i Done = Unit

-- ---- tables

abbrev pub section_end : Bool → ℕ
section_end true = ENDDATA
section_end false = ENDCOMMON

-- behind the last line its END record is due
pub end-role : (b : Bool) (t : Track) (k : ℕ) → all_read t ≡ true → role_in (phase_in b) t k ≡ only (section_end b) k
unfolding role_in table_role
end-role true t k e = rw e
end-role false t k e = rw e

pub unread : (s : List ℕ) (b : Bool) (i : ℕ) (x : InRows s b i) → all_read (context_at s i).track ≡ false
    → line_of x.q ≤ lines_of b (fields_in s x.j)
unread s b i x e =
    as_many (context_at s i).track.table.line.0 (context_at s i).track.table.last.0 (line_of x.q)
    (lines_of b (fields_in s x.j))
    (ltb-false (context_at s i).track.table.last.0 (context_at s i).track.table.line.0 e)
    x.laid.line x.laid.last

-- ---- one record without fault

module _ (s : List ℕ) (i : ℕ) (fine : FineAt s i) where
  abbrev here : Context
  here = context_at s i

  abbrev name : ℕ
  name = name_in s i

  goes : turn_of (context_at s i) i (block_at 81 s i) ≡ go (context_at s (suc i))
  unfolding context_at
  goes = fine-go (context_at s i) i (block_at 81 s i) (role_at s i) refl fine

  common-opened : name ≡ COMMON → role_at s i ≡ COMMON → InRows s false (suc i)
  common-opened n e =
      let f = fine-common here.track here.seen (role_at s i) (fields_in s i) (block_at 81 s i) fine e in
      let l = opened-common here (fields_in s i) (block_at 81 s i) f.1 in
      record {
        j = i;
        q = 0;
        m = 0;
        number = here.track.subentry.number;
        opens = n;
        of_row = first-record (announced_n1 s i) f.0;
        place = first-place i (records_for (announced_n1 s i));
        laid = subst (λ (c : Context). Laid false here.track.subentry.number (announced_n1 s i) 1 0 0 c)
            (sym (context-as s i COMMON e)) l;
      }

  data-opened : name ≡ DATA → role_at s i ≡ DATA → InRows s true (suc i)
  data-opened n e =
      let f = fine-data here.track here.seen (role_at s i) (fields_in s i) (block_at 81 s i) fine e in
      let l = opened-data here (fields_in s i) (block_at 81 s i) f.0.1 f.1.1 in
      record {
        j = i;
        q = 0;
        m = 0;
        number = here.track.subentry.number;
        opens = n;
        of_row = first-record (announced_n1 s i) f.0.0;
        place = first-place i (records_for (announced_n1 s i));
        laid = subst
            (λ (c : Context). Laid true here.track.subentry.number (announced_n1 s i) (announced_n2 s i) 0 0 c)
            (sym (context-as s i DATA e)) l;
      }

  rows_next : (b : Bool) (x : InRows s b i) → line_of x.q ≤ lines_of b (fields_in s x.j) → InRows s b (suc i)
  rows_next b x more =
      let columns : ℕ = announced_n1 s x.j in
      let lines : ℕ = lines_of b (fields_in s x.j) in
      either (x.m * 6 + 6) (announced_n1 s x.j)
      (λ h.
      record {
        j = x.j;
        q = x.q;
        m = x.m + 1;
        number = x.number;
        opens = x.opens;
        of_row = one-record columns x.m h;
        place = next_place i x.j (x.q * records_for columns) x.m x.place;
        laid = laid_on b x.number columns lines x.q x.m here x.laid more i (block_at 81 s i)
            (context_at s (suc i)) goes h;
      })
      (λ h.
      record {
        j = x.j;
        q = suc x.q;
        m = 0;
        number = x.number;
        opens = x.opens;
        of_row = rw (last-record columns x.m x.of_row h) (omega arith);
        place = next_row i x.j x.q (records_for columns) x.m x.place
            (last-record columns x.m x.of_row h);
        laid = laid-over b x.number columns lines x.q x.m here x.laid more i (block_at 81 s i)
            (context_at s (suc i)) goes h;
      })

  -- ---- by the role that it has

  abbrev Next : ℕ → Type 0
  Next role = role_at s i ≡ role → Inside s (suc i) (phase_after role)

  not-due-next : Next NOT-DUE
  unfolding phase_after
  not-due-next e = tt

  only_next : (a : ℕ) → (name ≡ a → Next a) → Next (only a name)
  only_next a p = either-as Next (eqb name a) a NOT-DUE (λ e. p (eqb-true name a e)) (λ e. not-due-next)

  either-next : (a b : ℕ) → (name ≡ a → Next a) → (name ≡ b → Next b) → Next (either_of a b name)
  either-next a b p q =
      either-as Next (eqb name a) a (only b name) (λ e. p (eqb-true name a e)) (λ e. only_next b q)

  bib-next : InTexts s i → Next (bib_role here.track name)
  unfolding bib_role phase_after
  bib-next x =
      either-as Next (eqb here.track.section here.track.bib.records) (only ENDBIB name)
      (cond (eqb name OTHER) TEXT NOT-DUE) (λ e. only_next ENDBIB (λ n q. tt))
      (λ e. either-as Next (eqb name OTHER) TEXT NOT-DUE (λ f q. text-met s i fine x (eqb-true name OTHER f) e q)
      (λ f. not-due-next))

  end-next : (b : Bool) → Next (section_end b)
  unfolding phase_after
  end-next true e = tt
  end-next false e = tt

  inside-rows : (b : Bool) (q : ℕ) → InRows s b (suc i) → Inside s (suc i) (phase_after (row_role b q))
  unfolding phase_after
  inside-rows true zero x = x
  inside-rows true (suc zero) x = x
  inside-rows true (suc (suc l)) x = x
  inside-rows false zero x = x
  inside-rows false (suc zero) x = x
  inside-rows false (suc (suc l)) x = x

  table-next : (b : Bool) → InRows s b i → Next (role_in (phase_in b) here.track name)
  table-next b x = by-test (all_read here.track) refl
    where
      by-test : (t : Bool) → all_read here.track ≡ t → Next (role_in (phase_in b) here.track name)
      by-test true e =
          subst (λ (k : ℕ). Next k) (sym (end-role b here.track name e))
          (only_next (section_end b) (λ n. end-next b))
      by-test false e =
          subst (λ (k : ℕ). Next k) (sym (row-role b x.q here.track name e x.laid.row))
          (either_way Next (is_end name) NOT-DUE (row_role b x.q) not-due-next
          (λ h. inside-rows b x.q (rows_next b x (unread s b i x e))))

  next : (p : Phase) → Inside s i p → Next (role_in p here.track name)
  unfolding role_in data_role phase_after
  next Start x = only_next ENTRY (λ n e. tt)
  next Opened x = only_next SUBENT (λ n e. tt)
  next InSubentry x = either-next BIB NOBIB (bib-opened s i) (λ n e. tt)
  next InBib x = bib-next x
  next AfterBib x = either-next COMMON NOCOMMON common-opened (λ n e. tt)
  next InCommon x = table-next false x
  next AfterCommon x =
      either_way Next (eqb here.track.subentry.number 1) (only ENDSUBENT name) (either_of DATA NODATA name)
      (only_next ENDSUBENT (λ n e. tt)) (either-next DATA NODATA data-opened (λ n e. tt))
  next InData x = table-next true x
  next AfterData x = only_next ENDSUBENT (λ n e. tt)
  next Between x =
      either_way Next (eqb name SUBENT) SUBENT (either_of NOSUBENT ENDENTRY name) (λ e. tt)
      (either-next NOSUBENT ENDENTRY (λ n e. tt) (λ n e. tt))
  next Done x = not-due-next

-- ---- all records before

pub inside-at : (s : List ℕ) (i : ℕ) → ((j : ℕ) → j < i → FineAt s j) → Inside s i (context_at s i).phase
unfolding context_at context_after
inside-at s zero h = tt
inside-at s (suc i) h =
    next s i (h i (omega arith)) (context_at s i).phase (inside-at s i (λ j l. h j (omega arith))) refl

-- From a system record of an accepted entry to the next.
-- Assumes nothing.
use Prim.Native.Nat.{ℕ, zero, suc, ◌+◌, ◌*◌, ◌-◌, ◌/◌, ◌<◌, ◌≤◌}
use mathlib.Core.Path.{◌≡◌, refl, sym, ◌∙◌, ap}
use mathlib.Core.Bool.{Bool, true, false, cond, ◌||◌}
use mathlib.Core.List.{List, []}
use native.Mathlib.Omega.{arith}
use native.Mathlib.Nat.{suc-mul}
use native.Mathlib.Numerals.{add-one}
use borrow.Author.Tests.{eqb-true, eq-eqb, le-leb, lt-ltb}
use lib.Dec.{eqb}
use lib.ListN.{length, get_or}
use Rattle.laws.specs.Blocks.{block_at}
use Rattle.laws.proofs.Booleans.{or-either, or_left, or_right, or-other}
use Rattle.paper_record.specs.Places.{records_for}
use Rattle.paper_record.specs.Fields.{fields_of}
use Rattle.paper_record.specs.Identifier.{BIB, COMMON, DATA}
use Rattle.paper_record.specs.System.{up_to}
use Rattle.paper_rules.specs.declared.types.Phase.{Phase}
use Rattle.paper_rules.specs.declared.types.Phase.TheVariants.{InBib, InCommon, InData}
use Rattle.paper_rules.specs.State.{Context}
use Rattle.paper_rules.specs.Limits.{MOST-RECORDS, MOST-COLUMNS, MOST-LINES}
use Rattle.paper_rules.specs.Counts.{count_n1, count_n2}
use Rattle.paper_rules.specs.Roles.{NOT-DUE, opens_section}
use Rattle.paper_rules.proofs.DueRecords.{fine-due}
use Rattle.paper_entry.specs.Judging.{Accepted}
use Rattle.paper_entry.specs.Contexts.{context_at, role_at}
use Rattle.paper_entry.proofs.Lengths.{whole-records, accepted-good}
use Rattle.entry_walk.proofs.AcceptedWalk.{Walked, walked}
use Rattle.entry_walk.proofs.GoingOn.{go-fine}
use Rattle.entry_walk.proofs.Laid.{Laid, phase_in, line_of, laid-over}
use Rattle.entry_walk.proofs.TableLaid.{Opened, opened, section_role, lines_of, table-laid}
use Rattle.paper_questions.specs.Located.{row_at}
use Rattle.paper_index.specs.Rows.{opened_to}
use Rattle.paper_questions.proofs.RowChanges.{bib}
use Rattle.inside.proofs.Nesting.{rank, key}
use Rattle.inside.proofs.RowFound.{nested-at, Opening}
use Rattle.inside.proofs.TextLaid.{InTexts, texts-there, texts-stand, texts_of}
use Rattle.system_records.specs.Next.{table_records, records_inside, system_due, DueAt, identifier_in, next_system}
use Rattle.system_records.specs.Next.{NextSystem, SystemFollows}
use Rattle.system_records.proofs.Roles.{between_sections, between-due, Told, role-told}
use Rattle.system_records.proofs.Between.{rows_stay, opened-stay}

-- behind so many records of a section a system record is due, in the same subentry, and the rows are as they were
record Behind (s : List ℕ) (a e : ℕ) : Type 0 where
  next : DueAt s (a + e)
  hand : (context_at s (a + e)).track.subentry.number ≡ (context_at s a).track.subentry.number
  row : (number : ℕ) → row_at s number (a + e) ≡ row_at s number a
  opened : opened_to s (a + e) ≡ opened_to s a

texts-read : (c : Context) → c.phase ≡ InBib → c.track.section ≡ c.track.bib.records
    → system_due c.phase c.track ≡ true
unfolding system_due
texts-read c p e = rw (p, eq-eqb c.track.section c.track.bib.records e)

lines-read : (b : Bool) (c : Context) → c.phase ≡ phase_in b → c.track.table.last.0 < c.track.table.line.0
    → system_due c.phase c.track ≡ true
unfolding system_due
lines-read true c p l = rw (p, lt-ltb c.track.table.last.0 c.track.table.line.0 l)
lines-read false c p l = rw (p, lt-ltb c.track.table.last.0 c.track.table.line.0 l)

-- the last row of a table has its last line
last_line : (lines : ℕ) → 1 ≤ lines → line_of (suc lines) ≡ lines
last_line zero h = absurd (omega arith)
last_line (suc l) h = refl

-- the rank of a phase inside a section is twice that of the section
half_of : Bool → ℕ
half_of true = 3
half_of false = 2

table-rank : (b : Bool) → rank (phase_in b) ≡ 2 * half_of b
unfolding half_of
table-rank true = refl
table-rank false = refl

module _ (s : List ℕ) (accepted : Accepted s) where
  abbrev n : ℕ
  n = length s / 81

  w : Walked s n
  w = walked s accepted

  -- BIB
  behind-bib : (i : ℕ) → i < n → role_at s i ≡ BIB → Behind s (suc i) (texts_of s i)
  behind-bib i h e =
      let o : Opening s (context_at s i).track.subentry.number bib i =
      record { there = h; role = e; subentry = refl } in
      let m = texts_of s i in
      let z : suc i + 0 ≡ suc i = omega arith in
      let there = texts-there s accepted _ i o in
      let first = rw z at (texts-stand s accepted _ i o 0 (omega arith)) in
      let last = texts-stand s accepted _ i o m (omega arith) in
      let rank-first : rank (context_at s (suc i)).phase ≡ 2 * 1 = ap rank first.phase in
      let same : key (context_at s (suc i + m)) ≡ key (context_at s (suc i)) =
      rw (last.phase, last.subentry, first.phase, first.subentry) refl in
      record {
        next = record {
          there = omega arith;
          due = texts-read (context_at s (suc i + m)) last.phase (last.before ∙ sym last.announced);
        };
        hand = last.subentry ∙ sym first.subentry;
        row = λ number. rows_stay s n w (omega arith) (suc i) m 1 (omega arith) rank-first same number m (omega arith);
        opened = opened-stay s n w (omega arith) (suc i) m 1 (omega arith) rank-first same m (omega arith);
      }

  -- COMMON and DATA
  module _ (b : Bool) (i : ℕ) (h : i < n) (e : role_at s i ≡ section_role b) where
    o : Opened b s i
    o = opened b s n w i h e

    abbrev columns : ℕ
    columns = count_n1 (fields_of (block_at 81 s i))

    abbrev lines : ℕ
    lines = lines_of b (fields_of (block_at 81 s i))

    abbrev number : ℕ
    number = (context_at s i).track.subentry.number

    -- the record behind the last of the table
    past : (suc i + table_records columns lines ≤ n)
        × Laid b number columns lines (suc (suc lines)) 0 (context_at s (suc i + table_records columns lines))
    past =
        let k = records_for columns in
        let wide = o.columns-from in
        let some = o.lines_from in
        let m = k - 1 in
        let j = suc i + suc lines * k + m in
        let (x, (l, role)) =
        table-laid s n w b number columns lines (suc i) wide some (omega arith) o.laid (suc lines) m (omega arith)
        (omega arith) in
        let z : suc i + table_records columns lines ≡ suc j = omega (arith, suc-mul (suc lines) k) in
        rw z (
          omega arith,
          laid-over b number columns lines (suc lines) m (context_at s j) l (omega (arith, last_line lines some)) j (block_at 81 s j)
              (context_at s (suc j)) (w.turns j x) (omega arith),
        )

    behind-table : Behind s (suc i) (table_records columns lines)
    behind-table =
        let t = table_records columns lines in
        let first = o.laid in
        let (there, last) = past in
        let rank-first : rank (context_at s (suc i)).phase ≡ 2 * half_of b = ap rank first.phase ∙ table-rank b in
        let same : key (context_at s (suc i + t)) ≡ key (context_at s (suc i)) =
        rw (last.phase, last.subentry, first.phase, first.subentry) refl in
        record {
          next = record {
            there = there;
            due = lines-read b (context_at s (suc i + t)) last.phase (omega (arith, last.last, last.line));
          };
          hand = last.subentry ∙ sym first.subentry;
          row = λ number.
              rows_stay s n w (omega arith) (suc i) t (half_of b) there rank-first same number t (omega arith);
          opened = opened-stay s n w (omega arith) (suc i) t (half_of b) there rank-first same t (omega arith);
        }

  -- another record, behind which no section is open
  behind-none : (i : ℕ) → i < n → between_sections (context_at s (suc i)).phase ≡ true → Behind s (suc i) 0
  behind-none i h e =
      let z : suc i + 0 ≡ suc i = omega arith in
      record {
        next = rw z (record { there = omega arith; due = between-due _ _ e });
        hand = rw z;
        row = λ number. rw z;
        opened = rw z;
      }

-- how many records that are
inside-bib : (fs : List (List ℕ)) → count_n2 fs ≤ MOST-RECORDS → records_inside BIB fs ≡ count_n2 fs
unfolding records_inside
inside-bib fs h =
    let e : records_inside BIB fs ≡ up_to MOST-RECORDS (count_n2 fs) = refl in
    e ∙ rw (le-leb (count_n2 fs) MOST-RECORDS h)

inside-table : (b : Bool) (fs : List (List ℕ)) → count_n1 fs ≤ MOST-COLUMNS → lines_of b fs ≤ MOST-LINES
    → records_inside (section_role b) fs ≡ table_records (count_n1 fs) (lines_of b fs)
unfolding records_inside
inside-table true fs h l = rw (le-leb (count_n1 fs) MOST-COLUMNS h, le-leb (count_n2 fs) MOST-LINES l)
inside-table false fs h l = rw (le-leb (count_n1 fs) MOST-COLUMNS h)

inside-none : (k : ℕ) (fs : List (List ℕ)) → opens_section k ≡ false → records_inside k fs ≡ 0
unfolding records_inside
inside-none k fs e =
    let f = or_right (eqb k BIB) _ e in
    rw (or_left (eqb k BIB) _ e, or_left (eqb k COMMON) _ f, or_right (eqb k COMMON) _ f)

module _ (s : List ℕ) (accepted : Accepted s) (i : ℕ) (h : i < length s / 81) (d : DueAt s i) where
  abbrev role : ℕ
  role = role_at s i

  abbrev fs : List (List ℕ)
  fs = fields_of (block_at 81 s i)

  told : (role ≡ identifier_in s i) × ((opens_section role || between_sections (context_at s (suc i)).phase) ≡ true)
  told =
      let c = context_at s i in
      let r = block_at 81 s i in
      let w = walked s accepted in
      let fine = go-fine c i r (context_at s (suc i)) (w.turns i h) in
      let behind = (nested-at s (length s / 81) w (omega arith) i h).behind in
      rw behind
      (role-told (identifier_in s i) c.phase c.track d.due (fine-due c.track c.seen role fs r fine.0))

  made : (e : ℕ) → records_inside role fs ≡ e → Behind s (suc i) e → NextSystem s i
  made e q b =
      let k : records_inside (identifier_in s i) fs ≡ e = rw told.0 at q in
      record {
        role = told.0;
        next = rw (k, add-one i) b.next;
        hand = rw (k, add-one i) b.hand;
        row = λ number. rw (k, add-one i) (b.row number);
        opened = rw (k, add-one i) b.opened;
      }

  of-table : (b : Bool) → role ≡ section_role b → NextSystem s i
  of-table b e =
      let o = opened b s (length s / 81) (walked s accepted) i h e in
      made (table_records (count_n1 fs) (lines_of b fs)) (rw e (inside-table b fs o.columns-to o.lines-to))
      (behind-table s accepted b i h e)

  of_bib : role ≡ BIB → NextSystem s i
  of_bib e =
      let b = behind-bib s accepted i h e in
      let there = b.next.there in
      let few = (whole-records (length s) (accepted-good s accepted)).1 in
      made (count_n2 fs) (rw e (inside-bib fs (omega arith))) b

  of_other : opens_section role ≡ false → NextSystem s i
  of_other e =
      made 0 (inside-none role fs e) (behind-none s accepted i h (or-other (opens_section role) _ told.1 e))

  pub follows : NextSystem s i
  follows = by-test (opens_section role) refl
    where
      by-test : (b : Bool) → opens_section role ≡ b → NextSystem s i
      by-test true e =
          or-either (eqb role BIB) _ e (λ q. of_bib (eqb-true role BIB q))
          (λ q.
          or-either (eqb role COMMON) _ q (λ q. of-table false (eqb-true role COMMON q))
          (λ q. of-table true (eqb-true role DATA q)))
      by-test false e = of_other e

pub system-follows : SystemFollows
system-follows s accepted i h d = follows s accepted i h d

-- A value record to which judging comes stands in a line, and the heading over each of its fields is its column's.
-- Assumes nothing.
use Prim.Native.Nat.{ℕ, zero, suc, ◌+◌, ◌-◌, ◌*◌, ◌/◌, ◌<◌, ◌≤◌}
use mathlib.Core.Path.{◌≡◌, refl, sym, ap, subst}
use mathlib.Core.Bool.{Bool, true, false, cond}
use mathlib.Core.List.{List}
use native.Mathlib.Omega.{arith}
use borrow.Author.Tests.{ne_eqb}
use lib.Dec.{eqb}
use Rattle.paper_record.specs.Places.{records_for}
use Rattle.paper_record.specs.Identifier.{ENTRY, SUBENT, NOSUBENT, BIB, NOBIB, ENDBIB, COMMON, NOCOMMON, DATA, NODATA}
use Rattle.paper_record.specs.Identifier.{ENDSUBENT, ENDENTRY, OTHER, is_end}
use Rattle.paper_rules.specs.declared.types.Phase.{Phase}
use Rattle.paper_rules.specs.declared.types.Phase.TheVariants.{Start, Opened, InSubentry, InBib, AfterBib, InCommon}
use Rattle.paper_rules.specs.declared.types.Phase.TheVariants.{AfterCommon, InData, AfterData, Between, Done}
use Rattle.paper_rules.specs.declared.types.Track.{Track}
use Rattle.paper_rules.specs.Roles.{TEXT, COMMON-VALUE, DATA-VALUE, NOT-DUE, is_value}
use Rattle.paper_rules.specs.Role.{all_read, only, either as either_of, bib_role, data_role, role_in}
use Rattle.laws.proofs.EitherWay.{either_way, no}
use Rattle.paper_rules.specs.Flags.{column_over}
use Rattle.rules_plain.specs.Places.{cell}
use Rattle.paper_entry.specs.Contexts.{context_at}
use Rattle.entry_walk.proofs.Laid.{phase_in, row_role, line_of, row-role}
use Rattle.entry_walk.proofs.TableLaid.{section_role, lines_of}
use Rattle.refusal_table.specs.KindOf.{fields_in, name_in, announced_n1}
use Rattle.refusal_table.specs.FlagFaults.{InLine, of_common, of_data, OverFields}
use Rattle.refusal_table.proofs.Inside.{InRows, Inside, section_end, end-role, unread, inside-at}
use Rattle.refusal_table.proofs.KindAt.{fine-at}

-- so many columns stand before the record m of a row
columns-before : (columns rest n m k : ℕ) → columns ≡ n → rest ≡ n - m * 6 → m < records_for n
    → (columns - rest) / 6 * 6 + k ≡ m * 6 + k
columns-before columns rest n m k a b l = omega arith

module _ (s : List ℕ) (i : ℕ) where
  abbrev name : ℕ
  name = name_in s i

  abbrev track : Track
  track = (context_at s i).track

  record LineAt : Type 0 where
    m : ℕ
    in_line : InLine s i m
    over : (k : ℕ) → column_over (context_at s i).track k ≡ m * 6 + k

  abbrev Line : ℕ → Type 0
  Line role = is_value role ≡ true → LineAt

  -- ---- no system record, no text record

  not-due-line : Line NOT-DUE
  not-due-line e = no e

  system-line : (a : ℕ) → a < OTHER → Line a
  system-line a h e =
      let c : eqb a COMMON-VALUE ≡ false = ne_eqb a COMMON-VALUE (λ z. omega arith) in
      let d : eqb a DATA-VALUE ≡ false = ne_eqb a DATA-VALUE (λ z. omega arith) in
      no (rw (c, d) at e)

  only-line : (a : ℕ) → a < OTHER → Line (only a name)
  only-line a h = either_way Line (eqb name a) a NOT-DUE (system-line a h) not-due-line

  either-line : (a b : ℕ) → a < OTHER → b < OTHER → Line (either_of a b name)
  either-line a b h g = either_way Line (eqb name a) a (only b name) (system-line a h) (only-line b g)

  bib-line : Line (bib_role track name)
  unfolding bib_role
  bib-line =
      either_way Line (eqb track.section track.bib.records) (only ENDBIB name)
      (cond (eqb name OTHER) TEXT NOT-DUE) (only-line ENDBIB (omega arith))
      (either_way Line (eqb name OTHER) TEXT NOT-DUE (λ e. no e) not-due-line)

  -- ---- tables

  over-fields-in : (b : Bool) (x : InRows s b i) (k : ℕ) → column_over track k ≡ x.m * 6 + k
  over-fields-in b x k =
      columns-before track.table.columns track.table.rest (announced_n1 s x.j) x.m k x.laid.kept
      x.laid.rest x.of_row

  row_line : (b : Bool) (j q m : ℕ) → name_in s j ≡ section_role b → m < records_for (announced_n1 s j)
      → i ≡ j + 1 + (q * records_for (announced_n1 s j) + m) → line_of q ≤ lines_of b (fields_in s j)
      → ((k : ℕ) → column_over track k ≡ m * 6 + k) → Line (row_role b q)
  row_line true j zero m o h p l over e = no e
  row_line true j (suc zero) m o h p l over e = no e
  row_line true j (suc (suc n)) m o h p l over e =
      record {
        m = m;
        in_line = of_data j (suc n) (omega arith) l (record { opens = o; m = m; of_row = h; place = p }) refl;
        over = over;
      }
  row_line false j zero m o h p l over e = no e
  row_line false j (suc zero) m o h p l over e = no e
  row_line false j (suc (suc zero)) m o h p l over e =
      record {
        m = m;
        in_line = of_common j (record { opens = o; m = m; of_row = h; place = p }) refl;
        over = over;
      }
  row_line false j (suc (suc (suc n))) m o h p l over e =
      let z : suc (suc n) ≤ 1 = l in
      absurd (omega arith)

  end_line : (b : Bool) → Line (only (section_end b) name)
  end_line true = only-line (section_end true) (omega arith)
  end_line false = only-line (section_end false) (omega arith)

  table-line : (b : Bool) → InRows s b i → Line (role_in (phase_in b) track name)
  table-line b x = by-test (all_read track) refl
    where
      by-test : (t : Bool) → all_read track ≡ t → Line (role_in (phase_in b) track name)
      by-test true e = subst (λ (k : ℕ). Line k) (sym (end-role b track name e)) (end_line b)
      by-test false e =
          subst (λ (k : ℕ). Line k) (sym (row-role b x.q track name e x.laid.row))
          (either_way Line (is_end name) NOT-DUE (row_role b x.q) not-due-line
          (row_line b x.j x.q x.m x.opens x.of_row x.place (unread s b i x e) (over-fields-in b x)))

  -- ---- by the phase

  line-in : (p : Phase) → Inside s i p → Line (role_in p track name)
  unfolding role_in data_role
  line-in Start x = only-line ENTRY (omega arith)
  line-in Opened x = only-line SUBENT (omega arith)
  line-in InSubentry x = either-line BIB NOBIB (omega arith) (omega arith)
  line-in InBib x = bib-line
  line-in AfterBib x = either-line COMMON NOCOMMON (omega arith) (omega arith)
  line-in InCommon x = table-line false x
  line-in AfterCommon x =
      either_way Line (eqb track.subentry.number 1) (only ENDSUBENT name) (either_of DATA NODATA name)
      (only-line ENDSUBENT (omega arith)) (either-line DATA NODATA (omega arith) (omega arith))
  line-in InData x = table-line true x
  line-in AfterData x = only-line ENDSUBENT (omega arith)
  line-in Between x =
      either_way Line (eqb name SUBENT) SUBENT (either_of NOSUBENT ENDENTRY name) (system-line SUBENT (omega arith))
      (either-line NOSUBENT ENDENTRY (omega arith) (omega arith))
  line-in Done x = not-due-line

pub over_fields : OverFields
over_fields s i none value =
    let x = line-in s i (context_at s i).phase (inside-at s i (λ j l. fine-at s j (none j l))) value in
    (x.m, x.in_line, λ b k. ap (cell b.table) (x.over k))

-- What both kinds of subentry are made of: the lengths and headings of their parts, the records that are due, the
-- context between subentries, SUBENT and ENDSUBENT around the rest. Assumes nothing.
use Prim.Native.Nat.{ℕ, ◌<◌}
use mathlib.Core.Path.{◌≡◌, refl, ◌∙◌}
use mathlib.Core.Bool.{Bool, true, false}
use mathlib.Core.List.{List, [], ◌∷◌, ◌++◌}
use native.Mathlib.Omega.{arith}
use lib.ListN.{length}
use borrow.Author.Tests.{eq-eqb, ne_eqb}
use Rattle.laws.proofs.Listing.{all_left}
use Rattle.laws.specs.Walk.{All}
use Rattle.laws.specs.Blocks.{joined}
use Rattle.laws.specs.Members.{list_of}
use Rattle.paper_record.specs.Fields.{fields_of, n1}
use Rattle.paper_record.specs.Identifier.{ENDSUBENT}
use Rattle.paper_record.specs.Expected.{identification_for}
use Rattle.paper_rules.specs.declared.types.Phase.TheVariants.{AfterBib, AfterCommon, AfterData, Between}
use Rattle.paper_rules.specs.State.{Context}
use Rattle.paper_rules.specs.Role.{only, role_in, data_role, either as one_of}
use Rattle.paper_entry.specs.Judging.{role_of}
use Rattle.rules_plain.specs.Places.{concat, cell, Long}
use Rattle.good.specs.Parts.{Record, Bib, Table, Section, present, absent, texts_of, rows_of, bib_records}
use Rattle.good.specs.Parts.{table_records}
use Rattle.good.specs.Marks.{Following, name_of}
use Rattle.good.specs.Bib.{texts_of_part}
use Rattle.good.specs.Tables.{headings_of, Heading, GoodTable, columns_of, headings_of_part}
use Rattle.good.specs.Subentries.{own_number, Encloses}
use Rattle.good.proofs.Steps.{Takes}
use Rattle.good.proofs.Runs.{role-at}
use Rattle.good.proofs.Moves.{Moved}
use Rattle.good.proofs.Marks.{says-as}
use Rattle.good.proofs.TableKinds.{open_for, no_for, GoodPart}
use Rattle.good.proofs.TableWalked.{heading_rows, columns_in}
use Rattle.good.proofs.Together.{Shown, shown}
use Rattle.good.proofs.Openings.{takes-endsubent, endsubent-takes}

-- ---- lengths and headings of parts

pub texts-long : (part : Section Bib) → All Long (bib_records part) → All Long (texts_of_part part)
texts-long (present b) a = all_left Long (texts_of b.keywords) (b.ending ∷ []) a.1
texts-long (absent r) a = tt

pub rows_long : (part : Section Table) → All Long (table_records part) → All Long (heading_rows part)
rows_long (present t) a =
    all_left Long t.headings (t.units ++ concat t.lines) (all_left Long (rows_of t) (t.ending ∷ []) a.1)
rows_long (absent r) a = tt

table-shown : (t : Table) → GoodTable t → Shown t.headings (columns_of t)
table-shown t g =
    let l = g.headings.records in
    record { fits = omega arith; unused = g.headings.unused }

good-table : (d : Bool) (t : Table) → GoodPart d (present t) → GoodTable t
good-table false t g = g.table
good-table true t g = g.table

pub part-shown : (d : Bool) (part : Section Table) → GoodPart d part → Shown (heading_rows part) (columns_in part)
part-shown d (present t) g = table-shown t (good-table d t g)
part-shown d (absent r) g = record { fits = omega arith; unused = λ c a b. absurd (omega arith) }

pub part-words : (d : Bool) (part : Section Table) → GoodPart d part → (x : ℕ) → x < columns_in part
    → Heading (cell (heading_rows part) x)
part-words d (present t) g x l = (good-table d t g).headings.used x l
part-words d (absent r) g x l = absurd (omega arith)

pub part-headings : (part : Section Table) → headings_of_part part ≡ shown (heading_rows part) (columns_in part)
unfolding headings_of list_of
part-headings (present t) = refl
part-headings (absent r) = refl

pub none-shown : Shown [] 0
none-shown = record { fits = omega arith; unused = λ c a b. absurd (omega arith) }

-- ---- roles

pub common-due : (c : Context) → c.phase ≡ AfterBib → (r : Record)
    → role_of c r ≡ one_of (open_for false) (no_for false) (name_of r)
unfolding role_in
common-due c e r = role-at c AfterBib r e

pub data-due : (c : Context) → c.phase ≡ AfterCommon → (c.track.subentry.number ≡ 1 → ⊥)
    → (r : Record) → role_of c r ≡ one_of (open_for true) (no_for true) (name_of r)
unfolding role_in data_role
data-due c e n r = role-at c AfterCommon r e ∙ rw (ne_eqb c.track.subentry.number 1 n)

pub end-due-first : (c : Context) → c.phase ≡ AfterCommon → c.track.subentry.number ≡ 1
    → (r : Record) → role_of c r ≡ only ENDSUBENT (name_of r)
unfolding role_in data_role
end-due-first c e n r = role-at c AfterCommon r e ∙ rw (eq-eqb c.track.subentry.number 1 n)

pub end-due : (c : Context) → c.phase ≡ AfterData → (r : Record) → role_of c r ≡ only ENDSUBENT (name_of r)
unfolding role_in
end-due c e r = role-at c AfterData r e

-- ---- between subentries

pub record Standing (c : Context) (accession : List ℕ) (number subentries keywords lines numbers : ℕ)
    (texts rows : List Record) : Type 0 where
  pub phase : c.phase ≡ Between
  pub accession-is : c.track.accession ≡ accession
  pub number_is : c.track.subentry.number ≡ number
  pub subentries-are : c.track.totals.subentries ≡ subentries
  pub keywords-are : c.track.totals.keywords ≡ keywords
  pub lines_are : c.track.totals.lines ≡ lines
  pub numbers-are : c.track.totals.numbers ≡ numbers
  pub bib001 : c.seen.bib001 ≡ joined texts
  pub common001 : c.seen.common001 ≡ joined rows

-- ---- SUBENT, what stands between, ENDSUBENT

pub encloses-of : (c e : Context) (accession : List ℕ) (opening ending : Record) (body : List Record) (k l m : ℕ)
    → c.track.accession ≡ accession → c.track.subentry.number ≡ own_number opening → c.track.subentry.records ≡ 0
    → Moved c e (length body) k l m → Following (identification_for accession (own_number opening)) 2 body
    → name_of ending ≡ ENDSUBENT → Takes e ENDSUBENT ending → Encloses accession opening body ending
encloses-of c e accession opening ending body k l m a n z mv f named t =
    let (mark, count) = takes-endsubent e ending t in
    let x = mv.records in
    record {
      between = f;
      named = named;
      counted = says-as (n1 (fields_of ending)) e.track.subentry.records (length body) count (omega arith);
      marked = rw (mv.accession, mv.number, a, n) at mark;
    }

pub of-encloses : (c e : Context) (accession : List ℕ) (opening ending : Record) (body : List Record) (k l m : ℕ)
    → c.track.accession ≡ accession → c.track.subentry.number ≡ own_number opening → c.track.subentry.records ≡ 0
    → Moved c e (length body) k l m → Encloses accession opening body ending → Takes e ENDSUBENT ending
of-encloses c e accession opening ending body k l m a n z mv g =
    let x = mv.records in
    endsubent-takes e ending (rw (mv.accession, mv.number, a, n) g.marked)
    (says-as (n1 (fields_of ending)) (length body) e.track.subentry.records g.counted (omega arith))

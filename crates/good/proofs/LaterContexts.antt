-- A later subentry: the contexts before and behind it, and what its COMMON and DATA look back at. Here `first` is 001.
-- Assumes nothing.
use Prim.Native.Nat.{ℕ, ◌+◌, ◌<◌}
use mathlib.Core.Path.{◌≡◌, sym, ◌∙◌}
use mathlib.Core.Bool.{true, false}
use mathlib.Core.List.{List, ◌++◌}
use native.Mathlib.Omega.{arith}
use lib.Dec.{eqb}
use borrow.Author.Tests.{ne_eqb}
use Rattle.laws.proofs.Listing.{all_left, all_right}
use Rattle.laws.specs.Walk.{All}
use Rattle.laws.specs.Blocks.{joined}
use Rattle.laws.specs.Members.{any_of}
use Rattle.paper_record.specs.Text.{is_blank}
use Rattle.paper_record.specs.Identifier.{SUBENT, ENDSUBENT}
use Rattle.paper_record.specs.Expected.{identification_for}
use Rattle.paper_rules.specs.State.{Context}
use Rattle.paper_rules.specs.Pointers.{pointers_for as pointers_seen}
use Rattle.rules_plain.specs.Places.{pointers_in, pointers_on, Long}
use Rattle.good.specs.Parts.{Record, Bib, Table, Section, bib_records, table_records, Subentry001, Later}
use Rattle.good.specs.Parts.{body_of_first}
use Rattle.good.specs.Bib.{texts_of_part}
use Rattle.good.specs.Tables.{headings_of_part}
use Rattle.good.specs.Subentries.{own_number, HeadingsFit, GoodFirst}
use Rattle.good.specs.Totals.{keywords_in, lines_in, numbers_of}
use Rattle.good.proofs.Steps.{next}
use Rattle.good.proofs.Marks.{following-long}
use Rattle.good.proofs.Earlier.{Fits}
use Rattle.good.proofs.TableKinds.{GoodPart}
use Rattle.good.proofs.TableContexts.{PartsKnown}
use Rattle.good.proofs.TableWalked.{heading_rows, columns_in, after_table, BehindTable}
use Rattle.good.proofs.Together.{Shown, fits_all, all-fits, pointers-same}
use Rattle.good.proofs.Openings.{after-opening, after-endsubent}
use Rattle.good.proofs.Subentries.{texts-long, rows_long, part-shown, part-words, part-headings, Standing}
use Rattle.good.proofs.SubentryHeads.{Begun, begun-by, after_head, Head}

pub record FirstKnown (accession : List ℕ) (first : Subentry001) : Type 0 where
  pub good : GoodFirst accession first
  pub long-texts : All Long (texts_of_part first.bib)
  pub long-rows : All Long (heading_rows first.common)

pub first-known : (accession : List ℕ) (first : Subentry001) → GoodFirst accession first → FirstKnown accession first
first-known accession first g =
    let f = following-long (identification_for accession (own_number first.opening)) 2 (body_of_first first)
    g.encloses.between in
    record {
      good = g;
      long-texts = texts-long first.bib (all_left Long (bib_records first.bib) (table_records first.common) f);
      long-rows = rows_long first.common (all_right Long (bib_records first.bib) (table_records first.common) f);
    }

abbrev pub StandsBehind : Context → List ℕ → Subentry001 → ℕ → ℕ → ℕ → ℕ → ℕ → Type 0
StandsBehind c accession first number subentries keywords lines numbers =
    Standing c accession number subentries keywords lines numbers (texts_of_part first.bib)
    (heading_rows first.common)

abbrev pub headed_by : Context → Later → Context
headed_by c s = after_head (next c SUBENT s.opening) s.bib s.common

unfoldable pub after_later : Context → Later → Context
after_later c s = next (after_table true (headed_by c s) s.values) ENDSUBENT s.ending

pub begun-later : (c : Context) (accession : List ℕ) (first : Subentry001) (number m k l n : ℕ) (r : Record)
    → StandsBehind c accession first number m k l n → All Long (heading_rows first.common)
    → Begun (next c SUBENT r) accession (own_number r) (heading_rows first.common)
begun-later c accession first number m k l n r g long =
    begun-by c accession (heading_rows first.common) r g.accession-is g.common001 long

-- Behind a later subentry the judge stands as it stood before it: of 001 it still has the BIB and the heading records,
-- since ENDSUBENT keeps these only where the number is 1, and each total has grown by what the subentry counts.
pub stands-later : (c : Context) (accession : List ℕ) (first : Subentry001) (number m k l n : ℕ) (s : Later)
    → StandsBehind c accession first number m k l n → (own_number s.opening ≡ 1 → ⊥)
    → Head (next c SUBENT s.opening) s.bib s.common
    → BehindTable (headed_by c s) (after_table true (headed_by c s) s.values) true s.values
    → StandsBehind (after_later c s) accession first (own_number s.opening) (m + 1) (k + keywords_in s.bib)
    (l + lines_in s.values) (n + (numbers_of s.common + numbers_of s.values))
unfolding after_later
stands-later c accession first number m k l n s g ne h t =
    let o = after-opening false c s.opening in
    let c4 = after_table true (headed_by c s) s.values in
    let e = after-endsubent c4 s.ending in
    let v = h.moved in
    let w = t.moved in
    let q : c4.track.subentry.number ≡ own_number s.opening = w.number ∙ v.number ∙ o.number in
    let z = ne_eqb c4.track.subentry.number 1 (λ x. ne (sym q ∙ x)) in
    record {
      phase = e.phase;
      accession-is = e.accession ∙ w.accession ∙ v.accession ∙ o.accession ∙ g.accession-is;
      number_is = e.number ∙ q;
      subentries-are = five e.subentries w.subentries v.subentries o.subentries g.subentries-are;
      keywords-are = (let x1 = e.keywords in let x2 = w.keywords in let x3 = v.keywords in let x4 = o.keywords in
          let x5 = g.keywords-are in omega arith);
      lines_are = (let x1 = e.lines in let x2 = w.lines in let x3 = v.lines in let x4 = o.lines in
          let x5 = g.lines_are in omega arith);
      numbers-are = (let x1 = e.numbers in let x2 = w.numbers in let x3 = v.numbers in let x4 = o.numbers in
          let x5 = g.numbers-are in omega arith);
      bib001 = e.bib001 ∙ rw z (w.bib001 ∙ v.bib001 ∙ o.bib001 ∙ g.bib001);
      common001 = e.common001 ∙ rw z (w.common001 ∙ v.common001 ∙ o.common001 ∙ g.common001);
    }
  where
    five : {a b d e f : ℕ} → a ≡ b → b ≡ d → d ≡ e → e ≡ f + 1 → f ≡ m → a ≡ m + 1
    five p q r s t = omega arith

-- the BIB of 001 is still there behind SUBENT
pub first-kept : (c : Context) (accession : List ℕ) (first : Subentry001) (number m k l n : ℕ) (r : Record)
    → StandsBehind c accession first number m k l n
    → (next c SUBENT r).seen.bib001 ≡ joined (texts_of_part first.bib)
first-kept c accession first number m k l n r g = (after-opening false c r).bib001 ∙ g.bib001

-- what DATA looks back at
abbrev pub pointers_behind : Subentry001 → Section Bib → Section Table → List ℕ
pointers_behind first bib common =
    pointers_seen (joined (texts_of_part bib)) (joined (texts_of_part first.bib)) (joined (heading_rows common))
    (joined (heading_rows first.common))

pub data-known : (c : Context) (accession : List ℕ) (first : Subentry001) (number m k l n : ℕ) (r : Record)
    (bib : Section Bib)
    (common : Section Table) → StandsBehind c accession first number m k l n → FirstKnown accession first
    → All Long (heading_rows common) → Head (next c SUBENT r) bib common
    → PartsKnown (heading_rows first.common) (heading_rows common) (pointers_behind first bib common)
    (after_head (next c SUBENT r) bib common)
data-known c accession first number m k l n r bib common g f long h =
    let o = after-opening false c r in
    let v = h.moved in
    let a : (after_head (next c SUBENT r) bib common).seen.bib001 ≡ joined (texts_of_part first.bib) =
    v.bib001 ∙ first-kept c accession first number m k l n r g in
    let b : (after_head (next c SUBENT r) bib common).seen.common001 ≡ joined (heading_rows first.common) =
    v.common001 ∙ o.common001 ∙ g.common001 in
    record {
      first_part = b;
      common-part = h.common-part;
      long-first = f.long-rows;
      long-common = long;
      named = rw (h.bib-part, a, h.common-part, b);
    }

-- a pointer found by the judge occurs, and the other way round
pub occurs-same : (first : Subentry001) (bib : Section Bib) (common : Section Table) → All Long (texts_of_part bib)
    → All Long (texts_of_part first.bib) → All Long (heading_rows common) → All Long (heading_rows first.common)
    → Shown (heading_rows common) (columns_in common) → Shown (heading_rows first.common) (columns_in first.common)
    → (p : ℕ) → is_blank p ≡ false
    → any_of (eqb p) (pointers_behind first bib common)
    ≡ any_of (eqb p) (pointers_in (texts_of_part bib) ++ (pointers_in (texts_of_part first.bib)
    ++ (pointers_on (headings_of_part common) ++ pointers_on (headings_of_part first.common))))
occurs-same first bib common a b c d s t p h =
    rw (part-headings common, part-headings first.common)
    (pointers-same (texts_of_part bib) (texts_of_part first.bib) (heading_rows common) (heading_rows first.common)
    (columns_in common) (columns_in first.common) p a b c d s t h)

-- The headings of DATA behind those of 001's COMMON and of this subentry's: the judge looks at the heading records, the
-- definition at the headings.
abbrev DataFits : Subentry001 → Section Table → Section Table → Type 0
DataFits first common values =
    (x : ℕ) → x < columns_in values
    → Fits true (heading_rows first.common) (heading_rows common) (heading_rows values) x

pub data-fit : (first : Subentry001) (common values : Section Table) → GoodPart false first.common
    → GoodPart false common → DataFits first common values
    → HeadingsFit true (headings_of_part first.common ++ headings_of_part common) (headings_of_part values)
data-fit first common values g h fits =
    rw (part-headings first.common, part-headings common, part-headings values)
    (fits_all true (heading_rows first.common) (heading_rows common) (heading_rows values) (columns_in first.common)
    (columns_in common) (columns_in values) (part-shown false first.common g) (part-shown false common h) fits)

pub fit-data : (first : Subentry001) (common values : Section Table) → GoodPart false first.common
    → GoodPart false common → GoodPart true values
    → HeadingsFit true (headings_of_part first.common ++ headings_of_part common) (headings_of_part values)
    → DataFits first common values
fit-data first common values f g v h =
    all-fits true (heading_rows first.common) (heading_rows common) (heading_rows values) (columns_in first.common)
    (columns_in common) (columns_in values) (part-shown false first.common f) (part-shown false common g)
    (part-words true values v)
    (rw (part-headings first.common, part-headings common, part-headings values) at h)

-- The sections of a later subentry are reached: behind 001 and the subentries before it (`reach-later`), its SUBENT,
-- its BIB and, for DATA, its COMMON.
-- Assumes nothing.
use Prim.Native.Nat.{ℕ, ◌+◌}
use mathlib.Core.Path.{◌≡◌, refl, sym, ◌∙◌, ap}
use mathlib.Core.Bool.{false}
use mathlib.Core.List.{List, [], ◌∷◌, ◌++◌, append_assoc, append-nil}
use native.Mathlib.Omega.{arith}
use Rattle.paper_record.specs.Identifier.{ENTRY, SUBENT, BIB, NOBIB, COMMON, NOCOMMON, DATA, NODATA}
use Rattle.paper_record.specs.Expected.{accession_of}
use Rattle.paper_rules.specs.State.{Context, start_context}
use Rattle.good.specs.Parts.{Record, Bib, Table, present, bib_records, table_records, rows_of, Later, Subentry, subent}
use Rattle.good.specs.Parts.{Entry, first_records, later_records, subentries_records, records_of, texts_of}
use Rattle.good.specs.Marks.{name_of}
use Rattle.good.specs.Bib.{GoodBib}
use Rattle.good.specs.Tables.{GoodCommon, GoodData}
use Rattle.good.specs.Subentries.{own_number}
use Rattle.good.specs.Totals.{keywords_in, numbers_of}
use Rattle.good.specs.Good.{GoodEntry}
use Rattle.good.proofs.Steps.{next, Passes, next-pass, pass-nothing}
use Rattle.good.proofs.Runs.{only-role, either_left}
use Rattle.good.proofs.BibContexts.{after_bib, bib-role}
use Rattle.good.proofs.Openings.{opens-takes, number-later, entry-takes}
use Rattle.good.proofs.FirstSubentry.{after_first, first-stands, first-pass-on}
use Rattle.good.proofs.LaterContexts.{FirstKnown, first-known, headed_by}
use Rattle.good.proofs.Later.{later-head}
use Rattle.good.proofs.AllLater.{next-due, next-subent}
use Rattle.good.proofs.Entries.{ready, entry-due}
use Rattle.good.proofs.Subentries.{common-due, data-due}
use Rattle.good.proofs.SubentryHeads.{HeadGood, Head, good-head, head-pass}
use Rattle.good.proofs.TableWalked.{heading_rows, columns_in}
use Rattle.answered_tables.proofs.BeforeLater.{Before, reach-later}
use Rattle.answered_tables.proofs.Reached.{Reached, BibReached, to-common}

-- ---- its records among those of the entry

records-cons : (s : Subentry) (ss : List Subentry) → subentries_records (s ∷ ss) ≡ later_records s ++ subentries_records ss
unfolding subentries_records
records-cons s ss = refl

records-append : (xs ys : List Subentry) → subentries_records (xs ++ ys) ≡ subentries_records xs ++ subentries_records ys
unfolding subentries_records
records-append [] ys = refl
records-append (x ∷ xs) ys =
    ap (λ (rs : List Record). later_records x ++ rs) (records-append xs ys)
    ∙ sym (append_assoc (later_records x) (subentries_records xs) (subentries_records ys))

bib-split : (o : Record) (first before : List Record) (r u : Record) (texts : List Record) (v : Record)
    (tables : List Record) (w : Record) (after : List Record) (z : Record)
    → o ∷ (first
    ++ ((before ++ ((r ∷ (((u ∷ (texts ++ (v ∷ []))) ++ tables) ++ (w ∷ []))) ++ after)) ++ (z ∷ [])))
    ≡ (o ∷ (first ++ (before ++ (r ∷ [])))) ++ (u ∷ (texts ++ (v ∷ (tables ++ (w ∷ (after ++ (z ∷ [])))))))
bib-split o first before r u texts v tables w after z = simp append_assoc

common-split : (o : Record) (first before : List Record) (r : Record) (bib : List Record) (u : Record)
    (rows : List Record) (v : Record) (values : List Record) (w : Record) (after : List Record) (z : Record)
    → o ∷ (first
    ++ ((before ++ ((r ∷ ((bib ++ ((u ∷ (rows ++ (v ∷ []))) ++ values)) ++ (w ∷ []))) ++ after)) ++ (z ∷ [])))
    ≡ (o ∷ (first ++ (before ++ (r ∷ (bib ++ []))))) ++ (u ∷ (rows ++ (v ∷ (values ++ (w ∷ (after ++ (z ∷ [])))))))
common-split o first before r bib u rows v values w after z = simp (append_assoc, append-nil)

data-split : (o : Record) (first before : List Record) (r : Record) (bib common : List Record) (u : Record)
    (rows : List Record) (v w : Record) (after : List Record) (z : Record)
    → o ∷ (first
    ++ ((before ++ ((r ∷ ((bib ++ (common ++ (u ∷ (rows ++ (v ∷ []))))) ++ (w ∷ []))) ++ after)) ++ (z ∷ [])))
    ≡ (o ∷ (first ++ (before ++ (r ∷ (bib ++ (common ++ [])))))) ++ (u ∷ (rows ++ (v ∷ (w ∷ (after ++ (z ∷ []))))))
data-split o first before r bib common u rows v w after z = simp (append_assoc, append-nil)

-- ---- its sections

module _ (e : Entry) (good : GoodEntry e) (before after : List Subentry) (s : Later)
    (among : e.later ≡ before ++ (subent s ∷ after)) where
  abbrev accession : List ℕ
  accession = accession_of e.opening

  abbrev c0 : Context
  c0 = next start_context ENTRY e.opening

  known : FirstKnown accession e.first
  known = first-known accession e.first good.first

  w : Before (after_first c0 e.first) accession e.first before s
  w =
      reach-later before after s (after_first c0 e.first) accession e.first 1 1 (keywords_in e.first.bib) 0
      (numbers_of e.first.common) (first-stands c0 accession e.first (ready e.opening) good.first) known
      (omega arith) (omega arith) (rw among at good.later) (rw among at good.rising)

  abbrev d : Context
  d = w.here

  hg : HeadGood (next d SUBENT s.opening) accession (own_number s.opening) (heading_rows e.first.common)
      (columns_in e.first.common) s.bib s.common (table_records s.values)
  hg = later-head d accession e.first w.number w.m w.k w.l w.n s w.stands known w.good

  h : Head (next d SUBENT s.opening) s.bib s.common
  h =
      good-head (next d SUBENT s.opening) accession (own_number s.opening) (heading_rows e.first.common)
      (columns_in e.first.common) s.bib s.common (table_records s.values) hg

  own : (headed_by d s).track.subentry.number ≡ own_number s.opening
  own = h.moved.number ∙ hg.begun.number_is

  entered : (rest : List Record) (z : Context) → Passes (next d SUBENT s.opening) rest z
      → Passes start_context
      (e.opening ∷ (first_records e.first ++ (subentries_records before ++ (s.opening ∷ rest)))) z
  entered rest z p =
      let q0 = w.stands.subentries-are in
      let q1 = w.stands.number_is in
      let x = w.above in
      let y = w.one in
      let v = w.some in
      next-pass start_context ENTRY e.opening _ z
      (entry-due e.opening ∙ only-role ENTRY (name_of e.opening) good.opening.named)
      (entry-takes start_context e.opening good.opening)
      (first-pass-on c0 accession e.first _ z (ready e.opening) good.first
      (w.on _ z
      (next-pass d SUBENT s.opening rest z
      (next-due d w.stands.phase s.opening ∙ next-subent (name_of s.opening) w.good.opens.named)
      (opens-takes false d s.opening accession w.stands.accession-is w.good.opens
      (number-later d (own_number s.opening) (omega arith) (omega arith) w.most)) p)))

  split-of : records_of e
      ≡ e.opening ∷ (first_records e.first
      ++ ((subentries_records before ++ (later_records (subent s) ++ subentries_records after)) ++ (e.ending ∷ [])))
  split-of = rw (among, records-append before (subent s ∷ after), records-cons (subent s) after)

  -- its BIB
  module _ (b : Bib) (there : s.bib ≡ present b) where
    pub bib-good : GoodBib b
    bib-good = rw there at w.good.bib

    pub bib-reached : BibReached e (own_number s.opening) b
    bib-reached =
        let c = next d SUBENT s.opening in
        record {
          before = e.opening ∷ (first_records e.first ++ (subentries_records before ++ (s.opening ∷ [])));
          behind = b.ending ∷ ((table_records s.common ++ table_records s.values)
              ++ (s.ending ∷ (subentries_records after ++ (e.ending ∷ []))));
          split = split-of ∙ rw there
              (bib-split e.opening (first_records e.first) (subentries_records before) s.opening b.opening
              (texts_of b.keywords) b.ending (table_records s.common ++ table_records s.values) s.ending
              (subentries_records after) e.ending);
          here = c;
          passes = entered [] c (pass-nothing c);
          due = bib-role c b.opening hg.begun.phase
              ∙ either_left BIB NOBIB (name_of b.opening) bib-good.opens;
          number = hg.begun.number_is;
        }

  -- its DATA
  module _ (t : Table) (there : s.values ≡ present t) where
    pub data-good : GoodData t
    data-good = rw there at w.good.values

    pub data-reached : Reached e (own_number s.opening) DATA t
    data-reached =
        record {
          before = e.opening ∷ (first_records e.first
              ++ (subentries_records before
              ++ (s.opening ∷ (bib_records s.bib ++ (table_records s.common ++ [])))));
          behind = t.ending ∷ (s.ending ∷ (subentries_records after ++ (e.ending ∷ [])));
          split = split-of ∙ rw there
              (data-split e.opening (first_records e.first) (subentries_records before) s.opening
              (bib_records s.bib) (table_records s.common) t.opening (rows_of t) t.ending s.ending
              (subentries_records after) e.ending);
          here = headed_by d s;
          passes = entered (bib_records s.bib ++ (table_records s.common ++ [])) (headed_by d s)
              (head-pass (next d SUBENT s.opening) accession (own_number s.opening)
              (heading_rows e.first.common) (columns_in e.first.common) s.bib s.common
              (table_records s.values) [] (headed_by d s) hg (pass-nothing (headed_by d s)));
          due = data-due (headed_by d s) h.phase
              (λ z. let x = w.above in let y = w.one in let q = own in omega arith) t.opening
              ∙ either_left DATA NODATA (name_of t.opening) data-good.opens;
          number = own;
        }

  -- its COMMON
  module _ (t : Table) (there : s.common ≡ present t) where
    pub common-good : GoodCommon t
    common-good = rw there at w.good.common

    pub common-reached : Reached e (own_number s.opening) COMMON t
    common-reached =
        let c = next d SUBENT s.opening in
        let x = to-common c accession (own_number s.opening) (heading_rows e.first.common)
        (columns_in e.first.common) s.bib s.common (table_records s.values) hg in
        record {
          before = e.opening ∷ (first_records e.first
              ++ (subentries_records before ++ (s.opening ∷ (bib_records s.bib ++ []))));
          behind = t.ending ∷ (table_records s.values
              ++ (s.ending ∷ (subentries_records after ++ (e.ending ∷ []))));
          split = split-of ∙ rw there
              (common-split e.opening (first_records e.first) (subentries_records before) s.opening
              (bib_records s.bib) t.opening (rows_of t) t.ending (table_records s.values) s.ending
              (subentries_records after) e.ending);
          here = after_bib c s.bib;
          passes = entered (bib_records s.bib ++ []) (after_bib c s.bib) x.into;
          due = common-due (after_bib c s.bib) x.phase t.opening
              ∙ either_left COMMON NOCOMMON (name_of t.opening) common-good.opens;
          number = x.own;
        }

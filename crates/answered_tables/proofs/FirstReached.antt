-- The sections of 001 are reached: behind ENTRY and its SUBENT, COMMON behind its BIB.
-- Assumes nothing.
use Prim.Native.Nat.{◌+◌}
use mathlib.Core.Path.{◌≡◌, ◌∙◌}
use mathlib.Core.Bool.{false}
use mathlib.Core.List.{List, [], ◌∷◌, ◌++◌, append_assoc, append-nil}
use Rattle.paper_record.specs.Identifier.{ENTRY, SUBENT, BIB, NOBIB, COMMON, NOCOMMON}
use Rattle.paper_record.specs.Expected.{accession_of}
use Rattle.paper_rules.specs.State.{Context, start_context}
use Rattle.good.specs.Parts.{Record, Bib, Table, present, bib_records, table_records, rows_of, Entry, subentries_records}
use Rattle.good.specs.Parts.{texts_of}
use Rattle.good.specs.Marks.{name_of}
use Rattle.good.specs.Bib.{GoodBib}
use Rattle.good.specs.Tables.{GoodCommon}
use Rattle.good.specs.Subentries.{own_number}
use Rattle.good.specs.Good.{GoodEntry}
use Rattle.good.proofs.Steps.{next, next-pass, pass-nothing}
use Rattle.good.proofs.Runs.{only-role, either_left}
use Rattle.good.proofs.BibContexts.{after_bib, bib-role}
use Rattle.good.proofs.Openings.{number-first, opens-takes, entry-takes, after-opening}
use Rattle.good.proofs.FirstSubentry.{subent-due, first_head}
use Rattle.good.proofs.Entries.{ready, entry-due}
use Rattle.good.proofs.Subentries.{common-due}
use Rattle.answered_tables.proofs.Reached.{Reached, BibReached, to-common}

first-bib-split : (o r u : Record) (texts : List Record) (v : Record) (common : List Record) (w : Record)
    (rest : List Record)
    → o ∷ ((r ∷ (((u ∷ (texts ++ (v ∷ []))) ++ common) ++ (w ∷ []))) ++ rest)
    ≡ (o ∷ (r ∷ [])) ++ (u ∷ (texts ++ (v ∷ (common ++ (w ∷ rest)))))
first-bib-split o r u texts v common w rest = simp append_assoc

first-split : (o r : Record) (bib : List Record) (u : Record) (rows : List Record) (v w : Record) (rest : List Record)
    → o ∷ ((r ∷ ((bib ++ (u ∷ (rows ++ (v ∷ [])))) ++ (w ∷ []))) ++ rest)
    ≡ (o ∷ (r ∷ (bib ++ []))) ++ (u ∷ (rows ++ (v ∷ (w ∷ rest))))
first-split o r bib u rows v w rest = simp (append_assoc, append-nil)

module _ (e : Entry) (good : GoodEntry e) (t : Table) (there : e.first.common ≡ present t) where
  abbrev o0 : Context
  o0 = next start_context ENTRY e.opening

  abbrev o1 : Context
  o1 = next o0 SUBENT e.first.opening

  pub first-common-good : GoodCommon t
  first-common-good = rw there at good.first.common

  pub first-reached : Reached e 1 COMMON t
  first-reached =
      let g = ready e.opening in
      let r = e.first.opening in
      let x = to-common o1 (accession_of e.opening) (own_number r) [] 0 e.first.bib e.first.common []
      (first_head o0 (accession_of e.opening) e.first g good.first) in
      record {
        before = e.opening ∷ (r ∷ (bib_records e.first.bib ++ []));
        behind = t.ending ∷ (e.first.ending ∷ (subentries_records e.later ++ (e.ending ∷ [])));
        split = rw there
            (first-split e.opening r (bib_records e.first.bib) t.opening (rows_of t) t.ending
            e.first.ending (subentries_records e.later ++ (e.ending ∷ [])));
        here = after_bib o1 e.first.bib;
        passes = next-pass start_context ENTRY e.opening _ (after_bib o1 e.first.bib)
            (entry-due e.opening ∙ only-role ENTRY (name_of e.opening) good.opening.named)
            (entry-takes start_context e.opening good.opening)
            (next-pass o0 SUBENT r (bib_records e.first.bib ++ []) (after_bib o1 e.first.bib)
            (subent-due o0 g.phase r ∙ only-role SUBENT (name_of r) good.first.opens.named)
            (opens-takes false o0 r (accession_of e.opening) g.accession-is good.first.opens
            (number-first o0 (own_number r) g.subentries good.first.number)) x.into);
        due = common-due (after_bib o1 e.first.bib) x.phase t.opening
            ∙ either_left COMMON NOCOMMON (name_of t.opening) first-common-good.opens;
        number = x.own ∙ good.first.number;
      }

module _ (e : Entry) (good : GoodEntry e) (b : Bib) (there : e.first.bib ≡ present b) where
  pub first-bib-good : GoodBib b
  first-bib-good = rw there at good.first.bib

  pub first-bib-reached : BibReached e 1 b
  first-bib-reached =
      let g = ready e.opening in
      let r = e.first.opening in
      let c0 = next start_context ENTRY e.opening in
      let c1 = next c0 SUBENT r in
      let o = after-opening false c0 r in
      record {
        before = e.opening ∷ (r ∷ []);
        behind = b.ending ∷ (table_records e.first.common
            ++ (e.first.ending ∷ (subentries_records e.later ++ (e.ending ∷ []))));
        split = rw there
            (first-bib-split e.opening r b.opening (texts_of b.keywords) b.ending
            (table_records e.first.common) e.first.ending (subentries_records e.later ++ (e.ending ∷ [])));
        here = c1;
        passes = next-pass start_context ENTRY e.opening (r ∷ []) c1
            (entry-due e.opening ∙ only-role ENTRY (name_of e.opening) good.opening.named)
            (entry-takes start_context e.opening good.opening)
            (next-pass c0 SUBENT r [] c1
            (subent-due c0 g.phase r ∙ only-role SUBENT (name_of r) good.first.opens.named)
            (opens-takes false c0 r (accession_of e.opening) g.accession-is good.first.opens
            (number-first c0 (own_number r) g.subentries good.first.number)) (pass-nothing c1));
        due = bib-role c1 b.opening o.phase
            ∙ either_left BIB NOBIB (name_of b.opening) first-bib-good.opens;
        number = o.number ∙ good.first.number;
      }

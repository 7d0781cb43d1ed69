-- The walk of the judge over a good entry has come to the record that opens a section: the records before it are
-- passed, and in the context there the record is due as BIB, COMMON or DATA of its subentry.
-- Assumes nothing.
use Prim.Native.Nat.{ℕ, ◌+◌}
use mathlib.Core.Path.{◌≡◌, ◌∙◌}
use mathlib.Core.List.{List, [], ◌∷◌, ◌++◌}
use native.Mathlib.Omega.{arith}
use Rattle.paper_record.specs.Identifier.{BIB}
use Rattle.paper_record.specs.Expected.{identification_for}
use Rattle.paper_rules.specs.declared.types.Phase.TheVariants.{AfterBib}
use Rattle.paper_rules.specs.State.{Context, start_context}
use Rattle.paper_entry.specs.Judging.{role_of}
use Rattle.good.specs.Parts.{Record, Bib, Table, Section, bib_records, table_records, rows_of, Entry, records_of, texts_of}
use Rattle.good.proofs.Steps.{Passes, pass-nothing}
use Rattle.good.proofs.Marks.{following-as, following-left}
use Rattle.good.proofs.Systems.{identification_in}
use Rattle.good.proofs.BibContexts.{after_bib, behind-bib}
use Rattle.good.proofs.Bibs.{bib-pass}
use Rattle.good.proofs.SubentryHeads.{HeadGood}

-- the walk has come to the record that opens a table
pub record Reached (e : Entry) (n role : ℕ) (t : Table) : Type 0 where
  pub before : List Record
  pub behind : List Record
  pub split : records_of e ≡ before ++ (t.opening ∷ (rows_of t ++ behind))
  pub here : Context
  pub passes : Passes start_context before here
  pub due : role_of here t.opening ≡ role
  pub number : here.track.subentry.number ≡ n

-- the walk has come to the record that opens a BIB section
pub record BibReached (e : Entry) (n : ℕ) (b : Bib) : Type 0 where
  pub before : List Record
  pub behind : List Record
  pub split : records_of e ≡ before ++ (b.opening ∷ (texts_of b.keywords ++ behind))
  pub here : Context
  pub passes : Passes start_context before here
  pub due : role_of here b.opening ≡ BIB
  pub number : here.track.subentry.number ≡ n

-- ---- up to COMMON

-- from the first record of a subentry to its COMMON record
pub record ToCommon (c : Context) (number : ℕ) (bib : Section Bib) : Type 0 where
  pub into : Passes c (bib_records bib ++ []) (after_bib c bib)
  pub phase : (after_bib c bib).phase ≡ AfterBib
  pub own : (after_bib c bib).track.subentry.number ≡ number

pub to-common : (c : Context) (accession : List ℕ) (number : ℕ) (rows : List Record) (n : ℕ) (bib : Section Bib)
    (common : Section Table) (rest : List Record) → HeadGood c accession number rows n bib common rest
    → ToCommon c number bib
to-common c accession number rows n bib common rest h =
    let b = behind-bib c bib h.begun.bib h.good-bib in
    let z = h.begun.records in
    record {
      into = bib-pass c bib [] (after_bib c bib) h.begun.phase h.good-bib
          (following-as (identification_for accession number) (identification_in c) 2 (c.track.subentry.records + 2)
          (bib_records bib) (rw (h.begun.accession-is, h.begun.number_is)) (omega arith)
          (following-left (identification_for accession number) 2 (bib_records bib) (table_records common ++ rest)
          h.follows))
          (pass-nothing (after_bib c bib));
      phase = b.phase;
      own = b.moved.number ∙ h.begun.number_is;
    }

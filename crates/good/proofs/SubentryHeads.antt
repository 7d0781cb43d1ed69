-- BIB and COMMON of a subentry, in the context behind its SUBENT: the judge goes over their records exactly when both
-- are good. Assumes nothing.
use Prim.Native.Nat.{ℕ, ◌+◌}
use mathlib.Core.Path.{◌≡◌, refl, sym, ◌∙◌, ap}
use mathlib.Core.Bool.{true, false}
use mathlib.Core.List.{List, [], ◌++◌, append-nil}
use native.Mathlib.Omega.{arith}
use lib.ListN.{length}
use Rattle.laws.proofs.Booleans.{differ}
use Rattle.laws.specs.Walk.{All}
use Rattle.laws.specs.Blocks.{joined}
use Rattle.laws.specs.Members.{list_of}
use Rattle.paper_record.specs.Identifier.{SUBENT}
use Rattle.paper_record.specs.Expected.{identification_for}
use Rattle.paper_rules.specs.declared.types.Phase.TheVariants.{InSubentry, AfterCommon}
use Rattle.paper_rules.specs.State.{Context}
use Rattle.paper_rules.specs.Pointers.{pointers_for as pointers_seen}
use Rattle.paper_entry.specs.Verdict.{is_done}
use Rattle.rules_plain.specs.Places.{Long}
use Rattle.good.specs.Parts.{Record, Bib, Table, Section, bib_records, table_records}
use Rattle.good.specs.Marks.{Following}
use Rattle.good.specs.Bib.{GoodBibPart, texts_of_part}
use Rattle.good.specs.Tables.{GoodCommonPart, headings_of_part}
use Rattle.good.specs.Subentries.{own_number, HeadingsFit}
use Rattle.good.specs.Totals.{keywords_in, numbers_of}
use Rattle.good.proofs.Steps.{Passes, next}
use Rattle.good.proofs.Moves.{Moved, moved_on, recount}
use Rattle.good.proofs.Marks.{following-append, following-left, following-right, following-as}
use Rattle.good.proofs.Systems.{identification_in}
use Rattle.good.proofs.BibContexts.{after_bib, BehindBib, behind-bib}
use Rattle.good.proofs.Bibs.{pass-bib, bib-pass}
use Rattle.good.proofs.TableContexts.{PartsKnown}
use Rattle.good.proofs.TableWalked.{heading_rows, columns_in, after_table, BehindTable, FlagsTested, flags-as}
use Rattle.good.proofs.TablesPassed.{pass-table}
use Rattle.good.proofs.TablesGood.{GoodHere, table-behind, table-pass}
use Rattle.good.proofs.Together.{Shown, shown, fits_all, all-fits}
use Rattle.good.proofs.Openings.{after-opening}
use Rattle.good.proofs.Subentries.{part-words, part-headings, none-shown, common-due}

-- the context behind SUBENT, and what is known there
pub record Begun (c : Context) (accession : List ℕ) (number : ℕ) (rows : List Record) : Type 0 where
  pub phase : c.phase ≡ InSubentry
  pub accession-is : c.track.accession ≡ accession
  pub number_is : c.track.subentry.number ≡ number
  pub records : c.track.subentry.records ≡ 0
  pub bib : c.seen.bib ≡ []
  pub common : c.seen.common ≡ []
  pub common001 : c.seen.common001 ≡ joined rows
  pub long : All Long rows

pub begun-by : (c : Context) (accession : List ℕ) (rows : List Record) (r : Record) → c.track.accession ≡ accession
    → c.seen.common001 ≡ joined rows → All Long rows → Begun (next c SUBENT r) accession (own_number r) rows
begun-by c accession rows r own before long =
    let o = after-opening false c r in
    record {
      phase = o.phase;
      accession-is = o.accession ∙ own;
      number_is = o.number;
      records = o.records;
      bib = o.bib;
      common = o.common;
      common001 = o.common001 ∙ before;
      long = long;
    }

abbrev pub after_head : Context → Section Bib → Section Table → Context
after_head c bib common = after_table false (after_bib c bib) common

pub record Head (c : Context) (bib : Section Bib) (common : Section Table) : Type 0 where
  pub phase : (after_head c bib common).phase ≡ AfterCommon
  pub moved : Moved c (after_head c bib common) (length (bib_records bib) + length (table_records common))
      (keywords_in bib) 0
      (numbers_of common)
  pub bib-part : (after_head c bib common).seen.bib ≡ joined (texts_of_part bib)
  pub common-part : (after_head c bib common).seen.common ≡ joined (heading_rows common)

pub head-of : (c : Context) (bib : Section Bib) (common : Section Table) → BehindBib c (after_bib c bib) bib
    → BehindTable (after_bib c bib) (after_head c bib common) false common → Head c bib common
head-of c bib common b t =
    record {
      phase = t.phase;
      moved = recount (length (bib_records bib) + length (table_records common)) (keywords_in bib) 0 (numbers_of common)
          (moved_on b.moved t.moved) refl (omega arith) (omega arith) (omega arith);
      bib-part = t.bib ∙ b.bib;
      common-part = t.common;
    }

-- the marks of both parts, in terms of the subentry
head-following : (c : Context) (accession : List ℕ) (number : ℕ) (rows : List Record) (bib : Section Bib)
    (common : Section Table) → Begun c accession number rows → BehindBib c (after_bib c bib) bib
    → Following (identification_in c) (c.track.subentry.records + 2) (bib_records bib)
    → Following (identification_in (after_bib c bib)) ((after_bib c bib).track.subentry.records + 2) (table_records common)
    → Following (identification_for accession number) 2 (bib_records bib ++ table_records common)
head-following c accession number rows bib common g b f h =
    let z = g.records in
    let x = b.moved.records in
    following-append (identification_for accession number) 2 (bib_records bib) (table_records common)
    (following-as (identification_in c) (identification_for accession number) (c.track.subentry.records + 2) 2
    (bib_records bib)
    (rw (g.accession-is, g.number_is)) (omega arith) f)
    (following-as (identification_in (after_bib c bib)) (identification_for accession number)
    ((after_bib c bib).track.subentry.records + 2) (2 + length (bib_records bib)) (table_records common)
    (rw (b.moved.accession, b.moved.number, g.accession-is, g.number_is)) (omega arith) h)

following-bib : (c : Context) (accession : List ℕ) (number : ℕ) (rows : List Record) (bib : Section Bib)
    (rest : List Record) → Begun c accession number rows
    → Following (identification_for accession number) 2 (bib_records bib ++ rest)
    → Following (identification_in c) (c.track.subentry.records + 2) (bib_records bib)
following-bib c accession number rows bib rest g f =
    let z = g.records in
    following-as (identification_for accession number) (identification_in c) 2 (c.track.subentry.records + 2)
    (bib_records bib)
    (rw (g.accession-is, g.number_is)) (omega arith)
    (following-left (identification_for accession number) 2 (bib_records bib) rest f)

following-common : (c : Context) (accession : List ℕ) (number : ℕ) (rows : List Record) (bib : Section Bib)
    (common : Section Table) (rest : List Record) → Begun c accession number rows → BehindBib c (after_bib c bib) bib
    → Following (identification_for accession number) 2 (bib_records bib ++ (table_records common ++ rest))
    → Following (identification_in (after_bib c bib)) ((after_bib c bib).track.subentry.records + 2) (table_records common)
following-common c accession number rows bib common rest g b f =
    let z = g.records in
    let x = b.moved.records in
    following-as (identification_for accession number) (identification_in (after_bib c bib)) (2 + length (bib_records bib))
    ((after_bib c bib).track.subentry.records + 2) (table_records common)
    (rw (b.moved.accession, b.moved.number, g.accession-is, g.number_is)) (omega arith)
    (following-left (identification_for accession number) (2 + length (bib_records bib)) (table_records common) rest
    (following-right (identification_for accession number) 2 (bib_records bib) (table_records common ++ rest) f))

-- what COMMON looks back at
common-known : (c : Context) (accession : List ℕ) (number : ℕ) (rows : List Record) (bib : Section Bib)
    → Begun c accession number rows → BehindBib c (after_bib c bib) bib
    → PartsKnown rows [] (pointers_seen (after_bib c bib).seen.bib (after_bib c bib).seen.bib001
    (after_bib c bib).seen.common (after_bib c bib).seen.common001) (after_bib c bib)
unfolding joined
common-known c accession number rows bib g b =
    record {
      first_part = b.moved.common001 ∙ g.common001;
      common-part = b.common ∙ g.common;
      long-first = g.long;
      long-common = tt;
      named = refl;
    }

-- COMMON's headings behind those of 001
abbrev pub Behind : List (List ℕ) → Section Table → Type 0
Behind before part = HeadingsFit false before (headings_of_part part)

pub record PassedHead (c : Context) (rs : List Record) (z : Context) (accession : List ℕ) (number : ℕ)
    (rows : List Record)
    (n : ℕ) : Type 0 where
  pub bib : Section Bib
  pub common : Section Table
  pub rest : List Record
  pub split : rs ≡ bib_records bib ++ (table_records common ++ rest)
  pub good-bib : GoodBibPart bib
  pub good-common : GoodCommonPart common
  pub fit : Behind (shown rows n) common
  pub flags : FlagsTested (joined (texts_of_part bib)) c.seen.bib001 common
  pub follows : Following (identification_for accession number) 2 (bib_records bib ++ table_records common)
  pub head : Head c bib common
  pub passes : Passes (after_head c bib common) rest z

-- BIB and COMMON have their own theorems. What lies between them is what COMMON looks back at (`common-known`): the
-- heading records of 001, and none of its own subentry. So the headings of COMMON come out as they fit behind those
-- of 001 alone. Its flags are handed on over the bytes of both BIBs; which codes these hold is said in the files on 001
-- and on later subentries.
pub pass-head : (c : Context) (rs : List Record) (z : Context) (accession : List ℕ) (number : ℕ) (rows : List Record)
    (n : ℕ)
    → Begun c accession number rows → Shown rows n → is_done z.phase ≡ true → Passes c rs z
    → PassedHead c rs z accession number rows n
unfolding list_of
pass-head c rs z accession number rows n g s done p =
    let b = pass-bib c rs z g.phase done p in
    let c2 = after_bib c b.part in
    let bb = behind-bib c b.part g.bib b.good in
    let k = common-known c accession number rows b.part g bb in
    let t = pass-table false c2 b.rest z rows []
    (pointers_seen c2.seen.bib c2.seen.bib001 c2.seen.common c2.seen.common001) k
    (common-due c2 bb.phase) (ap is_done bb.phase) (λ e. bb.common ∙ g.common) done b.passes in
    record {
      bib = b.part;
      common = t.part;
      rest = t.rest;
      split = b.split ∙ ap (λ (x : List Record). bib_records b.part ++ x) t.split;
      good-bib = b.good;
      good-common = t.good;
      fit = rw (part-headings t.part)
          (rw (append-nil (shown rows n)) at
          (fits_all false rows [] (heading_rows t.part) n 0 (columns_in t.part) s none-shown t.fit));
      flags = flags-as c2.seen.bib c2.seen.bib001 (joined (texts_of_part b.part)) c.seen.bib001 t.part
          bb.bib bb.moved.bib001 t.flags;
      follows = head-following c accession number rows b.part t.part g bb b.follows t.follows;
      head = head-of c b.part t.part bb t.behind;
      passes = t.passes;
    }

-- from the parts to the walk
pub record HeadGood (c : Context) (accession : List ℕ) (number : ℕ) (rows : List Record) (n : ℕ) (bib : Section Bib)
    (common : Section Table) (rest : List Record) : Type 0 where
  pub begun : Begun c accession number rows
  pub shown-rows : Shown rows n
  pub good-bib : GoodBibPart bib
  pub good-common : GoodCommonPart common
  pub fit : Behind (shown rows n) common
  pub flags : FlagsTested (joined (texts_of_part bib)) c.seen.bib001 common
  pub follows : Following (identification_for accession number) 2 (bib_records bib ++ (table_records common ++ rest))

head-bib : (c : Context) (accession : List ℕ) (number : ℕ) (rows : List Record) (n : ℕ) (bib : Section Bib)
    (common : Section Table) (rest : List Record) → HeadGood c accession number rows n bib common rest
    → BehindBib c (after_bib c bib) bib
head-bib c accession number rows n bib common rest h = behind-bib c bib h.begun.bib h.good-bib

head-here : (c : Context) (accession : List ℕ) (number : ℕ) (rows : List Record) (n : ℕ) (bib : Section Bib)
    (common : Section Table) (rest : List Record) → HeadGood c accession number rows n bib common rest
    → GoodHere false (after_bib c bib) common rows []
    (pointers_seen (after_bib c bib).seen.bib (after_bib c bib).seen.bib001 (after_bib c bib).seen.common
    (after_bib c bib).seen.common001)
unfolding list_of
head-here c accession number rows n bib common rest h =
    let b = head-bib c accession number rows n bib common rest h in
    record {
      good = h.good-common;
      fit = all-fits false rows [] (heading_rows common) n 0 (columns_in common) h.shown-rows none-shown
          (part-words false common h.good-common)
          (rw (append-nil (shown rows n)) (rw (part-headings common) at h.fit));
      found = λ e. differ (sym e);
      flags = flags-as (joined (texts_of_part bib)) c.seen.bib001 (after_bib c bib).seen.bib
          (after_bib c bib).seen.bib001 common (sym b.bib) (sym b.moved.bib001) h.flags;
      follows = following-common c accession number rows bib common rest h.begun b h.follows;
    }

pub good-head : (c : Context) (accession : List ℕ) (number : ℕ) (rows : List Record) (n : ℕ) (bib : Section Bib)
    (common : Section Table) (rest : List Record) → HeadGood c accession number rows n bib common rest
    → Head c bib common
good-head c accession number rows n bib common rest h =
    let b = head-bib c accession number rows n bib common rest h in
    let c2 = after_bib c bib in
    head-of c bib common b
    (table-behind false c2 common rows []
    (pointers_seen c2.seen.bib c2.seen.bib001 c2.seen.common c2.seen.common001)
    (common-known c accession number rows bib h.begun b) (λ e. b.common ∙ h.begun.common)
    (head-here c accession number rows n bib common rest h))

pub head-pass : (c : Context) (accession : List ℕ) (number : ℕ) (rows : List Record) (n : ℕ) (bib : Section Bib)
    (common : Section Table) (body rest : List Record) (z : Context)
    → HeadGood c accession number rows n bib common body
    → Passes (after_head c bib common) rest z → Passes c (bib_records bib ++ (table_records common ++ rest)) z
head-pass c accession number rows n bib common body rest z h p =
    let b = head-bib c accession number rows n bib common body h in
    let c2 = after_bib c bib in
    bib-pass c bib (table_records common ++ rest) z h.begun.phase h.good-bib
    (following-bib c accession number rows bib (table_records common ++ body) h.begun h.follows)
    (table-pass false c2 common rest z rows []
    (pointers_seen c2.seen.bib c2.seen.bib001 c2.seen.common c2.seen.common001)
    (common-known c accession number rows bib h.begun b) (common-due c2 b.phase)
    (head-here c accession number rows n bib common body h) p)

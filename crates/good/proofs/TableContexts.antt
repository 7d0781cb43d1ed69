-- The contexts behind the records that open and end a COMMON or DATA section, or stand for none; and what a context
-- knows of earlier parts. Assumes nothing.
use Prim.Native.Nat.{ℕ, ◌≤◌}
use mathlib.Core.Path.{◌≡◌, refl, ◌∙◌, ap}
use mathlib.Core.Bool.{Bool, true, false}
use mathlib.Core.List.{List, []}
use borrow.Author.Tests.{le-leb}
use Rattle.laws.specs.Walk.{All}
use Rattle.laws.specs.Blocks.{joined}
use Rattle.paper_record.specs.Fields.{fields_of}
use Rattle.paper_rules.specs.State.{Context}
use Rattle.paper_rules.specs.Limits.{MOST-COLUMNS, MOST-LINES}
use Rattle.paper_rules.specs.Pointers.{pointers_for}
use Rattle.paper_rules.specs.Counts.{count_n1, count_n2}
use Rattle.paper_entry.specs.Next.{context_after}
use Rattle.paper_entry.specs.Due.{phase_after}
use Rattle.paper_entry.specs.Counted.{track_after, after_system}
use Rattle.paper_entry.specs.Parts.{seen_after, part_after, bib_change, table_change}
use Rattle.paper_record.specs.System.{up_to}
use Rattle.rules_plain.specs.Places.{Long}
use Rattle.good.specs.Parts.{Record}
use Rattle.good.proofs.Steps.{next}
use Rattle.good.proofs.Moves.{Moved, quiet}
use Rattle.good.proofs.RowPlaces.{RowAt}
use Rattle.good.proofs.Rows.{headings, end_for}
use Rattle.good.proofs.Headings.{HeadingsKnown}
use Rattle.good.proofs.TableKinds.{open_for, no_for, phase_behind, last_for, Limits}

-- ---- the contexts

pub record TableOpened (c e : Context) (d : Bool) (n last : ℕ) : Type 0 where
  pub at : RowAt e d headings n last 1 n
  pub moved : Moved c e 1 0 0 0
  pub section : e.track.section ≡ 0
  pub part : e.seen.table ≡ []
  pub bib : e.seen.bib ≡ c.seen.bib
  pub common : e.seen.common ≡ c.seen.common

within-most : (most n : ℕ) → n ≤ most → up_to most n ≡ n
within-most most n l = rw (le-leb n most l)

pub after_open : (d : Bool) (c : Context) (r : Record) (a b : ℕ) → count_n1 (fields_of r) ≡ a → count_n2 (fields_of r) ≡ b
    → Limits d a b → TableOpened c (next c (open_for d) r) d a (last_for d b)
unfolding context_after phase_after track_after after_system seen_after part_after bib_change table_change
after_open false c r a b p q l =
    let e : up_to MOST-COLUMNS (count_n1 (fields_of r)) ≡ a = ap (up_to MOST-COLUMNS) p ∙ within-most MOST-COLUMNS a
    l.most in
    record {
      at = record { phase = refl; columns = e; last_line = refl; row = refl; line-now = refl; left = e };
      moved = quiet refl refl refl refl refl;
      section = refl;
      part = refl;
      bib = refl;
      common = refl;
    }
after_open true c r a b p q l =
    let e : up_to MOST-COLUMNS (count_n1 (fields_of r)) ≡ a = ap (up_to MOST-COLUMNS) p ∙ within-most MOST-COLUMNS a
    l.most in
    let f : up_to MOST-LINES (count_n2 (fields_of r)) ≡ b =
    ap (up_to MOST-LINES) q ∙ within-most MOST-LINES b (l.data-most refl) in
    record {
      at = record { phase = refl; columns = e; last_line = f; row = refl; line-now = refl; left = e };
      moved = quiet refl refl refl refl refl;
      section = refl;
      part = refl;
      bib = refl;
      common = refl;
    }

-- this subentry's COMMON: the heading records of the table that ends, or what it was before
abbrev pub common_behind : Bool → List ℕ → List ℕ → List ℕ
common_behind false table common = table
common_behind true table common = common

pub record TableClosed (c e : Context) (d : Bool) (common : List ℕ) : Type 0 where
  pub phase : e.phase ≡ phase_behind d
  pub moved : Moved c e 1 0 0 0
  pub bib : e.seen.bib ≡ c.seen.bib
  pub kept : e.seen.common ≡ common

pub after-end : (d : Bool) (c : Context) (r : Record)
    → TableClosed c (next c (end_for d) r) d (common_behind d c.seen.table c.seen.common)
unfolding context_after phase_after track_after after_system seen_after part_after bib_change
after-end false c r =
    record {
      phase = refl;
      bib = refl;
      kept = refl;
      moved = quiet refl refl refl refl refl;
    }
after-end true c r =
    record {
      phase = refl;
      bib = refl;
      kept = refl;
      moved = quiet refl refl refl refl refl;
    }

pub after_none : (d : Bool) (c : Context) (r : Record) → TableClosed c (next c (no_for d) r) d c.seen.common
unfolding context_after phase_after track_after after_system seen_after part_after bib_change
after_none false c r =
    record {
      phase = refl;
      bib = refl;
      kept = refl;
      moved = quiet refl refl refl refl refl;
    }
after_none true c r =
    record {
      phase = refl;
      bib = refl;
      kept = refl;
      moved = quiet refl refl refl refl refl;
    }

-- ---- what the context knows of earlier parts

pub record PartsKnown (first common : List Record) (pointers : List ℕ) (c : Context) : Type 0 where
  pub first_part : c.seen.common001 ≡ joined first
  pub common-part : c.seen.common ≡ joined common
  pub long-first : All Long first
  pub long-common : All Long common
  pub named : pointers_for c.seen.bib c.seen.bib001 c.seen.common c.seen.common001 ≡ pointers

pub known-open : (d : Bool) (first common : List Record) (pointers : List ℕ) (c e : Context) (n last : ℕ)
    → PartsKnown first common pointers c → TableOpened c e d n last → HeadingsKnown first common pointers e []
unfolding joined
known-open d first common pointers c e n last k o =
    record {
      first_part = o.moved.common001 ∙ k.first_part;
      common-part = o.common ∙ k.common-part;
      table-part = o.part;
      long-first = k.long-first;
      long-common = k.long-common;
      long-before = tt;
      named = rw (o.bib, o.moved.bib001, o.common, o.moved.common001) k.named;
    }

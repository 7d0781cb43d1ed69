-- From the section to the walk: the judge goes over the records of a good COMMON section or NOCOMMON, of a good DATA
-- section or NODATA. Assumes nothing.
use Prim.Native.Nat.{ℕ, ◌+◌, ◌<◌}
use mathlib.Core.Path.{◌≡◌, refl, sym, ◌∙◌}
use mathlib.Core.Bool.{Bool, true, false}
use mathlib.Core.List.{List, [], ◌∷◌, ◌++◌}
use native.Mathlib.Omega.{arith}
use lib.ListN.{length}
use Rattle.paper_record.specs.Places.{records_for}
use Rattle.paper_record.specs.Fields.{fields_of, n1}
use Rattle.paper_rules.specs.State.{Context}
use Rattle.paper_rules.specs.Role.{either as one_of}
use Rattle.paper_rules.specs.Counts.{true_count}
use Rattle.paper_entry.specs.Judging.{role_of}
use Rattle.rules_plain.specs.Places.{concat, cell}
use Rattle.good.specs.Parts.{Record, Table, Section, present, absent, rows_of, table_records}
use Rattle.good.specs.Marks.{Marked, Following, name_of}
use Rattle.good.specs.Tables.{columns_of}
use Rattle.good.proofs.Pointers.{FoundIn}
use Rattle.good.proofs.Steps.{next, Passes, next-pass}
use Rattle.good.proofs.Runs.{only-role, either_left, either-right}
use Rattle.good.proofs.Marks.{says-as, counted2, following-left, following-right, following-as}
use Rattle.good.proofs.Systems.{identification_in, Here, free-takes, announces-takes, end-takes}
use Rattle.good.proofs.Rows.{headings, units, values, end_for}
use Rattle.good.proofs.RowPlaces.{table-end-role, row-pass, row-left}
use Rattle.good.proofs.Units.{units-good, behind-units}
use Rattle.good.proofs.Headings.{behind-headings}
use Rattle.good.proofs.Earlier.{Fits}
use Rattle.good.proofs.HeadingsByColumn.{headings-good}
use Rattle.good.proofs.FlagsByColumn.{kept_of}
use Rattle.good.proofs.Lines.{in_row, behind-lines, lines-pass, lines-good}
use Rattle.good.proofs.TableKinds.{open_for, no_for, open-for, free-for, end-for, differ-for, marked-end}
use Rattle.good.proofs.TableKinds.{section-count, no-keywords, last_for, of-limits, GoodPart, Pieces, second_for}
use Rattle.good.proofs.TableKinds.{good-pieces}
use Rattle.good.proofs.TableContexts.{after_open, PartsKnown, known-open}
use Rattle.good.proofs.TableWalked.{heading_rows, columns_in, after_headings, after_units, after_rows, after_table}
use Rattle.good.proofs.TableWalked.{Walked, walked-moved, walked-section, BehindTable, behind-none}
use Rattle.good.proofs.TableWalked.{walked-behind, FlagsTested, keeps-rows}
use Rattle.good.proofs.TablesPassed.{rows-grouped, last-least}

-- The rows of a good table make the walk: each row's theorem, read from right to left, gives its run in the context
-- behind the row before, and that context is known because the earlier run is. The result is the same `Walked` that
-- the other direction ends in.
good-walked : (d : Bool) (c : Context) (t : Table) (b : ℕ) (first common : List Record) (pointers : List ℕ)
    → PartsKnown first common pointers c → Pieces d t b
    → Following (identification_in c) (c.track.subentry.records + 3) (rows_of t)
    → ((x : ℕ) → x < columns_of t → Fits d first common t.headings x)
    → (d ≡ true → (x : ℕ) → x < columns_of t → FoundIn pointers (cell t.headings x))
    → FlagsTested c.seen.bib c.seen.bib001 (present t) → Walked d c t (columns_of t) b
unfolding columns_of
good-walked d c t b first common pointers k p f fit found flags =
    let a = columns_of t in
    let r = t.opening in
    let l = last_for d b in
    let lim = p.limits in
    let g = p.table in
    let c1 = next c (open_for d) r in
    let c2 = after_headings d c t in
    let c3 = after_units d c t in
    let i = identification_in c in
    let s = c.track.subentry.records + 3 in
    let m = last-least d a b lim in
    let o = after_open d c r a b refl (counted2 r b p.second) lim in
    let om = o.moved in
    let x1 = om.records in
    let f1 = following-left i s t.headings (t.units ++ concat t.lines) f in
    let f23 = following-right i s t.headings (t.units ++ concat t.lines) f in
    let f2 = following-left i (s + length t.headings) t.units (concat t.lines) f23 in
    let f3 = following-right i (s + length t.headings) t.units (concat t.lines) f23 in
    let l1 = g.headings.records in
    let l2 = g.units.records in
    let run1 = (headings-good d first common pointers a l 1 c1 t.headings o.at lim.least
    (known-open d first common pointers c c1 a l k o) l1).1 (
      following-as i (identification_in c1) s (c1.track.subentry.records + 2) t.headings
          (rw (om.accession, om.number)) (omega arith) f1,
      g.headings,
      fit,
      found,
    ) in
    let at1 = row-left d headings a l 1 m (records_for a) c1 t.headings
    (in_row d headings a l 1 c1 o.at lim.least) l1 run1 in
    let b1 = behind-headings d a l 1 a c1 t.headings o.at lim.least l1 run1 in
    let m1 = b1.moved in
    let x2 = m1.records in
    let run2 = (units-good d a l 1 c2 t.units at1 lim.least l2).1 (
      following-as i (identification_in c2) (s + length t.headings) (c2.track.subentry.records + 2) t.units
          (rw (m1.accession, m1.number, om.accession, om.number)) (omega arith) f2,
      g.units,
    ) in
    let at2 = row-left d units a l 1 m (records_for a) c2 t.units
    (in_row d units a l 1 c2 at1 lim.least) l2 run2 in
    let b2 = behind-units d a l 1 a c2 t.units at1 lim.least l2 run2 in
    let m2 = b2.moved in
    let x3 = m2.records in
    let many = p.many in
    let run3 = (lines-good d (kept_of c.seen.bib c.seen.bib001 t.headings) a l 1 c3 (identification_in c3)
    (c3.track.subentry.records + 2) t.lines at2 lim.least b2.blank (keeps-rows o b1 b2) (omega arith) refl
    refl).1 (
      following-as i (identification_in c3) (s + length t.headings + length t.units)
          (c3.track.subentry.records + 2) (concat t.lines)
          (rw (m2.accession, m2.number, m1.accession, m1.number, om.accession, om.number)) (omega arith) f3,
      p.lines,
      flags,
    ) in
    record {
      limits = lim;
      opened = o;
      heads-long = l1;
      heads-run = run1;
      heads-at = at1;
      heads-behind = b1;
      units-long = l2;
      units-run = run2;
      units-at = at2;
      units-behind = b2;
      lines-many = many;
      lines-run = run3;
      lines-behind = behind-lines d a l 1 c3 t.lines at2 lim.least b2.blank (omega arith) run3;
    }

marked-ending-here : (d : Bool) (c : Context) (t : Table) (a b : ℕ) (r : Record) → Walked d c t a b
    → Marked (identification_in c) (c.track.subentry.records + 3 + length (rows_of t)) r → Here (after_rows d c t) r
marked-ending-here d c t a b r w m =
    let v = walked-moved d c t a b w in
    let x = v.records in
    let i : identification_in (after_rows d c t) ≡ identification_in c = rw (v.accession, v.number) in
    let n : (after_rows d c t).track.subentry.records + 2 ≡ c.track.subentry.records + 3 + length
    (rows_of t) = omega arith in
    rw (i, n) m

pub grouped-rows : (hs us ls : List Record) (e : Record) (ts : List Record)
    → hs ++ (us ++ ls) ++ (e ∷ []) ++ ts ≡ hs ++ (us ++ (ls ++ (e ∷ ts)))
grouped-rows hs us ls e ts = sym (rows-grouped hs us ls e ts)

-- a section that is good, with its marks and headings, in a context that knows the earlier parts
pub record GoodHere (d : Bool) (c : Context) (part : Section Table) (first common : List Record) (pointers : List ℕ)
    : Type 0 where
  pub good : GoodPart d part
  pub fit : (x : ℕ) → x < columns_in part → Fits d first common (heading_rows part) x
  pub found : d ≡ true → (x : ℕ) → x < columns_in part → FoundIn pointers (cell (heading_rows part) x)
  pub flags : FlagsTested c.seen.bib c.seen.bib001 part
  pub follows : Following (identification_in c) (c.track.subentry.records + 2) (table_records part)

rows-follow : (d : Bool) (c : Context) (t : Table) (first common : List Record) (pointers : List ℕ)
    → GoodHere d c (present t) first common pointers
    → Here c t.opening × Following (identification_in c) (c.track.subentry.records + 3)
    (rows_of t ++ (t.ending ∷ []))
unfolding Following
rows-follow d c t first common pointers g = (
  g.follows.0,
  following-as (identification_in c) (identification_in c) (c.track.subentry.records + 2 + 1)
      (c.track.subentry.records + 3) (rows_of t ++ (t.ending ∷ [])) refl (omega arith) g.follows.1,
)

here-walked : (d : Bool) (c : Context) (t : Table) (first common : List Record) (pointers : List ℕ)
    → PartsKnown first common pointers c → GoodHere d c (present t) first common pointers
    → Walked d c t (columns_of t) (second_for d t)
here-walked d c t first common pointers k g =
    good-walked d c t (second_for d t) first common pointers k (good-pieces d t g.good)
    (following-left (identification_in c) (c.track.subentry.records + 3) (rows_of t) (t.ending ∷ [])
    (rows-follow d c t first common pointers g).1)
    g.fit g.found g.flags

pub table-behind : (d : Bool) (c : Context) (part : Section Table) (first common : List Record) (pointers : List ℕ)
    → PartsKnown first common pointers c → (d ≡ false → c.seen.common ≡ []) → GoodHere d c part first common pointers
    → BehindTable c (after_table d c part) d part
table-behind d c (absent r) first common pointers k none g = behind-none d c r none
table-behind d c (present t) first common pointers k none g =
    walked-behind d c t (second_for d t) (here-walked d c t first common pointers k g)

no_name : (d : Bool) (r : Record) → GoodPart d (absent r) → name_of r ≡ no_for d
no_name false r e = e
no_name true r e = e

pub table-pass : (d : Bool) (c : Context) (part : Section Table) (rest : List Record) (z : Context)
    (first common : List Record) (pointers : List ℕ) → PartsKnown first common pointers c
    → ((r : Record) → role_of c r ≡ one_of (open_for d) (no_for d) (name_of r)) → GoodHere d c part first common pointers
    → Passes (after_table d c part) rest z → Passes c (table_records part ++ rest) z
unfolding after_table Following
table-pass d c (absent r) rest z first common pointers k due g p =
    next-pass c (no_for d) r rest z
    (due r ∙ either-right (open_for d) (no_for d) (name_of r) (differ-for d) (no_name d r g.good))
    (free-takes c (no_for d) r (free-for d) g.follows.0) p
table-pass d c (present t) rest z first common pointers k due g p =
    let a = columns_of t in
    let b = second_for d t in
    let l = last_for d b in
    let r = t.opening in
    let pc = good-pieces d t g.good in
    let w = here-walked d c t first common pointers k g in
    let lim = pc.limits in
    let m = last-least d a b lim in
    let (first-mark, marks) = rows-follow d c t first common pointers g in
    let end = following-right (identification_in c) (c.track.subentry.records + 3) (rows_of t)
    (t.ending ∷ []) marks in
    let (l1, l2) = of-limits d a b lim in
    let c1 = next c (open_for d) r in
    let c2 = after_headings d c t in
    let c3 = after_units d c t in
    let c4 = after_rows d c t in
    let many = pc.many in
    let te = end-takes c4 (end_for d) t.ending (end-for d)
    (marked-end d c4 t.ending (marked-ending-here d c t a b t.ending w end.0))
    (says-as (n1 (fields_of t.ending)) (length (rows_of t)) (true_count c4.track (end_for d)) pc.table.between
    (sym (section-count d c4 ∙ walked-section d c t a b w)))
    (no-keywords d c4) in
    next-pass c (open_for d) r (rows_of t ++ (t.ending ∷ []) ++ rest) z
    (due r ∙ either_left (open_for d) (no_for d) (name_of r) pc.opens)
    (announces-takes c (open_for d) r a b (open-for d) first-mark
    (record {
      first = pc.table.counted;
      second = pc.second;
      limit1 = l1;
      limit2 = l2;
    }))
    (rw (grouped-rows t.headings t.units (concat t.lines) t.ending rest)
    (row-pass d headings a l 1 m (records_for a) c1 t.headings
    (t.units ++ (concat t.lines ++ (t.ending ∷ rest))) z
    (in_row d headings a l 1 c1 w.opened.at lim.least) w.heads-long w.heads-run
    (row-pass d units a l 1 m (records_for a) c2 t.units (concat t.lines ++ (t.ending ∷ rest)) z
    (in_row d units a l 1 c2 w.heads-at lim.least) w.units-long w.units-run
    (lines-pass d a l 1 c3 t.lines (t.ending ∷ rest) z w.units-at lim.least w.units-behind.blank
    (omega arith)
    w.lines-run
    (next-pass c4 (end_for d) t.ending rest z
    (table-end-role c4 d values a l (1 + length t.lines) a t.ending w.lines-behind.at (omega arith)
    ∙ only-role (end_for d) (name_of t.ending) pc.ends)
    te p)))))

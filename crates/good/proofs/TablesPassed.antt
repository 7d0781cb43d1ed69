-- From the walk to the section: where the judge goes over the records, they begin with a good COMMON section or
-- NOCOMMON, a good DATA section or NODATA. Assumes nothing.
use Prim.Native.Nat.{ℕ, ◌+◌, ◌<◌, ◌≤◌}
use mathlib.Core.Path.{◌≡◌, refl, ◌∙◌, ap}
use mathlib.Core.Bool.{Bool, true, false}
use mathlib.Core.List.{List, [], ◌∷◌, ◌++◌, append_assoc}
use native.Mathlib.Omega.{arith}
use lib.ListN.{length}
use Rattle.paper_record.specs.Places.{records_for}
use Rattle.paper_record.specs.Fields.{fields_of, n1}
use Rattle.paper_rules.specs.State.{Context}
use Rattle.paper_rules.specs.Role.{either as one_of}
use Rattle.paper_rules.specs.Counts.{true_count, count_n1, count_n2}
use Rattle.paper_entry.specs.Judging.{role_of}
use Rattle.paper_entry.specs.Verdict.{is_done}
use Rattle.rules_plain.specs.Places.{concat, cell}
use Rattle.good.specs.Parts.{Record, Table, Section, present, absent, rows_of, table_records}
use Rattle.good.specs.Marks.{Marked, Following, name_of}
use Rattle.good.specs.Tables.{columns_of}
use Rattle.good.proofs.Pointers.{FoundIn}
use Rattle.good.proofs.Steps.{Takes, next, Passes, takes-marked}
use Rattle.good.proofs.Runs.{pass-only, pass-either, rest_of, Step, after_run}
use Rattle.good.proofs.Marks.{says-as, following-append, following-as}
use Rattle.good.proofs.Systems.{identification_in, Here, here_of, takes-announces, takes-end}
use Rattle.good.proofs.Rows.{headings, units, values, role_for, end_for}
use Rattle.good.proofs.RowPlaces.{table-end-role, phase-open, pass-row}
use Rattle.good.proofs.Units.{units-good, behind-units}
use Rattle.good.proofs.Headings.{behind-headings}
use Rattle.good.proofs.Earlier.{Fits}
use Rattle.good.proofs.HeadingsByColumn.{headings-good}
use Rattle.good.proofs.FlagsByColumn.{kept_of}
use Rattle.good.proofs.Lines.{in_row, after_lines, behind-lines, pass-lines, lines-good}
use Rattle.good.proofs.TableKinds.{open_for, no_for, open-for, free-for, end-for, differ-for, end_marked}
use Rattle.good.proofs.TableKinds.{section-count, last_for, Limits, limits_of, GoodPart, pieces-good}
use Rattle.good.proofs.TableContexts.{after_open, PartsKnown, known-open}
use Rattle.good.proofs.TableWalked.{heading_rows, columns_in, after_headings, after_units, after_rows, after_table}
use Rattle.good.proofs.TableWalked.{Walked, walked-moved, walked-section, walked-following, BehindTable}
use Rattle.good.proofs.TableWalked.{behind-none, walked-behind, FlagsTested, keeps-rows}

pub record PassedTable (d : Bool) (c : Context) (rs : List Record) (z : Context) (first common : List Record)
    (pointers : List ℕ) : Type 0 where
  pub part : Section Table
  pub rest : List Record
  pub split : rs ≡ table_records part ++ rest
  pub good : GoodPart d part
  pub fit : (x : ℕ) → x < columns_in part → Fits d first common (heading_rows part) x
  pub found : d ≡ true → (x : ℕ) → x < columns_in part → FoundIn pointers (cell (heading_rows part) x)
  pub flags : FlagsTested c.seen.bib c.seen.bib001 part
  pub follows : Following (identification_in c) (c.track.subentry.records + 2) (table_records part)
  pub behind : BehindTable c (after_table d c part) d part
  pub passes : Passes (after_table d c part) rest z

none-good : (d : Bool) (r : Record) → name_of r ≡ no_for d → GoodPart d (absent r)
none-good false r e = e
none-good true r e = e

pass-none : (d : Bool) (c : Context) (r : Record) (rs : List Record) (z : Context) (first common : List Record)
    (pointers : List ℕ) → (d ≡ false → c.seen.common ≡ []) → Step c (no_for d) r rs z
    → PassedTable d c (r ∷ rs) z first common pointers
unfolding after_table Following
pass-none d c r rs z first common pointers h s =
    record {
      part = absent r;
      rest = rs;
      split = refl;
      good = none-good d r s.named;
      fit = λ x l. absurd (omega arith);
      found = λ e x l. absurd (omega arith);
      flags = tt;
      follows = (here_of c (no_for d) r (free-for d).inside s.takes, tt);
      behind = behind-none d c r h;
      passes = s.passes;
    }

pub rows-grouped : (hs us ls : List Record) (e : Record) (ts : List Record)
    → hs ++ (us ++ (ls ++ (e ∷ ts))) ≡ hs ++ (us ++ ls) ++ (e ∷ []) ++ ts
rows-grouped hs us ls e ts = simp append_assoc

here-marked-ending : (d : Bool) (c : Context) (t : Table) (a b : ℕ) (r : Record) → Walked d c t a b
    → Here (after_rows d c t) r → Marked (identification_in c) (c.track.subentry.records + 3 + length (rows_of t)) r
here-marked-ending d c t a b r w m =
    let v = walked-moved d c t a b w in
    let x = v.records in
    let i : identification_in (after_rows d c t) ≡ identification_in c = rw (v.accession, v.number) in
    let n : (after_rows d c t).track.subentry.records + 2 ≡ c.track.subentry.records + 3 + length
    (rows_of t) = omega arith in
    rw (i, n) at m

table_of : (d : Bool) (c : Context) (t : Table) (ts : List Record) (z : Context) (first common : List Record)
    (pointers : List ℕ) → PartsKnown first common pointers c
    → name_of t.opening ≡ open_for d → Takes c (open_for d) t.opening
    → Walked d c t (count_n1 (fields_of t.opening)) (count_n2 (fields_of t.opening))
    → Step (after_rows d c t) (end_for d) t.ending ts z
    → PassedTable d c (t.opening ∷ (rows_of t ++ (t.ending ∷ []) ++ ts)) z first common pointers
unfolding after_table Following columns_of
table_of d c t ts z first common pointers k named takes w s =
    let r = t.opening in
    let a = count_n1 (fields_of r) in
    let b = count_n2 (fields_of r) in
    let l = last_for d b in
    let an = takes-announces c (open_for d) r (open-for d) takes in
    let c1 = next c (open_for d) r in
    let heads = (headings-good d first common pointers a l 1 c1 t.headings w.opened.at w.limits.least
    (known-open d first common pointers c c1 a l k w.opened) w.heads-long).0 w.heads-run in
    let us = (units-good d a l 1 (after_headings d c t) t.units w.heads-at w.limits.least w.units-long).0
    w.units-run in
    let few : 1 + length t.lines ≤ l + 1 = (let m = w.lines-many in omega arith) in
    let ls = (lines-good d (kept_of c.seen.bib c.seen.bib001 t.headings) a l 1 (after_units d c t)
    (identification_in (after_units d c t)) ((after_units d c t).track.subentry.records + 2) t.lines w.units-at
    w.limits.least w.units-behind.blank
    (keeps-rows w.opened w.heads-behind w.units-behind) few refl refl).0 w.lines-run in
    let end = takes-end (after_rows d c t) (end_for d) t.ending (end-for d) s.takes in
    record {
      part = present t;
      rest = ts;
      split = refl;
      good = pieces-good d t b
          (record {
            opens = named;
            table = record {
              counted = an.first;
              least = w.limits.least;
              most = w.limits.most;
              headings = heads.1;
              units = us.1;
              between = says-as (n1 (fields_of t.ending)) (true_count (after_rows d c t).track (end_for d))
                  (length (rows_of t)) end.0
                  (section-count d (after_rows d c t) ∙ walked-section d c t a b w);
            };
            second = an.second;
            limits = w.limits;
            many = w.lines-many;
            lines = ls.1;
            ends = s.named;
          });
      fit = heads.2;
      found = heads.3;
      flags = ls.2;
      follows = (
        here_of c (open_for d) r (open-for d).inside takes,
        following-as (identification_in c) (identification_in c) (c.track.subentry.records + 3)
            (c.track.subentry.records + 2 + 1) (rows_of t ++ (t.ending ∷ [])) refl (omega arith)
            (following-append (identification_in c) (c.track.subentry.records + 3) (rows_of t) (t.ending ∷ [])
            (walked-following d c t a b w (identification_in c) (c.track.subentry.records + 3) refl refl heads.0
            us.0 ls.0) (
              here-marked-ending d c t a b t.ending w
                  (end_marked d (after_rows d c t) t.ending
                  (takes-marked (after_rows d c t) (end_for d) t.ending s.takes)),
              tt,
            )),
      );
      behind = walked-behind d c t b w;
      passes = s.passes;
    }

pub last-least : (d : Bool) (a b : ℕ) → Limits d a b → 1 ≤ last_for d b
last-least false a b l = omega arith
last-least true a b l = l.data-least refl

-- The judge's counts say how many records each row takes, so the walk is cut in this order: the record that announces
-- the section, headings, units, lines, END. Each cut (`pass-row`, `pass-lines`) hands on the rest of the walk, in the
-- context behind the row. What all rows have shown is collected in `Walked`, and `table_of` reads the definition's
-- clauses off it.
pub pass-table : (d : Bool) (c : Context) (rs : List Record) (z : Context) (first common : List Record)
    (pointers : List ℕ)
    → PartsKnown first common pointers c → ((r : Record) → role_of c r ≡ one_of (open_for d) (no_for d) (name_of r))
    → is_done c.phase ≡ false → (d ≡ false → c.seen.common ≡ []) → is_done z.phase ≡ true → Passes c rs z
    → PassedTable d c rs z first common pointers
pass-table d c rs z first common pointers k due going none done p =
    rest_of c rs z going done p
    (λ r ts split q.
    rw split
    (pass-either c (open_for d) (no_for d) r ts z (differ-for d) (due r) q
    (λ s.
    let a = count_n1 (fields_of r) in
    let b = count_n2 (fields_of r) in
    let l = last_for d b in
    let an = takes-announces c (open_for d) r (open-for d) s.takes in
    let lim = limits_of d a b an.limit1 an.limit2 in
    let o = after_open d c r a b refl refl lim in
    let c1 = next c (open_for d) r in
    let m = last-least d a b lim in
    pass-row d headings a l 1 m (records_for a) c1 ts z (in_row d headings a l 1 c1 o.at lim.least) done
    s.passes
    (λ hs ys split1 l1 run1 at1 p1.
    let c2 = after_run (role_for headings d) c1 hs in
    let b1 = behind-headings d a l 1 a c1 hs o.at lim.least l1 run1 in
    pass-row d units a l 1 m (records_for a) c2 ys z (in_row d units a l 1 c2 at1 lim.least) done p1
    (λ us ys2 split2 l2 run2 at2 p2.
    let c3 = after_run (role_for units d) c2 us in
    let b2 = behind-units d a l 1 a c2 us at1 lim.least l2 run2 in
    pass-lines d a l l 1 c3 ys2 z at2 lim.least b2.blank (omega arith) done p2
    (λ rows ys3 split3 l3 run3 p3.
    let c4 = after_lines d c3 rows in
    let b3 = behind-lines d a l 1 c3 rows at2 lim.least b2.blank (omega arith) run3 in
    rest_of c4 ys3 z (ap is_done b3.at.phase ∙ phase-open d) done p3
    (λ e ts' split4 p4.
    let st = pass-only c4 (end_for d) e ts' z
    (table-end-role c4 d values a l (1 + length rows) a e b3.at (omega arith)) p4 in
    let t : Table = record { opening = r; headings = hs; units = us; lines = rows; ending = e } in
    rw (split1 ∙ ap (λ (x : List Record). hs ++ x) (split2 ∙ ap (λ (x : List Record). us ++ x)
    (split3 ∙ ap (λ (x : List Record). concat rows ++ x) split4)) ∙ rows-grouped hs us (concat rows) e ts')
    (table_of d c t ts' z first common pointers k s.named s.takes
    (record {
      limits = lim;
      opened = o;
      heads-long = l1;
      heads-run = run1;
      heads-at = at1;
      heads-behind = b1;
      units-long = l2;
      units-run = run2;
      units-at = at2;
      units-behind = b2;
      lines-many = let x = l3 in omega arith;
      lines-run = run3;
      lines-behind = b3;
    }) st))))))
    (λ s. pass-none d c r ts z first common pointers none s)))

-- A later subentry with its records: the judge goes over them exactly when it is good. Assumes nothing.
use Prim.Native.Nat.{ℕ, ◌+◌, ◌<◌, ◌≤◌}
use mathlib.Core.Path.{◌≡◌, refl, sym, ◌∙◌, ap}
use mathlib.Core.Bool.{true, false}
use mathlib.Core.List.{List, [], ◌∷◌, ◌++◌, append_assoc}
use native.Mathlib.Omega.{arith}
use lib.ListN.{length, length-append}
use Rattle.laws.proofs.Booleans.{differ}
use Rattle.laws.proofs.Listing.{all_left, all-places, all_right, places-all}
use Rattle.laws.specs.Walk.{All}
use Rattle.laws.specs.Blocks.{joined}
use Rattle.paper_record.specs.Word.{pointer_of}
use Rattle.paper_record.specs.Identifier.{SUBENT, ENDSUBENT}
use Rattle.paper_record.specs.Expected.{identification_for}
use Rattle.paper_rules.specs.State.{Context}
use Rattle.paper_rules.specs.Limits.{LAST-SUBENTRY}
use Rattle.paper_entry.specs.Judging.{role_of}
use Rattle.paper_entry.specs.Verdict.{is_done}
use Rattle.rules_plain.specs.Places.{cell, Long}
use Rattle.good.specs.Parts.{Record, bib_records, table_records, Subentry001, Later, subent, body_of, later_records}
use Rattle.good.specs.Marks.{Following, name_of}
use Rattle.good.specs.Bib.{texts_of_part}
use Rattle.good.specs.Subentries.{own_number, pointers_known, Occurs, GoodLater}
use Rattle.good.specs.Totals.{keywords_in, lines_in, numbers_of}
use Rattle.good.proofs.Steps.{next, Passes, next-pass}
use Rattle.good.proofs.Runs.{only-role, pass-only, rest_of, Step}
use Rattle.good.proofs.Moves.{Moved, moved_on, recount}
use Rattle.good.proofs.Marks.{following-append, following-right, following-as, following-long}
use Rattle.good.proofs.Systems.{identification_in}
use Rattle.good.proofs.Pointers.{occurs-found, found-occurs}
use Rattle.good.proofs.TableWalked.{heading_rows, columns_in, after_table, BehindTable}
use Rattle.good.proofs.TablesPassed.{pass-table}
use Rattle.good.proofs.TablesGood.{GoodHere, table-behind, table-pass, grouped-rows}
use Rattle.good.proofs.Subentries.{texts-long, rows_long, part-shown, part-headings, data-due, end-due}
use Rattle.good.proofs.Subentries.{encloses-of, of-encloses}
use Rattle.good.proofs.FlagParts.{later-flags}
use Rattle.good.proofs.SubentryHeads.{after_head, Head, pass-head, HeadGood, good-head, head-pass, Begun}
use Rattle.good.proofs.LaterContexts.{FirstKnown, StandsBehind, headed_by, after_later, begun-later, stands-later}
use Rattle.good.proofs.LaterContexts.{first-kept, pointers_behind, data-known, occurs-same, data-fit, fit-data}
use Rattle.good.proofs.Openings.{takes-opens, opens-takes, later-number, number-later}

-- ---- the whole body

body-moved : (c : Context) (s : Later) → Head (next c SUBENT s.opening) s.bib s.common
    → BehindTable (headed_by c s) (after_table true (headed_by c s) s.values) true s.values
    → Moved (next c SUBENT s.opening) (after_table true (headed_by c s) s.values) (length (body_of s))
    (keywords_in s.bib) (lines_in s.values) (numbers_of s.common + numbers_of s.values)
body-moved c s h t =
    let x = length-append (bib_records s.bib) (table_records s.common ++ table_records s.values) in
    let y = length-append (table_records s.common) (table_records s.values) in
    recount (length (body_of s)) (keywords_in s.bib) (lines_in s.values)
    (numbers_of s.common + numbers_of s.values)
    (moved_on h.moved t.moved) (omega arith) (omega arith) (omega arith) refl

body-following : (c : Context) (accession : List ℕ) (s : Later) (rows : List Record)
    → Begun (next c SUBENT s.opening) accession (own_number s.opening) rows
    → Head (next c SUBENT s.opening) s.bib s.common
    → Following (identification_for accession (own_number s.opening)) 2
    (bib_records s.bib ++ table_records s.common)
    → Following (identification_in (headed_by c s)) ((headed_by c s).track.subentry.records + 2)
    (table_records s.values)
    → Following (identification_for accession (own_number s.opening)) 2 (body_of s)
body-following c accession s rows b h f g =
    let i = identification_for accession (own_number s.opening) in
    let x = h.moved.records in
    let z = b.records in
    let l = length-append (bib_records s.bib) (table_records s.common) in
    rw (append_assoc (bib_records s.bib) (table_records s.common) (table_records s.values)) at
    (following-append i 2 (bib_records s.bib ++ table_records s.common) (table_records s.values) f
    (following-as (identification_in (headed_by c s)) i ((headed_by c s).track.subentry.records + 2)
    (2 + length (bib_records s.bib ++ table_records s.common)) (table_records s.values)
    (rw (h.moved.accession, h.moved.number, b.accession-is, b.number_is)) (omega arith) g))

following-values : (c : Context) (accession : List ℕ) (s : Later) (rows : List Record)
    → Begun (next c SUBENT s.opening) accession (own_number s.opening) rows
    → Head (next c SUBENT s.opening) s.bib s.common
    → Following (identification_for accession (own_number s.opening)) 2 (body_of s)
    → Following (identification_in (headed_by c s)) ((headed_by c s).track.subentry.records + 2)
    (table_records s.values)
following-values c accession s rows b h f =
    let i = identification_for accession (own_number s.opening) in
    let x = h.moved.records in
    let z = b.records in
    following-as i (identification_in (headed_by c s))
    (2 + length (bib_records s.bib) + length (table_records s.common)) ((headed_by c s).track.subentry.records + 2)
    (table_records s.values) (rw (h.moved.accession, h.moved.number, b.accession-is, b.number_is)) (omega arith)
    (following-right i (2 + length (bib_records s.bib)) (table_records s.common) (table_records s.values)
    (following-right i 2 (bib_records s.bib) (table_records s.common ++ table_records s.values) f))

-- ---- from the walk to the subentry

pub record PassedLater (c : Context) (r : Record) (ts : List Record) (z : Context) (accession : List ℕ)
    (first : Subentry001) (number m k l n : ℕ) : Type 0 where
  pub sub : Later
  pub rest : List Record
  pub split : r ∷ ts ≡ later_records (subent sub) ++ rest
  pub good : GoodLater accession first sub
  pub above : number < own_number sub.opening
  pub most : own_number sub.opening ≤ LAST-SUBENTRY
  pub stands : StandsBehind (after_later c sub) accession first (own_number sub.opening) (m + 1)
      (k + keywords_in sub.bib)
      (l + lines_in sub.values) (n + (numbers_of sub.common + numbers_of sub.values))
  pub passes : Passes (after_later c sub) rest z

later-split : (r : Record) (bib common values : List Record) (e : Record) (ts : List Record)
    → r ∷ (bib ++ (common ++ (values ++ (e ∷ ts)))) ≡ r ∷ (bib ++ (common ++ values) ++ (e ∷ []) ++ ts)
later-split r bib common values e ts = ap (λ (x : List Record). r ∷ x) (simp append_assoc)

-- SUBENT, the head (BIB and COMMON), DATA, ENDSUBENT: each has its theorem, and hands the next one its context. Left
-- for here is what concerns several parts: the headings together, the codes of flags, which may stand in two BIBs, the
-- pointers of DATA, which may stand in three other parts, the marks and the number of all records between SUBENT and
-- ENDSUBENT, and that the number is above the last one.
pub pass-later : (c : Context) (accession : List ℕ) (first : Subentry001) (number m k l n : ℕ) (r : Record)
    (ts : List Record) (z : Context) → StandsBehind c accession first number m k l n → FirstKnown accession first
    → 1 ≤ number → 1 ≤ m → is_done z.phase ≡ true → Step c SUBENT r ts z
    → PassedLater c r ts z accession first number m k l n
unfolding after_later
pass-later c accession first number m k l n r ts z g f one some done s =
    let rows = heading_rows first.common in
    let (opens, due) = takes-opens false c r accession g.accession-is s.named s.takes in
    let q0 = g.subentries-are in
    let q1 = g.number_is in
    let (above, most) = later-number c (own_number r) (omega arith) due in
    let ne : own_number r ≡ 1 → ⊥ = λ e. omega arith in
    let c1 = next c SUBENT r in
    let b = begun-later c accession first number m k l n r g f.long-rows in
    let h = pass-head c1 ts z accession (own_number r) rows (columns_in first.common) b
    (part-shown false first.common f.good.common) done s.passes in
    let c3 = after_head c1 h.bib h.common in
    let long = following-long (identification_for accession (own_number r)) 2
    (bib_records h.bib ++ table_records h.common)
    h.follows in
    let long-texts = texts-long h.bib (all_left Long (bib_records h.bib) (table_records h.common) long) in
    let long-rows = rows_long h.common (all_right Long (bib_records h.bib) (table_records h.common) long) in
    let known = data-known c accession first number m k l n r h.bib h.common g f long-rows h.head in
    let first-texts = first-kept c accession first number m k l n r g in
    let t = pass-table true c3 h.rest z rows (heading_rows h.common)
    (pointers_behind first h.bib h.common) known
    (data-due c3 h.head.phase (λ e. ne (sym (h.head.moved.number ∙ b.number_is) ∙ e)))
    (ap is_done h.head.phase) (λ e. differ e) done h.passes in
    let c4 = after_table true c3 t.part in
    rest_of c4 t.rest z (ap is_done t.behind.phase) done t.passes
    (λ e ts' split q.
    let w = pass-only c4 ENDSUBENT e ts' z (end-due c4 t.behind.phase e) q in
    let sub : Later = record { opening = r; bib = h.bib; common = h.common; values = t.part; ending = e } in
    record {
      sub = sub;
      rest = ts';
      split =
          ap (λ (x : List Record). r ∷ x)
          (h.split
          ∙ ap (λ (x : List Record). bib_records h.bib ++ (table_records h.common ++ x))
          (t.split ∙ ap (λ (x : List Record). table_records t.part ++ x) split))
          ∙ later-split r (bib_records h.bib) (table_records h.common) (table_records t.part) e ts';
      good = record {
        opens = opens;
        bib = h.good-bib;
        common = h.good-common;
        values = t.good;
        common_headings = rw (part-headings first.common) h.fit;
        data_headings = data-fit first h.common t.part f.good.common h.good-common t.fit;
        common_flags =
            (later-flags h.bib first.bib h.common (joined (texts_of_part h.bib)) c1.seen.bib001 refl
            first-texts
            (record {
              good-bib = h.good-bib;
              long-texts = long-texts;
              long-rows = long-rows;
            }) f.good.bib f.long-texts).0 h.flags;
        data_flags =
            (later-flags h.bib first.bib t.part c3.seen.bib c3.seen.bib001 h.head.bib-part
            (h.head.moved.bib001 ∙ first-texts)
            (record {
              good-bib = h.good-bib;
              long-texts = long-texts;
              long-rows = rows_long t.part
                  (following-long (identification_in c3) (c3.track.subentry.records + 2) (table_records t.part)
                  t.follows);
            }) f.good.bib f.long-texts).0 t.flags;
        pointers = rw (part-headings t.part)
            (all-places (Occurs (pointers_known first sub)) (cell (heading_rows t.part)) 0 (columns_in t.part)
            (λ x d u.
            found-occurs (pointers_known first sub) (cell (heading_rows t.part) x)
            (λ p.
            sym (occurs-same first h.bib h.common long-texts f.long-texts long-rows f.long-rows
            (part-shown false h.common h.good-common) (part-shown false first.common f.good.common)
            (pointer_of (cell (heading_rows t.part) x)) p)
            ∙ t.found refl x (omega arith) p)));
        encloses = encloses-of c1 c4 accession r e (body_of sub) (keywords_in h.bib) (lines_in t.part)
            (numbers_of h.common + numbers_of t.part) b.accession-is b.number_is b.records
            (body-moved c sub h.head t.behind)
            (body-following c accession sub rows b h.head h.follows t.follows) w.named w.takes;
      };
      above = rw q1 at above;
      most = most;
      stands = stands-later c accession first number m k l n sub g ne h.head t.behind;
      passes = w.passes;
    })

-- ---- from the subentry to the walk

record Longs (s : Later) : Type 0 where
  texts : All Long (texts_of_part s.bib)
  rows : All Long (heading_rows s.common)
  data-rows : All Long (heading_rows s.values)

longs : (accession : List ℕ) (first : Subentry001) (s : Later) → GoodLater accession first s → Longs s
longs accession first s p =
    let a = following-long (identification_for accession (own_number s.opening)) 2 (body_of s) p.encloses.between in
    let b = all_right Long (bib_records s.bib) (table_records s.common ++ table_records s.values) a in
    record {
      texts = texts-long s.bib (all_left Long (bib_records s.bib)
          (table_records s.common ++ table_records s.values) a);
      rows = rows_long s.common (all_left Long (table_records s.common) (table_records s.values) b);
      data-rows = rows_long s.values (all_right Long (table_records s.common) (table_records s.values) b);
    }

pub later-head : (c : Context) (accession : List ℕ) (first : Subentry001) (number m k l n : ℕ) (s : Later)
    → StandsBehind c accession first number m k l n → FirstKnown accession first → GoodLater accession first s
    → HeadGood (next c SUBENT s.opening) accession (own_number s.opening) (heading_rows first.common)
    (columns_in first.common) s.bib s.common (table_records s.values)
later-head c accession first number m k l n s g f p =
    let long = longs accession first s p in
    record {
      begun = begun-later c accession first number m k l n s.opening g f.long-rows;
      shown-rows = part-shown false first.common f.good.common;
      good-bib = p.bib;
      good-common = p.common;
      fit = rw (← part-headings first.common) p.common_headings;
      flags =
          (later-flags s.bib first.bib s.common (joined (texts_of_part s.bib))
          (next c SUBENT s.opening).seen.bib001 refl
          (first-kept c accession first number m k l n s.opening g)
          (record {
            good-bib = p.bib;
            long-texts = long.texts;
            long-rows = long.rows;
          }) f.good.bib f.long-texts).1 p.common_flags;
      follows = p.encloses.between;
    }

headed : (c : Context) (accession : List ℕ) (first : Subentry001) (number m k l n : ℕ) (s : Later)
    → StandsBehind c accession first number m k l n → FirstKnown accession first → GoodLater accession first s
    → Head (next c SUBENT s.opening) s.bib s.common
headed c accession first number m k l n s g f p =
    good-head (next c SUBENT s.opening) accession (own_number s.opening) (heading_rows first.common)
    (columns_in first.common) s.bib s.common (table_records s.values)
    (later-head c accession first number m k l n s g f p)

values-here : (c : Context) (accession : List ℕ) (first : Subentry001) (number m k l n : ℕ) (s : Later)
    → StandsBehind c accession first number m k l n → FirstKnown accession first → GoodLater accession first s
    → GoodHere true (headed_by c s) s.values (heading_rows first.common) (heading_rows s.common)
    (pointers_behind first s.bib s.common)
values-here c accession first number m k l n s g f p =
    let long = longs accession first s p in
    let h = headed c accession first number m k l n s g f p in
    record {
      good = p.values;
      fit = fit-data first s.common s.values f.good.common p.common p.values p.data_headings;
      found = λ e x u q.
          occurs-same first s.bib s.common long.texts f.long-texts long.rows f.long-rows
          (part-shown false s.common p.common) (part-shown false first.common f.good.common)
          (pointer_of (cell (heading_rows s.values) x)) q
          ∙ occurs-found (pointers_known first s) (cell (heading_rows s.values) x)
          (places-all (Occurs (pointers_known first s)) (cell (heading_rows s.values)) 0 (columns_in s.values)
          (rw (part-headings s.values) at p.pointers) x (omega arith) (omega arith)) q;
      flags =
          (later-flags s.bib first.bib s.values (headed_by c s).seen.bib (headed_by c s).seen.bib001
          h.bib-part (h.moved.bib001 ∙ first-kept c accession first number m k l n s.opening g)
          (record {
            good-bib = p.bib;
            long-texts = long.texts;
            long-rows = long.data-rows;
          }) f.good.bib f.long-texts).1 p.data_flags;
      follows = following-values c accession s (heading_rows first.common)
          (begun-later c accession first number m k l n s.opening g f.long-rows) h p.encloses.between;
    }

values-behind : (c : Context) (accession : List ℕ) (first : Subentry001) (number m k l n : ℕ) (s : Later)
    → StandsBehind c accession first number m k l n → FirstKnown accession first → GoodLater accession first s
    → BehindTable (headed_by c s) (after_table true (headed_by c s) s.values) true s.values
values-behind c accession first number m k l n s g f p =
    table-behind true (headed_by c s) s.values (heading_rows first.common) (heading_rows s.common)
    (pointers_behind first s.bib s.common)
    (data-known c accession first number m k l n s.opening s.bib s.common g f (longs accession first s p).rows
    (headed c accession first number m k l n s g f p))
    (λ e. differ e) (values-here c accession first number m k l n s g f p)

pub later-stands : (c : Context) (accession : List ℕ) (first : Subentry001) (number m k l n : ℕ) (s : Later)
    → StandsBehind c accession first number m k l n → FirstKnown accession first → 1 ≤ number
    → number < own_number s.opening → GoodLater accession first s
    → StandsBehind (after_later c s) accession first (own_number s.opening) (m + 1) (k + keywords_in s.bib)
    (l + lines_in s.values) (n + (numbers_of s.common + numbers_of s.values))
later-stands c accession first number m k l n s g f one above p =
    stands-later c accession first number m k l n s g (λ e. omega arith)
    (headed c accession first number m k l n s g f p) (values-behind c accession first number m k l n s g f p)

pub later-pass : (c : Context) (accession : List ℕ) (first : Subentry001) (number m k l n : ℕ) (s : Later)
    (rest : List Record)
    (z : Context) → StandsBehind c accession first number m k l n → FirstKnown accession first → 1 ≤ number → 1 ≤ m
    → number < own_number s.opening → own_number s.opening ≤ LAST-SUBENTRY
    → role_of c s.opening ≡ SUBENT → GoodLater accession first s
    → Passes (after_later c s) rest z → Passes c (later_records (subent s) ++ rest) z
unfolding after_later
later-pass c accession first number m k l n s rest z g f one some above most role p q =
    let r = s.opening in
    let rows = heading_rows first.common in
    let c1 = next c SUBENT r in
    let c3 = headed_by c s in
    let c4 = after_table true c3 s.values in
    let b = begun-later c accession first number m k l n r g f.long-rows in
    let hg = later-head c accession first number m k l n s g f p in
    let h = headed c accession first number m k l n s g f p in
    let t = values-behind c accession first number m k l n s g f p in
    let q0 = g.subentries-are in
    let q1 = g.number_is in
    let te = of-encloses c1 c4 accession r s.ending (body_of s) (keywords_in s.bib) (lines_in s.values)
    (numbers_of s.common + numbers_of s.values) b.accession-is b.number_is b.records (body-moved c s h t)
    p.encloses in
    next-pass c SUBENT r (body_of s ++ (s.ending ∷ []) ++ rest) z role
    (opens-takes false c r accession g.accession-is p.opens
    (number-later c (own_number r) (omega arith) (omega arith) most))
    (rw (grouped-rows (bib_records s.bib) (table_records s.common) (table_records s.values) s.ending rest)
    (head-pass c1 accession (own_number r) rows (columns_in first.common) s.bib s.common
    (table_records s.values)
    (table_records s.values ++ (s.ending ∷ rest)) z hg
    (table-pass true c3 s.values (s.ending ∷ rest) z rows (heading_rows s.common)
    (pointers_behind first s.bib s.common)
    (data-known c accession first number m k l n r s.bib s.common g f (longs accession first s p).rows h)
    (data-due c3 h.phase (λ e. one_below (sym (h.moved.number ∙ b.number_is) ∙ e)))
    (values-here c accession first number m k l n s g f p)
    (next-pass c4 ENDSUBENT s.ending rest z
    (end-due c4 t.phase s.ending ∙ only-role ENDSUBENT (name_of s.ending) p.encloses.named) te q))))
  where
    one_below : own_number s.opening ≡ 1 → ⊥
    one_below e = omega arith

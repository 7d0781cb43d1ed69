-- The ranges follow the parts: after each record the bytes of a range are the part that it stands for.
-- Assumes nothing.
use Prim.Native.Nat.{ℕ, ◌+◌, ◌*◌, ◌-◌}
use mathlib.Core.Path.{◌≡◌, refl, sym, ◌∙◌}
use mathlib.Core.Bool.{Bool, true, false, cond, ◌||◌}
use mathlib.Core.List.{List, [], ◌++◌}
use native.Mathlib.Omega.{arith}
use borrow.Author.Tests.{eqb-true}
use lib.Dec.{eqb, leb}
use lib.ListN.{length, drop, get_or, length-append, length-drop}
use lib.Seq.{take_all, drop_at, drop-append-le, take-append-le}
use Rattle.laws.proofs.Booleans.{or-either}
use Rattle.paper_record.specs.Identifier.{ENTRY, SUBENT, NOSUBENT, BIB, NOBIB, ENDBIB, COMMON, NOCOMMON, ENDCOMMON, DATA}
use Rattle.paper_record.specs.Identifier.{NODATA, ENDDATA, ENDSUBENT}
use Rattle.paper_record.specs.Word.{blank_to}
use Rattle.paper_record.specs.declared.types.Index.{Index}
use Rattle.paper_rules.specs.declared.types.Phase.{Phase}
use Rattle.paper_rules.specs.declared.types.Phase.TheVariants.{Opened, InSubentry, InBib, AfterBib, InCommon}
use Rattle.paper_rules.specs.declared.types.Phase.TheVariants.{AfterCommon, InData, AfterData, Between, Done}
use Rattle.paper_rules.specs.declared.types.Range.{Range}
use Rattle.paper_rules.specs.declared.types.Ranges.{Ranges}
use Rattle.paper_rules.specs.declared.types.Table.{Table}
use Rattle.paper_rules.specs.declared.types.Track.{Track}
use Rattle.paper_rules.specs.State.{HEADINGS}
use Rattle.paper_rules.specs.Parts.{bytes_of}
use Rattle.paper_rules.specs.Ranging.{seen_of, Placed, AllPlaced}
use Rattle.paper_rules.specs.Roles.{TEXT, COMMON-HEADING, COMMON-UNIT, COMMON-VALUE, DATA-HEADING, DATA-UNIT}
use Rattle.paper_rules.specs.Roles.{DATA-VALUE, is_heading, opens_subentry}
use Rattle.paper_rules.specs.Role.{role_in}
use Rattle.paper_entry.specs.declared.types.Change.{Change}
use Rattle.paper_entry.specs.declared.types.Change.TheVariants.{Kept, Emptied, Begun, Joined}
use Rattle.paper_entry.specs.Parts.{part_after, empties_bib, bib_change, under_change, table_change, ends001, seen_after}
use Rattle.paper_entry.specs.Due.{leads_to_bib, leads_to_common, leads_to_data, phase_after}
use Rattle.paper_entry.specs.Counted.{track_after, after_inside}
use Rattle.paper_entry.specs.Tally.{units_read, values_read}
use Rattle.paper_entry.specs.Ranging.{range_after, common_after, ranges_after}
use Rattle.laws.proofs.EitherWay.{either_way, no}
use Rattle.paper_entry.proofs.Leads.{bib-led, table-led}
use Rattle.paper_rules.proofs.RolePlaces.{in_bib, in_table, is_text, text_in-bib, heading-in-table}

-- ---- one part

module _ (b r : List ℕ) (n : ℕ) (long : length b ≡ n * 81) where
  -- a range below the record sees nothing of it
  pub range-kept : (g : Range) → Placed g n → bytes_of (b ++ r) g ≡ bytes_of b g
  range-kept g p =
      let x = p.ordered in
      let y = p.below in
      rw (drop-append-le (g.from.0 * 81) b r (omega arith))
      (take-append-le (g.past.0 * 81 - g.from.0 * 81) (drop (g.from.0 * 81) b) r (simp length-drop (omega arith)))

  module _ (wide : length r ≡ 81) where
    emptied : bytes_of (b ++ r) (record { from = record { 0 = n + 1 }; past = record { 0 = n + 1 } }) ≡ []
    emptied = let z : (n + 1) * 81 - (n + 1) * 81 ≡ 0 = omega arith in rw z

    begun : bytes_of (b ++ r) (record { from = record { 0 = n }; past = record { 0 = n + 1 } }) ≡ r
    begun = rw (drop_at b r (n * 81) long) (take_all ((n + 1) * 81 - n * 81) r (omega arith))

    joined : (g : Range) → Placed g n → g.past.0 ≡ n
        → bytes_of (b ++ r) (record { from = g.from; past = record { 0 = n + 1 } }) ≡ bytes_of b g ++ r
    joined g p e =
        let x = drop (g.from.0 * 81) b in
        let o = p.ordered in
        let y : length x ≡ (n - g.from.0) * 81 = simp length-drop (omega arith) in
        rw (
          drop-append-le (g.from.0 * 81) b r (omega arith),
          take_all ((n + 1) * 81 - g.from.0 * 81) (x ++ r) (simp length-append (omega arith)),
          take_all (g.past.0 * 81 - g.from.0 * 81) x (omega arith),
        )

    range-next : (change : Change) (g : Range) (i : Index) → i.0 ≡ n → Placed g n
        → (change ≡ Joined → g.past.0 ≡ n)
        → bytes_of (b ++ r) (range_after change g i) ≡ part_after change (bytes_of b g) r
    unfolding range_after part_after
    range-next Kept g i e p h = range-kept g p
    range-next Emptied g i e p h = rw e emptied
    range-next Begun g i e p h = rw e begun
    range-next Joined g i e p h = rw e (joined g p (h refl))

pub placed-next : (change : Change) (g : Range) (i : Index) → Placed g i.0
    → Placed (range_after change g i) (i.0 + 1)
unfolding range_after
placed-next Kept g i p = omega arith
placed-next Emptied g i p = omega arith
placed-next Begun g i p = omega arith
placed-next Joined g i p = omega arith

-- ---- all parts

-- the part that a record joins reaches up to the record
pub record Reaches (g : Ranges) (i : Index) (role : ℕ) (f : List ℕ) : Type 0 where
  pub bib : bib_change role ≡ Joined → g.bib.past.0 ≡ i.0
  pub under : under_change role f ≡ Joined → g.under.past.0 ≡ i.0
  pub table : table_change role ≡ Joined → g.table.past.0 ≡ i.0

module _ (t : Track) (g : Ranges) (role : ℕ) (fs : List (List ℕ)) where
  kept-further : (x : Range) → Placed x t.records.0 → Placed x (t.records.0 + 1)
  kept-further x p = omega arith

  pub all_placed : AllPlaced g t.records.0 → AllPlaced (ranges_after g t role fs) (t.records.0 + 1)
  unfolding ranges_after common_after
  all_placed p =
      record {
        bib = placed-next (bib_change role) g.bib t.records p.bib;
        under = placed-next (under_change role (get_or fs 0 [])) g.under t.records p.under;
        bib001 = either_way (λ (x : Range). Placed x (t.records.0 + 1)) (ends001 t role) g.bib g.bib001
            (kept-further _ p.bib) (kept-further _ p.bib001);
        common001 = either_way (λ (x : Range). Placed x (t.records.0 + 1)) (ends001 t role) g.common
            g.common001 (kept-further _ p.common) (kept-further _ p.common001);
        common =
            either_way (λ (x : Range). Placed x (t.records.0 + 1)) (opens_subentry role) _ _
            (placed-next Emptied g.common t.records p.common)
            (either_way (λ (x : Range). Placed x (t.records.0 + 1)) (eqb role ENDCOMMON) g.table g.common
            (kept-further _ p.table) (kept-further _ p.common));
        table = placed-next (table_change role) g.table t.records p.table;
      }

  module _ (b r : List ℕ) (long : length b ≡ t.records.0 * 81) (wide : length r ≡ 81) where
    kept : (x : Range) → Placed x t.records.0 → bytes_of (b ++ r) x ≡ bytes_of b x
    kept x p = range-kept b r t.records.0 long x p

    of_two : (e : Bool) (x y : Range) → Placed x t.records.0 → Placed y t.records.0
        → bytes_of (b ++ r) (cond e x y) ≡ cond e (bytes_of b x) (bytes_of b y)
    of_two true x y p q = kept x p
    of_two false x y p q = kept y q

    common-next : AllPlaced g t.records.0
        → bytes_of (b ++ r) (common_after g role t.records)
        ≡ cond (opens_subentry role) [] (cond (eqb role ENDCOMMON) (bytes_of b g.table) (bytes_of b g.common))
    unfolding common_after range_after
    common-next p = by-test (opens_subentry role)
      where
        by-test : (e : Bool)
            → bytes_of (b ++ r)
            (cond e (record { from = record { 0 = t.records.0 + 1 }; past = record { 0 = t.records.0 + 1 } })
            (cond (eqb role ENDCOMMON) g.table g.common))
            ≡ cond e [] (cond (eqb role ENDCOMMON) (bytes_of b g.table) (bytes_of b g.common))
        by-test true = emptied b r t.records.0 long wide
        by-test false = of_two (eqb role ENDCOMMON) g.table g.common p.table p.common

    pub seen_next : AllPlaced g t.records.0 → Reaches g t.records role (get_or fs 0 [])
        → seen_of (b ++ r) (ranges_after g t role fs) ≡ seen_after (seen_of b g) t role fs r
    unfolding ranges_after seen_after
    seen_next p h =
        rw (
          range-next b r t.records.0 long wide (bib_change role) g.bib t.records refl p.bib h.bib,
          range-next b r t.records.0 long wide (under_change role (get_or fs 0 [])) g.under t.records refl
              p.under h.under,
          range-next b r t.records.0 long wide (table_change role) g.table t.records refl p.table
              h.table,
          of_two (ends001 t role) g.bib g.bib001 p.bib p.bib001,
          of_two (ends001 t role) g.common g.common001 p.common p.common001,
          common-next p,
        )

-- ---- which parts reach up to the record

-- in BIB its records, in the headings of a table those, reach up to the record in hand
pub record Joins (p : Phase) (t : Track) (g : Ranges) : Type 0 where
  pub bib : in_bib p ≡ true → g.bib.past.0 ≡ t.records.0
  pub under : in_bib p ≡ true → g.under.past.0 ≡ t.records.0
  pub table : in_table p ≡ true → eqb t.table.row HEADINGS ≡ true → g.table.past.0 ≡ t.records.0

-- a change that joins is that of a text record, or of a heading record
joined-only : (a b : Bool) → cond a Emptied (cond b Joined Kept) ≡ Joined → b ≡ true
joined-only true b e = let z : ◌≡◌ {A = ℕ} 0 1 = cc in absurd (omega arith)
joined-only false true e = refl
joined-only false false e = let z : ◌≡◌ {A = ℕ} 0 1 = cc in absurd (omega arith)

joined-under : (a b c : Bool) → cond a Emptied (cond b (cond c Joined Begun) Kept) ≡ Joined → b ≡ true
joined-under true b c e = let z : ◌≡◌ {A = ℕ} 0 1 = cc in absurd (omega arith)
joined-under false true c e = refl
joined-under false false c e = let z : ◌≡◌ {A = ℕ} 0 1 = cc in absurd (omega arith)

pub reaches : (p : Phase) (t : Track) (g : Ranges) (k : ℕ) (f : List ℕ) → Joins p t g
    → Reaches g t.records (role_in p t k) f
unfolding bib_change under_change table_change
reaches p t g k f j =
    let role : ℕ = role_in p t k in
    record {
      bib = λ e. j.bib (text_in-bib p t k (joined-only (empties_bib role) (is_text role) e));
      under = λ e. j.under (text_in-bib p t k (joined-under (empties_bib role) (is_text role) (blank_to 10 f) e));
      table =
          λ e.
          let h = heading-in-table p t k (joined-only (eqb role COMMON || eqb role DATA) (is_heading role) e) in
          j.table h.table h.row;
    }

-- ---- and they do so after the record

-- a range that is emptied, begun or joined reaches up to the next record
past-bib : (o x y : Bool) (g : Range) (i : Index) → (x || y) ≡ true
    → (range_after (cond (o || x) Emptied (cond y Joined Kept)) g i).past.0 ≡ i.0 + 1
unfolding range_after
past-bib true x y g i e = refl
past-bib false true y g i e = refl
past-bib false false true g i e = refl
past-bib false false false g i e = no e

past-under : (o x y z : Bool) (g : Range) (i : Index) → (x || y) ≡ true
    → (range_after (cond (o || x) Emptied (cond y (cond z Joined Begun) Kept)) g i).past.0 ≡ i.0 + 1
unfolding range_after
past-under true x y z g i e = refl
past-under false true y z g i e = refl
past-under false false true true g i e = refl
past-under false false true false g i e = refl
past-under false false false z g i e = no e

-- behind units and values no headings are due
units_row : (x : Table) → eqb (units_read x).row HEADINGS ≡ false
unfolding units_read
units_row x = either_way (λ (y : Table). eqb y.row HEADINGS ≡ false) (leb x.rest 6) _ _ refl refl

values-row : (x : Table) (n : ℕ) → eqb (values_read x n).row HEADINGS ≡ false
unfolding values_read
values-row x n = either_way (λ (y : Table). eqb y.row HEADINGS ≡ false) (leb x.rest 6) _ _ refl refl

module _ (t : Track) (g : Range) (fs : List (List ℕ)) (r : List ℕ) where
  -- what is to be shown of each record that leads to a table
  abbrev Shown : ℕ → Type 0
  Shown role = eqb (track_after t role fs r).table.row HEADINGS ≡ true
      → (range_after (table_change role) g t.records).past.0 ≡ t.records.0 + 1

  opens : (role : ℕ) → (role ≡ COMMON → Shown role)
  unfolding table_change range_after
  opens role e h = rw e

  opens-data : (role : ℕ) → (role ≡ DATA → Shown role)
  unfolding table_change range_after
  opens-data role e h = rw e

  heads : (role : ℕ) → role ≡ COMMON-HEADING → Shown role
  unfolding table_change range_after
  heads role e h = rw e

  heads-data : (role : ℕ) → role ≡ DATA-HEADING → Shown role
  unfolding table_change range_after
  heads-data role e h = rw e

  units : (role : ℕ) → role ≡ COMMON-UNIT → Shown role
  unfolding track_after after_inside
  units role e h = no (sym (units_row t.table) ∙ (rw e at h))

  units-data : (role : ℕ) → role ≡ DATA-UNIT → Shown role
  unfolding track_after after_inside
  units-data role e h = no (sym (units_row t.table) ∙ (rw e at h))

  values : (role : ℕ) → role ≡ COMMON-VALUE → Shown role
  unfolding track_after after_inside
  values role e h = no (sym (values-row t.table _) ∙ (rw e at h))

  values-data : (role : ℕ) → role ≡ DATA-VALUE → Shown role
  unfolding track_after after_inside
  values-data role e h = no (sym (values-row t.table _) ∙ (rw e at h))

  table-reaches : (role : ℕ) → (leads_to_common role || leads_to_data role) ≡ true → Shown role
  table-reaches role e =
      or-either (leads_to_common role) (leads_to_data role) e
      (λ c. or-either (eqb role COMMON) _ c (λ q. opens role (eqb-true role COMMON q))
      (λ c. or-either (eqb role COMMON-HEADING) _ c (λ q. heads role (eqb-true role COMMON-HEADING q))
      (λ c. or-either (eqb role COMMON-UNIT) (eqb role COMMON-VALUE) c (λ q. units role (eqb-true role COMMON-UNIT q))
      (λ q. values role (eqb-true role COMMON-VALUE q)))))
      (λ c. or-either (eqb role DATA) _ c (λ q. opens-data role (eqb-true role DATA q))
      (λ c. or-either (eqb role DATA-HEADING) _ c (λ q. heads-data role (eqb-true role DATA-HEADING q))
      (λ c. or-either (eqb role DATA-UNIT) (eqb role DATA-VALUE) c (λ q. units-data role (eqb-true role DATA-UNIT q))
      (λ q. values-data role (eqb-true role DATA-VALUE q)))))

pub joins-next : (t : Track) (g : Ranges) (role : ℕ) (fs : List (List ℕ)) (r : List ℕ)
    → (track_after t role fs r).records.0 ≡ t.records.0 + 1
    → Joins (phase_after role) (track_after t role fs r) (ranges_after g t role fs)
unfolding ranges_after bib_change under_change
joins-next t g role fs r e =
    record {
      bib = λ q. past-bib (opens_subentry role) (eqb role BIB) (eqb role TEXT) g.bib t.records (bib-led role q) ∙
          sym e;
      under = λ q. past-under (opens_subentry role) (eqb role BIB) (eqb role TEXT) (blank_to 10 (get_or fs 0 []))
          g.under t.records (bib-led role q) ∙ sym e;
      table = λ q h. table-reaches t g.table fs r role (table-led role q) h ∙ sym e;
    }

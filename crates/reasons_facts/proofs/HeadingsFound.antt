-- A heading that is found stands on a record of the entry: those of a section on the records of its range, those to
-- the left on the record in hand, which comes next behind the third range. Assumes nothing.
use Prim.Native.Nat.{ℕ, zero, suc, ◌+◌, ◌-◌, ◌*◌, ◌/◌, ◌<◌, ◌≤◌}
use Rattle.std.specs.Prelude.{Option, Some, None}
use mathlib.Core.Path.{◌≡◌, refl, sym, ◌∙◌, subst}
use mathlib.Core.Bool.{Bool, true, false, cond}
use mathlib.Core.List.{List}
use native.Mathlib.Omega.{arith}
use borrow.Author.Tests.{ltb-true}
use lib.Dec.{ltb}
use lib.ListN.{length, drop, length-drop}
use lib.Seq.{length-take-le}
use Rattle.laws.specs.Turns.{after, go, out, run}
use Rattle.paper_rules.specs.declared.types.HeadingPlace.{HeadingPlace}
use Rattle.paper_rules.specs.declared.types.Range.{Range}
use Rattle.paper_rules.specs.declared.types.Ranges.{Ranges}
use Rattle.paper_rules.specs.declared.types.Track.{Track}
use Rattle.paper_rules.specs.Limits.{MOST-RECORDS}
use Rattle.paper_rules.specs.Parts.{bytes_of, Lent}
use Rattle.paper_rules.specs.Ranging.{Placed, Stands}
use Rattle.paper_rules.specs.Earlier.{Earlier, earlier, part_of, heading_count, headings_in, equal_in, heading_found}
use Rattle.paper_rules.specs.Earlier.{section_turn, nowhere, equal_heading}
use Rattle.paper_reasons.specs.Reason.{heading_records}
use Rattle.reasons_places.specs.Inside.{Inside}
use Rattle.reasons_facts.specs.Lying.{Lying}

-- what holds of nothing and of each earlier heading holds of the one that is found
module _ (f : List ℕ) (e : Earlier) (P : Option HeadingPlace → Type 0) (none : P None)
    (some : (s m : ℕ) → s < 4 → m < heading_count (part_of e s) e.left s
    → P (Some (heading_found (headings_in e.table) s m))) where
  abbrev count_in : ℕ → ℕ
  count_in s = heading_count (part_of e s) e.left s

  abbrev place_in : ℕ → ℕ
  place_in s = equal_in f (part_of e s) (count_in s)

  found-next : (n s : ℕ) → s < 4 → P (run (section_turn f e) nowhere tt (s + 1) n)
      → P (run (section_turn f e) nowhere tt s (suc n))
  unfolding run
  found-next n s l rest = by-test (ltb (place_in s) (count_in s)) refl
    where
      by-test : (b : Bool) → ltb (place_in s) (count_in s) ≡ b
          → P (after (cond b (out (Some (heading_found (headings_in e.table) s (place_in s)))) (go tt))
          (λ u. run (section_turn f e) nowhere u (s + 1) n))
      by-test true q = some s (place_in s) l (ltb-true (place_in s) (count_in s) q)
      by-test false q = rest

  found_from : (n s : ℕ) → s + n ≤ 4 → P (run (section_turn f e) nowhere tt s n)
  unfolding run
  found_from zero s l = none
  found_from (suc n) s l = found-next n s (omega arith) (found_from n (s + 1) (omega arith))

  pub found-so : P (equal_heading f e)
  unfolding equal_heading
  found-so = found_from 4 0 (omega arith)

-- ---- by numbers

in-range : (from past n m : ℕ) → from ≤ past → past ≤ MOST-RECORDS → n ≡ past * 81 - from * 81 → m < n / 81 * 6
    → from + (m + 1 - 1) / 6 ≤ MOST-RECORDS
in-range from past n m a b e l = omega arith

in-hand : (from past n k m : ℕ) → from ≤ past → past ≤ MOST-RECORDS → n ≡ past * 81 - from * 81 → k ≤ 6 → m < k
    → from + (n / 81 * 6 + (m + 1) - 1) / 6 ≤ MOST-RECORDS
in-hand from past n k m a b e h l = omega arith

module _ (before : List ℕ) (g : Range) (lent : Lent before g) where
  bytes-long : length (bytes_of before g) ≡ g.past.0 * 81 - g.from.0 * 81
  bytes-long =
      let a = lent.ordered in
      let b = lent.within in
      length-take-le (g.past.0 * 81 - g.from.0 * 81) (drop (g.from.0 * 81) before) (simp length-drop (omega
      arith))

-- ---- in an entry

abbrev Few : Ranges → Option HeadingPlace → Type 0
Few g None = Unit {0}
Few g (Some at) = (1 ≤ at.column) × ((heading_records g at.section).from.0 + (at.column - 1) / 6 ≤ MOST-RECORDS)

module _ (g : Ranges) (before r : List ℕ) (k : ℕ) (lying : Lying g before) (few : k ≤ 6) where
  abbrev those : Earlier
  those = earlier (bytes_of before g.common001) (bytes_of before g.common) (bytes_of before g.table) r k

  past-few : (x : Range) → Lent before x → x.past.0 ≤ MOST-RECORDS
  past-few x lent =
      let a = lent.within in
      let b = lying.few in
      omega arith

  from-few : (x : Range) → Lent before x → (m : ℕ) → m < headings_in (bytes_of before x)
      → x.from.0 + (m + 1 - 1) / 6 ≤ MOST-RECORDS
  from-few x lent m l =
      in-range x.from.0 x.past.0 (length (bytes_of before x)) m lent.ordered (past-few x lent)
      (bytes-long before x lent) l

  inside : (s m : ℕ) → s < 4 → m < heading_count (part_of those s) k s
      → Few g (Some (heading_found (headings_in those.table) s m))
  inside zero m l h = (omega arith, from-few g.common001 lying.common001 m h)
  inside (suc zero) m l h = (omega arith, from-few g.common lying.common m h)
  inside (suc (suc zero)) m l h = (omega arith, from-few g.table lying.table m h)
  inside (suc (suc (suc zero))) m l h = (
    omega arith,
    in-hand g.table.from.0 g.table.past.0 (length (bytes_of before g.table)) k m lying.table.ordered
        (past-few g.table lying.table) (bytes-long before g.table lying.table) few h,
  )
  inside (suc (suc (suc (suc s)))) m l h = absurd (omega arith)

  pub heading-inside : (f : List ℕ) (found : Option HeadingPlace) → found ≡ equal_heading f those → Inside g found
  heading-inside f found e =
      record { place = λ at q. subst (Few g) (sym e ∙ q) (found-so f those (Few g) tt inside) }

-- where the judge's state stands
module _ (t : Track) (g : Ranges) (before : List ℕ) (stands : Stands t g before) where
  lent_of : (x : Range) → Placed x t.records.0 → Lent before x
  lent_of x p =
      let a = p.below in
      let b = stands.long in
      record { ordered = p.ordered; within = omega arith }

  pub lying-of : Lying g before
  lying-of =
      let a = stands.bounded.records in
      let b = stands.long in
      record {
        common001 = lent_of g.common001 stands.placed.common001;
        common = lent_of g.common stands.placed.common;
        table = lent_of g.table stands.placed.table;
        few = omega arith;
      }

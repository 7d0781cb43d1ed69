-- What a later rule may look back at, after a record without fault: each part of the entry, as bytes.
use Rattle.std.specs.Prelude.{ℕ, ◌+◌, Bool, cond, ◌&&◌, ◌||◌, List, [], ◌++◌, eqb, get_or}
use Rattle.paper_record.specs.Identifier.{BIB, COMMON, ENDCOMMON, DATA, ENDSUBENT}
use Rattle.paper_record.specs.Word.{blank_to}
use Rattle.paper_rules.specs.declared.types.Track.{Track}
use Rattle.paper_rules.specs.State.{Seen}
use Rattle.paper_rules.specs.Roles.{TEXT, opens_subentry, is_heading}
use Rattle.paper_entry.specs.declared.types.Change.{Change}
use Rattle.paper_entry.specs.declared.types.Change.TheVariants.{Kept, Emptied, Begun, Joined}

-- a part of the entry, after the record r
unfoldable pub part_after : Change → List ℕ → List ℕ → List ℕ
part_after Kept part r = part
part_after Emptied part r = []
part_after Begun part r = r
part_after Joined part r = part ++ r

-- BIB and what may repeat in it begin anew
abbrev pub empties_bib : ℕ → Bool
empties_bib role = opens_subentry role || eqb role BIB

-- this BIB so far, and of it what stands under the keyword in hand
unfoldable pub bib_change : ℕ → Change
bib_change role =
    cond (empties_bib role) Emptied
    (cond (eqb role TEXT) Joined Kept)

unfoldable pub under_change : ℕ → List ℕ → Change
under_change role f =
    cond (empties_bib role) Emptied
    (cond (eqb role TEXT) (cond (blank_to 10 f) Joined Begun) Kept)

-- the heading records of the section in hand
unfoldable pub table_change : ℕ → Change
table_change role =
    cond (eqb role COMMON || eqb role DATA) Emptied
    (cond (is_heading role) Joined Kept)

-- 001 ends: its BIB and its COMMON are kept for all later subentries
abbrev pub ends001 : Track → ℕ → Bool
ends001 t role = eqb role ENDSUBENT && eqb t.subentry.number 1

unfoldable pub seen_after : Seen → Track → ℕ → List (List ℕ) → List ℕ → Seen
seen_after s t role fs r =
    record {
      bib = part_after (bib_change role) s.bib r;
      under = part_after (under_change role (get_or fs 0 [])) s.under r;
      bib001 = cond (ends001 t role) s.bib s.bib001;
      common001 = cond (ends001 t role) s.common s.common001;
      common = cond (opens_subentry role) [] (cond (eqb role ENDCOMMON) s.table s.common);
      table = part_after (table_change role) s.table r;
    }

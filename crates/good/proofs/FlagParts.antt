-- Values under FLAG and DECAY-FLAG in a whole section: none is at fault over the bytes that judging has kept exactly
-- when each fits the heading of its column, with the codes of the BIBs.
-- Assumes nothing.
use Prim.Native.Nat.{ℕ, ◌<◌}
use mathlib.Core.Path.{◌≡◌}
use mathlib.Core.Logic.{◌↔◌, ◌⊎◌}
use mathlib.Core.List.{List, [], ◌∷◌, ◌++◌}
use Rattle.laws.specs.Blocks.{joined}
use Rattle.laws.specs.Walk.{All}
use Rattle.paper_rules.specs.Codes.{codes_of}
use Rattle.rules_plain.specs.Places.{cell, Long}
use Rattle.rules_plain.specs.Flags.{FlagFits, CodesAre}
use Rattle.rules_plain.proofs.Rows.{heading-over}
use Rattle.rules_plain.proofs.FlagFields.{flag-fits}
use Rattle.rules_plain.proofs.Flags.{both-codes}
use Rattle.good.specs.Parts.{Record, Bib, Table, Section, present, absent}
use Rattle.good.specs.Bib.{GoodBibPart, texts_of_part}
use Rattle.good.specs.Flags.{CodeIn, FlagsOfPart}
use Rattle.good.specs.Tables.{columns_of}
use Rattle.good.proofs.FlagCodes.{bib-codes, own-codes}
use Rattle.good.proofs.FlagsByColumn.{kept_of, FitsAt, LinesFit}
use Rattle.good.proofs.TableWalked.{heading_rows, FlagsTested}

-- ---- a section

-- `rows` are its heading records, and `Met` are the codes that the search finds in both BIBs
module _ (Met : ℕ → Type 0) (bib bib001 : List ℕ) (met : CodesAre (codes_of bib ++ codes_of bib001) Met)
    (rows : List Record) (long : All Long rows) where
  fits_said : (x : ℕ) (f : List ℕ) → FitsAt (kept_of bib bib001 rows) x f ↔ FlagFits Met (cell rows x) f
  unfolding FitsAt
  fits_said x f = rw (heading-over rows x long) (flag-fits Met bib bib001 (cell rows x) f met)

  module _ (n : ℕ) where
    abbrev Said : List Record → Type 0
    Said row = (c : ℕ) → c < n → FlagFits Met (cell rows c) (cell row c)

    lines-said : (lines : List (List Record)) → LinesFit (kept_of bib bib001 rows) n lines → All Said lines
    lines-said [] h = tt
    lines-said (row ∷ lines) h = (λ c l. (fits_said c (cell row c)).0 (h.0 c l), lines-said lines h.1)

    said-lines : (lines : List (List Record)) → All Said lines → LinesFit (kept_of bib bib001 rows) n lines
    said-lines [] h = tt
    said-lines (row ∷ lines) h = (λ c l. (fits_said c (cell row c)).1 (h.0 c l), said-lines lines h.1)

part-flags : (Met : ℕ → Type 0) (bib bib001 : List ℕ) (part : Section Table) → All Long (heading_rows part)
    → CodesAre (codes_of bib ++ codes_of bib001) Met → FlagsTested bib bib001 part ↔ FlagsOfPart Met part
part-flags Met bib bib001 (present t) long met = (
  lines-said Met bib bib001 met t.headings long (columns_of t) t.lines,
  said-lines Met bib bib001 met t.headings long (columns_of t) t.lines,
)
part-flags Met bib bib001 (absent r) long met = (λ h. tt, λ h. tt)

-- ---- a subentry

-- its BIB is good, and the records of the BIB and of its COMMON or DATA are whole
pub record FlagsReady (bib : Section Bib) (part : Section Table) : Type 0 where
  pub good-bib : GoodBibPart bib
  pub long-texts : All Long (texts_of_part bib)
  pub long-rows : All Long (heading_rows part)

-- 001: the codes are its own, and nothing is kept as that of 001; x and y are the bytes that are kept
pub first-flags : (bib : Section Bib) (part : Section Table) (x y : List ℕ) → x ≡ joined (texts_of_part bib) → y ≡ []
    → FlagsReady bib part → FlagsTested x y part ↔ FlagsOfPart (CodeIn bib) part
first-flags bib part x y p q r =
    let texts = joined (texts_of_part bib) in
    rw (p, q)
    (part-flags (CodeIn bib) texts [] part r.long-rows
    (own-codes texts (CodeIn bib) (bib-codes bib r.good-bib r.long-texts)))

-- a later one: its own, and those of 001
pub later-flags : (bib bib001 : Section Bib) (part : Section Table) (x y : List ℕ) → x ≡ joined (texts_of_part bib)
    → y ≡ joined (texts_of_part bib001) → FlagsReady bib part → GoodBibPart bib001 → All Long (texts_of_part bib001)
    → FlagsTested x y part ↔ FlagsOfPart (λ n. CodeIn bib n ⊎ CodeIn bib001 n) part
later-flags bib bib001 part x y p q r g long =
    let own = joined (texts_of_part bib) in
    let first = joined (texts_of_part bib001) in
    rw (p, q)
    (part-flags (λ n. CodeIn bib n ⊎ CodeIn bib001 n) own first part r.long-rows
    (both-codes own first (CodeIn bib) (CodeIn bib001) (bib-codes bib r.good-bib r.long-texts)
    (bib-codes bib001 g long)))

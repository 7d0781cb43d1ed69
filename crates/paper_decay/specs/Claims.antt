-- What is to be proved of codes, as statements.
use Rattle.std.specs.Prelude.{◌≡◌, true, false, List, [], ◌∷◌, ◌++◌, map, ◌↔◌, ℕ, ◌+◌, ◌-◌, ◌≤◌, ◌<◌, length, take}
use Rattle.laws.specs.Walk.{All}
use Rattle.paper_number.specs.declared.types.Decimal.{Decimal}
use Rattle.paper_number.specs.declared.types.Reading.TheVariants.{Number}
use Rattle.paper_number.specs.Grammar.{blanks}
use Rattle.paper_number.specs.Reading.{read_field}
use Rattle.paper_canonical.specs.Canonical.{Best}
use Rattle.paper_decay.specs.Scan.{number_whole, fresh, scan_text}
use Rattle.paper_decay.specs.Numerals.{Numeral, number_from}
use Rattle.paper_decay.specs.Records.{scan_records, Records}
use Rattle.paper_decay.specs.Laid.{Laid, CodeLaid}
use Rattle.paper_decay.specs.Code.{Sort, half_life, types, energies, abundance, after, Place}
use Rattle.paper_decay.specs.Code.{GoodUnit, OneType, split, Code, write, Good, Spells, Viable}
use Rattle.paper_decay.specs.Fields.{number_of, unit_of, words_of, fields_of, canonical_code, run_of}

-- ---- "with one reading"

-- a text is one code only, and its fields are functions of that code
abbrev pub SpeltOnce : Type 0
SpeltOnce = (l : List ℕ) (c d : Code) → Spells l c → Spells l d → c ≡ d

-- the scan's places of a number end as a whole one exactly where the characters are a number
abbrev pub NumeralExactly : Type 0
NumeralExactly = (l : List ℕ) → (number_whole (number_from 0 0 l) ≡ true) ↔ Numeral l

-- number and unit have no mark between them, yet are cut in one way
abbrev pub HalfOnce : Type 0
HalfOnce = (n u : List ℕ) → Numeral n → GoodUnit u → (number_of (n ++ u) ≡ n) × (unit_of (n ++ u) ≡ u)

abbrev pub TypesOnce : Type 0
TypesOnce = (ws : List (List ℕ)) → All OneType ws → words_of (split 47 ws) ≡ ws

abbrev pub EnergiesOnce : Type 0
EnergiesOnce = (ws : List (List ℕ)) → All Numeral ws → words_of (split 47 ws) ≡ ws

-- ---- "accept exactly that grammar": the scan closes at the last character of a code and nowhere else

abbrev pub ClosedExactly : Type 0
ClosedExactly =
    (l : List ℕ) (i : ℕ)
    → (((scan_text l (fresh 0 false)).scan.place ≡ 5) × ((scan_text l (fresh 0 false)).at + 1 ≡ i))
    ↔ ((c : Code) × Spells (take i l) c × (i ≤ length l))

-- ---- "50 character no code can have there": what stands before it begins some code and is none, and with it none begins so

abbrev pub StopsFirst : Type 0
StopsFirst =
    (l : List ℕ) (i : ℕ)
    → (((scan_text l (fresh 0 false)).scan.place ≡ 6) × ((scan_text l (fresh 0 false)).at ≡ i))
    ↔ ((i < length l)
    × (Viable (take i l) × (((c : Code) → Spells (take i l) c → ⊥) × (Viable (take (i + 1) l) → ⊥))))

-- ---- the same in records

abbrev pub FoundExactly : Type 0
FoundExactly =
    (s : List ℕ) (from past : ℕ) → Records s from past
    → ((scan_records s from past).number ≡ 0) ↔ CodeLaid s from past

-- with one reading there too
abbrev pub LaidOnce : Type 0
LaidOnce = (rs : List (List ℕ)) (c d : Code) → Good c → Good d → Laid rs (write c) → Laid rs (write d) → c ≡ d

-- ---- "the run reads to the same fields"

abbrev pub RunGood : Type 0
RunGood = (c : Code) → Good c → Good (canonical_code c) × (fields_of (canonical_code c) ≡ fields_of c)

abbrev pub RunShort : Type 0
RunShort = (c : Code) → Good c → length (run_of c) ≤ length (write c)

-- ---- "numbers save the flag by their canonical field's characters"

-- behind blanks, the best of all eleven columns that read to the number
abbrev pub BestText : List ℕ → Type 0
BestText l = (v : Decimal) → read_field l ≡ Number v → Best 11 v (blanks (11 - length l) ++ l)

-- the numbers of a place
abbrev pub BestIn : Sort → List ℕ → Type 0
BestIn half_life l = BestText (number_of l)
BestIn types l = Unit {0}
BestIn energies l = All BestText (words_of l)
BestIn abundance l = BestText l

abbrev pub AllBest : Sort → List Place → Type 0
AllBest s [] = Unit {0}
AllBest s (p ∷ ps) = BestIn s p.said × AllBest (after s) ps

abbrev pub RunCanonical : Type 0
RunCanonical = (c : Code) → Good c → AllBest half_life (canonical_code c).places

-- ---- "the rest as it was": flag, nuclide, unit and types are fields, and the blanks are these

abbrev pub leads_of : Code → List ℕ
leads_of c = c.lead ∷ map (λ (p : Place). p.lead) c.places

abbrev pub RunKept : Type 0
RunKept = (c : Code) → leads_of (canonical_code c) ≡ leads_of c

-- two codes have one run exactly where fields and blanks are the same
abbrev pub OneRun : Type 0
OneRun = (c d : Code) → Good c → Good d → (run_of c ≡ run_of d) ↔ ((fields_of c ≡ fields_of d) × (leads_of c ≡ leads_of d))

-- What is claimed of the words and arrays of calls about codes: they say all of the answer, for all bytes and whatever the
-- arrays held. Each type is that of a law in proofs, under the law's name.
use Rattle.std.specs.Prelude.{ℕ, ◌+◌, ◌^◌, ◌<◌, ◌≡◌, cond, List, length, take, drop}
use Rattle.paper_record.specs.Text.{within}
use Rattle.paper_decay_fields.specs.Asked.{head_of, group_of, type_of, energy_of}
use Rattle.paper_codes.specs.Opening.{records_of}
use Rattle.paper_codes.specs.Asked.{run_in, code_in, stored_in, passage_at, code_asked, code_stored}
use Rattle.paper_questions.specs.PartAnswers.{bytes_in}
use Rattle.exports_fields.specs.Parts.{part_stored, part_word, value_stored}
use Rattle.exports_fields.specs.Heads.{head_word, places_stored, half_stored}
use Rattle.exports_fields.specs.Groups.{group_word, group_stored}
use Rattle.exports_runs.specs.Codes.{code_word, length_stored, in_hand}
use Rattle.decay_back.specs.Host.{place_in, number_part_in, head_said, group_said, code_said}

-- ---- fields of a code's characters

-- a place that has no room in the word stands behind 2^40 characters
abbrev pub HeadBack : Type 0
HeadBack =
    (l places half : List ℕ) → length l < 2 ^ 40
    → let h = head_of l in
    head_said (head_word h) (places_stored places h) (half_stored half h) ≡ h

abbrev pub GroupBack : Type 0
GroupBack =
    (l : List ℕ) (k : ℕ) → let g = group_of l k in group_said (group_stored g) (value_stored g.abundance.value) ≡ g

abbrev pub TypeBack : Type 0
TypeBack = (l : List ℕ) (k i : ℕ) → place_in (part_stored (type_of l k i)) 0 ≡ type_of l k i

abbrev pub EnergyBack : Type 0
EnergyBack =
    (l : List ℕ) (k i : ℕ)
    → let e = energy_of l k i in
    number_part_in (place_in (part_stored e.part) 0) (value_stored e.value) ≡ e

-- ---- their words: 1 for each that is counted, and for no other

abbrev pub GroupThere : Type 0
GroupThere = (l : List ℕ) (k : ℕ) → group_word (group_of l k) ≡ cond (within 1 (head_of l).groups k) 1 0

abbrev pub TypeThere : Type 0
TypeThere = (l : List ℕ) (k i : ℕ) → part_word (type_of l k i) ≡ cond (within 1 (group_of l k).types i) 1 0

abbrev pub EnergyThere : Type 0
EnergyThere = (l : List ℕ) (k i : ℕ) → part_word (energy_of l k i).part ≡ cond (within 1 (group_of l k).energies i) 1 0

-- ---- codes

abbrev pub CodeBack : Type 0
CodeBack =
    (s long : List ℕ) (n pointer j room : ℕ)
    → let a = code_asked s n pointer j room in
    code_said (code_word a) (length_stored long a) ≡ a

-- of a passage in hand, whose records have room in the word; those of an entry are 20,000 at most
abbrev pub CodeInBack : Type 0
CodeInBack =
    (p long : List ℕ) (j room : ℕ) → records_of p + 1 < 2 ^ 24
    → let a = in_hand (code_in p j room) in
    code_said (code_word a) (length_stored long a) ≡ a

-- the run stands in front of the lent bytes, as long as is said, and what stands behind it stays
abbrev pub RunBack : Type 0
RunBack =
    (s out : List ℕ) (n pointer j : ℕ)
    → let a = code_asked s n pointer j (length out) in
    a.answer.number ≡ 0
    → (take a.length (code_stored s n pointer j out) ≡ run_in (bytes_in s (passage_at s n pointer)) j)
    × (drop a.length (code_stored s n pointer j out) ≡ drop a.length out)

abbrev pub RunInBack : Type 0
RunInBack =
    (p out : List ℕ) (j : ℕ)
    → let a = code_in p j (length out) in
    a.number ≡ 0
    → (take a.length (stored_in p j out) ≡ run_in p j) × (drop a.length (stored_in p j out) ≡ drop a.length out)

-- What is claimed of counting (document 01: "subentries (NOSUBENT included)"). Each type is that of a law in proofs/Counting, under
-- the law's name.
use Rattle.std.specs.Prelude.{ℕ, ◌+◌, ◌≡◌, List}
use Rattle.paper_record.specs.Identifier.{SUBENT, NOSUBENT}
use Rattle.paper_rules.specs.declared.types.Track.{Track}
use Rattle.paper_entry.specs.Counted.{track_after}

-- a subentry is counted at its SUBENT, and one that is NOSUBENT alone too
abbrev pub SubentryCounted : ℕ → Type 0
SubentryCounted role =
    (t : Track) (fs : List (List ℕ)) (r : List ℕ) → (track_after t role fs r).totals.subentries ≡ t.totals.subentries + 1

abbrev pub SubentriesCounted : Type 0
SubentriesCounted = SubentryCounted SUBENT × SubentryCounted NOSUBENT

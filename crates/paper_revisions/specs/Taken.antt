-- The records under one number: d in the held entry, e in the revision; of any bytes. That this is what
-- `has` and `in_revision` say of a subentry's number are the laws `has-by` and `in-revision-by`.
use Rattle.std.specs.Prelude.{ℕ, ◌≤◌, Bool, not, ◌&&◌, ◌||◌, List, leb, ltb}
use Rattle.paper_revisions.specs.declared.types.Extent.{Extent}
use Rattle.paper_revisions.specs.Extents.{records_of, date_at}

abbrev pub some : Extent → Bool
some e = ltb e.from e.past

-- "the only one that has it, or, where both do, the revision unless its date for n is earlier"
abbrev pub by_revision : List ℕ → List ℕ → Extent → Extent → Bool
by_revision held revision d e =
    some e && (not (some d) || leb (date_at held d.from) (date_at revision e.from))

-- the records lie in the entry
pub record Lies (s : List ℕ) (e : Extent) : Type 0 where
  pub rises : e.from ≤ e.past
  pub ends : e.past ≤ records_of s

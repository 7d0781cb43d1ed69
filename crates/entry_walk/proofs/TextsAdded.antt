-- What a text record adds to the text records that the judge has seen, of the section and under the last keyword, and that
-- BIB takes them away.
-- Assumes nothing.
use Prim.Native.Nat.{ℕ}
use mathlib.Core.Path.{◌≡◌}
use mathlib.Core.Bool.{true, false}
use mathlib.Core.List.{List, [], ◌++◌}
use lib.ListN.{get_or}
use Rattle.paper_record.specs.Fields.{fields_of}
use Rattle.paper_record.specs.Identifier.{BIB}
use Rattle.paper_record.specs.Word.{blank_to}
use Rattle.paper_rules.specs.State.{Context}
use Rattle.paper_rules.specs.Roles.{TEXT}
use Rattle.paper_entry.specs.Parts.{part_after, bib_change, under_change, seen_after}
use Rattle.paper_entry.specs.Next.{context_after}
use Rattle.paper_entry.specs.Judging.{role_of}
use Rattle.paper_entry.specs.Contexts.{behind}

-- ---- what a text record adds

module _ (c : Context) (r : List ℕ) (role : role_of c r ≡ TEXT) (f : List ℕ) (own : get_or (fields_of r) 0 [] ≡ f) where
  pub bib-joined : (behind c r).seen.bib ≡ c.seen.bib ++ r
  unfolding context_after seen_after part_after bib_change
  bib-joined = rw role

  pub under-begun : blank_to 10 f ≡ false → (behind c r).seen.under ≡ r
  unfolding context_after seen_after part_after under_change
  under-begun e = rw (role, own, e)

  pub under-joined : blank_to 10 f ≡ true → (behind c r).seen.under ≡ c.seen.under ++ r
  unfolding context_after seen_after part_after under_change
  under-joined e = rw (role, own, e)

-- and BIB takes away
pub bib-emptied : (c : Context) (r : List ℕ) → role_of c r ≡ BIB → (behind c r).seen.bib ≡ []
unfolding context_after seen_after part_after bib_change
bib-emptied c r role = rw role

pub under-emptied : (c : Context) (r : List ℕ) → role_of c r ≡ BIB → (behind c r).seen.under ≡ []
unfolding context_after seen_after part_after under_change
under-emptied c r role = rw role

-- A record of an accepted entry, by its number: it lies in the entry, a system record has its identifier, and it is
-- clean.
-- Assumes nothing.
use Prim.Native.Nat.{ℕ, suc, ◌*◌, ◌/◌, ◌<◌}
use mathlib.Core.Path.{◌≡◌}
use mathlib.Core.Bool.{true}
use mathlib.Core.List.{List, []}
use native.Mathlib.Omega.{arith}
use lib.ListN.{length, get_or}
use borrow.Author.Tests.{ne_eqb, le-leb}
use Rattle.laws.specs.Blocks.{block_at}
use Rattle.paper_record.specs.Fields.{fields_of}
use Rattle.paper_record.specs.Identifier.{OTHER, identifier_of}
use Rattle.paper_record.specs.declared.types.RecordNo.{RecordNo}
use Rattle.paper_rules.specs.Limits.{MOST-RECORDS}
use Rattle.paper_rules.specs.Clean.{Clean}
use Rattle.paper_rules.proofs.Clean.{fine-clean}
use Rattle.paper_entry.specs.Judging.{Accepted}
use Rattle.paper_entry.specs.Contexts.{context_at, role_at}
use Rattle.paper_entry.proofs.Lengths.{whole-records, accepted-good}
use Rattle.entry_walk.proofs.GoingOn.{go-fine}
use Rattle.entry_walk.proofs.AcceptedWalk.{walked}
use Rattle.paper_questions.specs.Place.{fields_at, identifier_at}
use Rattle.inside.proofs.RowWalked.{fields-at}
use Rattle.paper_index.specs.Reads.{in_entry}
use Rattle.row_answers.proofs.Roles.{role-own}

module _ (s : List ℕ) (accepted : Accepted s) (a : ℕ) (there : a < length s / 81) where
  pub record-clean : Clean (context_at s a).track (context_at s a).seen (role_at s a) (fields_of (block_at 81 s a))
      (block_at 81 s a)
  record-clean =
      let c = context_at s a in
      let r = block_at 81 s a in
      fine-clean c.track c.seen (role_at s a) (fields_of r) r
      (go-fine c a r (context_at s (suc a)) ((walked s accepted).turns a there)).0

  module _ (at : RecordNo) (e : at.0 ≡ suc a) where
    pub in_entry_lem : in_entry s at ≡ true
    in_entry_lem =
        let few = (whole-records (length s) (accepted-good s accepted)).1 in
        rw (
          ne_eqb at.0 0 (λ z. omega arith),
          le-leb (at.0 * 81) (length s) (omega arith),
          le-leb at.0 MOST-RECORDS (omega arith),
        )

    pub fields-there : fields_at s at ≡ fields_of (block_at 81 s a)
    fields-there = fields-at s a (omega arith) at e

    pub identifier-there : role_at s a < OTHER → identifier_at s at ≡ role_at s a
    identifier-there system =
        let c = context_at s a in
        rw fields-there
        (role-own c.phase c.track (identifier_of (get_or (fields_of (block_at 81 s a)) 0 [])) system)

-- The context before each record of an entry: one record after the other, each counted.
-- Assumes nothing.
use Prim.Native.Nat.{ℕ, zero, suc, ◌+◌}
use mathlib.Core.Path.{◌≡◌, refl, ◌∙◌, ap}
use mathlib.Core.List.{List, []}
use native.Mathlib.Numerals.{add-one}
use lib.Dec.{eqb}
use lib.ListN.{get_or}
use Rattle.laws.specs.Blocks.{block_at}
use Rattle.paper_record.specs.Fields.{fields_of}
use Rattle.paper_record.specs.Identifier.{ENTRY, BIB, COMMON, DATA}
use Rattle.paper_record.specs.Word.{blank_to}
use Rattle.paper_rules.specs.declared.types.Track.{Track}
use Rattle.paper_rules.specs.State.{start_context}
use Rattle.paper_rules.specs.Roles.{TEXT, is_system, opens_subentry, is_heading, is_unit, is_value}
use Rattle.laws.proofs.EitherWay.{either_way}
use Rattle.paper_entry.specs.Counted.{track_after, after_system, after_inside}
use Rattle.paper_entry.specs.Tally.{text_read}
use Rattle.paper_entry.specs.Next.{context_after}
use Rattle.paper_entry.specs.Judging.{role_of}
use Rattle.paper_entry.specs.Contexts.{behind, context_at}

pub count_next : (t : Track) (role : ℕ) (fs : List (List ℕ)) (r : List ℕ)
    → (track_after t role fs r).records.0 ≡ t.records.0 + 1
unfolding track_after after_system after_inside text_read
count_next t role fs r =
    either_way P (is_system role) _ _
    (either_way P (eqb role ENTRY) _ _ refl
    (either_way P (opens_subentry role) _ _ refl
    (either_way P (eqb role BIB) _ _ refl
    (either_way P (eqb role COMMON) _ _ refl (either_way P (eqb role DATA) _ _ refl refl)))))
    (either_way P (eqb role TEXT) _ _ (either_way P (blank_to 10 (get_or fs 0 [])) _ _ refl refl)
    (either_way P (is_heading role) _ _ refl
    (either_way P (is_unit role) _ _ refl (either_way P (is_value role) _ _ refl refl))))
  where
    P : Track → Type 0
    P u = u.records.0 ≡ t.records.0 + 1

-- the records before the one with the index i are counted
pub records-at : (s : List ℕ) (i : ℕ) → (context_at s i).track.records.0 ≡ i
unfolding context_at context_after
records-at s zero = refl
records-at s (suc i) =
    let c = context_at s i in
    let r = block_at 81 s i in
    count_next c.track (role_of c r) (fields_of r) r ∙ ap (λ (k : ℕ). k + 1) (records-at s i) ∙ add-one i

pub context-start : (s : List ℕ) → context_at s 0 ≡ start_context
unfolding context_at
context-start s = refl

pub context-after : (s : List ℕ) (i : ℕ) → context_at s (suc i) ≡ behind (context_at s i) (block_at 81 s i)
unfolding context_at
context-after s i = refl

pub context-next : (s : List ℕ) (i : ℕ) → context_at s (i + 1) ≡ behind (context_at s i) (block_at 81 s i)
context-next s i = rw (add-one i) (context-after s i)

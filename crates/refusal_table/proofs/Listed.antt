-- Every refusal of every input stands in the table.
-- Assumes nothing.
use Prim.Native.Nat.{ℕ, ◌+◌, ◌*◌, ◌%◌}
use mathlib.Core.Path.{◌≡◌, refl, sym, ◌∙◌, subst}
use mathlib.Core.Bool.{Bool, true, false, not, ◌&&◌}
use mathlib.Core.List.{List}
use borrow.Author.Tests.{eqb-true, eqb-false, leb-false, eq-eqb, ne_eqb, lt-leb}
use lib.Dec.{eqb, leb}
use lib.ListN.{length}
use Rattle.laws.specs.Blocks.{block_at}
use Rattle.laws.specs.Search.{first}
use Rattle.laws.proofs.Booleans.{differ, and_none}
use Rattle.paper_record.specs.Identifier.{ENDBIB, ENDCOMMON, DATA, NODATA, ENDDATA, ENDSUBENT, ENDENTRY, is_end}
use Rattle.paper_record.specs.Word.{equal_to}
use Rattle.paper_rules.specs.declared.types.Phase.{Phase}
use Rattle.paper_rules.specs.declared.types.Phase.TheVariants.{Start, Opened, InSubentry, InBib, AfterBib, InCommon}
use Rattle.paper_rules.specs.declared.types.Phase.TheVariants.{AfterCommon, InData, AfterData, Between, Done}
use Rattle.paper_rules.specs.declared.types.Track.{Track}
use Rattle.paper_rules.specs.State.{Context}
use Rattle.paper_rules.specs.Limits.{MOST-RECORDS}
use Rattle.paper_rules.specs.Roles.{NOT-DUE}
use Rattle.paper_rules.specs.Role.{all_read, only, either, bib_role, table_role, data_role, role_in}
use Rattle.laws.proofs.EitherWay.{either_way}
use Rattle.paper_entry.specs.Due.{phase_after}
use Rattle.paper_entry.specs.Next.{context_after}
use Rattle.paper_entry.specs.declared.types.Verdict.{Verdict}
use Rattle.paper_entry.specs.Verdict.{refused, is_done, length_good}
use Rattle.paper_entry.specs.Judging.{judge_of}
use Rattle.paper_entry.specs.Contexts.{context_at, role_at}
use Rattle.entry_walk.specs.First.{First, by_length, by_record, by_end, by_none}
use Rattle.entry_walk.proofs.Contexts.{context-next}
use Rattle.entry_walk.proofs.FirstRefused.{refused_first}
use Rattle.entry_walk.proofs.FirstAlone.{first_alone}
use Rattle.refusal_table.specs.KindOf.{fields_in, name_in}
use Rattle.refusal_table.specs.Listed.{BadLength, none, not_whole, too_long, Listed, at_once, on_record}
use Rattle.refusal_table.specs.Listed.{behind_last, RefusalsListed, LengthFirst}
use Rattle.refusal_table.proofs.Standing.{least-stands}
use Rattle.refusal_table.proofs.KindAt.{kind_at}

-- ---- 1

bad-length : (n : ℕ) → length_good n ≡ false → BadLength n
unfolding length_good
bad-length n e = by_tests (eqb n 0) refl (eqb (n % 81) 0) refl (leb n (MOST-RECORDS * 81)) refl e
  where
    by_tests : (a : Bool) → eqb n 0 ≡ a → (b : Bool) → eqb (n % 81) 0 ≡ b
        → (c : Bool) → leb n (MOST-RECORDS * 81) ≡ c → (not a && (b && c)) ≡ false → BadLength n
    by_tests true p b q c r e = none (eqb-true n 0 p)
    by_tests false p false q c r e = not_whole (eqb-false (n % 81) 0 q)
    by_tests false p true q false r e = too_long (leb-false n (MOST-RECORDS * 81) r)
    by_tests false p true q true r e = differ e

length-bad : (n : ℕ) → BadLength n → length_good n ≡ false
unfolding length_good
length-bad n (none e) = rw (eq-eqb n 0 e)
length-bad n (not_whole h) =
    and_none (not (eqb n 0)) (eqb (n % 81) 0 && leb n (MOST-RECORDS * 81)) (rw (ne_eqb (n % 81) 0 h))
length-bad n (too_long h) =
    and_none (not (eqb n 0)) (eqb (n % 81) 0 && leb n (MOST-RECORDS * 81))
    (and_none (eqb (n % 81) 0) (leb n (MOST-RECORDS * 81)) (lt-leb n (MOST-RECORDS * 81) h))

pub length_first : LengthFirst
length_first s b = sym (first_alone s (refused 1 (record { 0 = 0 }) 0) (by_length (length-bad (length s) b)))

-- ---- 16

abbrev EndsAfter : ℕ → Type 0
EndsAfter role = is_done (phase_after role) ≡ true

-- behind ENDENTRY nothing is due, wherever it stands
ended : (p : Phase) (t : Track) → EndsAfter (role_in p t ENDENTRY)
unfolding role_in bib_role table_role data_role phase_after is_end equal_to first
ended Start t = refl
ended Opened t = refl
ended InSubentry t = refl
ended InBib t = either_way EndsAfter (eqb t.section t.bib.records) (only ENDBIB ENDENTRY) NOT-DUE refl refl
ended AfterBib t = refl
ended InCommon t = either_way EndsAfter (all_read t) (only ENDCOMMON ENDENTRY) NOT-DUE refl refl
ended AfterCommon t =
    either_way EndsAfter (eqb t.subentry.number 1) (only ENDSUBENT ENDENTRY) (either DATA NODATA ENDENTRY) refl refl
ended InData t = either_way EndsAfter (all_read t) (only ENDDATA ENDENTRY) NOT-DUE refl refl
ended AfterData t = refl
ended Between t = refl
ended Done t = refl

not-ended : (s : List ℕ) (i : ℕ) → is_done (context_at s (i + 1)).phase ≡ false → name_in s i ≡ ENDENTRY → ⊥
unfolding context_after
not-ended s i f q =
    let c = context_at s i in
    let a : is_done (phase_after (role_in (context_at s i).phase (context_at s i).track (name_in s i))) ≡ false =
    subst (λ (x : Context). is_done x.phase ≡ false) (context-next s i) f in
    let b : is_done (phase_after (role_in (context_at s i).phase (context_at s i).track ENDENTRY)) ≡ false =
    subst (λ (k : ℕ). is_done (phase_after (role_in (context_at s i).phase (context_at s i).track k)) ≡ false) q a in
    differ (sym (ended c.phase c.track) ∙ b)

-- ---- every verdict that is first in the order

listed : (s : List ℕ) (v : Verdict) → First s v → (v.refusal ≡ 0 → ⊥)
    → Listed s v.refusal v.«record».0 v.column
listed s v (by_length e) h = at_once (bad-length (length s) e)
listed s v (by_record i n k a) h =
    let c = context_at s i in
    on_record i (role_at s i) n k a.there (kind_at s i a.earlier)
    (least-stands c.track c.seen (role_at s i) (fields_in s i) (block_at 81 s i) n k a.least)
listed s v (by_end a e) h =
    behind_last
    (λ i p q. not-ended s i (subst (λ (n : ℕ). is_done (context_at s n).phase ≡ false) (sym p) e) q)
listed s v (by_none a e) h = absurd (h refl)

pub refusals_listed : RefusalsListed
refusals_listed s h = listed s (judge_of s) (refused_first s) h

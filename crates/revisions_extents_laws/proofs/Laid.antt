-- The records of a subentry are those from its SUBENT to its ENDSUBENT, or its NOSUBENT alone.
-- Assumes nothing.
use Prim.Native.Nat.{ℕ, suc, ◌+◌, ◌-◌, ◌<◌, ◌≤◌}
use mathlib.Core.Path.{◌≡◌, refl, sym, ap, subst, ◌∙◌}
use mathlib.Core.Bool.{Bool, true, false, not, ◌||◌}
use mathlib.Core.List.{List, []}
use native.Mathlib.Omega.{arith}
use borrow.Author.Tests.{eqb-true, ne_eqb, not-true}
use lib.Dec.{eqb}
use lib.ListN.{get_or}
use Rattle.laws.specs.Blocks.{block_at}
use Rattle.laws.proofs.Booleans.{differ, or-first, or-second, or-either, or-other}
use Rattle.laws.proofs.EitherWay.{no}
use Rattle.laws.proofs.Search.{either}
use Rattle.paper_record.specs.Fields.{fields_of}
use Rattle.paper_record.specs.Identifier.{ENTRY, SUBENT, NOSUBENT, ENDSUBENT, ENDENTRY, OTHER, identifier_of}
use Rattle.paper_record.specs.System.{subentry_of}
use Rattle.paper_record.proofs.ReadColumns.{field-of}
use Rattle.paper_rules.specs.declared.types.Phase.{Phase}
use Rattle.paper_rules.specs.declared.types.Phase.TheVariants.{Start, Opened, InSubentry, InBib, AfterBib, InCommon}
use Rattle.paper_rules.specs.declared.types.Phase.TheVariants.{AfterCommon, InData, AfterData, Between, Done}
use Rattle.paper_rules.specs.Roles.{opens_subentry}
use Rattle.paper_entry.specs.Due.{phase_after}
use Rattle.paper_entry.specs.Judging.{Accepted}
use Rattle.paper_entry.specs.Contexts.{context_at, role_at}
use Rattle.entry_walk.proofs.AcceptedWalk.{walked}
use Rattle.row_answers.proofs.Roles.{role-own}
use Rattle.index_rows.specs.Index.{OpensWith}
use Rattle.index_rows.specs.Walk.{in_hand}
use Rattle.index_rows.proofs.Opened.{hand-more, hand-same}
use Rattle.paper_revisions.specs.Extents.{records_of, subentry_at, extent_of, has}
use Rattle.revisions_extents_laws.specs.Laid.{StandsAt, Body, alone, to_end, ExtentLaid}
use Rattle.revisions_extents_laws.proofs.Places.{is_outer, follows, comes}
use Rattle.revisions_extents_laws.proofs.Columns.{follows-at, phase-behind, comes-at, entry-only, end-only, last_end}
use Rattle.revisions_extents_laws.proofs.Columns.{said-behind, said-entry, said-last}
use Rattle.revisions_extents_laws.proofs.Extents.{extent-in, extent-only, has-bounds, whole_of}
use Rattle.revisions_extents_laws.proofs.Openers.{opener-from, has-opener, has-row}

-- ---- two records, one behind the other

-- SUBENT, NOSUBENT or ENDENTRY
abbrev begins : ℕ → Bool
begins role = opens_subentry role || eqb role ENDENTRY

-- ENTRY, NOSUBENT or ENDSUBENT
abbrev closes : ℕ → Bool
closes role = eqb role ENTRY || (eqb role NOSUBENT || eqb role ENDSUBENT)

not-outer : {X : Type 0} (role : ℕ) → not (is_outer role) ≡ true → begins role ≡ true → X
not-outer role f b = differ (sym (or-second (eqb role ENTRY) (begins role) b) ∙ not-true (is_outer role) f)

-- what stands before the first record of a subentry, and before ENDENTRY
closed-before : (p : Phase) (before role : ℕ) → follows p role ≡ true → comes before p ≡ true → begins role ≡ true
    → closes before ≡ true
closed-before Start before role f c b = no c
closed-before Opened before role f c b = or-first (eqb before ENTRY) _ c
closed-before InSubentry before role f c b = not-outer role f b
closed-before InBib before role f c b = not-outer role f b
closed-before AfterBib before role f c b = not-outer role f b
closed-before InCommon before role f c b = not-outer role f b
closed-before AfterCommon before role f c b = not-outer role f b
closed-before InData before role f c b = not-outer role f b
closed-before AfterData before role f c b = not-outer role f b
closed-before Between before role f c b = or-second (eqb before ENTRY) _ c
closed-before Done before role f c b = no f

module _ (s : List ℕ) (accepted : Accepted s) where
  -- a system record bears its name
  pub stands : (i identifier : ℕ) → identifier < OTHER → role_at s i ≡ identifier → StandsAt s i identifier
  stands i identifier l e =
      record {
        role = e;
        written =
            ap identifier_of (sym (field-of (block_at 81 s i) 0 (omega arith)))
            ∙ role-own (context_at s i).phase (context_at s i).track (identifier_of (get_or (fields_of (block_at 81 s i)) 0 []))
            (rw e l)
            ∙ e;
      }

  -- behind NOSUBENT another one begins
  begins-behind : (i : ℕ) → suc i < records_of s → role_at s i ≡ NOSUBENT → begins (role_at s (suc i)) ≡ true
  unfolding phase_after
  begins-behind i h e =
      let p : (context_at s (suc i)).phase ≡ Between = phase-behind s accepted i (omega arith) ∙ ap phase_after e in
      subst (λ (x : Phase). follows x (role_at s (suc i)) ≡ true) p (follows-at s accepted (suc i) h).0

  -- a record inside that begins one has that one's number
  opened_inside : (n i : ℕ) → suc i < records_of s → opens_subentry (role_at s i) ≡ true → subentry_at s i ≡ n → OpensWith s n i
  opened_inside n i h o e =
      record {
        there = omega arith;
        role = o;
        bears =
            sym (hand-more s (records_of s) (walked s accepted) (omega arith) i (omega arith) o).0
            ∙ sym (said-behind s accepted i h) ∙ e;
      }

  module _ (n : ℕ) (h : has s n ≡ true) where
    abbrev from : ℕ
    from = (extent_of s n).from

    abbrev past : ℕ
    past = (extent_of s n).past

    some : (1 ≤ n) × (n ≤ 998) × (from < past)
    some = let b = has-bounds s n h in (b.0.0, b.0.1, b.1)

    said : (i : ℕ) → from ≤ i → i < past → subentry_at s i ≡ n
    said i a b = (extent-only s n i a b).said

    -- the extent ends before the last record
    pub past-in : past < records_of s
    past-in =
        let most = some.1 in
        let l = some.2 in
        let m = (extent-in s n).1 in
        either past (records_of s) (λ x. x)
        (λ x.
        let z : suc (past - 1) ≡ records_of s = omega arith in
        let e = said-last s accepted (past - 1) z in
        let f = said (past - 1) (omega arith) (omega arith) in
        absurd (omega arith))

    pub from_in : 1 ≤ from
    from_in =
        let low = some.0 in
        let l = some.2 in
        let m = past-in in
        let e = said from (omega arith) l in
        either 0 from (λ x. x)
        (λ x.
        let z : from ≡ 0 = omega arith in
        absurd (not_first low (sym (ap (subentry_at s) z) ∙ e)))
      where
        not_first : 1 ≤ n → subentry_at s 0 ≡ n → ⊥
        not_first low e = let f = said-entry s accepted (omega (arith, past-in, some.2)) in omega arith

    -- the record behind it begins another one
    begins-past : begins (role_at s past) ≡ true
    begins-past =
        by_tests (opens_subentry (role_at s past)) refl (eqb (role_at s past) ENDENTRY) refl
      where
        other : subentry_at s past ≡ n → ⊥
        other e =
            let w = whole_of s accepted n past (record { there = past-in; said = e }) in
            let a = w.1 in
            omega arith

        kept : opens_subentry (role_at s past) ≡ false → suc past < records_of s → ⊥
        kept o l =
            let a = some.2 in
            let z : suc (past - 1) ≡ past = omega arith in
            let e = said (past - 1) (omega arith) (omega arith) in
            let f : subentry_at s (past - 1) ≡ in_hand s past =
            said-behind s accepted (past - 1) (omega (arith, past-in)) ∙ ap (in_hand s) z in
            other
            (said-behind s accepted past l
            ∙ hand-same s (records_of s) (walked s accepted) (omega arith) past past-in o
            ∙ sym f ∙ e)

        by_tests : (a : Bool) → opens_subentry (role_at s past) ≡ a → (b : Bool) → eqb (role_at s past) ENDENTRY ≡ b
            → (a || b) ≡ true
        by_tests true o b q = refl
        by_tests false o true q = refl
        by_tests false o false q =
            either (suc past) (records_of s) (λ l. absurd (kept o l))
            (λ l.
            let e = last_end s accepted past (omega (arith, past-in)) in
            differ (sym (ap (λ (role : ℕ). eqb role ENDENTRY) e) ∙ q))

    -- so the last of it is NOSUBENT or ENDSUBENT
    last-closes : (eqb (role_at s (past - 1)) NOSUBENT || eqb (role_at s (past - 1)) ENDSUBENT) ≡ true
    last-closes =
        let l = some.2 in
        let m = past-in in
        let z : suc (past - 1) ≡ past = omega arith in
        let c : comes (role_at s (past - 1)) (context_at s past).phase ≡ true =
        rw z at (comes-at s accepted (past - 1) (omega arith)) in
        or-other (eqb (role_at s (past - 1)) ENTRY) _
        (closed-before (context_at s past).phase (role_at s (past - 1)) (role_at s past) (follows-at s accepted past m).0 c
        begins-past)
        (ne_eqb (role_at s (past - 1)) ENTRY
        (λ e.
        let k = entry-only s accepted (past - 1) (omega arith) e in
        let f = from_in in
        omega arith))

    opener : OpensWith s n from
    opener = has-opener s accepted n h

    -- NOSUBENT is alone
    none-alone : role_at s (past - 1) ≡ NOSUBENT → past ≡ from + 1
    none-alone e =
        let l = some.2 in
        let m = past-in in
        let k =
        opener-from s accepted n (past - 1)
        (opened_inside n (past - 1) (omega arith) (rw e refl) (said (past - 1) (omega arith) (omega arith))) in
        omega arith

    -- and where ENDSUBENT is the last, the first is SUBENT
    end_subent : role_at s (past - 1) ≡ ENDSUBENT → (role_at s from ≡ SUBENT) × (from + 1 < past)
    end_subent e =
        or-either (eqb (role_at s from) SUBENT) (eqb (role_at s from) NOSUBENT) opener.role
        (λ q. (eqb-true (role_at s from) SUBENT q, longer))
        (λ q. absurd (gone (eqb-true (role_at s from) NOSUBENT q)))
      where
        longer : from + 1 < past
        longer =
            let l = some.2 in
            either (from + 1) past (λ x. x)
            (λ x.
            let z : past - 1 ≡ from = omega arith in
            no (sym (ap opens_subentry (sym (ap (role_at s) z) ∙ e)) ∙ opener.role))

        gone : role_at s from ≡ NOSUBENT → ⊥
        gone q =
            let l = longer in
            let m = past-in in
            or-either (opens_subentry (role_at s (suc from))) (eqb (role_at s (suc from)) ENDENTRY)
            (begins-behind from (omega arith) q)
            (λ o.
            let k =
            opener-from s accepted n (suc from)
            (opened_inside n (suc from) (omega arith) o (said (suc from) (omega arith) (omega arith))) in
            omega arith)
            (λ o.
            let k = end-only s accepted (suc from) (omega arith) (eqb-true (role_at s (suc from)) ENDENTRY o) in
            omega arith)

    body : Body s from past
    body =
        or-either (eqb (role_at s (past - 1)) NOSUBENT) (eqb (role_at s (past - 1)) ENDSUBENT) last-closes
        (λ q.
        let e = eqb-true (role_at s (past - 1)) NOSUBENT q in
        let a = none-alone e in
        let z : past - 1 ≡ from = omega arith in
        alone (stands from NOSUBENT (omega arith) (sym (ap (role_at s) z) ∙ e)) a)
        (λ q.
        let e = eqb-true (role_at s (past - 1)) ENDSUBENT q in
        let a = end_subent e in
        to_end (stands from SUBENT (omega arith) a.0) (stands (past - 1) ENDSUBENT (omega arith) e) a.1)

pub extent-laid : ExtentLaid
extent-laid s a n h =
    record {
      number =
          ap subentry_of (sym (field-of (block_at 81 s (extent_of s n).from) 1 (omega arith)))
          ∙ (has-opener s a n h).bears;
      row = has-row s a n h;
      body = body s a n h;
    }

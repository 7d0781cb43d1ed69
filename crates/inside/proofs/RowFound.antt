-- The row of a subentry in an accepted entry: each record that opens a section of it is the one that the row names, and
-- its first record is SUBENT.
-- Assumes nothing.
use Prim.Native.Nat.{ℕ, zero, suc, ◌+◌, ◌*◌, ◌-◌, ◌/◌, ◌<◌, ◌≤◌}
use mathlib.Core.Path.{◌≡◌, refl, sym, ◌∙◌, ap}
use mathlib.Core.Bool.{Bool, true, false, ◌||◌}
use mathlib.Core.List.{List, []}
use native.Mathlib.Omega.{arith}
use native.Mathlib.Numerals.{add-one}
use lib.Dec.{eqb}
use lib.ListN.{length, get_or}
use borrow.Author.Tests.{eqb-true}
use Rattle.laws.specs.Blocks.{block_at}
use Rattle.laws.proofs.Booleans.{either-as}
use Rattle.paper_record.specs.Places.{record_of}
use Rattle.paper_record.specs.Fields.{fields_of, n1}
use Rattle.paper_record.specs.Identifier.{SUBENT, NOSUBENT, BIB, COMMON, DATA, ENTRY, NOBIB, ENDBIB, NOCOMMON, ENDCOMMON}
use Rattle.paper_record.specs.Identifier.{NODATA, ENDDATA, ENDSUBENT, ENDENTRY, OTHER, identifier_of, is_end}
use Rattle.paper_record.specs.System.{subentry_of}
use Rattle.paper_record.specs.declared.types.RecordNo.{RecordNo}
use Rattle.paper_rules.specs.declared.types.Phase.{Phase}
use Rattle.paper_rules.specs.declared.types.Phase.TheVariants.{Start, Opened, InSubentry, InBib, AfterBib, InCommon}
use Rattle.paper_rules.specs.declared.types.Phase.TheVariants.{AfterCommon, InData, AfterData, Between, Done}
use Rattle.paper_rules.specs.declared.types.Track.{Track}
use Rattle.paper_rules.specs.State.{Context, HEADINGS, UNITS}
use Rattle.paper_rules.specs.Roles.{opens_subentry}
use Rattle.paper_rules.specs.Role.{bib_role, all_read, table_role, data_role, role_in}
use Rattle.laws.proofs.EitherWay.{either_way}
use Rattle.paper_entry.specs.Due.{phase_after}
use Rattle.paper_entry.specs.Judging.{Accepted}
use Rattle.paper_entry.specs.Contexts.{context_at, role_at}
use Rattle.entry_walk.proofs.Contexts.{records-at}
use Rattle.paper_questions.specs.Located.{row_at, row_of}
use Rattle.paper_questions.specs.Place.{fields_at, identifier_at}
use Rattle.paper_questions.proofs.RowChanges.{Section, bib, common, table, opener, named, level, first-stays, first-set}
use Rattle.paper_questions.proofs.RowChanges.{section-stays, section-set}
use Rattle.paper_questions.proofs.FoundRow.{found-row}
use Rattle.inside.specs.Inside.{RecordOf}
use Rattle.entry_walk.proofs.AcceptedWalk.{Walked, walked}
use Rattle.inside.proofs.Nesting.{rank, Unnumbered, unnumbered-turn, key, Nested, nested-turn}
use Rattle.inside.proofs.RowWalked.{number-of, row_next, fields-at}

-- ---- where sections and subentries open

rank-behind : (k : Section) → rank (phase_after (opener k)) ≡ level k + 1
unfolding phase_after
rank-behind bib = refl
rank-behind common = refl
rank-behind table = refl

no-subentry : (k : Section) → opens_subentry (opener k) ≡ false
no-subentry bib = refl
no-subentry common = refl
no-subentry table = refl

level-of : (k : Section) (c d : Context) (role number : ℕ) → Nested c role number d → role ≡ opener k
    → rank c.phase ≡ level k
level-of bib c d role number x e = x.bib e
level-of common c d role number x e = x.common e
level-of table c d role number x e = x.«data» e

starts : (s : List ℕ) → Unnumbered (context_at s 0).track × (rank (context_at s 0).phase ≡ 0)
unfolding context_at
starts s = (record { none = λ e. refl }, refl)

level-bounds : (k : Section) → (1 ≤ level k) × (level k ≤ 5)
level-bounds bib = (omega arith, omega arith)
level-bounds common = (omega arith, omega arith)
level-bounds table = (omega arith, omega arith)

-- SUBENT is due only where it stands
subent-identifier : (p : Phase) (t : Track) (k : ℕ) → role_in p t k ≡ SUBENT → k ≡ SUBENT
unfolding role_in bib_role table_role data_role
subent-identifier p t k = by-phase p
  where
    P : ℕ → Type 0
    P role = role ≡ SUBENT → k ≡ SUBENT

    by-phase : (p : Phase) → P (role_in p t k)
    by-phase Start = either_way P (eqb k ENTRY) _ _ (λ e. absurd (omega arith)) (λ e. absurd (omega arith))
    by-phase Opened = either-as P (eqb k SUBENT) _ _ (λ q e. eqb-true k SUBENT q) (λ q e. absurd (omega arith))
    by-phase InSubentry =
        either_way P (eqb k BIB) _ _ (λ e. absurd (omega arith))
        (either_way P (eqb k NOBIB) _ _ (λ e. absurd (omega arith)) (λ e. absurd (omega arith)))
    by-phase InBib =
        either_way P (eqb t.section t.bib.records) _ _
        (either_way P (eqb k ENDBIB) _ _ (λ e. absurd (omega arith)) (λ e. absurd (omega arith)))
        (either_way P (eqb k OTHER) _ _ (λ e. absurd (omega arith)) (λ e. absurd (omega arith)))
    by-phase AfterBib =
        either_way P (eqb k COMMON) _ _ (λ e. absurd (omega arith))
        (either_way P (eqb k NOCOMMON) _ _ (λ e. absurd (omega arith)) (λ e. absurd (omega arith)))
    by-phase InCommon =
        either_way P (all_read t) _ _
        (either_way P (eqb k ENDCOMMON) _ _ (λ e. absurd (omega arith)) (λ e. absurd (omega arith)))
        (either_way P (is_end k) _ _ (λ e. absurd (omega arith))
        (either_way P (eqb t.table.row HEADINGS) _ _ (λ e. absurd (omega arith))
        (either_way P (eqb t.table.row UNITS) _ _ (λ e. absurd (omega arith)) (λ e. absurd (omega arith)))))
    by-phase AfterCommon =
        either_way P (eqb t.subentry.number 1) _ _
        (either_way P (eqb k ENDSUBENT) _ _ (λ e. absurd (omega arith)) (λ e. absurd (omega arith)))
        (either_way P (eqb k DATA) _ _ (λ e. absurd (omega arith))
        (either_way P (eqb k NODATA) _ _ (λ e. absurd (omega arith)) (λ e. absurd (omega arith))))
    by-phase InData =
        either_way P (all_read t) _ _
        (either_way P (eqb k ENDDATA) _ _ (λ e. absurd (omega arith)) (λ e. absurd (omega arith)))
        (either_way P (is_end k) _ _ (λ e. absurd (omega arith))
        (either_way P (eqb t.table.row HEADINGS) _ _ (λ e. absurd (omega arith))
        (either_way P (eqb t.table.row UNITS) _ _ (λ e. absurd (omega arith)) (λ e. absurd (omega arith)))))
    by-phase AfterData = either_way P (eqb k ENDSUBENT) _ _ (λ e. absurd (omega arith)) (λ e. absurd (omega arith))
    by-phase Between =
        either-as P (eqb k SUBENT) _ _ (λ q e. eqb-true k SUBENT q)
        (λ q.
        either_way P (eqb k NOSUBENT) _ _ (λ e. absurd (omega arith))
        (either_way P (eqb k ENDENTRY) _ _ (λ e. absurd (omega arith)) (λ e. absurd (omega arith))))
    by-phase Done = λ e. absurd (omega arith)

only-subent : (role : ℕ) → opens_subentry role ≡ true → rank (phase_after role) ≤ 7 → role ≡ SUBENT
unfolding phase_after
only-subent role o h = by_tests (eqb role SUBENT) refl (eqb role NOSUBENT) refl o
  where
    by_tests : (a : Bool) → eqb role SUBENT ≡ a → (b : Bool) → eqb role NOSUBENT ≡ b → (a || b) ≡ true → role ≡ SUBENT
    by_tests true p b q o = eqb-true role SUBENT p
    by_tests false p true q o =
        let e : role ≡ NOSUBENT = eqb-true role NOSUBENT q in
        let z = rw e at h in
        absurd (omega arith)
    by_tests false p false q o = let z : ◌≡◌ {A = ℕ} 0 1 = cc in absurd (omega arith)

module _ (s : List ℕ) (n : ℕ) (w : Walked s n) (fits : n * 81 ≤ length s) where
  unnumbered-at : (i : ℕ) → i ≤ n → Unnumbered (context_at s i).track
  unnumbered-at zero h = (starts s).0
  unnumbered-at (suc i) h =
      unnumbered-turn (context_at s i) i (block_at 81 s i) (context_at s (suc i)) (w.turns i (omega arith))
      (unnumbered-at i (omega arith))

  pub nested-at : (i : ℕ) → i < n
      → Nested (context_at s i) (role_at s i) (subentry_of (n1 (fields_of (block_at 81 s i)))) (context_at s (suc i))
  nested-at i h =
      nested-turn (context_at s i) i (block_at 81 s i) (context_at s (suc i)) (w.turns i h)
      (unnumbered-at i (omega arith))

  pub key-rises : (i j : ℕ) → i + j ≤ n → key (context_at s i) ≤ key (context_at s (i + j))
  key-rises i zero h = let e : i + 0 ≡ i = omega arith in rw e (omega arith)
  key-rises i (suc j) h =
      let e : i + suc j ≡ suc (i + j) = omega arith in
      let a = key-rises i j (omega arith) in
      let b = (nested-at (i + j) (omega arith)).rises in
      rw e (omega arith)

  module _ (number : ℕ) where
    key-before : (k : Section) (i : ℕ) → i < n → role_at s i ≡ opener k → (context_at s i).track.subentry.number ≡ number
        → key (context_at s i) ≡ number * 10 + level k
    key-before k i h e m =
        let z = level-of k (context_at s i) (context_at s (suc i)) (role_at s i) _ (nested-at i h) e in
        rw (m, z)

    key-behind : (k : Section) (a : ℕ) → a < n → role_at s a ≡ opener k → (context_at s a).track.subentry.number ≡ number
        → key (context_at s (suc a)) ≡ number * 10 + (level k + 1)
    key-behind k a h e m =
        let x = nested-at a h in
        let same : (context_at s (suc a)).track.subentry.number ≡ number =
        x.inside (rw e (no-subentry k)) ∙ m in
        let z : rank (context_at s (suc a)).phase ≡ level k + 1 =
        rw (x.behind, e) (rank-behind k) in
        rw (same, z)

    -- the record a opens the section k of the subentry: the row names it from there on
    section-named : (k : Section) (a : ℕ) → a < n → role_at s a ≡ opener k
        → (context_at s a).track.subentry.number ≡ number
        → (j : ℕ) → suc a + j ≤ n → (named k (row_at s number (suc a + j))).0 ≡ suc a
    section-named k a h e m zero l =
        let c = context_at s a in
        let r = block_at 81 s a in
        let z : suc a + 0 ≡ suc a = omega arith in
        rw (z, row_next s number a)
        (ap (λ (x : RecordNo). x.0)
        (section-set c.track (role_at s a) (fields_of r) (row_at s number a) k e (m ∙ sym (number-of s number a)))
        ∙ ap (λ (x : ℕ). x + 1) (records-at s a) ∙ add-one a)
    section-named k a h e m (suc j) l =
        let i = suc a + j in
        let c = context_at s i in
        let z : suc a + suc j ≡ suc i = omega arith in
        rw (z, row_next s number i)
        (ap (λ (x : RecordNo). x.0)
        (section-stays c.track (role_at s i) (fields_of (block_at 81 s i)) (row_at s number i) k (again k e))
        ∙ section-named k a h e m j (omega arith))
      where
        again : (k : Section) → role_at s a ≡ opener k → role_at s (suc a + j) ≡ opener k
            → (context_at s (suc a + j)).track.subentry.number ≡ (row_at s number (suc a + j)).number → ⊥
        again k e f g =
            let up = key-rises (suc a) j (omega arith) in
            let x = key-behind k a h e m in
            let y = key-before k (suc a + j) (omega arith) f (g ∙ number-of s number (suc a + j)) in
            omega arith

    -- ---- the first record

    abbrev FirstNamed : ℕ → Type 0
    FirstNamed i =
        (context_at s i).track.subentry.number ≡ number → 1 ≤ rank (context_at s i).phase
        → rank (context_at s i).phase ≤ 7 → identifier_at s (row_at s number i).first ≡ SUBENT

    first-kept : (i : ℕ) → i < n → opens_subentry (role_at s i) ≡ false → FirstNamed i → FirstNamed (suc i)
    first-kept i h o before m a b =
        let c = context_at s i in
        let x = nested-at i h in
        let u = x.inside o in
        let v = x.rises in
        let y : c.track.subentry.number ≡ number = sym u ∙ m in
        rw (row_next s number i)
        (rw (first-stays c.track (role_at s i) (fields_of (block_at 81 s i)) (row_at s number i)
        (λ p q. let z : ◌≡◌ {A = ℕ} 0 1 = cc in omega arith))
        (before y (x.begun o a) (omega arith)))

    first-new : (i : ℕ) → i < n → opens_subentry (role_at s i) ≡ true → FirstNamed (suc i)
    first-new i h o m a b =
        let c = context_at s i in
        let r = block_at 81 s i in
        let x = nested-at i h in
        let e : subentry_of (n1 (fields_of r)) ≡ number = sym (x.opens o).0 ∙ m in
        let at : (row_at s number (suc i)).first ≡ record_of c.track.records =
        rw (row_next s number i)
        (first-set c.track (role_at s i) (fields_of r) (row_at s number i) o (e ∙ sym (number-of s number i))) in
        let z : (record_of c.track.records).0 ≡ suc i = ap (λ (k : ℕ). k + 1) (records-at s i) ∙ add-one i in
        let f : fields_at s (record_of c.track.records) ≡ fields_of r =
        fields-at s i (omega arith) (record_of c.track.records) z in
        rw (at, f)
        (subent-identifier c.phase c.track (identifier_of (get_or (fields_of r) 0 []))
        (only-subent (role_at s i) o (rw x.behind at b)))

    -- inside a subentry, from SUBENT to ENDSUBENT, the row's first record is its SUBENT
    first-named : (i : ℕ) → i ≤ n → FirstNamed i
    first-named zero h = λ m a b. let z = (starts s).1 in absurd (omega arith)
    first-named (suc i) h =
        by-role i (omega arith) (opens_subentry (role_at s i)) refl (first-named i (omega arith))
      where
        by-role : (i : ℕ) → i < n → (o : Bool) → opens_subentry (role_at s i) ≡ o → FirstNamed i → FirstNamed (suc i)
        by-role i h true o before = first-new i h o
        by-role i h false o before = first-kept i h o before

    -- and stays so
    pub first-stands : (a : ℕ) → number * 10 < key (context_at s a) → (j : ℕ) → a + j ≤ n
        → (row_at s number (a + j)).first ≡ (row_at s number a).first
    first-stands a p zero l = let z : a + 0 ≡ a = omega arith in rw z
    first-stands a p (suc j) l =
        let i = a + j in
        let c = context_at s i in
        let z : a + suc j ≡ suc i = omega arith in
        rw (z, row_next s number i)
        (first-stays c.track (role_at s i) (fields_of (block_at 81 s i)) (row_at s number i)
        (λ o e.
        let up = key-rises a j (omega arith) in
        let below = ((nested-at i (omega arith)).opens o).1 in
        let m : subentry_of (n1 (fields_of (block_at 81 s i))) ≡ number = e ∙ number-of s number i in
        omega arith)
        ∙ first-stands a p j (omega arith))

-- ---- in an accepted entry

-- a record that opens the section k of a subentry
abbrev pub Opening : List ℕ → ℕ → Section → ℕ → Type 0
Opening s number k a = RecordOf s number (opener k) a

module _ (s : List ℕ) (accepted : Accepted s) (number : ℕ) (k : Section) (a : ℕ) (o : Opening s number k a) where
  abbrev n : ℕ
  n = length s / 81

  -- the row names it
  pub row-names : (named k (row_of s number)).0 ≡ suc a
  row-names =
      let e : suc a + (n - suc a) ≡ n = omega (arith, o.there) in
      rw (found-row s number accepted)
      (rw e at
      (section-named s n (walked s accepted) (omega arith) number k a o.there o.role o.subentry (n - suc a)
      (omega (arith, o.there))))

  -- and its first record is SUBENT
  pub row-subent : identifier_at s (row_of s number).first ≡ SUBENT
  row-subent =
      let w = walked s accepted in
      let x = nested-at s n w (omega arith) a o.there in
      let z = level-of k (context_at s a) (context_at s (suc a)) (role_at s a) _ x o.role in
      let l = level-bounds k in
      let e : a + (n - a) ≡ n = omega (arith, o.there) in
      let m = o.subentry in
      let f : (row_at s number n).first ≡ (row_at s number a).first =
      rw e at (first-stands s n w (omega arith) number a (omega arith) (n - a) (omega (arith, o.there))) in
      rw (found-row s number accepted, f)
      (first-named s n w (omega arith) number a (omega (arith, o.there)) m (omega arith) (omega arith))

  -- the fields of that record
  pub row-fields : fields_at s (named k (row_of s number)) ≡ fields_of (block_at 81 s a)
  row-fields = fields-at s a (omega (arith, o.there)) (named k (row_of s number)) row-names

-- The nesting as a number that never falls: ten times the subentry's number, and the rank of the phase inside a
-- subentry. So a record that opens a subentry, BIB, COMMON or DATA is met once for each number. Assumes nothing.
use Prim.Native.Nat.{ℕ, ◌+◌, ◌*◌, ◌<◌, ◌≤◌}
use mathlib.Core.Path.{◌≡◌, refl, sym, ap}
use mathlib.Core.Bool.{Bool, true, false, cond, ◌&&◌, ◌||◌}
use mathlib.Core.List.{List, []}
use native.Mathlib.Omega.{arith}
use lib.Dec.{eqb, ltb, leb}
use lib.ListN.{get_or}
use borrow.Author.Tests.{eqb-true, leb-true, ltb-true}
use Rattle.laws.specs.Turns.{go}
use Rattle.laws.proofs.Booleans.{and_left, and_right, or-other, either-as}
use Rattle.paper_record.specs.Fields.{fields_of, n1}
use Rattle.paper_record.specs.Identifier.{ENTRY, SUBENT, NOSUBENT, BIB, NOBIB, ENDBIB, COMMON, NOCOMMON, ENDCOMMON, DATA}
use Rattle.paper_record.specs.Identifier.{NODATA, ENDDATA, ENDSUBENT, ENDENTRY, OTHER, identifier_of, is_end}
use Rattle.paper_record.specs.System.{subentry_of}
use Rattle.paper_record.specs.Word.{blank_to}
use Rattle.paper_rules.specs.declared.types.Phase.{Phase}
use Rattle.paper_rules.specs.declared.types.Phase.TheVariants.{Start, Opened, InSubentry, InBib, AfterBib, InCommon}
use Rattle.paper_rules.specs.declared.types.Phase.TheVariants.{AfterCommon, InData, AfterData, Between, Done}
use Rattle.paper_rules.specs.declared.types.Track.{Track}
use Rattle.paper_rules.specs.State.{Context, HEADINGS, UNITS}
use Rattle.paper_rules.specs.Roles.{TEXT, NOT-DUE, is_system, opens_subentry, is_heading, is_unit, is_value}
use Rattle.paper_rules.specs.Role.{bib_role, all_read, table_role, data_role, role_in}
use Rattle.paper_rules.specs.System.{number_due}
use Rattle.paper_rules.proofs.DueRecords.{fine-due, fine-number}
use Rattle.laws.proofs.EitherWay.{either_way}
use Rattle.paper_entry.specs.Due.{phase_after}
use Rattle.paper_entry.specs.Tally.{text_read}
use Rattle.paper_entry.specs.Counted.{after_system, after_inside, track_after}
use Rattle.paper_entry.specs.Next.{context_after}
use Rattle.paper_entry.specs.Judging.{role_of, turn_of}
use Rattle.entry_walk.proofs.GoingOn.{go-fine}

-- ---- ranks

abbrev pub rank : Phase → ℕ
rank Start = 0
rank Opened = 0
rank InSubentry = 1
rank InBib = 2
rank AfterBib = 3
rank InCommon = 4
rank AfterCommon = 5
rank InData = 6
rank AfterData = 7
rank Between = 8
rank Done = 9

pub rank_below : (p : Phase) → rank p < 10
rank_below Start = omega arith
rank_below Opened = omega arith
rank_below InSubentry = omega arith
rank_below InBib = omega arith
rank_below AfterBib = omega arith
rank_below InCommon = omega arith
rank_below AfterCommon = omega arith
rank_below InData = omega arith
rank_below AfterData = omega arith
rank_below Between = omega arith
rank_below Done = omega arith

-- ---- what a role says of the phase before it

-- a section is opened at its rank; a record that opens no subentry does not lead back, nor into a subentry
abbrev opens_at : ℕ → ℕ → Bool
opens_at before role =
    cond (eqb role BIB) (eqb before 1) (cond (eqb role COMMON) (eqb before 3)
    (cond (eqb role DATA) (eqb before 5) true))

abbrev leads : ℕ → ℕ → ℕ → Bool
leads before role behind =
    opens_subentry role || (leb before behind && (leb 1 before || eqb behind 0))

nests : Phase → ℕ → Bool
nests p role = eqb role NOT-DUE || (opens_at (rank p) role && leads (rank p) role (rank (phase_after role)))

abbrev Nests : Phase → ℕ → Type 0
Nests p role = nests p role ≡ true

nested : (p : Phase) (t : Track) (k : ℕ) → nests p (role_in p t k) ≡ true
unfolding nests role_in bib_role table_role data_role phase_after
nested Start t k = either_way (Nests Start) (eqb k ENTRY) _ _ refl refl
nested Opened t k = either_way (Nests Opened) (eqb k SUBENT) _ _ refl refl
nested InSubentry t k =
    either_way (Nests InSubentry) (eqb k BIB) _ _ refl (either_way (Nests InSubentry) (eqb k NOBIB) _ _ refl refl)
nested InBib t k =
    either_way (Nests InBib) (eqb t.section t.bib.records) _ _
    (either_way (Nests InBib) (eqb k ENDBIB) _ _ refl refl)
    (either_way (Nests InBib) (eqb k OTHER) _ _ refl refl)
nested AfterBib t k =
    either_way (Nests AfterBib) (eqb k COMMON) _ _ refl (either_way (Nests AfterBib) (eqb k NOCOMMON) _ _ refl refl)
nested InCommon t k =
    either_way (Nests InCommon) (all_read t) _ _ (either_way (Nests InCommon) (eqb k ENDCOMMON) _ _ refl refl)
    (either_way (Nests InCommon) (is_end k) _ _ refl
    (either_way (Nests InCommon) (eqb t.table.row HEADINGS) _ _ refl
    (either_way (Nests InCommon) (eqb t.table.row UNITS) _ _ refl refl)))
nested AfterCommon t k =
    either_way (Nests AfterCommon) (eqb t.subentry.number 1) _ _
    (either_way (Nests AfterCommon) (eqb k ENDSUBENT) _ _ refl refl)
    (either_way (Nests AfterCommon) (eqb k DATA) _ _ refl (either_way (Nests AfterCommon) (eqb k NODATA) _ _ refl refl))
nested InData t k =
    either_way (Nests InData) (all_read t) _ _ (either_way (Nests InData) (eqb k ENDDATA) _ _ refl refl)
    (either_way (Nests InData) (is_end k) _ _ refl
    (either_way (Nests InData) (eqb t.table.row HEADINGS) _ _ refl
    (either_way (Nests InData) (eqb t.table.row UNITS) _ _ refl refl)))
nested AfterData t k = either_way (Nests AfterData) (eqb k ENDSUBENT) _ _ refl refl
nested Between t k =
    either_way (Nests Between) (eqb k SUBENT) _ _ refl
    (either_way (Nests Between) (eqb k NOSUBENT) _ _ refl (either_way (Nests Between) (eqb k ENDENTRY) _ _ refl refl))
nested Done t k = refl

-- ---- the number of the subentry

-- only SUBENT and NOSUBENT change it
number-kept : (t : Track) (role : ℕ) (fs : List (List ℕ)) (r : List ℕ) → opens_subentry role ≡ false
    → (track_after t role fs r).subentry.number ≡ t.subentry.number
unfolding track_after after_system after_inside text_read
number-kept t role fs r o =
    either-as P (is_system role) _ _
    (λ e.
    either-as P (eqb role ENTRY) _ _ (λ e. refl)
    (λ e.
    rw o
    (either-as P (eqb role BIB) _ _ (λ e. refl)
    (λ e. either-as P (eqb role COMMON) _ _ (λ e. refl)
    (λ e. either-as P (eqb role DATA) _ _ (λ e. refl) (λ e. refl))))))
    (λ e.
    either-as P (eqb role TEXT) _ _ (λ e. either-as P (blank_to 10 (get_or fs 0 [])) _ _ (λ e. refl) (λ e. refl))
    (λ e.
    either-as P (is_heading role) _ _ (λ e. refl)
    (λ e. either-as P (is_unit role) _ _ (λ e. refl) (λ e. either-as P (is_value role) _ _ (λ e. refl) (λ e. refl)))))
  where
    P : Track → Type 0
    P u = u.subentry.number ≡ t.subentry.number

number-opened : (t : Track) (role : ℕ) (fs : List (List ℕ)) (r : List ℕ) → opens_subentry role ≡ true
    → (track_after t role fs r).subentry.number ≡ subentry_of (n1 fs)
unfolding track_after after_system
number-opened t role fs r o = by-test (eqb role SUBENT) refl (eqb role NOSUBENT) refl o
  where
    by-test : (a : Bool) → eqb role SUBENT ≡ a → (b : Bool) → eqb role NOSUBENT ≡ b → (a || b) ≡ true
        → (track_after t role fs r).subentry.number ≡ subentry_of (n1 fs)
    by-test true p b q h = let e : role ≡ SUBENT = eqb-true role SUBENT p in rw e
    by-test false p true q h = let e : role ≡ NOSUBENT = eqb-true role NOSUBENT q in rw e
    by-test false p false q h = let z : ◌≡◌ {A = ℕ} 0 1 = cc in absurd (omega arith)

-- before the first subentry the number is 0
pub record Unnumbered (t : Track) : Type 0 where
  pub none : t.totals.subentries ≡ 0 → t.subentry.number ≡ 0

unnumbered-next : (t : Track) (role : ℕ) (fs : List (List ℕ)) (r : List ℕ) → Unnumbered t
    → Unnumbered (track_after t role fs r)
unfolding track_after after_system after_inside text_read
unnumbered-next t role fs r u =
    either-as Unnumbered (is_system role) _ _
    (λ e.
    either-as Unnumbered (eqb role ENTRY) _ _ (λ e. record { none = u.none })
    (λ e.
    either-as Unnumbered (opens_subentry role) _ _ (λ e. record { none = λ z. absurd (omega arith) })
    (λ e.
    either-as Unnumbered (eqb role BIB) _ _ (λ e. record { none = u.none })
    (λ e.
    either-as Unnumbered (eqb role COMMON) _ _ (λ e. record { none = u.none })
    (λ e.
    either-as Unnumbered (eqb role DATA) _ _ (λ e. record { none = u.none }) (λ e. record { none = u.none }))))))
    (λ e.
    either-as Unnumbered (eqb role TEXT) _ _
    (λ e.
    either-as Unnumbered (blank_to 10 (get_or fs 0 [])) _ _ (λ e. record { none = u.none })
    (λ e. record { none = u.none }))
    (λ e.
    either-as Unnumbered (is_heading role) _ _ (λ e. record { none = u.none })
    (λ e.
    either-as Unnumbered (is_unit role) _ _ (λ e. record { none = u.none })
    (λ e.
    either-as Unnumbered (is_value role) _ _ (λ e. record { none = u.none }) (λ e. record { none = u.none })))))

-- the number that is due is above the last
due-above : (t : Track) (number : ℕ) → Unnumbered t → number_due t number ≡ true → t.subentry.number < number
due-above t number u h = by-test (eqb t.totals.subentries 0) refl h
  where
    by-test : (a : Bool) → eqb t.totals.subentries 0 ≡ a
        → cond a (eqb number 1) (ltb t.subentry.number number && leb number 998) ≡ true
        → t.subentry.number < number
    by-test true p h =
        let z : t.subentry.number ≡ 0 = u.none (eqb-true t.totals.subentries 0 p) in
        let o : number ≡ 1 = eqb-true number 1 h in
        omega arith
    by-test false p h =
        ltb-true t.subentry.number number (and_left (ltb t.subentry.number number) (leb number 998) h)

-- ---- one record

abbrev pub key : Context → ℕ
key c = c.track.subentry.number * 10 + rank c.phase

-- what a turn that goes on says of the nesting
pub record Nested (c : Context) (role number : ℕ) (d : Context) : Type 0 where
  pub rises : key c ≤ key d
  pub opens : opens_subentry role ≡ true → (d.track.subentry.number ≡ number) × (key c < number * 10)
  pub inside : opens_subentry role ≡ false → d.track.subentry.number ≡ c.track.subentry.number
  pub begun : opens_subentry role ≡ false → 1 ≤ rank d.phase → 1 ≤ rank c.phase
  pub bib : role ≡ BIB → rank c.phase ≡ 1
  pub common : role ≡ COMMON → rank c.phase ≡ 3
  pub «data» : role ≡ DATA → rank c.phase ≡ 5
  pub behind : d.phase ≡ phase_after role

and_both : (a b : Bool) → (a && b) ≡ true → (a ≡ true) × (b ≡ true)
and_both a b e = (and_left a b e, and_right a b e)

module _ (c : Context) (i : ℕ) (r : List ℕ) (d : Context) (goes : turn_of c i r ≡ go d) (u : Unnumbered c.track) where
  abbrev role : ℕ
  role = role_of c r

  after-number : d.track ≡ track_after c.track role (fields_of r) r
  unfolding context_after
  after-number = ap (λ (x : Context). x.track) (sym (go-fine c i r d goes).1)

  after-phase : d.phase ≡ phase_after role
  unfolding context_after
  after-phase = ap (λ (x : Context). x.phase) (sym (go-fine c i r d goes).1)

  pub unnumbered-turn : Unnumbered d.track
  unnumbered-turn = rw after-number (unnumbered-next c.track role (fields_of r) r u)

  is-due : eqb role NOT-DUE ≡ false
  is-due = by-test (eqb role NOT-DUE) refl
    where
      by-test : (b : Bool) → eqb role NOT-DUE ≡ b → b ≡ false
      by-test true e =
          absurd (fine-due c.track c.seen role (fields_of r) r (go-fine c i r d goes).0 (eqb-true role NOT-DUE e))
      by-test false e = refl

  placed : (opens_at (rank c.phase) role ≡ true) × (leads (rank c.phase) role (rank (phase_after role)) ≡ true)
  unfolding nests
  placed =
      and_both (opens_at (rank c.phase) role) (leads (rank c.phase) role (rank (phase_after role)))
      (or-other (eqb role NOT-DUE) _ (nested c.phase c.track (identifier_of (get_or (fields_of r) 0 []))) is-due)

  led : opens_subentry role ≡ false
      → (rank c.phase ≤ rank (phase_after role)) × (1 ≤ rank (phase_after role) → 1 ≤ rank c.phase)
  led o =
      let p = rank c.phase in
      let q = rank (phase_after role) in
      let (a, b) = and_both (leb p q) (leb 1 p || eqb q 0) (or-other (opens_subentry role) _ placed.1 o) in
      (leb-true p q a, by-test (leb 1 p) refl b)
    where
      by-test : (a : Bool) → leb 1 (rank c.phase) ≡ a → (a || eqb (rank (phase_after role)) 0) ≡ true
          → 1 ≤ rank (phase_after role) → 1 ≤ rank c.phase
      by-test true e h k = leb-true 1 (rank c.phase) e
      by-test false e h k =
          let z : rank (phase_after role) ≡ 0 = eqb-true (rank (phase_after role)) 0 h in absurd (omega arith)

  risen : opens_subentry role ≡ true → c.track.subentry.number < subentry_of (n1 (fields_of r))
  risen o =
      due-above c.track (subentry_of (n1 (fields_of r))) u
      (fine-number c.track c.seen role (fields_of r) r (go-fine c i r d goes).0 o)

  pub nested-turn : Nested c role (subentry_of (n1 (fields_of r))) d
  nested-turn =
      record {
        rises = by-role (opens_subentry role) refl;
        opens = λ o.
            let a = risen o in
            let b = rank_below c.phase in
            (rw after-number (number-opened c.track role (fields_of r) r o), omega arith);
        inside = λ o. rw after-number (number-kept c.track role (fields_of r) r o);
        begun = λ o h. (led o).1 (rw after-phase at h);
        bib = λ e. eqb-true (rank c.phase) 1 (rw e at placed.0);
        common = λ e. eqb-true (rank c.phase) 3 (rw e at placed.0);
        «data» = λ e. eqb-true (rank c.phase) 5 (rw e at placed.0);
        behind = after-phase;
      }
    where
      by-role : (b : Bool) → opens_subentry role ≡ b → key c ≤ key d
      by-role true o =
          let a = risen o in
          let e = number-opened c.track role (fields_of r) r o in
          let b = rank_below c.phase in
          rw after-number (rw e (omega arith))
      by-role false o =
          let e = number-kept c.track role (fields_of r) r o in
          let a = (led o).0 in
          rw (after-number, after-phase) (rw e (omega arith))

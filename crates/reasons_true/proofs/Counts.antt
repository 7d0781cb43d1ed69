-- What is said for 8 is what the table of counts says, and the table says one thing.
-- Assumes nothing.
use Prim.Native.Nat.{ℕ, ◌*◌}
use mathlib.Core.Path.{◌≡◌, refl, sym, ◌∙◌, ap, subst}
use mathlib.Core.Bool.{Bool, true, false, cond, not, ◌&&◌, ◌||◌}
use mathlib.Core.List.{◌++◌}
use native.Mathlib.Omega.{arith}
use borrow.Author.Tests.{eqb-true, eqb-false, eq-eqb, ne_eqb, leb-false, le-leb, ltb-true, not-true}
use lib.Dec.{eqb, leb}
use Rattle.laws.specs.Blocks.{block_at}
use Rattle.laws.specs.Search.{first}
use Rattle.laws.proofs.Booleans.{differ, and_both, or-either, or-other}
use Rattle.paper_record.specs.Text.{within}
use Rattle.paper_record.specs.Places.{records_for}
use Rattle.paper_record.specs.Fields.{fields_of}
use Rattle.paper_record.specs.Identifier.{BIB, ENDBIB, COMMON, ENDCOMMON, DATA, ENDDATA, ENDSUBENT, ENDENTRY, TRANS}
use Rattle.paper_record.specs.Identifier.{is_end}
use Rattle.paper_record.specs.Word.{equal_to}
use Rattle.paper_rules.specs.declared.types.Track.{Track}
use Rattle.paper_rules.specs.Roles.{is_system, opens_section}
use Rattle.paper_faults.specs.Fault.{on, when}
use Rattle.paper_rules.specs.Counts.{count_n1, count_n2, limit_n1, limit_n2, meets, announced_fault, true_count}
use Rattle.paper_rules.specs.Counts.{keywords_true, count_true, rule8}
use Rattle.paper_entry.specs.Contexts.{context_at, role_at}
use Rattle.paper_reasons.specs.declared.types.Facts.{Facts}
use Rattle.paper_reasons.specs.declared.types.Facts.TheVariants.{Count}
use Rattle.paper_reasons.specs.declared.types.Reason.{Reason}
use Rattle.paper_reasons.specs.Reason.{announced_facts, end_facts, count_facts, reason_for, explain}
use Rattle.rules_plain.specs.Places.{Some, here, further}
use Rattle.refusal_table.proofs.Columns.{computed}
use Rattle.refusal_table.proofs.ByNumber.{least-found, on_some}
use Rattle.reasons_true.specs.Counted.{Outside, too_few, too_many, CountSaid, bib_keywords, bib-records}
use Rattle.reasons_true.specs.Counted.{common_columns, common_records, data_columns, data_lines, end_bib, end_common}
use Rattle.reasons_true.specs.Counted.{end_data, end_subent, end_entry, keywords, Explained8, OneCount}
use Rattle.reasons_true.proofs.ReasonAt.{first-there, reason-at}

-- ---- what fails

outside : (least greatest n : ℕ) → within least greatest n ≡ false → Outside least greatest n
outside least greatest n e = by-test (leb least n) refl e
  where
    by-test : (b : Bool) → leb least n ≡ b → (b && leb n greatest) ≡ false → Outside least greatest n
    by-test false q h = too_few (leb-false least n q)
    by-test true q h = too_many (leb-false n greatest h)

other : (c n : ℕ) → within c c n ≡ false → n ≡ c → ⊥
other c n e q = differ (sym (and_both (le-leb c n (omega arith)) (le-leb n c (omega arith))) ∙ e)

when-some : (b : Bool) (c k : ℕ) → Some (λ x. x ≡ k) (when b c) → (b ≡ true) × (c ≡ k)
when-some false c k x' = elim x' [ ]
when-some true c k (further x6) = elim x6 [ ]
when-some true c k (here e) = (refl, e)

either-some : (a b : Bool) (c d k : ℕ) (X : Type 0) → Some (λ x. x ≡ k) (when a c ++ when b d)
    → (a ≡ true → c ≡ k → X) → (b ≡ true → d ≡ k → X) → X
either-some true b c d k X (here e) p q = p refl e
either-some true b c d k X (further h) p q = let (x, y) = when-some b d k h in q x y
either-some false b c d k X h p q = let (x, y) = when-some b d k h in q x y

module _ (t : Track) (a b : ℕ) where
  -- ---- a record that opens a section

  abbrev Opening : ℕ → ℕ → Type 0
  Opening role k = CountSaid t a b role k (announced_facts role a b k)

  abbrev Announced : ℕ → ℕ → Type 0
  Announced k role = Some (λ x. x ≡ k) (announced_fault role a b) → Opening role k

  -- N1 fails, or N2
  opened : (role k : ℕ) → (meets (limit_n1 role) a ≡ false → Opening role 12)
      → (meets (limit_n2 role a) b ≡ false → Opening role 23) → Announced k role
  unfolding announced_fault
  opened role k p q h =
      either-some (not (meets (limit_n1 role) a)) (not (meets (limit_n2 role a) b)) 12 23 k (Opening role k) h
      (λ e z. subst (Opening role) z (p (not-true (meets (limit_n1 role) a) e)))
      (λ e z. subst (Opening role) z (q (not-true (meets (limit_n2 role a) b) e)))

  opened-bib : (k : ℕ) → Announced k BIB
  unfolding limit_n1 limit_n2 announced_facts
  opened-bib k = opened BIB k (λ e. bib_keywords (leb-false 1 a e)) (λ e. bib-records (leb-false a b e))

  opened-common : (k : ℕ) → Announced k COMMON
  unfolding limit_n1 limit_n2 announced_facts
  opened-common k =
      opened COMMON k (λ e. common_columns (outside 1 18 a e))
      (λ e. common_records (other (3 * records_for a) b e))

  opened-data : (k : ℕ) → Announced k DATA
  unfolding limit_n1 limit_n2 announced_facts
  opened-data k =
      opened DATA k (λ e. data_columns (outside 1 18 a e)) (λ e. data_lines (outside 1 20000 b e))

  announced : (role k : ℕ) → opens_section role ≡ true → Announced k role
  announced role k e =
      or-either (eqb role BIB) _ e (λ q. in-role BIB q (opened-bib k))
      (λ q. or-either (eqb role COMMON) _ q (λ q. in-role COMMON q (opened-common k))
      (λ q. in-role DATA q (opened-data k)))
    where
      in-role : (y : ℕ) → eqb role y ≡ true → Announced k y → Announced k role
      in-role y q f = subst (Announced k) (sym (eqb-true role y q)) f

  -- ---- an END record

  abbrev Closing : ℕ → Facts → Type 0
  Closing role facts = CountSaid t a b role 12 facts

  abbrev Closed : ℕ → Type 0
  Closed role = count_true t role a ≡ false → Closing role (end_facts t role a)

  closed : (role : ℕ) → ((a ≡ true_count t role → ⊥) → Closing role (Count a (true_count t role)))
      → (a ≡ true_count t role → keywords_true t role ≡ false → Closing role (Count t.bib.keywords t.bib.met))
      → Closed role
  unfolding end_facts
  closed role p q e = by-test (eqb a (true_count t role)) refl e
    where
      by-test : (x : Bool) → eqb a (true_count t role) ≡ x → (x && keywords_true t role) ≡ false
          → Closing role (cond x (Count t.bib.keywords t.bib.met) (Count a (true_count t role)))
      by-test false r h = p (eqb-false a (true_count t role) r)
      by-test true r h = q (eqb-true a (true_count t role) r) h

  closed-bib : Closed ENDBIB
  unfolding true_count
  closed-bib =
      closed ENDBIB end_bib (λ z h. keywords z (λ w. eqb-false t.bib.met t.bib.keywords h (sym w)))

  closed-common : Closed ENDCOMMON
  unfolding true_count
  closed-common = closed ENDCOMMON end_common (λ z h. differ h)

  closed-data : Closed ENDDATA
  unfolding true_count
  closed-data = closed ENDDATA end_data (λ z h. differ h)

  closed-subent : Closed ENDSUBENT
  unfolding true_count
  closed-subent = closed ENDSUBENT end_subent (λ z h. differ h)

  closed-entry : Closed ENDENTRY
  unfolding true_count
  closed-entry = closed ENDENTRY end_entry (λ z h. differ h)

  -- the five of them
  abbrev an_end : ℕ → Bool
  an_end role =
      eqb role ENDBIB || (eqb role ENDCOMMON || (eqb role ENDDATA || (eqb role ENDSUBENT || eqb role ENDENTRY)))

  an-end : (role : ℕ) → is_system role ≡ true → is_end role ≡ true → an_end role ≡ true
  unfolding is_end equal_to first
  an-end role system e =
      or-other (not (is_end role)) (an_end role)
      (computed (λ j. not (is_end j) || an_end j) TRANS tt refl role (ltb-true role TRANS system)) (ap not e)

  ended : (role : ℕ) → is_system role ≡ true → is_end role ≡ true → Closed role
  ended role system end =
      or-either (eqb role ENDBIB) _ (an-end role system end) (λ q. in-role ENDBIB q closed-bib)
      (λ q. or-either (eqb role ENDCOMMON) _ q (λ q. in-role ENDCOMMON q closed-common)
      (λ q. or-either (eqb role ENDDATA) _ q (λ q. in-role ENDDATA q closed-data)
      (λ q. or-either (eqb role ENDSUBENT) _ q (λ q. in-role ENDSUBENT q closed-subent)
      (λ q. in-role ENDENTRY q closed-entry))))
    where
      in-role : (y : ℕ) → eqb role y ≡ true → Closed y → Closed role
      in-role y q f = subst Closed (sym (eqb-true role y q)) f

  -- ---- both

  -- the facts that are handed out
  abbrev facts : ℕ → ℕ → Facts
  facts role k = cond (opens_section role) (announced_facts role a b k) (end_facts t role a)

  counted : (role k : ℕ) → is_system role ≡ true
      → Some (λ x. x ≡ k)
      (cond (opens_section role) (announced_fault role a b) (on (is_end role) (when (not (count_true t role a)) 12)))
      → CountSaid t a b role k (facts role k)
  counted role k system h = by-test (opens_section role) refl h
    where
      by-test : (x : Bool) → opens_section role ≡ x
          → Some (λ x. x ≡ k)
          (cond x (announced_fault role a b) (on (is_end role) (when (not (count_true t role a)) 12)))
          → CountSaid t a b role k (cond x (announced_facts role a b k) (end_facts t role a))
      by-test true q h = announced role k q h
      by-test false q h =
          let (end, found) = on_some (λ x. x ≡ k) (is_end role) _ h in
          let (e, z) = when-some (not (count_true t role a)) 12 k found in
          subst (λ (x : ℕ). CountSaid t a b role x (end_facts t role a)) z
          (ended role system end (not-true (count_true t role a) e))

  -- and each row of the table says these
  row-says : (role k : ℕ) (x : Facts) → CountSaid t a b role k x → x ≡ facts role k
  unfolding announced_facts limit_n1 limit_n2 end_facts true_count
  row-says role k x (bib_keywords h) = refl
  row-says role k x (bib-records h) = refl
  row-says role k x (common_columns h) = refl
  row-says role k x (common_records h) = refl
  row-says role k x (data_columns h) = refl
  row-says role k x (data_lines h) = refl
  row-says role k x (end_bib h) = rw (ne_eqb a t.section h) refl
  row-says role k x (end_common h) = rw (ne_eqb a t.section h) refl
  row-says role k x (end_data h) = rw (ne_eqb a t.section h) refl
  row-says role k x (end_subent h) = rw (ne_eqb a t.subentry.records h) refl
  row-says role k x (end_entry h) = rw (ne_eqb a t.totals.subentries h) refl
  row-says role k x (keywords e h) = rw (eq-eqb a t.section e) refl

pub one-count : OneCount
one-count t a b role k x y p q = row-says t a b role k x p ∙ sym (row-says t a b role k y q)

pub explained8 : Explained8
unfolding reason_for count_facts rule8
explained8 s i k e =
    let c = context_at s i in
    let r = block_at 81 s i in
    let h = first-there s i 8 k (omega arith) (omega arith) e in
    let (system, found) =
    on_some (λ c. c ≡ k) (is_system (role_at s i)) _
    (least-found c.track c.seen (role_at s i) (fields_of r) r 8 k h.least) in
    let said : (explain s).reason.facts ≡ count_facts c.track (role_at s i) (fields_of r) k =
    ap (λ (y : Reason). y.facts) (reason-at s i 8 k e) in
    rw said (counted c.track (count_n1 (fields_of r)) (count_n2 (fields_of r)) (role_at s i) k system found)

-- A subentry is there exactly where a SUBENT or NOSUBENT opens it, and its extent begins with that record.
-- Assumes nothing.
use Prim.Native.Nat.{ℕ, zero, suc, ◌+◌, ◌-◌, ◌/◌, ◌<◌, ◌≤◌}
use mathlib.Core.Path.{◌≡◌, refl, sym, ap, ◌∙◌}
use mathlib.Core.Bool.{Bool, true, false}
use mathlib.Core.List.{List}
use native.Mathlib.Omega.{arith}
use borrow.Author.Tests.{lt-leb}
use lib.Dec.{leb}
use lib.ListN.{length}
use Rattle.laws.proofs.Booleans.{differ, and_none}
use Rattle.laws.proofs.EitherWay.{no}
use Rattle.laws.proofs.Search.{either, first_to}
use Rattle.paper_record.specs.Identifier.{ENDENTRY}
use Rattle.paper_record.specs.declared.types.RecordNo.{RecordNo}
use Rattle.paper_rules.specs.Roles.{opens_subentry}
use Rattle.paper_entry.specs.Judging.{Accepted}
use Rattle.paper_entry.specs.Contexts.{role_at}
use Rattle.entry_walk.proofs.AcceptedWalk.{walked}
use Rattle.paper_questions.specs.Located.{row_of}
use Rattle.paper_index.specs.Rows.{index_of}
use Rattle.paper_index.specs.ByIndex.{has_row, rows_before}
use Rattle.index_rows.specs.Index.{OpensWith}
use Rattle.index_rows.specs.Walk.{in_hand}
use Rattle.index_rows.proofs.Opened.{hand-more, hand-same}
use Rattle.index_rows.proofs.Found.{found-opened}
use Rattle.index_rows.proofs.Said.{row-none, row-said}
use Rattle.paper_revisions.specs.Extents.{records_of, subentry_at, extent_of, has}
use Rattle.revisions_extents_laws.specs.Laid.{HasExactly, OpenedOnce, HasNone}
use Rattle.revisions_extents_laws.proofs.Columns.{last_end, hand-most, hand-rises, hand-start, said-behind, said-last}
use Rattle.revisions_extents_laws.proofs.Extents.{extent-only, has-bounds, whole_of, said_has}

-- a record that opens a subentry is not ENDENTRY
not_end : (role : ℕ) → opens_subentry role ≡ true → role ≡ ENDENTRY → ⊥
not_end role o e = no (rw e at o)

module _ (s : List ℕ) (accepted : Accepted s) where
  -- a record that opens a subentry is not the last, and says its number
  pub opener-in : (i : ℕ) → i < records_of s → opens_subentry (role_at s i) ≡ true → suc i < records_of s
  opener-in i h o =
      either (suc i) (records_of s) (λ l. l)
      (λ l. absurd (not_end (role_at s i) o (last_end s accepted i (omega arith))))

  pub opener-said : (n i : ℕ) → OpensWith s n i
      → (suc i < records_of s) × (subentry_at s i ≡ n) × (in_hand s i < n) × (n ≤ 998)
  opener-said n i x =
      let h = x.there in
      let l = opener-in i h x.role in
      let m = hand-more s (records_of s) (walked s accepted) (omega arith) i h x.role in
      let a = m.0 in
      let b = m.1 in
      let e = x.bears in
      let most = hand-most s accepted (suc i) (omega arith) in
      (l, said-behind s accepted i l ∙ a ∙ e, omega arith, omega arith)

  opener-within : (n i : ℕ) → OpensWith s n i → ((extent_of s n).from ≤ i) × (i < (extent_of s n).past)
  opener-within n i x =
      whole_of s accepted n i (record { there = x.there; said = (opener-said n i x).1 })

  pub opener-has : (n i : ℕ) → OpensWith s n i → has s n ≡ true
  opener-has n i x =
      let y = opener-said n i x in
      let low = y.2 in
      said_has s accepted n i (record { there = x.there; said = y.1 }) (omega arith) y.3

  -- the first record of the extent is the one that opens it
  pub opener-from : (n i : ℕ) → OpensWith s n i → i ≡ (extent_of s n).from
  opener-from n i x =
      let w = opener-within n i x in
      let from = (extent_of s n).from in
      let a = w.0 in
      let b = w.1 in
      let y = opener-said n i x in
      let l = y.0 in
      let below = y.2 in
      either from i
      (λ m.
      let e = (extent-only s n from (omega arith) (omega arith)).said in
      let f = said-behind s accepted from (omega arith) in
      let z : suc from + (i - suc from) ≡ i = omega arith in
      let r = rw z at (hand-rises s accepted (suc from) (i - suc from) (omega arith)) in
      absurd (omega arith))
      (λ m. omega arith)

  -- before the first record another number is in hand
  hand-before : (n i : ℕ) → i ≤ (extent_of s n).from → i < records_of s → 1 ≤ n → in_hand s i ≡ n → ⊥
  hand-before n zero l h m e = let z = hand-start s accepted in omega arith
  hand-before n (suc i) l h m e =
      let w = whole_of s accepted n i (record { there = omega arith; said = said-behind s accepted i h ∙ e }) in
      let a = w.0 in
      omega arith

  pub has-opener : (n : ℕ) → has s n ≡ true → OpensWith s n (extent_of s n).from
  has-opener n h =
      let b = has-bounds s n h in
      let low = b.0.0 in
      let most = b.0.1 in
      let some = b.1 in
      let x = extent-only s n (extent_of s n).from (omega arith) some in
      let there = x.there in
      let said = x.said in
      let inner : suc (extent_of s n).from < records_of s =
      either (suc (extent_of s n).from) (records_of s) (λ l. l)
      (λ l. let e = said-last s accepted (extent_of s n).from (omega arith) in absurd (omega arith)) in
      let f : in_hand s (suc (extent_of s n).from) ≡ n = sym (said-behind s accepted (extent_of s n).from inner) ∙ said in
      by-test there low f (opens_subentry (role_at s (extent_of s n).from)) refl
    where
      by-test : (extent_of s n).from < records_of s → 1 ≤ n → in_hand s (suc (extent_of s n).from) ≡ n
          → (b : Bool) → opens_subentry (role_at s (extent_of s n).from) ≡ b → OpensWith s n (extent_of s n).from
      by-test there low f true o =
          record {
            there = there;
            role = o;
            bears = sym (hand-more s (records_of s) (walked s accepted) (omega arith) (extent_of s n).from there o).0 ∙ f;
          }
      by-test there low f false o =
          let e = hand-same s (records_of s) (walked s accepted) (omega arith) (extent_of s n).from there o in
          absurd (hand-before n (extent_of s n).from (omega arith) there low (sym e ∙ f))

  -- ---- and the row of its number names it

  pub has-row : (n : ℕ) → has s n ≡ true → (row_of s n).first.0 ≡ (extent_of s n).from + 1
  has-row n h = (row-said s accepted n (extent_of s n).from (has-opener n h)).first

  none_row : (n : ℕ) → has s n ≡ false → (row_of s n).first.0 ≡ 0
  unfolding rows_before
  none_row n h =
      let most = first_to (has_row (index_of s) n) 0 (length (index_of s) / 5) in
      either (rows_before (index_of s) n) (length (index_of s) / 5)
      (λ l.
      let (i, x) = found-opened s accepted n l in
      differ (sym (opener-has n i x) ∙ h))
      (λ l. ap (λ (r : RecordNo). r.0) (row-none s accepted n (omega arith)))

  row_has : (n : ℕ) → ((row_of s n).first.0 ≡ 0 → ⊥) → has s n ≡ true
  row_has n some = by-test (has s n) refl
    where
      by-test : (b : Bool) → has s n ≡ b → b ≡ true
      by-test true e = refl
      by-test false e = absurd (some (none_row n e))

pub has-exactly : HasExactly
has-exactly s a n = (
  (λ h. ((extent_of s n).from, has-opener s a n h), λ x. opener-has s a n x.0 x.1),
  (λ h e. let r = has-row s a n h in omega arith, row_has s a n),
)

pub opened-once : OpenedOnce
opened-once s a n i x = opener-from s a n i x

pub has-none : HasNone
unfolding has
has-none s = (refl, λ n h. rw (lt-leb n 998 h, and_none (leb 1 n) false refl))

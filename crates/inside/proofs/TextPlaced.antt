-- A text record of an accepted entry stands behind the BIB record of its subentry, as one of those that it announces.
-- Assumes nothing.
use Prim.Native.Nat.{ℕ, zero, suc, ◌+◌, ◌-◌, ◌/◌, ◌<◌, ◌≤◌}
use mathlib.Core.Path.{◌≡◌, refl, sym}
use mathlib.Core.Bool.{Bool, true, false, cond}
use mathlib.Core.List.{List, []}
use native.Mathlib.Omega.{arith}
use lib.Dec.{eqb}
use lib.ListN.{length, get_or}
use borrow.Author.Tests.{eqb-true, eqb-false, eq-eqb}
use Rattle.laws.specs.Blocks.{block_at}
use Rattle.laws.proofs.Booleans.{differ, either-as, or-either}
use Rattle.paper_record.specs.Fields.{fields_of}
use Rattle.paper_record.specs.Identifier.{BIB, ENDBIB, OTHER, identifier_of}
use Rattle.paper_rules.specs.State.{Context}
use Rattle.paper_rules.specs.Roles.{TEXT, NOT-DUE}
use Rattle.paper_rules.specs.Role.{only, bib_role, role_in}
use Rattle.paper_rules.proofs.RolePlaces.{in_bib, text_in-bib}
use Rattle.paper_entry.specs.Due.{phase_after}
use Rattle.paper_entry.specs.Next.{context_after}
use Rattle.paper_entry.proofs.Leads.{bib-led}
use Rattle.paper_entry.specs.Judging.{Accepted}
use Rattle.paper_entry.specs.Contexts.{context_at, role_at}
use Rattle.paper_questions.proofs.RowChanges.{bib}
use Rattle.inside.specs.Inside.{TextOf}
use Rattle.inside.proofs.RowFound.{Opening, row-names}
use Rattle.inside.proofs.TextLaid.{InTexts, texts_of, texts-stand, text-laid}

-- the record with the index i stands behind the BIB record of the subentry n, or behind its last text record
pub record BehindBib (s : List ℕ) (n i : ℕ) : Type 0 where
  pub at : ℕ
  pub opening : Opening s n bib at
  pub place : ℕ
  pub here : i ≡ suc at + place
  pub few : place ≤ texts_of s at

-- where all that is announced is read, no text record is due
text-more : (n records m : ℕ) (c : Context) (k : ℕ) → InTexts n records m c → role_in c.phase c.track k ≡ TEXT
    → m ≤ records → m < records
unfolding role_in bib_role
text-more n records m c k l e h = by-test (eqb c.track.section c.track.bib.records) refl (rw l.phase at e)
  where
    by-test : (t : Bool) → eqb c.track.section c.track.bib.records ≡ t
        → cond t (only ENDBIB k) (cond (eqb k OTHER) TEXT NOT-DUE) ≡ TEXT → m < records
    by-test true q z =
        absurd (either-as (λ x. x ≡ TEXT → ⊥) (eqb k ENDBIB) _ _ (λ e x. omega arith) (λ e x. omega arith) z)
    by-test false q z =
        let u = eqb-false c.track.section c.track.bib.records q in
        omega (arith, l.before, l.announced, u)

start_outside : (s : List ℕ) → in_bib (context_at s 0).phase ≡ true → ⊥
unfolding context_at
start_outside s e = differ (sym e)

phase-next : (s : List ℕ) (i : ℕ) → (context_at s (suc i)).phase ≡ phase_after (role_at s i)
unfolding context_at context_after
phase-next s i = refl

module _ (s : List ℕ) (accepted : Accepted s) where
  abbrev number_at : ℕ → ℕ
  number_at i = (context_at s i).track.subentry.number

  abbrev Found : ℕ → Type 0
  Found i = in_bib (context_at s i).phase ≡ true → BehindBib s (number_at i) i

  abbrev identifier_in : ℕ → ℕ
  identifier_in i = identifier_of (get_or (fields_of (block_at 81 s i)) 0 [])

  in-bib : (i : ℕ) → role_at s i ≡ TEXT → in_bib (context_at s i).phase ≡ true
  in-bib i e =
      let c = context_at s i in
      text_in-bib c.phase c.track (identifier_in i) (eq-eqb (role_at s i) TEXT e)

  text-few : (n i : ℕ) → role_at s i ≡ TEXT → (b : BehindBib s n i) → b.place < texts_of s b.at
  text-few n i e b =
      let l : InTexts n (texts_of s b.at) b.place (context_at s i) =
      rw (← b.here) at (texts-stand s accepted n b.at b.opening b.place b.few) in
      text-more n (texts_of s b.at) b.place (context_at s i) (identifier_in i) l e b.few

  -- behind BIB
  found_first : (i : ℕ) → i < length s / 81 → role_at s i ≡ BIB → BehindBib s (number_at (suc i)) (suc i)
  found_first i h e =
      let o : Opening s (number_at i) bib i = record { there = h; role = e; subentry = refl } in
      let z : suc i + 0 ≡ suc i = omega arith in
      let m : number_at (suc i) ≡ number_at i =
      rw z at (texts-stand s accepted (number_at i) i o 0 (omega arith)).subentry in
      rw m (record { at = i; opening = o; place = 0; here = omega arith; few = omega arith })

  -- behind a text record
  found-next : (i : ℕ) → i < length s / 81 → role_at s i ≡ TEXT → Found i → BehindBib s (number_at (suc i)) (suc i)
  found-next i h e before =
      let b = before (in-bib i e) in
      let n = number_at i in
      let m = text-few n i e b in
      let z : suc b.at + suc b.place ≡ suc i = omega (arith, b.here) in
      let same : number_at (suc i) ≡ n =
      rw z at (texts-stand s accepted n b.at b.opening (suc b.place) (omega arith)).subentry in
      rw same
      (record { at = b.at; opening = b.opening; place = suc b.place; here = sym z; few = omega arith })

  found : (i : ℕ) → i ≤ length s / 81 → Found i
  found zero h = λ e. absurd (start_outside s e)
  found (suc i) h =
      λ e.
      or-either (eqb (role_at s i) BIB) (eqb (role_at s i) TEXT) (bib-led (role_at s i) (rw (phase-next s i) at e))
      (λ q. found_first i (omega arith) (eqb-true (role_at s i) BIB q))
      (λ q. found-next i (omega arith) (eqb-true (role_at s i) TEXT q) (found i (omega arith)))

  -- THE PLACE of a text record
  pub text-placed : (n i : ℕ) → TextOf s n i → BehindBib s n i
  text-placed n i t = rw t.subentry at (found i (omega (arith, t.there)) (in-bib i t.role))

  -- behind each BIB record of its subentry, so there is one only
  pub text-behind : (n a : ℕ) → Opening s n bib a → (i : ℕ) → TextOf s n i → (suc a ≤ i) × (i < suc a + texts_of s a)
  text-behind n a o i t =
      let b = text-placed n i t in
      let few = text-few n i t.role b in
      let x = row-names s accepted n bib a o in
      let y = row-names s accepted n bib b.at b.opening in
      let e : b.at ≡ a = omega arith in
      let l : b.place < texts_of s a = rw e at few in
      (omega (arith, b.here), omega (arith, b.here))

  -- and the records between two text records are such
  pub texts-between : (n k i : ℕ) → TextOf s n k → TextOf s n i → (j : ℕ) → k ≤ j → j ≤ i → TextOf s n j
  texts-between n k i t u j p q =
      let b = text-placed n i u in
      let a = b.at in
      let x = (text-behind n a b.opening k t).0 in
      let y = (text-behind n a b.opening i u).1 in
      let z : suc a + (j - suc a) ≡ j = omega arith in
      rw z at (text-laid s accepted n a b.opening (j - suc a) (omega arith))

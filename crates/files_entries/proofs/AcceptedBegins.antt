-- An accepted entry, with anything behind it, begins as an entry with just its own records: ENTRY first, ENDENTRY last,
-- and no other record is ENDENTRY, since behind that nothing is due.
-- Assumes nothing.
use Prim.Native.Nat.{ℕ, suc, ◌+◌, ◌*◌, ◌/◌, ◌<◌}
use mathlib.Core.Path.{◌≡◌, refl, sym, ◌∙◌, ap}
use mathlib.Core.Bool.{Bool, true, false, cond}
use mathlib.Core.List.{List, ◌++◌}
use native.Mathlib.Omega.{arith}
use borrow.Author.Tests.{eqb-true}
use lib.Dec.{eqb}
use lib.ListN.{length, length-append}
use Rattle.laws.specs.Blocks.{block_at}
use Rattle.paper_record.specs.Fields.{field_at, fields_of}
use Rattle.paper_record.proofs.ReadColumns.{field-of}
use Rattle.paper_record.specs.Identifier.{ENTRY, ENDENTRY, identifier_of}
use Rattle.paper_record.proofs.PlainNames.{name-exactly}
use Rattle.paper_rules.specs.Roles.{NOT-DUE}
use Rattle.paper_rules.specs.Role.{role_in}
use Rattle.paper_rules.proofs.DueRecords.{fine-due}
use Rattle.paper_rules.proofs.Least.{fault-none}
use Rattle.paper_entry.specs.Verdict.{is_done}
use Rattle.paper_entry.specs.Due.{phase_after}
use Rattle.paper_entry.specs.Next.{context_after}
use Rattle.paper_entry.specs.Judging.{role_of, Accepted}
use Rattle.paper_entry.specs.Contexts.{context_at, role_at}
use Rattle.paper_entry.proofs.Lengths.{accepted-good}
use Rattle.entry_walk.proofs.AcceptedWalk.{walked}
use Rattle.entry_walk.proofs.GoingOn.{go-fine}
use Rattle.below.proofs.Agree.{added-agree, length-exactly}
use Rattle.below.proofs.Behind.{found-behind}
use Rattle.paper_files.specs.File.{name_of}
use Rattle.paper_files.specs.Parts.{entry_records}
use Rattle.paper_files.specs.PlainParts.{Begins}
use Rattle.paper_files.proofs.EntryRecords.{begins-records}
use Rattle.files_entries.proofs.EndRoles.{endentry-ends, done-named}

-- a name as it is computed from the six fields, and plainly
pub name-plain : (r : List ℕ) → name_of r ≡ identifier_of (field_at r 0)
name-plain r = ap identifier_of (field-of r 0 (omega arith))

-- ---- an accepted entry, record by record

module _ (e : List ℕ) (a : Accepted e) where
  abbrev n : ℕ
  n = length e / 81

  abbrev name_at : ℕ → ℕ
  name_at i = name_of (block_at 81 e i)

  due : (i : ℕ) → i < n → role_at e i ≡ NOT-DUE → ⊥
  due i h =
      let c = context_at e i in
      let r = block_at 81 e i in
      fine-due c.track c.seen (role_of c r) (fields_of r) r
      (go-fine c i r (context_at e (suc i)) ((walked e a).turns i h)).0

  phase-next : (i : ℕ) → (context_at e (suc i)).phase ≡ phase_after (role_at e i)
  unfolding context_at context_after
  phase-next i = refl

  opening : (role_at e 0 ≡ NOT-DUE → ⊥) → name_at 0 ≡ ENTRY
  unfolding context_at role_in
  opening h = by-test (eqb (name_at 0) ENTRY) refl h
    where
      by-test : (b : Bool) → eqb (name_at 0) ENTRY ≡ b → (cond b ENTRY NOT-DUE ≡ NOT-DUE → ⊥) → name_at 0 ≡ ENTRY
      by-test true q h = eqb-true (name_at 0) ENTRY q
      by-test false q h = absurd (h refl)

  closing : (i : ℕ) → i + 1 ≡ n → name_at i ≡ ENDENTRY
  closing i h =
      let z : n ≡ suc i = omega arith in
      let d : is_done (context_at e (suc i)).phase ≡ true = rw z at (walked e a).done in
      done-named (name_at i) (context_at e i).phase (context_at e i).track (due i (omega arith))
      (rw (phase-next i) at d)

  -- behind ENDENTRY nothing goes on
  no_other : (i : ℕ) → i + 1 < n → name_at i ≡ ENDENTRY → ⊥
  no_other i h q =
      let c = context_at e (suc i) in
      let r = block_at 81 e (suc i) in
      let role : role_at e i ≡ role_in (context_at e i).phase (context_at e i).track ENDENTRY = rw q in
      let d : is_done (phase_after (role_at e i)) ≡ true =
      rw role (endentry-ends (context_at e i).phase (context_at e i).track (rw role at (due i (omega arith)))) in
      found-behind c r (rw (phase-next i) d)
      (fault-none c.track c.seen (role_of c r) (fields_of r) r
      (go-fine c (suc i) r (context_at e (suc (suc i))) ((walked e a).turns (suc i) (omega arith))).0)

  -- the same of the bytes with anything behind them
  module _ (x : List ℕ) where
    same_name : (i : ℕ) → i < n → name_at i ≡ identifier_of (field_at (block_at 81 (e ++ x) i) 0)
    same_name i h =
        name-plain (block_at 81 e i)
        ∙ ap (λ (r : List ℕ). identifier_of (field_at r 0)) (sym (added-agree e x n (omega arith) i (omega arith)))

    pub accepted-begins : Begins (e ++ x) (length e / 81)
    accepted-begins =
        let w = (length-exactly (length e)).0 (accepted-good e a) in
        let long = w.whole in
        let some = w.some in
        let most = w.most in
        record {
          some = omega arith;
          most = omega arith;
          there = rw length-append (omega arith);
          first = (name-exactly _ ENTRY (omega arith)).0
              (sym (same_name 0 (omega arith)) ∙ opening (due 0 (omega arith)));
          last = λ i h. (name-exactly _ ENDENTRY (omega arith)).0 (sym (same_name i (omega arith)) ∙ closing i h);
          no_other = λ i h p.
              no_other i h (same_name i (omega arith) ∙ (name-exactly _ ENDENTRY (omega arith)).1 p);
        }

    pub accepted-records : entry_records (e ++ x) ≡ length e / 81
    accepted-records = begins-records (e ++ x) (length e / 81) accepted-begins

-- whole records, and one at least
pub accepted-whole : (e : List ℕ) → Accepted e → (length e ≡ length e / 81 * 81) × (0 < length e)
accepted-whole e a =
    let w = (length-exactly (length e)).0 (accepted-good e a) in
    let long = w.whole in
    let some = w.some in
    (omega arith, omega arith)

-- No verdict but the judge's is said of a file: what is said fixes the way of the judge up to the record that is
-- refused, and what is found there.
-- Assumes nothing.
use Prim.Native.Nat.{ℕ, ◌+◌, ◌-◌, ◌*◌, ◌/◌, ◌<◌, ◌≤◌}
use mathlib.Core.Path.{◌≡◌, refl, sym, ◌∙◌, ap, subst}
use mathlib.Core.Bool.{Bool, true, false}
use mathlib.Core.List.{List, [], ◌++◌, append_assoc, append-nil}
use native.Mathlib.Omega.{arith}
use borrow.Author.Tests.{ne_eqb}
use lib.ListN.{length, drop, length-append, length-drop}
use Rattle.laws.specs.Blocks.{joined}
use Rattle.paper_record.specs.Fields.{fields_of}
use Rattle.paper_record.specs.Identifier.{ENTRY, TRANS, ENDTRANS}
use Rattle.paper_rules.specs.Roles.{NOT-DUE}
use Rattle.paper_faults.specs.Fault.{Finding, first_fault, fault_at}
use Rattle.paper_rules.specs.State.{start_context}
use Rattle.paper_rules.specs.Limits.{MOST-RECORDS}
use Rattle.paper_rules.specs.Role.{only, role_in}
use Rattle.paper_faults.specs.Least.{Least}
use Rattle.paper_faults.proofs.FaultSaid.{least_first}
use Rattle.paper_entry.specs.declared.types.Verdict.{Verdict}
use Rattle.paper_entry.specs.Verdict.{refused, refused_within, accepted, is_done}
use Rattle.paper_entry.specs.Judging.{judge_of, role_of, Accepted}
use Rattle.paper_entry.specs.Contexts.{context_at}
use Rattle.entry_walk.specs.First.{found_in, found_at, NothingBefore, FirstAt}
use Rattle.entry_walk.proofs.Contexts.{records-at}
use Rattle.below.specs.Below.{AtRecord}
use Rattle.below.specs.Added.{BehindEnd}
use Rattle.paper_entry.proofs.Lengths.{whole-records}
use Rattle.below.proofs.Agree.{nothing-agree, found-agree}
use Rattle.below.proofs.Below.{judge-refused}
use Rattle.below.proofs.Behind.{behind-fault}
use Rattle.paper_files.specs.Outside.{outside_findings}
use Rattle.paper_files.specs.declared.types.Stage.TheVariants.{Behind}
use Rattle.paper_files.specs.File.{FileContext, start_file, name_of, at_stage, file_end, file_length_good, judge_file}
use Rattle.files_shape.specs.Shape.{totals_of, Begun, FileOf}
use Rattle.files_said.specs.Said.{number_of, records_before, cut, record_at, There, FoundOutside, FileAlone}
use Rattle.files_said.specs.Said.{by_length, at_opening, between, at_ending, behind, in_entry, full, no_ending}
use Rattle.files_said.specs.Said.{no_endentry, whole}
use Rattle.files_said.proofs.Outside.{outside-rises}
use Rattle.files_said.proofs.Onward.{onward, onward-out, onward-end, judged-onward}
use Rattle.files_said.proofs.Turns.{standing, inside-out, outside-out, open-else, role-inside, role-ending}
use Rattle.files_said.proofs.Turns.{role-full, role-opening, role-behind, only-outside, ordinal-inside}
use Rattle.files_said.proofs.Turns.{ordinal-none, ordinal-opening, ordinal-behind}
use Rattle.files_said.proofs.Inside.{passed, refused-inside}
use Rattle.files_said.proofs.Through.{entry_named, Reached, reached, over-ending}
use Rattle.files_said.proofs.Cuts.{cut-count, cut-back, cut-accepted, Unended, unended, cut-unended}
use Rattle.files_said.proofs.Cuts.{whole-file, file-good}

-- ---- by the length, and at the first record

length-said : (s : List ℕ) → file_length_good (length s) ≡ false → judge_file s ≡ refused 1 (record { 0 = 0 }) 0
unfolding judge_file
length-said s e = rw e refl

least-outside : (entries role : ℕ) (r : List ℕ) (n k : ℕ) → FoundOutside entries role r n k
    → first_fault (outside_findings entries role (fields_of r) r) ≡ fault_at n k
least-outside entries role r n k l =
    least_first (outside_findings entries role (fields_of r) r) (outside-rises entries role (fields_of r) r) n k l

opening-said : (s : List ℕ) (n k : ℕ) → file_length_good (length s) ≡ true → 81 ≤ length s
    → FoundOutside 0 (only TRANS (name_of (record_at s 0))) (record_at s 0) n k
    → judge_file s ≡ refused n (record { 0 = 1 }) k
opening-said s n k good some l =
    let r = record_at s 0 in
    let role = only TRANS (name_of r) in
    judged-onward s good
    ∙ onward-out start_file s some (refused n (record { 0 = 1 }) k)
    (outside-out start_file r role (role-opening r) (only-outside (name_of r)) 0 n k (ordinal-opening r)
    (least-outside 0 role r n k l))

-- ---- behind TRANS and entries

-- a record that begins no entry is not due to the judge of an entry
no-entry : (r : List ℕ) → (name_of r ≡ ENTRY → ⊥) → role_of start_context r ≡ NOT-DUE
unfolding role_in
no-entry r other = rw (ne_eqb (name_of r) ENTRY other) refl

undue-fault : (r : List ℕ) (n k : ℕ) → (name_of r ≡ ENTRY → ⊥) → BehindEnd r n k
    → first_fault (found_in start_context r) ≡ fault_at n k
undue-fault r n k other b = rw (no-entry r other) (behind-fault r _ n k b)

module _ (s : List ℕ) (es : List (List ℕ)) (rest : List ℕ) (good : file_length_good (length s) ≡ true)
    (b : Begun s es rest) where
  abbrev here : Reached s es rest
  here = reached s es rest b

  abbrev file : FileContext
  file = standing here.records (length es) (totals_of es) start_context

  from-here : judge_file s ≡ onward file rest
  from-here = judged-onward s good ∙ here.goes

  -- the record that has so many records of the file before it
  numbered : (m i : ℕ) → m ≡ here.records + i → m + 1 ≡ number_of s rest i
  numbered m i e = let z = here.placed in omega arith

  -- it begins no entry
  between-said : (n k : ℕ) → There rest 1 → (name_of (record_at rest 0) ≡ ENTRY → ⊥)
      → (1 ≤ length es → name_of (record_at rest 0) ≡ ENDTRANS → ⊥) → BehindEnd (record_at rest 0) n k
      → judge_file s ≡ refused n (record { 0 = number_of s rest 0 }) k
  between-said n k there other unclosed said =
      let r = record_at rest 0 in
      let role = role-inside here.records (length es) (totals_of es) start_context r
      (open-else here.records (length es) (totals_of es) start_context r unclosed) (omega arith) in
      from-here
      ∙ onward-out file rest there (refused n (record { 0 = here.records + 1 }) k)
      (inside-out file r 0 n k role (ordinal-none here.records (length es) (totals_of es) r other)
      (undue-fault r n k other said))
      ∙ rw (numbered here.records 0 (omega arith)) refl

  -- it is ENDTRANS
  ending-said : (n k : ℕ) → There rest 1 → 1 ≤ length es → name_of (record_at rest 0) ≡ ENDTRANS
      → FoundOutside (length es) ENDTRANS (record_at rest 0) n k
      → judge_file s ≡ refused n (record { 0 = number_of s rest 0 }) k
  ending-said n k there some named l =
      let r = record_at rest 0 in
      let other : name_of r ≡ ENTRY → ⊥ = λ z. let x : ◌≡◌ {A = ℕ} ENDTRANS ENTRY = sym named ∙ z in omega arith in
      from-here
      ∙ onward-out file rest there (refused n (record { 0 = here.records + 1 }) k)
      (outside-out file r ENDTRANS (role-ending here.records (length es) (totals_of es) r some named) refl 0 n k
      (ordinal-none here.records (length es) (totals_of es) r other) (least-outside (length es) ENDTRANS r n k l))
      ∙ rw (numbered here.records 0 (omega arith)) refl

  -- it is one of an entry that has begun
  inside-said : (i n k : ℕ) → name_of (record_at rest 0) ≡ ENTRY → There rest (i + 1) → i < MOST-RECORDS
      → NothingBefore rest i → Least (found_at rest i) n k → is_done (context_at rest i).phase ≡ false
      → judge_file s ≡ refused_within (length es + 1) n (record { 0 = records_before s rest + (i + 1) }) k
  inside-said i n k named there few none least missed =
      let z : here.records + i + 1 ≡ records_before s rest + (i + 1) = let p = here.placed in omega arith in
      from-here
      ∙ refused-inside rest here.records (length es) (totals_of es) named i n k none (omega arith) few missed least
      ∙ rw z refl

  -- the same, of the records up to it alone
  cut-said : (m i n k : ℕ) → i + 1 ≡ m → name_of (record_at rest 0) ≡ ENTRY → There rest m
      → FirstAt (cut m rest) i n k → (Accepted (cut i rest) → ⊥)
      → judge_file s ≡ refused_within (length es + 1) n (record { 0 = records_before s rest + m }) k
  cut-said m i n k e named there first fresh =
      let part = cut m rest in
      let w = (whole-records (length part) first.length-good).1 in
      let count = cut-count rest m there in
      let few : m ≤ MOST-RECORDS = omega arith in
      let none : NothingBefore rest i = nothing-agree i part rest (cut-back rest m there i (omega arith))
      first.earlier in
      let least : Least (found_at rest i) n k = subst (λ (fs : List Finding). Least fs n k)
      (sym (found-agree (i + 1) part rest (cut-back rest m there (i + 1) (omega arith)) i (omega arith)))
      first.least in
      inside-said i n k named (omega arith) (omega arith) none least
      (by-test (is_done (context_at rest i).phase) refl none few)
      ∙ rw e refl
    where
      by-test : (d : Bool) → is_done (context_at rest i).phase ≡ d → NothingBefore rest i → m ≤ MOST-RECORDS → d ≡ false
      by-test true q none few = absurd (fresh (cut-accepted rest i (omega arith) (omega arith) none q))
      by-test false q none few = refl

  entry-said : (m n k : ℕ) → There rest m → name_of (record_at rest 0) ≡ ENTRY → AtRecord n
      → (Accepted (cut (m - 1) rest) → ⊥) → judge_of (cut m rest) ≡ refused n (record { 0 = m }) k
      → judge_file s ≡ refused_within (length es + 1) n (record { 0 = records_before s rest + m }) k
  entry-said m n k there named at fresh e =
      let part = cut m rest in
      let r = judge-refused part (subst AtRecord (sym (ap (λ (v : Verdict). v.refusal) e)) at) in
      let q : refused r.number (record { 0 = r.index + 1 }) r.column ≡ refused n (record { 0 = m }) k =
      sym r.said ∙ e in
      let one : r.index + 1 ≡ m = ap (λ (v : Verdict). v.«record».0) q in
      let back : r.index ≡ m - 1 = omega arith in
      cut-said m r.index n k one named there
      (subst (λ (x : ℕ). FirstAt part r.index x k) (ap (λ (v : Verdict). v.refusal) q)
      (subst (λ (x : ℕ). FirstAt part r.index r.number x) (ap (λ (v : Verdict). v.column) q) r.first))
      (λ a. fresh (subst (λ (x : ℕ). Accepted (cut x rest)) back a))

  -- it is the first that an entry may not have
  full-said : (m n k : ℕ) → There rest (m + 1) → MOST-RECORDS ≤ m → Unended rest m → BehindEnd (record_at rest m) n k
      → judge_file s ≡ refused_within (length es + 1) n (record { 0 = number_of s rest m }) k
  full-said m n k there most u said =
      let r = record_at rest m in
      let c = context_at rest m in
      let g = standing (here.records + m) (length es) (totals_of es) c in
      let count = records-at rest m in
      let v = refused_within (length es + 1) n (record { 0 = here.records + m + 1 }) k in
      from-here
      ∙ passed rest here.records (length es) (totals_of es) (entry_named rest m u.some u.none) m u.none
      (omega arith) u.few u.missed
      ∙ onward-out g (drop (m * 81) rest) (simp length-drop (omega arith)) v
      (outside-out g r NOT-DUE (role-full (here.records + m) (length es) (totals_of es) c r (omega arith)) refl
      (length es + 1) n k
      (ordinal-inside (here.records + m) (length es) (totals_of es) c r (omega arith)) (behind-fault r _ n k said))
      ∙ rw (numbered (here.records + m) m refl) refl

  -- there is none
  none_said : length rest ≡ 0 → judge_file s ≡ refused 16 (record { 0 = length s / 81 + 1 }) 0
  unfolding file_end
  none_said e =
      let z = here.placed in
      let count : here.records ≡ length s / 81 = omega arith in
      from-here ∙ onward-end file rest (omega arith) ∙ rw count refl

  -- there is none behind an entry that has not ended
  unended-said : (judge_of rest).refusal ≡ 16 → judge_file s ≡ refused 16 (record { 0 = length s / 81 + 1 }) 0
  unfolding file_end
  unended-said e =
      let m = length rest / 81 in
      let u = unended rest e in
      let z = here.placed in
      let count : here.records + m ≡ length s / 81 = omega arith in
      from-here
      ∙ passed rest here.records (length es) (totals_of es) (entry_named rest m u.some u.none) m u.none
      (omega arith) u.few u.missed
      ∙ onward-end (standing (here.records + m) (length es) (totals_of es) (context_at rest m)) (drop (m * 81) rest)
      (simp length-drop (omega arith))
      ∙ rw count refl

-- ---- behind ENDTRANS

-- a file with more behind it
begun-longer : (s f : List ℕ) (es : List (List ℕ)) (end rest : List ℕ) → Begun f es end → s ≡ f ++ rest
    → Begun s es (end ++ rest)
begun-longer s f es end rest b e =
    record {
      opening = b.opening;
      same =
          e
          ∙ ap (λ (w : List ℕ). w ++ rest) b.same
          ∙ append_assoc b.opening (joined es ++ end) rest
          ∙ ap (λ (w : List ℕ). b.opening ++ w) (append_assoc (joined es) end rest);
      opens = b.opens;
      each = b.each;
    }

behind-said : (s : List ℕ) (es : List (List ℕ)) (f rest : List ℕ) (n k : ℕ) → file_length_good (length s) ≡ true
    → FileOf f es → s ≡ f ++ rest → There rest 1 → BehindEnd (record_at rest 0) n k
    → judge_file s ≡ refused n (record { 0 = number_of s rest 0 }) k
behind-said s es f rest n k good o e there said =
    let h = reached s es (o.ending ++ rest) (begun-longer s f es o.ending rest o.begun e) in
    let g = at_stage (standing h.records (length es) (totals_of es) start_context) Behind in
    let r = record_at rest 0 in
    let wide = o.ends.whole in
    let z = h.placed in
    let at : h.records + 1 + 1 ≡ number_of s rest 0 = omega (arith, length-append o.ending rest) in
    judged-onward s good
    ∙ h.goes
    ∙ over-ending o.ending rest h.records (length es) (totals_of es) o.some o.ends
    ∙ onward-out g rest there (refused n (record { 0 = h.records + 1 + 1 }) k)
    (outside-out g r NOT-DUE (role-behind (standing h.records (length es) (totals_of es) start_context) r) refl 0 n k
    (ordinal-behind (standing h.records (length es) (totals_of es) start_context) r) (behind-fault r _ n k said))
    ∙ rw at refl

whole-said : (s : List ℕ) (es : List (List ℕ)) → FileOf s es → judge_file s ≡ accepted (totals_of es)
unfolding file_end
whole-said s es o =
    let h = reached s es o.ending o.begun in
    let f = standing h.records (length es) (totals_of es) start_context in
    let wide = o.ends.whole in
    let z = h.placed in
    judged-onward s (file-good (length s) (h.records + 1) (omega arith) (omega arith) o.most)
    ∙ h.goes
    ∙ ap (λ (w : List ℕ). onward f w) (sym (append-nil o.ending))
    ∙ over-ending o.ending [] h.records (length es) (totals_of es) o.some o.ends
    ∙ onward-end (at_stage f Behind) [] (omega arith)

-- ---- all

pub file-alone : FileAlone
file-alone s v (by_length e) = sym (length-said s e)
file-alone s v (at_opening n k good l) = sym (opening-said s n k good (whole-file (length s) good).some l)
file-alone s v (between es rest n k good b there other unclosed said) =
    sym (between-said s es rest good b n k there other unclosed said)
file-alone s v (at_ending es rest n k good b there some named l) =
    sym (ending-said s es rest good b n k there some named l)
file-alone s v (behind es f rest n k good o e there said) = sym (behind-said s es f rest n k good o e there said)
file-alone s v (in_entry es rest m n k good b there named at fresh e) =
    sym (entry-said s es rest good b m n k there named at fresh e)
file-alone s v (full es rest n k good b there e said) =
    sym (full-said s es rest good b MOST-RECORDS n k there (omega arith)
    (cut-unended rest MOST-RECORDS (omega arith) e) said)
file-alone s v (no_ending es good b) = sym (none_said s es [] good b refl)
file-alone s v (no_endentry es rest good b e) = sym (unended-said s es rest good b e)
file-alone s v (whole es o) = sym (whole-said s es o)

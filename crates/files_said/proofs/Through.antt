-- TRANS, then accepted entries, one behind the other: the judge of a file goes over them, counts them and sums up their
-- totals.
-- Assumes nothing.
use Prim.Native.Nat.{ℕ, suc, ◌+◌, ◌*◌, ◌/◌, ◌<◌, ◌≤◌}
use mathlib.Core.Path.{◌≡◌, refl, ◌∙◌, ap, subst}
use mathlib.Core.Bool.{Bool, true, false}
use mathlib.Core.List.{List, [], ◌∷◌, ◌++◌, append_assoc}
use native.Mathlib.Omega.{arith}
use borrow.Author.Tests.{eqb-true}
use lib.Dec.{eqb}
use lib.ListN.{length, length-append}
use lib.Seq.{take_at, drop_at}
use Rattle.laws.specs.Walk.{All}
use Rattle.laws.specs.Turns.{go}
use Rattle.laws.specs.Blocks.{block_at, joined}
use Rattle.paper_record.specs.Fields.{fields_of}
use Rattle.paper_record.specs.Identifier.{ENTRY, TRANS, ENDTRANS}
use Rattle.paper_rules.specs.Roles.{NOT-DUE}
use Rattle.paper_rules.specs.declared.types.Totals.{Totals}
use Rattle.paper_rules.specs.State.{Context, start_context, no_totals}
use Rattle.paper_rules.specs.Limits.{MOST-RECORDS}
use Rattle.paper_rules.specs.Role.{only, role_in}
use Rattle.paper_faults.specs.Least.{Nothing}
use Rattle.paper_rules.proofs.DueRecords.{fine-due}
use Rattle.paper_rules.proofs.FaultSaid.{nothing-fine}
use Rattle.paper_faults.proofs.FaultSaid.{nothing-first}
use Rattle.paper_entry.specs.declared.types.Verdict.{Verdict}
use Rattle.paper_entry.specs.Verdict.{accepted, is_done}
use Rattle.paper_entry.specs.Judging.{judge_of, role_of, Accepted}
use Rattle.paper_entry.specs.Contexts.{context_at}
use Rattle.entry_walk.specs.First.{found_in, NothingBefore, by_none}
use Rattle.entry_walk.proofs.Contexts.{context-start}
use Rattle.entry_walk.proofs.FirstRefused.{refused_first}
use Rattle.entry_walk.proofs.FirstAlone.{first_alone}
use Rattle.paper_entry.proofs.Lengths.{whole-records}
use Rattle.below.proofs.Agree.{contexts-agree, nothing-agree, added-agree}
use Rattle.below.proofs.Added.{end-met}
use Rattle.paper_files.specs.Outside.{outside_findings}
use Rattle.paper_files.specs.declared.types.Stage.TheVariants.{Behind}
use Rattle.paper_files.specs.File.{start_file, name_of, added, at_stage, file_turn}
use Rattle.files_shape.specs.Shape.{GoodOutside, totals_of, Begun}
use Rattle.files_said.proofs.Outside.{outside-rises}
use Rattle.files_said.proofs.Onward.{onward, onward-go}
use Rattle.files_said.proofs.Turns.{standing, outside-go, role-opening, role-ending}
use Rattle.files_said.proofs.Inside.{done-some, ended}

-- ---- one accepted entry

-- a first record on which nothing is found is ENTRY
named : (r : List ℕ) → Nothing (found_in start_context r) → name_of r ≡ ENTRY
unfolding role_in
named r none =
    by-test (eqb (name_of r) ENTRY) refl
    (fine-due start_context.track start_context.seen (role_of start_context r) (fields_of r) r
    (nothing-fine start_context.track start_context.seen (role_of start_context r) (fields_of r) r none))
  where
    by-test : (b : Bool) → eqb (name_of r) ENTRY ≡ b → (role_of start_context r ≡ NOT-DUE → ⊥) → name_of r ≡ ENTRY
    by-test true e due = eqb-true (name_of r) ENTRY e
    by-test false e due = absurd (due (rw e refl))

pub entry_named : (w : List ℕ) (i : ℕ) → 0 < i → NothingBefore w i → name_of (block_at 81 w 0) ≡ ENTRY
entry_named w i some none =
    named (block_at 81 w 0)
    (subst (λ (c : Context). Nothing (found_in c (block_at 81 w 0))) (context-start w) (none 0 some))

-- the length of an accepted entry
pub accepted-long : (x : List ℕ) → Accepted x → (length x ≡ length x / 81 * 81) × (length x / 81 ≤ MOST-RECORDS)
accepted-long x a = whole-records (length x) (end-met x (judge_of x) (refused_first x) a).0.length-good

module _ (x rest : List ℕ) (a : Accepted x) (n e : ℕ) (t : Totals) where
  abbrev count : ℕ
  count = length x / 81

  over-entry : onward (standing n e t start_context) (x ++ rest)
      ≡ onward (standing (n + length x / 81) (e + 1) (added t (judge_of x).totals) start_context) rest
  over-entry =
      let m = end-met x (judge_of x) (refused_first x) a in
      let (whole, few) = accepted-long x a in
      let agrees = added-agree x rest count (omega arith) in
      let same : context_at (x ++ rest) count ≡ context_at x count =
      contexts-agree count x (x ++ rest) agrees count (omega arith) in
      let none = nothing-agree count x (x ++ rest) agrees m.0.all in
      let told : (context_at (x ++ rest) count).track.totals ≡ (judge_of x).totals =
      ap (λ (c : Context). c.track.totals) same
      ∙ ap (λ (v : Verdict). v.totals)
      (first_alone x (accepted (context_at x count).track.totals) (by_none m.0 m.1)) in
      ended (x ++ rest) n e t (entry_named (x ++ rest) count (done-some x count m.1) none) count none
      (omega (arith, length-append x rest)) few (ap (λ (c : Context). is_done c.phase) same ∙ m.1)
      ∙ rw (told, drop_at x rest (count * 81) whole) refl

-- ---- entries, one behind the other

joined-long : (es : List (List ℕ)) → All Accepted es → length (joined es) ≡ length (joined es) / 81 * 81
unfolding joined
joined-long [] h = refl
joined-long (x ∷ es) h =
    let a = (accepted-long x h.0).0 in
    let b = joined-long es h.1 in
    rw (length-append x (joined es)) (omega arith)

added_none : (t : Totals) → added t no_totals ≡ t
added_none t =
    let a : t.subentries + 0 ≡ t.subentries = omega arith in
    let b : t.keywords + 0 ≡ t.keywords = omega arith in
    let c : t.lines + 0 ≡ t.lines = omega arith in
    let d : t.numbers + 0 ≡ t.numbers = omega arith in
    rw (a, b, c, d) refl

none-added : (t : Totals) → added no_totals t ≡ t
none-added t =
    let a : 0 + t.subentries ≡ t.subentries = omega arith in
    let b : 0 + t.keywords ≡ t.keywords = omega arith in
    let c : 0 + t.lines ≡ t.lines = omega arith in
    let d : 0 + t.numbers ≡ t.numbers = omega arith in
    rw (a, b, c, d) refl

added_more : (t u v : Totals) → added (added t u) v ≡ added t (added u v)
added_more t u v =
    let a : t.subentries + u.subentries + v.subentries ≡ t.subentries + (u.subentries + v.subentries) =
    omega arith in
    let b : t.keywords + u.keywords + v.keywords ≡ t.keywords + (u.keywords + v.keywords) = omega arith in
    let c : t.lines + u.lines + v.lines ≡ t.lines + (u.lines + v.lines) = omega arith in
    let d : t.numbers + u.numbers + v.numbers ≡ t.numbers + (u.numbers + v.numbers) = omega arith in
    rw (a, b, c, d) refl

over-entries : (es : List (List ℕ)) (rest : List ℕ) (n e : ℕ) (t : Totals) → All Accepted es
    → onward (standing n e t start_context) (joined es ++ rest)
    ≡ onward (standing (n + length (joined es) / 81) (e + length es) (added t (totals_of es)) start_context) rest
unfolding joined totals_of
over-entries [] rest n e t h =
    let a : n + 0 ≡ n = omega arith in
    let b : e + 0 ≡ e = omega arith in
    rw (a, b, added_none t) refl
over-entries (x ∷ es) rest n e t h =
    let long = (accepted-long x h.0).0 in
    let records : n + length x / 81 + length (joined es) / 81 ≡ n + length (x ++ joined es) / 81 =
    rw (length-append x (joined es)) (omega arith) in
    let entries : e + 1 + length es ≡ e + suc (length es) = omega arith in
    ap (λ (w : List ℕ). onward (standing n e t start_context) w) (append_assoc x (joined es) rest)
    ∙ over-entry x (joined es ++ rest) h.0 n e t
    ∙ over-entries es rest (n + length x / 81) (e + 1) (added t (judge_of x).totals) h.1
    ∙ rw (records, entries, added_more t (judge_of x).totals (totals_of es)) refl

-- ---- TRANS before them

over-opening : (r rest : List ℕ) → GoodOutside TRANS 0 r
    → onward start_file (r ++ rest) ≡ onward (standing 1 0 no_totals start_context) rest
over-opening r rest g =
    let wide = g.whole in
    let turn : file_turn start_file 0 r ≡ go (standing 1 0 no_totals start_context) =
    outside-go start_file r TRANS (role-opening r ∙ ap (only TRANS) g.named) refl
    (nothing-first (outside_findings 0 TRANS (fields_of r) r) (outside-rises 0 TRANS (fields_of r) r) g.nothing) in
    onward-go start_file (r ++ rest) (omega (arith, length-append r rest)) (standing 1 0 no_totals start_context)
    (rw (take_at r rest 81 wide) turn)
    ∙ ap (λ (w : List ℕ). onward (standing 1 0 no_totals start_context) w) (drop_at r rest 81 wide)

-- behind TRANS and entries so many records stand before the rest, and the judge goes on from there
pub record Reached (s : List ℕ) (es : List (List ℕ)) (rest : List ℕ) : Type 0 where
  pub records : ℕ
  pub placed : records * 81 + length rest ≡ length s
  pub goes : onward start_file s ≡ onward (standing records (length es) (totals_of es) start_context) rest

pub reached : (s : List ℕ) (es : List (List ℕ)) (rest : List ℕ) → Begun s es rest → Reached s es rest
reached s es rest b =
    let long = joined-long es b.each in
    let wide = b.opens.whole in
    let size : length s ≡ 81 + (length (joined es) + length rest) =
    ap length b.same
    ∙ length-append b.opening (joined es ++ rest)
    ∙ rw (wide, length-append (joined es) rest) refl in
    let count : 0 + length es ≡ length es = omega arith in
    record {
      records = 1 + length (joined es) / 81;
      placed = omega arith;
      goes =
          ap (λ (w : List ℕ). onward start_file w) b.same
          ∙ over-opening b.opening (joined es ++ rest) b.opens
          ∙ over-entries es rest 1 0 no_totals b.each
          ∙ rw (count, none-added (totals_of es)) refl;
    }

-- ---- ENDTRANS behind them

pub over-ending : (r rest : List ℕ) (n e : ℕ) (t : Totals) → 1 ≤ e → GoodOutside ENDTRANS e r
    → onward (standing n e t start_context) (r ++ rest) ≡ onward (at_stage (standing n e t start_context) Behind) rest
over-ending r rest n e t some g =
    let f = standing n e t start_context in
    let wide = g.whole in
    let turn : file_turn f 0 r ≡ go (at_stage f Behind) =
    outside-go f r ENDTRANS (role-ending n e t r some g.named) refl
    (nothing-first (outside_findings e ENDTRANS (fields_of r) r) (outside-rises e ENDTRANS (fields_of r) r)
    g.nothing) in
    onward-go f (r ++ rest) (omega (arith, length-append r rest)) (at_stage f Behind) (rw (take_at r rest 81 wide) turn)
    ∙ ap (λ (w : List ℕ). onward (at_stage f Behind) w) (drop_at r rest 81 wide)

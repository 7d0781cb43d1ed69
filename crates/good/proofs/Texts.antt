-- The text records of a BIB section: the judge's rules for them, with the records before them as lists.
-- Assumes nothing.
use Prim.Native.Nat.{ℕ, ◌+◌}
use mathlib.Core.Path.{◌≡◌, refl, sym, ◌∙◌, ap}
use mathlib.Core.Bool.{Bool, true, false, cond, not, ◌&&◌, ◌||◌}
use mathlib.Core.Logic.{◌↔◌}
use mathlib.Core.List.{List, [], ◌∷◌, ◌++◌, map, append-nil}
use native.Mathlib.Omega.{arith}
use lib.Dec.{eqb}
use lib.ListN.{length, get_or, length-append}
use Rattle.laws.proofs.Booleans.{or_left, or_right}
use Rattle.laws.proofs.Listing.{all_append, joined-one}
use Rattle.laws.specs.Walk.{All}
use Rattle.laws.specs.Blocks.{joined}
use Rattle.laws.specs.Members.{any_of}
use Rattle.paper_record.specs.Fields.{fields_of}
use Rattle.paper_record.proofs.ReadColumns.{field-of}
use Rattle.paper_record.specs.Text.{is_blank}
use Rattle.paper_record.specs.Word.{blank_to, equal_to, is_word, pointer_of}
use Rattle.paper_record.specs.Faults.{bad_pointer}
use Rattle.paper_record.specs.Expected.{identification_for}
use Rattle.paper_rules.specs.State.{Context}
use Rattle.paper_rules.specs.Roles.{TEXT}
use Rattle.paper_rules.specs.Every.{expected_identification, expected_sequence}
use Rattle.paper_rules.specs.Text.{keyword_fault, rule10, pointer_repeated, rule11_text}
use Rattle.paper_entry.specs.Next.{context_after}
use Rattle.paper_entry.specs.Parts.{seen_after, part_after, under_change}
use Rattle.paper_faults.proofs.NoColumns.{when-none, none-when}
use Rattle.paper_rules.proofs.ByKind.{clean-text}
use Rattle.rules_plain.specs.Places.{bib_place, pointers_in, Long}
use Rattle.rules_plain.proofs.Lists.{places-joined, pointers-joined}
use Rattle.good.specs.Parts.{Record}
use Rattle.good.specs.Marks.{Marked}
use Rattle.good.proofs.Steps.{Takes, next, MarkedFor, takes-marked, marked-every}
use Rattle.good.proofs.Runs.{Run}
use Rattle.good.proofs.TextContexts.{Other, after_text}

-- ---- the rules for a text record

-- `before` are the text records before it, `under` those under the keyword in hand
pub record TextFine (before under : List Record) (r : Record) : Type 0 where
  pub other : Other r
  pub keyword : cond (blank_to 10 (bib_place r)) (eqb (length before) 0)
      (not (is_word 10 (bib_place r)) || any_of (equal_to 10 (bib_place r)) (map bib_place before)) ≡ false
  pub pointer : bad_pointer (bib_place r) ≡ false
  pub repeated : (not (is_blank (pointer_of (bib_place r)))
      && (blank_to 10 (bib_place r) && any_of (eqb (pointer_of (bib_place r))) (pointers_in under))) ≡ false

abbrev pub under_after : List Record → Record → List Record
under_after under r = cond (blank_to 10 (bib_place r)) (under ++ (r ∷ [])) (r ∷ [])

unfoldable pub TextsFine : List ℕ → ℕ → List Record → List Record → List Record → Type 0
TextsFine identification n before under [] = Unit
TextsFine identification n before under (r ∷ rs) =
    Marked identification n r × TextFine before under r
    × TextsFine identification (n + 1) (before ++ (r ∷ [])) (under_after under r) rs

-- what the context holds of the records before
pub record Holding (c : Context) (identification : List ℕ) (n : ℕ) (before under : List Record) : Type 0 where
  pub identified : identification_for c.track.accession c.track.subentry.number ≡ identification
  pub sequenced : c.track.subentry.records + 2 ≡ n
  pub section : c.track.section ≡ length before
  pub bib : c.seen.bib ≡ joined before
  pub under-is : c.seen.under ≡ joined under
  pub long : All Long before
  pub long-under : All Long under

under_next : (c : Context) (r : Record) (under : List Record) → c.seen.under ≡ joined under
    → (next c TEXT r).seen.under ≡ joined (under_after under r)
unfolding context_after seen_after part_after under_change joined
under_next c r under h = by-test (blank_to 10 (bib_place r)) (ap (blank_to 10) (field-of r 0 (omega arith)))
  where
    by-test : (b : Bool) → blank_to 10 (get_or (fields_of r) 0 []) ≡ b
        → (next c TEXT r).seen.under ≡ joined (cond b (under ++ (r ∷ [])) (r ∷ []))
    by-test true e = rw (e, h) (sym (joined-one under r))
    by-test false e = rw e (sym (append-nil r))

hold-next : (c : Context) (identification : List ℕ) (n : ℕ) (before under : List Record) (r : Record) → Long r
    → Holding c identification n before under
    → Holding (next c TEXT r) identification (n + 1) (before ++ (r ∷ [])) (under_after under r)
hold-next c identification n before under r l h =
    let a = after_text c r in
    record {
      identified = rw (a.moved.accession, a.moved.number) h.identified;
      sequenced = let x = a.moved.records in let y = h.sequenced in omega arith;
      section = let x = a.section in let y = h.section in simp length-append (omega arith);
      bib = a.bib ∙ ap (λ (w : List ℕ). w ++ r) h.bib ∙ sym (joined-one before r);
      under-is = under_next c r under h.under-is;
      long = all_append Long before (r ∷ []) h.long (l, tt);
      long-under = by-test (blank_to 10 (bib_place r));
    }
  where
    by-test : (b : Bool) → All Long (cond b (under ++ (r ∷ [])) (r ∷ []))
    by-test true = all_append Long under (r ∷ []) h.long-under (l, tt)
    by-test false = (l, tt)

text-fine : (c : Context) (identification : List ℕ) (n : ℕ) (before under : List Record) (r : Record)
    → Holding c identification n before under → Other r → Takes c TEXT r
    → Marked identification n r × TextFine before under r
unfolding expected_identification expected_sequence rule10 rule11_text
text-fine c identification n before under r h o t =
    let m = takes-marked c TEXT r t in
    let f : List ℕ = get_or (fields_of r) 0 [] in
    let same : f ≡ bib_place r = field-of r 0 (omega arith) in
    let k = when-none (keyword_fault c.seen.bib c.track f) 1 (t.1.ten refl) in
    let bad = bad_pointer f in
    let again = pointer_repeated c.seen.under f in
    let p = when-none (bad || again) 11 (t.1.eleven_text refl) in (
      rw (h.identified, h.sequenced) at m,
      record {
        other = o;
        keyword = rw (same, h.section, h.bib, places-joined before h.long) at k;
        pointer = rw same at (or_left bad again p);
        repeated = rw (same, h.under-is, pointers-joined under h.long-under) at (or_right bad again p);
      },
    )

fine-text : (c : Context) (identification : List ℕ) (n : ℕ) (before under : List Record) (r : Record)
    → Holding c identification n before under → Marked identification n r → TextFine before under r → Takes c TEXT r
unfolding expected_identification expected_sequence rule10 rule11_text
fine-text c identification n before under r h m f =
    let marked : MarkedFor c TEXT r = rw (h.identified, h.sequenced) m in
    let g : List ℕ = get_or (fields_of r) 0 [] in
    let same : g ≡ bib_place r = field-of r 0 (omega arith) in (
      m.whole,
      clean-text c.track c.seen TEXT (fields_of r) r (marked-every c TEXT r marked refl) refl
          (none-when (keyword_fault c.seen.bib c.track g) 1
          (rw (same, h.section, h.bib, places-joined before h.long) f.keyword))
          (none-when (bad_pointer g || pointer_repeated c.seen.under g) 11
          (rw (same, f.pointer, h.under-is, pointers-joined under h.long-under) f.repeated)),
    )

-- the judge's run over text records, with and without its contexts
pub run-texts : (c : Context) (identification : List ℕ) (n : ℕ) (before under rs : List Record)
    → Holding c identification n before under → Run Other TEXT c rs ↔ TextsFine identification n before under rs
unfolding Run TextsFine
run-texts c identification n before under [] h = (λ r. tt, λ r. tt)
run-texts c identification n before under (r ∷ rs) h =
    let rest : Long r → Run Other TEXT (next c TEXT r) rs
    ↔ TextsFine identification (n + 1) (before ++ (r ∷ [])) (under_after under r) rs = λ l.
    run-texts (next c TEXT r) identification (n + 1) (before ++ (r ∷ [])) (under_after under r) rs
    (hold-next c identification n before under r l h) in (
      λ run.
          let (m, f) = text-fine c identification n before under r h run.0 run.1 in
          (m, f, (rest m.whole).0 run.2),
      λ fine. (
        fine.1.other,
        fine-text c identification n before under r h fine.0 fine.1,
        (rest fine.0.whole).1
            fine.2,
      ),
    )

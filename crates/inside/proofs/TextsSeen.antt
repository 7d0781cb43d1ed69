-- What the judge has seen before a text record of an accepted entry: of the section the text records before it, and
-- under its keyword those from the keyword's record on. So rules 10 and 11 speak of these records: no keyword of the
-- section occurs twice, and no pointer twice under one keyword.
-- Assumes nothing.
use Rattle.paper_faults.specs.Fault.{faultless}
use Prim.Native.Nat.{ℕ, zero, suc, ◌+◌, ◌*◌, ◌-◌, ◌/◌, ◌<◌, ◌≤◌}
use mathlib.Core.Path.{◌≡◌, refl, sym, ◌∙◌, ap}
use mathlib.Core.Bool.{Bool, true, false, cond, not, ◌||◌}
use mathlib.Core.List.{List, [], ◌++◌}
use native.Mathlib.Omega.{arith}
use lib.Dec.{eqb}
use borrow.Author.Tests.{eq-eqb, not-true, not-false}
use lib.ListN.{length, get_or}
use Rattle.laws.specs.Blocks.{block_at}
use Rattle.laws.specs.Members.{any_of}
use Rattle.laws.proofs.Booleans.{differ, or_right}
use Rattle.laws.proofs.Search.{either}
use Rattle.paper_record.specs.Fields.{fields_of}
use Rattle.paper_record.specs.Text.{is_blank}
use Rattle.paper_record.specs.Word.{blank_to, equal_to, is_word, pointer_of}
use Rattle.paper_record.specs.Faults.{bad_pointer}
use Rattle.paper_rules.specs.declared.types.Track.{Track}
use Rattle.paper_rules.specs.State.{Seen}
use Rattle.paper_rules.specs.Roles.{TEXT}
use Rattle.paper_rules.specs.Text.{place_in_part, places_of, pointers_of, keyword_fault, rule10, pointer_repeated, rule11_text}
use Rattle.paper_rules.specs.Order.{fault_of}
use Rattle.paper_rules.specs.Clean.{Clean}
use Rattle.paper_faults.proofs.NoColumns.{when-none}
use Rattle.paper_rules.proofs.Clean.{fine-clean}
use Rattle.paper_entry.specs.Judging.{Accepted}
use Rattle.entry_walk.proofs.GoingOn.{go-fine}
use Rattle.paper_entry.specs.Contexts.{context_at, role_at}
use Rattle.paper_questions.specs.Passage.{has_keyword}
use Rattle.paper_questions.proofs.RowChanges.{bib}
use Rattle.inside.specs.Inside.{TextOf, Under}
use Rattle.entry_walk.proofs.AcceptedWalk.{walked}
use Rattle.entry_walk.proofs.Contexts.{context-after}
use Rattle.entry_walk.proofs.TextsAdded.{bib-joined, under-begun, under-joined, bib-emptied}
use Rattle.inside.proofs.RecordsFrom.{place-field, records_from, records-none, records-next, not-among}
use Rattle.inside.proofs.RecordsFrom.{not-pointed}
use Rattle.inside.proofs.RowFound.{Opening}
use Rattle.inside.proofs.TextLaid.{texts_of, texts-stand, text-laid}
use Rattle.inside.proofs.TextPlaced.{text-placed, text-behind, texts-between}

-- ---- rules 10 and 11 on a record without fault

module _ (t : Track) (seen : Seen) (role : ℕ) (fs : List (List ℕ)) (r : List ℕ)
    (fine : fault_of t seen role fs r ≡ faultless) (text : role ≡ TEXT) (f : List ℕ) (own : get_or fs 0 [] ≡ f) where
  clean : Clean t seen role fs r
  clean = fine-clean t seen role fs r fine

  fine-10 : keyword_fault seen.bib t f ≡ false
  unfolding rule10
  fine-10 = when-none (keyword_fault seen.bib t f) 1 (rw own at (clean.ten (eq-eqb role TEXT text)))

  -- 10: its keyword is none of the section so far
  fine-keyword : blank_to 10 f ≡ false → any_of (equal_to 10 f) (places_of seen.bib) ≡ false
  fine-keyword e = or_right (not (is_word 10 f)) (any_of (equal_to 10 f) (places_of seen.bib)) (rw e at fine-10)

  -- and the first of the section has one
  fine-first : t.section ≡ 0 → has_keyword f ≡ true
  fine-first z = by-test (blank_to 10 f) fine-10
    where
      by-test : (b : Bool)
          → cond b (eqb t.section 0) (not (is_word 10 f) || any_of (equal_to 10 f) (places_of seen.bib)) ≡ false
          → not b ≡ true
      by-test true e = differ (sym (eq-eqb t.section 0 z) ∙ e)
      by-test false e = refl

  -- 11: its pointer is none of those under its keyword
  fine-pointer : blank_to 10 f ≡ true → is_blank (pointer_of f) ≡ false
      → any_of (eqb (pointer_of f)) (pointers_of seen.under) ≡ false
  unfolding rule11_text
  fine-pointer e p =
      let none =
      or_right (bad_pointer f) (pointer_repeated seen.under f)
      (when-none (bad_pointer f || pointer_repeated seen.under f) 11
      (rw own at (clean.eleven_text (eq-eqb role TEXT text)))) in
      rw (p, e) at none

-- ---- in an accepted entry

module _ (s : List ℕ) (accepted : Accepted s) where
  fine-at : (i : ℕ) → i < length s / 81
      → fault_of (context_at s i).track (context_at s i).seen (role_at s i) (fields_of (block_at 81 s i)) (block_at 81 s i)
      ≡ faultless
  fine-at i h = (go-fine (context_at s i) i (block_at 81 s i) (context_at s (suc i)) ((walked s accepted).turns i h)).0

  fits : (i : ℕ) → i ≤ length s / 81 → i * 81 ≤ length s
  fits i h = omega arith

  -- the section so far
  bib-seen : (n a : ℕ) → Opening s n bib a → (m : ℕ) → m ≤ texts_of s a
      → (context_at s (suc a + m)).seen.bib ≡ records_from s (suc a) m
  bib-seen n a o zero h =
      let e : suc a + 0 ≡ suc a = omega arith in
      rw (e, context-after s a, records-none s (suc a)) (bib-emptied (context_at s a) (block_at 81 s a) o.role)
  bib-seen n a o (suc m) h =
      let i = suc a + m in
      let e : suc a + suc m ≡ suc i = omega arith in
      let t = text-laid s accepted n a o m (omega arith) in
      rw (e, context-after s i)
      (bib-joined (context_at s i) (block_at 81 s i) t.role (place_in_part s i) (place-field s i)
      ∙ ap (λ (x : List ℕ). x ++ block_at 81 s i) (bib-seen n a o m (omega arith)) ∙ records-next s (suc a) m)

  -- "No keyword occurs twice in a section"
  pub keyword-once : (n i j : ℕ) → TextOf s n i → TextOf s n j → j < i → has_keyword (place_in_part s i) ≡ true
      → equal_to 10 (place_in_part s i) (place_in_part s j) ≡ false
  keyword-once n i j t u l k =
      let b = text-placed s accepted n i t in
      let a = b.at in
      let m = b.place in
      let x = (text-behind s accepted n a b.opening j u).0 in
      let c = context_at s i in
      let r = block_at 81 s i in
      let f = place_in_part s i in
      let h = b.here in
      let none =
      fine-keyword c.track c.seen (role_at s i) (fields_of r) r (fine-at i t.there) t.role f
      (place-field s i) (not-true (blank_to 10 f) k) in
      let seen : c.seen.bib ≡ records_from s (suc a) m =
      rw (← h) at (bib-seen n a b.opening m b.few) in
      let room : (suc a + m) * 81 ≤ length s = fits (suc a + m) (omega (arith, t.there)) in
      let z : suc a + (j - suc a) ≡ j = omega arith in
      rw z at
      (not-among s (suc a) m room f (rw seen at none) (j - suc a) (omega arith))

  -- the records under a keyword
  under-seen : (n k e : ℕ) → TextOf s n k → has_keyword (place_in_part s k) ≡ true
      → ((j : ℕ) → k < j → j ≤ k + e → TextOf s n j × (has_keyword (place_in_part s j) ≡ false))
      → (context_at s (suc k + e)).seen.under ≡ records_from s k (suc e)
  under-seen n k zero t h rest =
      let e : suc k + 0 ≡ suc k = omega arith in
      rw (e, context-after s k)
      (under-begun (context_at s k) (block_at 81 s k) t.role (place_in_part s k) (place-field s k)
      (not-true (blank_to 10 (place_in_part s k)) h))
  under-seen n k (suc e) t h rest =
      let i = suc k + e in
      let x : suc k + suc e ≡ suc i = omega arith in
      let y : k + suc e ≡ i = omega arith in
      let (u, b) = rest i (omega arith) (omega arith) in
      rw (x, context-after s i)
      (under-joined (context_at s i) (block_at 81 s i) u.role (place_in_part s i) (place-field s i)
      (not-false (blank_to 10 (place_in_part s i)) b)
      ∙ ap (λ (p : List ℕ). p ++ block_at 81 s i)
      (under-seen n k e t h (λ j p q. rest j p (omega arith)))
      ∙ rw y at (records-next s k (suc e)))

  -- "no pointer twice under one keyword"
  pub pointer-once : (n k i j : ℕ) → Under s n k i → TextOf s n i → k ≤ j → j < i
      → is_blank (pointer_of (place_in_part s i)) ≡ false
      → eqb (pointer_of (place_in_part s i)) (pointer_of (place_in_part s j)) ≡ false
  pointer-once n k i j u t p l q =
      let e = i - suc k in
      let x : suc k + e ≡ i = omega arith in
      let c = context_at s i in
      let r = block_at 81 s i in
      let f = place_in_part s i in
      let none =
      fine-pointer c.track c.seen (role_at s i) (fields_of r) r (fine-at i t.there) t.role f
      (place-field s i) (not-false (blank_to 10 f) (u.last i (omega arith) (omega arith))) q in
      let seen : c.seen.under ≡ records_from s k (suc e) =
      rw x at
      (under-seen n k e u.text u.keyword
      (λ m a b.
      (texts-between s accepted n k i u.text t m (omega arith) (omega arith), u.last m a (omega arith)))) in
      let room : (k + suc e) * 81 ≤ length s = fits (k + suc e) (omega (arith, t.there)) in
      let z : k + (j - k) ≡ j = omega arith in
      rw z at (not-pointed s k (suc e) room (pointer_of f) (rw seen at none) (j - k) (omega arith))

  own : (n i : ℕ) → TextOf s n i → has_keyword (place_in_part s i) ≡ true → Under s n i i
  own n i t e = record { text = t; keyword = e; before = omega arith; last = λ j p q. absurd (omega arith) }

  -- "The first record has a keyword", and each of the others stands under its own or the last before it
  under_at : (n a : ℕ) → Opening s n bib a → (m : ℕ) → m < texts_of s a → (k : ℕ) × Under s n k (suc a + m)
  under_at n a o zero h =
      let i = suc a + 0 in
      let c = context_at s i in
      let r = block_at 81 s i in
      let t = text-laid s accepted n a o 0 h in
      let z = (texts-stand s accepted n a o 0 (omega arith)).before in
      let k =
      fine-first c.track c.seen (role_at s i) (fields_of r) r (fine-at i t.there) t.role (place_in_part s i)
      (place-field s i) z in
      (i, own n i t k)
  under_at n a o (suc m) h =
      let i = suc a + suc m in
      let (k, u) = under_at n a o m (omega arith) in
      by-test (text-laid s accepted n a o (suc m) h) k u (has_keyword (place_in_part s i)) refl
    where
      by-test : TextOf s n (suc a + suc m) → (k : ℕ) → Under s n k (suc a + m) → (b : Bool)
          → has_keyword (place_in_part s (suc a + suc m)) ≡ b → (k : ℕ) × Under s n k (suc a + suc m)
      by-test t k u true e = (suc a + suc m, own n (suc a + suc m) t e)
      by-test t k u false e = (
        k,
        record {
          text = u.text;
          keyword = u.keyword;
          before = omega (arith, u.before);
          last =
              λ j p q.
              either j (suc a + suc m) (λ l. u.last j p (omega arith))
              (λ l. let z : j ≡ suc a + suc m = omega arith in rw z e);
        },
      )

  pub text-under : (n i : ℕ) → TextOf s n i → (k : ℕ) × Under s n k i
  text-under n i t =
      let b = text-placed s accepted n i t in
      let few = (text-behind s accepted n b.at b.opening i t).1 in
      rw b.here (under_at n b.at b.opening b.place (omega (arith, b.here)))

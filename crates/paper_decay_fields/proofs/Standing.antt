-- The parts of a code stand where the characters around them say.
-- Assumes nothing.
use mathlib.Core.Path.{◌≡◌, refl, sym, ap, ◌∙◌, subst}
use mathlib.Core.Bool.{Bool, true, false, cond}
use mathlib.Core.List.{List, [], ◌∷◌, ◌++◌}
use mathlib.Core.Logic.{inl, inr}
use Prim.Native.Nat.{ℕ, suc, ◌+◌, ◌≤◌, min}
use native.Mathlib.Omega.{arith}
use borrow.Author.Tests.{ne_eqb}
use lib.Dec.{eqb}
use lib.ListN.{length, get_or, take, drop, length-replicate}
use lib.Seq.{take_at, take-append-add}
use Rattle.laws.specs.Walk.{All}
use Rattle.paper_number.specs.Grammar.{blanks, digits_text}
use Rattle.paper_record.proofs.Within.{within-bounds}
use Rattle.paper_decay.specs.Code.{nuclide_text, Capital, HalfLife, half_life, Fits, EmptyOr, places_text, Code, flag_text, write, Good}
use Rattle.paper_decay.specs.Fields.{front, number_of, unit_of, cut_at}
use Rattle.paper_decay.proofs.Words.{half-once, numeral-some}
use Rattle.paper_decay_run.specs.Run.{lead_of, without_last}
use Rattle.paper_decay_run.proofs.Fields.{lead-blanks}
use Rattle.paper_decay_run.proofs.Codes.{head_text, fields-of}
use Rattle.paper_decay_fields.specs.declared.types.Part.{Part}
use Rattle.paper_decay_fields.specs.declared.types.Head.{Head}
use Rattle.paper_decay_fields.specs.Parts.{part, NO-PART, or_none, text_in, word_at, word_in, part_from, unspaced, field_at, number_in}
use Rattle.paper_decay_fields.specs.Parts.{flag_at, nuclide_from, nuclide_at, half_at, unit_at}
use Rattle.paper_decay_fields.specs.Asked.{head_in}
use Rattle.paper_decay_fields.specs.Standing.{times, Some, past, Opens, Ends, Follows, HalfStands, HeadStands, Standing}
use Rattle.paper_decay_fields.specs.Standing.{PartsStand}
use Rattle.paper_decay_fields.proofs.Words.{Whole, whole_from, shorter, word-text, word-whole, field-whole}
use Rattle.paper_decay_fields.proofs.Cutting.{times-append}
use Rattle.paper_decay_fields.proofs.Edges.{field-opens, field-shut, word_some, word-follows}
use Rattle.paper_decay_fields.proofs.Fields.{said_at, place-text}
use Rattle.paper_decay_fields.proofs.Heads.{unflagged-at, unflagged-text, nuclide-text, nuclide-stops, isomer_words, cut-nuclide}
use Rattle.paper_decay_fields.proofs.Heads.{front-in, half-whole, half-text, unit-text, first_said, head-of}
use Rattle.paper_decay_fields.proofs.Grouped.{or_some, some_or, not-empty, field-ends, numeral-times, group-stands}

-- ---- the flag

flag-first : (l : List ℕ) → Some (flag_at l) → (flag_at l).first ≡ 2
unfolding flag_at
flag-first l = by-test (eqb (get_or l 1 0) 40)
  where
    by-test : (t : Bool) → Some (cond t (part 2 ((word_at 46 (drop 2 l) 0).length + 1)) NO-PART)
        → (cond t (part 2 ((word_at 46 (drop 2 l) 0).length + 1)) NO-PART).first ≡ 2
    by-test true h = refl
    by-test false h = absurd (omega arith)

-- ---- the nuclide

-- the first field begins with the code
field-first : (c : Code) → Good c → (field_at (write c) 0).first ≡ 0
unfolding field_at unspaced word_at lead_of
field-first c g =
    let l = write c in
    let w = word_at 44 (without_last l) 0 in
    let e : text_in l w ≡ head_text c =
    shorter l w (word-whole 44 (without_last l) 0)
    ∙ (word-text 44 (without_last l) 0 ∙ ap (λ (ws : List (List ℕ)). get_or ws 0 []) (fields-of c g)) in
    let f : lead_of (text_in l w) ≡ 0 = ap lead_of e in
    omega arith

nuclide-first : (c : Code) → Good c → (nuclide_at (write c)).first ≡ suc (length (flag_text c.flag) + c.lead)
unfolding nuclide_at unspaced
nuclide-first c g =
    let l = write c in
    let k = min (nuclide_from l) (field_at l 0).length in
    let a : (field_at l 0).first ≡ 0 = field-first c g in
    let b : k ≡ suc (length (flag_text c.flag)) = unflagged-at c g in
    let d : lead_of (text_in l (part_from (field_at l 0) k)) ≡ c.lead =
    ap lead_of (unflagged-text c g)
    ∙ lead-blanks c.lead (nuclide_text c.nuclide) (nuclide-stops c.nuclide g.nuclide) in
    omega arith

write-before : (c : Code) → take (suc (length (flag_text c.flag) + c.lead)) (write c) ≡ 40 ∷ (flag_text c.flag ++ blanks c.lead)
unfolding write
write-before c =
    let n : length (blanks c.lead) ≡ c.lead = length-replicate c.lead 32 in
    ap (λ (r : List ℕ). 40 ∷ r)
    (take-append-add (flag_text c.flag) (blanks c.lead ++ (nuclide_text c.nuclide ++ (places_text c.places ++ (41 ∷ [])))) c.lead
    ∙ ap (λ (r : List ℕ). flag_text c.flag ++ r) (take_at (blanks c.lead) _ c.lead n))

abbrev nuclide_word : Code → ℕ → Part
nuclide_word c k = word_in 45 (write c) (nuclide_at (write c)) k

nuclide-cut : (c : Code) → Good c
    → cut_at 45 (text_in (write c) (nuclide_at (write c)))
    ≡ digits_text c.nuclide.z ∷ c.nuclide.symbol ∷ digits_text c.nuclide.a ∷ isomer_words c.nuclide.isomer
nuclide-cut c g = ap (cut_at 45) (nuclide-text c g) ∙ cut-nuclide c.nuclide g.nuclide

word-length : (c : Code) → Good c → (k : ℕ)
    → (nuclide_word c k).length
    ≡ length
    (get_or (digits_text c.nuclide.z ∷ c.nuclide.symbol ∷ digits_text c.nuclide.a ∷ isomer_words c.nuclide.isomer) k [])
unfolding word_in word_at
word-length c g k = ap (λ (ws : List (List ℕ)). length (get_or ws k [])) (nuclide-cut c g)

digits-some : (ds : List ℕ) → 1 ≤ length ds → 1 ≤ length (digits_text ds)
digits-some [] h = h
digits-some (d ∷ ds) h = omega arith

z-some : (c : Code) → Good c → Some (nuclide_word c 0)
z-some c g = omega (arith, word-length c g 0, digits-some c.nuclide.z g.nuclide.z.some)

symbol-some : (c : Code) → Good c → Some (nuclide_word c 1)
symbol-some c g = omega (arith, word-length c g 1, g.nuclide.one)

a-some : (c : Code) → Good c → Some (nuclide_word c 2)
a-some c g = omega (arith, word-length c g 2, digits-some c.nuclide.a g.nuclide.a.some)

nuclide-follows : (c : Code) (k : ℕ) → Some (nuclide_word c k) → Some (nuclide_word c (suc k))
    → Follows 45 (write c) (or_none (nuclide_word c k)) (or_none (nuclide_word c (suc k)))
nuclide-follows c k a b =
    let l = write c in
    let (m, o) = word_some 45 l (nuclide_at l) (suc k) b in
    subst (λ (q : Part). Follows 45 l q (or_none (nuclide_word c (suc k)))) (sym (or_some (nuclide_word c k) a))
    (subst (λ (q : Part). Follows 45 l (nuclide_word c k) q) (sym (or_some (nuclide_word c (suc k)) b))
    (word-follows 45 l (nuclide_at l) k m))

z-first : (c : Code) → or_none (nuclide_word c 0) ≡ nuclide_word c 0 → (nuclide_at (write c)).first ≡ (or_none (nuclide_word c 0)).first
unfolding word_in word_at
z-first c e = let f = ap (λ (q : Part). q.first) e in omega arith

z-stands : (c : Code) → Good c
    → take (or_none (nuclide_word c 0)).first (write c) ≡ 40 ∷ (flag_text c.flag ++ blanks c.lead)
z-stands c g =
    let e = z-first c (or_some (nuclide_word c 0) (z-some c g)) in
    ap (λ (n : ℕ). take n (write c)) (sym e ∙ nuclide-first c g) ∙ write-before c

-- ---- the half-life

-- where the field is not empty it has a number and a unit
half-said : (c : Code) → Good c → Some (field_at (write c) 1) → HalfLife (said_at c.places 0)
half-said c g s = by_said (first_said c.places g.places.fitting)
  where
    some : 1 ≤ length (said_at c.places 0)
    some =
        let n : length (text_in (write c) (field_at (write c) 1)) ≡ length (said_at c.places 0) = ap length (place-text c g 0) in
        let k : length (text_in (write c) (field_at (write c) 1)) ≡ (field_at (write c) 1).length = field-whole (write c) 1 in
        omega arith

    by_said : EmptyOr (Fits half_life) (said_at c.places 0) → HalfLife (said_at c.places 0)
    by_said (inl e) = not-empty (said_at c.places 0) e some
    by_said (inr h) = h

half-some : (c : Code) → Good c → Some (field_at (write c) 1) → Some (half_at (write c))
half-some c g s =
    let h = half-said c g s in
    let e : number_of (said_at c.places 0) ≡ h.number =
    ap number_of (sym h.same) ∙ (half-once h.number h.unit h.numeral h.capitals).0 in
    let n : length (text_in (write c) (half_at (write c))) ≡ length h.number = ap length (half-text c g ∙ e) in
    let k : length (text_in (write c) (half_at (write c))) ≡ (half_at (write c)).length = half-whole (write c) in
    let o = numeral-some h.number h.numeral in
    omega arith

unit-whole : (l : List ℕ) → Whole l (unit_at l)
unfolding unit_at
unit-whole l = whole_from l (field_at l 1) (front (text_in l (field_at l 1))) (field-whole l 1)

unit-some : (c : Code) → Good c → Some (field_at (write c) 1) → Some (unit_at (write c))
unit-some c g s =
    let h = half-said c g s in
    let e : unit_of (said_at c.places 0) ≡ h.unit =
    ap unit_of (sym h.same) ∙ (half-once h.number h.unit h.numeral h.capitals).1 in
    let n : length (text_in (write c) (unit_at (write c))) ≡ length h.unit = ap length (unit-text c g ∙ e) in
    let k : length (text_in (write c) (unit_at (write c))) ≡ (unit_at (write c)).length = unit-whole (write c) in
    let o = h.capitals.some in
    omega arith

-- they have no slash
capitals-times : (u : List ℕ) → All Capital u → times 47 u ≡ 0
unfolding times
capitals-times [] h = refl
capitals-times (b ∷ u) h =
    let (x, y) = within-bounds 65 90 b h.0 in
    let k = capitals-times u h.1 in
    rw (ne_eqb b 47 (λ e. omega arith)) (omega arith)

half-times : (l : List ℕ) → HalfLife l → times 47 l ≡ 0
half-times l h =
    let a = times-append 47 h.number h.unit in
    let b = numeral-times h.number h.numeral in
    let c = capitals-times h.unit h.capitals.capitals in
    let d : times 47 l ≡ times 47 (h.number ++ h.unit) = ap (times 47) (sym h.same) in
    omega arith

-- both together are the field
half-field : (l : List ℕ) → ((half_at l).first ≡ (field_at l 1).first) × ((half_at l).length + (unit_at l).length ≡ (field_at l 1).length)
unfolding half_at unit_at
half-field l = let n = front-in l in (refl, omega arith)

unit-past : (l : List ℕ) → (unit_at l).first ≡ past (half_at l)
unfolding unit_at half_at
unit-past l = refl

half-stands : (c : Code) → Good c → Some (field_at (write c) 1) → HalfStands (write c) (half_at (write c)) (unit_at (write c))
half-stands c g s =
    let l = write c in
    let (a, b) = half-field l in
    let e : field_at l 1 ≡ part (half_at l).first ((half_at l).length + (unit_at l).length) = λ i. part (sym a i) (sym b i) in
    record {
      opens = subst (Opens l 1) (sym a) (field-opens l 0 s);
      next = unit-past l;
      ends = subst (Ends l) e
          (field-ends l (field_at l 1) (field-shut l 1 s)
          (ap (times 47) (place-text c g 0) ∙ half-times (said_at c.places 0) (half-said c g s)));
    }

-- ---- the law

half-or : (c : Code) → Good c → Some (or_none (half_at (write c)))
    → HalfStands (write c) (or_none (half_at (write c))) (or_none (unit_at (write c)))
half-or c g h =
    let l = write c in
    let o = (half-field l).1 in
    let k = some_or (half_at l) h in
    let s : Some (field_at l 1) = omega arith in
    subst (λ (q : Part). HalfStands l q (or_none (unit_at l))) (sym (or_some (half_at l) k))
    (subst (λ (q : Part). HalfStands l (half_at l) q) (sym (or_some (unit_at l) (unit-some c g s))) (half-stands c g s))

unit-or : (c : Code) → Good c → Some (or_none (unit_at (write c))) → Some (or_none (half_at (write c)))
unit-or c g h =
    let l = write c in
    let o = (half-field l).1 in
    let k = some_or (unit_at l) h in
    let n = half-some c g (omega arith) in
    subst Some (sym (or_some (half_at l) n)) n

flag-or : (l : List ℕ) → Some (or_none (flag_at l)) → (or_none (flag_at l)).first ≡ 2
flag-or l h =
    let s = some_or (flag_at l) h in
    ap (λ (p : Part). p.first) (or_some (flag_at l) s) ∙ flag-first l s

-- what is said of the head, of any
abbrev Says : List ℕ → Code → Head → Type 0
Says l c h =
    (Some h.flag → h.flag.first ≡ 2)
    × ((take h.z.first l ≡ 40 ∷ (flag_text c.flag ++ blanks c.lead))
    × (Follows 45 l h.z h.symbol
    × (Follows 45 l h.symbol h.a
    × ((Some h.isomer → Follows 45 l h.a h.isomer)
    × ((Some h.half.part → HalfStands l h.half.part h.unit)
    × (Some h.unit → Some h.half.part))))))

head-in-stands : (c : Code) → Good c → Says (write c) c (head_in (write c))
unfolding number_in
head-in-stands c g = (
  flag-or (write c),
  (
    z-stands c g,
    (
      nuclide-follows c 0 (z-some c g) (symbol-some c g),
      (
        nuclide-follows c 1 (symbol-some c g) (a-some c g),
        (λ h. nuclide-follows c 2 (a-some c g) (some_or (nuclide_word c 3) h), (half-or c g, unit-or c g)),
      ),
    ),
  ),
)

head-stands : (c : Code) → Good c → HeadStands (write c) c
head-stands c g =
    let (f, (z, (s, (a, (i, (h, u)))))) = subst (Says (write c) c) (sym (head-of c g)) (head-in-stands c g) in
    record { flag = f; z = z; symbol = s; a = a; isomer = i; half = h; unit = u }

pub standing : PartsStand
standing l c s =
    subst (λ (m : List ℕ). Standing m c) s.same
    (record { head = head-stands c s.good; groups = group-stands c s.good })

-- Flag, nuclide, half-life and unit of a code's characters are the code's.
-- Assumes nothing.
use mathlib.Core.Path.{◌≡◌, refl, sym, ap, ◌∙◌, subst}
use mathlib.Core.Bool.{Bool, true, false, cond}
use mathlib.Core.List.{List, [], ◌∷◌, ◌++◌, append-nil}
use mathlib.Core.Logic.{inl, inr}
use Prim.Native.Nat.{ℕ, zero, suc, ◌+◌, ◌≤◌, min}
use native.Mathlib.Omega.{arith}
use borrow.Author.Tests.{ne_eqb, le-leb}
use lib.Dec.{eqb}
use lib.ListN.{length, get_or, take, drop, length-append}
use lib.Seq.{take-append-add, drop-append_seam}
use Rattle.laws.specs.Walk.{All}
use Rattle.paper_number.specs.Grammar.{blanks, Digits, digits_text}
use Rattle.paper_number.specs.Reading.{read_field}
use Rattle.paper_record.specs.Text.{is_capital}
use Rattle.paper_record.proofs.Within.{within-bounds}
use Rattle.paper_canonical.specs.Canonical.{one_more}
use Rattle.paper_decay.specs.Code.{Isomer, unsaid, ground_state, metastable, first, second, isomer_text, Nuclide, nuclide_text, Capital}
use Rattle.paper_decay.specs.Code.{GoodNuclide, half_life, Place, Fits, EmptyOr, Fitting, Code, flag_text, write, Good}
use Rattle.paper_decay.specs.Fields.{front, number_of, unit_of, cut_at, fields_of}
use Rattle.paper_decay.proofs.Cuts.{Stops, Blank as IsBlank, Figure, figures, all_map}
use Rattle.paper_decay.proofs.Words.{Not, cut-first, cut-whole}
use Rattle.paper_decay.proofs.Once.{first-digit, core, core-stops, flag_then, write-cut}
use Rattle.paper_decay_run.proofs.Fields.{half-few}
use Rattle.paper_decay_run.proofs.Codes.{head_text}
use Rattle.paper_decay_fields.specs.declared.types.Part.{Part}
use Rattle.paper_decay_fields.specs.declared.types.Head.{Head}
use Rattle.paper_decay_fields.specs.Parts.{or_none, text_in, word_at, word_in, part_from, field_at, number_in, flag_at}
use Rattle.paper_decay_fields.specs.Parts.{nuclide_from, nuclide_at, half_at, unit_at}
use Rattle.paper_decay_fields.specs.Asked.{head_in, head_of}
use Rattle.paper_decay_fields.specs.Claims.{flag_said, HeadSays, HeadRight}
use Rattle.paper_decay_fields.proofs.Words.{Whole, text-from, text-to, whole_to, text-none, word-in-text, unled, unspaced-text}
use Rattle.paper_decay_fields.proofs.Words.{field-whole}
use Rattle.paper_decay_fields.proofs.Codes.{is-code, head_in_lem}
use Rattle.paper_decay_fields.proofs.Fields.{unled-blanks, said_at, head-text, place-text, groups-count, half-field}
use Rattle.paper_decay_fields.proofs.Fields.{unit-field, groups-field, flag-field, nuclide-field}

digits-not : (c : ℕ) (ds : List ℕ) → Digits ds → c ≤ 47 → All (Not c) (digits_text ds)
digits-not c ds h n = all_map Figure (Not c) (digits_text ds) (λ b f e. omega (arith, f.0)) (figures ds h)

-- ---- the flag

no_flag : (r : List ℕ) → Stops (λ b. b ≡ 40) r → eqb (get_or r 0 0) 40 ≡ false
no_flag [] h = refl
no_flag (b ∷ r) h = ne_eqb b 40 h

-- the text behind two parentheses is cut at the flag's point
flag-cut : (f r : List ℕ) → Digits f → cut_at 46 (digits_text f ++ (46 ∷ 41 ∷ r)) ≡ digits_text f ∷ cut_at 46 (41 ∷ r)
flag-cut f r h = cut-first 46 (digits_text f) (41 ∷ r) (digits-not 46 f h (omega arith))

flag-there : (f r : List ℕ) → Digits f → Stops (λ b. b ≡ 40) r
    → text_in (40 ∷ flag_then f r) (flag_at (40 ∷ flag_then f r)) ≡ flag_said f
unfolding flag_at flag_then word_at
flag-there [] r h k = rw (no_flag r k) refl
flag-there (d ∷ ds) r h k =
    ap (λ (ws : List (List ℕ)). take (length (get_or ws 0 []) + 1) (digits_text (d ∷ ds) ++ (46 ∷ 41 ∷ r))) (flag-cut (d ∷ ds) r h)
    ∙ take-append-add (digits_text (d ∷ ds)) (46 ∷ 41 ∷ r) 1

flag-long : (f r : List ℕ) → Digits f → Stops (λ b. b ≡ 40) r → length (flag_said f) ≡ (flag_at (40 ∷ flag_then f r)).length
unfolding flag_at flag_then word_at
flag-long [] r h k = rw (no_flag r k) refl
flag-long (d ∷ ds) r h k =
    length-append (digits_text (d ∷ ds)) (46 ∷ [])
    ∙ ap (λ (ws : List (List ℕ)). length (get_or ws 0 []) + 1) (sym (flag-cut (d ∷ ds) r h))

pub flag-text : (c : Code) → Good c → text_in (write c) (flag_at (write c)) ≡ flag_said c.flag
flag-text c g =
    ap (λ (l : List ℕ). text_in l (flag_at l)) (write-cut c) ∙ flag-there c.flag (core c) g.flag (core-stops c g)

flag-length : (c : Code) → Good c → length (flag_said c.flag) ≡ (flag_at (write c)).length
flag-length c g =
    flag-long c.flag (core c) g.flag (core-stops c g) ∙ ap (λ (l : List ℕ). (flag_at l).length) (sym (write-cut c))

pub flag-whole : (c : Code) → Good c → Whole (write c) (flag_at (write c))
flag-whole c g = ap length (flag-text c g) ∙ flag-length c g

-- ---- the nuclide

flag-before : (f : List ℕ) → cond (eqb (length (flag_said f)) 0) 1 (length (flag_said f) + 3) ≡ suc (length (flag_text f))
flag-before [] = refl
flag-before (d ∷ ds) =
    let n = length-append (digits_text (d ∷ ds)) (46 ∷ 41 ∷ []) in
    let m = length-append (digits_text (d ∷ ds)) (46 ∷ []) in
    rw (ne_eqb (length (digits_text (d ∷ ds) ++ (46 ∷ []))) 0 (λ e. omega arith)) (omega arith)

before-is : (c : Code) → Good c → nuclide_from (write c) ≡ suc (length (flag_text c.flag))
unfolding nuclide_from
before-is c g = rw (sym (flag-length c g)) (flag-before c.flag)

pub nuclide-stops : (n : Nuclide) → GoodNuclide n → Stops IsBlank (nuclide_text n)
nuclide-stops n g = first-digit n.z _ IsBlank g.z.some (λ k q. omega arith)

-- how many characters of the first field stand before the nuclide's blanks
pub unflagged-at : (c : Code) → Good c
    → min (nuclide_from (write c)) (field_at (write c) 0).length ≡ suc (length (flag_text c.flag))
unflagged-at c g =
    let l = write c in
    let f = flag_text c.flag in
    let m = blanks c.lead ++ nuclide_text c.nuclide in
    let p = field_at l 0 in
    let w : length (text_in l p) ≡ p.length = field-whole l 0 in
    let h : length (text_in l p) ≡ suc (length (f ++ m)) = ap length (head-text c g) in
    let a = length-append f m in
    let b = before-is c g in
    omega arith

pub unflagged-text : (c : Code) → Good c
    → text_in (write c) (part_from (field_at (write c) 0) (min (nuclide_from (write c)) (field_at (write c) 0).length))
    ≡ blanks c.lead ++ nuclide_text c.nuclide
unflagged-text c g =
    let l = write c in
    let k = min (nuclide_from l) (field_at l 0).length in
    text-from l (field_at l 0) k
    ∙ ap (drop k) (head-text c g)
    ∙ ap (λ (n : ℕ). drop n (head_text c)) (unflagged-at c g)
    ∙ drop-append_seam (flag_text c.flag) (blanks c.lead ++ nuclide_text c.nuclide)

pub nuclide-text : (c : Code) → Good c → text_in (write c) (nuclide_at (write c)) ≡ nuclide_text c.nuclide
unfolding nuclide_at
nuclide-text c g =
    unspaced-text (write c) _
    ∙ ap unled (unflagged-text c g)
    ∙ unled-blanks c.lead (nuclide_text c.nuclide) (nuclide-stops c.nuclide g.nuclide)

-- without its hyphen
abbrev pub isomer_words : Isomer → List (List ℕ)
isomer_words unsaid = []
isomer_words ground_state = (71 ∷ []) ∷ []
isomer_words metastable = (77 ∷ []) ∷ []
isomer_words first = (77 ∷ 49 ∷ []) ∷ []
isomer_words second = (77 ∷ 50 ∷ []) ∷ []

cut-isomer : (a : List ℕ) (x : Isomer) → All (Not 45) a → cut_at 45 (a ++ isomer_text x) ≡ a ∷ isomer_words x
cut-isomer a unsaid h = ap (cut_at 45) (append-nil a) ∙ cut-whole 45 a h
cut-isomer a ground_state h = cut-first 45 a (71 ∷ []) h
cut-isomer a metastable h = cut-first 45 a (77 ∷ []) h
cut-isomer a first h = cut-first 45 a (77 ∷ 49 ∷ []) h
cut-isomer a second h = cut-first 45 a (77 ∷ 50 ∷ []) h

isomer-word : (x : Isomer) → get_or (isomer_words x) 0 [] ≡ drop 1 (isomer_text x)
isomer-word unsaid = refl
isomer-word ground_state = refl
isomer-word metastable = refl
isomer-word first = refl
isomer-word second = refl

capital-hyphen : (b : ℕ) → Capital b → Not 45 b
capital-hyphen b h e = let (l, u) = within-bounds 65 90 b h in omega arith

pub cut-nuclide : (n : Nuclide) → GoodNuclide n
    → cut_at 45 (nuclide_text n) ≡ digits_text n.z ∷ n.symbol ∷ digits_text n.a ∷ isomer_words n.isomer
cut-nuclide n g =
    let a = digits_text n.a ++ isomer_text n.isomer in
    cut-first 45 (digits_text n.z) (n.symbol ++ (45 ∷ a)) (digits-not 45 n.z g.z.digits (omega arith))
    ∙ ap (λ (ws : List (List ℕ)). digits_text n.z ∷ ws)
    (cut-first 45 n.symbol a (all_map Capital (Not 45) n.symbol capital-hyphen g.symbol)
    ∙ ap (λ (ws : List (List ℕ)). n.symbol ∷ ws)
    (cut-isomer (digits_text n.a) n.isomer (digits-not 45 n.a g.a.digits (omega arith))))

nuclide-word : (c : Code) → Good c → (k : ℕ)
    → text_in (write c) (or_none (word_in 45 (write c) (nuclide_at (write c)) k))
    ≡ get_or (digits_text c.nuclide.z ∷ c.nuclide.symbol ∷ digits_text c.nuclide.a ∷ isomer_words c.nuclide.isomer) k []
nuclide-word c g k =
    text-none (write c) (word_in 45 (write c) (nuclide_at (write c)) k)
    ∙ word-in-text 45 (write c) (nuclide_at (write c)) k
    ∙ ap (λ (ws : List (List ℕ)). get_or ws k []) (ap (cut_at 45) (nuclide-text c g) ∙ cut-nuclide c.nuclide g.nuclide)

-- ---- the half-life

one_more_lem : (n : ℕ) (t : Bool) → one_more n t ≤ suc n
one_more_lem zero true = omega arith
one_more_lem zero false = omega arith
one_more_lem (suc n) t = omega arith

front-few : (l : List ℕ) → front l ≤ length l
front-few [] = omega arith
front-few (b ∷ l) =
    let h = front-few l in
    let k = one_more_lem (front l) (is_capital b) in
    omega arith

pub front-in : (l : List ℕ) → front (text_in l (field_at l 1)) ≤ (field_at l 1).length
front-in l =
    let h = front-few (text_in l (field_at l 1)) in
    let w = field-whole l 1 in
    omega arith

pub half-whole : (l : List ℕ) → Whole l (half_at l)
unfolding half_at
half-whole l = whole_to l (field_at l 1) (front (text_in l (field_at l 1))) (front-in l) (field-whole l 1)

pub half-text : (c : Code) → Good c → text_in (write c) (half_at (write c)) ≡ number_of (said_at c.places 0)
unfolding half_at
half-text c g =
    let l = write c in
    text-to l (field_at l 1) (front (text_in l (field_at l 1))) (front-in l) ∙ ap number_of (place-text c g 0)

pub unit-text : (c : Code) → Good c → text_in (write c) (unit_at (write c)) ≡ unit_of (said_at c.places 0)
unfolding unit_at
unit-text c g =
    let l = write c in
    text-from l (field_at l 1) (front (text_in l (field_at l 1))) ∙ ap unit_of (place-text c g 0)

half-short : (l : List ℕ) → EmptyOr (Fits half_life) l → length (number_of l) ≤ 11
half-short l (inl e) = let n : length (number_of l) ≡ 0 = ap (λ (m : List ℕ). length (number_of m)) e in omega arith
half-short l (inr h) = half-few l h

pub first_said : (ps : List Place) → Fitting half_life ps → EmptyOr (Fits half_life) (said_at ps 0)
first_said [] h = inl refl
first_said (p ∷ ps) h = h.0

pub half_in : (c : Code) → Good c → (half_at (write c)).length ≤ 11
half_in c g =
    let w = half-whole (write c) in
    let e : length (text_in (write c) (half_at (write c))) ≡ length (number_of (said_at c.places 0)) = ap length (half-text c g) in
    let h = half-short (said_at c.places 0) (first_said c.places g.places.fitting) in
    omega arith

-- a number with room for it is read
pub number-value : (l : List ℕ) (p : Part) → p.length ≤ 11 → (number_in l p).value ≡ read_field (text_in l p)
unfolding number_in
number-value l p h = rw (le-leb p.length 11 h) refl

-- ---- the law

pub head-of : (c : Code) → Good c → head_of (write c) ≡ head_in (write c)
head-of c g = head_in_lem (write c) (is-code (write c) c (record { good = g; same = refl }))

head-says : (c : Code) → Good c → HeadSays (write c) c
unfolding fields_of
head-says c g =
    let l = write c in
    let e = head-of c g in
    let n = nuclide-field c.flag c.nuclide c.places in
    record {
      number = ap (λ (h : Head). h.number) e;
      at = ap (λ (h : Head). h.at) e;
      flag = ap (λ (h : Head). text_in l h.flag) e
          ∙ (text-none l (flag_at l)
          ∙ (flag-text c g ∙ ap flag_said (flag-field c.flag c.nuclide c.places)));
      z = ap (λ (h : Head). text_in l h.z) e ∙ (nuclide-word c g 0 ∙ ap (λ (m : Nuclide). digits_text m.z) n);
      symbol = ap (λ (h : Head). text_in l h.symbol) e ∙ (nuclide-word c g 1 ∙ ap (λ (m : Nuclide). m.symbol) n);
      a = ap (λ (h : Head). text_in l h.a) e ∙ (nuclide-word c g 2 ∙ ap (λ (m : Nuclide). digits_text m.a) n);
      isomer = ap (λ (h : Head). text_in l h.isomer) e
          ∙ (nuclide-word c g 3
          ∙ (isomer-word c.nuclide.isomer ∙ ap (λ (m : Nuclide). drop 1 (isomer_text m.isomer)) n));
      half = ap (λ (h : Head). h.half.value) e
          ∙ (number-value l (half_at l) (half_in c g)
          ∙ (ap read_field (half-text c g) ∙ half-field c.flag c.nuclide c.places));
      unit = ap (λ (h : Head). text_in l h.unit) e
          ∙ (text-none l (unit_at l) ∙ (unit-text c g ∙ unit-field c.flag c.nuclide c.places));
      groups = ap (λ (h : Head). h.groups) e
          ∙ (groups-count c g ∙ ap length (groups-field c.flag c.nuclide c.places));
    }

pub head-right : HeadRight
head-right l c s = subst (λ (m : List ℕ). HeadSays m c) s.same (head-says c s.good)

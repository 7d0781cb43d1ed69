-- Text records, record by record, are keywords with their records; and the other way round. Assumes nothing.
use Prim.Native.Nat.{ℕ, ◌+◌, ◌≤◌}
use mathlib.Core.Path.{◌≡◌, refl, sym, ◌∙◌, ap}
use mathlib.Core.Bool.{Bool, true, false, cond, not, ◌&&◌}
use mathlib.Core.Logic.{◌↔◌}
use mathlib.Core.List.{List, [], ◌∷◌, ◌++◌, map, map-append}
use native.Mathlib.Omega.{arith}
use lib.Dec.{eqb}
use lib.ListN.{length, length-append}
use borrow.Author.Tests.{eqb-true, eqb-false, eq-eqb, ne_eqb, not-true, not-false}
use Rattle.laws.proofs.Booleans.{differ, and_left, and_right, or_left, or_right, cond-itself, and_both}
use Rattle.laws.proofs.Listing.{any-and}
use Rattle.laws.specs.Walk.{All}
use Rattle.laws.specs.Members.{any_of}
use Rattle.laws.proofs.Members.{any_append}
use Rattle.paper_record.specs.Text.{is_blank}
use Rattle.paper_record.specs.Word.{blank_to, equal_to, is_word, pointer_of}
use Rattle.rules_plain.specs.Places.{bib_place, pointers_in}
use Rattle.good.specs.Parts.{Record, Keyword, texts_of}
use Rattle.good.specs.Marks.{Following}
use Rattle.rules_plain.specs.Texts.{NoKeyword, SamePointer}
use Rattle.good.specs.Bib.{Text, GoodKeyword, keyword_places}
use Rattle.paper_record.proofs.WordsAndBlanks.{word_blank, word-differs}
use Rattle.paper_record.proofs.PlainColumns.{blank-exactly, word-exactly, pointer-exactly}
use Rattle.good.proofs.Repeats.{OnceBy, once-said, said-once}
use Rattle.good.proofs.TextContexts.{bearing}
use Rattle.good.proofs.Texts.{TextFine, TextsFine, under_after}

place-computed : (r : Record) → NoKeyword r → blank_to 10 (bib_place r) ≡ true
place-computed r b = (blank-exactly 10 (bib_place r)).1 b

abbrev same_pointer : ℕ → ℕ → Bool
same_pointer p q = not (is_blank p) && eqb p q

pointers-agree : (p q : ℕ) → (same_pointer p q ≡ true) ↔ SamePointer p q
pointers-agree p q = (
  λ e. (
    eqb-false p 32 (not-true (is_blank p) (and_left (not (is_blank p)) (eqb p q) e)),
    eqb-true p q (and_right (not (is_blank p)) (eqb p q) e),
  ),
  λ s. and_both (ap not (ne_eqb p 32 s.0)) (eq-eqb p q s.1),
)

-- among the places of the records before, a word is found exactly where it is among the keywords before
pub record Places (before : List Record) (places : List (List ℕ)) : Type 0 where
  pub same : (f : List ℕ) → is_word 10 f ≡ true
      → any_of (equal_to 10 f) (map bib_place before) ≡ any_of (equal_to 10 f) places

any-one : (f : List ℕ) (xs : List (List ℕ)) (g : List ℕ)
    → any_of (equal_to 10 f) (xs ++ (g ∷ [])) ≡ cond (any_of (equal_to 10 f) xs) true (cond (equal_to 10 f g) true false)
unfolding any_of
any-one f xs g = any_append (equal_to 10 f) xs (g ∷ [])

place-blank : (before : List Record) (places : List (List ℕ)) (r : Record) → NoKeyword r → Places before places
    → Places (before ++ (r ∷ [])) places
place-blank before places r e p =
    record {
      same = λ f w.
          ap (any_of (equal_to 10 f)) (map-append bib_place before (r ∷ []))
          ∙ any-one f (map bib_place before) (bib_place r)
          ∙ rw (word-differs f (bib_place r) w (place-computed r e), p.same f w)
          (cond-itself (any_of (equal_to 10 f) places));
    }

place-word : (before : List Record) (places : List (List ℕ)) (r : Record) → Places before places
    → Places (before ++ (r ∷ [])) (places ++ (bib_place r ∷ []))
place-word before places r p =
    record {
      same = λ f w.
          ap (any_of (equal_to 10 f)) (map-append bib_place before (r ∷ []))
          ∙ any-one f (map bib_place before) (bib_place r)
          ∙ rw (p.same f w) (sym (any-one f places (bib_place r)));
    }

-- ---- from records to keywords

-- The walk goes forward, and what stands under a keyword is known only when the next one comes. So the records behind
-- any record are grouped first: those still under the keyword in hand, then keywords with theirs. A record with a
-- keyword opens a group with what was grouped behind it; any other joins the front of the records still under the one
-- before.

pub record Keywords (places : List (List ℕ)) (texts : List Record) : Type 0 where
  pub keywords : List Keyword
  pub split : texts ≡ texts_of keywords
  pub each : All GoodKeyword keywords
  pub once : OnceBy (equal_to 10) places (keyword_places keywords)

-- behind a keyword: the records that are still under it, then keywords
record Grouped (under : List Record) (places : List (List ℕ)) (texts : List Record) : Type 0 where
  more : List Record
  rest : List Record
  split : texts ≡ more ++ rest
  blank : All NoKeyword more
  fine : All Text more
  pointers : OnceBy same_pointer (pointers_in under) (pointers_in more)
  behind : Keywords places rest

text-of : (before under : List Record) (r : Record) → TextFine before under r → Text r
text-of before under r f = record { no_system = f.other; pointer = (pointer-exactly (bib_place r)).0 f.pointer }

-- a keyword, with what is grouped behind it
begin : (before under : List Record) (places : List (List ℕ)) (r : Record) (rs : List Record) → Places before places
    → blank_to 10 (bib_place r) ≡ false → TextFine before under r
    → (is_word 10 (bib_place r) ≡ true → Grouped (r ∷ []) (places ++ (bib_place r ∷ [])) rs) → Keywords places (r ∷ rs)
unfolding texts_of OnceBy any_of
begin before under places r rs p e f next =
    let k = rw e at f.keyword in
    let w =
    not-false (is_word 10 (bib_place r))
    (or_left (not (is_word 10 (bib_place r))) (any_of (equal_to 10 (bib_place r)) (map bib_place before)) k) in
    let o = or_right (not (is_word 10 (bib_place r))) (any_of (equal_to 10 (bib_place r)) (map bib_place before)) k in
    let g = next w in
    record {
      keywords = record { first = r; more = g.more } ∷ g.behind.keywords;
      split =
          ap (λ (x : List Record). r ∷ x) (g.split ∙ ap (λ (x : List Record). g.more ++ x) g.behind.split);
      each = (
        record {
          word = (word-exactly 10 (bib_place r)).0 w;
          blank = g.blank;
          texts = (text-of before under r f, g.fine);
          pointers = once-said same_pointer SamePointer pointers-agree [] (pointers_in (r ∷ g.more)) (refl, g.pointers);
        },
        g.behind.each,
      );
      once = (sym (p.same (bib_place r) w) ∙ o, g.behind.once);
    }

group : (identification : List ℕ) (n : ℕ) (before under : List Record) (places : List (List ℕ)) (rs : List Record)
    → Places before places → TextsFine identification n before under rs → Grouped under places rs
unfolding TextsFine OnceBy texts_of
group identification n before under places [] p h =
    record {
      more = [];
      rest = [];
      split = refl;
      blank = tt;
      fine = tt;
      pointers = tt;
      behind = record { keywords = []; split = refl; each = tt; once = tt };
    }
group identification n before under places (r ∷ rs) p h =
    by-test (blank_to 10 (bib_place r)) refl
    (λ e. group identification (n + 1) (before ++ (r ∷ [])) (under ++ (r ∷ [])) places rs
    (place-blank before places r ((blank-exactly 10 (bib_place r)).0 e) p) (rw e at h.2))
    (λ e. group identification (n + 1) (before ++ (r ∷ [])) (r ∷ []) (places ++ (bib_place r ∷ [])) rs
    (place-word before places r p) (rw e at h.2))
  where
    by-test : (b : Bool) → blank_to 10 (bib_place r) ≡ b
        → (blank_to 10 (bib_place r) ≡ true → Grouped (under ++ (r ∷ [])) places rs)
        → (blank_to 10 (bib_place r) ≡ false → Grouped (r ∷ []) (places ++ (bib_place r ∷ [])) rs)
        → Grouped under places (r ∷ rs)
    by-test true e blank word =
        let g = blank e in
        record {
          more = r ∷ g.more;
          rest = g.rest;
          split = ap (λ (x : List Record). r ∷ x) g.split;
          blank = ((blank-exactly 10 (bib_place r)).0 e, g.blank);
          fine = (text-of before under r h.1, g.fine);
          pointers = (
            any-and (not (is_blank (pointer_of (bib_place r)))) (eqb (pointer_of (bib_place r))) (pointers_in under)
                ∙ (rw e at h.1.repeated),
            rw (map-append (λ (x : Record). pointer_of (bib_place x)) under (r ∷ [])) at g.pointers,
          );
          behind = g.behind;
        }
    by-test false e blank word =
        record {
          more = [];
          rest = r ∷ rs;
          split = refl;
          blank = tt;
          fine = tt;
          pointers = tt;
          behind = begin before under places r rs p e h.1 (λ w. word e);
        }

-- the text records of a section are its keywords
pub fine-keywords : (identification : List ℕ) (n : ℕ) (rs : List Record)
    → TextsFine identification n [] [] rs → Keywords [] rs
unfolding TextsFine OnceBy texts_of
fine-keywords identification n [] h = record { keywords = []; split = refl; each = tt; once = tt }
fine-keywords identification n (r ∷ rs) h = by-test (blank_to 10 (bib_place r)) refl
  where
    by-test : (b : Bool) → blank_to 10 (bib_place r) ≡ b → Keywords [] (r ∷ rs)
    by-test true e = differ (rw e at h.1.keyword)
    by-test false e =
        begin [] [] [] r rs (record { same = λ f w. refl }) e h.1
        (λ w. group identification (n + 1) (r ∷ []) (r ∷ []) (bib_place r ∷ []) rs
        (place-word [] [] r (record { same = λ f w. refl })) (rw e at h.2))

pub fine-following : (identification : List ℕ) (n : ℕ) (before under rs : List Record)
    → TextsFine identification n before under rs → Following identification n rs
unfolding TextsFine Following
fine-following identification n before under [] h = tt
fine-following identification n before under (r ∷ rs) h =
    (h.0, fine-following identification (n + 1) (before ++ (r ∷ [])) (under_after under r) rs h.2)

-- ---- from keywords to records

more-fine : (identification : List ℕ) (n : ℕ) (before under : List Record) (places : List (List ℕ))
    (more rest : List Record) → 1 ≤ length before → Places before places → All NoKeyword more → All Text more
    → OnceBy same_pointer (pointers_in under) (pointers_in more) → Following identification n (more ++ rest)
    → ((n : ℕ) (before under : List Record) → 1 ≤ length before → Places before places → Following identification n rest
    → TextsFine identification n before under rest)
    → TextsFine identification n before under (more ++ rest)
unfolding TextsFine Following OnceBy
more-fine identification n before under places [] rest l p b t o m k = k n before under l p m
more-fine identification n before under places (r ∷ more) rest l p b t o m k = (
  m.0,
  record {
    other = t.0.no_system;
    keyword = rw (place-computed r b.0) (ne_eqb (length before) 0 (λ e. omega arith));
    pointer = (pointer-exactly (bib_place r)).1 t.0.pointer;
    repeated = rw (place-computed r b.0)
        (sym (any-and (not (is_blank (pointer_of (bib_place r)))) (eqb (pointer_of (bib_place r))) (pointers_in under))
        ∙ o.0);
  },
  rw (place-computed r b.0)
      (more-fine identification (n + 1) (before ++ (r ∷ [])) (under ++ (r ∷ [])) places more rest
      (rw length-append (omega arith)) (place-blank before places r b.0 p) b.1 t.1
      (rw (map-append (λ (x : Record). pointer_of (bib_place x)) under (r ∷ [])) o.1) m.1 k),
)

pub keywords-fine : (identification : List ℕ) (n : ℕ) (before under : List Record) (places : List (List ℕ))
    (ks : List Keyword) → Places before places → All GoodKeyword ks → OnceBy (equal_to 10) places (keyword_places ks)
    → Following identification n (texts_of ks) → TextsFine identification n before under (texts_of ks)
unfolding TextsFine Following OnceBy texts_of any_of
keywords-fine identification n before under places [] p each once m = tt
keywords-fine identification n before under places (k ∷ ks) p each once m =
    let g = each.0 in
    let w = (word-exactly 10 (bib_place k.first)).1 g.word in
    let pointers =
    said-once same_pointer SamePointer pointers-agree [] (pointers_in (k.first ∷ k.more)) g.pointers in
    let b = word_blank (bib_place k.first) w in (
      m.0,
      record {
        other = g.texts.0.no_system;
        keyword = rw (b, w, p.same (bib_place k.first) w) once.0;
        pointer = (pointer-exactly (bib_place k.first)).1 g.texts.0.pointer;
        repeated = rw b (no-and (not (is_blank (pointer_of (bib_place k.first)))));
      },
      rw b
          (more-fine identification (n + 1) (before ++ (k.first ∷ [])) (k.first ∷ [])
          (places ++ (bib_place k.first ∷ [])) k.more (texts_of ks) (rw length-append (omega arith))
          (place-word before places k.first p) g.blank g.texts.1 pointers.1 m.1
          (λ n before under l p m. keywords-fine identification n before under
          (places ++ (bib_place k.first ∷ [])) ks p
          each.1 once.1 m)),
    )
  where
    no-and : (a : Bool) → (a && false) ≡ false
    no-and true = refl
    no-and false = refl

-- ---- how many keywords

bearing-append : (xs ys : List Record) → All NoKeyword xs → bearing (xs ++ ys) ≡ bearing ys
unfolding bearing
bearing-append [] ys b = refl
bearing-append (x ∷ xs) ys b = rw (place-computed x b.0) (let e = bearing-append xs ys b.1 in omega arith)

pub bearing-keywords : (ks : List Keyword) → All GoodKeyword ks → bearing (texts_of ks) ≡ length ks
unfolding bearing texts_of
bearing-keywords [] g = refl
bearing-keywords (k ∷ ks) g =
    rw (word_blank (bib_place k.first) ((word-exactly 10 (bib_place k.first)).1 g.0.word))
    (let a = bearing-append k.more (texts_of ks) g.0.blank in
    let e = bearing-keywords ks g.1 in
    omega arith)

pub keywords-least : (ks : List Keyword) → length ks ≤ length (texts_of ks)
unfolding texts_of
keywords-least [] = omega arith
keywords-least (k ∷ ks) = let e = keywords-least ks in rw length-append (omega arith)

-- The headings of a section behind those of others, and the pointers that may be named: by the cells of the heading
-- records, unused ones too, as the judge looks at them, and by the lists of headings. Assumes nothing.
use Prim.Native.Nat.{ℕ, zero, suc, ◌+◌, ◌-◌, ◌*◌, ◌<◌, ◌≤◌}
use mathlib.Core.Path.{◌≡◌, sym, ◌∙◌, ap}
use mathlib.Core.Bool.{Bool, true, false}
use mathlib.Core.List.{List, [], ◌++◌}
use native.Mathlib.Omega.{arith}
use lib.Dec.{eqb}
use lib.ListN.{length}
use Rattle.laws.proofs.Booleans.{differ, cond-itself}
use Rattle.laws.proofs.Listing.{any-list, any-map, list_same, list-split, none_any}
use Rattle.laws.specs.Members.{list_of, any_of}
use Rattle.laws.specs.Walk.{All}
use Rattle.laws.specs.Blocks.{joined}
use Rattle.laws.proofs.Search.{either}
use Rattle.laws.proofs.Members.{any_append, list_at, list_length}
use Rattle.paper_record.specs.Text.{is_blank}
use Rattle.paper_record.specs.Word.{is_word, pointer_of}
use Rattle.paper_record.specs.Same.{SameColumns}
use Rattle.paper_rules.specs.Text.{pointers_of}
use Rattle.paper_rules.specs.Pointers.{heading_pointer_at, heading_pointers, pointers_for as pointers_seen}
use Rattle.rules_plain.specs.Places.{pointers_in, cell, pointers_on, Long}
use Rattle.rules_plain.specs.Repeated.{SameIn}
use Rattle.rules_plain.proofs.Lists.{pointers-joined}
use Rattle.rules_plain.proofs.Rows.{headings-in, pointer-cell}
use Rattle.rules_plain.proofs.Somewhere.{at_some, some_at, some_left, some_right, some-none}
use Rattle.good.specs.Parts.{Record}
use Rattle.good.specs.Tables.{Heading, BlankCell}
use Rattle.good.specs.Subentries.{heading_in, HeadingsFit}
use Rattle.paper_record.proofs.PlainColumns.{blank-exactly, equal-exactly, word-exactly}
use Rattle.paper_record.proofs.WordsAndBlanks.{heading-differs, blank-pointer}
use Rattle.good.proofs.Earlier.{Fits}

-- ---- headings

-- The judge compares a heading with every field of the earlier heading records, the definition with the headings alone.
-- The difference is the unused fields: they are blank, and a heading is a word, so it equals none of them.

-- heading records of n columns: the cells behind them are blank
pub record Shown (rows : List Record) (n : ℕ) : Type 0 where
  pub fits : n ≤ length rows * 6
  pub unused : (c : ℕ) → n ≤ c → c < length rows * 6 → BlankCell (cell rows c)

abbrev pub shown : List Record → ℕ → List (List ℕ)
shown rows n = list_of (cell rows) 0 n

-- ---- headings that fit, by places

shown-at : (rows : List Record) (n c : ℕ) → c < n → heading_in (shown rows n) c ≡ cell rows c
shown-at rows n c l = let z : 0 + c ≡ c = omega arith in list_at (cell rows) 0 n c [] l ∙ ap (cell rows) z

shown-length : (rows : List Record) (n : ℕ) → length (shown rows n) ≡ n
shown-length rows n = list_length (cell rows) 0 n

-- two headings of the list, and their cells
shown-same : (rows : List Record) (n c x : ℕ) → c < n → x < n
    → SameColumns 11 (heading_in (shown rows n) c) (heading_in (shown rows n) x) → SameColumns 11 (cell rows c) (cell rows x)
shown-same rows n c x l m e = rw (shown-at rows n c l, shown-at rows n x m) at e

same-shown : (rows : List Record) (n c x : ℕ) → c < n → x < n → SameColumns 11 (cell rows c) (cell rows x)
    → SameColumns 11 (heading_in (shown rows n) c) (heading_in (shown rows n) x)
same-shown rows n c x l m e = rw (shown-at rows n c l, shown-at rows n x m) e

same-turned : (a b : List ℕ) → SameColumns 11 a b → SameColumns 11 b a
same-turned a b p i l = sym (p i l)

same-on : (a b c : List ℕ) → SameColumns 11 a b → SameColumns 11 b c → SameColumns 11 a c
same-on a b c p q i l = p i l ∙ q i l

-- If each heading with an equal one before it is equal to its left neighbour, equal ones stand together: the neighbour
-- is equal to the earlier one too, and so on down to it.
module _ (own : ℕ → List ℕ) where
  abbrev Beside : ℕ → Type 0
  Beside c = (x : ℕ) → x < c → SameColumns 11 (own c) (own x) → SameColumns 11 (own c) (own (c - 1))

  stand-together : (c : ℕ) → ((x : ℕ) → x ≤ c → Beside x) → (b x : ℕ) → b < x → x < c
      → SameColumns 11 (own c) (own b) → SameColumns 11 (own c) (own x)
  stand-together zero h b x k l e = absurd (omega arith)
  stand-together (suc c) h b x k l e =
      let one : suc c - 1 ≡ c = omega arith in
      let left : SameColumns 11 (own (suc c)) (own c) = rw one at (h (suc c) (omega arith) b (omega arith) e) in
      either x c
      (λ m.
      same-on (own (suc c)) (own c) (own x) left
      (stand-together c (λ y i. h y (omega arith)) b x k m
      (same-on (own c) (own (suc c)) (own b) (same-turned (own (suc c)) (own c) left) e)))
      (λ m. let z : x ≡ c = omega arith in rw z left)

module _ (d : Bool) (first common rs : List Record) (n1 n2 n : ℕ) (s : Shown first n1) (t : Shown common n2) where
  abbrev others : List (List ℕ)
  others = shown first n1 ++ shown common n2

  -- a heading that equals a cell of the rows equals a heading of them, and the other way round
  shown-cell : (rows : List Record) (m : ℕ) → Shown rows m → (f : List ℕ)
      → ((x : ℕ) → x < length rows * 6 → SameColumns 11 f (cell rows x) → ⊥) → SameIn f (shown rows m) → ⊥
  shown-cell rows m a f h e =
      let l = a.fits in
      let k = shown-length rows m in
      let (x, i, p) = some_at (SameColumns 11 f) [] (shown rows m) e in
      h x (omega arith) (rw (shown-at rows m x (omega arith)) at p)

  cell-shown : (rows : List Record) (m : ℕ) → Shown rows m → (f : List ℕ) → is_word 10 f ≡ true
      → (SameIn f (shown rows m) → ⊥) → (x : ℕ) → x < length rows * 6 → SameColumns 11 f (cell rows x) → ⊥
  cell-shown rows m a f w h x l e =
      let k = shown-length rows m in
      either x m
      (λ i. h (at_some (SameColumns 11 f) [] (shown rows m) x (omega arith) (rw (shown-at rows m x i) e)))
      (λ i.
      differ
      (sym ((equal-exactly 11 f (cell rows x)).1 e)
      ∙ heading-differs f (cell rows x) w ((blank-exactly 11 (cell rows x)).1 (a.unused x i l))))

  -- the headings of a table, each of which fits behind those of two earlier ones
  pub fits_all : ((x : ℕ) → x < n → Fits d first common rs x) → HeadingsFit d others (shown rs n)
  fits_all h =
      let k = shown-length rs n in
      record {
        one_section = λ c l e.
            let m : c < n = omega arith in
            let f = cell rs c in
            some-none (shown first n1) (shown common n2)
            (shown-cell first n1 s f (h c m).in-first) (shown-cell common n2 t f (h c m).in-common)
            (rw (shown-at rs n c m) at e);
        listed = λ b c i l e.
            let m : c < n = omega arith in
            rw (shown-at rs n c m) ((h c m).listed b i (shown-same rs n c b m (omega arith) e));
        together = λ b x c i j l e.
            let m : c < n = omega arith in
            same-shown rs n c x m (omega arith)
            (stand-together (cell rs) c (λ y o. (h y (omega arith)).beside) b x i j
            (shown-same rs n c b m (omega arith) e));
      }

  pub all-fits : ((x : ℕ) → x < n → Heading (cell rs x)) → HeadingsFit d others (shown rs n)
      → (x : ℕ) → x < n → Fits d first common rs x
  all-fits words h c m =
      let k = shown-length rs n in
      let l : c < length (shown rs n) = omega arith in
      let f = cell rs c in
      let word = (word-exactly 10 f).1 (words c m).word in
      let apart : SameIn f others → ⊥ = λ e. h.one_section c l (rw (shown-at rs n c m) e) in
      record {
        in-first = cell-shown first n1 s f word (λ e. apart (some_left (shown first n1) (shown common n2) e));
        in-common = cell-shown common n2 t f word (λ e. apart (some_right (shown first n1) (shown common n2) e));
        listed = λ x i e. rw (shown-at rs n c m) at (h.listed x c i l (same-shown rs n c x m (omega arith) e));
        beside = λ x i e.
            either x (c - 1)
            (λ j.
            shown-same rs n c (c - 1) m (omega arith)
            (h.together x (c - 1) c j (omega arith) l (same-shown rs n c x m (omega arith) e)))
            (λ j. let z : x ≡ c - 1 = omega arith in rw z at e);
      }

-- ---- pointers

-- a pointer is found among all cells exactly where it is among the headings
heading-pointers : (rows : List Record) (n p : ℕ) → All Long rows → Shown rows n → is_blank p ≡ false
    → any_of (eqb p) (heading_pointers (joined rows)) ≡ any_of (eqb p) (pointers_on (shown rows n))
unfolding heading_pointers
heading-pointers rows n p a s h =
    let f = s.fits in
    let z : length rows * 6 ≡ n + (length rows * 6 - n) = omega arith in
    let at : ℕ → ℕ = λ k. pointer_of (cell rows k) in
    ap (λ (k : ℕ). any_of (eqb p) (list_of (heading_pointer_at (joined rows)) 0 k)) (headings-in rows a)
    ∙ ap (any_of (eqb p)) (list_same (heading_pointer_at (joined rows)) at 0 (length rows * 6)
    (λ k b c. pointer-cell rows k a (omega arith)))
    ∙ ap (λ (k : ℕ). any_of (eqb p) (list_of at 0 k)) z
    ∙ ap (any_of (eqb p)) (list-split at 0 n (length rows * 6 - n))
    ∙ any_append (eqb p) (list_of at 0 n) (list_of at (0 + n) (length rows * 6 - n))
    ∙ rw (none_any (eqb p) at (0 + n) (length rows * 6 - n)
    (λ k b c. blank-pointer (cell rows k) p
    ((blank-exactly 11 (cell rows k)).1 (s.unused k (omega arith) (omega arith))) h))
    (cond-itself (any_of (eqb p) (list_of at 0 n)) ∙ sym (any-list (eqb p) pointer_of (cell rows) 0 n)
    ∙ sym (any-map (eqb p) pointer_of (shown rows n)))

any_same : (p : ℕ) (a b c d : List ℕ) → any_of (eqb p) a ≡ any_of (eqb p) c → any_of (eqb p) b ≡ any_of (eqb p) d
    → any_of (eqb p) (a ++ b) ≡ any_of (eqb p) (c ++ d)
any_same p a b c d e f = any_append (eqb p) a b ∙ rw (e, f) (sym (any_append (eqb p) c d))

-- the pointers that the judge looks through, and those of the definition
pub pointers-same : (texts texts1 rows rows1 : List Record) (n n1 p : ℕ) → All Long texts → All Long texts1
    → All Long rows → All Long rows1 → Shown rows n → Shown rows1 n1 → is_blank p ≡ false
    → any_of (eqb p) (pointers_seen (joined texts) (joined texts1) (joined rows) (joined rows1))
    ≡ any_of (eqb p) (pointers_in texts ++ (pointers_in texts1 ++
    (pointers_on (shown rows n) ++ pointers_on (shown rows1 n1))))
unfolding pointers_seen
pointers-same texts texts1 rows rows1 n n1 p a b c d s t h =
    any_same p (pointers_of (joined texts))
    (pointers_of (joined texts1) ++ (heading_pointers (joined rows) ++ heading_pointers (joined rows1)))
    (pointers_in texts) (pointers_in texts1 ++ (pointers_on (shown rows n) ++ pointers_on (shown rows1 n1)))
    (ap (any_of (eqb p)) (pointers-joined texts a))
    (any_same p (pointers_of (joined texts1)) (heading_pointers (joined rows) ++ heading_pointers (joined rows1))
    (pointers_in texts1) (pointers_on (shown rows n) ++ pointers_on (shown rows1 n1))
    (ap (any_of (eqb p)) (pointers-joined texts1 b))
    (any_same p (heading_pointers (joined rows)) (heading_pointers (joined rows1)) (pointers_on (shown rows n))
    (pointers_on (shown rows1 n1)) (heading-pointers rows n p c s h) (heading-pointers rows1 n1 p d t h)))

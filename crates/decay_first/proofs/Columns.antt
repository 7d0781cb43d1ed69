-- The columns of a record up to the last that is filled, as the paper has them and as the scan cuts them.
-- Assumes nothing.
use mathlib.Core.Path.{◌≡◌, refl, sym, ap, ◌∙◌, subst}
use mathlib.Core.Bool.{Bool, true, false}
use mathlib.Core.List.{List, [], ◌∷◌, ◌++◌, append_assoc, append-nil}
use mathlib.Core.Logic.{◌⊎◌, inl, inr}
use Prim.Native.Nat.{ℕ, zero, suc, ◌+◌, ◌-◌, ◌*◌, ◌≤◌, ◌<◌}
use native.Mathlib.Omega.{arith}
use borrow.Author.Tests.{ltb-true, ltb-false}
use lib.Dec.{ltb}
use lib.ListN.{length, get_or, take, drop, length-append, length-drop, length-replicate, get_or-replicate}
use lib.Seq.{length-take-le, take-append-add, get_or-append_seam, get_or-append-add, get_or-take, get_or-drop, take-take}
use Rattle.paper_number.specs.Grammar.{blanks}
use Rattle.paper_decay.specs.Records.{text_at, filled_to}
use Rattle.paper_decay.proofs.Ends.{filled-last, Last, Bare, last_of}
use Rattle.paper_decay_run.specs.Text.{filled_text, filled_texts, text_to}
use Rattle.decay_first.specs.Faults.{char_at, LastFilled, BlankRecord}
use Rattle.decay_first.specs.Claims.{TextPlain}

-- the record i stands whole in the entry
abbrev pub Stands : List ℕ → ℕ → Type 0
Stands s i = i * 81 + 81 ≤ length s

-- ---- one column

wide : (s : List ℕ) (i : ℕ) → Stands s i → length (text_at s i) ≡ 55
wide s i h =
    let d : length (drop (i * 81 + 11) s) ≡ length s - (i * 81 + 11) = length-drop (i * 81 + 11) s in
    length-take-le 55 (drop (i * 81 + 11) s) (omega arith)

char-text : (s : List ℕ) (i j : ℕ) → j < 55 → char_at s i (j + 12) ≡ get_or (text_at s i) j 0
char-text s i j h =
    let e : i * 81 + (j + 12 - 1) ≡ i * 81 + 11 + j = omega arith in
    ap (λ (k : ℕ). get_or s k 0) e ∙ sym (get_or-drop (i * 81 + 11) s j 0) ∙ sym (get_or-take 55 (drop (i * 81 + 11) s) j 0 h)

-- ---- the last that is filled

last-once : (s : List ℕ) (i c d : ℕ) → LastFilled s i c → LastFilled s i d → c ≡ d
last-once s i c d p q = by_less (ltb c d) (ltb d c) refl refl
  where
    by_less : (x y : Bool) → ltb c d ≡ x → ltb d c ≡ y → c ≡ d
    by_less true y e f = absurd (q.filled (p.blank d (ltb-true c d e) q.high))
    by_less false true e f = absurd (p.filled (q.blank c (ltb-true d c f) p.high))
    by_less false false e f = let a = ltb-false c d e in let b = ltb-false d c f in omega arith

module _ (s : List ℕ) (i : ℕ) (h : Stands s i) (t : List ℕ) (x k : ℕ) (n : x ≡ 32 → ⊥)
    (same : t ++ (x ∷ blanks k) ≡ text_at s i) where
  room : length t + suc k ≡ 55
  room =
      let b : length (blanks k) ≡ k = length-replicate k 32 in
      let a = length-append t (x ∷ blanks k) in
      let w = wide s i h in
      let e : length (t ++ (x ∷ blanks k)) ≡ length (text_at s i) = ap length same in
      omega arith

  last-char : char_at s i (length t + 12) ≡ x
  last-char =
      let r = room in
      char-text s i (length t) (omega arith) ∙ ap (λ (l : List ℕ). get_or l (length t) 0) (sym same)
      ∙ get_or-append_seam t x (blanks k) 0

  behind-char : (c : ℕ) → length t + 12 < c → c ≤ 66 → char_at s i c ≡ 32
  behind-char c a b =
      let r = room in
      let m = c - 13 - length t in
      let e : c ≡ length t + suc m + 12 = omega arith in
      ap (char_at s i) e ∙ char-text s i (length t + suc m) (omega arith)
      ∙ ap (λ (l : List ℕ). get_or l (length t + suc m) 0) (sym same)
      ∙ get_or-append-add t (x ∷ blanks k) (suc m) 0
      ∙ get_or-replicate k m 32 0 (omega arith)

  last-filled : LastFilled s i (length t + 12)
  last-filled =
      let r = room in
      record {
        low = omega arith;
        high = omega arith;
        filled = λ e. n (sym last-char ∙ e);
        blank = behind-char;
      }

-- ---- a blank record

bare-blank : (s : List ℕ) (i : ℕ) → Stands s i → Bare (text_at s i) → BlankRecord s i
bare-blank s i h r c a b =
    let k : length (blanks r.wide) ≡ r.wide = length-replicate r.wide 32 in
    let w = wide s i h in
    let e : length (blanks r.wide) ≡ length (text_at s i) = ap length r.same in
    let f : c ≡ c - 12 + 12 = omega arith in
    ap (char_at s i) f ∙ char-text s i (c - 12) (omega arith)
    ∙ ap (λ (l : List ℕ). get_or l (c - 12) 0) (sym r.same)
    ∙ get_or-replicate r.wide (c - 12) 32 0 (omega arith)

pub blank-bare : (s : List ℕ) (i : ℕ) → Stands s i → BlankRecord s i → Bare (text_at s i)
blank-bare s i h b = by_last (last_of (text_at s i))
  where
    by_last : Bare (text_at s i) ⊎ Last (text_at s i) → Bare (text_at s i)
    by_last (inl r) = r
    by_last (inr r) =
        let f = last-filled s i h r.before r.last r.rest r.filled r.same in
        absurd (f.filled (b (length r.before + 12) f.low f.high))

-- ---- the cut behind it

pub record Cut (s : List ℕ) (i column : ℕ) : Type 0 where
  pub before : List ℕ
  pub last : ℕ
  pub rest : ℕ
  pub filled : last ≡ 32 → ⊥
  pub same : before ++ (last ∷ blanks rest) ≡ text_at s i
  pub place : length before + 12 ≡ column
  pub char : char_at s i column ≡ last
  pub ends : LastFilled s i column

cut-at : (s : List ℕ) (i : ℕ) → Stands s i → (r : Last (text_at s i)) → Cut s i (length r.before + 12)
cut-at s i h r =
    record {
      before = r.before;
      last = r.last;
      rest = r.rest;
      filled = r.filled;
      same = r.same;
      place = refl;
      char = last-char s i h r.before r.last r.rest r.filled r.same;
      ends = last-filled s i h r.before r.last r.rest r.filled r.same;
    }

pub cut : (s : List ℕ) (i column : ℕ) → Stands s i → LastFilled s i column → Cut s i column
cut s i column h f = by_last (last_of (text_at s i))
  where
    by_last : Bare (text_at s i) ⊎ Last (text_at s i) → Cut s i column
    by_last (inl r) = absurd (f.filled (bare-blank s i h r column f.low f.high))
    by_last (inr r) =
        let c = cut-at s i h r in
        subst (Cut s i) (last-once s i (length r.before + 12) column c.ends f) c

-- a record is blank, or is cut somewhere
pub record Somewhere (s : List ℕ) (i : ℕ) : Type 0 where
  pub column : ℕ
  pub there : Cut s i column

pub blank-or-cut : (s : List ℕ) (i : ℕ) → Stands s i → BlankRecord s i ⊎ Somewhere s i
blank-or-cut s i h = by_last (last_of (text_at s i))
  where
    by_last : Bare (text_at s i) ⊎ Last (text_at s i) → BlankRecord s i ⊎ Somewhere s i
    by_last (inl r) = inl (bare-blank s i h r)
    by_last (inr r) = inr (record { column = length r.before + 12; there = cut-at s i h r })

-- ---- its text

module _ (s : List ℕ) (i column : ℕ) (c : Cut s i column) where
  abbrev pub body : List ℕ
  body = c.before ++ (c.last ∷ [])

  pub body-text : filled_text s i ≡ body
  body-text =
      let l = c.before ++ (c.last ∷ blanks c.rest) in
      ap (λ (m : List ℕ). take (filled_to m) m) (sym c.same)
      ∙ ap (λ (n : ℕ). take n l) (filled-last c.before c.last c.rest c.filled)
      ∙ take-append-add c.before (c.last ∷ blanks c.rest) 1

  pub body-to : (j : ℕ) → j ≤ length c.before + 1 → text_to s i (j + 11) ≡ take j body
  body-to j h =
      let l = c.before ++ (c.last ∷ blanks c.rest) in
      let e : j + 11 - 11 ≡ j = omega arith in
      ap (λ (n : ℕ). take n (text_at s i)) e ∙ ap (take j) (sym c.same)
      ∙ sym (take-take j (length c.before + 1) l h)
      ∙ ap (take j) (take-append-add c.before (c.last ∷ blanks c.rest) 1)

  -- and all of it
  pub body-whole : text_to s i column ≡ body
  body-whole =
      let y = c.place in
      let e : column ≡ length c.before + 1 + 11 = omega arith in
      ap (text_to s i) e ∙ body-to (length c.before + 1) (omega arith) ∙ take-append-add c.before (c.last ∷ []) 1

pub text-plain : TextPlain
text-plain s i column h f =
    let w = h.whole in
    let k = cut s i column (omega arith) f in
    body-text s i column k ∙ sym (body-whole s i column k)

-- ---- over the records

pub texts-more : (k : ℕ) (s : List ℕ) (i : ℕ) → filled_texts s i (suc k) ≡ filled_texts s i k ++ filled_text s (i + k)
texts-more zero s i =
    let e : i + 0 ≡ i = omega arith in
    append-nil (filled_text s i) ∙ ap (filled_text s) (sym e)
texts-more (suc k) s i =
    let e : i + 1 + k ≡ i + suc k = omega arith in
    ap (λ (l : List ℕ). filled_text s i ++ l) (texts-more k s (i + 1) ∙ ap (λ (j : ℕ). filled_texts s (i + 1) k ++ filled_text s j) e)
    ∙ sym (append_assoc (filled_text s i) (filled_texts s (i + 1) k) (filled_text s (i + suc k)))

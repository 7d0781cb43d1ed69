-- One record, from where the scan stands before it: what the turn gives, told by the columns.
-- Assumes nothing.
use mathlib.Core.Path.{◌≡◌, refl, sym, ap, ◌∙◌, subst}
use mathlib.Core.Bool.{Bool, true, false}
use mathlib.Core.List.{List, [], ◌∷◌, ◌++◌}
use mathlib.Core.Logic.{◌⊎◌, inl, inr}
use Prim.Native.Nat.{ℕ, suc, ◌+◌, ◌-◌, ◌≤◌, ◌<◌}
use native.Mathlib.Omega.{arith}
use borrow.Author.Tests.{eqb-true, eqb-false}
use lib.Dec.{eqb}
use lib.ListN.{length, take, length-append}
use Rattle.laws.specs.Turns.{go, out}
use Rattle.paper_number.specs.Grammar.{blanks}
use Rattle.paper_decay.specs.declared.types.Scan.{Scan}
use Rattle.paper_decay.specs.Scan.{nowhere}
use Rattle.paper_decay.specs.Records.{text_at, said, turned_out, turned_on, behind_text, turned_of, record_turn}
use Rattle.paper_decay.proofs.Steps.{steps}
use Rattle.paper_decay.proofs.Closed.{scan_from, Settled}
use Rattle.paper_decay.proofs.Stopping.{Stuck, from-stuck, stuck_at}
use Rattle.paper_decay.proofs.Found.{from-going, going-from, from_settled, turned-blank, turned-last, text-5, text-6, text-51}
use Rattle.paper_decay.proofs.Found.{out-turn, on-turn, break-record}
use Rattle.paper_decay_run.specs.Text.{filled_text, text_to}
use Rattle.decay_first.specs.Faults.{char_at, LastFilled, BlankRecord, Breaks}
use Rattle.decay_first.proofs.Columns.{Stands, blank-bare, Cut, cut, Somewhere, blank-or-cut, body, body-text}
use Rattle.decay_first.proofs.Columns.{body-to, body-whole}

module _ (s : List ℕ) (i : ℕ) (h : Stands s i) (c : Scan) (g : c.place < 5) where
  -- ---- told by the columns, what the turn gives

  pub turn-blank : BlankRecord s i → record_turn s c i ≡ out (said 50 i 12)
  turn-blank b =
      let r = blank-bare s i h b in
      out-turn s c i (said 50 i 12)
      (ap (λ (m : List ℕ). turned_of c m i) (sym r.same) ∙ turned-blank c r.wide i)

  -- the turn goes by the text up to the last filled column
  behind : (column : ℕ) (k : Cut s i column)
      → turned_of c (text_at s i) i ≡ behind_text (scan_from c (body s i column k) 0) i (length k.before + 1) k.last
  behind column k =
      ap (λ (m : List ℕ). turned_of c m i) (sym k.same)
      ∙ turned-last c k.before k.last k.rest i k.filled

  body-wide : (column : ℕ) (k : Cut s i column) → length (body s i column k) ≡ length k.before + 1
  body-wide column k = length-append k.before (k.last ∷ [])

  pub turn-50 : (column last : ℕ) → 12 ≤ column → LastFilled s i last → column ≤ last
      → (steps c (text_to s i (column - 1))).place < 5 → steps c (text_to s i column) ≡ nowhere
      → record_turn s c i ≡ out (said 50 i column)
  turn-50 column last l f m p q =
      let k = cut s i last h f in
      let y = k.place in
      let w = body-wide last k in
      let j = column - 12 in
      let e : column - 1 ≡ j + 11 = omega arith in
      let e₁ : column ≡ suc j + 11 = omega arith in
      let p₁ : (steps c (take j (body s i last k))).place < 5 =
      subst (λ (t : List ℕ). (steps c t).place < 5) (ap (text_to s i) e ∙ body-to s i last k j (omega arith)) p in
      let q₁ : steps c (take (suc j) (body s i last k)) ≡ nowhere =
      ap (steps c) (sym (ap (text_to s i) e₁ ∙ body-to s i last k (suc j) (omega arith))) ∙ q in
      let (a, b) = stuck_at (body s i last k) c 0 j g (omega arith) p₁ q₁ in
      let n : (scan_from c (body s i last k) 0).at + 12 ≡ column = omega arith in
      out-turn s c i (said 50 i column)
      (behind last k ∙ text-6 (scan_from c (body s i last k) 0) i (length k.before + 1) k.last a
      ∙ ap (λ (d : ℕ). turned_out (said 50 i d)) n)

  pub turn-51 : (column : ℕ) → LastFilled s i column → (char_at s i column ≡ 44 → ⊥) → (steps c (text_to s i column)).place < 5
      → record_turn s c i ≡ out (said 51 i column)
  turn-51 column f n p =
      let k = cut s i column h f in
      let y = k.place in
      let p₁ : (steps c (body s i column k)).place < 5 = subst (λ (t : List ℕ). (steps c t).place < 5) (body-whole s i column k) p in
      let r = going-from (body s i column k) c 0 g p₁ in
      let d : length k.before + 1 + 11 ≡ column = omega arith in
      out-turn s c i (said 51 i column)
      (behind column k
      ∙ text-51 (scan_from c (body s i column k) 0) i (length k.before + 1) k.last
      (subst (λ (x : Scan). x.place < 5) (sym r) p₁) (λ z. n (k.char ∙ z))
      ∙ ap (λ (m : ℕ). turned_out (said 51 i m)) d)

  pub turn_on : Breaks s i → (steps c (filled_text s i)).place < 5 → record_turn s c i ≡ go (steps c (filled_text s i))
  turn_on b p =
      let k = cut s i b.column h b.last in
      let e : k.last ≡ 44 = sym k.char ∙ b.comma in
      let t : filled_text s i ≡ k.before ++ (44 ∷ []) = body-text s i b.column k ∙ ap (λ (x : ℕ). k.before ++ (x ∷ [])) e in
      let a : text_at s i ≡ k.before ++ (44 ∷ blanks k.rest) = sym k.same ∙ ap (λ (x : ℕ). k.before ++ (x ∷ blanks k.rest)) e in
      on-turn s c (steps c (filled_text s i)) i
      (ap (λ (m : List ℕ). turned_of c m i) a
      ∙ break-record c k.before k.rest i g (subst (λ (m : List ℕ). (steps c m).place < 5) t p)
      ∙ ap (λ (m : List ℕ). turned_on (steps c m)) (sym t))

-- ---- of each record one of these holds

pub data Met (s : List ℕ) (i : ℕ) (c : Scan) : Type 0 where
  closes : (column : ℕ) → record_turn s c i ≡ out (said 0 i column) → Met s i c
  empty : BlankRecord s i → Met s i c
  stops : (column last : ℕ) → 12 ≤ column → LastFilled s i last → column ≤ last
      → (steps c (text_to s i (column - 1))).place < 5 → steps c (text_to s i column) ≡ nowhere → Met s i c
  other : (column : ℕ) → LastFilled s i column → (char_at s i column ≡ 44 → ⊥) → (steps c (text_to s i column)).place < 5
      → Met s i c
  onward : Breaks s i → (steps c (filled_text s i)).place < 5 → Met s i c

stops-cut : (s : List ℕ) (i : ℕ) (c : Scan) (column : ℕ) (k : Cut s i column)
    → Stuck c (body s i column k) 0 (scan_from c (body s i column k) 0) → Met s i c
stops-cut s i c column k r =
    let w = length-append k.before (k.last ∷ []) in
    let y = k.place in
    let l = r.less in
    let d = r.count + 12 in
    let e : d - 1 ≡ r.count + 11 = omega arith in
    let f : d ≡ suc r.count + 11 = omega arith in
    stops d column (omega arith) k.ends (omega arith)
    (subst (λ (t : List ℕ). (steps c t).place < 5) (sym (ap (text_to s i) e ∙ body-to s i column k r.count (omega arith)))
    r.going)
    (ap (steps c) (ap (text_to s i) f ∙ body-to s i column k (suc r.count) (omega arith)) ∙ r.none)

cut-met : (s : List ℕ) (i : ℕ) → Stands s i → (c : Scan) → c.place < 5 → (column : ℕ) → Cut s i column → Met s i c
cut-met s i h c g column k = by-settled (from_settled (body s i column k) c 0 g) (eqb k.last 44) refl
  where
    goes : (scan_from c (body s i column k) 0).scan.place < 5 → (steps c (body s i column k)).place < 5
    goes p = subst (λ (x : Scan). x.place < 5) (from-going (body s i column k) c 0 g p) p

    by-settled : Settled (scan_from c (body s i column k) 0).scan → (p : Bool) → eqb k.last 44 ≡ p → Met s i c
    by-settled (inl p) true e =
        onward (record { column = column; last = k.ends; comma = k.char ∙ eqb-true k.last 44 e })
        (subst (λ (t : List ℕ). (steps c t).place < 5) (sym (body-text s i column k)) (goes p))
    by-settled (inl p) false e =
        other column k.ends (λ z. eqb-false k.last 44 e (sym k.char ∙ z))
        (subst (λ (t : List ℕ). (steps c t).place < 5) (sym (body-whole s i column k)) (goes p))
    by-settled (inr (inl q)) p e =
        stops-cut s i c column k (from-stuck (body s i column k) c 0 g (ap (λ (x : Scan). x.place) q))
    by-settled (inr (inr q)) p e =
        let x = scan_from c (body s i column k) 0 in
        closes (x.at + 12)
        (out-turn s c i (said 0 i (x.at + 12))
        (behind s i h c g column k
        ∙ text-5 x i (length k.before + 1) k.last (ap (λ (y : Scan). y.place) q)))

pub met : (s : List ℕ) (i : ℕ) → Stands s i → (c : Scan) → c.place < 5 → Met s i c
met s i h c g = by-cut (blank-or-cut s i h)
  where
    by-cut : BlankRecord s i ⊎ Somewhere s i → Met s i c
    by-cut (inl b) = empty b
    by-cut (inr r) = cut-met s i h c g r.column r.there

-- What a record without fault changes of the context, by its role: inside a subentry, little.
-- Assumes nothing.
use Prim.Native.Nat.{ℕ, ◌+◌}
use mathlib.Core.Path.{◌≡◌, refl, ◌∙◌, ap}
use native.Mathlib.Omega.{arith}
use Rattle.paper_rules.specs.declared.types.Totals.{Totals}
use Rattle.paper_rules.specs.declared.types.Subentry.{Subentry}
use Rattle.paper_rules.specs.State.{Context}

-- from the context c to d: so many records, keywords, lines and numbers more, of the same subentry
pub record Moved (c d : Context) (n k l m : ℕ) : Type 0 where
  pub accession : d.track.accession ≡ c.track.accession
  pub number : d.track.subentry.number ≡ c.track.subentry.number
  pub records : d.track.subentry.records ≡ c.track.subentry.records + n
  pub subentries : d.track.totals.subentries ≡ c.track.totals.subentries
  pub keywords : d.track.totals.keywords ≡ c.track.totals.keywords + k
  pub lines : d.track.totals.lines ≡ c.track.totals.lines + l
  pub numbers : d.track.totals.numbers ≡ c.track.totals.numbers + m
  pub bib001 : d.seen.bib001 ≡ c.seen.bib001
  pub common001 : d.seen.common001 ≡ c.seen.common001

pub still : (c : Context) → Moved c c 0 0 0 0
still c =
    record {
      accession = refl;
      number = refl;
      records = omega arith;
      subentries = refl;
      keywords = omega arith;
      lines = omega arith;
      numbers = omega arith;
      bib001 = refl;
      common001 = refl;
    }

pub moved_on : {c d e : Context} {n k l m n' k' l' m' : ℕ} → Moved c d n k l m → Moved d e n' k' l' m'
    → Moved c e (n + n') (k + k') (l + l') (m + m')
moved_on a b =
    record {
      accession = b.accession ∙ a.accession;
      number = b.number ∙ a.number;
      records = let x = a.records in let y = b.records in omega arith;
      subentries = b.subentries ∙ a.subentries;
      keywords = let x = a.keywords in let y = b.keywords in omega arith;
      lines = let x = a.lines in let y = b.lines in omega arith;
      numbers = let x = a.numbers in let y = b.numbers in omega arith;
      bib001 = b.bib001 ∙ a.bib001;
      common001 = b.common001 ∙ a.common001;
    }

pub recount : {c d : Context} {n k l m : ℕ} (n' k' l' m' : ℕ) → Moved c d n k l m → n ≡ n' → k ≡ k' → l ≡ l' → m ≡ m'
    → Moved c d n' k' l' m'
recount n' k' l' m' a en ek el em =
    record {
      accession = a.accession;
      number = a.number;
      records = let x = a.records in omega arith;
      subentries = a.subentries;
      keywords = let x = a.keywords in omega arith;
      lines = let x = a.lines in omega arith;
      numbers = let x = a.numbers in omega arith;
      bib001 = a.bib001;
      common001 = a.common001;
    }

-- one record more, and nothing else counted
pub quiet : {c e : Context} → e.track.accession ≡ c.track.accession
    → e.track.subentry ≡ record { number = c.track.subentry.number; records = c.track.subentry.records + 1 }
    → e.track.totals ≡ c.track.totals → e.seen.bib001 ≡ c.seen.bib001 → e.seen.common001 ≡ c.seen.common001
    → Moved c e 1 0 0 0
quiet a s t b d =
    let k = ap (λ (x : Totals). x.keywords) t in
    let l = ap (λ (x : Totals). x.lines) t in
    let n = ap (λ (x : Totals). x.numbers) t in
    record {
      accession = a;
      number = ap (λ (x : Subentry). x.number) s;
      records = ap (λ (x : Subentry). x.records) s;
      subentries = ap (λ (x : Totals). x.subentries) t;
      keywords = omega arith;
      lines = omega arith;
      numbers = omega arith;
      bib001 = b;
      common001 = d;
    }

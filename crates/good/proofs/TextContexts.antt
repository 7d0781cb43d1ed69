-- The text records of a BIB section: which are due, and the context behind them. Assumes nothing.
use Prim.Native.Nat.{ℕ, suc, ◌+◌}
use mathlib.Core.Path.{◌≡◌, refl, sym, ◌∙◌, ap}
use mathlib.Core.Bool.{Bool, true, false, cond}
use mathlib.Core.List.{List, [], ◌∷◌, ◌++◌, append-nil, append_assoc}
use native.Mathlib.Omega.{arith}
use lib.Dec.{eqb}
use lib.ListN.{length, get_or}
use borrow.Author.Tests.{eqb-true, eq-eqb, ne_eqb}
use Rattle.laws.proofs.Booleans.{differ}
use Rattle.laws.specs.Blocks.{joined}
use Rattle.paper_record.specs.Fields.{fields_of}
use Rattle.paper_record.proofs.ReadColumns.{field-of}
use Rattle.paper_record.specs.Word.{blank_to}
use Rattle.paper_record.specs.Identifier.{OTHER}
use Rattle.paper_rules.specs.declared.types.Phase.TheVariants.{InBib}
use Rattle.paper_rules.specs.State.{Context}
use Rattle.paper_rules.specs.Roles.{TEXT, NOT-DUE}
use Rattle.paper_rules.specs.Role.{role_in, bib_role}
use Rattle.paper_entry.specs.Next.{context_after}
use Rattle.paper_entry.specs.Due.{phase_after}
use Rattle.paper_entry.specs.Counted.{track_after, after_inside}
use Rattle.paper_entry.specs.Tally.{text_read}
use Rattle.paper_entry.specs.Parts.{seen_after, part_after, bib_change}
use Rattle.paper_entry.specs.Judging.{role_of}
use Rattle.paper_entry.specs.Verdict.{is_done}
use Rattle.rules_plain.specs.Places.{bib_place}
use Rattle.good.specs.Parts.{Record}
use Rattle.good.specs.Marks.{name_of}
use Rattle.good.proofs.Steps.{Takes, next, Passes}
use Rattle.good.proofs.Runs.{role-at, Run, after_run, pass-run, run-pass, run-left}
use Rattle.good.proofs.Moves.{Moved, still, moved_on, recount}

-- ---- which records are due

abbrev pub Other : Record → Type 0
Other r = name_of r ≡ OTHER

pub record InText (c : Context) (n : ℕ) : Type 0 where
  pub phase : c.phase ≡ InBib
  pub left : c.track.section + n ≡ c.track.bib.records

text-role : (c : Context) (n : ℕ) (r : Record) → InText c (suc n)
    → role_of c r ≡ cond (eqb (name_of r) OTHER) TEXT NOT-DUE
unfolding role_in bib_role
text-role c n r l =
    let h = l.left in
    role-at c InBib r l.phase
    ∙ rw (ne_eqb c.track.section c.track.bib.records (λ e. omega arith))

text-told : (c : Context) (n : ℕ) (r : Record) → InText c (suc n) → eqb (role_of c r) NOT-DUE ≡ false → Other r
text-told c n r l e = by-test (eqb (name_of r) OTHER) refl (rw (text-role c n r l) at e)
  where
    by-test : (b : Bool) → eqb (name_of r) OTHER ≡ b → eqb (cond b TEXT NOT-DUE) NOT-DUE ≡ false → Other r
    by-test true q h = eqb-true (name_of r) OTHER q
    by-test false q h = differ h

text-is : (c : Context) (n : ℕ) (r : Record) → InText c (suc n) → Other r → role_of c r ≡ TEXT
text-is c n r l e = text-role c n r l ∙ rw (eq-eqb (name_of r) OTHER e)

text-open : (c : Context) (n : ℕ) → InText c (suc n) → is_done c.phase ≡ false
text-open c n l = ap is_done l.phase

-- ---- the context behind a text record

-- a keyword, or none
abbrev pub bears : Record → ℕ
bears r = cond (blank_to 10 (bib_place r)) 0 1

pub record AfterText (c d : Context) (n k : ℕ) (records : List ℕ) : Type 0 where
  pub moved : Moved c d n k 0 0
  pub section : d.track.section ≡ c.track.section + n
  pub met : d.track.bib.met ≡ c.track.bib.met + k
  pub announced : d.track.bib.keywords ≡ c.track.bib.keywords
  pub long : d.track.bib.records ≡ c.track.bib.records
  pub bib : d.seen.bib ≡ c.seen.bib ++ records
  pub common : d.seen.common ≡ c.seen.common
  pub phase : c.phase ≡ InBib → d.phase ≡ InBib

pub after_text : (c : Context) (r : Record) → AfterText c (next c TEXT r) 1 (bears r) r
unfolding context_after phase_after track_after after_inside text_read seen_after part_after bib_change
after_text c r = by-test (blank_to 10 (bib_place r)) (ap (blank_to 10) (field-of r 0 (omega arith)))
  where
    by-test : (b : Bool) → blank_to 10 (get_or (fields_of r) 0 []) ≡ b → AfterText c (next c TEXT r) 1 (cond b 0 1) r
    by-test true e =
        record {
          moved = record {
            accession = rw e;
            number = rw e;
            records = rw e;
            subentries = rw e;
            keywords = rw e (omega arith);
            lines = rw e (omega arith);
            numbers = rw e (omega arith);
            bib001 = refl;
            common001 = refl;
          };
          section = rw e;
          met = rw e (omega arith);
          announced = rw e;
          long = rw e;
          bib = refl;
          common = refl;
          phase = λ h. refl;
        }
    by-test false e =
        record {
          moved = record {
            accession = rw e;
            number = rw e;
            records = rw e;
            subentries = rw e;
            keywords = rw e;
            lines = rw e (omega arith);
            numbers = rw e (omega arith);
            bib001 = refl;
            common001 = refl;
          };
          section = rw e;
          met = rw e;
          announced = rw e;
          long = rw e;
          bib = refl;
          common = refl;
          phase = λ h. refl;
        }

text-moves : (c : Context) (n : ℕ) (r : Record) → InText c (suc n) → Takes c TEXT r → InText (next c TEXT r) n
text-moves c n r l t =
    let a = after_text c r in
    let s = a.section in
    let k = a.long in
    let h = l.left in
    record { phase = a.phase l.phase; left = omega arith }

unfoldable pub bearing : List Record → ℕ
bearing [] = 0
bearing (r ∷ rs) = bears r + bearing rs

pub after-texts : (c : Context) (rs : List Record)
    → AfterText c (after_run TEXT c rs) (length rs) (bearing rs) (joined rs)
unfolding after_run bearing joined
after-texts c [] =
    record {
      moved = still c;
      section = omega arith;
      met = omega arith;
      announced = refl;
      long = refl;
      bib = sym (append-nil c.seen.bib);
      common = refl;
      phase = λ h. h;
    }
after-texts c (r ∷ rs) =
    let a = after_text c r in
    let b = after-texts (next c TEXT r) rs in
    record {
      moved = recount (suc (length rs)) (bears r + bearing rs) 0 0 (moved_on a.moved b.moved)
          (omega arith) refl refl refl;
      section = let x = a.section in let y = b.section in omega arith;
      met = let x = a.met in let y = b.met in omega arith;
      announced = b.announced ∙ a.announced;
      long = b.long ∙ a.long;
      bib = b.bib ∙ ap (λ (w : List ℕ). w ++ joined rs) a.bib ∙ append_assoc c.seen.bib r (joined rs);
      common = b.common ∙ a.common;
      phase = λ h. b.phase (a.phase h);
    }

pub pass-texts : {X : Type 0} (n : ℕ) (c : Context) (rs : List Record) (z : Context) → InText c n
    → is_done z.phase ≡ true → Passes c rs z
    → ((xs ys : List Record) → rs ≡ xs ++ ys → length xs ≡ n → Run Other TEXT c xs → InText (after_run TEXT c xs) 0
    → Passes (after_run TEXT c xs) ys z → X) → X
pass-texts = pass-run Other TEXT InText text-open text-told text-is text-moves

pub texts-pass : (n : ℕ) (c : Context) (xs ys : List Record) (z : Context) → InText c n → length xs ≡ n
    → Run Other TEXT c xs → Passes (after_run TEXT c xs) ys z → Passes c (xs ++ ys) z
texts-pass = run-pass Other TEXT InText text-open text-told text-is text-moves

pub texts-left : (n : ℕ) (c : Context) (xs : List Record) → InText c n → length xs ≡ n → Run Other TEXT c xs
    → InText (after_run TEXT c xs) 0
texts-left = run-left Other TEXT InText text-open text-told text-is text-moves

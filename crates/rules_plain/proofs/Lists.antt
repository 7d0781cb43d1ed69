-- Records one behind the other, and what stands at the same place of each. Assumes nothing.
use Prim.Native.Nat.{ℕ, ◌+◌, ◌*◌, ◌/◌, ◌<◌}
use mathlib.Core.Path.{◌≡◌, refl, sym, ◌∙◌, ap}
use mathlib.Core.List.{List, [], ◌∷◌, ◌++◌, map}
use native.Mathlib.Omega.{arith}
use lib.ListN.{length, get_or, take, drop, get_or-append}
use lib.Seq.{take-append-le, drop-append-add, get_or-append-add, get_or-take}
use Rattle.laws.proofs.Listing.{list-shift}
use Rattle.laws.specs.Members.{list_of}
use Rattle.laws.specs.Walk.{All}
use Rattle.laws.specs.Blocks.{joined}
use Rattle.laws.proofs.Blocks.{length-joined}
use Rattle.paper_record.specs.Word.{pointer_of}
use Rattle.paper_rules.specs.Text.{place_in_part, places_of, pointer_at, pointers_of}
use Rattle.paper_rules.specs.Record.{Record}
use Rattle.rules_plain.specs.Places.{Long, bib_place, pointers_in}

-- what f finds at each record of a part, where it goes from record to record and finds g at the first
module _ {A : Type 0} (f : List ℕ → ℕ → A) (g : Record → A)
    (here : (r part : List ℕ) → length r ≡ 81 → f (r ++ part) 0 ≡ g r)
    (there : (r part : List ℕ) (k : ℕ) → length r ≡ 81 → f (r ++ part) (k + 1) ≡ f part k) where
  listed : (rs : List Record) → All Long rs → list_of (f (joined rs)) 0 (length rs) ≡ map g rs
  unfolding list_of joined
  listed [] l = refl
  listed (r ∷ rs) l =
      rw (here r (joined rs) l.0)
      (ap (λ (w : List A). g r ∷ w)
      (list-shift (f (r ++ joined rs)) (f (joined rs)) 0 (length rs) (λ k. there r (joined rs) k l.0)
      ∙ listed rs l.1))

  pub all_listed : (rs : List Record) → All Long rs
      → list_of (f (joined rs)) 0 (length (joined rs) / 81) ≡ map g rs
  all_listed rs l =
      let e : length (joined rs) ≡ length rs * 81 = length-joined 81 rs l in
      let q : length (joined rs) / 81 ≡ length rs = omega arith in
      rw q (listed rs l)

-- the first columns of a record, and a column of it
pub drop-record : (r part : List ℕ) (n m : ℕ) → length r ≡ 81 → n ≡ 81 + m → drop n (r ++ part) ≡ drop m part
drop-record r part n m l e = rw (e, ← l) (drop-append-add r part m)

pub byte-record : (r part : List ℕ) (n m : ℕ) → length r ≡ 81 → n ≡ 81 + m → get_or (r ++ part) n 0 ≡ get_or part m 0
byte-record r part n m l e = rw (e, ← l) (get_or-append-add r part m 0)

pub places-joined : (rs : List Record) → All Long rs → places_of (joined rs) ≡ map bib_place rs
unfolding places_of
places-joined rs l =
    all_listed place_in_part bib_place
    (λ r part h. take-append-le 11 r part (omega arith))
    (λ r part k h. let e : (k + 1) * 81 ≡ 81 + k * 81 = omega arith in ap (take 11) (drop-record r part _ (k * 81) h e))
    rs l

pub pointers-joined : (rs : List Record) → All Long rs → pointers_of (joined rs) ≡ pointers_in rs
unfolding pointers_of
pointers-joined rs l =
    all_listed pointer_at (λ r. pointer_of (bib_place r))
    (λ r part h. get_or-append r part 0 10 (omega arith) ∙ at-ten r (omega arith))
    (λ r part k h.
    let e : (k + 1) * 81 + 10 ≡ 81 + (k * 81 + 10) = omega arith in byte-record r part _ (k * 81 + 10) h e)
    rs l
  where
    at-ten : (r : List ℕ) → 10 < length r → get_or r 10 0 ≡ pointer_of (bib_place r)
    at-ten r h = sym (get_or-take 11 r 10 0 (omega arith))

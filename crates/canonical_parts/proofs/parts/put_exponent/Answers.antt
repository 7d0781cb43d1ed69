use Prim.Native.Nat.{ℕ}
use Rattle.canonical_parts.proofs.Filled.{filled-exponent}
use Rattle.canonical_parts.proofs.Once.{exponent-stored, nothing_stored}
use Rattle.canonical_parts.proofs.Puts.{put-nothing}
use Rattle.paper_canonical.specs.Storing.{put}
use Rattle.paper_number.specs.Grammar.{sign_byte}
use mathlib.Core.List.{[], ◌∷◌}
use mathlib.Core.Path.{◌≡◌, ◌∙◌, ap, sym}
use Rattle.canonical_parts.proofs.parts.put_exponent.Goals as goal

pub returns-in-Some : goal.returns-in-Some
returns-in-Some c =
    let l = c.args.out.now in
    let l₁ = c.put_digits.new.out in
    let l₂ = c.put_byte.new.out in
    let x = c.in-Some.e in
    let h = rw c.in-Some.is at c.requires in
    let e₁ = c.put_digits.ensures.1 in
    let e₂ : l₂ ≡ put l₁ c.args.at (sign_byte x.below ∷ []) =
    c.put_byte.ensures ∙ ap (λ (s : ℕ). put l₁ c.args.at (s ∷ [])) c.sign_byte.ensures in
    record {
      out_after = rw c.in-Some.is (filled-exponent l l₁ l₂ c.args.at x e₁ e₂ h);
      out_after_2 = rw c.in-Some.is (exponent-stored l l₁ l₂ c.args.at x e₁ e₂);
    }

pub returns-in_default : goal.returns-in_default
returns-in_default c =
    record {
      out_after = rw c.in_default.is (sym (put-nothing c.args.out.now c.args.at));
      out_after_2 = rw c.in_default.is (sym (nothing_stored c.args.out.now));
    }

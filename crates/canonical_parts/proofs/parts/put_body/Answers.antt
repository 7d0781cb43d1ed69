use Prim.Native.Nat.{ℕ}
use Rattle.canonical_parts.proofs.Filled.{filled-body}
use Rattle.canonical_parts.proofs.Once.{body-stored}
use Rattle.paper_canonical.specs.Closed.{digits_n, shift}
use Rattle.paper_canonical.specs.Storing.{put}
use Rattle.paper_number.specs.Grammar.{digits_text}
use mathlib.Core.Path.{◌≡◌, ◌∙◌, ap}
use Rattle.canonical_parts.proofs.parts.put_body.Goals as goal

pub returns : goal.returns
returns c =
    let c₃ = c in
    let c₂ = c₃ in
    let c₁ = c₂ in
    let c₀ = c₁ in
    let l = c₀.args.out.now in
    let l₁ = c₁.put_digits-w.new.out in
    let l₂ = c₂.put_byte.new.out in
    let l₃ = c₃.put_digits.new.out in
    let at = c₀.args.at in
    let whole = c₀.args.whole in
    let part = c₀.args.part in
    let v = c₀.args.v in
    let e₁ = c₁.put_digits-w.ensures.1 in
    let e₂ = c₂.put_byte.ensures in
    let e₃ : l₃ ≡ put l₂ at (digits_text (digits_n whole (shift part v))) =
    c₃.put_digits.ensures.1
    ∙ ap (λ (x : ℕ). put l₂ at (digits_text (digits_n whole x))) c₁.put_digits-w.ensures.0 in
    record {
      out_after = filled-body l l₁ l₂ l₃ at whole part v e₁ e₂ e₃ c₀.requires;
      out_after_2 = body-stored l l₁ l₂ l₃ at whole part v e₁ e₂ e₃;
    }

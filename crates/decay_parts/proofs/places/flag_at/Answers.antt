use mathlib.Core.Path.{◌≡◌, ◌∙◌, ap, refl}
use mathlib.Core.List.{List}
use Prim.Native.Nat.{ℕ, ◌+◌, ◌-◌}
use native.Mathlib.Omega.{arith}
use borrow.Author.Tests.{eq-eqb, ne_eqb}
use lib.ListN.{length, get_or, take, drop, get_or-eq_default}
use Rattle.paper_decay_fields.specs.declared.types.Part.{Part}
use Rattle.paper_decay_fields.specs.Parts.{part, word_at, flag_at}
use Rattle.decay_parts.proofs.Within.{behind-text, behind-long}
use Rattle.decay_parts.proofs.places.flag_at.Goals as goal

pub returns-then-n-lt2 : goal.returns-then-n-lt2
unfolding flag_at
returns-then-n-lt2 c =
    let l = c.args.run.now in
    let d : get_or l 1 0 ≡ 0 = get_or-eq_default l 0 (omega arith) in
    (rw d refl, omega arith)

pub returns-then-run-ne40 : goal.returns-then-run-ne40
unfolding flag_at
returns-then-run-ne40 c = (rw (ne_eqb _ _ c.if-run-ne40.true) refl, omega arith)

pub returns : goal.returns
unfolding flag_at
returns c =
    let l = c.args.run.now in
    let d : c.word_at-digits.result ≡ word_at 46 (take (length l - 2) (drop 2 l)) 0 = c.word_at-digits.ensures.value in
    let e = d ∙ ap (λ (t : List ℕ). word_at 46 t 0) (behind-text l) in
    let h = c.word_at-digits.ensures.length_in_bounds in
    let long = behind-long l in
    (rw (eq-eqb _ _ c.if-run-ne40.false) (ap (λ (w : Part). part 2 (w.length + 1)) e), omega arith)

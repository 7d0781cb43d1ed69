use Prim.Native.Nat.{ℕ, ◌+◌, ◌<◌}
use mathlib.Core.Path.{◌≡◌, refl, sym, ap, ◌∙◌}
use mathlib.Core.List.{List, [], ◌∷◌, ◌++◌}
use native.Mathlib.Numerals.{add-one}
use native.Mathlib.Omega.{arith}
use lib.ListN.{length, get_or, set, take, length-set}
use lib.Seq.{take-suc, take-length, set_out, length-take-le}
use Rattle.paper_decay_run.specs.Overlay.{overlay}
use Rattle.paper_decay_run.proofs.Overlay.{overlay-none, overlay-byte}
use Rattle.decay_numbers.proofs.kept.put_kept.Goals as goal
use Rattle.decay_numbers.proofs.kept.put_kept.Goals.{then-to-room, else-to-room}

byte_more : (x y z l : List ℕ) (at i : ℕ) → i < length l → y ≡ overlay x at (take i l) → z ≡ set y (at + i) (get_or l i 0)
    → z ≡ overlay x at (take (i + 1) l)
byte_more x y z l at i h e f =
    let long : length (take i l) ≡ i = length-take-le i l (omega arith) in
    let g : take i l ++ (get_or l i 0 ∷ []) ≡ take (i + 1) l = rw add-one (sym (take-suc l i 0 h)) in
    f
    ∙ (λ j. set (e j) (at + sym long j) (get_or l i 0))
    ∙ sym (overlay-byte x at (take i l) (get_or l i 0))
    ∙ ap (overlay x at) g

pub loop-i-init : goal.loop-i-init
loop-i-init c =
    let a = c.args in
    (omega arith, refl, sym (overlay-none a.out.now a.at), refl)

pub loop-i-preserved : goal.loop-i-preserved
loop-i-preserved c =
    let v = c.loop-i in
    let inv = v.invariant in
    let a = c.args in
    let stored : c.if-to-room.out ≡ set v.out (a.at + v.i) (get_or a.text.now v.i 0) =
    elim c.if-to-room.branch [
      | then-to-room w ↦ w.out-is
      | else-to-room w ↦
          w.out-is ∙ sym (set_out v.out (a.at + v.i) (get_or a.text.now v.i 0) (omega (arith, w.if-to-room.false)))
    ] in
    (omega arith, inv.1, byte_more a.out.now v.out c.if-to-room.out a.text.now a.at v.i (omega arith) inv.2 stored, ap length stored ∙ length-set v.out _ _ ∙ inv.3)

pub returns : goal.returns
returns c =
    let v = c.loop-i in
    let a = c.args in
    let e : v.i ≡ length a.text.now = omega arith in
    record {
      out_after = rw (e, take-length) at v.invariant.2;
      value = refl;
    }

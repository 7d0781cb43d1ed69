-- The number layer's places, by number.
-- Assumes nothing.
use mathlib.Core.Path.{◌≡◌, refl, sym}
use Prim.Native.Nat.{ℕ, zero, suc, ◌<◌}
use native.Mathlib.Omega.{arith}
use Rattle.paper_number.specs.Form.{place_number, place_at}
use Rattle.paper_number.specs.Reading.{Scan, scan_step, column_of}
use Rattle.paper_decay.specs.Scan.{next_of}

pub place_at_lem : (n : ℕ) → n < 11 → place_number (place_at n) ≡ n
place_at_lem zero h = refl
place_at_lem (suc zero) h = refl
place_at_lem (suc (suc zero)) h = refl
place_at_lem (suc (suc (suc zero))) h = refl
place_at_lem (suc (suc (suc (suc zero)))) h = refl
place_at_lem (suc (suc (suc (suc (suc zero))))) h = refl
place_at_lem (suc (suc (suc (suc (suc (suc zero)))))) h = refl
place_at_lem (suc (suc (suc (suc (suc (suc (suc zero))))))) h = refl
place_at_lem (suc (suc (suc (suc (suc (suc (suc (suc zero)))))))) h = refl
place_at_lem (suc (suc (suc (suc (suc (suc (suc (suc (suc zero))))))))) h = refl
place_at_lem (suc (suc (suc (suc (suc (suc (suc (suc (suc (suc zero)))))))))) h = refl
place_at_lem (suc (suc (suc (suc (suc (suc (suc (suc (suc (suc (suc n))))))))))) h = absurd (omega arith)

-- what the number layer says of a place and a byte, at the place that has a number
pub next-place : (inner b : ℕ) {next : ℕ} → inner < 11
    → ((t : Scan) → inner ≡ place_number t → next ≡ place_number (scan_step t (column_of b)))
    → next ≡ next_of inner b
unfolding next_of
next-place inner b h said = said (place_at inner) (sym (place_at_lem inner h))

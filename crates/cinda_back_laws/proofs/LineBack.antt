-- A line written back, part by part: before the energies, each energy, behind them.
-- Assumes nothing.
use Prim.Native.Nat.{ℕ, ◌+◌, ◌≤◌}
use mathlib.Core.Path.{◌≡◌, sym, ◌∙◌, ap}
use mathlib.Core.List.{List, ◌++◌}
use native.Mathlib.Omega.{arith}
use lib.ListN.{length, take, drop, length-append, length-drop}
use lib.Seq.{length-take-le, take_at, drop_at, drop-drop}
use Rattle.paper_record.specs.Columns.{columns_at}
use Rattle.paper_canonical.specs.Replacing.{canonical}
use Rattle.paper_canonical.proofs.Laws.{canonical-length}
use Rattle.paper_cinda.specs.Layout.{energy_at}
use Rattle.paper_cinda.specs.Back.{line_back}

pub wide : (l : List ℕ) (n w : ℕ) → n + w ≤ length l → length (columns_at n w l) ≡ w
wide l n w h = length-take-le w (drop n l) (simp length-drop (omega arith))

-- seven columns behind 41 others, twice, and what is behind them
module _ (a b c d : List ℕ) (p : length a ≡ 41) (q : length b ≡ 7) (r : length c ≡ 7) where
  abbrev laid : List ℕ
  laid = a ++ (b ++ (c ++ d))

  past-front : drop 41 (a ++ (b ++ (c ++ d))) ≡ b ++ (c ++ d)
  past-front = drop_at a (b ++ (c ++ d)) 41 p

  past-least : drop 48 (a ++ (b ++ (c ++ d))) ≡ c ++ d
  past-least = sym (drop-drop 7 41 laid) ∙ ap (drop 7) past-front ∙ drop_at b (c ++ d) 7 q

  past-greatest : drop 55 (a ++ (b ++ (c ++ d))) ≡ d
  past-greatest = sym (drop-drop 7 48 laid) ∙ ap (drop 7) past-least ∙ drop_at c d 7 r

  at_least : columns_at 41 7 (a ++ (b ++ (c ++ d))) ≡ b
  at_least = ap (take 7) past-front ∙ take_at b (c ++ d) 7 q

  at-greatest : columns_at 48 7 (a ++ (b ++ (c ++ d))) ≡ c
  at-greatest = ap (take 7) past-least ∙ take_at c d 7 r

  laid-length : length (a ++ (b ++ (c ++ d))) ≡ 55 + length d
  laid-length = simp length-append (omega arith)

module _ (l : List ℕ) (long : 55 ≤ length l) where
  front : length (take 41 l) ≡ 41
  front = length-take-le 41 l (omega arith)

  least-wide : length (canonical (energy_at l 42)) ≡ 7
  least-wide = canonical-length (energy_at l 42) ∙ wide l 41 7 (omega arith)

  greatest-wide : length (canonical (energy_at l 49)) ≡ 7
  greatest-wide = canonical-length (energy_at l 49) ∙ wide l 48 7 (omega arith)

  pub back-front : take 41 (line_back l) ≡ take 41 l
  unfolding line_back
  back-front =
      take_at (take 41 l) (canonical (energy_at l 42) ++ (canonical (energy_at l 49) ++ drop 55 l)) 41 front

  pub back-behind : drop 55 (line_back l) ≡ drop 55 l
  unfolding line_back
  back-behind =
      past-greatest (take 41 l) (canonical (energy_at l 42)) (canonical (energy_at l 49)) (drop 55 l)
      front least-wide greatest-wide

  pub back-least : energy_at (line_back l) 42 ≡ canonical (energy_at l 42)
  unfolding line_back
  back-least =
      at_least (take 41 l) (canonical (energy_at l 42)) (canonical (energy_at l 49)) (drop 55 l)
      front least-wide greatest-wide

  pub back-greatest : energy_at (line_back l) 49 ≡ canonical (energy_at l 49)
  unfolding line_back
  back-greatest =
      at-greatest (take 41 l) (canonical (energy_at l 42)) (canonical (energy_at l 49)) (drop 55 l)
      front least-wide greatest-wide

  pub back-length : length (line_back l) ≡ length l
  unfolding line_back
  back-length =
      laid-length (take 41 l) (canonical (energy_at l 42)) (canonical (energy_at l 49)) (drop 55 l)
      front least-wide greatest-wide
      ∙ simp length-drop (omega arith)

-- a line is its four parts, and its writing by these
pub back-of : (l m : List ℕ) → take 41 l ≡ take 41 m → drop 55 l ≡ drop 55 m
    → canonical (energy_at l 42) ≡ canonical (energy_at m 42) → canonical (energy_at l 49) ≡ canonical (energy_at m 49)
    → line_back l ≡ line_back m
unfolding line_back
back-of l m a b c d = rw (a, b, c, d)

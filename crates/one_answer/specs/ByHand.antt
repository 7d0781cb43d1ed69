-- What the two calls of a walker promise: the call's own `ensures`, read here with the kit's means. `tells` is what follows
-- from it.
use Rattle.std.specs.Prelude.{refl}
use base.Logic.{emp}
use contract.Lifetimes.{Lfts}
use denote.Triple.Clauses.{AtExit}
use borrow.Fn.Claims.{AllOf}
use borrow.Fn.World.{World, Pr, ArgsD, ResD}
use borrow.Fn.Read.{Read, all_models, r_last, no_know}
use Rattle.walker.specs.contracts.walker.Walker.new as new
use Rattle.walker.specs.contracts.walker.Walker.next as next

-- the reading uses nothing of the machine
abbrev nought : (w : World) → Pr w
nought w = emp w.𝓤

module _ (κs : Lfts 1) (a : ArgsD new.signature κs) (r : ResD new.signature κs) (s : AtExit new.ended κs) where
  abbrev new_ensures : (w : World) → Pr w
  new_ensures w = (new.clauses w.𝓛 w.𝓜.mem w.𝓡.run κs a).ensures tt r s

  abbrev new_read : Read nought no_know new_ensures
  new_read = all_models new_ensures (λ w. r_last _) (λ w. refl) (λ w. refl) (λ w. refl)

  abbrev pub NewPost : Type 0
  NewPost = AllOf new_read.tells

module _ (κs : Lfts 2) (a : ArgsD next.signature κs) (r : ResD next.signature κs) (s : AtExit next.ended κs) where
  abbrev next_ensures : (w : World) → Pr w
  next_ensures w = (next.clauses w.𝓛 w.𝓜.mem w.𝓡.run κs a).ensures tt r s

  abbrev next_read : Read nought no_know next_ensures
  next_read = all_models next_ensures (λ w. r_last _) (λ w. refl) (λ w. refl) (λ w. refl)

  abbrev pub NextPost : Type 0
  NextPost = AllOf next_read.tells

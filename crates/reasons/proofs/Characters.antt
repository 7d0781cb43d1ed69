-- The characters of a reason: eight, or five and three blanks behind them. Assumes nothing.
use Prim.Native.Nat.{ℕ, ◌+◌}
use mathlib.Core.Path.{◌≡◌, refl, sym, ◌∙◌}
use mathlib.Core.List.{List, ◌++◌}
use lib.ListN.{length, take, replicate}
use lib.Seq.{take_at, take-append-add}
use Rattle.paper_record.proofs.ReadColumns.{reads, both_read}
use Rattle.paper_reasons.specs.declared.types.Facts.TheVariants.{Expected}
use Rattle.paper_reasons.specs.declared.types.Reason.{Reason}
use Rattle.paper_reasons.specs.Reason.{no_characters, expecting}

pub eight-expected : (c : List ℕ) → length c ≡ 8
    → ◌≡◌ {A = Reason} (record { facts = Expected; characters = c }) (expecting c)
eight-expected c e = λ k. record { facts = Expected; characters = sym (take_at c no_characters 8 e) k }

five-long : (c : List ℕ) → length c ≡ 5 → reads c 0 0 5 ++ replicate 3 32 ≡ take 8 (c ++ no_characters)
five-long c e = both_read c (replicate 3 32) 5 3 e refl ∙ sym (rw e at (take-append-add c no_characters 3))

pub five-expected : (c : List ℕ) → length c ≡ 5
    → ◌≡◌ {A = Reason} (record { facts = Expected; characters = reads c 0 0 5 ++ replicate 3 32 }) (expecting c)
five-expected c e = λ k. record { facts = Expected; characters = five-long c e k }

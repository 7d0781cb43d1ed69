-- The state behind a record stands for the context behind it, over the bytes of the entry in hand.
-- Assumes nothing.
use Prim.Native.Nat.{ℕ, ◌+◌, ◌<◌}
use mathlib.Core.Path.{◌≡◌, refl}
use mathlib.Core.Bool.{Bool, true, false, cond}
use mathlib.Core.List.{List, [], ◌++◌}
use native.Mathlib.Omega.{arith}
use borrow.Author.Tests.{ne_eqb, eqb-true}
use lib.Dec.{eqb}
use Rattle.paper_record.specs.Columns.{Whole}
use Rattle.paper_record.specs.Identifier.{TRANS}
use Rattle.paper_rules.specs.Limits.{MOST-RECORDS}
use Rattle.paper_entry.specs.Verdict.{is_done}
use Rattle.paper_entry.specs.Contexts.{behind}
use Rattle.entry_step.specs.declared.step.Judge.{Judge}
use Rattle.entry_step.specs.ByRanges.{context_of as entry_of, Ready}
use Rattle.entry_step.proofs.Stepping.{Stood, stood-start, stood-next, context-next}
use Rattle.paper_files.specs.declared.types.Stage.{Stage}
use Rattle.paper_files.specs.declared.types.Stage.TheVariants.{Within, Behind}
use Rattle.paper_files.specs.File.{FileContext, MOST-IN-FILE, OF-ENTRY, at_stage, behind_entry, file_role, file_after}
use Rattle.paper_files.specs.File.{ended_entry, within_entry}
use Rattle.paper_files.proofs.Roles.{role-room}
use Rattle.files_state.specs.declared.state.File.{File}
use Rattle.files_state.specs.ByNumbers.{context_of, state_at, ended_state, within_state, behind_state, state_outside}
use Rattle.files_state.specs.ByNumbers.{judge_behind, next_state, own_records, Sane, FileReady, Room}
use Rattle.files_step.specs.Along.{FileStood}
use Rattle.files_state.proofs.Sums.{room, ended-sane, within-sane, stage-sane}

-- what of `both` belongs to the entry in hand
abbrev pub own_part : File → List ℕ → List ℕ
own_part f both = cond (eqb (own_records f) 0) [] both

-- the state g follows f: one record more, and g stands for the context c
pub record FileNext (f g : File) (both : List ℕ) (c : FileContext) : Type 0 where
  pub counted : g.records.0 ≡ f.records.0 + 1
  pub stood : FileStood (own_part g both) g
  pub same : context_of (own_part g both) g ≡ c

module _ (before rec : List ℕ) (f : File) (stood : FileStood before f) (few : f.records.0 < MOST-IN-FILE)
    (whole : Whole rec) where
  abbrev both : List ℕ
  both = before ++ rec

  abbrev next : Judge
  next = judge_behind before f.judge rec

  outside-next : (x : Stage) → FileNext f (state_at f x) both (at_stage (context_of before f) x)
  outside-next x =
      record {
        counted = refl;
        stood = record { stood = stood-start; sane = stage-sane f x stood.sane few };
        same = refl;
      }

  file-ready : FileReady f before rec
  file-ready = record { stands = stood.stood.stands; sane = stood.sane; few = few; whole = whole }

  module _ (own : own_records f < MOST-RECORDS) where
    ready : Ready f.judge before rec
    ready = record { stands = stood.stood.stands; few = own; whole = whole }

    next-stood : Stood both next
    next-stood = stood-next before rec f.judge stood.stood.joins ready

    next-room : Room f next
    next-room = room f before rec file-ready next next-stood.stands

    some : eqb next.track.records.0 0 ≡ false
    some = let e = next-room.own in ne_eqb next.track.records.0 0 (λ z. omega arith)

    entry_next : FileNext f (behind_state f next) both
        (behind_entry (context_of before f) (behind (entry_of before f.judge) rec))
    unfolding behind_state behind_entry
    entry_next =
        rw (← context-next before rec f.judge stood.stood.joins ready) (by-test (is_done next.phase))
      where
        by-test : (t : Bool)
            → let c = context_of before f in
            FileNext f (cond t (ended_state f next.track.totals) (within_state f next)) both
            (cond t (ended_entry c next.track.totals) (within_entry c (entry_of both next)))
        by-test true =
            record {
              counted = refl;
              stood = record { stood = stood-start; sane = ended-sane f next next-room };
              same = refl;
            }
        by-test false =
            record {
              counted = refl;
              stood = record { stood = rw some next-stood; sane = within-sane f next next-room };
              same = rw some;
            }

  -- behind any record
  pub state-next : FileNext f (next_state before f rec) (before ++ rec) (file_after (context_of before f) rec)
  unfolding next_state file_after
  state-next = by-role (eqb (file_role (context_of before f) rec) OF-ENTRY) refl
    where
      by-trans : (t : Bool)
          → let c = context_of before f in
          FileNext f (state_at f (cond t Within Behind)) both (cond t (at_stage c Within) (at_stage c Behind))
      by-trans true = outside-next Within
      by-trans false = outside-next Behind

      by-role : (t : Bool) → eqb (file_role (context_of before f) rec) OF-ENTRY ≡ t
          → let role = file_role (context_of before f) rec in
          let c = context_of before f in
          FileNext f (cond t (behind_state f next) (state_outside role f)) both
          (cond t (behind_entry c (behind (entry_of before f.judge) rec))
          (cond (eqb role TRANS) (at_stage c Within) (at_stage c Behind)))
      by-role true e = entry_next (role-room (context_of before f) rec (eqb-true _ _ e))
      by-role false e = by-trans (eqb (file_role (context_of before f) rec) TRANS)

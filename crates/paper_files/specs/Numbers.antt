-- What a record of a file is goes by three numbers of the context before it; that it does so is the law `role-numbers`.
use Rattle.std.specs.Prelude.{ℕ, cond, eqb}
use Rattle.paper_record.specs.declared.types.Index.{Index}
use Rattle.paper_record.specs.Identifier.{TRANS}
use Rattle.paper_rules.specs.Roles.{Role}
use Rattle.paper_rules.specs.declared.types.Totals.{Totals}
use Rattle.paper_rules.specs.declared.types.Track.{Track}
use Rattle.paper_rules.specs.State.{start_track, start_context, no_totals}
use Rattle.paper_files.specs.declared.types.Stage.{Stage}
use Rattle.paper_files.specs.declared.types.Stage.TheVariants.{Within, Behind}
use Rattle.paper_files.specs.File.{FileContext}

-- an entry with so many records before the one in hand, and nothing else known of it
abbrev pub track_of : Index → Track
track_of own =
    record {
      records = own;
      accession = start_track.accession;
      totals = no_totals;
      subentry = start_track.subentry;
      section = start_track.section;
      bib = start_track.bib;
      table = start_track.table;
    }

-- the file stands so, so many entries have ended, and the entry in hand has so many records before this one
abbrev pub numbers_of : Stage → ℕ → Index → FileContext
numbers_of stage entries own =
    record {
      stage = stage;
      records = record { 0 = 0 };
      entries = entries;
      totals = no_totals;
      entry = record { phase = start_context.phase; track = track_of own; seen = start_context.seen };
    }

-- and behind the last record by these
abbrev pub ending_of : Stage → Index → Totals → FileContext
ending_of stage records totals =
    record { stage = stage; records = records; entries = 0; totals = totals; entry = start_context }

-- behind TRANS, or ENDTRANS
abbrev pub stage_after : Role → Stage
stage_after role = cond (eqb role TRANS) Within Behind

use Rattle.std.proofs.Common.{arith}
use Rattle.paper_record.proofs.TablePlaces.{in_table}
use Rattle.record_cases.proofs.write_places.Goals as goal

pub place_of-place-requires : goal.place_of-place-requires
place_of-place-requires g c =
    in_table _ _ _ _ 2 c.requires.le_line c.requires.line_bound c.loop-column.auto.column (omega arith) (omega arith)

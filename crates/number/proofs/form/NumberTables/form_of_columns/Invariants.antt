use mathlib.Core.Path.{◌≡◌}
use lib.ListN.{take}
use Rattle.paper_number.specs.Form.{place_number}
use Rattle.paper_number.specs.Reading.{Lead, scan_of}
use Rattle.number.proofs.form.NumberTables.form_of_columns.Given as goal

abbrev pub invariant-loop-b : goal.invariant-loop-b
invariant-loop-b l = l.place ≡ place_number (scan_of Lead (take l.b-index l.s))

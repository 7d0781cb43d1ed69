use Rattle.paper_record.specs.Faults.{unit_fault}
use Rattle.record_faults.proofs.First.{first-field}
use Rattle.std.proofs.Common.{rules}
use Rattle.record_faults.proofs.faults.unit_fault.Goals as goal

pub returns : goal.returns
returns c =
    let found = c.first_fault.ensures in
    first-field (unit_fault c.args.used) c.args.fields c.first_fault.result found.upper_bound
    (λ j l. let told = found.before j l in search rules)
    (λ l. let told = found.found l in search rules)

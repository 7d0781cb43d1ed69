use mathlib.Core.Path.{◌≡◌}
use lib.ListN.{length}
use Rattle.paper_index.specs.Making.{made}
use Rattle.exports_index.proofs.making.x4_index.Goals as goal

pub returns : goal.returns
returns c =
    let d = c in
    let a = d.args in
    let e : d.make_index-made.result ≡ made a.entry.now (length a.index.now) = d.make_index-made.ensures.value in
    record {
      value = rw (← e) (c.put_number.ensures.value);
      index_after = d.make_index-made.ensures.index_after;
      rows_after = rw (← e) (c.put_number.ensures.out_after);
    }

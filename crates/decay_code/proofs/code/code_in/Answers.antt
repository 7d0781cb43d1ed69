use Rattle.decay_code.proofs.Stored.{asked-for, refused, short, stored}
use Rattle.decay_code.proofs.code.code_in.Goals as goal

pub returns-then-number-ne0 : goal.returns-then-number-ne0
returns-then-number-ne0 c =
    let d = c in
    let a = d.args in
    let both = refused a.passage.now a.j _ _ d.opening-first.ensures d.coded_from-coded.ensures a.out.now c.if-number-ne0.true in
    record { value = both.0; out_after = both.1 }

pub put_records-long-requires : goal.put_records-long-requires
put_records-long-requires c =
    let d = c in
    let a = d.args in
    let x = asked-for a.passage.now a.j _ _ d.opening-first.ensures d.coded_from-coded.ensures c.if-number-ne0.false in
    record {
      first_le_last = (x.ordered, x.whole);
      le_column = (x.column_from, x.column_to);
    }

pub returns-then-out-long : goal.returns-then-out-long
returns-then-out-long c =
    let put = c in
    let d = put in
    let a = d.args in
    let both = short a.passage.now a.j _ _ d.opening-first.ensures d.coded_from-coded.ensures put.put_records-long.new.out
    a.out.now put.put_records-long.result put.if-number-ne0.false put.put_records-long.ensures.out_after
    put.put_records-long.ensures.value c.if-out-long.true in
    record { value = both.0; out_after = both.1 }

pub put_records-length-requires : goal.put_records-length-requires
put_records-length-requires c =
    let d = c in
    let a = d.args in
    let closed = c.if-number-ne0.false in
    let x = asked-for a.passage.now a.j _ _ d.opening-first.ensures d.coded_from-coded.ensures closed in
    record {
      first_le_last = (x.ordered, x.whole);
      le_column = (x.column_from, x.column_to);
    }

pub returns : goal.returns
returns c =
    let again = c.put_records-length in
    let put = c in
    let d = put in
    let a = d.args in
    let both = stored a.passage.now a.j _ _ d.opening-first.ensures d.coded_from-coded.ensures put.put_records-long.new.out
    a.out.now again.new.out put.put_records-long.result again.result put.if-number-ne0.false
    put.put_records-long.ensures.out_after put.put_records-long.ensures.value c.if-out-long.false again.ensures.out_after again.ensures.value in
    record { value = both.0; out_after = both.1 }

use Rattle.row_model.specs.BothStates.{rows_of_both}
use Rattle.kept_sums.proofs.Parts.{few_of_both}
use Rattle.kept_sums.proofs.measuring.measured.Goals as goal

pub returns : goal.returns
returns c = λ before after type_index sums max rows.
    let shape = c.args.shape.now in
    let both = rows_of_both before after type_index in
    let total = c.total.ensures shape both sums.both in
    record {
      before = c.held.ensures shape before type_index sums.before;
      after = c.held-2.ensures shape after type_index sums.after;
      total = total;
      chosen = λ keeps. record { max = max; widths = c.in_ok-widths.ensures both sums.both (few_of_both shape before after type_index keeps); total = total; rows = rows };
    }

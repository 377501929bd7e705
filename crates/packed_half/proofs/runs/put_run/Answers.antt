use Rattle.packed_half.proofs.runs.put_run.Goals as goal

pub returns : goal.returns
returns c =
    let put = c.put_row.ensures in
    record { ends = put.end; pointer = put.pointer; packed = put.packed; first_front = put.first; second_front = put.second }

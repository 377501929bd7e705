use Rattle.packed_half.proofs.lists.put_elements.Goals as goal

pub returns : goal.returns
returns c =
    let put = c.put_row.ensures in
    record { ends = put.end; pointer = put.pointer; spelled = put.spelled; earlier = put.earlier; pointer_bits = put.pointer_bits; element_bits = put.element_bits }

use Rattle.std.proofs.Common.{arith}
use Rattle.list_codec.proofs.Written.{read_is}
use Rattle.list_codec.proofs.Places.{packed_none, lent_room, lent_more}
use Rattle.list_codec.proofs.packing.pack_words.Goals as goal

pub loop-place-init : goal.loop-place-init
loop-place-init g c =
    let widths = c.args.widths.now in
    let rows = g.P.PlacedRows.places c.args.rows.now in
    packed_none widths rows c.in_ok-first.first.items c.in_ok-second.second.items c.count.result c.get.result.now c.in_ok-count_of.field-0 c.get-2.result.now
    c.count.ensures (read_is widths 0 c.get.result.now c.get.ensures)
    c.in_ok-count_of.ensures (read_is widths 1 c.get-2.result.now c.get-2.ensures)
    c.in_ok-first.ensures.long c.in_ok-second.ensures.long c.in_ok-first.ensures.zero c.in_ok-second.ensures.zero c.in_ok-first.ensures.few c.in_ok-second.ensures.few c.requires.small

pub put_row-end-requires : goal.put_row-end-requires
put_row-end-requires g c =
    let end = c.count-place-end.ensures in
    lent_room c.args.widths.now (g.P.PlacedRows.places c.args.rows.now) c.loop-place.first.items c.loop-place.second.items c.deref_mut.result.now c.deref_mut-in-loop-place.result.now c.loop-place.place c.loop-place.end
    _ c.elements_in-elements.result.now c.deref_mut.ensures.value c.deref_mut-in-loop-place.ensures.value c.loop-place.invariant (omega arith) c.in_ok-lent.ensures
    c.elements_in-elements.ensures c.requires.two c.requires.narrow c.requires.below

pub loop-place-preserved : goal.loop-place-preserved
loop-place-preserved g c =
    let end = c.count-place-end.ensures in
    let put = c.put_row-end.ensures in
    lent_more c.args.widths.now (g.P.PlacedRows.places c.args.rows.now) c.loop-place.first.items c.loop-place.second.items c.deref_mut.result.now c.deref_mut-in-loop-place.result.now
    c.put_row-end.new.first c.put_row-end.new.second c.loop-place.first.len c.loop-place.second.len c.loop-place.place c.loop-place.end c.put_row-end.result
    _ c.elements_in-elements.result.now c.deref_mut.ensures.value c.deref_mut-in-loop-place.ensures.value (omega (arith, c.loop-place.first.ok)) (omega (arith, c.loop-place.second.ok))
    c.loop-place.invariant (omega arith) c.in_ok-lent.ensures c.elements_in-elements.ensures put.end put.spelled put.earlier put.pointer_bits put.element_bits put.pointer
    c.put_row-end.auto.first c.put_row-end.auto.second

use Rattle.std.proofs.Common.{◌∙◌, ◌≤◌, ◌-◌, ◌^◌, ℕ, List, sym, subst}
use Rattle.std.specs.Prelude.{All}
use Rattle.std.specs.FinMap.{get}
use Rattle.list_codec.specs.Packing.{HasRoom, elements_of_place}
use Rattle.packed_half.specs.Laying.{IsListPut}
use Rattle.list_codec.specs.Elements.{elements_of}
use Rattle.type_state.specs.KeptRecords.{kept_rows}
use Rattle.type_state.proofs.KeptRecords.{list_holds_there, list_spelled}
use Rattle.type_state.proofs.kept_records.KeptRecords.copy_list.Goals as goal

pub elements-requires : goal.elements-requires
elements-requires c =
    let kept = c.args.self in
    list_holds_there kept.shape.now kept.half.now kept.words.now c.as_slice-there.result.now kept.records.first.now kept.second.now c.from-place.result c.args.ordinal
    c.as_slice-there.ensures c.requires.kept.first c.requires.kept.second c.from-place.ensures c.requires.kept.half c.requires.live c.requires.list

pub copy_list-requires-clause-room : goal.copy_list-requires-clause-room
copy_list-requires-clause-room c =
    let kept = c.args.self in
    let is = list_spelled kept.shape.now kept.half.now kept.words.now c.as_slice-there.result.now kept.records.first.now kept.second.now c.from-place.result c.args.ordinal
    c.as_slice-there.ensures c.requires.kept.first c.requires.kept.second c.from-place.ensures c.requires.kept.half c.requires.live c.requires.list in
    subst (λ (elements : List ℕ). HasRoom c.as_slice.result.now c.args.first.now c.args.second.now c.from-place.result c.args.start elements) (is.are ∙ sym c.in-Some.ensures.1)
    (subst (λ (widths : List ℕ). HasRoom widths c.args.first.now c.args.second.now c.from-place.result c.args.start (elements_of_place (get (kept_rows c.args.self) c.args.ordinal))) (sym c.as_slice.ensures)
    (subst (λ (place : ℕ). HasRoom c.args.widths.now c.args.first.now c.args.second.now place c.args.start (elements_of_place (get (kept_rows c.args.self) c.args.ordinal))) (sym c.from-place.ensures) c.requires.room))

pub copy_list-requires-clause-ordinals : goal.copy_list-requires-clause-ordinals
copy_list-requires-clause-ordinals c =
    let kept = c.args.self in
    let is = list_spelled kept.shape.now kept.half.now kept.words.now c.as_slice-there.result.now kept.records.first.now kept.second.now c.from-place.result c.args.ordinal
    c.as_slice-there.ensures c.requires.kept.first c.requires.kept.second c.from-place.ensures c.requires.kept.half c.requires.live c.requires.list in
    subst (λ (elements : List ℕ). All (λ ordinal. ordinal ≤ 2 ^ 32 - 1) elements) (is.are ∙ sym c.in-Some.ensures.1) is.small

pub unreachable-requires : goal.unreachable-requires
unreachable-requires c =
    let kept = c.args.self in
    let is = list_spelled kept.shape.now kept.half.now kept.words.now c.as_slice-there.result.now kept.records.first.now kept.second.now c.from-place.result c.args.ordinal
    c.as_slice-there.ensures c.requires.kept.first c.requires.kept.second c.from-place.ensures c.requires.kept.half c.requires.live c.requires.list in
    c.in-None.ensures is.has

pub returns : goal.returns
returns c =
    let kept = c.args.self in
    let is = list_spelled kept.shape.now kept.half.now kept.words.now c.as_slice-there.result.now kept.records.first.now kept.second.now c.from-place.result c.args.ordinal
    c.as_slice-there.ensures c.requires.kept.first c.requires.kept.second c.from-place.ensures c.requires.kept.half c.requires.live c.requires.list in
    let put = c.copy_list.ensures in
    let all : IsListPut c.as_slice.result.now c.args.first.now c.args.second.now c.copy_list.new.first c.copy_list.new.second c.from-place.result c.args.start c.copy_list.result (elements_of c.in-Some.elements) =
    record { ends = put.end; pointer = put.pointer; spelled = put.spelled; earlier = put.earlier; pointer_bits = put.pointer_bits; element_bits = put.element_bits } in
    subst (λ (elements : List ℕ). IsListPut c.args.widths.now c.args.first.now c.args.second.now c.copy_list.new.first c.copy_list.new.second c.args.ordinal c.args.start c.copy_list.result elements) (c.in-Some.ensures.1 ∙ sym is.are)
    (subst (λ (widths : List ℕ). IsListPut widths c.args.first.now c.args.second.now c.copy_list.new.first c.copy_list.new.second c.args.ordinal c.args.start c.copy_list.result (elements_of c.in-Some.elements)) c.as_slice.ensures
    (subst (λ (place : ℕ). IsListPut c.as_slice.result.now c.args.first.now c.args.second.now c.copy_list.new.first c.copy_list.new.second place c.args.start c.copy_list.result (elements_of c.in-Some.elements)) c.from-place.ensures all))

use Rattle.std.proofs.Common.{List, ℕ, sym, subst, ◌∙◌}
use Rattle.packed_half.specs.Laying.{IsListPut}
use Rattle.list_codec.specs.Elements.{elements_of}
use Rattle.type_state.proofs.Comings.{list_is}
use Rattle.type_state.proofs.differences.Differences.copy_list.Goals as goal

pub returns : goal.returns
returns c =
    let is = list_is c.args.self.now.schema.now.shape c.args.self.now.patch.now c.args.there c.as_slice.result.now c.as_slice-2.result.now c.as_slice-3.result.now c.requires.list c.as_slice.ensures c.as_slice-2.ensures c.as_slice-3.ensures in
    let put = c.copy_list.ensures in
    let all : IsListPut c.as_slice-in-Some.result.now c.args.first.now c.args.second.now c.copy_list.new.first c.copy_list.new.second c.args.place c.args.start c.copy_list.result (elements_of c.in-Some.elements) =
    record { ends = put.end; pointer = put.pointer; spelled = put.spelled; earlier = put.earlier; pointer_bits = put.pointer_bits; element_bits = put.element_bits } in
    subst (λ (elements : List ℕ). IsListPut c.args.widths.now c.args.first.now c.args.second.now c.copy_list.new.first c.copy_list.new.second c.args.place c.args.start c.copy_list.result elements) (c.in-Some.ensures.1 ∙ sym is)
    (subst (λ (widths : List ℕ). IsListPut widths c.args.first.now c.args.second.now c.copy_list.new.first c.copy_list.new.second c.args.place c.args.start c.copy_list.result (elements_of c.in-Some.elements)) c.as_slice-in-Some.ensures all)

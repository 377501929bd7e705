use Rattle.std.proofs.Common.{◌+◌, ◌*◌, ◌≤◌, ◌∙◌, sym, refl, arith}
use Rattle.std.proofs.lemmas.List.FromFn.{get_or-map-range_with_len}
use Rattle.std.proofs.Math.Nat.{mul-le-mul}
use Rattle.bit_array.specs.Element.{element_of}
use Rattle.list_codec.proofs.elements.Elements.element.Goals as goal

pub element_at-requires-clause-inside : goal.element_at-requires-clause-inside
element_at-requires-clause-inside c =
    let e = c.args.self in
    let step : e.start + c.args.index + 1 ≤ e.start + e.len = omega arith in
    let same : e.width ≤ e.width = omega arith in
    let product : (e.start + c.args.index + 1) * e.width ≤ (e.start + e.len) * e.width = mul-le-mul step same in
    omega arith

pub returns : goal.returns
returns c =
    let e = c.args.self in
    c.element_at.ensures ∙ sym (get_or-map-range_with_len (λ index. element_of e.words.now (index * e.width) e.width) e.start e.len c.args.index (e.start + c.args.index) 0 c.requires refl)

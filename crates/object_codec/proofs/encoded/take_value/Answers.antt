use Rattle.std.proofs.Common.{ap, ◌∙◌, length, refl}
use Rattle.std.proofs.lemmas.Option.{slice_get_past, slice_get_read}
use Rattle.object_codec.specs.Encoded.{end_element, gap_element}
use Rattle.object_codec.proofs.ValueElements.{number_taken, bytes_taken, none_taken, end_is}
use Rattle.object_codec.proofs.encoded.take_value.Goals as goal

pub returns-in_default : goal.returns-in_default
returns-in_default c =
    none_taken c.args.kind.now c.args.width c.gap_element.result c.args.area.now _ (slice_get_past c.args.values.now c.args.index c.in_default.ensures.lookup.3)
    (c.gap_element.ensures ∙ ap (gap_element c.args.kind.now) c.len.ensures) c.requires.wide c.requires.end

pub returns-then-not-has_bytes : goal.returns-then-not-has_bytes
returns-then-not-has_bytes c =
    let lookup = c.in-Some.ensures.lookup in
    let there = slice_get_read c.args.values.now (length c.args.values.now) c.args.index c.in-Some.value.now refl lookup.3.0 lookup.1 in
    number_taken c.args.kind.now c.args.width c.number_element.result c.args.area.now _ c.in-Some.value.now there c.number_element.ensures.is
    (λ has. let is = c.has_bytes.ensures.1 has in let is_not = c.if-not-has_bytes.true in absurd cc)
    c.requires.wide c.requires.fits c.requires.number c.number_element.ensures.below

pub end_element-requires-clause-end : goal.end_element-requires-clause-end
end_element-requires-clause-end c =
    let lookup = c.in-Some.ensures.lookup in
    let there = slice_get_read c.args.values.now (length c.args.values.now) c.args.index c.in-Some.value.now refl lookup.3.0 lookup.1 in
    end_is c.args.area.now c.push_bytes.new.area c.len-2.result c.args.width _ c.in-Some.value.now there c.in_ok-push_bytes.ensures.ok c.len-2.ensures (c.requires.end (c.has_bytes.ensures.0 c.if-not-has_bytes.false))

pub returns : goal.returns
returns c =
    let lookup = c.in-Some.ensures.lookup in
    let there = slice_get_read c.args.values.now (length c.args.values.now) c.args.index c.in-Some.value.now refl lookup.3.0 lookup.1 in
    bytes_taken c.args.kind.now c.args.width c.end_element.result c.args.area.now c.push_bytes.new.area _ c.in-Some.value.now there
    (c.end_element.ensures ∙ ap (λ end. end_element c.args.width end c.in-Some.value.now) c.len-2.ensures) c.in_ok-push_bytes.ensures.ok
    (c.has_bytes.ensures.0 c.if-not-has_bytes.false)
    c.requires.wide c.requires.fits c.requires.number c.in_ok-push_bytes.ensures.are c.requires.end

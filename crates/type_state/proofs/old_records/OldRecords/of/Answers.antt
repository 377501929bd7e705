use Rattle.std.proofs.Common.{ap, subst, ◌∙◌, ◌*◌, ◌<◌, ◌^◌, ℕ, length, sym, arith}
use Rattle.std.specs.Prelude.{sum}
use Rattle.schema_model.specs.declared.schema.Schema.{Schema}
use Rattle.schema_model.specs.declared.schema.Shape.{Shape}
use Rattle.packed_half.specs.Half.{section_in}
use Rattle.type_state.proofs.OldPlaces.{bits_small, holds_each, old_records, size_small}
use Rattle.type_state.proofs.old_records.OldRecords.of.Goals as goal

pub overflow_cast-size : goal.overflow_cast-size
overflow_cast-size c =
    let small = size_small c.args.schema.now.shape c.args.current.half.now c.args.current.words.now c.args.ordinals.now c.requires.kept c.requires.can c.requires.live in
    omega (arith, small, c.total_width-size.ensures.total, ap sum c.as_slice.ensures)

pub copies_of-requires-clause-source : goal.copies_of-requires-clause-source
copies_of-requires-clause-source c =
    let half = c.args.current.half.now in
    let words = c.args.current.words.now in
    holds_each c.args.schema.now.shape half words c.args.ordinals.now c.requires.kept c.requires.can c.requires.live c.places.result.now c.total_width-size.result
    (c.places.ensures ∙ ap (λ (s : Shape). (section_in s half words).first) c.requires.shape) (c.total_width-size.ensures.total ∙ ap sum c.as_slice.ensures)

pub copies_of-requires-clause-counted : goal.copies_of-requires-clause-counted
copies_of-requires-clause-counted c =
    subst (λ (size : ℕ). length c.args.ordinals.now * size < 2 ^ 64) (sym (c.total_width-size.ensures.total ∙ ap sum c.as_slice.ensures))
    (bits_small c.args.schema.now.shape c.args.current.half.now c.args.current.words.now c.args.ordinals.now c.requires.kept c.requires.can c.requires.live)

pub invariant_of-result : goal.invariant_of-result
invariant_of-result c =
    let half = c.args.current.half.now in
    let words = c.args.current.words.now in
    (old_records c.args.schema.now.shape half words c.args.ordinals.now c.requires.kept c.requires.can c.requires.live c.places.result.now c.in_ok-first.first c.in_ok-copy-2.field-0 c.as_slice-2.result.now c.from_vec.result c.total_width-size.result
    c.in_ok-copy.field-0.shape (c.places.ensures ∙ ap (λ (s : Shape). (section_in s half words).first) c.requires.shape) (c.total_width-size.ensures.total ∙ ap sum c.as_slice.ensures) c.in_ok-copy-2.ensures
    (ap (λ (s : Schema). s.shape) c.in_ok-copy.ensures) c.as_slice-2.ensures (c.from_vec.ensures ∙ c.in_ok-areas.ensures) c.in_ok-first.ensures).0

pub returns : goal.returns
returns c =
    let half = c.args.current.half.now in
    let words = c.args.current.words.now in
    (old_records c.args.schema.now.shape half words c.args.ordinals.now c.requires.kept c.requires.can c.requires.live c.places.result.now c.in_ok-first.first c.in_ok-copy-2.field-0 c.as_slice-2.result.now c.from_vec.result c.total_width-size.result
    c.in_ok-copy.field-0.shape (c.places.ensures ∙ ap (λ (s : Shape). (section_in s half words).first) c.requires.shape) (c.total_width-size.ensures.total ∙ ap sum c.as_slice.ensures) c.in_ok-copy-2.ensures
    (ap (λ (s : Schema). s.shape) c.in_ok-copy.ensures) c.as_slice-2.ensures (c.from_vec.ensures ∙ c.in_ok-areas.ensures) c.in_ok-first.ensures).1

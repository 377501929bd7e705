use Rattle.std.proofs.Common.{ap}
use Rattle.schema_model.specs.declared.schema.Schema.{Schema}
use Rattle.type_state.proofs.OldCopies.{old_copies}
use Rattle.type_state.proofs.old_records.OldRecords.copied.Goals as goal

pub invariant_of-result : goal.invariant_of-result
invariant_of-result c =
    (old_copies c.args.schema.now.shape c.args.current.half.now c.args.current.words.now c.args.ordinals.now c.requires.kept c.requires.can c.requires.live c.in_ok-copies_of_records.field-0.first c.in_ok-copies_of_records.field-0.areas
    c.in_ok-copies_of_records.ensures c.in_ok-copy-2.field-0 c.in_ok-copy.field-0.shape c.in_ok-copy-2.ensures (ap (λ (s : Schema). s.shape) c.in_ok-copy.ensures)).0

pub returns : goal.returns
returns c =
    (old_copies c.args.schema.now.shape c.args.current.half.now c.args.current.words.now c.args.ordinals.now c.requires.kept c.requires.can c.requires.live c.in_ok-copies_of_records.field-0.first c.in_ok-copies_of_records.field-0.areas
    c.in_ok-copies_of_records.ensures c.in_ok-copy-2.field-0 c.in_ok-copy.field-0.shape c.in_ok-copy-2.ensures (ap (λ (s : Schema). s.shape) c.in_ok-copy.ensures)).1

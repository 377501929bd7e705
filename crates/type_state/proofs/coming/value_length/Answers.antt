use Rattle.std.proofs.Common.{refl, ◌∙◌}
use Rattle.object_codec.specs.ObjectPlace.{part_at}
use Rattle.type_rows.proofs.RecordLengths.{given_long, given_or_failed, no_bytes}
use Rattle.type_state.proofs.coming.value_length.Goals as goal

pub returns-then-not-has_bytes : goal.returns-then-not-has_bytes
returns-then-not-has_bytes c = λ place before area value is held long spells.
    no_bytes c.args.kind.now (part_at c.args.first.now c.args.size place before c.args.width area) value (λ has. absurd (let told = c.has_bytes.ensures.1 has in let not = c.if-not-has_bytes.true in cc)) spells

pub returns-in-Ok : goal.returns-in-Ok
returns-in-Ok c = λ place before area value is held long spells.
    c.run_length.ensures ∙ given_long c.args.kind.now (part_at c.args.first.now c.args.size place before c.args.width area) c.in-Ok.part value (c.if-not-has_bytes.ensures.0 refl)
    (c.in-Ok.ensures.tells place before area is held long) spells

pub returns-in-Err : goal.returns-in-Err
returns-in-Err c = λ place before area value is held long spells.
    absurd (given_or_failed c.args.kind.now (part_at c.args.first.now c.args.size place before c.args.width area) c.in-Err.field-0 value (c.in-Err.ensures.tells place before area is held long) spells)

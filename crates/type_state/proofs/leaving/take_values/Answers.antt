use Rattle.std.proofs.Common.{rules, arith, length, refl}
use Rattle.std.proofs.lemmas.Option.{slice_get_read}
use Rattle.type_state.proofs.LeavingRows.{ends_taken, one_more}
use Rattle.type_state.proofs.leaving.take_values.Goals as goal

pub value_len-len-requires : goal.value_len-len-requires
value_len-len-requires c =
    c.requires.reads c.loop-field.field c.index-columns-field.result (slice_get_read c.args.columns.now (length c.args.columns.now) c.loop-field.field c.index-columns-field.result refl (omega arith) c.index-columns-field.is)

pub loop-field-preserved : goal.loop-field-preserved
loop-field-preserved c =
    one_more c.args.columns.now c.args.place c.args.ends.now c.loop-field.ends c.loop-field.bytes c.loop-field.field c.index-columns-field.result c.value_len-len.result c.saturating_sub.result c.saturating_add-bytes.result
    c.loop-field.invariant (omega arith) (omega (arith, c.requires.enough)) (slice_get_read c.args.columns.now (length c.args.columns.now) c.loop-field.field c.index-columns-field.result refl (omega arith) c.index-columns-field.is)
    (search rules) c.value_len-len.ensures (search rules) (search rules) (search rules)

pub returns-clause-ends : goal.returns-clause-ends
returns-clause-ends c = ends_taken c.args.columns.now c.args.place c.args.ends.now c.loop-field.ends c.loop-field.bytes c.loop-field.field c.loop-field.invariant (omega arith)

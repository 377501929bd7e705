use Rattle.std.proofs.Common.{subst}
use Rattle.object_codec.specs.Columns.{Shows}
use Rattle.object_codec.specs.declared.value_ref.ValueRef.{ValueRef}
use Rattle.type_state.proofs.LeavingRows.{run_long, text_long}
use Rattle.type_state.proofs.leaving.value_len.Goals as goal

pub returns-in-Text : goal.returns-in-Text
returns-in-Text c = λ value spells. text_long c.in-Text.bytes value (subst (λ (shown : ValueRef). Shows shown value) c.in-Text.is (c.value.ensures value spells))

pub returns-in-Bytes : goal.returns-in-Bytes
returns-in-Bytes c = λ value spells. run_long c.in-Bytes.bytes value (subst (λ (shown : ValueRef). Shows shown value) c.in-Bytes.is (c.value.ensures value spells))

use Rattle.std.proofs.Common.{sym, ◌∙◌}
use Rattle.serde_json.specs.View.{view}
use Rattle.hollow_machine.specs.KeyPaths.{texts_of_array}
use Rattle.chain_laws.proofs.OneKey.{one_find, one_get}
use Rattle.chain_laws.proofs.OneLook.{one_live, one_row}
use Rattle.chain_laws.proofs.OneMember.{one_at, one_has}
use Rattle.chain_laws.proofs.OneReach.{one_walkfind}
use Rattle.chain_laws.proofs.PastLaws.{one_past}
use Rattle.chain_laws.proofs.TypedConsumers.{typed_if}
use Rattle.chain_laws.proofs.laws.one_look.Goals as goal

pub returns : goal.returns
returns c = record {
  live = λ machine next after name answer other one also. (one_live machine.consumer name answer other one.0 also.0, one.1 ∙ sym also.1);
  row = λ machine next after name ordinal answer other one also. (one_row machine.consumer name ordinal answer other one.0 also.0, one.1 ∙ sym also.1);
  has = λ machine next after name ordinal element answer other one also. (one_has machine.consumer name ordinal element answer other one.0 also.0, one.1 ∙ sym also.1);
  at = λ machine next after name ordinal key answer other is one also. (one_at machine.consumer name ordinal key answer other (typed_if machine.consumer is) one.0 also.0, one.1 ∙ sym also.1);
  get = λ machine next after name values answer other is one also. (one_get machine.consumer name (view values) answer other (typed_if machine.consumer is) one.0 also.0, one.1 ∙ sym also.1);
  find = λ machine next after name paths values answer other is one also. (
    one_find machine.consumer name (texts_of_array (view paths)) (view values) answer other (typed_if machine.consumer is) one.0 also.0,
    one.1 ∙ sym also.1,
  );
  walkfind = λ machine next after name path value answer other is one also. (one_walkfind machine.consumer name path (view value) answer other (typed_if machine.consumer is) one.0 also.0, one.1 ∙ sym also.1);
  past = λ machine next after name answer other one also. (one_past machine.consumer name answer other one.0 also.0, one.1 ∙ sym also.1);
}

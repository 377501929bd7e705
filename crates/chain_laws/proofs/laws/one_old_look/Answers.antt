use Rattle.std.proofs.Common.{sym, ◌∙◌}
use Rattle.serde_json.specs.View.{view}
use Rattle.chain_laws.proofs.HistoryLaws.{one_was, one_wasget}
use Rattle.chain_laws.proofs.TypedConsumers.{typed_if}
use Rattle.chain_laws.proofs.laws.one_old_look.Goals as goal

pub returns : goal.returns
returns c = record {
  was = λ machine next after version name ordinal answer other is one also. (
    one_was machine.consumer machine.version machine.past version name ordinal answer other (typed_if machine.consumer is) one.0 also.0,
    one.1 ∙ sym also.1,
  );
  wasget = λ machine next after version name values answer other is one also. (
    one_wasget machine.consumer machine.version machine.past version name (view values) answer other (typed_if machine.consumer is) one.0 also.0,
    one.1 ∙ sym also.1,
  );
}

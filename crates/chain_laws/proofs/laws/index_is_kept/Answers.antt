use Rattle.serde_json.specs.View.{view}
use Rattle.schema_model.specs.declared.model.rule.Rule.TheVariants.{DuplicateName}
use Rattle.hollow_machine.specs.KeyPaths.{texts_of_array}
use Rattle.chain_laws.proofs.FreshIndexes.{index_kept, index_new}
use Rattle.chain_laws.proofs.laws.index_is_kept.Goals as goal

pub returns : goal.returns
returns c = record {
  new = λ machine next now name paths index keys was is asks none step. index_new machine next now name (texts_of_array (view paths)) index keys was (is.model DuplicateName) asks step none;
  kept = λ machine next now name paths index keys was is asks there step. index_kept machine next now name (texts_of_array (view paths)) index keys was (is.model DuplicateName) asks step there;
}

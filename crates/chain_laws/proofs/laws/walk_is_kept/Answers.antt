use Rattle.schema_model.specs.declared.model.rule.Rule.TheVariants.{DuplicateName}
use Rattle.chain_laws.proofs.WalkedAfresh.{walk_kept, walk_new}
use Rattle.chain_laws.proofs.laws.walk_is_kept.Goals as goal

pub returns : goal.returns
returns c = record {
  new = λ machine next now name text path keys was is asks none step. walk_new machine next now name text path keys was (is.model DuplicateName) asks step none;
  kept = λ machine next now name text path keys was is asks there step. walk_kept machine next now name text path keys was (is.model DuplicateName) asks step there;
}

use Rattle.std.proofs.Common.{is_some, rules, tests}
use Rattle.std.specs.Map.{values_of}
use Rattle.std.proofs.lemmas.Iterator.Consumers.{YieldsList-from_rest}
use Rattle.std.proofs.lemmas.Iterator.Search.{all_from_yields_List}
use Rattle.serde_json.specs.Find.{as_array}
use Rattle.serde_json.specs.View.{view}
use Rattle.hol_orders.proofs.Lists.{arrays}
use Rattle.hol_orders.proofs.json_parts.are_arrays.Goals as goal

pub returns : goal.returns
returns c = arrays c.args.members.now.entries _ (all_from_yields_List (λ v. is_some (as_array (view v))) _ _ _ c.all.ensures.ran (YieldsList-from_rest (values_of c.args.members.now.entries) c.values.ensures.rest) (λ x b q k. search (rules, tests)))

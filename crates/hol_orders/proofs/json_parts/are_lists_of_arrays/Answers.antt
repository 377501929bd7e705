use Rattle.std.proofs.Common.{rules, tests}
use Rattle.std.specs.Map.{values_of}
use Rattle.std.proofs.lemmas.Iterator.Consumers.{YieldsList-from_rest}
use Rattle.std.proofs.lemmas.Iterator.Search.{all_from_yields_List}
use Rattle.serde_json.specs.View.{view}
use Rattle.hol_orders.specs.Shapes.{is_list_of_arrays}
use Rattle.hol_orders.proofs.Lists.{named_lists}
use Rattle.hol_orders.proofs.json_parts.are_lists_of_arrays.Goals as goal

pub returns : goal.returns
returns c = named_lists c.args.members.now.entries _ (all_from_yields_List (λ v. is_list_of_arrays (view v)) _ _ _ c.all.ensures.ran (YieldsList-from_rest (values_of c.args.members.now.entries) c.values.ensures.rest) (λ x b q k. search (rules, tests)))

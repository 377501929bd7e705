use Rattle.std.proofs.Common.{◌∙◌, is_some, rules, tests}
use Rattle.std.proofs.lemmas.Iterator.{YieldsList-from_slice}
use Rattle.std.proofs.lemmas.Iterator.Search.{all_from_yields_List}
use Rattle.serde_json.specs.Find.{as_array}
use Rattle.serde_json.specs.View.{view}
use Rattle.hol_orders.proofs.Lists.{lists}
use Rattle.hol_orders.proofs.json_parts.are_lists.Goals as goal

pub returns : goal.returns
returns c = all_from_yields_List (λ v. is_some (as_array (view v))) _ _ _ c.all.ensures.ran (YieldsList-from_slice c.args.items.now cc) (λ x b q k. search (rules, tests)) ∙ lists c.args.items.now

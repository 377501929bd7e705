use Rattle.std.proofs.Common.{rules, tests, string_bytes}
use Rattle.std.specs.Map.{keys_of}
use Rattle.std.proofs.lemmas.Iterator.Consumers.{YieldsList-from_rest}
use Rattle.std.proofs.lemmas.Iterator.Search.{all_from_yields_List}
use Rattle.record_json.specs.ReadTree.{is_field}
use Rattle.record_json.proofs.ReadingTrees.{known}
use Rattle.record_json.proofs.tree_values.are_all_fields.Goals as goal

pub returns : goal.returns
returns c = known c.args.fields.now c.args.members.now.entries _ (all_from_yields_List (λ key. is_field c.args.fields.now (string_bytes key)) _ _ _ c.all.ensures.ran (YieldsList-from_rest (keys_of c.args.members.now.entries) c.keys.ensures.rest) (λ x b q k. search (rules, tests)))

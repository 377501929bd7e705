-- What is told of the next record.
use Rattle.std.proofs.Common.{◌≡◌, ℕ, List, None}
use Rattle.json.specs.Token.{Token}
use Rattle.json.specs.Json.{after_end_array}
use Rattle.serde_json.specs.Data.{Data}
use Rattle.schema_model.specs.declared.schema.Schema.{Schema}
use Rattle.row_model.specs.PlainTree.{PlainTree}
use Rattle.record_json.specs.ReadTree.{read_tree}
use Rattle.record_stream.specs.Records.{AreAhead, record_depth}
use Rattle.record_stream.proofs.Records.{stepped}
use Rattle.record_tokens.specs.Next.{IsTreeAhead, TakesRecord, TellsTree}
use Rattle.record_tokens.specs.Taken.{Takes}
use Rattle.record_tokens.specs.declared.next.NextTree.TheVariants as next
use Rattle.record_tokens.specs.declared.next.Record.{Record}

pub tree_ahead : (schemas : List Schema) (type_index : ℕ) (old new : List Token) (tree : PlainTree) → after_end_array old ≡ None → Takes (read_tree schemas type_index) record_depth old tree new
    → (records : List Data) (rest : List Token) → AreAhead old records rest → IsTreeAhead schemas type_index records rest tree new
tree_ahead schemas type_index old new tree going (json, is, gives) records rest ahead =
    let step = stepped old new json records rest going is ahead in
    record { first = json; others = step.0; split = step.1; is = record { gives = gives }; ahead = step.2 }

pub record_told : (schemas : List Schema) (type_index : ℕ) (old new : List Token) (found : Record) → after_end_array old ≡ None → TakesRecord schemas type_index old found new
    → (records : List Data) (rest : List Token) → AreAhead old records rest → TellsTree schemas type_index records rest (next.Record found) new
record_told schemas type_index old new found going (tree, takes, is) records rest ahead = (tree, tree_ahead schemas type_index old new tree going takes records rest ahead, is)

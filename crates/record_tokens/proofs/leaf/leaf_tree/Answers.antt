use Rattle.std.proofs.Common.{◌≡◌, ◌∙◌, Ok, sym, ap, rules}
use Rattle.json.specs.Reads.{token_of}
use Rattle.serde_json.specs.Data.{string}
use Rattle.row_model.specs.declared.row.Value.{Value}
use Rattle.record_trees.specs.declared.tree.Tree.{Tree as RowTree, the_lemmas}
use Rattle.row_model.specs.PlainTree.{leaf}
use Rattle.record_trees.specs.Tree.{plain}
use Rattle.json_values.specs.ReadValue.{read_value}
use Rattle.record_json.specs.ReadTree.{made}
use Rattle.record_tokens.specs.Taken.{scalar}
use Rattle.record_tokens.proofs.leaf.leaf_tree.Goals as goal

pub returns-in_ok-units_of-in-Text-String : goal.returns-in_ok-units_of-in-Text-String
returns-in_ok-units_of-in-Text-String c =
    let text = c.in-Text-String.text.now in
    let units = c.in_ok-units_of-in-Text-String.field-0 in
    let shown : plain (RowTree.Text units) ≡ leaf (Value.Text units) = search (rules, the_lemmas) in (
      string text,
      ap (λ t. scalar (token_of t)) c.in-Text-String.is-1,
      ap (λ k. made leaf (read_value k (string text))) c.in-Text-String.is-0 ∙ ap (λ us. Ok (leaf (Value.Text us))) (sym c.in_ok-units_of-in-Text-String.ensures.ok) ∙ ap Ok (sym shown),
    )

use Rattle.std.proofs.Common.{◌∙◌, Ok, sym, ap}
use Rattle.json.specs.Reads.{token_of}
use Rattle.serde_json.specs.Data.{string}
use Rattle.row_model.specs.declared.row.Value.{Value}
use Rattle.json_values.specs.ReadValue.{read_value}
use Rattle.record_tokens.specs.Taken.{scalar}
use Rattle.record_tokens.proofs.row.leaf_value.Goals as goal

pub returns-in-Text-String-clause-read : goal.returns-in-Text-String-clause-read
returns-in-Text-String-clause-read c =
    let text = c.in-Text-String.text.now in (
      string text,
      ap (λ t. scalar (token_of t)) c.in-Text-String.is-1,
      ap (λ k. read_value k (string text)) c.in-Text-String.is-0 ∙ ap (λ us. Ok (Value.Text us)) (sym c.in_ok-units_of.ensures.ok),
    )

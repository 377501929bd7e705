-- What is answered of the type of a name, by its index.
use Rattle.std.proofs.Common.{◌≡◌, ℕ, List, Option, Some, Result, Ok, Err, IfOk, sym, ap, ◌∙◌, subst}
use Rattle.schema_model.specs.declared.schema.Schema.{Schema}
use Rattle.schema_model.specs.Parts.{index_of_type}
use Rattle.row_model.specs.Table.{Table}
use Rattle.read_engine.specs.Position.{Position}
use Rattle.hol_answers.specs.declared.reply.Reply.{Reply}
use Rattle.hollow_machine.specs.RowOrders.{AnswersAt}

module _ (E : Type 0) (schemas model : List Schema) (table : Table) (name : List ℕ) (Answers : Table → Position → ℕ → Reply → Type 0) (is_model : model ≡ schemas) where
  at_index : (now : Position) (found : Option ℕ) → now.schemas ≡ schemas → found ≡ index_of_type model name → index_of_type now.schemas name ≡ found
  at_index now found same is = ap (λ (s : List Schema). index_of_type s name) (same ∙ sym is_model) ∙ sym is

  -- What is answered of the type at the index is answered of the name.
  pub of_index : (found : Option ℕ) (t : ℕ) (result : Result Reply E) → found ≡ index_of_type model name → found ≡ Some t →
      ((now : Position) → now.schemas ≡ schemas → IfOk result (Answers table now t)) → (now : Position) → now.schemas ≡ schemas →
      IfOk result (AnswersAt now (index_of_type now.schemas name) name (Answers table))
  of_index found t (Err stop) is some answers now same = tt
  of_index found t (Ok answer) is some answers now same =
      subst (λ (index : Option ℕ). AnswersAt now index name (Answers table) answer) (sym (at_index now found same is ∙ some)) (answers now same)

-- The rows of a version: those that a consumer has where it is its own, and else those that its history leads from.
use Rattle.std.proofs.Common.{◌≡◌, ℕ, suc, List, [], ◌∷◌, Bool, false, cond, Option, Some, None, refl, sym, ap, ◌∙◌, subst, arith, eqb}
use Rattle.std.specs.Prelude.{Contains}
use Rattle.std.specs.List.{find}
use Rattle.std.specs.Option.{option_map}
use Rattle.std.proofs.lemmas.Bool.{ne_eqb}
use Rattle.schema_model.specs.declared.schema.Schema.{Schema}
use Rattle.row_model.specs.Before.{table_before}
use Rattle.row_model.specs.Table.{IsClosed, Table}
use Rattle.hol_history.specs.History.{PastStep, table_then, tables_of, versions}
use Rattle.read_engine.specs.Position.{Position}
use Rattle.hol_answers.specs.declared.refusal.Refusal.TheVariants.{NotKept}
use Rattle.hol_answers.specs.declared.reply.Reply.{Reply}
use Rattle.hol_answers.specs.declared.reply.Reply.TheVariants as reply
use Rattle.hollow_machine.specs.HistoryOrders.{AnswersThen}
use Rattle.hollow_machine.specs.Kept.{AreClosed}
use Rattle.hollow_machine.proofs.ClosedPast.{closed_then}

-- no step led from a version
not_then : (now : Table) (steps : List PastStep) (version : ℕ) → (¬ Contains (versions steps) version) → table_then (tables_of now steps) version ≡ None
unfolding tables_of
not_then now [] version never = refl
not_then now (step ∷ steps) version never =
    let apart : eqb step.from version ≡ false = ne_eqb step.from version (λ same. never (0, omega arith, same)) in
    let past = tables_of (table_before now step.past) steps in
    ap (λ (b : Bool). option_map (λ (pair : ℕ × Table). pair.1) (cond b (Some (step.from, table_before now step.past)) (find (λ (pair : ℕ × Table). eqb pair.0 version) past))) apart
    ∙ not_then (table_before now step.past) steps version (λ among. never (suc among.0, omega (arith, among.1), among.2))

-- The rows of a version that the steps led from are closed.
pub closed_old : (schemas schemas' : List Schema) (table old : Table) (steps : List PastStep) (wanted : ℕ) → AreClosed schemas (tables_of table steps) → schemas' ≡ schemas →
    table_then (tables_of table steps) wanted ≡ Some old → IsClosed schemas' old
closed_old schemas schemas' table old steps wanted closed same is =
    subst (λ (s : List Schema). IsClosed s old) (sym same) (closed_then schemas (tables_of table steps) wanted old closed is)

-- What is answered of a version that no step led from.
pub of_none : (table : Table) (steps : List PastStep) (wanted : ℕ) (name : List ℕ) (Answers : Table → Position → ℕ → Reply → Type 0) → (¬ Contains (versions steps) wanted) → (now : Position) →
    AnswersThen now (table_then (tables_of table steps) wanted) wanted name Answers (reply.Refused (NotKept wanted))
of_none table steps wanted name Answers never now =
    subst (λ (found : Option Table). AnswersThen now found wanted name Answers (reply.Refused (NotKept wanted))) (sym (not_then table steps wanted never)) refl

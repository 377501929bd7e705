-- What an order about a type is answered: that there is no state or no such type, or of the type.
use Rattle.std.proofs.Common.{◌≡◌, ℕ, Option, None, Some, IfSome, refl, subst, sym}
use Rattle.schema_model.specs.declared.schema.name.Name.{Name}
use Rattle.schema_model.specs.Parts.{index_of_type}
use Rattle.read_engine.specs.Position.{Position}
use Rattle.step_laws.specs.Typed.{HasTypes}
use Rattle.hol_answers.specs.declared.refusal.Refusal.TheVariants.{NoState, NoType}
use Rattle.hol_answers.specs.declared.reply.Reply.{Reply}
use Rattle.hol_answers.specs.declared.reply.Reply.TheVariants.{Refused}
use Rattle.hollow_machine.specs.RowOrders.{AnswersAt, AnswersOf}

pub of_type : (now : Position) (name : Name) (Answers : Position → ℕ → Reply → Type 0) → ((t : ℕ) → index_of_type now.schemas name ≡ Some t → ((answer : Reply) → Answers now t answer → ⊥) → ⊥)
    → ((answer : Reply) → AnswersAt now (index_of_type now.schemas name) name Answers answer → ⊥) → ⊥
of_type now name Answers each none = by_index (index_of_type now.schemas name) refl
  where
    by_index : (found : Option ℕ) → index_of_type now.schemas name ≡ found → ⊥
    by_index None is = none (Refused (NoType name)) (subst (λ (o : Option ℕ). AnswersAt now o name Answers (Refused (NoType name))) (sym is) refl)
    by_index (Some t) is = each t is (λ answer answers. none answer (subst (λ (o : Option ℕ). AnswersAt now o name Answers answer) (sym is) answers))

pub of_consumer : (consumer : Option Position) → IfSome consumer HasTypes → (name : Name) (Answers : Position → ℕ → Reply → Type 0)
    → ((now : Position) → HasTypes now → (t : ℕ) → index_of_type now.schemas name ≡ Some t → ((answer : Reply) → Answers now t answer → ⊥) → ⊥)
    → ((answer : Reply) → AnswersOf consumer name Answers answer → ⊥) → ⊥
of_consumer None position name Answers each none = none (Refused NoState) refl
of_consumer (Some now) position name Answers each none = of_type now name Answers (each now position) none

-- That there is just one answer: that there is none cannot be, and each other one says the same and leaves the same machine.
use Rattle.std.specs.Prelude.{◌≡◌, ℕ, List, Bool}
use Rattle.hol_io.specs.Store.{Store}
use Rattle.hol_orders.specs.declared.order.Order.{Order}
use Rattle.hol_answers.specs.declared.reply.Reply.{Reply}
use Rattle.hollow_machine.specs.MakeCommand.{Makes}
use Rattle.hollow_machine.specs.Script.{Script}
use Rattle.hollow_machine.specs.State.{Machine}
use Rattle.hollow_machine.specs.Step.{Step}
use Rattle.chain_laws.specs.Answers.{SaysOne}

-- An order has just one answer line, and leaves just one machine.
abbrev pub IsAnsweredOnce : Machine → Order → Type 0
IsAnsweredOnce machine asked =
    ((answer : Reply) (next : Machine) → Step machine asked answer next
    → ((other : Reply) (after : Machine) → Step machine asked other after → SaysOne other answer × (after ≡ next)) → ⊥) → ⊥

-- A script has just one text and one verdict, and leaves just one machine.
abbrev pub IsScriptedOnce : Machine → List (List ℕ) → Type 0
IsScriptedOnce machine lines =
    ((text : List ℕ) (refused : Bool) (next : Machine) → Script machine lines text refused next
    → ((other : List ℕ) (also : Bool) (after : Machine) → Script machine lines other also after → (other ≡ text) × (also ≡ refused) × (after ≡ next)) → ⊥) → ⊥

-- The command `make` has just one answer over a store, and leaves just one machine.
abbrev pub IsMadeOnce : Store → ℕ → ℕ → ℕ → Type 0
IsMadeOnce store seed rows cycles =
    ((answer : Reply) (next : Machine) → Makes store seed rows cycles answer next
    → ((other : Reply) (after : Machine) → Makes store seed rows cycles other after → (other ≡ answer) × (after ≡ next)) → ⊥) → ⊥

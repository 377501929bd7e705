-- The type that an order asks of, where the consumer stands.
use Rattle.std.proofs.Common.{◌≡◌, ◌<◌, ℕ, List, Option, Some, None, Result, Ok, Err, IfOk, get_or, length, sym, subst}
use Rattle.std.specs.Prelude.{All, IsSomeAnd}
use Rattle.std.proofs.lemmas.List.Elements.{Contains-get_or}
use Rattle.schema_model.specs.declared.schema.Schema.{Schema}
use Rattle.row_model.specs.Table.{IsLive, Table}
use Rattle.schema_model.proofs.Ways.{type_inside}
use Rattle.read_engine.specs.Gone.{AreGone}
use Rattle.read_engine.specs.Position.{Position}
use Rattle.hol_orders.specs.declared.order_stop.OrderStop.{OrderStop}
use Rattle.hol_answers.specs.declared.reply.Reply.{Reply}
use Rattle.hollow_machine.specs.RowOrders.{AnswersAt, PastReply, ShowsPast}
use Rattle.consumer_orders.specs.Asked.{TellsType}
use Rattle.consumer_orders.specs.declared.type_order.Asked.TheVariants.{At}

-- The type is one of the consumer's model.
pub inside_model : (consumer : Option Position) (name : List ℕ) (t : ℕ) → TellsType consumer name (At t) → IsSomeAnd consumer (λ now. t < length now.schemas)
inside_model None name t asked = absurd asked
inside_model (Some now) name t asked = type_inside now.schemas name t asked

-- The type is one of these schemas, which are those of the model.
pub inside : (consumer : Option Position) (name : List ℕ) (t : ℕ) (schemas : List Schema) → TellsType consumer name (At t) → IsSomeAnd consumer (λ now. now.schemas ≡ schemas) → t < length schemas
inside None name t schemas asked same = absurd asked
inside (Some now) name t schemas asked same = subst (λ (s : List Schema). t < length s) same (type_inside now.schemas name t asked)

-- The rows that left were live before.
pub were_live : (consumer : Option Position) (t : ℕ) (table : Table) (gone : List ℕ) → IsSomeAnd consumer (λ now. now.before ≡ table) → IsSomeAnd consumer (λ now. AreGone now t gone) → All (IsLive table t) gone
were_live None t table gone before are = absurd before
were_live (Some now) t table gone before are = λ k d within.
    let ordinal : ℕ = get_or gone k d in
    subst (λ (rows : Table). IsLive rows t ordinal) before ((are.are ordinal).0 (Contains-get_or gone k d within)).0

-- What `past` shows of the type is what it answers.
pub past_answers : (consumer : Option Position) (name : List ℕ) (t : ℕ) (schemas : List Schema) (table : Table) (gone : List ℕ) (result : Result Reply OrderStop) → TellsType consumer name (At t) →
    IsSomeAnd consumer (λ now. now.schemas ≡ schemas) → IsSomeAnd consumer (λ now. now.before ≡ table) → IsSomeAnd consumer (λ now. AreGone now t gone) →
    ((now : Position) → now.schemas ≡ schemas → now.before ≡ table → AreGone now t gone → IfOk result (ShowsPast now t)) → IfOk result (λ reply. PastReply consumer name reply)
past_answers None name t schemas table gone result asked same before are shows = absurd asked
past_answers (Some now) name t schemas table gone (Ok reply) asked same before are shows = subst (λ (found : Option ℕ). AnswersAt now found name ShowsPast reply) (sym asked) (shows now same before are)
past_answers (Some now) name t schemas table gone (Err stop) asked same before are shows = tt

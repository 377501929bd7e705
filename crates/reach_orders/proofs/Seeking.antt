-- The order `walkfind`: what it answers, by what the consumer tells.
use Rattle.std.proofs.Common.{◌≡◌, ◌<◌, ℕ, List, Option, Some, None, Result, Ok, Err, IfOk, length, sym, ap, subst, ◌∙◌}
use Rattle.std.specs.Prelude.{Contains, IsSomeAnd, slice_get}
use Rattle.std.proofs.lemmas.Option.{get_or_from_slice_get, slice_get_within}
use Rattle.serde_json.specs.Data.{Data}
use Rattle.schema_model.specs.declared.model.walk_path.WalkPath.{WalkPath}
use Rattle.schema_model.specs.declared.schema.FieldKind.{FieldKind}
use Rattle.schema_model.specs.declared.schema.Schema.{Schema}
use Rattle.schema_model.specs.WalkPath.{WalkResolves}
use Rattle.row_model.specs.declared.row.Value.{Value}
use Rattle.row_model.specs.Reach.{AreWalkMatches}
use Rattle.json_values.specs.declared.fault.KeyFault.{KeyFault}
use Rattle.json_values.specs.declared.fault.KeyFault.TheVariants as key_fault
use Rattle.json_values.specs.KeyFrom.{TellsPart, key_part}
use Rattle.json_values.specs.ReadValue.{read_value}
use Rattle.read_engine.specs.Position.{Position, rows_now}
use Rattle.hol_answers.specs.declared.refusal.Refusal.{Refusal}
use Rattle.hol_answers.specs.declared.refusal.Refusal.TheVariants as refusal
use Rattle.hol_answers.specs.declared.reply.Reply.{Reply}
use Rattle.hol_answers.specs.declared.reply.Reply.TheVariants as reply
use Rattle.hollow_machine.specs.RowOrders.{AnswersAt}
use Rattle.hollow_machine.specs.WalkOrders.{IsLostWalk, ListsWalked, SpellsEnd, WalkFindReply, kind_walked}
use Rattle.consumer_orders.specs.Asked.{TellsType}
use Rattle.consumer_orders.specs.declared.type_order.Asked.TheVariants as asked
use Rattle.reach_orders.specs.Walked.{TellsAlong, TellsEnd, TellsWay}
use Rattle.reach_orders.specs.declared.walk_way.WalkWay.TheVariants as way

-- ---- the value at the end

one_kind : (o : Option FieldKind) (a b : FieldKind) → o ≡ Some a → o ≡ Some b → a ≡ b
one_kind o a b one other = let same : Some a ≡ Some b = sym one ∙ other in cc

-- What is read as the kind at the end of the path is what is spelled.
pub end_told : (schemas : List Schema) (path : WalkPath) (json : Data) (kind : FieldKind) (r : Result Value KeyFault) → kind_walked schemas path.type_index path.parts ≡ Some kind
    → TellsPart (key_part (read_value kind json)) r → TellsEnd schemas path json r
end_told schemas path json kind (Ok value) ends told = record { kind = kind; ends = ends; reads = told }
end_told schemas path json kind (Err key_fault.Shape) ends told = λ value spells.
    let same : kind ≡ spells.kind = one_kind (kind_walked schemas path.type_index path.parts) kind spells.kind ends spells.ends in
    let none : ◌≡◌ {A = Option Value} None (Some value) = sym told ∙ ap (λ (k : FieldKind). key_part (read_value k json)) same ∙ spells.reads in
    cc
end_told schemas path json kind (Err key_fault.Memory) ends told = tt

-- ---- in the walk index

module _ (consumer : Option Position) (walk : ℕ) (path : WalkPath) (at : IsSomeAnd consumer (λ now. slice_get now.walks walk ≡ Some path)) where
  -- The number of a walk index is one of those that are kept.
  pub number_inside : IsSomeAnd consumer (λ now. walk < length now.walks)
  number_inside = inside consumer at
    where
      inside : (c : Option Position) → IsSomeAnd c (λ now. slice_get now.walks walk ≡ Some path) → IsSomeAnd c (λ now. walk < length now.walks)
      inside None is = absurd is
      inside (Some now) is = slice_get_within now.walks walk path is

in_list : (walks : List WalkPath) (number : ℕ) (path : WalkPath) → slice_get walks number ≡ Some path → Contains walks path
in_list walks number path at = (number, slice_get_within walks number path at, get_or_from_slice_get walks number path path at)

-- The rows that the walk index finds are told along the path.
pub found_along : (consumer : Option Position) (schemas : List Schema) (walk : ℕ) (path : WalkPath) (json : Data) (value : Value) (ordinals : List ℕ) → IsSomeAnd consumer (λ now. now.schemas ≡ schemas)
    → IsSomeAnd consumer (λ now. slice_get now.walks walk ≡ Some path) → SpellsEnd schemas path json value
    → IsSomeAnd consumer (λ now. IsSomeAnd (slice_get now.walks walk) (λ kept. AreWalkMatches now.schemas (rows_now now) kept.type_index kept.parts value ordinals))
    → IsSomeAnd consumer (TellsAlong path json (reply.WalkFind ordinals))
found_along None schemas walk path json value ordinals same at spells matches = absurd same
found_along (Some now) schemas walk path json value ordinals same at spells matches = (
  in_list now.walks walk path at,
  (
    value,
    subst (λ (s : List Schema). SpellsEnd s path json value) (sym same) spells,
    subst (λ (o : Option WalkPath). IsSomeAnd o (λ kept. AreWalkMatches now.schemas (rows_now now) kept.type_index kept.parts value ordinals)) at matches,
  ),
)

-- The JSON spells no value.
pub no_value : (consumer : Option Position) (schemas : List Schema) (walk : ℕ) (path : WalkPath) (json : Data) (fault : KeyFault) → IsSomeAnd consumer (λ now. now.schemas ≡ schemas)
    → IsSomeAnd consumer (λ now. slice_get now.walks walk ≡ Some path) → fault ≡ key_fault.Shape → TellsEnd schemas path json (Err fault) → IsSomeAnd consumer (TellsAlong path json (reply.Refused refusal.BadKey))
no_value None schemas walk path json fault same at is tells = absurd same
no_value (Some now) schemas walk path json fault same at is tells = (
  in_list now.walks walk path at,
  subst (λ (s : List Schema). (value : Value) → SpellsEnd s path json value → ⊥) (sym same) (subst (λ (f : KeyFault). TellsEnd schemas path json (Err f)) is tells),
)

-- ---- of the type

module _ (schemas : List Schema) (t : ℕ) (text : List ℕ) (json : Data) where
  -- the text leads to no value
  pub lost_found : (consumer : Option Position) (why : Refusal) → IsSomeAnd consumer (λ now. now.schemas ≡ schemas) → TellsWay schemas t text (way.Refused why)
      → IsSomeAnd consumer (λ now. ListsWalked text json now t (reply.Refused why))
  lost_found None why same tells = absurd same
  lost_found (Some now) (refusal.BadPath lost) same tells = (tells.0, subst (λ (s : List Schema). IsLostWalk s t text) (sym same) tells.1)
  lost_found (Some now) _ same tells = absurd tells

  -- no walk index is kept of the path
  pub no_walk : (consumer : Option Position) (path : WalkPath) → IsSomeAnd consumer (λ now. now.schemas ≡ schemas) → WalkResolves schemas t text path → IsSomeAnd consumer (λ now. Contains now.walks path → ⊥)
      → IsSomeAnd consumer (λ now. ListsWalked text json now t (reply.Refused refusal.NoIndex))
  no_walk None path same resolves none = absurd same
  no_walk (Some now) path same resolves none = (path, subst (λ (s : List Schema). WalkResolves s t text path) (sym same) resolves, none)

  along_lists : (now : Position) (path : WalkPath) (answer : Reply) → now.schemas ≡ schemas → WalkResolves schemas t text path → TellsAlong path json answer now → ListsWalked text json now t answer
  along_lists now path (reply.WalkFind ordinals) same resolves (among, (value, spells, matches)) = (
    path,
    (subst (λ (s : List Schema). WalkResolves s t text path) (sym same) resolves, among),
    (value, spells, subst (λ (u : ℕ). AreWalkMatches now.schemas (rows_now now) u path.parts value ordinals) resolves.0 matches),
  )
  along_lists now path (reply.Refused refusal.BadKey) same resolves (among, never) = (path, (subst (λ (s : List Schema). WalkResolves s t text path) (sym same) resolves, among), never)
  along_lists now path (reply.Refused _) same resolves tells = absurd tells
  along_lists now path _ same resolves tells = absurd tells

  -- what is told along the path is told of the type
  pub type_lists : {E : Type 0} (consumer : Option Position) (path : WalkPath) (r : Result Reply E) → IsSomeAnd consumer (λ now. now.schemas ≡ schemas) → WalkResolves schemas t text path
      → IfOk r (λ reply. IsSomeAnd consumer (TellsAlong path json reply)) → IfOk r (λ reply. IsSomeAnd consumer (λ now. ListsWalked text json now t reply))
  type_lists consumer path (Err e) same resolves tells = tt
  type_lists None path (Ok answer) same resolves tells = absurd same
  type_lists (Some now) path (Ok answer) same resolves tells = along_lists now path answer same resolves tells

-- What is told of the type is what the order answers.
pub find_answers : (consumer : Option Position) (name text : List ℕ) (json : Data) (t : ℕ) (answer : Reply) → TellsType consumer name (asked.At t) → IsSomeAnd consumer (λ now. ListsWalked text json now t answer)
    → WalkFindReply consumer name text json answer
find_answers None name text json t answer known told = absurd known
find_answers (Some now) name text json t answer known told = subst (λ (o : Option ℕ). AnswersAt now o name (ListsWalked text json) answer) (sym known) told

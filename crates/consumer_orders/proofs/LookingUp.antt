-- What a look-up tells, by what the consumer's index tells.
use Rattle.std.proofs.Common.{◌≡◌, ◌<◌, ◌≤◌, ℕ, List, [], ◌∷◌, Option, Some, None, Result, Ok, Err, IfOk, length, get_or, refl, sym, ◌∙◌, subst, arith}
use Rattle.std.specs.Prelude.{Contains, IsSomeAnd, slice_get}
use Rattle.std.proofs.lemmas.Option.{get_or_from_slice_get, slice_get_within}
use Rattle.serde_json.specs.Data.{Data}
use Rattle.schema_model.specs.declared.model.path.Path.{Path}
use Rattle.row_model.specs.declared.row.Value.{Value}
use Rattle.schema_model.specs.declared.schema.Schema.{Schema}
use Rattle.row_model.specs.Key.{AreMatches}
use Rattle.row_model.specs.Table.{Table}
use Rattle.json_values.specs.declared.fault.KeyFault.{KeyFault}
use Rattle.json_values.specs.declared.fault.KeyFault.TheVariants as key_fault
use Rattle.json_values.specs.KeyFrom.{SpellsKey, TellsKey}
use Rattle.read_engine.specs.Indexes.{index_by}
use Rattle.read_engine.specs.Position.{Index, Position, rows_now}
use Rattle.hol_answers.specs.declared.refusal.Refusal.{Refusal}
use Rattle.hol_answers.specs.declared.refusal.Refusal.TheVariants as refusal
use Rattle.hol_answers.specs.declared.reply.Reply.{Reply}
use Rattle.hol_answers.specs.declared.reply.Reply.TheVariants as reply
use Rattle.hollow_machine.specs.KeyOrders.{FindReply, FindsUnder, ListsFound, LookUpRefusal, ShowsFound}
use Rattle.hollow_machine.specs.RowOrders.{AnswersAt}
use Rattle.consumer_orders.specs.Asked.{TellsType}
use Rattle.consumer_orders.specs.Sought.{TellsAlong, TellsFound}
use Rattle.consumer_orders.specs.declared.look_up.Found.{Found}
use Rattle.consumer_orders.specs.declared.look_up.Found.TheVariants as found
use Rattle.consumer_orders.specs.declared.type_order.Asked.TheVariants as asked

-- what stands at a place of a list is in it
pub in_list : (indexes : List Index) (number : ℕ) (index : Index) → slice_get indexes number ≡ Some index → Contains indexes index
in_list indexes number index at = (number, slice_get_within indexes number index at, get_or_from_slice_get indexes number index index at)

module _ (consumer : Option Position) (number : ℕ) (index : Index) (at : IsSomeAnd consumer (λ now. slice_get now.indexes number ≡ Some index)) where
  -- The number of an index is one of those that are kept.
  pub number_inside : IsSomeAnd consumer (λ now. number < length now.indexes)
  number_inside = inside consumer at
    where
      inside : (at : Option Position) → IsSomeAnd at (λ now. slice_get now.indexes number ≡ Some index) → IsSomeAnd at (λ now. number < length now.indexes)
      inside None is = absurd is
      inside (Some now) is = slice_get_within now.indexes number index is

-- The rows that the index finds are those of the look-up.
pub found_rows : (consumer : Option Position) (schemas : List Schema) (number t : ℕ) (paths : List Path) (json : Data) (key : List Value) (ordinals : List ℕ) → IsSomeAnd consumer (λ now. now.schemas ≡ schemas) →
    IsSomeAnd consumer (λ now. slice_get now.indexes number ≡ Some (index_by t paths)) → SpellsKey schemas paths json key →
    IsSomeAnd consumer (λ now. IsSomeAnd (slice_get now.indexes number) (λ kept. AreMatches now.schemas (rows_now now) kept.type_index kept.paths key ordinals)) →
    IsSomeAnd consumer (λ now. TellsAlong paths json now t (found.Ordinals ordinals))
found_rows None schemas number t paths json key ordinals same at spells matches = absurd same
found_rows (Some now) schemas number t paths json key ordinals same at spells matches = (
  in_list now.indexes number (index_by t paths) at,
  (
    key,
    subst (λ (s : List Schema). SpellsKey s paths json key) (sym same) spells,
    subst (λ (o : Option Index). IsSomeAnd o (λ kept. AreMatches now.schemas (rows_now now) kept.type_index kept.paths key ordinals)) at matches,
  ),
)

-- The JSON is no key.
pub no_key : (consumer : Option Position) (schemas : List Schema) (number t : ℕ) (paths : List Path) (json : Data) (fault : KeyFault) → IsSomeAnd consumer (λ now. now.schemas ≡ schemas) →
    IsSomeAnd consumer (λ now. slice_get now.indexes number ≡ Some (index_by t paths)) → fault ≡ key_fault.Shape → TellsKey schemas paths json (Err fault) →
    IsSomeAnd consumer (λ now. TellsAlong paths json now t (found.Refused refusal.BadKey))
no_key None schemas number t paths json fault same at is tells = absurd same
no_key (Some now) schemas number t paths json fault same at is tells = (
  in_list now.indexes number (index_by t paths) at,
  subst (λ (s : List Schema). (key : List Value) → SpellsKey s paths json key → ⊥) (sym same) (subst (λ (f : KeyFault). TellsKey schemas paths json (Err f)) is tells),
)

-- What a look-up that finds no rows tells is what `find` answers.
pub not_found : (consumer : Option Position) (name : List ℕ) (texts texts' : List (List ℕ)) (json : Data) (t : ℕ) (r : Found) (why : Refusal) → TellsType consumer name (asked.At t) → texts ≡ texts' →
    r ≡ found.Refused why → IsSomeAnd consumer (λ now. TellsFound name texts json now t r) → FindReply consumer name texts' json (reply.Refused why)
not_found None name texts texts' json t r why known same is tells = absurd known
not_found (Some now) name texts texts' json t r why known same is tells =
    subst (λ (o : Option ℕ). AnswersAt now o name (ListsFound name texts' json) (reply.Refused why)) (sym known)
    (subst (λ (ts : List (List ℕ)). LookUpRefusal name ts json now t why) same (subst (λ (f : Found). TellsFound name texts json now t f) is tells))

-- a list of one
one_of : (ordinals : List ℕ) → 1 ≤ length ordinals → length ordinals < 2 → ordinals ≡ get_or ordinals 0 0 ∷ []
one_of [] some few = absurd (omega (arith, some))
one_of (ordinal ∷ []) some few = refl
one_of (ordinal ∷ next ∷ rest) some few = absurd (omega (arith, few))

-- Where one row has the primary key, what is shown of it is what `get` answers of the type.
pub found_one : (E : Type 0) (consumer : Option Position) (name : List ℕ) (texts : List (List ℕ)) (json : Data) (t : ℕ) (r : Found) (ordinals all : List ℕ) (schemas : List Schema) (table : Table)
    (result : Result Reply E) → IsSomeAnd consumer (λ now. TellsFound name texts json now t r) → texts ≡ [] → r ≡ found.Ordinals all → ordinals ≡ all → 1 ≤ length ordinals → length ordinals < 2 →
    IsSomeAnd consumer (λ now. now.schemas ≡ schemas) → IsSomeAnd consumer (λ now. rows_now now ≡ table) →
    ((now : Position) (name : List ℕ) (json : Data) → now.schemas ≡ schemas → rows_now now ≡ table → FindsUnder [] json now t (get_or ordinals 0 0 ∷ []) → IfOk result (ShowsFound name json now t)) →
    IfOk result (λ reply. IsSomeAnd consumer (λ now. ShowsFound name json now t reply))
found_one E consumer name texts json t r ordinals all schemas table (Err e) tells none is same some few model rows shows = tt
found_one E None name texts json t r ordinals all schemas table (Ok answer) tells none is same some few model rows shows = absurd tells
found_one E (Some now) name texts json t r ordinals all schemas table (Ok answer) tells none is same some few model rows shows =
    let here = subst (λ (ts : List (List ℕ)). FindsUnder ts json now t all) none (subst (λ (f : Found). TellsFound name texts json now t f) is tells) in
    shows now name json model rows (subst (λ (os : List ℕ). FindsUnder [] json now t os) (sym same ∙ one_of ordinals some few) here)

-- What is looked up by a key, in a set or in a map is answered by the model, the rows and the indexes of a consumer alone.
use Rattle.std.proofs.Common.{◌≡◌, ◌≤◌, ◌<◌, ℕ, List, [], ◌∷◌, Some, sym, subst}
use Rattle.std.specs.Prelude.{Contains, IsTrue, ◌↔◌}
use Rattle.serde_json.specs.Data.{Data}
use Rattle.serde_json.specs.View.{view}
use Rattle.schema_model.specs.declared.limit.Limit.TheVariants.{Nodes}
use Rattle.schema_model.specs.declared.model.path.Path.{Path}
use Rattle.row_model.specs.declared.row.Value.{Value}
use Rattle.schema_model.specs.declared.schema.Schema.{Schema}
use Rattle.schema_model.specs.declared.schema.Shape.{Shape}
use Rattle.schema_model.specs.declared.schema.name.Name.{Name}
use Rattle.row_model.specs.Key.{AreMatches}
use Rattle.schema_model.specs.Limit.{number_of_limit}
use Rattle.row_model.specs.PlainTree.{node_count}
use Rattle.row_model.specs.Table.{IsLive, Table, row_at}
use Rattle.row_model.specs.Unfold.{unfold_row}
use Rattle.bucket_codec.specs.Run.{FindsIn}
use Rattle.type_state.specs.Lookup.{elements_of, pairs_of}
use Rattle.json_values.specs.KeyFrom.{SpellsKey}
use Rattle.record_json.specs.PrintTree.{PrintsTree}
use Rattle.hol_answers.specs.declared.refusal.Refusal.{Refusal}
use Rattle.hol_answers.specs.declared.refusal.Refusal.TheVariants.{Ambiguous, BadKey, BadPath, NoIndex, NoMatch, NoRow, TooLarge, WrongKind}
use Rattle.hol_answers.specs.declared.reply.Reply.{Reply}
use Rattle.hol_answers.specs.declared.reply.Reply.TheVariants as reply
use Rattle.read_engine.specs.Indexes.{index_by}
use Rattle.read_engine.specs.Position.{Index, Position, rows_now}
use Rattle.hollow_machine.specs.KeyOrders.{FindReply, FindsUnder, GetRefusal, GetReply, ListsFound, LookUpRefusal, ShowsFound}
use Rattle.hollow_machine.specs.KeyPaths.{AreKeyPaths, HasShape, IsBadPath, IsMap, IsObject, IsSet}
use Rattle.hollow_machine.specs.MemberOrders.{AtReply, HasReply, MemberRefusal, TellsElement, TellsValue}
use Rattle.hollow_machine.specs.State.{Machine}
use Rattle.written_laws.specs.Chain.{Chain, IsChain}
use Rattle.chain_laws.specs.Consumers.{Fresh, IsConsumerOf}
use Rattle.chain_laws.proofs.FreshAnswers.{carried, either, of_same, rows_same, schemas_same}

module _ (now other : Position) (schemas : now.schemas ≡ other.schemas) (rows : rows_now now ≡ rows_now other) (indexes : now.indexes ≡ other.indexes) where
  -- what holds of the model, the rows and the indexes of the one holds of those of the other
  all_carried : (Q : List Schema → Table → List Index → Type 0) → Q now.schemas (rows_now now) now.indexes → Q other.schemas (rows_now other) other.indexes
  all_carried Q holds = subst (λ (xs : List Index). Q other.schemas (rows_now other) xs) indexes (carried now other schemas rows (λ s table. Q s table now.indexes) holds)

  -- ---- by a key

  finds_same : (texts : List (List ℕ)) (values : Data) (t : ℕ) (ordinals : List ℕ) → FindsUnder texts values now t ordinals → FindsUnder texts values other t ordinals
  finds_same texts values t ordinals is =
      all_carried (λ s table xs. (paths : List Path) × (HasShape IsObject s t × AreKeyPaths s t texts paths × Contains xs (index_by t paths))
      × ((key : List Value) × SpellsKey s paths values key × AreMatches s table t paths key ordinals)) is

  look_up_same : (name : Name) (texts : List (List ℕ)) (values : Data) (t : ℕ) (refusal : Refusal) → LookUpRefusal name texts values now t refusal → LookUpRefusal name texts values other t refusal
  look_up_same name texts values t (WrongKind wrong) is = (is.0, carried now other schemas rows (λ s _. HasShape IsObject s t → ⊥) is.1)
  look_up_same name texts values t (BadPath lost) is = carried now other schemas rows (λ s _. HasShape IsObject s t × IsBadPath s t texts lost) is
  look_up_same name texts values t NoIndex is =
      all_carried (λ s _ xs. HasShape IsObject s t × ((paths : List Path) × AreKeyPaths s t texts paths × (Contains xs (index_by t paths) → ⊥))) is
  look_up_same name texts values t BadKey is =
      all_carried (λ s _ xs. (paths : List Path) × (HasShape IsObject s t × AreKeyPaths s t texts paths × Contains xs (index_by t paths)) × ((key : List Value) → SpellsKey s paths values key → ⊥)) is
  look_up_same name texts values t _ is = absurd is

  found_same : (name : Name) (texts : List (List ℕ)) (values : Data) (t : ℕ) (answer : Reply) → ListsFound name texts values now t answer → ListsFound name texts values other t answer
  found_same name texts values t (reply.Find ordinals) is = finds_same texts values t ordinals is
  found_same name texts values t (reply.Refused refusal) is = look_up_same name texts values t refusal is
  found_same name texts values t _ is = absurd is

  get_refusal_same : (name : Name) (values : Data) (t : ℕ) (refusal : Refusal) → GetRefusal name values now t refusal → GetRefusal name values other t refusal
  get_refusal_same name values t NoMatch is = finds_same [] values t [] is
  get_refusal_same name values t (Ambiguous first second) (rest, is) = (rest, finds_same [] values t (first ∷ second ∷ rest) is)
  get_refusal_same name values t (TooLarge Nodes) (ordinal, is, many) = (
    ordinal,
    finds_same [] values t (ordinal ∷ []) is,
    carried now other schemas rows (λ s table. number_of_limit Nodes < node_count (unfold_row s table t ordinal)) many,
  )
  get_refusal_same name values t refusal is = look_up_same name [] values t refusal is

  shown_same : (name : Name) (values : Data) (t : ℕ) (answer : Reply) → ShowsFound name values now t answer → ShowsFound name values other t answer
  shown_same name values t (reply.Get ordinal value) (is, few, prints) = (
    finds_same [] values t (ordinal ∷ []) is,
    carried now other schemas rows (λ s table. node_count (unfold_row s table t ordinal) ≤ number_of_limit Nodes) few,
    carried now other schemas rows (λ s table. PrintsTree s t (unfold_row s table t ordinal) (view value)) prints,
  )
  shown_same name values t (reply.Refused refusal) is = get_refusal_same name values t refusal is
  shown_same name values t _ is = absurd is

  find_same : (name : Name) (texts : List (List ℕ)) (values : Data) (answer : Reply) → FindReply (Some now) name texts values answer → FindReply (Some other) name texts values answer
  find_same name texts values answer is = of_same now other schemas rows name (ListsFound name texts values) (found_same name texts values) answer is

  get_same : (name : Name) (values : Data) (answer : Reply) → GetReply (Some now) name values answer → GetReply (Some other) name values answer
  get_same name values answer is = of_same now other schemas rows name (ShowsFound name values) (shown_same name values) answer is

-- ---- in a set or a map

module _ (now other : Position) (schemas : now.schemas ≡ other.schemas) (rows : rows_now now ≡ rows_now other) where
  member_same : (Is : Shape → Type 0) (name : Name) (ordinal t : ℕ) (refusal : Refusal) → MemberRefusal Is name ordinal now t refusal → MemberRefusal Is name ordinal other t refusal
  member_same Is name ordinal t (WrongKind wrong) is = (is.0, carried now other schemas rows (λ s _. HasShape Is s t → ⊥) is.1)
  member_same Is name ordinal t (NoRow row) is = (
    carried now other schemas rows (λ s _. HasShape Is s t) is.0,
    is.1,
    is.2,
    carried now other schemas rows (λ _ table. IsLive table t ordinal → ⊥) is.3,
  )
  member_same Is name ordinal t _ is = absurd is

  element_same : (name : Name) (ordinal element t : ℕ) (answer : Reply) → TellsElement name ordinal element now t answer → TellsElement name ordinal element other t answer
  element_same name ordinal element t (reply.Has there) is =
      carried now other schemas rows (λ s table. (HasShape IsSet s t × IsLive table t ordinal) × (IsTrue there ↔ Contains (elements_of (row_at table t ordinal)) element)) is
  element_same name ordinal element t (reply.Refused refusal) is = member_same IsSet name ordinal t refusal is
  element_same name ordinal element t _ is = absurd is

  value_same : (name : Name) (ordinal key t : ℕ) (answer : Reply) → TellsValue name ordinal key now t answer → TellsValue name ordinal key other t answer
  value_same name ordinal key t (reply.At value) is =
      carried now other schemas rows (λ s table. (HasShape IsMap s t × IsLive table t ordinal) × FindsIn (pairs_of (row_at table t ordinal)) key value) is
  value_same name ordinal key t (reply.Refused refusal) is = member_same IsMap name ordinal t refusal is
  value_same name ordinal key t _ is = absurd is

  has_same : (name : Name) (ordinal element : ℕ) (answer : Reply) → HasReply (Some now) name ordinal element answer → HasReply (Some other) name ordinal element answer
  has_same name ordinal element answer is = of_same now other schemas rows name (TellsElement name ordinal element) (element_same name ordinal element) answer is

  at_same : (name : Name) (ordinal key : ℕ) (answer : Reply) → AtReply (Some now) name ordinal key answer → AtReply (Some other) name ordinal key answer
  at_same name ordinal key answer is = of_same now other schemas rows name (TellsValue name ordinal key) (value_same name ordinal key) answer is

-- ---- the consumer, and the one that has its state afresh

module _ (machine fresh : Machine) (chain : Chain) (sound : IsChain chain) (of : IsConsumerOf chain machine.consumer) (afresh : Fresh chain machine fresh) where
  abbrev model : afresh.now.schemas ≡ afresh.position.schemas
  model = schemas_same machine fresh chain sound of afresh

  abbrev rows : rows_now afresh.now ≡ rows_now afresh.position
  rows = rows_same machine fresh chain sound of afresh

  pub find_afresh : (name : Name) (texts : List (List ℕ)) (values : Data) (answer : Reply) → FindReply machine.consumer name texts values answer → FindReply fresh.consumer name texts values answer
  find_afresh name texts values answer =
      either machine fresh chain sound of afresh (λ consumer. FindReply consumer name texts values answer) (find_same afresh.now afresh.position model rows (sym afresh.indexes) name texts values answer)

  pub get_afresh : (name : Name) (values : Data) (answer : Reply) → GetReply machine.consumer name values answer → GetReply fresh.consumer name values answer
  get_afresh name values answer =
      either machine fresh chain sound of afresh (λ consumer. GetReply consumer name values answer) (get_same afresh.now afresh.position model rows (sym afresh.indexes) name values answer)

  pub has_afresh : (name : Name) (ordinal element : ℕ) (answer : Reply) → HasReply machine.consumer name ordinal element answer → HasReply fresh.consumer name ordinal element answer
  has_afresh name ordinal element answer =
      either machine fresh chain sound of afresh (λ consumer. HasReply consumer name ordinal element answer) (has_same afresh.now afresh.position model rows name ordinal element answer)

  pub at_afresh : (name : Name) (ordinal key : ℕ) (answer : Reply) → AtReply machine.consumer name ordinal key answer → AtReply fresh.consumer name ordinal key answer
  at_afresh name ordinal key answer =
      either machine fresh chain sound of afresh (λ consumer. AtReply consumer name ordinal key answer) (at_same afresh.now afresh.position model rows name ordinal key answer)

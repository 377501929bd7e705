-- What is asked of a consumer along a walk path is answered by its model, its rows and its walk indexes alone; and a walk index that is asked for is kept alike.
use Rattle.std.proofs.Common.{◌≡◌, ◌≤◌, ◌<◌, ◌∙◌, ℕ, List, length, Option, Some, refl, sym, ap, subst}
use Rattle.std.specs.Prelude.{Contains, IsSomeAnd}
use Rattle.serde_json.specs.Data.{Data}
use Rattle.schema_model.specs.declared.limit.Limit.TheVariants.{Entries, Walks}
use Rattle.schema_model.specs.declared.model.walk_path.WalkPath.{WalkPath}
use Rattle.schema_model.specs.declared.schema.Schema.{Schema}
use Rattle.schema_model.specs.declared.schema.name.Name.{Name}
use Rattle.schema_model.specs.Limit.{number_of_limit}
use Rattle.schema_model.specs.Parts.{index_of_type}
use Rattle.schema_model.specs.WalkPath.{WalkResolves}
use Rattle.row_model.specs.declared.row.Value.{Value}
use Rattle.row_model.specs.Reach.{AreWalkMatches, AreWalked}
use Rattle.row_model.specs.Table.{Table}
use Rattle.hol_paths.specs.Walked.{HasManyEntries}
use Rattle.hol_answers.specs.declared.refusal.Refusal.{Refusal}
use Rattle.hol_answers.specs.declared.refusal.Refusal.TheVariants.{BadKey, BadPath, NoIndex, NoState, NoType, TooLarge}
use Rattle.hol_answers.specs.declared.reply.Reply.{Reply}
use Rattle.hol_answers.specs.declared.reply.Reply.TheVariants as reply
use Rattle.read_engine.specs.Indexes.{KeepsOne}
use Rattle.read_engine.specs.Position.{Position, rows_now}
use Rattle.hollow_machine.specs.State.{Machine, with_consumer}
use Rattle.hollow_machine.specs.WalkOrders.{IsLostWalk, ListsWalked, RefusesWalk, SpellsEnd, WalkFindRefusal, WalkFindReply, WalkIndexRefusal, WalkIndexStep, WalksAlong}
use Rattle.written_laws.specs.Chain.{Chain, IsChain}
use Rattle.chain_laws.specs.Consumers.{Fresh, IsConsumerOf}
use Rattle.chain_laws.proofs.FreshAnswers.{carried, either, of_same, rows_same, schemas_same}
use Rattle.chain_laws.proofs.StoreNames.{found_with}

module _ (now other : Position) (schemas : now.schemas ≡ other.schemas) (rows : rows_now now ≡ rows_now other) (walks : now.walks ≡ other.walks) where
  -- what holds of the model, the rows and the walk indexes of the one holds of those of the other
  walks_carried : (Q : List Schema → Table → List WalkPath → Type 0) → Q now.schemas (rows_now now) now.walks → Q other.schemas (rows_now other) other.walks
  walks_carried Q holds = subst (λ (ws : List WalkPath). Q other.schemas (rows_now other) ws) walks (carried now other schemas rows (λ s table. Q s table now.walks) holds)

  -- ---- walkfind

  find_refusal_same : (text : List ℕ) (json : Data) (t : ℕ) (refusal : Refusal) → WalkFindRefusal text json now t refusal → WalkFindRefusal text json other t refusal
  find_refusal_same text json t (BadPath lost) is = (is.0, carried now other schemas rows (λ s _. IsLostWalk s t text) is.1)
  find_refusal_same text json t NoIndex is = walks_carried (λ s _ ws. (path : WalkPath) × WalkResolves s t text path × (Contains ws path → ⊥)) is
  find_refusal_same text json t BadKey is =
      walks_carried (λ s _ ws. (path : WalkPath) × (WalkResolves s t text path × Contains ws path) × ((value : Value) → SpellsEnd s path json value → ⊥)) is
  find_refusal_same text json t _ is = absurd is

  found_same : (text : List ℕ) (json : Data) (t : ℕ) (answer : Reply) → ListsWalked text json now t answer → ListsWalked text json other t answer
  found_same text json t (reply.WalkFind ordinals) is =
      walks_carried (λ s table ws. (path : WalkPath) × (WalkResolves s t text path × Contains ws path)
      × ((value : Value) × SpellsEnd s path json value × AreWalkMatches s table t path.parts value ordinals)) is
  found_same text json t (reply.Refused refusal) is = find_refusal_same text json t refusal is
  found_same text json t _ is = absurd is

  walkfind_same : (name : Name) (text : List ℕ) (json : Data) (answer : Reply) → WalkFindReply (Some now) name text json answer → WalkFindReply (Some other) name text json answer
  walkfind_same name text json answer is = of_same now other schemas rows name (ListsWalked text json) (found_same text json) answer is

  -- ---- walkindex

  -- the walk indexes behind one that is asked for, and how many rows reach a value along it
  abbrev KeepsIn : List ℕ → ℕ → List WalkPath → List Schema → Table → List WalkPath → ℕ → WalkPath → Type 0
  KeepsIn text keys after s table ws t path =
      WalkResolves s t text path × ((ordinals : List ℕ) × AreWalked s table path.type_index path.parts ordinals × (keys ≡ length ordinals))
      × KeepsOne (number_of_limit Walks) ws path after
      × (((Contains ws path → ⊥) × (length ws < number_of_limit Walks) × HasManyEntries s table path.type_index path.parts) → ⊥)

  along_same : (machine next fresh : Machine) (name text : List ℕ) (keys : ℕ) → IsSomeAnd (index_of_type now.schemas name) (λ t. WalksAlong machine text now t keys next)
      → (after : List WalkPath) × (next ≡ with_consumer machine (Some (record now { walks = after })))
      × IsSomeAnd (index_of_type other.schemas name) (λ t. WalksAlong fresh text other t keys (with_consumer fresh (Some (record other { walks = after }))))
  along_same machine next fresh name text keys is =
      let (t, at, along) = found_with (index_of_type now.schemas name) _ is in
      let there : KeepsIn text keys along.after other.schemas (rows_now other) other.walks t along.path =
      walks_carried (λ s table ws. KeepsIn text keys along.after s table ws t along.path) (along.resolves, along.counts, along.keeps.0, along.keeps.1) in
      let behind : WalksAlong fresh text other t keys (with_consumer fresh (Some (record other { walks = along.after }))) = record {
        path = along.path;
        resolves = there.0;
        counts = there.1;
        after = along.after;
        keeps = (there.2, there.3);
        is = refl;
      } in (
        along.after,
        along.is,
        subst (λ (o : Option ℕ). IsSomeAnd o (λ u. WalksAlong fresh text other u keys (with_consumer fresh (Some (record other { walks = along.after })))))
            (sym at ∙ ap (λ (s : List Schema). index_of_type s name) schemas) behind,
      )

  refuses_same : (text : List ℕ) (t : ℕ) (refusal : Refusal) → RefusesWalk text now t refusal → RefusesWalk text other t refusal
  refuses_same text t (BadPath lost) is = (is.0, carried now other schemas rows (λ s _. IsLostWalk s t text) is.1)
  refuses_same text t (TooLarge Walks) is =
      walks_carried (λ s _ ws. (path : WalkPath) × WalkResolves s t text path × ((Contains ws path → ⊥) × (number_of_limit Walks ≤ length ws))) is
  refuses_same text t (TooLarge Entries) is =
      walks_carried (λ s table ws. (path : WalkPath) × WalkResolves s t text path
      × ((Contains ws path → ⊥) × (length ws < number_of_limit Walks) × HasManyEntries s table path.type_index path.parts)) is
  refuses_same text t _ is = absurd is

  of_type_same : (name text : List ℕ) (refusal : Refusal) → IsSomeAnd (index_of_type now.schemas name) (λ t. RefusesWalk text now t refusal) → IsSomeAnd (index_of_type other.schemas name) (λ t. RefusesWalk text other t refusal)
  of_type_same name text refusal is =
      let (t, at, refuses) = found_with (index_of_type now.schemas name) _ is in
      subst (λ (o : Option ℕ). IsSomeAnd o (λ u. RefusesWalk text other u refusal)) (sym at ∙ ap (λ (s : List Schema). index_of_type s name) schemas) (refuses_same text t refusal refuses)

  walk_refusal_same : (name text : List ℕ) (refusal : Refusal) → WalkIndexRefusal (Some now) name text refusal → WalkIndexRefusal (Some other) name text refusal
  walk_refusal_same name text NoState is = absurd cc
  walk_refusal_same name text (NoType wrong) is = (ap (λ (s : List Schema). index_of_type s name) (sym schemas) ∙ is.0, is.1)
  walk_refusal_same name text refusal is = of_type_same name text refusal is

-- ---- the consumer, and the one that has its state afresh

module _ (machine fresh : Machine) (chain : Chain) (sound : IsChain chain) (of : IsConsumerOf chain machine.consumer) (afresh : Fresh chain machine fresh) where
  abbrev model : afresh.now.schemas ≡ afresh.position.schemas
  model = schemas_same machine fresh chain sound of afresh

  abbrev rows : rows_now afresh.now ≡ rows_now afresh.position
  rows = rows_same machine fresh chain sound of afresh

  pub walkfind_afresh : (name : Name) (text : List ℕ) (json : Data) (answer : Reply) → WalkFindReply machine.consumer name text json answer → WalkFindReply fresh.consumer name text json answer
  walkfind_afresh name text json answer =
      either machine fresh chain sound of afresh (λ consumer. WalkFindReply consumer name text json answer) (walkfind_same afresh.now afresh.position model rows (sym afresh.walks) name text json answer)

  fresh_consumer : fresh.consumer ≡ Some afresh.position
  fresh_consumer = ap (λ (m : Machine). m.consumer) afresh.is

  -- with other walk indexes both are so too
  fresh_with : (after : List WalkPath) → Fresh chain (with_consumer machine (Some (record afresh.now { walks = after }))) (with_consumer fresh (Some (record afresh.position { walks = after })))
  fresh_with after = record {
    now = record afresh.now { walks = after };
    was = refl;
    version = afresh.version;
    state = afresh.state;
    there = afresh.there;
    tag = afresh.tag;
    position = record afresh.position { walks = after };
    model = afresh.model;
    sees = record { tag = afresh.sees.tag; rows = afresh.sees.rows };
    indexes = afresh.indexes;
    walks = refl;
    last = afresh.last;
    past = afresh.past;
    is = ap (λ (m : Machine). with_consumer m (Some (record afresh.position { walks = after }))) afresh.is;
  }

  -- A walk index that is asked for is answered as where the consumer has its state afresh, and behind it the one is so to the other.
  pub walkindex_afresh : (name text : List ℕ) (answer : Reply) (next : Machine) → WalkIndexStep machine name text answer next → (after : Machine) × WalkIndexStep fresh name text answer after × Fresh chain next after
  walkindex_afresh name text (reply.WalkIndex keys) next step =
      let here = subst (λ (c : Option Position). IsSomeAnd c (λ now. IsSomeAnd (index_of_type now.schemas name) (λ t. WalksAlong machine text now t keys next))) afresh.was step in
      let (after, next_is, there) = along_same afresh.now afresh.position model rows (sym afresh.walks) machine next fresh name text keys here in
      let behind : Machine = with_consumer fresh (Some (record afresh.position { walks = after })) in (
        behind,
        subst (λ (c : Option Position). IsSomeAnd c (λ now. IsSomeAnd (index_of_type now.schemas name) (λ t. WalksAlong fresh text now t keys behind))) (sym fresh_consumer) there,
        subst (λ (m : Machine). Fresh chain m behind) (sym next_is) (fresh_with after),
      )
  walkindex_afresh name text (reply.Refused refusal) next step =
      let here = subst (λ (c : Option Position). WalkIndexRefusal c name text refusal) afresh.was step.0 in
      let there = walk_refusal_same afresh.now afresh.position model rows (sym afresh.walks) name text refusal here in (
        fresh,
        (subst (λ (c : Option Position). WalkIndexRefusal c name text refusal) (sym fresh_consumer) there, refl),
        subst (λ (m : Machine). Fresh chain m fresh) (sym step.1) afresh,
      )
  walkindex_afresh name text _ next step = absurd step

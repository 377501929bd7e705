-- What an order `index` adds; and a load, with such an order for each index and one for each walk index behind it, gives the state afresh with the same indexes.
use Rattle.std.proofs.Common.{◌≡◌, ◌<◌, ◌+◌, ◌++◌, ℕ, List, [], ◌∷◌, length, get_or, Bool, inl, inr, Option, Some, refl, sym, ap, subst, ◌∙◌, append_assoc, append-nil, length-append, arith}
use Rattle.std.specs.Prelude.{Contains, IfSome, IsSomeAnd, filter, is_some}
use Rattle.std.specs.FinMap.{keys}
use Rattle.std.proofs.lemmas.List.Kept.{AllPairs-from_increasing, IsStrictlyIncreasing-filter}
use Rattle.std.proofs.lemmas.List.{get_or-append-add}
use Rattle.hol_io.specs.declared.name.BlobName.TheVariants.{Snapshot}
use Rattle.ordinal_set.proofs.Members.{Contains-filter, Contains-kept, passes-from_filter}
use Rattle.schema_model.specs.declared.limit.Limit.TheVariants.{Indexes}
use Rattle.schema_model.specs.declared.model.path.Path.{Path}
use Rattle.schema_model.specs.declared.model.rule.Rule.TheVariants.{DuplicateName}
use Rattle.schema_model.specs.declared.schema.Schema.{Schema}
use Rattle.schema_model.specs.declared.schema.name.Name.{Name}
use Rattle.row_model.specs.Key.{AreKeyed, key_of}
use Rattle.schema_model.specs.Limit.{number_of_limit}
use Rattle.schema_model.specs.Model.{IsKept}
use Rattle.schema_model.specs.Parts.{index_of_type}
use Rattle.row_model.specs.Table.{Table}
use Rattle.row_model.specs.BothStates.{rows_in}
use Rattle.row_packing.proofs.LiveRows.{is_live, live_is, rising_keys}
use Rattle.hol_answers.specs.declared.reply.Reply.{Reply}
use Rattle.hol_answers.specs.declared.reply.Reply.TheVariants as reply
use Rattle.read_engine.specs.Indexes.{KeepsIndex, index_by}
use Rattle.read_engine.specs.Position.{Index, Position, rows_now}
use Rattle.hollow_machine.specs.IndexOrder.{IndexStep}
use Rattle.hollow_machine.specs.LoadOrder.{LoadStep}
use Rattle.hollow_machine.specs.State.{Machine, loaded_to, with_consumer}
use Rattle.written_laws.specs.Chain.{Chain, ChainState, HasVersion}
use Rattle.written_laws.specs.HoldsChain.{HoldsChain, IsThere}
use Rattle.chain_laws.specs.Afresh.{AreAdded, AreWalksAdded, AskForAll, AskForWalks}
use Rattle.chain_laws.specs.Consumers.{Fresh, IsConsumerOf, IsIn, StandsAt}
use Rattle.chain_laws.specs.KeptIndexes.{AreIndexes, AsksFor, IsAsked}
use Rattle.chain_laws.specs.KeptWalks.{AreWalks}
use Rattle.chain_laws.proofs.Apart.{AreApart, new_behind}
use Rattle.chain_laws.proofs.ConsumerMoves.{stands_sees}
use Rattle.chain_laws.proofs.ConsumerOrders.{load_only, load_taken}
use Rattle.chain_laws.proofs.FreshAnswers.{rows_same, schemas_same}
use Rattle.chain_laws.proofs.OneKey.{Counts, paths_once}
use Rattle.chain_laws.proofs.WalkedAfresh.{walks_all, walks_there}

-- ---- one order

module _ (machine next : Machine) (now : Position) (name : Name) (texts : List (List ℕ)) (index : Index) (keys : ℕ) (was : machine.consumer ≡ Some now) (names : IsKept now.schemas DuplicateName)
    (asks : AsksFor now.schemas name texts index) (step : IndexStep machine name texts (reply.Index keys) next) where
  keeps_now : (after : List Index) × KeepsIndex now.indexes index after × (next ≡ with_consumer machine (Some (record now { indexes = after })))
  keeps_now =
      let here = subst (λ (consumer : Option Position). IsSomeAnd consumer (λ at. IsSomeAnd (index_of_type at.schemas name) (λ t. Counts machine name texts at t keys next))) was step in
      let (shape, (found, are, counts, (after, keeps, next_is))) = subst (λ (type_index : Option ℕ). IsSomeAnd type_index (λ t. Counts machine name texts now t keys next)) asks.of_type here in
      let same = paths_once now.schemas names index.type_index texts found index.paths are asks.paths in
      (after, subst (λ (ps : List Path). KeepsIndex now.indexes (index_by index.type_index ps) after) same keeps, next_is)

  pub index_new : (Contains now.indexes index → ⊥) → next ≡ with_consumer machine (Some (record now { indexes = now.indexes ++ index ∷ [] }))
  index_new none =
      let (after, keeps, next_is) = keeps_now in
      elim keeps [
        | inl kept ↦ absurd (none kept.0)
        | inr new ↦ next_is ∙ (λ i. with_consumer machine (Some (record now { indexes = new.2 i })))
      ]

  pub index_kept : Contains now.indexes index → next ≡ machine
  index_kept there =
      let (after, keeps, next_is) = keeps_now in
      elim keeps [
        | inl kept ↦ next_is ∙ (λ i. with_consumer machine (Some (record now { indexes = kept.1 i }))) ∙ (λ i. with_consumer machine (sym was i))
        | inr new ↦ absurd (new.0 there)
      ]

-- ---- an order for each index

added_all : (machine : Machine) (position : Position) (asked : List (Name × List (List ℕ))) (before after : List Index) (now next : Machine) → IsKept position.schemas DuplicateName → AskForAll position.schemas asked after
    → AreApart (before ++ after) → now ≡ with_consumer machine (Some (record position { indexes = before })) → AreAdded now asked next
    → next ≡ with_consumer machine (Some (record position { indexes = before ++ after }))
added_all machine position [] before [] now next names asks apart now_is added =
    added ∙ now_is ∙ (λ i. with_consumer machine (Some (record position { indexes = sym (append-nil before) i })))
added_all machine position [] before (index ∷ after) now next names asks apart now_is added = absurd asks
added_all machine position (first ∷ asked) before [] now next names asks apart now_is added = absurd asks
added_all machine position (first ∷ asked) before (index ∷ after) now next names asks apart now_is (keys, between, step, more) =
    let here : Position = record position { indexes = before } in
    let was : now.consumer ≡ Some here = ap (λ (m : Machine). m.consumer) now_is in
    let joined = append_assoc before (index ∷ []) after in
    let between_is = index_new now between here first.0 first.1 index keys was names asks.0 step (new_behind before after index apart)
    ∙ ap (λ (m : Machine). with_consumer m (Some (record position { indexes = before ++ index ∷ [] }))) now_is in
    added_all machine position asked (before ++ index ∷ []) after between next names asks.1 (subst AreApart (sym joined) apart) between_is more
    ∙ (λ i. with_consumer machine (Some (record position { indexes = joined i })))

-- ---- the orders are answered

-- some rising list has the rows that have a key
module _ (schemas : List Schema) (table : Table) (t : ℕ) (paths : List Path) where
  abbrev has_key : ℕ → Bool
  has_key ordinal = is_some (key_of schemas table t paths ordinal)

  abbrev ordinals : List ℕ
  ordinals = keys (rows_in table t)

  keyed_there : AreKeyed schemas table t paths (filter has_key ordinals)
  keyed_there = record {
    rising = AllPairs-from_increasing (filter has_key ordinals) (IsStrictlyIncreasing-filter has_key ordinals (rising_keys (rows_in table t)));
    are = λ ordinal. (
      λ among. (is_live table t ordinal (Contains-filter has_key ordinals ordinal among), passes-from_filter has_key ordinals ordinal among),
      λ found. Contains-kept has_key ordinals ordinal (live_is table t ordinal found.0) found.1,
    );
  }

asked_there : (machine : Machine) (now : Position) (name : Name) (texts : List (List ℕ)) (index : Index) → AsksFor now.schemas name texts index → (Contains now.indexes index → ⊥) → length now.indexes < number_of_limit Indexes
    → (keys : ℕ) × IndexStep (with_consumer machine (Some now)) name texts (reply.Index keys) (with_consumer machine (Some (record now { indexes = now.indexes ++ index ∷ [] })))
asked_there machine now name texts index asks none room =
    let standing : Machine = with_consumer machine (Some now) in
    let next : Machine = with_consumer machine (Some (record now { indexes = now.indexes ++ index ∷ [] })) in
    let keyed = filter (has_key now.schemas (rows_now now) index.type_index index.paths) (ordinals now.schemas (rows_now now) index.type_index index.paths) in (
      length keyed,
      subst (λ (type_index : Option ℕ). IsSomeAnd type_index (λ t. Counts standing name texts now t (length keyed) next)) (sym asks.of_type)
          (asks.records, (index.paths, asks.paths, (keyed, keyed_there now.schemas (rows_now now) index.type_index index.paths, refl), (now.indexes ++ index ∷ [], inr (none, room, refl), refl))),
    )

added_there : (machine : Machine) (position : Position) (before after : List Index) (now : Machine) → AreIndexes position.schemas (before ++ after) → now ≡ with_consumer machine (Some (record position { indexes = before }))
    → (asked : List (Name × List (List ℕ))) × AskForAll position.schemas asked after × AreAdded now asked (with_consumer machine (Some (record position { indexes = before ++ after })))
added_there machine position before [] now are now_is = ([], tt, (λ i. with_consumer machine (Some (record position { indexes = append-nil before i }))) ∙ sym now_is)
added_there machine position before (index ∷ after) now are now_is =
    let all = before ++ index ∷ after in
    let long = length-append before (index ∷ after) in
    let few = are.few in
    let at : get_or all (length before + 0) index ≡ index = get_or-append-add before (index ∷ after) 0 index in
    let (name, texts, asks) = subst (IsAsked position.schemas) at (are.asked (length before + 0) index (omega (arith, long))) in
    let here : Position = record position { indexes = before } in
    let joined = append_assoc before (index ∷ []) after in
    let (keys, step) = asked_there machine here name texts index asks (new_behind before after index are.apart) (omega (arith, long, few)) in
    let between : Machine = with_consumer machine (Some (record position { indexes = before ++ index ∷ [] })) in
    let (asked, ask, added) = added_there machine position (before ++ index ∷ []) after between (subst (AreIndexes position.schemas) (sym joined) are) refl in (
      (name, texts) ∷ asked,
      (asks, ask),
      (
        keys,
        between,
        subst (λ (m : Machine). IndexStep m name texts (reply.Index keys) between) (sym now_is) step,
        subst (λ (indexes : List Index). AreAdded between asked (with_consumer machine (Some (record position { indexes = indexes })))) joined added,
      ),
    )

module _ (machine : Machine) (chain : Chain) (version : ℕ) (state : ChainState) (now : Position) (holds : HoldsChain machine.store chain) (there : HasVersion chain version state) (whole : IsThere machine.store (Snapshot version))
    (was : machine.consumer ≡ Some now) (tag : now.tag ≡ state.tag) (own : now.schemas ≡ state.model) (of : IsConsumerOf chain machine.consumer) where
  is_in : IsIn chain now
  is_in = subst (λ (consumer : Option Position). IfSome consumer (IsIn chain)) was of

  is_fresh : (position : Position) (next : Machine) → StandsAt state position → next ≡ loaded_to machine version (record position { indexes = now.indexes; walks = now.walks }) → Fresh chain machine next
  is_fresh position next stands next_is = record {
    now = now;
    was = was;
    version = version;
    state = state;
    there = there;
    tag = tag;
    position = record position { indexes = now.indexes; walks = now.walks };
    model = stands.model ∙ sym own;
    sees = (let seen = stands_sees machine.store chain holds version state position there stands in record { tag = seen.tag; rows = seen.rows });
    indexes = refl;
    walks = refl;
    last = Some version;
    past = [];
    is = next_is;
  }

  -- the names of the types of the state's model are apart
  apart_names : (position : Position) → StandsAt state position → IsKept position.schemas DuplicateName
  apart_names position stands = subst (λ (m : List Schema). IsKept m DuplicateName) (sym stands.model) ((holds.sound.sound version state there).model DuplicateName)

  pub fresh_indexed : (loaded between next : Machine) (answer : Reply) (asked : List (Name × List (List ℕ))) (walked : List (Name × List ℕ)) → AskForAll state.model asked now.indexes
      → AskForWalks state.model walked now.walks → LoadStep machine version answer loaded → AreAdded loaded asked between → AreWalksAdded between walked next → Fresh chain machine next
  fresh_indexed loaded between next answer asked walked asks seeks step added walks_added =
      let (position, stands, none, unwalked, answer_is, loaded_is) = load_only machine chain version state holds there whole answer loaded step in
      let names = apart_names position stands in
      let asks_here = subst (λ (m : List Schema). AskForAll m asked now.indexes) (sym stands.model) asks in
      let seeks_here = subst (λ (m : List Schema). AskForWalks m walked now.walks) (sym stands.model) seeks in
      let bare = loaded_is ∙ (λ i. loaded_to machine version (record position { indexes = none i })) in
      let indexed : Position = record position { indexes = now.indexes } in
      let between_is = added_all (loaded_to machine version position) position asked [] now.indexes loaded between names asks_here is_in.indexes.apart bare added in
      let bare_of_walks = between_is ∙ (λ i. loaded_to machine version (record indexed { walks = unwalked i })) in
      is_fresh position next stands (walks_all (loaded_to machine version indexed) indexed walked [] now.walks between next names seeks_here is_in.walks.apart bare_of_walks walks_added)

  pub fresh_there : (loaded between next : Machine) × (asked : List (Name × List (List ℕ))) × (walked : List (Name × List ℕ))
      × LoadStep machine version (reply.Load state.tag) loaded × AskForAll state.model asked now.indexes × AreAdded loaded asked between
      × AskForWalks state.model walked now.walks × AreWalksAdded between walked next × Fresh chain machine next
  unfolding is_fresh
  fresh_there =
      let (first, step) = load_taken machine chain version state holds there whole in
      let loaded : Machine = loaded_to machine version first in
      let (position, stands, none, unwalked, answer_is, loaded_is) = load_only machine chain version state holds there whole (reply.Load state.tag) loaded step in
      let bare = loaded_is ∙ (λ i. loaded_to machine version (record position { indexes = none i })) in
      let indexed : Position = record position { indexes = now.indexes } in
      let between : Machine = loaded_to machine version indexed in
      let next : Machine = loaded_to machine version (record indexed { walks = now.walks }) in
      let fresh = is_fresh position next stands refl in
      let model = schemas_same machine next chain holds.sound of fresh in
      let rows = rows_same machine next chain holds.sound of fresh in
      let (asked, asks, added) = added_there (loaded_to machine version position) position [] now.indexes loaded (subst (λ (m : List Schema). AreIndexes m now.indexes) model is_in.indexes) bare in
      let kept = subst (λ (t : Table). AreWalks position.schemas t now.walks) rows (subst (λ (m : List Schema). AreWalks m (rows_now now) now.walks) model is_in.walks) in
      let (walked, seeks, walks_added) = walks_there (loaded_to machine version indexed) indexed [] now.walks between kept (λ i. loaded_to machine version (record indexed { walks = unwalked i })) in (
        loaded,
        between,
        next,
        asked,
        walked,
        step,
        subst (λ (m : List Schema). AskForAll m asked now.indexes) stands.model asks,
        added,
        subst (λ (m : List Schema). AskForWalks m walked now.walks) stands.model seeks,
        walks_added,
        fresh,
      )

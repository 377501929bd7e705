-- What an order `walkindex` adds; and such orders for each walk index of a list, one after another.
use Rattle.std.proofs.Common.{◌≡◌, ◌<◌, ◌+◌, ◌++◌, ℕ, List, [], ◌∷◌, length, get_or, Bool, true, false, inl, inr, Option, Some, refl, sym, ap, subst, ◌∙◌, append_assoc, append-nil, length-append, arith}
use Rattle.std.specs.Prelude.{Contains, IsSomeAnd, filter}
use Rattle.std.specs.FinMap.{keys}
use Rattle.std.proofs.lemmas.List.Kept.{AllPairs-from_increasing, IsStrictlyIncreasing-filter}
use Rattle.std.proofs.lemmas.List.{get_or-append-add}
use Rattle.ordinal_set.proofs.Members.{Contains-filter, Contains-kept, passes-from_filter}
use Rattle.schema_model.specs.declared.limit.Limit.TheVariants.{Walks}
use Rattle.schema_model.specs.declared.model.rule.Rule.TheVariants.{DuplicateName}
use Rattle.schema_model.specs.declared.model.walk_path.WalkPart.{WalkPart}
use Rattle.schema_model.specs.declared.model.walk_path.WalkPath.{WalkPath}
use Rattle.schema_model.specs.declared.schema.Schema.{Schema}
use Rattle.schema_model.specs.declared.schema.name.Name.{Name}
use Rattle.schema_model.specs.Limit.{number_of_limit}
use Rattle.schema_model.specs.Model.{IsKept}
use Rattle.schema_model.specs.Parts.{index_of_type}
use Rattle.row_model.specs.declared.row.Value.{Value}
use Rattle.row_model.specs.Reach.{AreWalked}
use Rattle.row_model.specs.Table.{Table}
use Rattle.row_model.specs.BothStates.{rows_in}
use Rattle.row_packing.proofs.LiveRows.{is_live, live_is, rising_keys}
use Rattle.hol_answers.specs.declared.reply.Reply.TheVariants as reply
use Rattle.read_engine.specs.Position.{Position, rows_now}
use Rattle.read_engine.specs.Walks.{HasFewEntries}
use Rattle.step_laws.proofs.DecidedWalks.{reached, reaches}
use Rattle.hollow_machine.specs.State.{Machine, with_consumer}
use Rattle.hollow_machine.specs.WalkOrders.{KeepsWalk, WalkIndexStep, WalksAlong}
use Rattle.chain_laws.specs.Afresh.{AreWalksAdded, AskForWalks}
use Rattle.chain_laws.specs.KeptWalks.{AreWalks, AsksForWalk, IsWalkAsked}
use Rattle.chain_laws.proofs.Apart.{AreApart, new_behind}
use Rattle.chain_laws.proofs.OneReach.{walk_path_once}

-- ---- one order

module _ (machine next : Machine) (now : Position) (name : Name) (text : List ℕ) (path : WalkPath) (keys : ℕ) (was : machine.consumer ≡ Some now) (names : IsKept now.schemas DuplicateName)
    (asks : AsksForWalk now.schemas name text path) (step : WalkIndexStep machine name text (reply.WalkIndex keys) next) where
  keeps_now : (after : List WalkPath) × KeepsWalk now path after × (next ≡ with_consumer machine (Some (record now { walks = after })))
  keeps_now =
      let here = subst (λ (consumer : Option Position). IsSomeAnd consumer (λ at. IsSomeAnd (index_of_type at.schemas name) (λ t. WalksAlong machine text at t keys next))) was step in
      let along = subst (λ (type_index : Option ℕ). IsSomeAnd type_index (λ t. WalksAlong machine text now t keys next)) asks.of_type here in
      let same = walk_path_once now.schemas names path.type_index text along.path path along.resolves asks.resolves in
      (along.after, subst (λ (p : WalkPath). KeepsWalk now p along.after) same along.keeps, along.is)

  pub walk_new : (Contains now.walks path → ⊥) → next ≡ with_consumer machine (Some (record now { walks = now.walks ++ path ∷ [] }))
  walk_new none =
      let (after, keeps, next_is) = keeps_now in
      elim keeps.0 [
        | inl kept ↦ absurd (none kept.0)
        | inr new ↦ next_is ∙ (λ i. with_consumer machine (Some (record now { walks = new.2 i })))
      ]

  pub walk_kept : Contains now.walks path → next ≡ machine
  walk_kept there =
      let (after, keeps, next_is) = keeps_now in
      elim keeps.0 [
        | inl kept ↦ next_is ∙ (λ i. with_consumer machine (Some (record now { walks = kept.1 i }))) ∙ (λ i. with_consumer machine (sym was i))
        | inr new ↦ absurd (new.0 there)
      ]

-- ---- an order for each walk index

pub walks_all : (machine : Machine) (position : Position) (asked : List (Name × List ℕ)) (before after : List WalkPath) (now next : Machine) → IsKept position.schemas DuplicateName → AskForWalks position.schemas asked after
    → AreApart (before ++ after) → now ≡ with_consumer machine (Some (record position { walks = before })) → AreWalksAdded now asked next
    → next ≡ with_consumer machine (Some (record position { walks = before ++ after }))
walks_all machine position [] before [] now next names asks apart now_is added =
    added ∙ now_is ∙ (λ i. with_consumer machine (Some (record position { walks = sym (append-nil before) i })))
walks_all machine position [] before (path ∷ after) now next names asks apart now_is added = absurd asks
walks_all machine position (first ∷ asked) before [] now next names asks apart now_is added = absurd asks
walks_all machine position (first ∷ asked) before (path ∷ after) now next names asks apart now_is (keys, between, step, more) =
    let here : Position = record position { walks = before } in
    let was : now.consumer ≡ Some here = ap (λ (m : Machine). m.consumer) now_is in
    let joined = append_assoc before (path ∷ []) after in
    let between_is = walk_new now between here first.0 first.1 path keys was names asks.0 step (new_behind before after path apart)
    ∙ ap (λ (m : Machine). with_consumer m (Some (record position { walks = before ++ path ∷ [] }))) now_is in
    walks_all machine position asked (before ++ path ∷ []) after between next names asks.1 (subst AreApart (sym joined) apart) between_is more
    ∙ (λ i. with_consumer machine (Some (record position { walks = joined i })))

-- ---- the orders are answered

-- some rising list has the rows that reach a value
has_any : List Value → Bool
has_any [] = false
has_any (value ∷ values) = true

any_there : (values : List Value) → has_any values ≡ true → (value : Value) × Contains values value
unfolding has_any
any_there [] any = absurd cc
any_there (value ∷ values) any = (value, (0, omega arith, refl))

there_any : (values : List Value) (value : Value) → Contains values value → has_any values ≡ true
unfolding has_any
there_any [] value (k, inside, is) = absurd (omega (arith, inside))
there_any (other ∷ values) value among = refl

module _ (schemas : List Schema) (table : Table) (t : ℕ) (parts : List WalkPart) where
  abbrev reaches_any : ℕ → Bool
  reaches_any ordinal = has_any (reached schemas table parts t ordinal)

  abbrev ordinals : List ℕ
  ordinals = keys (rows_in table t)

  walked_there : AreWalked schemas table t parts (filter reaches_any ordinals)
  walked_there = record {
    rising = AllPairs-from_increasing (filter reaches_any ordinals) (IsStrictlyIncreasing-filter reaches_any ordinals (rising_keys (rows_in table t)));
    are = λ ordinal. (
      λ among. (let any = any_there (reached schemas table parts t ordinal) (passes-from_filter reaches_any ordinals ordinal among) in
          (is_live table t ordinal (Contains-filter reaches_any ordinals ordinal among), any.0, (reaches schemas table parts t ordinal any.0).0 any.1)),
      λ found. Contains-kept reaches_any ordinals ordinal (live_is table t ordinal found.0)
          (there_any (reached schemas table parts t ordinal) found.1 ((reaches schemas table parts t ordinal found.1).1 found.2)),
    );
  }

asked_there : (machine : Machine) (now : Position) (name : Name) (text : List ℕ) (path : WalkPath) → AsksForWalk now.schemas name text path → (Contains now.walks path → ⊥) → length now.walks < number_of_limit Walks
    → HasFewEntries now.schemas (rows_now now) path
    → (keys : ℕ) × WalkIndexStep (with_consumer machine (Some now)) name text (reply.WalkIndex keys) (with_consumer machine (Some (record now { walks = now.walks ++ path ∷ [] })))
asked_there machine now name text path asks none room few =
    let standing : Machine = with_consumer machine (Some now) in
    let next : Machine = with_consumer machine (Some (record now { walks = now.walks ++ path ∷ [] })) in
    let walked = filter (reaches_any now.schemas (rows_now now) path.type_index path.parts) (ordinals now.schemas (rows_now now) path.type_index path.parts) in
    let along : WalksAlong standing text now path.type_index (length walked) next = record {
      path = path;
      resolves = asks.resolves;
      counts = (walked, walked_there now.schemas (rows_now now) path.type_index path.parts, refl);
      after = now.walks ++ path ∷ [];
      keeps = (inr (none, room, refl), λ many. few many.2);
      is = refl;
    } in
    (length walked, subst (λ (type_index : Option ℕ). IsSomeAnd type_index (λ t. WalksAlong standing text now t (length walked) next)) (sym asks.of_type) along)

pub walks_there : (machine : Machine) (position : Position) (before after : List WalkPath) (now : Machine) → AreWalks position.schemas (rows_now position) (before ++ after)
    → now ≡ with_consumer machine (Some (record position { walks = before }))
    → (asked : List (Name × List ℕ)) × AskForWalks position.schemas asked after × AreWalksAdded now asked (with_consumer machine (Some (record position { walks = before ++ after })))
walks_there machine position before [] now are now_is = ([], tt, (λ i. with_consumer machine (Some (record position { walks = append-nil before i }))) ∙ sym now_is)
walks_there machine position before (path ∷ after) now are now_is =
    let all = before ++ path ∷ after in
    let long = length-append before (path ∷ after) in
    let most = are.few in
    let at : get_or all (length before + 0) path ≡ path = get_or-append-add before (path ∷ after) 0 path in
    let (name, text, asks) = subst (IsWalkAsked position.schemas) at (are.asked (length before + 0) path (omega (arith, long))) in
    let few = subst (HasFewEntries position.schemas (rows_now position)) at (are.small (length before + 0) path (omega (arith, long))) in
    let here : Position = record position { walks = before } in
    let joined = append_assoc before (path ∷ []) after in
    let (keys, step) = asked_there machine here name text path asks (new_behind before after path are.apart) (omega (arith, long, most)) few in
    let between : Machine = with_consumer machine (Some (record position { walks = before ++ path ∷ [] })) in
    let (asked, ask, added) = walks_there machine position (before ++ path ∷ []) after between (subst (AreWalks position.schemas (rows_now position)) (sym joined) are) refl in (
      (name, text) ∷ asked,
      (asks, ask),
      (
        keys,
        between,
        subst (λ (m : Machine). WalkIndexStep m name text (reply.WalkIndex keys) between) (sym now_is) step,
        subst (λ (walks : List WalkPath). AreWalksAdded between asked (with_consumer machine (Some (record position { walks = walks })))) joined added,
      ),
    )

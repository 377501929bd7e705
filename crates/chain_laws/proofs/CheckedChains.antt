-- Over a store that holds a chain a walk sees at each version the state of the chain, so where the models agree no check finds a difference.
use Rattle.std.proofs.Common.{◌≡◌, ◌+◌, ◌++◌, ℕ, suc, List, [], ◌∷◌, length, Option, Some, None, Ok, inl, inr, refl, sym, ap, subst, ◌∙◌, length-append, arith}
use Rattle.std.specs.Prelude.{Contains}
use Rattle.std.specs.List.{last_or}
use Rattle.std.proofs.lemmas.List.{get_or-append-add, get_or_append_left}
use Rattle.hol_io.specs.declared.name.BlobName.TheVariants.{Snapshot}
use Rattle.hol_io.specs.Name.{step_name}
use Rattle.hol_io.specs.Store.{Store}
use Rattle.schema_model.specs.declared.schema.name.Name.{Name}
use Rattle.schema_model.specs.declared.schema.Schema.{Schema}
use Rattle.schema_model.specs.Growth.{ModelsAgree}
use Rattle.row_model.specs.View.{view}
use Rattle.chain_check.specs.declared.place.Place.{Place}
use Rattle.chain_check.specs.Compare.{AreSame}
use Rattle.chain_check.specs.Walk.{Both, Differs, Goes, Passes}
use Rattle.chain_check.proofs.OnePlace.{one_place}
use Rattle.read_engine.specs.Position.{Position, rows_now}
use Rattle.hollow_machine.specs.CheckOrder.{WalkLoads, WalkSteps, both_new, state_at, walk_calls}
use Rattle.written_laws.specs.Chain.{Chain, ChainState, HasVersion}
use Rattle.written_laws.specs.HoldsChain.{HoldsChain}
use Rattle.written_laws.specs.SeenChain.{seen_in}
use Rattle.chain_laws.specs.Consumers.{IsIn, ModelsAgreeAmong, Sees, StandsAt}
use Rattle.chain_laws.proofs.ConsumerMoves.{loads_in, loads_state, one, stands_sees, steps_at}
use Rattle.chain_laws.proofs.ConsumerOrders.{step_between}

-- ---- versions among others

among_front : (first more : List ℕ) (x : ℕ) → Contains first x → Contains (first ++ more) x
among_front first more x (k, inside, is) = (k, omega (arith, inside, length-append first more), get_or_append_left first more x k inside ∙ is)

among_middle : (first more : List ℕ) (x : ℕ) → Contains (first ++ x ∷ more) x
among_middle first more x = (length first + 0, omega (arith, length-append first (x ∷ more)), get_or-append-add first (x ∷ more) 0 x)

among_tail : (first : ℕ) (more : List ℕ) (x : ℕ) → Contains more x → Contains (first ∷ more) x
among_tail first more x (k, inside, is) = (suc k, omega (arith, inside), is)

among_head : (first : ℕ) (more : List ℕ) → Contains (first ∷ more) first
among_head first more = (0, omega arith, refl)

module _ (store : Store) (chain : Chain) (holds : HoldsChain store chain) (versions : List ℕ) where
  -- The consumer sees the state of this version, through the model of the state of one of the versions.
  record IsAtVersion (version : ℕ) (consumer : Option Position) : Type 0 where
    position : Position
    is : consumer ≡ Some position
    state : ChainState
    there : HasVersion chain version state
    sees : Sees state position
    in_chain : IsIn chain position
    first : ℕ
    among : Contains versions first
    home : ChainState
    home_there : HasVersion chain first home
    model : home.model ≡ position.schemas

  -- The consumer stands at the state of this version.
  record IsLoadedAt (version : ℕ) (consumer : Option Position) : Type 0 where
    position : Position
    is : consumer ≡ Some position
    state : ChainState
    there : HasVersion chain version state
    stands : StandsAt state position
    in_chain : IsIn chain position

  loaded_at : (version : ℕ) (before now : Option Position) → WalkLoads (Some store) version before now (Ok tt) → IsLoadedAt version now
  loaded_at version before now (position, (blob, at, loads), is) =
      let (state, there, of) = holds.each (Snapshot version) blob at in
      record {
        position = position;
        is = is;
        state = state;
        there = there;
        stands = loads_state store chain holds version state blob position there at loads;
        in_chain = loads_in store chain holds version blob position at loads;
      }

  first_at : (version : ℕ) (now : Option Position) → Contains versions version → IsLoadedAt version now → IsAtVersion version now
  first_at version now among at = record {
    position = at.position;
    is = at.is;
    state = at.state;
    there = at.there;
    sees = stands_sees store chain holds version at.state at.position at.there at.stands;
    in_chain = at.in_chain;
    first = version;
    among = among;
    home = at.state;
    home_there = at.there;
    model = sym at.stands.model;
  }

  stepped_at : (from to : ℕ) (before now : Option Position) → IsAtVersion from before → WalkSteps (Some store) from to before now (Ok tt) → IsAtVersion to now
  stepped_at from to before now stood steps = from_position (subst (λ (consumer : Option Position). WalkSteps (Some store) from to consumer now (Ok tt)) stood.is steps)
    where
      from_position : WalkSteps (Some store) from to (Some stood.position) now (Ok tt) → IsAtVersion to now
      from_position (blob, position, there, taken, is) =
          let (is_in, at_version) = steps_at store chain holds (step_name from to) blob from to stood.position position (step_between from to) there stood.in_chain taken in
          record {
            position = position;
            is = is;
            state = is_in.state;
            there = subst (λ (v : ℕ). HasVersion chain v is_in.state) at_version is_in.there;
            sees = is_in.sees;
            in_chain = is_in;
            first = stood.first;
            among = stood.among;
            home = stood.home;
            home_there = stood.home_there;
            model = stood.model ∙ sym taken.model;
          }

  -- where the walk has come: to no version yet, or to this one
  abbrev HasCome : Option ℕ → Both (Option Position) → Type 0
  HasCome None both = Unit {0}
  HasCome (Some version) both = IsAtVersion version both.walker

  gone_to : (from : Option ℕ) (to : ℕ) (before now : Both (Option Position)) → Contains versions to → HasCome from before → Goes walk_calls (Some store) from to before.walker now.walker (Ok tt) → IsAtVersion to now.walker
  gone_to None to before now among come goes = first_at to now.walker among (loaded_at to before.walker now.walker goes)
  gone_to (Some from) to before now among come goes = stepped_at from to before.walker now.walker come goes

  come_by : (passed : List ℕ) (from : Option ℕ) (before now : Both (Option Position)) → ((v : ℕ) → Contains passed v → Contains versions v) → HasCome from before
      → Passes walk_calls (Some store) from passed before now → HasCome (last_or from passed) now
  come_by [] from before now among come same = subst (HasCome from) (sym same) come
  come_by (to ∷ more) from before now among come (there, inl visited, passes) =
      come_by more (Some to) there now (λ v inside. among v (among_tail to more v inside)) (gone_to from to before there (among to (among_head to more)) come visited.0.goes) passes
  come_by (to ∷ more) from before now among come (there, inr passed_by, passes) =
      come_by more (Some to) there now (λ v inside. among v (among_tail to more v inside)) (gone_to from to before there (among to (among_head to more)) come passed_by.goes) passes

  -- one who sees a state and one who stands at it have the same state, as the model of the first sees it
  same_at : (version : ℕ) (walker fresh : Option Position) → Contains versions version → ModelsAgreeAmong chain versions → IsAtVersion version walker → IsLoadedAt version fresh → AreSame (state_at walker) (state_at fresh)
  same_at version walker fresh among agree at other =
      let same : other.state ≡ at.state = one store chain holds version other.state at.state other.there at.there in
      let models : ModelsAgree at.position.schemas other.position.schemas =
      subst (λ (m : List Schema). ModelsAgree at.position.schemas m) (sym other.stands.model)
      (subst (λ (m : List Schema). ModelsAgree m other.state.model) at.model (agree at.first version at.home other.state at.among among at.home_there other.there)) in
      let model_back : other.state.model ≡ other.position.schemas = sym other.stands.model in
      let rows_back : other.state.table ≡ rows_now other.position = sym other.stands.rows in
      let here : AreSame (state_at (Some at.position)) (state_at (Some other.position)) =
      record {
        tags = at.sees.tag ∙ ap (λ (s : ChainState). s.tag) (sym same) ∙ sym other.stands.tag;
        models = models;
        rows = at.sees.rows ∙ ap (λ (s : ChainState). seen_in at.position.schemas s) (sym same)
            ∙ (λ i. view at.position.schemas (model_back i) (rows_back i));
      } in
      subst (λ (consumer : Option Position). AreSame (state_at consumer) (state_at fresh)) (sym at.is) (subst (λ (consumer : Option Position). AreSame (state_at (Some at.position)) (state_at consumer)) (sym other.is) here)

pub none_differs : (store : Store) (chain : Chain) (versions : List ℕ) → HoldsChain store chain → ModelsAgreeAmong chain versions
    → (version : ℕ) (type_name : Option Name) (ordinal : Option ℕ) (now : Both (Option Position)) → Differs walk_calls (Some store) versions both_new version type_name ordinal now → ⊥
none_differs store chain versions holds agree version type_name ordinal now is =
    let among : (v : ℕ) → Contains is.comes.passed v → Contains versions v =
    λ v inside. subst (λ (vs : List ℕ). Contains vs v) (sym is.comes.versions_are) (among_front is.comes.passed (version ∷ is.comes.more) v inside) in
    let last : Contains versions version = subst (λ (vs : List ℕ). Contains vs version) (sym is.comes.versions_are) (among_middle is.comes.passed is.comes.more version) in
    let come = subst (λ (f : Option ℕ). HasCome store chain holds versions f is.before) (sym is.comes.from_is) (come_by store chain holds versions is.comes.passed None both_new is.before among tt is.comes.passes) in
    let walker = gone_to store chain holds versions is.from version is.before now last come is.arrives.goes in
    let fresh = loaded_at store chain holds versions version is.before.fresh now.fresh is.arrives.loads in
    let same = same_at store chain holds versions version now.walker now.fresh last agree walker fresh in
    no_place (one_place (state_at now.walker) (state_at now.fresh) None (Some (record { type_name = type_name; ordinal = ordinal })) same is.place)
  where
    no_place : ◌≡◌ {A = Option Place} None (Some (record { type_name = type_name; ordinal = ordinal })) → ⊥
    no_place none = cc

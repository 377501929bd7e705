-- What is seen of a state through a model that grows its own: a closed table of that model, without a row twice.
use Rattle.std.proofs.Common.{◌≡◌, ◌∙◌, ℕ, List, Option, None, Some, refl, sym, ap, subst, slice_get}
use Rattle.std.specs.Prelude.{IsSome, is_some}
use Rattle.schema_model.specs.declared.model.rule.Rule.TheVariants.{DuplicateName}
use Rattle.schema_model.specs.declared.schema.Schema.{Schema}
use Rattle.schema_model.specs.Growth.{Grows}
use Rattle.schema_model.specs.Model.{IsModel}
use Rattle.schema_model.specs.Parts.{index_of_type}
use Rattle.schema_model.proofs.ModelFacts.{index_at}
use Rattle.schema_growth.proofs.Growths.{grown_agrees, grown_index, name_there}
use Rattle.row_model.specs.declared.row.Row.{Row}
use Rattle.row_model.specs.Table.{IsLive, IsTableOf, Table, row_at}
use Rattle.row_model.specs.View.{place_in, view}
use Rattle.seen_rows.proofs.ViewClosed.{of_then, view_closed, view_table}
use Rattle.seen_rows.proofs.ViewOnce.{view_once}
use Rattle.seen_rows.proofs.ViewPlaces.{live_there, none_seen}
use Rattle.written_laws.specs.Chain.{ChainState, HoldsOnce, IsSound}
use Rattle.written_laws.specs.SeenChain.{IsGrownState}

some_there : (found : Option Row) → IsSome found → (row : Row) × (found ≡ Some row)
some_there None live = absurd cc
some_there (Some row) live = (row, refl)

module _ (own grown : List Schema) (table : Table) (model : IsModel own) (grown_model : IsModel grown) (grows : Grows own grown) (fits : IsTableOf own table) where
  -- a type that the own model has stands at its own index there
  own_place : (t u : ℕ) → place_in own grown t ≡ Some u → u ≡ t
  own_place t u is =
      let found = of_then (λ (s : Schema). index_of_type own s.name) (slice_get grown t) u is in
      let later : index_of_type grown found.0.name ≡ Some u = grown_index own grown found.0.name u (model DuplicateName) (grown_model DuplicateName) grows found.2 in
      let here : index_of_type grown found.0.name ≡ Some t = (index_at grown found.0.name (grown_model DuplicateName) t).1 (name_there grown t found.0 found.1) in
      let same : Some u ≡ Some t = sym later ∙ here in
      cc

  -- a row that is seen is one of the same type and ordinal
  from_place : (t ordinal : ℕ) (place : Option ℕ) → place_in own grown t ≡ place → IsLive (view grown own table) t ordinal → IsLive table t ordinal
  from_place t ordinal None is live = absurd (none_seen own grown table t is ordinal live)
  from_place t ordinal (Some u) is live = subst (λ (k : ℕ). IsLive table k ordinal) (own_place t u is) (live_there own grown table t u is ordinal live)

  pub live_before : (t ordinal : ℕ) → IsLive (view grown own table) t ordinal → IsLive table t ordinal
  live_before t ordinal live = from_place t ordinal (place_in own grown t) refl live

  pub grown_once : HoldsOnce table → HoldsOnce (view grown own table)
  grown_once once t a b row at_a at_b =
      let same = view_once own grown table model grows fits t a b row at_a at_b in
      let (was, there) = some_there (row_at table t a) (live_before t a (ap is_some at_a)) in
      once t a b was there (sym same ∙ there)

pub state_grown : (state : ChainState) (grown : List Schema) → IsSound state → IsModel grown → Grows state.model grown → IsGrownState state grown
state_grown state grown sound grown_model grows =
    let agree = grown_agrees state.model grown grown_model grows in record {
      rows = view_table state.model grown state.table (sound.model DuplicateName) sound.rows agree;
      closed = view_closed state.model grown state.table (sound.model DuplicateName) sound.rows agree grown_model sound.closed;
      once = grown_once state.model grown state.table sound.model grown_model grows sound.rows sound.once;
      ordinals = λ t ordinal live. sound.ordinals t ordinal (live_before state.model grown state.table sound.model grown_model grows sound.rows t ordinal live);
    }

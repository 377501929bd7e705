-- A producer that goes on with a model that grows its own: it is over the chain as it was, and holds no row twice.
use Rattle.std.proofs.Common.{◌≡◌, ℕ, List, [], ◌∷◌, length, Option, Some, None, option_map, inl, inr, refl, sym, ap, ap₂, subst, ◌∙◌, slice_get, slice_index_or}
use Rattle.std.specs.Prelude.{All, IsSome, IsUtf8, option_and_then}
use Rattle.std.specs.FinMap.{empty, get, get-empty, nat_cmp-IsAntisymmetric, same_map}
use Rattle.std.specs.Cmp.{nat_cmp_total}
use Rattle.std.specs.Option.{option_map_or}
use Rattle.std.specs.Ordering.{nat_cmp}
use Rattle.std.proofs.lemmas.Option.{same_Some, slice_get-get_or}
use Rattle.schema_model.specs.declared.model.rule.Rule.TheVariants.{DuplicateName}
use Rattle.schema_model.specs.declared.schema.Schema.{Schema}
use Rattle.schema_model.specs.Growth.{Grows}
use Rattle.schema_model.specs.Model.{IsModel}
use Rattle.schema_model.specs.Parts.{index_of_type}
use Rattle.schema_model.specs.Schema.{EachName}
use Rattle.schema_model.proofs.Ways.{type_inside}
use Rattle.schema_growth.proofs.Growths.{grown_agrees, grows_further}
use Rattle.row_model.specs.declared.row.Row.{Row}
use Rattle.row_model.specs.BothStates.{rows_in}
use Rattle.row_model.specs.Table.{EachRow, Table, row_at}
use Rattle.row_model.specs.View.{seen_map, seen_row, seen_type, view}
use Rattle.row_model.proofs.RowsFrom.{get_in}
use Rattle.seen_rows.proofs.ViewClosed.{row_seen, view_table}
use Rattle.seen_rows.proofs.ViewTwice.{view_twice}
use Rattle.seen_rows.proofs.Views.{get_seen}
use Rattle.row_packing.specs.Written.{IsStored}
use Rattle.write_engine.specs.Cycle.{no_rows}
use Rattle.write_engine.proofs.NextStates.{none_there}
use Rattle.write_engine.proofs.StoredRows.{seen_stored}
use Rattle.state_blobs.specs.Published.{Published, new_producer}
use Rattle.hollow_machine.specs.GrowOrder.{grown_producer}
use Rattle.written_laws.specs.Chain.{Chain, HoldsOnce as HoldsNoneTwice, IsChain}
use Rattle.written_laws.proofs.GrownRows.{grown_once, live_before}
use Rattle.chain_laws.specs.Producers.{IsAt, IsOver}
use Rattle.chain_laws.proofs.OneCycle.{IsOnce}

-- ---- nothing is seen of no rows

none_of_type : (own : List Schema) (count : ℕ) (schema : Schema) → seen_type own (no_rows count) schema ≡ empty
none_of_type own count schema = of_index (index_of_type own schema.name)
  where
    of_index : (found : Option ℕ)
        → option_map_or (λ t. seen_map (slice_index_or own t schema).shape schema.shape (rows_in (no_rows count) t)) found (empty {R = nat_cmp}) ≡ empty
    of_index None = refl
    of_index (Some t) =
        let from = (slice_index_or own t schema).shape in
        same_map nat_cmp_total nat_cmp-IsAntisymmetric (seen_map from schema.shape (rows_in (no_rows count) t)) empty
        (λ q. get_seen from schema.shape (rows_in (no_rows count) t) q
        ∙ ap (λ rows. option_map (seen_row from schema.shape) (get rows q)) (none_there count t)
        ∙ ap (option_map (seen_row from schema.shape)) (get-empty nat_cmp q) ∙ sym (get-empty nat_cmp q))

none_seen : (own mine : List Schema) (count : ℕ) → view mine own (no_rows count) ≡ no_rows (length mine)
none_seen own [] count = refl
none_seen own (schema ∷ mine) count = ap₂ ◌∷◌ (none_of_type own count schema) (none_seen own mine count)

-- ---- a blob can hold what is seen of rows that one can hold

module _ (own mine : List Schema) (table : Table) (each : EachRow own table (λ schema row. IsStored row)) (ordinal : ℕ) (schema : Schema) (row : Row) where
  abbrev seen_at : ℕ → Row → Row
  seen_at u = seen_row (slice_index_or own u schema).shape schema.shape

  of_row : (u : ℕ) → index_of_type own schema.name ≡ Some u → (stored : Option Row) → row_at table u ordinal ≡ stored → option_map (seen_at u) stored ≡ Some row → IsStored row
  of_row u named None there is = absurd cc
  of_row u named (Some stored) there is =
      let known : slice_get own u ≡ Some (slice_index_or own u schema) = slice_get-get_or own u schema (type_inside own schema.name u named) in
      subst IsStored (same_Some _ _ is) (seen_stored (slice_index_or own u schema).shape schema.shape stored (each u ordinal (slice_index_or own u schema) stored known there))

  of_index : (place : Option ℕ) → index_of_type own schema.name ≡ place → option_and_then (λ u. option_map (seen_at u) (row_at table u ordinal)) place ≡ Some row → IsStored row
  of_index None named is = absurd cc
  of_index (Some u) named is = of_row u named (row_at table u ordinal) refl is

stored_seen : (own mine : List Schema) (table : Table) → EachRow own table (λ schema row. IsStored row) → EachRow mine (view mine own table) (λ schema row. IsStored row)
stored_seen own mine table each t ordinal schema row at found =
    of_index own mine table each ordinal schema row (index_of_type own schema.name) refl (sym (row_seen own table mine t ordinal schema at) ∙ found)

-- ---- the producer

module _ (last : Published) (schemas : List Schema) (model : IsModel schemas) (grows : Grows last.model schemas) where
  module _ (chain : Chain) (sound : IsChain chain) (over : IsOver chain last) where
    grown_new : last ≡ new_producer last.model → grown_producer schemas last ≡ new_producer schemas
    grown_new new =
        let rows : view schemas last.model last.rows ≡ no_rows (length schemas) =
        ap (λ (p : Published). view schemas last.model p.rows) new ∙ none_seen last.model schemas (length last.model) in
        let tag = ap (λ (p : Published). p.tag) new in
        let version = ap (λ (p : Published). p.version) new in
        λ i. record { model = schemas; rows = rows i; tag = tag i; version = version i }

    grown_at : IsAt chain last → IsAt chain (grown_producer schemas last)
    grown_at at =
        let state_model = (sound.sound last.version at.state at.there).model in
        record {
          state = at.state;
          there = at.there;
          published = at.published;
          tag = at.tag;
          grows = grows_further at.state.model last.model schemas at.grows grows;
          rows = ap (λ (rows : Table). view schemas last.model rows) at.rows
              ∙ view_twice at.state.model last.model schemas at.state.table (state_model DuplicateName) (over.model DuplicateName) at.grows;
          stored = stored_seen last.model schemas last.rows at.stored;
        }

    pub grown_over : All (EachName IsUtf8) schemas → IsOver chain (grown_producer schemas last)
    grown_over texts = record {
      model = model;
      texts = texts;
      stands = elim over.stands [ inl new ↦ inl (grown_new new) | inr at ↦ inr (grown_at at) ];
    }

  pub grown_holds_once : IsOnce last → IsOnce (grown_producer schemas last)
  grown_holds_once once =
      let rows = view schemas last.model last.rows in
      let was : HoldsNoneTwice last.rows = λ t a b row at_a at_b. once.once.once t a b row (get_in last.rows t a ∙ at_a) (get_in last.rows t b ∙ at_b) in
      let seen : HoldsNoneTwice rows = grown_once last.model schemas last.rows once.model model grows once.rows was in
      record {
        model = model;
        rows = view_table last.model schemas last.rows (once.model DuplicateName) once.rows (grown_agrees last.model schemas model grows);
        once = record {
          once = λ t a b row at_a at_b. seen t a b row (sym (get_in rows t a) ∙ at_a) (sym (get_in rows t b) ∙ at_b);
          low = λ t ordinal live.
              once.once.low t ordinal (subst IsSome (sym (get_in last.rows t ordinal))
              (live_before last.model schemas last.rows once.model model grows once.rows t ordinal (subst IsSome (get_in rows t ordinal) live)));
        };
      }

-- Room for rows of a type changes no state.
use Rattle.std.proofs.Common.{◌≡◌, ℕ, ◌<◌, List, length, get_or, slice_set, sym, ap, subst, ◌∙◌}
use Rattle.std.specs.Prelude.{ℤ, Bool, Option}
use Rattle.schema_model.specs.declared.limit.Limit.{Limit}
use Rattle.schema_model.specs.declared.schema.Schema.{Schema}
use Rattle.ordinal_map.specs.States.{States}
use Rattle.write_engine.specs.Agreement.{TablesAgree}
use Rattle.write_engine.specs.Production.{IsProducing, current_of, previous_of}
use Rattle.write_engine.specs.Soundness.{IsClosedTableOf}
use Rattle.write_engine.specs.StoredRows.{AreStored}
use Rattle.write_engine.proofs.Producing.{made}
use Rattle.write_engine.proofs.Puts.{map_set, set_same}

module _ (maps : List States) (t : ℕ) (after d : States) (inside : t < length maps) (is : after ≡ get_or maps t d) where
  pub reserved_previous : previous_of (slice_set maps t after) ≡ previous_of maps
  reserved_previous = map_set (λ s. s.previous) maps t after ∙ set_same (λ s. s.previous) maps t after d inside (ap (λ (s : States). s.previous) is)

  pub reserved_current : current_of (slice_set maps t after) ≡ current_of maps
  reserved_current = map_set (λ s. s.current) maps t after ∙ set_same (λ s. s.current) maps t after d inside (ap (λ (s : States). s.current) is)

module _ (schemas : List Schema) (maps after : List States) (before : previous_of after ≡ previous_of maps) (now : current_of after ≡ current_of maps) where
  pub reserved_producing : IsProducing schemas maps → IsProducing schemas after
  reserved_producing producing = record {
    previous = subst (IsClosedTableOf schemas) (sym before) producing.previous;
    current = subst (IsClosedTableOf schemas) (sym now) producing.current;
    agree = subst (λ table. TablesAgree table (current_of after)) (sym before) (subst (TablesAgree (previous_of maps)) (sym now) producing.agree);
    stored_previous = subst AreStored (sym before) producing.stored_previous;
    stored_current = subst AreStored (sym now) producing.stored_current;
  }

  pub reserved_view : (tag : ℤ) (version : ℕ) (closed : Bool) (over : Option Limit) → made schemas after tag version closed over ≡ made schemas maps tag version closed over
  reserved_view tag version closed over =
      λ i. record { schemas = schemas; previous = before i; current = now i; tag = tag; version = version; closed = closed; over = over }

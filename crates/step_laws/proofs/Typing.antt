-- Where a consumer stands it has a model, and a half for each type: so it is behind each load, and it stays so.
use Rattle.std.proofs.Common.{ℕ, List, length, sym, ap, ◌∙◌, subst}
use Rattle.std.proofs.lemmas.List.{length-map}
use Rattle.std.proofs.lemmas.Slice.Zip.{AllZip-long}
use Rattle.schema_model.specs.declared.schema.Schema.{Schema}
use Rattle.schema_model.specs.Model.{IsModel}
use Rattle.type_state.specs.State.{Half}
use Rattle.snapshot_blob.specs.declared.part.TypePart.{TypePart}
use Rattle.snapshot_blob.specs.Stated.{TypeIs}
use Rattle.read_engine.specs.Position.{IsPosition, Position}
use Rattle.read_engine.specs.Taking.{LoadsFrom, StepsBy}
use Rattle.step_laws.specs.Typed.{HasTypes}

pub position_typed : (position : Position) → IsPosition position → HasTypes position
position_typed position is = record { model = is.model; types = sym (length-map position.halves (λ (h : Half). h.rows)) ∙ is.rows.types }

pub load_typed : (blob : List ℕ) (position : Position) → LoadsFrom blob position → HasTypes position
load_typed blob position (head, (parts, is, kept), tag, before, bare, unwalked) = record {
  model = is.state.model;
  types = AllZip-long TypeIs parts position.halves is.state.types ∙ sym (length-map parts (λ (part : TypePart). part.schema)) ∙ ap (λ (ss : List Schema). length ss) is.state.named;
}

pub step_typed : (blob : List ℕ) (from to : Position) → HasTypes from → StepsBy blob from to → HasTypes to
step_typed blob from to typed steps = record {
  model = subst IsModel (sym steps.model) typed.model;
  types = steps.types ∙ typed.types ∙ ap (λ (ss : List Schema). length ss) (sym steps.model);
}

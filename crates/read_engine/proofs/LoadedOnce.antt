-- A blob is loaded to one position.
use Rattle.std.proofs.Common.{◌≡◌, ℕ, List, sym, ap, ◌∙◌}
use Rattle.schema_model.specs.declared.schema.Schema.{Schema}
use Rattle.type_state.specs.State.{Half}
use Rattle.type_state.specs.Views.{table_of}
use Rattle.blob_frame.specs.declared.header.Header.{Header}
use Rattle.snapshot_blob.specs.declared.part.TypePart.{TypePart}
use Rattle.snapshot_blob.specs.Snapshot.{SnapshotIs}
use Rattle.read_engine.specs.Position.{Position}
use Rattle.read_engine.specs.Taking.{LoadsFrom}

abbrev pub OneSnapshot : Type 0
OneSnapshot = (blob : List ℕ) (a b : Header) (ps qs : List TypePart) (s t : List Schema) (x y : List Half) → SnapshotIs blob a ps s x → SnapshotIs blob b qs t y → (a ≡ b) × (ps ≡ qs) × (s ≡ t) × (x ≡ y)

pub loaded_once : OneSnapshot → (blob : List ℕ) (a b : Position) → LoadsFrom blob a → LoadsFrom blob b → a ≡ b
loaded_once law blob a b (head, accepted, tag, before, none, unwalked) (also, other, tag_too, before_too, none_too, unwalked_too) =
    let (heads, parts, schemas, halves) = law blob head also accepted.0 other.0 a.schemas b.schemas a.halves b.halves accepted.1 other.1 in
    let same_tag = tag ∙ ap (λ (h : Header). h.destination) heads ∙ sym tag_too in
    let same_before = before ∙ ap table_of halves ∙ sym before_too in
    let same_indexes = none ∙ sym none_too in
    let same_walks = unwalked ∙ sym unwalked_too in
    λ i. record { tag = same_tag i; schemas = schemas i; halves = halves i; before = same_before i; indexes = same_indexes i; walks = same_walks i }

-- The items of a snapshot: its header, its types and the end of the blob.
use Rattle.std.proofs.Common.{◌≡◌, ◌∙◌, ℕ, List, length, refl, sym, subst, inl, inr}
use Rattle.schema_model.specs.declared.reason.Reason.{Reason}
use Rattle.blob_grammar.specs.Form.{◌>>=◌, nothing, both}
use Rattle.blob_frame.specs.declared.header.Header.{Header}
use Rattle.blob_frame.specs.Header.{header, HeaderIs}
use Rattle.blob_frame.specs.Item.{end, vint}
use Rattle.blob_sections.specs.declared.head.TypeHead.{TypeHead}
use Rattle.blob_sections.specs.Head.{type_head}
use Rattle.blob_faults.proofs.Spelled.{IsSpelled, counted_spelled, kept_lengths, kept_sizes, schema_spelled}
use Rattle.snapshot_blob.specs.declared.part.TypePart.{TypePart}
use Rattle.snapshot_blob.specs.Parts.{body, snapshot, type_part}
use Rattle.snapshot_blob.specs.Stated.{CanStand, schemas_of}

-- a body that stands reaches up to the end of the blob
pub body_ends : (blob : List ℕ) (at next : ℕ) (parts : List TypePart) → body.Stands blob at parts next → next ≡ length blob
unfolding body ◌>>=◌ nothing end
body_ends blob at next parts (all, mid, listed, (u, behind, ended, is)) = is.1 ∙ ended.1 ∙ ended.0

part_spelled : (bytes : List ℕ) (at : ℕ) (part : TypePart) (next : ℕ) → type_part.Stands bytes at part next → IsSpelled part.schema
unfolding type_part type_head ◌>>=◌ nothing
part_spelled bytes at part next (head, mid, (offset, here, placed, (of_type, behind, stands, (skipped, past, envelope, made))), (section, last, found, is)) =
    subst (λ (p : TypePart). IsSpelled p.schema) (sym is.0) (subst (λ (h : TypeHead). IsSpelled h.schema) (sym made.0) (schema_spelled bytes here of_type behind stands))

-- the types that stand in a blob can stand there
pub body_can_stand : (blob : List ℕ) (at next : ℕ) (parts : List TypePart) → body.Stands blob at parts next → CanStand (schemas_of parts)
unfolding body ◌>>=◌ nothing
body_can_stand blob at next parts (all, mid, listed, (u, behind, ended, is)) =
    let spelled = counted_spelled vint type_part (λ (part : TypePart). part.schema) part_spelled blob at all mid listed in
    subst (λ (ps : List TypePart). CanStand (schemas_of ps)) (sym is.0)
    (record { few = kept_sizes (schemas_of all) spelled.0 spelled.1; short = kept_lengths (schemas_of all) spelled.1 })

-- a header and the body behind it are the items of a snapshot
pub joined : (blob : List ℕ) (head : Header) (n next : ℕ) (parts : List TypePart) → HeaderIs blob n head → body.Stands blob n parts next → snapshot.Stands blob 0 (head, parts) next
unfolding snapshot both ◌>>=◌ nothing
joined blob head n next parts begins stands = (head, n, begins, (parts, next, stands, (refl, refl)))

-- a snapshot that stands reaches up to the end of the blob
pub snapshot_ends : (blob : List ℕ) (items : Header × List TypePart) (next : ℕ) → snapshot.Stands blob 0 items next → next ≡ length blob
unfolding snapshot both ◌>>=◌ nothing
snapshot_ends blob items next (head, n, begins, (parts, mid, stands, is)) = is.1 ∙ body_ends blob n mid parts stands

-- a snapshot whose header is stuck is stuck there
pub stuck_head : (blob : List ℕ) (place : ℕ) (why : Reason) → header.Stuck blob 0 place why → snapshot.Stuck blob 0 place why
unfolding snapshot both ◌>>=◌
stuck_head blob place why stuck = inl stuck

-- and so is one whose body is
pub stuck_body : (blob : List ℕ) (head : Header) (n place : ℕ) (why : Reason) → HeaderIs blob n head → body.Stuck blob n place why → snapshot.Stuck blob 0 place why
unfolding snapshot both ◌>>=◌
stuck_body blob head n place why begins stuck = inr (head, n, begins, inl stuck)

-- A header and the types behind it are a delta, and a delta begins with its header.
use Rattle.std.proofs.Common.{◌≡◌, ℕ, ℤ, List, length, refl, ap, sym, ◌∙◌, subst}
use Rattle.schema_model.specs.declared.schema.Schema.{Schema}
use Rattle.blob_grammar.specs.Form.{◌>>=◌, nothing, both}
use Rattle.blob_frame.specs.declared.header.Header.{Header}
use Rattle.blob_frame.specs.Header.{header, HeaderIs}
use Rattle.blob_frame.specs.Item.{end}
use Rattle.delta_blob.specs.declared.part.DeltaPart.{DeltaPart}
use Rattle.delta_blob.specs.Parts.{body, delta}
use Rattle.delta_blob.specs.Patch.{DeltaIs, TypePatch}

-- the types of a delta that stand reach up to the end of the blob
pub body_ends : (blob : List ℕ) (at next : ℕ) (parts : List DeltaPart) → body.Stands blob at parts next → next ≡ length blob
unfolding body ◌>>=◌ nothing end
body_ends blob at next parts (all, mid, listed, (u, behind, ended, is)) = is.1 ∙ ended.1 ∙ ended.0

pub joined : (blob : List ℕ) (head : Header) (n : ℕ) (parts : List DeltaPart) → HeaderIs blob n head → body.Stands blob n parts (length blob) → delta.Stands blob 0 (head, parts) (length blob)
unfolding delta both ◌>>=◌ nothing
joined blob head n parts begins stands = (head, n, begins, (parts, length blob, stands, (refl, refl)))

pub split : (blob : List ℕ) (head : Header) (parts : List DeltaPart) (next : ℕ) → delta.Stands blob 0 (head, parts) next → (n : ℕ) × HeaderIs blob n head × body.Stands blob n parts next
unfolding delta both ◌>>=◌ nothing
split blob head parts next (h, n, begins, (ps, m, stands, is)) =
    let of : ps ≡ parts = ap (λ p. p.1) (sym is.0) in
    (n, subst (λ (h : Header). header.Stands blob 0 h n) (ap (λ p. p.0) (sym is.0)) begins, subst (λ k. body.Stands blob n parts k) (sym is.1) (subst (λ (ps : List DeltaPart). body.Stands blob n ps m) of stands))

pub begins : (schemas : List Schema) (blob : List ℕ) (origin destination : ℤ) (patch : List TypePatch) → (is : DeltaIs schemas blob origin destination patch) → (n : ℕ) × HeaderIs blob n is.head × body.Stands blob n is.parts (length blob)
begins schemas blob origin destination patch is = split blob is.head is.parts (length blob) is.items.items

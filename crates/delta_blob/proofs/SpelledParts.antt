-- Types that stand in a blob keep the rules of models on sizes: there are few of them, each has few fields, and no text of them is too long.
use Rattle.std.proofs.Common.{ℕ, List, ap, subst, sym}
use Rattle.blob_grammar.specs.Form.{◌>>=◌, here, nothing}
use Rattle.blob_frame.specs.Item.{vint}
use Rattle.blob_sections.specs.declared.head.TypeHead.{TypeHead}
use Rattle.blob_sections.specs.Head.{type_head}
use Rattle.blob_faults.proofs.Spelled.{IsSpelled, counted_spelled, kept_lengths, kept_sizes, schema_spelled}
use Rattle.delta_blob.specs.declared.part.DeltaPart.{DeltaPart}
use Rattle.delta_blob.specs.OfModel.{AreSpelled}
use Rattle.delta_blob.specs.Parts.{body, patch_part}
use Rattle.delta_blob.specs.Patch.{schemas_in}

pub head_spelled : (bytes : List ℕ) (at : ℕ) (head : TypeHead) (next : ℕ) → type_head.Stands bytes at head next → IsSpelled head.schema
unfolding type_head ◌>>=◌ nothing here
head_spelled bytes at head next (offset, from, placed, (of_type, mid, stands, (u, end, enveloped, is))) =
    subst IsSpelled (ap (λ (h : TypeHead). h.schema) (sym is.0)) (schema_spelled bytes from of_type mid stands)

part_spelled : (bytes : List ℕ) (at : ℕ) (part : DeltaPart) (next : ℕ) → patch_part.Stands bytes at part next → IsSpelled part.schema
unfolding patch_part ◌>>=◌ nothing
part_spelled bytes at part next (head, mid, stands, (patch, end, section, is)) =
    subst IsSpelled (ap (λ (p : DeltaPart). p.schema) (sym is.0)) (head_spelled bytes at head mid stands)

-- they are few, and each is spelled
pub body_spelled : (blob : List ℕ) (at : ℕ) (parts : List DeltaPart) (next : ℕ) → body.Stands blob at parts next → AreSpelled parts
unfolding body ◌>>=◌ nothing
body_spelled blob at parts next (all, mid, listed, (u, behind, ended, is)) =
    let (few, spelled) = counted_spelled vint patch_part (λ (part : DeltaPart). part.schema) part_spelled blob at all mid listed in
    subst AreSpelled (sym is.0) (record { few = kept_sizes (schemas_in all) few spelled; short = kept_lengths (schemas_in all) spelled })

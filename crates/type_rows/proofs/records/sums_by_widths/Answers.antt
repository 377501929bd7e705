use Rattle.std.proofs.Common.{◌≡◌, List, ℕ, ap, get_or, length, replicate, subst, sym, ◌∙◌}
use Rattle.schema_model.specs.declared.schema.Field.{Field}
use Rattle.schema_model.specs.Parts.{shape_fields}
use Rattle.object_codec.specs.ObjectPlace.{IsObject}
use Rattle.type_rows.specs.Free.{AreFree}
use Rattle.type_rows.proofs.Columns.{object_long}
use Rattle.type_rows.proofs.FreeRecords.{free_laid, zeros_long, zeros_there}
use Rattle.type_rows.proofs.records.sums_by_widths.Goals as goal

pub are_free-requires : goal.are_free-requires
are_free-requires c =
    let object : IsObject c.args.shape.now = subst IsObject (sym c.in-Object.is) tt in
    let fields : c.as_slice.result.now ≡ shape_fields c.args.shape.now = c.as_slice.ensures ∙ sym (ap shape_fields c.in-Object.is) in
    ap length c.as_slice-2.ensures ∙ object_long c.args.shape.now c.args.section.now object c.requires.readable ∙ sym (ap length fields)

pub returns-clause-laid : goal.returns-clause-laid
returns-clause-laid c =
    let shape = c.args.shape.now in
    let section = c.args.section.now in
    let object : IsObject shape = subst IsObject (sym c.in-Object.is) tt in
    let fields : c.as_slice.result.now ≡ shape_fields shape = c.as_slice.ensures ∙ sym (ap shape_fields c.in-Object.is) in
    let free : AreFree (shape_fields shape) section.widths (length (shape_fields shape)) =
    subst (λ (fs : List Field). AreFree fs section.widths (length fs)) fields
    (subst (λ (w : List ℕ). AreFree c.as_slice.result.now w (length c.as_slice.result.now)) c.as_slice-2.ensures (c.are_free.ensures c.if-not-are_free.false)) in
    let lengths : c.from_vec-lengths.result ≡ replicate c.len.result 0 = c.from_vec-lengths.ensures ∙ c.in_ok-vec.ensures.items_if_clones_equal (λ y same. same) in
    free_laid shape section object free c.requires.readable c.requires.placed c.requires.rising c.from_vec-lengths.result
    (ap length lengths ∙ zeros_long c.len.result ∙ c.len.ensures ∙ sym (ap (λ s. length (shape_fields s)) c.in-Object.is)) (λ k. ap (λ (l : List ℕ). get_or l k 0) lengths ∙ zeros_there c.len.result k)

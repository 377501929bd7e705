use Rattle.std.proofs.Common.{◌↔◌, ℕ, List, Option}
use Rattle.schema_model.specs.declared.reason.Reason.{Reason}
use Rattle.schema_model.specs.declared.schema.Shape.{Shape}
use Rattle.type_rows.specs.Layout.{places_of}
use Rattle.blob_sections.specs.declared.section.PackedRows.{PackedRows}
use Rattle.blob_sections.specs.Section.{packed_records, packed_runs, packed_rows}
use Rattle.delta_blob.specs.Added.{added_records, added_runs, added_rows}
use Rattle.delta_blob.proofs.laws.same_packed_rows.Goals as goal

stands : (shape : Shape) (max : Option ℕ) (bytes : List ℕ) (at : ℕ) (rows : PackedRows) (next : ℕ) →
    (added_rows shape max (places_of max)).Stands bytes at rows next ↔ (packed_rows shape max).Stands bytes at rows next
unfolding packed_records packed_runs packed_rows added_records added_runs added_rows
stands (Shape.Object key fields) max bytes at rows next = (λ h. h, λ h. h)
stands (Shape.List element) max bytes at rows next = (λ h. h, λ h. h)
stands (Shape.Set element) max bytes at rows next = (λ h. h, λ h. h)
stands (Shape.Map key value) max bytes at rows next = (λ h. h, λ h. h)

stuck : (shape : Shape) (max : Option ℕ) (bytes : List ℕ) (at place : ℕ) (why : Reason) →
    (added_rows shape max (places_of max)).Stuck bytes at place why ↔ (packed_rows shape max).Stuck bytes at place why
unfolding packed_records packed_runs packed_rows added_records added_runs added_rows
stuck (Shape.Object key fields) max bytes at place why = (λ h. h, λ h. h)
stuck (Shape.List element) max bytes at place why = (λ h. h, λ h. h)
stuck (Shape.Set element) max bytes at place why = (λ h. h, λ h. h)
stuck (Shape.Map key value) max bytes at place why = (λ h. h, λ h. h)

pub returns : goal.returns
returns c = record { stands = stands; stuck = stuck }

-- The widths of the parts of a type's rows.
use Rattle.std.specs.Prelude.{◌≡◌, ◌≤◌, ◌<◌, ◌⊎◌, ℕ, List, Option, Some, None}
use Rattle.std.proofs.lemmas.Bool.{cases_lt, cases_eq}
use Rattle.std.proofs.Common.{inl, inr}
use Rattle.schema_model.specs.declared.reason.Reason.TheVariants.{BadWidth}
use Rattle.schema_model.specs.declared.schema.FieldKind.{FieldKind}
use Rattle.schema_model.specs.declared.schema.Shape.{Shape}
use Rattle.schema_model.specs.Parts.{shape_fields}
use Rattle.object_codec.specs.ObjectPlace.{IsKindWidth}
use Rattle.type_rows.specs.Layout.{width_count}
use Rattle.type_rows.specs.WellFormed.{IsWidth}
use Rattle.blob_grammar.specs.Deciding.{judge_rule, not_below, below_or}
use Rattle.blob_grammar.specs.Form.{Form, judged, repeated, each_of}
use Rattle.blob_frame.specs.Item.{vint}

-- whether a width is 64 at most
narrow_or : (width : ℕ) → (width ≤ 64) ⊎ (width ≤ 64 → ⊥)
narrow_or width = elim (cases_lt 64 width) [ inl wide ↦ inr (λ narrow. not_below narrow wide) | inr narrow ↦ inl narrow ]

-- whether there is a bit for the null
null_bit_or : (width : ℕ) → (1 ≤ width) ⊎ (1 ≤ width → ⊥)
null_bit_or width = elim (cases_lt width 1) [ inl none ↦ inr (λ some. not_below some none) | inr some ↦ inl some ]

-- whether a kind may have a width where there are places
kind_width_or : (kind : FieldKind) (width : ℕ) → IsKindWidth kind width ⊎ (IsKindWidth kind width → ⊥)
kind_width_or (FieldKind.Reference name) width = inl tt
kind_width_or FieldKind.Int width = inl tt
kind_width_or FieldKind.Long width = inl tt
kind_width_or FieldKind.Boolean width = cases_eq width 2
kind_width_or FieldKind.Text width = null_bit_or width
kind_width_or FieldKind.Bytes width = null_bit_or width

-- whether a field may have a width
pub width_or : (max : Option ℕ) (kind : FieldKind) (width : ℕ) → IsWidth max kind width ⊎ (IsWidth max kind width → ⊥)
width_or None kind width = narrow_or width
width_or (Some max) kind width = elim (narrow_or width) [
  | inl narrow ↦ elim (kind_width_or kind width) [ inl fits ↦ inl (narrow, fits) | inr not ↦ inr (λ h. not h.1) ]
  | inr not ↦ inr (λ h. not h.0)
]

-- The width of a field under a max ordinal.
unfoldable pub field_width : Option ℕ → FieldKind → Form ℕ
field_width max kind = judged vint (λ n width. (width ≡ n) × IsWidth max kind n) (λ n why. (IsWidth max kind n → ⊥) × (why ≡ BadWidth))
    (judge_rule (λ n. IsWidth max kind n) (λ n. IsWidth max kind n → ⊥) BadWidth (λ n p q. q p) (width_or max kind))

-- The widths of the fields of an OBJECT, in their order.
unfoldable pub field_widths : Shape → Option ℕ → Form (List ℕ)
field_widths shape max = each_of (λ field. field_width max field.kind) (shape_fields shape)

-- A width of a LIST, SET or MAP, which is 64 at most.
unfoldable pub part_width : Form ℕ
part_width = judged vint (λ n width. (width ≡ n) × (n ≤ 64)) (λ n why. (64 < n) × (why ≡ BadWidth))
    (judge_rule (λ n. n ≤ 64) (λ n. 64 < n) BadWidth (λ n p q. not_below p q) (λ n. below_or n 64))

-- The widths of a LIST, SET or MAP, as many as its kind has.
unfoldable pub part_widths : Shape → Form (List ℕ)
part_widths shape = repeated (width_count shape) part_width

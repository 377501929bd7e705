-- A reference of a live row leads to a live row.
use Rattle.std.proofs.Common.{◌≡◌, ◌<◌, ℕ, List, Option, Some, length, sym, ap, ◌∙◌}
use Rattle.schema_model.specs.declared.schema.Schema.{Schema}
use Rattle.row_model.specs.declared.row.Row.{Row}
use Rattle.row_model.specs.declared.row.Value.{Value}
use Rattle.row_model.specs.Key.{ordinal_in, type_behind, value_in}
use Rattle.row_model.specs.Table.{IsClosed, IsLive, IsTableOf, Table, row_at}
use Rattle.key_index.proofs.KeptKeys.{live_type, named_live}

-- The value that was looked at in a field names the row.
pub followed : (schemas model : List Schema) (table : Table) (t ordinal field next named : ℕ) (lent row : Row) (looked : Option Value) (found : Value) (behind : Option ℕ) → IsClosed schemas table →
    IsTableOf schemas table → model ≡ schemas → row_at table t ordinal ≡ Some lent → row ≡ lent → looked ≡ value_in (Some row) field → looked ≡ Some found → found ≡ Value.Ref named →
    behind ≡ type_behind model t field → behind ≡ Some next → (next < length schemas) × IsLive table next named
followed schemas model table t ordinal field next named lent row looked found behind closed fits same stands is_row is_looked some refers is_behind leads =
    let names : ordinal_in (value_in (row_at table t ordinal) field) ≡ Some named =
    ap (λ (r : Option Row). ordinal_in (value_in r field)) (stands ∙ ap Some (sym is_row)) ∙ ap ordinal_in (sym is_looked ∙ some) ∙ ap (λ (value : Value). ordinal_in (Some value)) refers in
    let target : type_behind schemas t field ≡ Some next = ap (λ (m : List Schema). type_behind m t field) (sym same) ∙ sym is_behind ∙ leads in
    let live : IsLive table next named = named_live schemas table t ordinal closed field next named target names in
    (live_type schemas table next named fits live, live)

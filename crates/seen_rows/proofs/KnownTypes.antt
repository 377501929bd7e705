-- A model has each type that its rows name.
use Rattle.std.proofs.Common.{◌≡◌, ℕ, List, Option, Some, None, refl, ap, slice_index_or}
use Rattle.std.specs.Prelude.{All, Any, IsSome, is_some, slice_get}
use Rattle.schema_model.specs.Model.{IsModel}
use Rattle.schema_model.specs.Parts.{index_of_type, named_types}
use Rattle.schema_model.specs.declared.model.rule.Rule.TheVariants.{UnknownType}
use Rattle.schema_model.specs.declared.schema.name.Name.{Name}
use Rattle.schema_model.specs.declared.schema.Schema.{Schema}
use Rattle.schema_growth.proofs.Growths.{any_default}
use Rattle.row_model.specs.declared.row.Row.{Row}
use Rattle.row_model.specs.Row.{references_of_row}
use Rattle.row_model.proofs.NamedTypes.{row_named}

known_here : {X Y : Type 0} (find : X → Option Y) (x : X) (o : Option Y) → find x ≡ o → (o ≡ None → ⊥) → IsSome (find x)
known_here find x None is some = absurd (some refl)
known_here find x (Some y) is some = ap is_some is

all_known : {X Y : Type 0} (find : X → Option Y) (xs : List X) → (Any (λ x. find x ≡ None) xs → ⊥) → All (λ x. IsSome (find x)) xs
all_known find xs none k d below =
    let x = slice_index_or xs k d in known_here find x (find x) refl (λ unknown. none (k, x, below, any_default xs k x d below, unknown))

-- a model has each type that its rows name
pub types_known : (schemas : List Schema) (t : ℕ) (schema : Schema) (row : Row) → IsModel schemas → slice_get schemas t ≡ Some schema
    → All (λ (named : Name × ℕ). IsSome (index_of_type schemas named.0)) (references_of_row schema.shape row)
types_known schemas t schema row model at =
    row_named (λ name. IsSome (index_of_type schemas name)) schema.shape row (all_known (index_of_type schemas) (named_types schema) (λ unknown. model UnknownType t (schema, at, unknown)))

-- Fields of one name and one kind are the same.
use Rattle.std.proofs.Common.{◌≡◌, ℕ, ◌<◌, List, length, get_or, sym, subst}
use Rattle.std.specs.Prelude.{All}
use Rattle.schema_model.specs.declared.schema.Field.{Field}
use Rattle.schema_model.specs.Growth.{IsOneKind, KindsAgree}

pub same_at : (mine theirs : List Field) (place : ℕ) (x y : Field) → KindsAgree mine theirs → place < length mine → place < length theirs → x ≡ get_or mine place x → y ≡ get_or theirs place y
    → x.name ≡ y.name → x ≡ y
same_at mine theirs place x y agree in_mine in_theirs is_x is_y names =
    let all = subst (λ (f : Field). All (IsOneKind f) theirs) (sym is_x) (agree place x in_mine) in
    let one = subst (λ (f : Field). IsOneKind x f) (sym is_y) (all place y in_theirs) in
    let kinds = one names in
    λ i. record { name = names i; kind = kinds i }

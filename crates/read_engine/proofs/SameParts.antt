-- When two parts of walk paths are the same.
use Rattle.std.proofs.Common.{◌≡◌, refl, ap}
use Rattle.std.specs.Prelude.{◌==◌}
use Rattle.std.specs.Bool.{Decides}
use Rattle.std.proofs.lemmas.Bool.Decides.{Decides-eqb, Decides-like}
use Rattle.schema_model.specs.contracts.model.walk_path.WalkPartPartialEq.TheImpl as parts
use Rattle.schema_model.specs.declared.model.walk_path.WalkPart.{WalkPart}
use Rattle.schema_model.specs.declared.model.walk_path.WalkPart.TheVariants.{Field as FieldPart, Element, MapKey, MapValue}

pub same_part : (a b : WalkPart) → Decides (parts.eq-value.it a b) (a ≡ b)
same_part (FieldPart i) (FieldPart j) = Decides-like (i == j) (ap FieldPart) (λ e. cc) (Decides-eqb i j)
same_part (FieldPart i) Element = ((λ e. absurd cc), (λ e. absurd cc))
same_part (FieldPart i) MapKey = ((λ e. absurd cc), (λ e. absurd cc))
same_part (FieldPart i) MapValue = ((λ e. absurd cc), (λ e. absurd cc))
same_part Element (FieldPart j) = ((λ e. absurd cc), (λ e. absurd cc))
same_part Element Element = ((λ e. refl), (λ e. refl))
same_part Element MapKey = ((λ e. absurd cc), (λ e. absurd cc))
same_part Element MapValue = ((λ e. absurd cc), (λ e. absurd cc))
same_part MapKey (FieldPart j) = ((λ e. absurd cc), (λ e. absurd cc))
same_part MapKey Element = ((λ e. absurd cc), (λ e. absurd cc))
same_part MapKey MapKey = ((λ e. refl), (λ e. refl))
same_part MapKey MapValue = ((λ e. absurd cc), (λ e. absurd cc))
same_part MapValue (FieldPart j) = ((λ e. absurd cc), (λ e. absurd cc))
same_part MapValue Element = ((λ e. absurd cc), (λ e. absurd cc))
same_part MapValue MapKey = ((λ e. absurd cc), (λ e. absurd cc))
same_part MapValue MapValue = ((λ e. refl), (λ e. refl))

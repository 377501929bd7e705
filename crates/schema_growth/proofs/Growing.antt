-- Fields that stand in front of others, and models that grow.
use Rattle.std.proofs.Common.{◌≡◌, ℕ, ◌<◌, ◌≤◌, Bool, true, false, List, Some, ◌++◌, length, take, drop, take-append-drop, arith, ap, sym, subst, ◌∙◌, ◌↔◌, IsTrue, slice_get}
use Rattle.std.specs.Prelude.{IsSomeAnd}
use Rattle.std.proofs.Math.Seq.{take-append_seam}
use Rattle.std.proofs.lemmas.Option.{slice_get_within}
use Rattle.schema_model.specs.Growth.{Grows, GrowsAt, GrowsType}
use Rattle.schema_model.specs.declared.schema.Schema.{Schema}

module _ {X : Type 0} (xs ys : List X) where
  -- the rest stands behind them
  pub front_of : xs ≡ take (length xs) ys → (more : List X) × (ys ≡ xs ++ more)
  front_of same = (drop (length xs) ys, sym (take-append-drop (length xs) ys) ∙ ap (λ zs. zs ++ drop (length xs) ys) (sym same))

  pub in_front : ((more : List X) × (ys ≡ xs ++ more)) → xs ≡ take (length xs) ys
  in_front (more, is) = sym (ap (take (length xs)) is ∙ take-append_seam xs more)

module _ (schemas grown : List Schema) (t : ℕ) (schema : Schema) (there : slice_get schemas t ≡ Some schema) where
  -- a type that is there has grown where its schema has
  pub grows_here : IsSomeAnd (slice_get grown t) (GrowsType schema) → GrowsAt schemas grown t
  grows_here grows other is =
      let same : schema ≡ other = cc in subst (λ s. IsSomeAnd (slice_get grown t) (GrowsType s)) same grows

  -- and has not where it has not
  pub not_here : (b : Bool) → (IsTrue b ↔ IsSomeAnd (slice_get grown t) (GrowsType schema)) → b ≡ false → GrowsAt schemas grown t → ⊥
  not_here b tells refused all =
      let yes : b ≡ true = tells.1 (all schema there) in absurd cc

-- no type stands behind the last
pub grows_all : (schemas grown : List Schema) (n : ℕ) → length schemas ≤ n → ((t : ℕ) → t < n → GrowsAt schemas grown t) → Grows schemas grown
grows_all schemas grown n long before t schema is = before t (omega (arith, slice_get_within schemas t schema is, long)) schema is

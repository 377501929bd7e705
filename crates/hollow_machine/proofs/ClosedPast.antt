-- The rows of the versions that a history leads from are closed: behind a step too, and so those of any one of them.
use Rattle.std.proofs.Common.{◌≡◌, ℕ, zero, suc, List, [], ◌∷◌, take, Bool, true, false, cond, Option, Some, refl, sym, ap, ◌∙◌, subst, arith, eqb}
use Rattle.std.specs.List.{find}
use Rattle.std.specs.Option.{option_map}
use Rattle.std.proofs.lemmas.List.Elements.{All-take}
use Rattle.schema_model.specs.declared.schema.Schema.{Schema}
use Rattle.row_model.specs.Table.{IsClosed, Table}
use Rattle.hol_history.specs.History.{table_then}
use Rattle.hollow_machine.specs.Kept.{AreClosed}

module _ (schemas : List Schema) where
  -- A history of no steps leads from none.
  pub closed_none : AreClosed schemas []
  closed_none = λ k d inside. absurd (omega (arith, inside))

  one_more : (version : ℕ) (rows : Table) (past : List (ℕ × Table)) → IsClosed schemas rows → AreClosed schemas past → AreClosed schemas ((version, rows) ∷ past)
  one_more version rows past closed all zero d inside = closed
  one_more version rows past closed all (suc k) d inside = all k d (omega (arith, inside))

  -- Behind a step from a version with closed rows they are closed.
  pub closed_behind : (bound version : ℕ) (rows : Table) (past next : List (ℕ × Table)) → IsClosed schemas rows → AreClosed schemas past → next ≡ take bound ((version, rows) ∷ past) → AreClosed schemas next
  closed_behind bound version rows past next closed all is =
      subst (AreClosed schemas) (sym is) (All-take (λ (pair : ℕ × Table). IsClosed schemas pair.1) bound ((version, rows) ∷ past) (one_more version rows past closed all))

  -- The rows of a version are closed.
  pub closed_then : (past : List (ℕ × Table)) (version : ℕ) (table : Table) → AreClosed schemas past → table_then past version ≡ Some table → IsClosed schemas table
  closed_then [] version table all is = absurd cc
  closed_then (pair ∷ past) version table all is = by (eqb pair.0 version) refl (closed_then past version table (λ k d inside. all (suc k) d (omega (arith, inside))))
    where
      one : Bool → Option Table
      one b = option_map (λ (p : ℕ × Table). p.1) (cond b (Some pair) (find (λ (p : ℕ × Table). eqb p.0 version) past))

      by : (b : Bool) → eqb pair.0 version ≡ b → (table_then past version ≡ Some table → IsClosed schemas table) → IsClosed schemas table
      by true here others = let found : Some pair.1 ≡ Some table = sym (ap one here) ∙ is in let same : pair.1 ≡ table = cc in subst (IsClosed schemas) same (all 0 pair (omega arith))
      by false here others = others (sym (ap one here) ∙ is)

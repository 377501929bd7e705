-- A row that stays reaches the same values: what it names stays too.
use Rattle.std.proofs.Common.{◌≡◌, ◌↔◌, ℕ, ◌∙◌, sym, subst, List, [], ◌∷◌, Option, Some}
use Rattle.std.specs.Prelude.{Contains}
use Rattle.schema_model.specs.declared.model.walk_path.WalkPart.{WalkPart}
use Rattle.schema_model.specs.declared.schema.Schema.{Schema}
use Rattle.row_model.specs.declared.row.Row.{Row}
use Rattle.row_model.specs.declared.row.Value.{Value}
use Rattle.row_model.specs.Reach.{Reach}
use Rattle.row_model.specs.Table.{IsClosed, IsLive, IsTableOf, Table, row_at}
use Rattle.key_index.specs.Indexed.{HaveOneRow}
use Rattle.hol_paths.specs.Reached.{named_in, values_in}
use Rattle.hol_paths.proofs.Walks.{goes, last_part, part_live}

module _ (schemas : List Schema) (old new : Table) (old_fits : IsTableOf schemas old) (new_fits : IsTableOf schemas new) (old_closed : IsClosed schemas old) (new_closed : IsClosed schemas new) (one : HaveOneRow old new) where
  still : (t o : ℕ) (parts : List WalkPart) (v : Value) → IsLive old t o → IsLive new t o → Reach schemas old t parts o v → Reach schemas new t parts o v
  still t o [] v was is reach = absurd reach
  still t o (part ∷ []) v was is reach = (last_part schemas new t o part v).1 (subst (λ (r : Option Row). Contains (values_in part r) v) (one t o was is) ((last_part schemas old t o part v).0 reach))
  still t o (part ∷ next ∷ rest) v was is reach =
      let h = (goes schemas old t t next rest v part o).0 reach in
      let there : row_at new t o ≡ Some h.1 = sym (one t o was is) ∙ h.4 in
      let was_named : IsLive old h.0 h.2 = part_live schemas old old_fits old_closed t o h.0 h.2 part h.3 (subst (λ (r : Option Row). Contains (named_in part r) h.2) (sym h.4) h.5) in
      let is_named : IsLive new h.0 h.2 = part_live schemas new new_fits new_closed t o h.0 h.2 part h.3 (subst (λ (r : Option Row). Contains (named_in part r) h.2) (sym there) h.5) in
      (goes schemas new t t next rest v part o).1 (h.0, h.1, h.2, h.3, there, h.5, still h.0 h.2 (next ∷ rest) v was_named is_named h.6)

pub reach_kept : (schemas : List Schema) (old new : Table) → IsTableOf schemas old → IsTableOf schemas new → IsClosed schemas old → IsClosed schemas new → HaveOneRow old new
    → (t o : ℕ) (parts : List WalkPart) (v : Value) → IsLive old t o → IsLive new t o → Reach schemas old t parts o v ↔ Reach schemas new t parts o v
reach_kept schemas old new old_fits new_fits old_closed new_closed one t o parts v was is = (
  still schemas old new old_fits new_fits old_closed new_closed one t o parts v was is,
  still schemas new old new_fits old_fits new_closed old_closed (λ u n here there. sym (one u n there here)) t o parts v is was,
)

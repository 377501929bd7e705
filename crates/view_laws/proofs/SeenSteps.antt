-- The steps of a chain whose model grows, for a consumer with any model that agrees.
use Rattle.std.proofs.Common.{◌≡◌, ◌∙◌, ℕ, ℤ, List, length, ap, subst, sym}
use Rattle.std.specs.Prelude.{All}
use Rattle.std.proofs.lemmas.List.{length-map}
use Rattle.schema_model.specs.declared.model.rule.Rule.TheVariants.{DuplicateName}
use Rattle.schema_model.specs.declared.schema.Schema.{Schema}
use Rattle.schema_model.specs.Growth.{Grows}
use Rattle.schema_model.specs.Model.{IsModel}
use Rattle.row_model.specs.Table.{IsClosed, IsTableOf, Table}
use Rattle.row_model.specs.View.{seen_type, view}
use Rattle.seen_rows.proofs.ViewTwice.{view_twice}
use Rattle.delta_blob.specs.Fits.{Fits}
use Rattle.delta_blob.specs.Patch.{AgreesWith, DeltaIs, NamesOwn, TypePatch}
use Rattle.delta_blob.specs.Within.{KeepItems, Within}
use Rattle.view_laws.specs.SeenDelta.{LeadsSeen}
use Rattle.view_laws.proofs.SeenDeltas.{leads_seen}

module _ (before after mine : List Schema) (before_model : IsModel before) (after_model : IsModel after) (model : IsModel mine) (grows : Grows before after)
    (blob : List ℕ) (origin destination : ℤ) (patch : List TypePatch) (is : DeltaIs after blob origin destination patch) (owned : NamesOwn after is.parts) (agree : All (AgreesWith mine) is.parts) where
  twice : (table : Table) → view mine after (view after before table) ≡ view mine before table
  twice table = view_twice before after mine table (before_model DuplicateName) (after_model DuplicateName) grows

  -- forth: from the earlier state, seen through the later model
  pub step_forth : (old : Table) (fits : Fits after (view after before old) patch) → IsTableOf after fits.moved → IsClosed mine (view mine after fits.moved) → Within fits.moved patch → KeepItems after is.parts
      → LeadsSeen mine blob origin destination (view mine before old) (view mine after fits.moved)
  step_forth old fits table closed within items =
      subst (λ (t : Table). LeadsSeen mine blob origin destination t (view mine after fits.moved)) (twice old)
      (leads_seen after mine after_model model blob origin destination patch is owned (view after before old) fits table (length-map after (seen_type before old)) agree closed within items)

  -- back: to the earlier state, seen so
  pub step_back : (new old : Table) (fits : Fits after new patch) → fits.moved ≡ view after before old → IsTableOf after fits.moved → length new ≡ length after → IsClosed mine (view mine before old) → Within fits.moved patch
      → KeepItems after is.parts → LeadsSeen mine blob origin destination (view mine after new) (view mine before old)
  step_back new old fits moved table types closed within items =
      let same : view mine after fits.moved ≡ view mine before old = ap (view mine after) moved ∙ twice old in
      subst (λ (t : Table). LeadsSeen mine blob origin destination (view mine after new) t) same
      (leads_seen after mine after_model model blob origin destination patch is owned new fits table types agree (subst (IsClosed mine) (sym same) closed) within items)

use Rattle.std.proofs.Common.{◌∙◌, ap, map, refl, subst, sym}
use Rattle.hol_incremental.specs.EditKeys.{AreEditsOf}
use Rattle.hol_incremental.specs.Keeping.{settled}
use Rattle.hol_incremental.proofs.KeptEdits.{kept_edits, settled_twice}
use Rattle.hol_incremental.proofs.edits.Edits.forget.Goals as goal

pub returns : goal.returns
returns c = record {
  dropped = refl;
  kept = λ schemas table are. kept_edits schemas table _ (subst (AreEditsOf schemas table) (sym c.self.view_is) are) _ refl refl refl (ap (map settled) c.forget_all.ensures ∙ settled_twice c.self.inside.keys.items);
}

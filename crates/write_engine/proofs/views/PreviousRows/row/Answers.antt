use Rattle.std.proofs.Common.{◌≡◌, ◌∙◌, get_or, ap, sym, subst, refl, length, Some, inl}
use Rattle.std.specs.Prelude.{slice_get, IfOk}
use Rattle.std.proofs.lemmas.Option.{slice_get_read}
use Rattle.row_model.specs.Table.{IsLive, row_at}
use Rattle.write_engine.proofs.StateRows.{copied, row_there, within}
use Rattle.write_engine.proofs.views.PreviousRows.row.Goals as goal

pub returns : goal.returns
returns c =
    let maps = c.self.inside.maps.now in
    let t = c.args.type_index in
    let s = c.index-self-type_index.result in
    let live = subst (λ table. IsLive table t c.args.ordinal) (sym (ap (λ rows. rows.table) c.self.view_is)) c.requires in
    let here : slice_get maps t ≡ Some s = slice_get_read maps (length maps) t s refl (within (λ s. s.previous) maps t c.args.ordinal live) c.index-self-type_index.is in
    subst (λ table. IfOk c.copy.result (λ row. row_at table t c.args.ordinal ≡ Some row)) (ap (λ rows. rows.table) c.self.view_is)
    (copied c.copy.result c.row.result.now _ (row_there (λ s. s.previous) maps t c.args.ordinal (get_or maps t s) c.row.result.now (λ other is. inl is) (here ∙ ap Some c.index-self-type_index.is) c.row.ensures.agree live c.row.ensures.row) c.copy.ensures)

use Rattle.std.proofs.Common.{◌≡◌, ◌∙◌, get_or, ap, sym, subst, refl, length, Some, inr}
use Rattle.std.specs.Prelude.{slice_get}
use Rattle.std.proofs.lemmas.Option.{slice_get_read}
use Rattle.row_model.specs.Table.{IsLive, row_at}
use Rattle.write_engine.proofs.StateRows.{row_there, within}
use Rattle.write_engine.proofs.views.CurrentRows.lend.Goals as goal

pub returns : goal.returns
returns c =
    let maps = c.self.inside.maps.now in
    let t = c.args.type_index in
    let s = c.index-self-type_index.result in
    let live = subst (λ table. IsLive table t c.args.ordinal) (sym (ap (λ rows. rows.table) c.self.view_is)) c.requires in
    let here : slice_get maps t ≡ Some s = slice_get_read maps (length maps) t s refl (within (λ s. s.current) maps t c.args.ordinal live) c.index-self-type_index.is in
    subst (λ table. row_at table t c.args.ordinal ≡ Some c.row.result.now) (ap (λ rows. rows.table) c.self.view_is)
    (row_there (λ s. s.current) maps t c.args.ordinal (get_or maps t s) c.row.result.now (λ other is. inr is) (here ∙ ap Some c.index-self-type_index.is) c.row.ensures.agree live c.row.ensures.row)

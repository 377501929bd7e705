use Rattle.std.proofs.Common.{◌≡◌, ◌∙◌, ◌<◌, ℕ, ap, arith, get_or, length, refl, subst, sym, Some}
use Rattle.std.specs.Prelude.{◌↔◌, Contains, slice_get}
use Rattle.std.proofs.lemmas.List.{length-map}
use Rattle.std.proofs.lemmas.Option.{slice_get_read}
use Rattle.row_model.specs.Table.{IsLive}
use Rattle.write_engine.proofs.StateRows.{members_of}
use Rattle.write_engine.proofs.views.CurrentOrdinalRows.ordinals.Goals as goal

pub returns : goal.returns
returns c =
    let maps = c.self.inside.maps.now in
    let t = c.args.type_index in
    let s = c.index-self-type_index.result in
    let many = length-map maps (λ s. s.current) in
    let types = c.self.invariant.types in
    let known = c.requires in
    let same = ap (λ rows. length rows.schemas) c.self.view_is in
    let inside : t < length maps = omega (arith, many, types, known, same) in
    let here : slice_get maps t ≡ Some s = slice_get_read maps (length maps) t s refl inside c.index-self-type_index.is in
    subst (λ table. (o : ℕ) → Contains c.current_ordinals.result.now o ↔ IsLive table t o) (ap (λ rows. rows.table) c.self.view_is)
    (members_of (λ s. s.current) maps t (get_or maps t s) c.current_ordinals.result.now (here ∙ ap Some c.index-self-type_index.is) c.current_ordinals.ensures)

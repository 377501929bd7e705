use Rattle.std.proofs.Common.{Bool, List, Option, ℕ, All, ap, cond, subst, sym, true, ◌<◌, ◌∙◌}
use Rattle.std.specs.Prelude.{IsTrue}
use Rattle.row_model.specs.declared.row.Value.{Value}
use Rattle.row_model.specs.Key.{key_of}
use Rattle.key_index.specs.Indexed.{AreKeysOf, Follows, Indexed, KeyMap}
use Rattle.key_index.specs.Slots.{next_of}
use Rattle.key_index.specs.declared.reserved.AddedRow.{AddedRow}
use Rattle.key_index.proofs.Following.{added_below, next_is, next_keys, rows_fit, rows_within}
use Rattle.key_index.proofs.index.KeyIndex.reserve.Goals as goal

pub invariant_of-self-2 : goal.invariant_of-self-2
invariant_of-self-2 g c =
    let S = g.R.Rows.schemas c.args.next.now in
    let T = g.R.Rows.table c.args.next.now in
    let t = c.self.inside.type_index in
    let paths = c.self.inside.paths in
    let added = c.in_ok-reserved.reserved.added in
    let follows = subst (λ (a : Indexed). Follows a.keys S T a.type_index a.paths c.args.removed.now c.args.added.now) (sym (c.self.view_is ∙ c.forget.ensures)) c.requires.follows in
    let below = added_below S T t paths c.self.inside.rows.keys c.args.removed.now c.args.added.now follows c.bound.result c.bound.ensures.above c.reserve.new.self.room c.in_ok-reserve.ensures.room in
    let inside = rows_within (λ o. key_of S T t paths o) c.args.added.now added c.reserve.new.self.room c.in_ok-reserved.ensures.added below in
    rows_fit c.fit.new.self added (subst (λ (room : ℕ). All (λ (row : AddedRow). row.ordinal < room) added) (sym c.fit.ensures.room) inside)
    (subst (λ (small : Bool). IsTrue (cond small true c.fit.new.self.large)) c.is_small.ensures c.in_ok-fit.ensures.fits)

pub returns-clause-reserved : goal.returns-clause-reserved
returns-clause-reserved g c =
    let S = g.R.Rows.schemas c.args.next.now in
    let T = g.R.Rows.table c.args.next.now in
    let t = c.self.inside.type_index in
    let paths = c.self.inside.paths in
    let key : ℕ → Option (List Value) = λ o. key_of S T t paths o in
    let follows = subst (λ (a : Indexed). Follows a.keys S T a.type_index a.paths c.args.removed.now c.args.added.now) (sym (c.self.view_is ∙ c.forget.ensures)) c.requires.follows in
    let next : KeyMap = next_of c.fit.new.self.keys c.in_ok-reserved.reserved in
    subst (λ (a : Indexed). AreKeysOf S T a.type_index a.paths next) (c.self.view_is ∙ c.forget.ensures)
    (next_keys S T t paths c.self.inside.rows.keys c.args.removed.now c.args.added.now follows next
    (ap (λ (m : KeyMap). next_of m c.in_ok-reserved.reserved) (c.fit.ensures.keys ∙ c.reserve.ensures.keys)
    ∙ next_is key c.self.inside.rows.keys c.args.removed.now c.args.added.now c.in_ok-reserved.reserved c.in_ok-reserved.ensures.removed c.in_ok-reserved.ensures.added))

use Rattle.std.proofs.Common.{Global, Vec, ◌≡◌, ◌<◌, ℕ, List, Some, get_or, length, refl, ap, sym, subst, ◌∙◌, arith}
use Rattle.std.specs.Prelude.{slice_get}
use Rattle.std.proofs.lemmas.Option.{slice_get-get_or, slice_get_read}
use Rattle.row_model.specs.declared.row.Row.{Row}
use Rattle.history_orders.specs.Left.{HasAll}
use Rattle.history_orders.proofs.Leaving.{all_added, all_pushed, none_added, one_added}
use Rattle.history_orders.proofs.left_rows.add_left.Goals.{then-may_have_key+in_ok-push, else-may_have_key}
use Rattle.history_orders.proofs.left_rows.add_left.Goals as goal

pub loop-place-preserved : goal.loop-place-preserved
loop-place-preserved c =
    let paths = c.args.paths.now in
    let key = c.args.key.now in
    let part = c.args.part.now in
    let place = c.loop-place.place in
    let ordinals = c.gone-ordinals.result.now in
    let rows = c.rows-rows.result.now in
    let old = c.args.among.now.items in
    let before = c.loop-place.among.items in
    let listed = c.if-may_have_key.among.items in
    let so_far = c.loop-place.invariant in
    elim c.if-may_have_key.branch [
      | then-may_have_key+in_ok-push w ↦
          let ordinal = get_or ordinals place 0 in
          let at = subst (λ (os : List ℕ). slice_get os place ≡ Some ordinal) c.gone-ordinals.ensures.ordinals (slice_get-get_or ordinals place 0 c.loop-place-test.true) in
          let is = ap (λ (vec : Vec ℕ Global). vec.items) w.among-is ∙ w.in_ok-push.ensures.items in
          (one_added paths key part place ordinal before listed at so_far.0 is, all_pushed old before listed ordinal so_far.1 is)
      | else-may_have_key w ↦
          let row = c.index-rows-place.result in
          let inside : place < length rows =
          (let named = ap (λ (os : List ℕ). length os) c.gone-ordinals.ensures.ordinals in
          let stood = ap (λ (rs : List Row). length rs) c.rows-rows.ensures in
          omega (arith, c.loop-place-test.true, named, stood, c.gone-ordinals.ensures.part.rows)) in
          let at = subst (λ (rs : List Row). slice_get rs place ≡ Some row) c.rows-rows.ensures (slice_get_read rows (length rows) place row refl inside c.index-rows-place.is) in
          let is = ap (λ (vec : Vec ℕ Global). vec.items) w.among-is in (
            none_added paths key part place row before listed at so_far.0 is (λ schemas table t o there has. let seen = c.may_have_key.ensures schemas table t o there has in let not = w.if-may_have_key.false in absurd cc),
            subst (HasAll old) (sym is) so_far.1,
          )
    ]

pub returns-clause-left : goal.returns-clause-left
returns-clause-left c =
    let named = ap (λ (os : List ℕ). length os) c.gone-ordinals.ensures.ordinals in
    all_added c.args.paths.now c.args.key.now c.args.part.now c.loop-place.place c.loop-place.among.items (omega (arith, named, c.loop-place-test.false)) c.loop-place.invariant.0

use Rattle.std.proofs.Common.{◌≡◌, ◌∙◌, ◌<◌, ◌≤◌, sym, ap, arith, length}
use Rattle.serde_json.specs.Data.{array}
use Rattle.serde_json.specs.View.{items_view}
use Rattle.row_model.specs.Key.{kind_along}
use Rattle.json_values.proofs.KeyParts.{all_taken, none_of_number, passed_on, path_ends, stops, taken_more}
use Rattle.json_values.proofs.key.parts_from.Goals as goal

pub returns-then-values-paths : goal.returns-then-values-paths
returns-then-values-paths c = record { tells = none_of_number c.args.model.now c.args.paths.now c.args.values.now c.requires.resolved c.if-values-paths.true }

pub kind_behind-kind-requires : goal.kind_behind-kind-requires
kind_behind-kind-requires c =
    let inside : c.loop-place.place < length c.args.paths.now = omega arith in
    record { ends = path_ends c.args.model.now c.args.paths.now c.loop-place.place c.index-paths-place.result c.as_slice.result.now c.requires.resolved inside c.index-paths-place.is c.as_slice.ensures }

pub returns-in_err-part_from : goal.returns-in_err-part_from
returns-in_err-part_from c =
    let path = c.index-paths-place.result in
    let fault = c.in_err-part_from.field-0.0 in
    let long : length c.args.values.now ≡ length c.args.paths.now = omega arith in
    let inside : c.loop-place.place < length c.args.values.now = omega arith in
    record {
      tells = passed_on c.args.model.now c.args.paths.now (array (items_view c.args.values.now)) fault c.from_residual-in_err-part_from.result c.from_residual-in_err-part_from.ensures.1
          (stops c.args.model.now c.args.paths.now c.args.values.now c.loop-place.place path c.as_slice.result.now c.kind_behind-kind.result.now c.index-values-place.result c.loop-place.key fault c.requires.resolved long inside
          c.index-paths-place.is c.as_slice.ensures c.index-values-place.is c.kind_behind-kind.ensures.kind c.loop-place.invariant c.in_err-part_from.ensures);
    }

pub loop-place-preserved : goal.loop-place-preserved
loop-place-preserved c =
    let path = c.index-paths-place.result in
    let long : length c.args.values.now ≡ length c.args.paths.now = omega arith in
    let inside : c.loop-place.place < length c.args.values.now = omega arith in
    let is = ap (kind_along c.args.model.now path.type_index) (sym c.as_slice.ensures) ∙ c.kind_behind-kind.ensures.kind in
    taken_more c.args.model.now c.args.paths.now c.args.values.now c.loop-place.place path c.kind_behind-kind.result.now c.index-values-place.result c.loop-place.key c.push.new.self c.in_ok-part_from.field-0 long inside
    c.index-paths-place.is c.index-values-place.is is c.loop-place.invariant c.in_ok-part_from.ensures c.in_ok-push.ensures.ok

pub returns : goal.returns
returns c =
    let long : length c.args.values.now ≡ length c.args.paths.now = omega arith in
    let past : length c.args.values.now ≤ c.loop-place.place = omega arith in
    record { tells = all_taken c.args.model.now c.args.paths.now c.args.values.now c.loop-place.place c.loop-place.key c.requires.resolved long past c.loop-place.invariant }

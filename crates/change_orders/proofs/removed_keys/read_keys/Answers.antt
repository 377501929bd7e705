use Rattle.std.proofs.Common.{Err, List, ℕ, ◌+◌, ◌++◌, arith, map, refl, subst, sym, take}
use Rattle.std.proofs.lemmas.List.{length-map}
use Rattle.serde_json.specs.View.{view}
use Rattle.schema_model.specs.declared.model.rule.Rule.TheVariants.{DuplicateName}
use Rattle.row_model.specs.declared.row.Value.{Value}
use Rattle.json_values.specs.KeyFrom.{TellsKey}
use Rattle.json_values.specs.declared.fault.KeyFault.{KeyFault}
use Rattle.hollow_machine.specs.Records.{entries_at}
use Rattle.producer_orders.proofs.Placed.{item_at}
use Rattle.change_orders.specs.Reading.{GiveKeys}
use Rattle.change_orders.proofs.ReadKeys.{all_given, none_given, one_key, paths_resolved}
use Rattle.change_orders.proofs.removed_keys.read_keys.Goals as goal

pub key_from-requires : goal.key_from-requires
key_from-requires c = record { resolved = paths_resolved c.args.model.now c.args.type_index c.args.paths.now c.requires.resolved }

pub returns-in-Err-Shape : goal.returns-in-Err-Shape
returns-in-Err-Shape c = λ before give.
    (let values = c.args.values.now in
    let item = c.value-item.result in
    let at = item_at view values c.loop-value.value-index item c.loop-value-test.true c.value-item.is in
    let none = subst (λ (fault : KeyFault). TellsKey c.args.model.now c.args.paths.now (view item) (Err fault)) c.in-Err-Shape.field-0-is c.in-Err-Shape.ensures.tells in (
      refl,
      none_given c.args.model.now c.args.type_index (map view values) before (c.requires.model DuplicateName) c.loop-value.value-index (view item) c.args.paths.now at c.requires.resolved none,
    ))

pub loop-value-preserved : goal.loop-value-preserved
loop-value-preserved c = λ before give.
    (let values = c.args.values.now in
    let t = c.args.type_index in
    let item = c.value-item.result in
    let at = item_at view values c.loop-value.value-index item c.loop-value-test.true c.value-item.is in
    subst (λ (found : List (ℕ × List Value)). GiveKeys c.args.model.now (before ++ take (c.loop-value.value-index + 1) (entries_at t (map view values))) found) (sym c.in_ok-push-in-Ok.ensures.ok)
    (one_key c.args.model.now t (map view values) before c.loop-value.found c.loop-value.value-index (view item) c.args.paths.now c.in-Ok.key at c.requires.resolved c.in-Ok.ensures.tells (c.loop-value.invariant before give)))

pub returns : goal.returns
returns c = λ before give.
    (let long = length-map c.args.values.now view in
    all_given c.args.model.now c.args.type_index (map view c.args.values.now) before c.loop-value.found c.loop-value.value-index (omega (arith, long, c.loop-value-test.false)) (c.loop-value.invariant before give))

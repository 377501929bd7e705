use Rattle.std.proofs.Common.{◌<◌, List, Option, ℕ, [], ◌∷◌, arith, length, subst, sym}
use Rattle.std.specs.Prelude.{All}
use Rattle.std.specs.List.{AllZip}
use Rattle.std.proofs.lemmas.List.Elements.{All-append, All-cons, All-nil}
use Rattle.row_model.specs.declared.row.Value.{Value}
use Rattle.record_trees.specs.Tree.{plain}
use Rattle.record_trees.specs.declared.tree.Tree.{Tree}
use Rattle.hol_incremental.specs.Roots.{TellsTreeKey}
use Rattle.change_orders.specs.declared.keyed_records.KeyAt.{KeyAt}
use Rattle.change_orders.specs.Keys.{IsKeyOf}
use Rattle.change_orders.proofs.KeyedRecords.{all_run, first_keyless, keys_all, keys_more}
use Rattle.change_orders.proofs.keyed_records.read_keys.Goals as goal

pub loop-entry-init : goal.loop-entry-init
loop-entry-init c =
    let schemas = c.args.model.now in
    record {
      types = subst (λ (ks : List KeyAt). All (λ (one : KeyAt). one.type_index < length schemas) ks) (sym c.requires.none) (All-nil (λ (one : KeyAt). one.type_index < length schemas));
      few = omega arith;
      keyed = λ asked are. (all_run schemas asked.put, subst (λ (ks : List KeyAt). AllZip (IsKeyOf schemas) [] ks) (sym c.requires.none) tt);
    }

pub record_key-requires : goal.record_key-requires
record_key-requires c =
    subst (λ (entry : ℕ × Tree). entry.0 < length c.args.model.now) (sym c.entry-item.is) (c.requires.types c.loop-entry.entry-index c.entry-item.result c.loop-entry-test.true)

pub no_key-requires : goal.no_key-requires
no_key-requires c =
    subst (λ (entry : ℕ × Tree). entry.0 < length c.args.model.now) (sym c.entry-item.is) (c.requires.types c.loop-entry.entry-index c.entry-item.result c.loop-entry-test.true)

pub returns-in-None-clause-tells : goal.returns-in-None-clause-tells
returns-in-None-clause-tells c =
    let none = subst (λ (key : Option (List Value)). TellsTreeKey c.args.model.now c.entry-item.result.0 (plain c.entry-item.result.1) key) c.in-None.is c.in_ok-key.ensures in
    first_keyless c.args.model.now c.args.put.now c.loop-entry.entry-index c.loop-entry.last c.loop-entry.place c.place_of-place.result c.entry-item.result c.loop-entry.found c.loop-entry-test.true c.entry-item.is
    c.place_of-place.ensures.is c.in_ok-no_key-in-None.field-0 none c.in_ok-no_key-in-None.ensures c.loop-entry.invariant.keyed

pub loop-entry-preserved : goal.loop-entry-preserved
loop-entry-preserved c =
    let schemas = c.args.model.now in
    let P : KeyAt → Type 0 = λ (one : KeyAt). one.type_index < length schemas in
    let item = c.entry-item.result in
    let below = subst (λ (entry : ℕ × Tree). entry.0 < length schemas) (sym c.entry-item.is) (c.requires.types c.loop-entry.entry-index item c.loop-entry-test.true) in
    let one : KeyAt = record { type_index = item.0; place = c.place_of-place.result; key = c.in-Some.key } in
    let has = subst (λ (key : Option (List Value)). TellsTreeKey schemas item.0 (plain item.1) key) c.in-Some.is c.in_ok-key.ensures in
    let few = c.loop-entry.invariant.few in
    let low = c.place_of-place.ensures.low in
    record {
      types = subst (λ (ks : List KeyAt). All (λ (k : KeyAt). k.type_index < length schemas) ks) (sym c.in_ok-push-in-Some.ensures.ok)
          (All-append P c.loop-entry.found (one ∷ []) c.loop-entry.invariant.types (All-cons P one [] below (All-nil P)));
      few = omega (arith, few, low);
      keyed = keys_more schemas c.args.put.now c.loop-entry.entry-index c.loop-entry.last c.loop-entry.place c.place_of-place.result item c.loop-entry.found c.loop-entry-test.true c.entry-item.is
          c.place_of-place.ensures.is c.push.new.self c.in-Some.key has c.in_ok-push-in-Some.ensures.ok c.loop-entry.invariant.keyed;
    }

pub returns-clause-tells : goal.returns-clause-tells
returns-clause-tells c = λ asked are.
    keys_all c.args.model.now c.args.put.now c.loop-entry.entry-index c.loop-entry.found c.loop-entry-test.false asked are (c.loop-entry.invariant.keyed asked are).1

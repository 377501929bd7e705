use Rattle.std.proofs.Common.{◌≡◌, ◌∷◌, List, None, Some, get_or, sym, subst, arith}
use Rattle.std.specs.Prelude.{IsSomeAnd, Result, slice_get}
use Rattle.std.proofs.lemmas.Option.{slice_get-get_or}
use Rattle.json.specs.Json.{read_key}
use Rattle.json.specs.Reads.{token_of}
use Rattle.serde_json.specs.Data.{Data}
use Rattle.schema_model.specs.declared.reason.Reason.{Reason}
use Rattle.schema_model.specs.declared.schema.Field.{Field}
use Rattle.schema_model.specs.declared.schema.name.Name.{Name}
use Rattle.row_model.specs.PlainTree.{PlainTree, object, trees_of_list}
use Rattle.record_json.specs.ReadTree.{read_members}
use Rattle.record_trees.specs.Rows.{AreStoredOf}
use Rattle.record_tokens.specs.Taken.{TakesMembers}
use Rattle.record_tokens.proofs.RowsTaken.{AreBeingStored, value_more, values_end, values_first, values_long}
use Rattle.record_tokens.proofs.row.values_ahead.Goals as goal

pub members-init : goal.members-init
members-init c =
    let start = c.args.reader.now in
    subst (λ vs. AreBeingStored c.args.nest c.args.fields.now start start vs) (sym c.in_ok-slots.ensures) (values_first c.args.nest c.args.fields.now start)

pub members-preserved : goal.members-preserved
members-preserved c =
    let fields = c.args.fields.now in
    let l = c.members in
    let place = c.in-Some-place_of.place in
    let item = c.index-fields-place.result in
    let field = get_or fields place item in
    let name = c.in-Some.name.now in
    let later = c.next.new.self in
    let key : read_key l.reader ≡ Some (Some name, c.next_key.new.self) = grind arith in
    let first : c.next_key.new.self ≡ token_of c.in_ok-token.token ∷ later = grind arith in
    let within = c.in-Some-place_of.ensures.within in
    let at : slice_get fields place ≡ Some field = slice_get-get_or fields place item within in
    let named = subst (λ o. IsSomeAnd o (λ (f : Field). f.name ≡ name)) at c.in-Some-place_of.ensures.named in
    let leaf = c.in_ok-value.ensures in
    value_more c.args.nest fields c.args.reader.now l.reader c.next_key.new.self later l.slots.items place name field (token_of c.in_ok-token.token) leaf.0 leaf.1 c.in_ok-value.value c.requires.names l.invariant key
    at named first (c.requires.plain place item within) leaf.2 leaf.3 leaf.4 leaf.5

pub index_mut-requires : goal.index_mut-requires
index_mut-requires c =
    let l = c.members in
    omega (arith, c.in-Some-place_of.ensures.within, values_long c.args.nest c.args.fields.now c.args.reader.now l.reader l.slots.items l.invariant)

pub returns : goal.returns
returns c =
    let fields = c.args.fields.now in
    let l = c.members in
    let over : read_key l.reader ≡ Some (None, c.next_key.new.self) = grind arith in
    subst (λ vs. (trees : List PlainTree) × AreStoredOf trees vs
    × ((follow : Name → Data → Result PlainTree Reason) → TakesMembers (read_members follow fields) c.args.nest c.args.reader.now (object (trees_of_list trees)) c.next_key.new.self)) (sym c.from_vec.ensures)
    (values_end c.args.nest fields c.args.reader.now l.reader c.next_key.new.self l.slots.items l.invariant over)

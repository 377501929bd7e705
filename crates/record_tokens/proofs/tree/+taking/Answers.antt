use Rattle.std.proofs.Common.{◌≡◌, ◌∙◌, ◌-◌, ◌∷◌, None, Some, get_or, length, map, refl, sym, ap, subst, arith, rules}
use Rattle.std.specs.Prelude.{IsSomeAnd, slice_get}
use Rattle.std.proofs.lemmas.List.{length-map, map-set}
use Rattle.std.proofs.lemmas.Option.{slice_get-get_or}
use Rattle.json.specs.Token.{Token}
use Rattle.json.specs.Json.{after_end_array, read_key}
use Rattle.json.specs.Reads.{token_of}
use Rattle.json.proofs.Grammar.{read_key-shorter}
use Rattle.serde_json.specs.Data.{null}
use Rattle.schema_model.specs.declared.schema.Field.{Field}
use Rattle.row_model.specs.declared.row.Value.{Value}
use Rattle.record_trees.specs.declared.tree.Tree
use Rattle.record_trees.specs.declared.tree.Tree.{Tree, the_lemmas}
use Rattle.row_model.specs.PlainTree.{PlainTree, leaf, list, object, set, trees_of_list}
use Rattle.record_trees.specs.Tree.{plain, plain_pair, plain_pairs, plain_trees, tree_pairs, trees}
use Rattle.schema_model.specs.Parts.{field_names}
use Rattle.record_trees.proofs.Arms.{list_plain, object_plain, set_plain}
use Rattle.record_json.specs.NamesApart.{AreNamesApart}
use Rattle.record_json.specs.ReadTree.{read_members, read_named, read_pair, read_present, read_within}
use Rattle.record_json.proofs.ReadingBack.{model_apart}
use Rattle.record_json.proofs.ReadingTrees.{image_more}
use Rattle.record_stream.proofs.Listed.{value_shorter}
use Rattle.record_tokens.specs.Taken.{TakesMembers}
use Rattle.record_tokens.proofs.FieldsTaken.{AreBeingTaken, member_more, members_end, members_first, nulls_plain, slots_long}
use Rattle.record_tokens.proofs.ItemsTaken.{AreTaken, item_more, items_end, items_first}
use Rattle.record_tokens.proofs.Taking.{array_taken, leaf_taken, list_read, map_read, map_told, named_taken, object_read, object_taken, pair_taken, plain_kind, present_null, reference_taken, same_taken, scalar_taken, set_read}
use Rattle.record_tokens.proofs.tree.+taking.Goals as goal

pub elements_ahead-elements-init : goal.elements_ahead-elements-init
elements_ahead-elements-init t c =
    let read = read_named c.args.model.now c.args.depth c.args.element.now in
    let start = c.args.reader.now in
    subst (λ ts. AreTaken read c.args.nest start start ts) (sym (ap (map plain) c.new-parts.ensures)) (items_first read c.args.nest start)

pub elements_ahead-elements-smaller : goal.elements_ahead-elements-smaller
elements_ahead-elements-smaller t c =
    let going : (after_end_array c.elements.reader ≡ None) × (c.take_end_array.new.self ≡ c.elements.reader) = grind arith in
    let taken = c.in_ok-named_ahead.ensures in
    let less = value_shorter c.args.nest c.take_end_array.new.self c.named_ahead.new.reader taken.0 taken.1 in
    omega (arith, less, ap length going.1)

pub elements_ahead-elements-preserved : goal.elements_ahead-elements-preserved
elements_ahead-elements-preserved t c =
    let read = read_named c.args.model.now c.args.depth c.args.element.now in
    let l = c.elements in
    let later = c.named_ahead.new.reader in
    let tree = c.in_ok-named_ahead.field-0 in
    let going : (after_end_array l.reader ≡ None) × (c.take_end_array.new.self ≡ l.reader) = grind arith in
    let taken = same_taken read c.args.nest l.reader c.take_end_array.new.self later (plain tree) (plain tree) (sym going.1) refl c.in_ok-named_ahead.ensures in
    subst (λ ts. AreTaken read c.args.nest c.args.reader.now later ts) (sym (image_more plain (trees l.parts) (trees c.push.new.self) tree c.in_ok-push.ensures.ok))
    (item_more read c.args.nest c.args.reader.now l.reader later (plain_trees l.parts) (plain tree) l.invariant going.0 taken)

pub elements_ahead-returns : goal.elements_ahead-returns
elements_ahead-returns t c =
    let read = read_named c.args.model.now c.args.depth c.args.element.now in
    let l = c.elements in
    items_end read c.args.nest c.args.reader.now l.reader c.take_end_array.new.self (plain_trees l.parts) l.invariant (grind arith)

pub field_ahead-returns-in_default-Null : goal.field_ahead-returns-in_default-Null
field_ahead-returns-in_default-Null t c =
    let follow = read_named c.args.model.now c.args.depth in
    let rest = c.next.new.self in
    let shown : leaf Value.Null ≡ plain Tree.Null = search (rules, the_lemmas) in
    let first : c.args.reader.now ≡ Token.null ∷ rest = grind arith in
    same_taken (read_present follow c.args.kind.now) c.args.nest c.args.reader.now (Token.null ∷ rest) rest (leaf Value.Null) (plain Tree.Null) first shown
    (scalar_taken (read_present follow c.args.kind.now) c.args.nest Token.null rest null (leaf Value.Null) refl (present_null follow c.args.kind.now))

pub field_ahead-returns-in-Reference-default : goal.field_ahead-returns-in-Reference-default
field_ahead-returns-in-Reference-default t c =
    let first : c.args.reader.now ≡ token_of c.in_ok-token.token ∷ c.next.new.self = grind arith in
    reference_taken c.args.model.now c.args.depth c.args.nest c.args.kind.now c.in-Reference-default.name c.args.reader.now (token_of c.in_ok-token.token ∷ c.next.new.self) c.named_behind.new.reader c.named_behind.result
    c.in-Reference-default.is-0 first c.named_behind.ensures

pub field_ahead-returns-in_default : goal.field_ahead-returns-in_default
field_ahead-returns-in_default t c =
    let first : c.args.reader.now ≡ token_of c.in_ok-token.token ∷ c.next.new.self = grind arith in
    leaf_taken (read_named c.args.model.now c.args.depth) c.args.nest c.args.kind.now (token_of c.in_ok-token.token) c.args.reader.now c.next.new.self c.leaf_tree.result (plain_kind c.args.kind.now c.in_default.not-Reference-0) first c.leaf_tree.ensures

pub named_ahead-returns : goal.named_ahead-returns
named_ahead-returns t c =
    let first : c.args.reader.now ≡ token_of c.in_ok-token.token ∷ c.next.new.self = grind arith in
    named_taken (read_named c.args.model.now c.args.depth c.args.name.now) c.args.nest c.args.reader.now (token_of c.in_ok-token.token ∷ c.next.new.self) c.named_behind.new.reader c.named_behind.result first c.named_behind.ensures

pub pair_ahead-returns-then-take_end_array : goal.pair_ahead-returns-then-take_end_array
pair_ahead-returns-then-take_end_array t c =
    let read_key = read_named c.args.model.now c.args.depth c.args.key.now in
    let read_part = read_named c.args.model.now c.args.depth c.args.part.now in
    let tokens = c.open_pair.new.reader in
    let middle = c.named_ahead.new.reader in
    let end = c.named_ahead-2.new.reader in
    let rest = c.take_end_array.new.self in
    let both : PlainTree × PlainTree = (plain c.in_ok-first.first, plain c.in_ok-second.second) in
    same_taken (read_pair read_key read_part) c.args.nest c.args.reader.now (Token.begin_array ∷ tokens) rest both both c.in_ok-open_pair.ensures refl
    (pair_taken read_key read_part c.args.nest tokens middle end rest (plain c.in_ok-first.first) (plain c.in_ok-second.second) c.if-nest-eq0.false c.in_ok-first.ensures c.in_ok-second.ensures c.if-take_end_array.ensures)

pub pairs_ahead-each-init : goal.pairs_ahead-each-init
pairs_ahead-each-init t c =
    let read = read_pair (read_named c.args.model.now c.args.depth c.args.key.now) (read_named c.args.model.now c.args.depth c.args.part.now) in
    let start = c.args.reader.now in
    subst (λ ts. AreTaken read c.args.nest start start ts) (sym (ap (map plain_pair) c.new-pairs.ensures)) (items_first read c.args.nest start)

pub pairs_ahead-each-smaller : goal.pairs_ahead-each-smaller
pairs_ahead-each-smaller t c =
    let going : (after_end_array c.each.reader ≡ None) × (c.take_end_array.new.self ≡ c.each.reader) = grind arith in
    let taken = c.in_ok-pair_ahead.ensures in
    let less = value_shorter c.args.nest c.take_end_array.new.self c.pair_ahead.new.reader taken.0 taken.1 in
    omega (arith, less, ap length going.1)

pub pairs_ahead-each-preserved : goal.pairs_ahead-each-preserved
pairs_ahead-each-preserved t c =
    let read = read_pair (read_named c.args.model.now c.args.depth c.args.key.now) (read_named c.args.model.now c.args.depth c.args.part.now) in
    let l = c.each in
    let later = c.pair_ahead.new.reader in
    let pair = c.in_ok-pair_ahead.field-0 in
    let going : (after_end_array l.reader ≡ None) × (c.take_end_array.new.self ≡ l.reader) = grind arith in
    let taken = same_taken read c.args.nest l.reader c.take_end_array.new.self later (plain_pair pair) (plain_pair pair) (sym going.1) refl c.in_ok-pair_ahead.ensures in
    subst (λ ts. AreTaken read c.args.nest c.args.reader.now later ts) (sym (image_more plain_pair (tree_pairs l.pairs) (tree_pairs c.push.new.self) pair c.in_ok-push.ensures.ok))
    (item_more read c.args.nest c.args.reader.now l.reader later (plain_pairs l.pairs) (plain_pair pair) l.invariant going.0 taken)

pub pairs_ahead-returns : goal.pairs_ahead-returns
pairs_ahead-returns t c =
    let read = read_pair (read_named c.args.model.now c.args.depth c.args.key.now) (read_named c.args.model.now c.args.depth c.args.part.now) in
    let l = c.each in
    items_end read c.args.nest c.args.reader.now l.reader c.take_end_array.new.self (plain_pairs l.pairs) l.invariant (grind arith)

pub fields_ahead-members-init : goal.fields_ahead-members-init
fields_ahead-members-init t c =
    let follow = read_named c.args.model.now c.args.depth in
    let start = c.args.reader.now in
    let fields = c.args.fields.now in
    let shown : plain Tree.Null ≡ leaf Value.Null = search (rules, the_lemmas) in
    let none = ap (map plain) c.in_ok-slots.ensures ∙ nulls_plain (length fields) shown in
    subst (λ ts. AreBeingTaken follow c.args.nest fields start start ts) (sym none) (members_first follow c.args.nest fields start)

pub fields_ahead-members-smaller : goal.fields_ahead-members-smaller
fields_ahead-members-smaller t c =
    let key : read_key c.members.reader ≡ Some (Some c.in-Some.name.now, c.next_key.new.self) = grind arith in
    let lesser = read_key-shorter c.members.reader (Some c.in-Some.name.now) c.next_key.new.self key in
    let taken = c.in_ok-tree.ensures in
    let less = value_shorter c.args.nest c.next_key.new.self c.field_ahead.new.reader taken.0 taken.1 in
    omega (arith, less, lesser)

pub fields_ahead-members-preserved : goal.fields_ahead-members-preserved
fields_ahead-members-preserved t c =
    let follow = read_named c.args.model.now c.args.depth in
    let fields = c.args.fields.now in
    let l = c.members in
    let place = c.in-Some-place_of.place in
    let item = c.index-fields-place.result in
    let field = get_or fields place item in
    let tree = c.in_ok-tree.tree in
    let name = c.in-Some.name.now in
    let key : read_key l.reader ≡ Some (Some name, c.next_key.new.self) = grind arith in
    let at : slice_get fields place ≡ Some field = slice_get-get_or fields place item c.in-Some-place_of.ensures.within in
    let named = subst (λ o. IsSomeAnd o (λ (f : Field). f.name ≡ name)) at c.in-Some-place_of.ensures.named in
    subst (λ ts. AreBeingTaken follow c.args.nest fields c.args.reader.now c.field_ahead.new.reader ts) (sym (map-set plain l.slots.items place tree))
    (member_more follow c.args.nest fields c.args.reader.now l.reader c.next_key.new.self c.field_ahead.new.reader (map plain l.slots.items) place name field (plain tree) c.requires l.invariant key
    at named c.in_ok-tree.ensures)

pub fields_ahead-index_mut-requires : goal.fields_ahead-index_mut-requires
fields_ahead-index_mut-requires t c =
    let l = c.members in
    let long = slots_long (read_named c.args.model.now c.args.depth) c.args.nest c.args.fields.now c.args.reader.now l.reader (map plain l.slots.items) l.invariant in
    omega (arith, c.in-Some-place_of.ensures.within, long, length-map l.slots.items plain)

pub fields_ahead-returns : goal.fields_ahead-returns
fields_ahead-returns t c =
    let follow = read_named c.args.model.now c.args.depth in
    let fields = c.args.fields.now in
    let l = c.members in
    let over : read_key l.reader ≡ Some (None, c.next_key.new.self) = grind arith in
    subst (λ ts. TakesMembers (read_members follow fields) c.args.nest c.args.reader.now (object (trees_of_list (map plain ts))) c.next_key.new.self) (sym c.in_ok-trees_of.ensures)
    (members_end follow c.args.nest fields c.args.reader.now l.reader c.next_key.new.self (map plain l.slots.items) l.invariant over)

pub tree_behind-fields_ahead-requires : goal.tree_behind-fields_ahead-requires
tree_behind-fields_ahead-requires t c =
    let arm = c.in-Object-BeginObject in (
      omega (arith, c.if-depth-eq0.false),
      subst (λ fs. AreNamesApart (field_names fs)) (sym c.as_slice.ensures)
          (model_apart c.args.model.now c.args.type_index c.schema.result.now c.schema.ensures.model c.schema.ensures.value arm.field-0-0 arm.fields arm.is-0),
    )

pub tree_behind-returns-in_ok-parts-in-Object-BeginObject : goal.tree_behind-returns-in_ok-parts-in-Object-BeginObject
tree_behind-returns-in_ok-parts-in-Object-BeginObject t c =
    let schemas = c.args.model.now in
    let read = read_within schemas c.args.depth c.args.type_index in
    let fields = c.as_slice.result.now in
    let arm = c.in-Object-BeginObject in
    let parts = c.in_ok-parts-in-Object-BeginObject.parts in
    let made = object (trees_of_list (plain_trees parts)) in
    let tokens = c.args.reader.now in
    let rest = c.fields_ahead.new.reader in
    same_taken read c.args.nest (token_of c.args.token ∷ tokens) (Token.begin_object ∷ tokens) rest made (plain (Tree.Object parts)) (ap (λ k. token_of k ∷ tokens) arm.is-1) (object_plain parts)
    (object_taken read (read_members (read_named schemas (c.args.depth - 1)) fields) c.args.nest tokens rest made c.if-nest-eq0.false
    (object_read schemas c.args.depth (c.args.depth - 1) c.args.type_index c.schema.result.now arm.field-0-0 arm.fields fields c.if-depth-eq0.false refl c.schema.ensures.value arm.is-0 c.as_slice.ensures)
    c.in_ok-parts-in-Object-BeginObject.ensures)

pub tree_behind-returns-in_ok-parts-in-List-BeginArray : goal.tree_behind-returns-in_ok-parts-in-List-BeginArray
tree_behind-returns-in_ok-parts-in-List-BeginArray t c =
    let schemas = c.args.model.now in
    let read = read_within schemas c.args.depth c.args.type_index in
    let arm = c.in-List-BeginArray in
    let follow = read_named schemas (c.args.depth - 1) arm.element in
    let parts = c.in_ok-parts-in-List-BeginArray.parts in
    let tokens = c.args.reader.now in
    let rest = c.elements_ahead.new.reader in
    same_taken read c.args.nest (token_of c.args.token ∷ tokens) (Token.begin_array ∷ tokens) rest (list (trees_of_list (plain_trees parts))) (plain (Tree.List parts)) (ap (λ k. token_of k ∷ tokens) arm.is-1) (list_plain parts)
    (array_taken read follow (λ trees. list (trees_of_list trees)) c.args.nest tokens rest (plain_trees parts) c.if-nest-eq0.false
    (list_read schemas c.args.depth (c.args.depth - 1) c.args.type_index c.schema.result.now arm.element c.if-depth-eq0.false refl c.schema.ensures.value arm.is-0)
    c.in_ok-parts-in-List-BeginArray.ensures)

pub tree_behind-returns-in_ok-parts-in-Set-BeginArray : goal.tree_behind-returns-in_ok-parts-in-Set-BeginArray
tree_behind-returns-in_ok-parts-in-Set-BeginArray t c =
    let schemas = c.args.model.now in
    let read = read_within schemas c.args.depth c.args.type_index in
    let arm = c.in-Set-BeginArray in
    let follow = read_named schemas (c.args.depth - 1) arm.element in
    let parts = c.in_ok-parts-in-Set-BeginArray.parts in
    let tokens = c.args.reader.now in
    let rest = c.elements_ahead-in-Set-BeginArray.new.reader in
    same_taken read c.args.nest (token_of c.args.token ∷ tokens) (Token.begin_array ∷ tokens) rest (set (trees_of_list (plain_trees parts))) (plain (Tree.Set parts)) (ap (λ k. token_of k ∷ tokens) arm.is-1) (set_plain parts)
    (array_taken read follow (λ trees. set (trees_of_list trees)) c.args.nest tokens rest (plain_trees parts) c.if-nest-eq0.false
    (set_read schemas c.args.depth (c.args.depth - 1) c.args.type_index c.schema.result.now arm.element c.if-depth-eq0.false refl c.schema.ensures.value arm.is-0)
    c.in_ok-parts-in-Set-BeginArray.ensures)

pub tree_behind-returns-in_ok-pairs-in-Map-BeginArray : goal.tree_behind-returns-in_ok-pairs-in-Map-BeginArray
tree_behind-returns-in_ok-pairs-in-Map-BeginArray t c =
    let schemas = c.args.model.now in
    let arm = c.in-Map-BeginArray in
    let below = c.args.depth - 1 in
    let tokens = c.args.reader.now in
    map_told (read_within schemas c.args.depth c.args.type_index) (read_pair (read_named schemas below arm.key) (read_named schemas below arm.part)) c.args.nest (token_of c.args.token ∷ tokens) tokens c.pairs_ahead.new.reader
    c.in_ok-pairs-in-Map-BeginArray.pairs c.map_of.result c.if-nest-eq0.false (ap (λ k. token_of k ∷ tokens) arm.is-1)
    (map_read schemas c.args.depth below c.args.type_index c.schema.result.now arm.key arm.part c.if-depth-eq0.false refl c.schema.ensures.value arm.is-0) c.map_of.ensures c.in_ok-pairs-in-Map-BeginArray.ensures

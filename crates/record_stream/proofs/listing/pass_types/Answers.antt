use Rattle.std.proofs.Common.{◌≡◌, ◌∙◌, ◌∷◌, ◌++◌, [], Some, None, length, map, string_bytes, ap, arith}
use Rattle.std.proofs.lemmas.List.{map-append}
use Rattle.json.specs.Json.{read_key}
use Rattle.json.proofs.Grammar.{read_key-shorter}
use Rattle.serde_json.specs.View.{members_view}
use Rattle.record_stream.proofs.Typing.{all_passed, empty_put, one_passed}
use Rattle.record_stream.proofs.listing.pass_types.Goals as goal

pub types-preserved : goal.types-preserved
types-preserved c =
    let now = c.types.reader in
    let names = c.types.names.entries in
    let order = c.types.order.items in
    let name = c.in-Some.name.now in
    let named : read_key now ≡ Some (Some name, c.next_key.new.self) = grind arith in
    let less = read_key-shorter now (Some name) c.next_key.new.self named in
    let opened = ap length c.in_ok-take_array.ensures in
    let pushed = ap (map string_bytes) c.in_ok-push.ensures.items ∙ (map-append string_bytes order (c.in_ok-from_str.field-0 ∷ []) ∙ ap (λ n. map string_bytes order ++ n ∷ []) c.in_ok-from_str.ensures.ok) in (
      one_passed c.args.reader.now now c.next_key.new.self c.take_array.new.reader c.pass_items.new.reader name (members_view names) (members_view c.insert.new.self.entries) (map string_bytes order) _ c.types.invariant.0 named
          c.in_ok-take_array.ensures c.in_ok-pass_items.ensures.value
          (empty_put names c.insert.new.self.entries c.in_ok-key.key name c.new.result c.in_ok-insert.ensures.entries c.new.ensures.items c.in_ok-key.ensures.ok) pushed,
      omega (arith, c.types.invariant.1, less, opened, c.in_ok-pass_items.ensures.shorter),
    )

pub returns-clause-listed : goal.returns-clause-listed
returns-clause-listed c =
    let over : read_key c.types.reader ≡ Some (None, c.next_key.new.self) = grind arith in
    all_passed c.args.reader.now c.types.reader c.next_key.new.self _ c.types.invariant.0 over

pub returns-clause-shorter : goal.returns-clause-shorter
returns-clause-shorter c =
    let over : read_key c.types.reader ≡ Some (None, c.next_key.new.self) = grind arith in
    omega (arith, c.types.invariant.1, read_key-shorter c.types.reader None c.next_key.new.self over)

use Rattle.std.proofs.Common.{◌≡◌, ◌-◌, ◌<◌, [], ◌∷◌, length, Some, None, refl, ap, ap₂, ◌∙◌, arith}
use Rattle.json.specs.Token.{Token}
use Rattle.json.specs.Json as json
use Rattle.json.specs.Json.{after_end_array, items, members, parse_map, read_key, value}
use Rattle.json.specs.Reads.{token_of}
use Rattle.json.proofs.Grammar.{left, left-parse_map, read_key-shorter, value_is, value-begin_array, value-begin_object}
use Rattle.serde_json.specs.Data.{array, no_members, object}
use Rattle.serde_json.specs.Read.{converted, of_json}
use Rattle.record_stream.proofs.Converted.{converted-array, converted-object}
use Rattle.record_stream.specs.Passing.{behind_items, behind_members, behind_value}
use Rattle.record_stream.proofs.Passed.{item_not_passed, item_passed, items_passed, key_not_passed, member_not_passed, member_passed, members_passed}
use Rattle.record_stream.proofs.passing.+passing.Goals as goal

pub pass_items-items-init : goal.pass_items-items-init
pass_items-items-init t c = (length c.args.reader.now, omega arith, refl, omega arith)

pub pass_items-items-preserved : goal.pass_items-items-preserved
pass_items-items-preserved t c =
    let p = value c.args.depth in
    let l = c.items in
    let n = l.invariant.0 in
    let going : (after_end_array l.reader ≡ None) × (c.take_end_array.new.self ≡ l.reader) = grind arith in
    let less : length c.pass_value.new.reader < length l.reader = rw (← going.1) c.in_ok-pass_value.ensures.shorter in
    (n - 1, omega (arith, l.invariant.1), l.invariant.2 ∙ item_passed p n l.reader _ (omega (arith, l.invariant.1)) going.0 (rw (← going.1) c.in_ok-pass_value.ensures.value), omega (arith, l.invariant.3))

pub pass_items-returns-in_err-pass_value-clause-value : goal.pass_items-returns-in_err-pass_value-clause-value
pass_items-returns-in_err-pass_value-clause-value t c =
    let p = value c.args.depth in
    let l = c.items in
    let n = l.invariant.0 in
    let going : (after_end_array l.reader ≡ None) × (c.take_end_array.new.self ≡ l.reader) = grind arith in
    let none = l.invariant.2 ∙ item_not_passed p n l.reader going.0 (rw (← going.1) c.in_err-pass_value.ensures.value) in
    grind (arith, none)

pub pass_items-returns-clause-value : goal.pass_items-returns-clause-value
pass_items-returns-clause-value t c =
    let l = c.items in
    l.invariant.2 ∙ items_passed (value c.args.depth) l.invariant.0 l.reader c.take_end_array.new.self l.invariant.1 (grind arith)

pub pass_members-members-init : goal.pass_members-members-init
pass_members-members-init t c = (length c.args.reader.now, no_members, omega arith, refl, omega arith)

pub pass_members-returns-in_err-next_key-clause-value : goal.pass_members-returns-in_err-next_key-clause-value
pass_members-returns-in_err-next_key-clause-value t c =
    let l = c.members in
    let none = l.invariant.3 ∙ key_not_passed (value c.args.depth) l.invariant.0 l.invariant.1 l.reader c.in_err-next_key.ensures.value in
    grind (arith, none)

pub pass_members-members-preserved : goal.pass_members-members-preserved
pass_members-members-preserved t c =
    let p = value c.args.depth in
    let l = c.members in
    let n = l.invariant.0 in
    let k = c.in-Some.field-0.now in
    let s = c.next_key.new.self in
    let key : read_key l.reader ≡ Some (Some k, s) = grind arith in
    let less = read_key-shorter l.reader (Some k) s key in
    let lesser = c.in_ok-pass_value.ensures.shorter in
    let turn = member_passed p n l.invariant.1 k l.reader s _ (omega (arith, l.invariant.2)) key c.in_ok-pass_value.ensures.value in
    (n - 1, turn.0, omega (arith, l.invariant.2), l.invariant.3 ∙ turn.1, omega (arith, l.invariant.4))

pub pass_members-returns-in_err-pass_value-clause-value : goal.pass_members-returns-in_err-pass_value-clause-value
pass_members-returns-in_err-pass_value-clause-value t c =
    let l = c.members in
    let k = c.in-Some.field-0.now in
    let s = c.next_key.new.self in
    let key : read_key l.reader ≡ Some (Some k, s) = grind arith in
    let none = l.invariant.3 ∙ member_not_passed (value c.args.depth) l.invariant.0 l.invariant.1 k l.reader s key c.in_err-pass_value.ensures.value in
    grind (arith, none)

pub pass_members-returns-clause-value : goal.pass_members-returns-clause-value
pass_members-returns-clause-value t c =
    let l = c.members in
    l.invariant.3 ∙ members_passed (value c.args.depth) l.invariant.0 l.invariant.1 l.reader c.next_key.new.self l.invariant.2 (grind arith)

pub pass_value-returns-in_err-token-clause-value : goal.pass_value-returns-in_err-token-clause-value
pass_value-returns-in_err-token-clause-value t c =
    let empty : c.args.reader.now ≡ [] = grind arith in
    let none : behind_value c.args.depth c.args.reader.now ≡ None = ap (behind_value c.args.depth) empty ∙ ap (λ o. left (converted of_json o)) (value_is c.args.depth []) in
    grind (arith, none)

pub pass_value-returns-in-String-clause-value : goal.pass_value-returns-in-String-clause-value
pass_value-returns-in-String-clause-value t c =
    let first : c.args.reader.now ≡ token_of c.in_ok-token.token ∷ c.next.new.self = grind arith in
    rw (value_is c.args.depth c.args.reader.now, first) (grind arith)

pub pass_value-returns-in-Some-clause-value : goal.pass_value-returns-in-Some-clause-value
pass_value-returns-in-Some-clause-value t c =
    let first : c.args.reader.now ≡ token_of c.in_ok-token.token ∷ c.next.new.self = grind arith in
    let is : c.args.reader.now ≡ Token.number c.in-Number.text.now ∷ c.next.new.self = grind (arith, first) in
    ap (λ o. left (converted of_json o)) (ap (value c.args.depth) is ∙ value_is c.args.depth _) ∙ rw (← c.in-Some.ensures)

pub pass_value-returns-in-None-clause-value : goal.pass_value-returns-in-None-clause-value
pass_value-returns-in-None-clause-value t c =
    let first : c.args.reader.now ≡ token_of c.in_ok-token.token ∷ c.next.new.self = grind arith in
    let is : c.args.reader.now ≡ Token.number c.in-Number.text.now ∷ c.next.new.self = grind (arith, first) in
    ap (λ o. left (converted of_json o)) (ap (value c.args.depth) is ∙ value_is c.args.depth _) ∙ rw (← c.in-None.ensures)

pub pass_value-returns-in-EndObject-clause-value : goal.pass_value-returns-in-EndObject-clause-value
pass_value-returns-in-EndObject-clause-value t c =
    let first : c.args.reader.now ≡ token_of c.in_ok-token.token ∷ c.next.new.self = grind arith in
    let none : value c.args.depth c.args.reader.now ≡ None = rw (value_is c.args.depth c.args.reader.now, first) (grind arith) in
    ap (λ o. left (converted of_json o)) none

pub pass_value-returns-then-depth-eq0-clause-value : goal.pass_value-returns-then-depth-eq0-clause-value
unfolding value
pass_value-returns-then-depth-eq0-clause-value t c =
    let first : c.args.reader.now ≡ token_of c.in_ok-token.token ∷ c.next.new.self = grind arith in
    let none : c.args.depth ≡ 0 = omega arith in
    ap (λ o. left (converted of_json o)) (ap₂ value none (first ∙ ap (λ k. token_of k ∷ c.next.new.self) c.in-BeginArray.is))

pub pass_value-returns-then-depth-eq0-2-clause-value : goal.pass_value-returns-then-depth-eq0-2-clause-value
unfolding value
pass_value-returns-then-depth-eq0-2-clause-value t c =
    let first : c.args.reader.now ≡ token_of c.in_ok-token.token ∷ c.next.new.self = grind arith in
    let none : c.args.depth ≡ 0 = omega arith in
    ap (λ o. left (converted of_json o)) (ap₂ value none (first ∙ ap (λ k. token_of k ∷ c.next.new.self) c.in-BeginObject.is))

pub pass_value-returns-else-depth-eq0-clause-value : goal.pass_value-returns-else-depth-eq0-clause-value
pass_value-returns-else-depth-eq0-clause-value t c =
    let rest = c.next.new.self in
    let inner = items (value (c.args.depth - 1)) (length rest) rest in
    let first : c.args.reader.now ≡ token_of c.in_ok-token.token ∷ rest = grind arith in
    let opened : value c.args.depth c.args.reader.now ≡ parse_map json.array inner =
    ap (value c.args.depth) (first ∙ ap (λ k. token_of k ∷ rest) c.in-BeginArray.is) ∙ value-begin_array c.args.depth rest (omega arith) in
    let same : behind_value c.args.depth c.args.reader.now ≡ behind_items (c.args.depth - 1) rest =
    ap (λ o. left (converted of_json o)) opened ∙ ap left (converted-array inner) ∙ left-parse_map array _ in
    rw same c.pass_items.ensures.value

pub pass_value-returns-else-depth-eq0-2-clause-value : goal.pass_value-returns-else-depth-eq0-2-clause-value
pass_value-returns-else-depth-eq0-2-clause-value t c =
    let rest = c.next.new.self in
    let inner = members (value (c.args.depth - 1)) (length rest) rest in
    let first : c.args.reader.now ≡ token_of c.in_ok-token.token ∷ rest = grind arith in
    let opened : value c.args.depth c.args.reader.now ≡ parse_map json.object inner =
    ap (value c.args.depth) (first ∙ ap (λ k. token_of k ∷ rest) c.in-BeginObject.is) ∙ value-begin_object c.args.depth rest (omega arith) in
    let same : behind_value c.args.depth c.args.reader.now ≡ behind_members (c.args.depth - 1) rest =
    ap (λ o. left (converted of_json o)) opened ∙ ap left (converted-object inner) ∙ left-parse_map object _ in
    rw same c.pass_members.ensures.value

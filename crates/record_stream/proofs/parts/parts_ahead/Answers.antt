use Rattle.std.proofs.Common.{◌≡◌, ◌∙◌, ◌∷◌, Some, None, ap, subst, arith}
use Rattle.json.specs.Token.{end_object}
use Rattle.json.specs.Json.{read_key}
use Rattle.json.proofs.Grammar.{read_key-shorter, read_key_is}
use Rattle.record_stream.specs.Parts.{HaveFound}
use Rattle.record_stream.proofs.PartsFound.{none_found}
use Rattle.record_stream.proofs.parts.parts_ahead.Goals as goal

pub members-init : goal.members-init
members-init c = none_found c.args.holder c.args.reader.now

pub members-smaller : goal.members-smaller
members-smaller c =
    let named : read_key c.members.reader ≡ Some (Some c.in-Some.name.now, c.next_key.new.self) = grind arith in
    omega (arith, read_key-shorter c.members.reader (Some c.in-Some.name.now) c.next_key.new.self named, c.in_ok-read_part.ensures.shorter)

pub members-preserved : goal.members-preserved
members-preserved c =
    let named : read_key c.members.reader ≡ Some (Some c.in-Some.name.now, c.next_key.new.self) = grind arith in
    c.in_ok-read_part.ensures.found c.args.reader.now c.members.reader c.members.invariant (read_key_is c.members.reader (Some c.in-Some.name.now) c.next_key.new.self named)

pub returns-then-is_object_last : goal.returns-then-is_object_last
returns-then-is_object_last c =
    let over : read_key c.members.reader ≡ Some (None, c.next_key.new.self) = grind arith in
    let at = read_key_is c.members.reader None c.next_key.new.self over ∙ ap (λ ts. end_object ∷ ts) (c.is_object_last.ensures c.if-is_object_last.true) in
    subst (λ ts. HaveFound c.args.holder c.args.reader.now ts c.members.found) at c.members.invariant

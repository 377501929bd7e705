use Rattle.std.proofs.Common.{Some, ap, subst, sym, ◌∙◌}
use Rattle.std.specs.Prelude.{IfSome}
use Rattle.key_index.specs.SimpleKey.{IsKeyColumn}
use Rattle.key_index.proofs.SimpleKeys.{simple_key}
use Rattle.key_index.proofs.simple_key.read_slot.Goals as goal

pub returns-in-Some-plain_value-clause-key : goal.returns-in-Some-plain_value-clause-key
returns-in-Some-plain_value-clause-key g c =
    let schemas = g.R.Rows.schemas c.args.rows.now in
    let table = g.R.Rows.table c.args.rows.now in
    let column = c.in-Some.column in
    let is = subst (λ o. IfSome o (IsKeyColumn table c.args.type_index c.args.paths.now)) c.in-Some.is c.requires.column in
    c.of_value.ensures
    ∙ ap Some (sym (simple_key schemas table c.args.type_index c.args.ordinal c.from.result c.args.paths.now column c.in-Some-plain_value.value is c.requires.live c.from.ensures
    (λ spelled spells. c.in-Some-plain_value.ensures spelled (c.value.ensures spelled spells))))

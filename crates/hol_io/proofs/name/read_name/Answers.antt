use Rattle.std.proofs.Common.{codes, ◌∙◌}
use Rattle.std.proofs.lemmas.Bool.{false≢true}
use Rattle.std.proofs.lemmas.Slice.Eq.{bytes_eq-Decides}
use Rattle.hol_io.proofs.NameKinds.{delta_back, reverse_forth, no_kind}
use Rattle.hol_io.proofs.name.read_name.Goals as goal

pub returns-else-from-to : goal.returns-else-from-to
returns-else-from-to c =
    delta_back c.args.text.now c.in-Some-text_after.rest.now c.in_ok-from.from c.in_ok-from.to c.in-Some-text_after.ensures c.in_ok-from.ensures c.if-from-to.false

pub returns-else-to-from : goal.returns-else-to-from
returns-else-to-from c =
    reverse_forth c.args.text.now c.in-Some-text_after-2.rest.now c.in_ok-from-2.from c.in_ok-from-2.to c.in-Some-text_after-2.ensures c.in_ok-from-2.ensures c.if-to-from.false

pub returns : goal.returns
returns c =
    let text = c.args.text.now in
    no_kind text (λ same. false≢true (c.if-eq.ensures ∙ (bytes_eq-Decides text (codes "announced.version")).1 same))
    c.in_default.ensures c.in_default-text_after.ensures c.in_default-text_after-2.ensures

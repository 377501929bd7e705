use Rattle.std.proofs.Common.{sym, codes}
use Rattle.std.proofs.lemmas.Slice.Eq.{bytes_eq-Decides}
use Rattle.record_stream.proofs.PlainLines.{line_cut}
use Rattle.record_stream.proofs.plain_find.cut_line.Goals as goal

pub returns-then-eq : goal.returns-then-eq
returns-then-eq c =
    line_cut c.args.line.now c.in_ok-rest.rest.now c.in_ok-type_name.rest.now c.in_ok-rest-2.rest.now c.in_ok-path.rest.now c.in_ok-rest-3.rest.now c.in_ok-type_name.type_name.now c.in_ok-path.path.now
    c.split_once.result c.in_ok-value.value c.in_ok-value.rest c.in_ok-rest.ensures c.in_ok-type_name.ensures c.in_ok-rest-2.ensures c.in_ok-path.ensures c.in_ok-rest-3.ensures
    c.split_once.ensures.cases c.in_ok-value.was ((bytes_eq-Decides c.in_ok-value.rest.now (codes "]}")).0 (sym c.if-eq.ensures))

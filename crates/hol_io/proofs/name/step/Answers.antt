use Rattle.std.proofs.Common.{sym, subst}
use Rattle.hol_io.specs.Name.{TellsStep}
use Rattle.hol_io.proofs.Texts.{no_dash, no_first, no_second, step_found}
use Rattle.hol_io.proofs.name.step.Goals as goal

pub returns-in_err-from : goal.returns-in_err-from
returns-in_err-from c =
    subst (TellsStep c.args.text.now) (sym c.from_residual.ensures) (no_dash c.args.text.now c.split_once.result c.split_once.ensures.cases c.in_err-from.was)

pub returns-in_err-from-2 : goal.returns-in_err-from-2
returns-in_err-from-2 c =
    subst (TellsStep c.args.text.now) (sym c.from_residual-in_err-from-2.ensures)
    (no_first c.args.text.now c.split_once.result c.in_ok-from.from c.in_ok-from.to c.parse_version.result c.split_once.ensures.cases c.in_ok-from.was c.parse_version.ensures c.in_err-from-2.was)

pub returns-in_err-to : goal.returns-in_err-to
returns-in_err-to c =
    subst (TellsStep c.args.text.now) (sym c.from_residual-in_err-to.ensures)
    (no_second c.args.text.now c.split_once.result c.in_ok-from.from c.in_ok-from.to c.parse_version-2.result c.split_once.ensures.cases c.in_ok-from.was c.parse_version-2.ensures c.in_err-to.was)

pub returns : goal.returns
returns c =
    step_found c.args.text.now c.split_once.result c.in_ok-from.from c.in_ok-from.to c.in_ok-from-2.from c.in_ok-to.to c.split_once.ensures.cases c.in_ok-from.was c.in_ok-from-2.ensures c.in_ok-to.ensures

use Rattle.std.proofs.Common.{None, Some, sym, ◌∙◌, subst, arith}
use Rattle.hol_io.specs.Name.{TellsVersion}
use Rattle.hol_io.proofs.Texts.{number_told}
use Rattle.hol_io.proofs.name.parse_version.Goals as goal

pub returns-in_err-version : goal.returns-in_err-version
returns-in_err-version c =
    let none = number_told c.args.text.now c.parse.result None c.parse.ensures.value.0 (omega arith) (sym c.in_err-version.was ∙ c.ok.ensures.value) in
    subst (TellsVersion c.args.text.now) (sym c.from_residual.ensures) none

pub returns-then-version : goal.returns-then-version
returns-then-version c =
    let told = number_told c.args.text.now c.parse.result (Some c.in_ok-version.version) c.parse.ensures.value.0 (omega arith) (sym c.in_ok-version.was ∙ c.ok.ensures.value) in
    ((told.0, omega arith), told.1)

pub returns-else-version : goal.returns-else-version
returns-else-version c =
    let told = number_told c.args.text.now c.parse.result (Some c.in_ok-version.version) c.parse.ensures.value.0 (omega arith) (sym c.in_ok-version.was ∙ c.ok.ensures.value) in
    told.2 c.if-version.false

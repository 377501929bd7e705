-- A script has a text, a verdict and a machine behind it.
use Rattle.std.proofs.Common.{◌++◌, ℕ, List, [], ◌∷◌, Bool, true, false, refl}
use Rattle.std.specs.Prelude.{if◌then◌else◌}
use Rattle.hol_answers.specs.Reply.{is_refusal, line_of}
use Rattle.hollow_machine.specs.Script.{Script}
use Rattle.hollow_machine.specs.State.{Machine}
use Rattle.answer_laws.specs.Answered.{IsSound}
use Rattle.answer_laws.specs.Limits.{HasLimitedRows}
use Rattle.answer_laws.specs.Shown.{HasWhole}
use Rattle.answer_laws.proofs.Keeping.{line_keeps}
use Rattle.answer_laws.proofs.LimitedRows.{line_keeps_limited}
use Rattle.answer_laws.proofs.Lines.{line_answered}
use Rattle.answer_laws.proofs.ShownRows.{machine_shown, machine_storable}
use Rattle.answer_laws.proofs.Wholes.{line_whole}

pub script_answered : (machine : Machine) (lines : List (List ℕ)) → IsSound machine → HasWhole machine → HasLimitedRows machine
    → ((text : List ℕ) (refused : Bool) (next : Machine) → Script machine lines text refused next → ⊥) → ⊥
script_answered machine [] sound whole limited none = none [] false machine (refl, refl, refl)
script_answered machine (line ∷ lines) sound whole limited none =
    line_answered machine line sound (machine_shown machine whole (machine_storable machine whole limited)) (λ answer next step.
    script_answered next lines (line_keeps machine next line answer sound step) (line_whole machine next line answer whole step) (line_keeps_limited machine next line answer sound limited step)
    (λ text refused last script. none (line_of answer ++ text) (if is_refusal answer then true else refused) last (answer, next, text, refused, step, script, refl, refl)))

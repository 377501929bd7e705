use Rattle.std.proofs.Common.{◌∙◌, ap, map, subst, sym}
use Rattle.std.specs.Prelude.{IsSome}
use Rattle.std.specs.Option.{option_map}
use Rattle.hol_incremental.specs.EditKeys.{AreReady}
use Rattle.hol_incremental.specs.Keeping.{moved}
use Rattle.hol_incremental.specs.NextTallies.{coming_of}
use Rattle.hol_incremental.proofs.KeptEdits.{accepted_edits}
use Rattle.hol_incremental.proofs.edits.Edits.accept.Goals.{in-Some, in_default}
use Rattle.hol_incremental.proofs.edits.Edits.accept.Goals as goal

pub returns : goal.returns
returns c = λ schemas previous next ready.
    elim c.match-take.branch [
      | in-Some w ↦
          accepted_edits c.kept_for_next.ensures schemas previous next _ (subst (AreReady schemas previous next) (sym c.self.view_is) ready) (coming_of w.in-Some.next) (ap (option_map coming_of) (sym c.take.ensures.value ∙ w.in-Some.is)) _
          (ap (λ s. s.tally.counts) w.self-inside-is) (ap (λ s. s.tally.sums.items) w.self-inside-is) (c.take-2.ensures.value ∙ ap (λ s. s.next_sections) w.self-inside-is) (c.update_all.ensures ∙ ap (λ s. map moved s.keys.items) w.self-inside-is)
      | in_default w ↦
          absurd (let e = subst IsSome (ap (λ x. x.next) (sym c.self.view_is) ∙ ap (option_map coming_of) (sym c.take.ensures.value ∙ w.in_default.is)) c.requires.counts in cc)
    ]

use Rattle.std.proofs.Common.{◌∙◌, List, Option, Some, ap, subst, sym}
use Rattle.std.specs.Prelude.{option_map}
use Rattle.hol_paths.specs.declared.reserved.Reserved.{Reserved}
use Rattle.hol_paths.specs.Slots.{IsWalkKept, next_of}
use Rattle.hol_paths.specs.Walked.{Entry, Walked}
use Rattle.hol_paths.proofs.Reserving.{reserved_in, turned_is, turned_kept}
use Rattle.hol_paths.proofs.index.WalkIndex.update.Goals as goal

pub turn-requires : goal.turn-requires
turn-requires c = reserved_in c.self.inside.entries c.self.inside.next c.in-Some.reserved (sym c.take.ensures.value ∙ c.in-Some.is) c.self.invariant.reserved

pub invariant_of-self : goal.invariant_of-self
invariant_of-self c =
    subst (λ (n : Option Reserved). IsWalkKept c.turn.new.entries c.in-Some.reserved.keyed n) (sym c.take.ensures.after)
    (turned_kept c.self.inside.entries c.turn.new.entries c.in-Some.reserved (reserved_in c.self.inside.entries c.self.inside.next c.in-Some.reserved (sym c.take.ensures.value ∙ c.in-Some.is) c.self.invariant.reserved)
    c.turn.ensures)

pub returns-clause-updated : goal.returns-clause-updated
returns-clause-updated c =
    let is = reserved_in c.self.inside.entries c.self.inside.next c.in-Some.reserved (sym c.take.ensures.value ∙ c.in-Some.is) c.self.invariant.reserved in
    sym (ap (λ (w : Walked). w.next) c.self.view_is)
    ∙ ap (λ (n : Option Reserved). option_map (next_of c.self.inside.entries) n) (sym c.take.ensures.value ∙ c.in-Some.is)
    ∙ ap (λ (es : List Entry). Some es) (turned_is c.self.inside.entries c.turn.new.entries c.in-Some.reserved is c.turn.ensures)

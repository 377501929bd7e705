use Rattle.std.proofs.Common.{◌≡◌, subst}
use Rattle.std.specs.Prelude.{vec_capacity}
use Rattle.hol_paths.specs.Slots.{Slotted, entries_of}
use Rattle.hol_paths.proofs.Coming.{same_entries}
use Rattle.hol_paths.proofs.Slotted.{valued_kept}
use Rattle.hol_paths.proofs.entries.Entries.number.Goals as goal

pub invariant_of-self : goal.invariant_of-self
invariant_of-self c =
    valued_kept c.self.inside.slots.items (vec_capacity c.self.inside.slots) c.self.inside.owners c.self.inside.numbers c.self.inside.values c.self.inside.room c.self.invariant
    c.add.new.self c.add.ensures.stays

pub returns-clause-entries : goal.returns-clause-entries
returns-clause-entries c =
    subst (λ (r : Slotted). entries_of c.add.new.self r.slots ≡ entries_of r.values r.slots) c.self.view_is
    (same_entries c.self.inside.values c.add.new.self c.self.inside.slots.items c.add.ensures.stays c.self.invariant.known)

use Rattle.std.proofs.Common.{arith, sym, ap, ◌∙◌}
use Rattle.std.specs.FinMap.{remove}
use Rattle.key_index.specs.Slots.{Roomy, is_large, slots_in}
use Rattle.key_index.proofs.Keeping.{removed_past}
use Rattle.key_index.proofs.key_rows.KeyRows.remove.Goals as goal

pub returns-else-ordinal-len : goal.returns-else-ordinal-len
returns-else-ordinal-len c =
    sym c.self.view_is ∙ removed_past (is_large c.self.inside.slots) (slots_in c.self.inside.slots) c.args.ordinal (omega (arith, c.len.ensures))
    ∙ ap (λ (r : Roomy). record r { keys = remove r.keys c.args.ordinal }) c.self.view_is

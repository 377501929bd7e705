use Rattle.std.proofs.Common.{ℕ, sym, subst}
use Rattle.key_index.specs.Indexed.{CountsKeys}
use Rattle.key_index.specs.Slots.{Roomy, keys_of, slots_in}
use Rattle.key_index.proofs.Answering.{count_keys}
use Rattle.key_index.proofs.key_rows.KeyRows.keyed.Goals as goal

pub returns : goal.returns
returns c =
    subst (λ (r : Roomy). CountsKeys r.keys c.self.inside.keyed) c.self.view_is
    (subst (λ (n : ℕ). CountsKeys (keys_of (slots_in c.self.inside.slots)) n) (sym c.self.invariant.count) (count_keys (slots_in c.self.inside.slots)))

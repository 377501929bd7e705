use Rattle.std.proofs.Common.{List, ℕ, subst, ◌≡◌, ◌↔◌, Some}
use Rattle.std.specs.Prelude.{Contains}
use Rattle.row_model.specs.declared.row.Value.{Value}
use Rattle.key_index.specs.Indexed.{AreUnder}
use Rattle.key_index.specs.Slots.{Roomy, key_in, read_at, slots_in}
use Rattle.key_index.proofs.Answering.{under_key}
use Rattle.key_index.proofs.key_rows.KeyRows.matches.Goals as goal

pub returns : goal.returns
returns c =
    let found : (o : ℕ) → Contains c.in_ok-found.found.items o ↔ (read_at key_in (slots_in c.self.inside.slots) o ≡ Some c.args.key.now) =
    λ o. subst (λ (key : List Value). Contains c.in_ok-found.found.items o ↔ (read_at key_in (slots_in c.self.inside.slots) o ≡ Some key)) c.as_slice.ensures (c.in_ok-found.ensures.are o) in
    subst (λ (r : Roomy). AreUnder r.keys c.args.key.now c.rising.result) c.self.view_is
    (under_key (slots_in c.self.inside.slots) c.args.key.now c.in_ok-found.found.items c.rising.result found c.rising.ensures)

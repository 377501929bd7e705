use Rattle.std.proofs.Common.{Option, Some, ap, subst, sym, ◌∙◌, ◌≡◌, ◌↔◌, List}
use Rattle.std.specs.Prelude.{IsTrue, option_and_then, option_map}
use Rattle.row_model.specs.declared.row.Value.{Value}
use Rattle.key_index.specs.Slots.{key_in, slot_of}
use Rattle.key_index.proofs.Forms.{small_read}
use Rattle.key_index.proofs.key_slots.is_small_key.Goals as goal

pub returns-in-Some : goal.returns-in-Some
returns-in-Some c =
    let is = small_read c.args.slots.now c.args.ordinal c.small_at.result c.small_at.ensures ∙ ap (λ small. option_and_then key_in (option_map slot_of small)) c.in-Some.is in
    subst (λ (k : Option (List Value)). IsTrue c.is_keyed_by.result ↔ (k ≡ Some c.args.key.now)) (sym is) c.is_keyed_by.ensures

pub returns-in-None : goal.returns-in-None
returns-in-None c =
    let is = small_read c.args.slots.now c.args.ordinal c.small_at.result c.small_at.ensures ∙ ap (λ small. option_and_then key_in (option_map slot_of small)) c.in-None.is in
    ((λ e. absurd cc), (λ h. (let none = sym is ∙ h in absurd cc)))

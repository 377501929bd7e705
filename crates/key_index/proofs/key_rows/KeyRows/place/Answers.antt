use Rattle.std.proofs.Common.{ap, ◌∙◌, ◌<◌, sym, subst}
use Rattle.key_index.specs.Slots.{AreKept, Roomy, is_large, placed, row_key, slots_in}
use Rattle.key_index.proofs.Keeping.{counted, placed_kept, placed_seen, seen}
use Rattle.key_index.proofs.key_rows.KeyRows.place.Goals as goal

pub unlink-requires : goal.unlink-requires
unlink-requires c = counted (slots_in c.self.inside.slots) c.self.inside.chains c.self.inside.buckets c.self.inside.keyed c.self.invariant c.args.ordinal

pub invariant_of-self : goal.invariant_of-self
invariant_of-self c =
    subst (λ ss. AreKept ss c.link.new.chains c.self.inside.buckets c.link.new.keyed) (sym c.set.ensures.slots)
    (placed_kept (slots_in c.self.inside.slots) c.self.inside.chains c.self.inside.buckets c.self.inside.keyed c.self.invariant c.args.ordinal
    (subst (λ (r : Roomy). c.args.ordinal < r.room) (sym c.self.view_is) c.requires.inside)
    c.unlink.new.chains c.link.new.chains c.unlink.new.keyed c.link.new.keyed c.args.slot
    c.unlink.ensures.hashes c.link.ensures.hashes (c.link.ensures.slots ∙ c.unlink.ensures.slots) (c.link.ensures.buckets ∙ c.unlink.ensures.buckets)
    c.unlink.ensures.keyed c.link.ensures.keyed)

pub returns : goal.returns
returns c =
    (λ i. seen (c.set.ensures.form i) (c.set.ensures.slots i))
    ∙ placed_seen (is_large c.self.inside.slots) (slots_in c.self.inside.slots) c.args.ordinal c.args.slot (subst (λ (r : Roomy). c.args.ordinal < r.room) (sym c.self.view_is) c.requires.inside)
    ∙ ap (λ (r : Roomy). record r { keys = placed r.keys c.args.ordinal (row_key c.args.slot) }) c.self.view_is

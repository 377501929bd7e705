use Rattle.std.proofs.Common.{ap, ◌∙◌, ◌<◌, sym, subst}
use Rattle.key_index.specs.Slots.{AreKept, Roomy, is_large, placed, row_key, slots_in}
use Rattle.key_index.specs.declared.slot.Slot.TheVariants.{Free}
use Rattle.key_index.proofs.Keeping.{counted, freed_kept, placed_seen, seen}
use Rattle.key_index.proofs.key_rows.KeyRows.clear.Goals as goal

pub unlink-requires : goal.unlink-requires
unlink-requires c = counted (slots_in c.self.inside.slots) c.self.inside.chains c.self.inside.buckets c.self.inside.keyed c.self.invariant c.args.ordinal

pub invariant_of-self : goal.invariant_of-self
invariant_of-self c =
    subst (λ ss. AreKept ss c.unlink.new.chains c.self.inside.buckets c.unlink.new.keyed) (sym c.set.ensures.slots)
    (freed_kept (slots_in c.self.inside.slots) c.self.inside.chains c.self.inside.buckets c.self.inside.keyed c.self.invariant c.args.ordinal c.unlink.new.chains c.unlink.new.keyed
    (subst (λ (r : Roomy). c.args.ordinal < r.room) (sym c.self.view_is) c.requires)
    c.unlink.ensures.hashes c.unlink.ensures.slots c.unlink.ensures.buckets c.unlink.ensures.keyed)

pub returns : goal.returns
returns c =
    (λ i. seen (c.set.ensures.form i) (c.set.ensures.slots i))
    ∙ placed_seen (is_large c.self.inside.slots) (slots_in c.self.inside.slots) c.args.ordinal Free (subst (λ (r : Roomy). c.args.ordinal < r.room) (sym c.self.view_is) c.requires)
    ∙ ap (λ (r : Roomy). record r { keys = placed r.keys c.args.ordinal (row_key Free) }) c.self.view_is

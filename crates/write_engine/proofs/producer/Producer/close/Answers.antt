use Rattle.std.proofs.Common.{◌∙◌, sym, ap, length}
use Rattle.write_engine.proofs.Producing.{count_types}
use Rattle.write_engine.proofs.producer.Producer.close.Goals as goal

pub changed_types-requires : goal.changed_types-requires
changed_types-requires c = ap length c.as_slice-maps.ensures.value ∙ count_types c.self.inside.model c.self.inside.maps.items c.self.invariant ∙ sym c.len.ensures.count

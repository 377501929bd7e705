use Rattle.std.proofs.Common.{subst, sym}
use Rattle.object_codec.specs.Texts.{AreReaches}
use Rattle.object_codec.proofs.spans.Spans.are_units.Goals as goal

pub are_units_between-requires-clause-reaches : goal.are_units_between-requires-clause-reaches
are_units_between-requires-clause-reaches c = subst (AreReaches c.args.bytes.now) (sym c.as_slice.ensures.value) c.in_ok-reach.ensures

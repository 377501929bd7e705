use Rattle.std.proofs.Common.{ap, ◌∙◌, sym, rules, tests, max}
use Rattle.std.specs.Prelude.{fold}
use Rattle.std.proofs.lemmas.Iterator.{YieldsList-from_slice, YieldsList-from_map}
use Rattle.std.proofs.lemmas.Iterator.Consumers.{max_from_yields_List}
use Rattle.bucket_codec.specs.Packed.{pairs_of}
use Rattle.bucket_codec.specs.Widths.{values_of}
use Rattle.row_widths.proofs.BucketSpreads.{greatest_picked, no_values}
use Rattle.row_widths.proofs.buckets.greatest_value.Goals as goal

pub returns-in-Map : goal.returns-in-Map
returns-in-Map c =
    c.unwrap_or.ensures
    ∙ greatest_picked (values_of c.as_slice.result.now) _
    (max_from_yields_List c.map.result _ c.max.ensures.ran (YieldsList-from_map _ (λ pair. pair.1) (YieldsList-from_slice c.as_slice.result.now cc) c.map.ensures.closure (λ x b q k. search (rules, tests))))
    ∙ ap (λ pairs. fold max 0 (values_of pairs)) (c.as_slice.ensures ∙ sym (ap pairs_of c.in-Map.is))

pub returns-in_default : goal.returns-in_default
returns-in_default c = no_values c.args.row.now c.in_default.not-Map

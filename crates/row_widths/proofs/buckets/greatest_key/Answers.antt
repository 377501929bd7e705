use Rattle.std.proofs.Common.{ap, ◌∙◌, sym, rules, tests, max}
use Rattle.std.specs.Prelude.{fold}
use Rattle.std.proofs.lemmas.Iterator.{YieldsList-from_slice, YieldsList-from_map}
use Rattle.std.proofs.lemmas.Iterator.Consumers.{YieldsList-from_copied, max_from_yields_List}
use Rattle.bucket_codec.specs.Run.{keys_of}
use Rattle.bucket_codec.specs.Packed.{pairs_of}
use Rattle.bucket_codec.proofs.Placed.{set_keys}
use Rattle.row_widths.proofs.BucketSpreads.{greatest_picked}
use Rattle.row_widths.proofs.buckets.greatest_key.Goals as goal

pub returns-in-Set : goal.returns-in-Set
returns-in-Set c =
    c.unwrap_or.ensures
    ∙ greatest_picked c.as_slice.result.now _ (max_from_yields_List c.copied.result _ c.max.ensures.ran (YieldsList-from_copied (YieldsList-from_slice c.as_slice.result.now cc)))
    ∙ ap (λ keys. fold max 0 keys) (c.as_slice.ensures ∙ sym (set_keys c.in-Set.elements) ∙ sym (ap (λ row. keys_of (pairs_of row)) c.in-Set.is))

pub returns-in-Map : goal.returns-in-Map
returns-in-Map c =
    c.unwrap_or-in-Map.ensures
    ∙ greatest_picked (keys_of c.as_slice-in-Map.result.now) _
    (max_from_yields_List c.map.result _ c.max-in-Map.ensures.ran
    (YieldsList-from_map _ (λ pair. pair.0) (YieldsList-from_slice c.as_slice-in-Map.result.now cc) c.map.ensures.closure (λ x b q k. search (rules, tests))))
    ∙ ap (λ pairs. fold max 0 (keys_of pairs)) (c.as_slice-in-Map.ensures ∙ sym (ap pairs_of c.in-Map.is))

use Rattle.std.proofs.Common.{◌∙◌, rules, tests, map}
use Rattle.std.proofs.lemmas.Iterator.{YieldsList-from_slice, YieldsList-from_map}
use Rattle.std.proofs.lemmas.Iterator.Consumers.{max_from_yields_List}
use Rattle.chain_store.specs.Versions.{newest}
use Rattle.chain_store.proofs.Greatest.{greatest_picked}
use Rattle.chain_store.proofs.versions.greatest_version.Goals as goal

pub returns : goal.returns
returns c =
    c.unwrap_or.ensures
    ∙ greatest_picked (map newest c.args.listed.now) _
    (max_from_yields_List c.map.result _ c.max.ensures.ran
    (YieldsList-from_map _ newest (YieldsList-from_slice c.args.listed.now cc) c.map.ensures.closure (λ x b q k. search (rules, tests))))

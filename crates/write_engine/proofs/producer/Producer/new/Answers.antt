use Rattle.std.proofs.Common.{◌∙◌, refl, ap, sym, subst}
use Rattle.std.specs.Prelude.{replicate}
use Rattle.write_engine.specs.Production.{IsProducing, current_of, no_states, previous_of}
use Rattle.write_engine.proofs.Producing.{made_producing, none_current, none_previous}
use Rattle.write_engine.specs.Cycle.{no_rows}
use Rattle.write_engine.proofs.producer.Producer.new.Goals as goal

pub invariant_of-result : goal.invariant_of-result
invariant_of-result c = subst (IsProducing c.args.model) (sym (c.in_ok-maps.ensures ∙ ap (λ n. replicate n no_states) c.len.ensures.count)) (made_producing c.args.model)

pub returns : goal.returns
returns c = record {
  schemas_are = refl;
  previous_is = ap previous_of c.in_ok-maps.ensures ∙ none_previous c.len.result ∙ ap no_rows c.len.ensures.count;
  current_is = ap current_of c.in_ok-maps.ensures ∙ none_current c.len.result ∙ ap no_rows c.len.ensures.count;
  tag_is = refl;
  version_is = refl;
  is_open = refl;
  over_is = refl;
}

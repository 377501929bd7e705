use Rattle.std.proofs.Common.{◌∙◌, subst}
use Rattle.std.specs.Prelude.{MatchBool}
use Rattle.list_codec.specs.Elements.{AreOrdinals, HasPastOrdinals}
use Rattle.list_codec.proofs.ListElements.{list_failed, list_spelled}
use Rattle.list_codec.proofs.faults.Lists.fault.Goals as goal

pub returns-then-branch-clause-tells : goal.returns-then-branch-clause-tells
returns-then-branch-clause-tells c =
    let self = c.args.self.now in
    let told =
    subst (λ b. MatchBool b (AreOrdinals self.rows.second.now self.width c.in-Some.start c.in-Some.end) (HasPastOrdinals self.rows.second.now self.width c.in-Some.start c.in-Some.end)) c.if-branch.true c.in_ok-are_ordinals.ensures.tells in
    list_spelled self.rows.widths.now self.rows.total self.rows.first.now self.rows.second.now c.args.place self.width c.in-Some.start c.in-Some.end c.in-Some.ensures.0 (c.in-Some.start-is ∙ c.in-Some.ensures.1) (c.in-Some.end-is ∙ c.in-Some.ensures.2)
    self.of told

pub returns-clause-tells : goal.returns-clause-tells
returns-clause-tells c =
    let self = c.args.self.now in
    let told =
    subst (λ b. MatchBool b (AreOrdinals self.rows.second.now self.width c.in-Some.start c.in-Some.end) (HasPastOrdinals self.rows.second.now self.width c.in-Some.start c.in-Some.end)) c.if-branch.false c.in_ok-are_ordinals.ensures.tells in
    list_failed self.rows.widths.now self.rows.total self.rows.first.now self.rows.second.now c.args.place self.width c.in-Some.start c.in-Some.end c.in-Some.ensures.0 (c.in-Some.start-is ∙ c.in-Some.ensures.1) (c.in-Some.end-is ∙ c.in-Some.ensures.2)
    self.of told

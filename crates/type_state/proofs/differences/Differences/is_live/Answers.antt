use Rattle.std.proofs.Common.{refl, sym, ap, ◌∙◌, subst}
use Rattle.std.specs.Prelude.{◌↔◌, IsSome, IsTrue, is_some, not}
use Rattle.std.proofs.lemmas.Bool.{false≢true}
use Rattle.type_state.proofs.Comings.{live_added, none_added}
use Rattle.type_state.proofs.DifferingRows.{with_neither, with_removed}
use Rattle.type_state.proofs.differences.Differences.is_live.Goals as goal

pub returns-then-is_some : goal.returns-then-is_some
returns-then-is_some c = (λ t. live_added c.args.rows.now.rows c.args.self.now c.args.ordinal c.place_of.result c.requires c.place_of.ensures (sym c.is_some.ensures ∙ c.if-is_some.true), λ some. refl)

pub returns-then-not-is_removed : goal.returns-then-not-is_removed
returns-then-not-is_removed c =
    let none = none_added c.args.self.now c.args.ordinal c.place_of.result c.place_of.ensures (sym c.is_some.ensures ∙ c.if-is_some.false) in
    let gone = c.is_removed.ensures.stays c.if-not-is_removed.true in
    subst (λ there. IsTrue c.is_live.result ↔ IsSome there) (sym (with_neither c.args.rows.now.rows c.args.self.now c.args.ordinal c.requires none gone)) c.is_live.ensures

pub returns-else-not-is_removed : goal.returns-else-not-is_removed
returns-else-not-is_removed c =
    let none = none_added c.args.self.now c.args.ordinal c.place_of.result c.place_of.ensures (sym c.is_some.ensures ∙ c.if-is_some.false) in
    let gone = c.is_removed.ensures.gone c.if-not-is_removed.false in
    let empty = with_removed c.args.rows.now.rows c.args.self.now c.args.ordinal _ c.requires none gone in
    (λ t. absurd (false≢true (sym (ap not c.if-not-is_removed.false) ∙ t)), λ some. absurd (false≢true (sym (ap is_some empty) ∙ some)))

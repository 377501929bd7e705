use Rattle.std.proofs.Common.{◌∙◌, Bool, sym, subst}
use Rattle.row_model.specs.Table.{Table}
use Rattle.hol_incremental.specs.EditKeys.{AreEditsOf}
use Rattle.change_orders.specs.Making.{IsReadyOver}
use Rattle.change_orders.proofs.change_order.settle.Goals as goal

pub accept-requires : goal.accept-requires
accept-requires c = c.requires (sym c.has_published.ensures ∙ c.if-has_published.true)

pub returns-then-has_published : goal.returns-then-has_published
returns-then-has_published c = λ old new over.
    (c.accept.ensures old.schemas old.previous new.previous (subst (λ (b : Bool). IsReadyOver old new c.args.edits.now b) (sym c.has_published.ensures ∙ c.if-has_published.true) over.1))

pub returns-else-has_published : goal.returns-else-has_published
returns-else-has_published c = λ old new over.
    (let same = subst (λ (b : Bool). IsReadyOver old new c.args.edits.now b) (sym c.has_published.ensures ∙ c.if-has_published.false) over.1 in
    subst (λ (rows : Table). AreEditsOf old.schemas rows c.forget.new.self) (sym same) (c.forget.ensures.kept old.schemas old.previous over.0))

use Rattle.std.proofs.Common.{◌+◌, get_or, refl, sym, subst}
use Rattle.history_orders.proofs.Among.{AreMatchesOf, all_among, none_more, one_more}
use Rattle.history_orders.proofs.key_rows.matches_among.Goals.{then-branch+in_ok-push, else-branch}
use Rattle.history_orders.proofs.key_rows.matches_among.Goals as goal

pub loop-ordinal-preserved : goal.loop-ordinal-preserved
loop-ordinal-preserved g c =
    let S = g.R.Rows.schemas c.args.rows.now in
    let T = g.R.Rows.table c.args.rows.now in
    let place = c.loop-ordinal.ordinal-index in
    let among = c.args.among.now in
    let more = AreMatchesOf S T c.args.type_index c.args.paths.now c.args.key.now among (place + 1) in
    elim c.if-branch.branch [
      | then-branch+in_ok-push w ↦
          subst more (sym w.ordinals-is) (subst more (sym w.in_ok-push.ensures.ok)
          (one_more S T c.args.type_index c.args.paths.now c.args.key.now among place (get_or among place 0) c.loop-ordinal.ordinals c.loop-ordinal-test.true refl c.loop-ordinal.invariant c.requires.rising
          (c.in_ok-is_match.ensures.0 w.if-branch.true)))
      | else-branch w ↦
          subst more (sym w.ordinals-is)
          (none_more S T c.args.type_index c.args.paths.now c.args.key.now among place (get_or among place 0) c.loop-ordinal.ordinals c.loop-ordinal-test.true refl c.loop-ordinal.invariant
          (λ here. let seen = c.in_ok-is_match.ensures.1 here in let not = w.if-branch.false in absurd cc))
    ]

pub returns : goal.returns
returns g c =
    all_among (g.R.Rows.schemas c.args.rows.now) (g.R.Rows.table c.args.rows.now) c.args.type_index c.args.paths.now c.args.key.now c.args.among.now c.loop-ordinal.ordinal-index c.loop-ordinal.ordinals
    c.loop-ordinal-test.false c.requires.whole c.loop-ordinal.invariant

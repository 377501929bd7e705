use Rattle.std.proofs.Common.{◌≤◌, [], subst, sym, ap, ◌∙◌, arith}
use Rattle.std.specs.Prelude.{All}
use Rattle.std.proofs.lemmas.List.Elements.{All-nil, All-push}
use Rattle.ordinal_set.specs.Ordinals.{with_ordinal, members_below}
use Rattle.layer_cases.proofs.sets.put_one.Goals as goal

pub put_population-requires : goal.put_population-requires
unfolding with_ordinal members_below
put_population-requires c =
    let is = c.in_ok-insert.ensures.ok ∙ ap (with_ordinal 1) c.new-set.ensures in
    subst (All (λ o. o ≤ 16384)) (sym is) (All-push (λ o. o ≤ 16384) [] 1 (All-nil (λ o. o ≤ 16384)) (omega arith))

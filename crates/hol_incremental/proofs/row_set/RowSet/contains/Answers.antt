use Rattle.std.proofs.Common.{◌≡◌, ◌∙◌, ℕ, ◌<◌, length, nat_lt, true, List, [], sym, ap, subst, get_or}
use Rattle.std.specs.Prelude.{Contains}
use Rattle.std.proofs.lemmas.Bool.{ltb-true}
use Rattle.std.proofs.lemmas.List.{get_or_read}
use Rattle.hol_incremental.proofs.Among.{none_in}
use Rattle.hol_incremental.proofs.RowBits.{past_list}
use Rattle.hol_incremental.proofs.row_set.RowSet.contains.Goals as goal

inside_of : (k : ℕ) (xs : List (List ℕ)) → nat_lt k (length xs) ≡ true → k < length xs
inside_of k xs is = ltb-true k (length xs) is

pub returns-in-Some : goal.returns-in-Some
returns-in-Some c =
    let row = c.args.row in
    let list = get_or_read c.deref.result.now row.0 c.in-Some.set.now (inside_of row.0 c.deref.result.now (sym c.in-Some.ensures.lookup.0)) c.in-Some.ensures.lookup.1 [] in
    let same : c.in-Some.set.now ≡ get_or c.self.inside.sets.items row.0 [] = list ∙ ap (λ (xs : List (List ℕ)). get_or xs row.0 []) c.deref.ensures.value in
    let is = c.self.invariant row.0 row.1 in (
      λ yes. subst (λ (rows : List (ℕ × ℕ)). Contains rows row) c.self.view_is (is.0 (subst (λ (xs : List ℕ). Contains xs row.1) same (c.contains.ensures.member.0 yes))),
      λ among. c.contains.ensures.member.1 (subst (λ (xs : List ℕ). Contains xs row.1) (sym same) (is.1 (subst (λ (rows : List (ℕ × ℕ)). Contains rows row) (sym c.self.view_is) among))),
    )

pub returns-in-None : goal.returns-in-None
returns-in-None c =
    let row = c.args.row in
    let none = ap (λ (xs : List (List ℕ)). get_or xs row.0 []) (sym c.deref.ensures.value) ∙ past_list c.deref.result.now row.0 c.in-None.ensures.lookup.3 in
    let is = c.self.invariant row.0 row.1 in (
      λ yes. absurd cc,
      λ among. absurd (none_in row.1 (subst (λ (xs : List ℕ). Contains xs row.1) none (is.1 (subst (λ (rows : List (ℕ × ℕ)). Contains rows row) (sym c.self.view_is) among)))),
    )

use Rattle.std.proofs.Common.{◌≡◌, ◌*◌, ◌/◌, ◌%◌, ◌^◌, ◌<◌, length, set, bit_or, subst, sym, ap, ◌∙◌, arith}
use Rattle.std.specs.Prelude.{⊤}
use Rattle.std.proofs.lemmas.Result.{MatchResult-from_err}
use Rattle.std.proofs.lemmas.List.{get_or_read}
use Rattle.ordinal_set.specs.Ordinals.{with_ordinal}
use Rattle.ordinal_set.specs.Population.{FitOrdinals, population_of}
use Rattle.ordinal_set.proofs.Populations.{ordinals-population, same_bits, fit_alike, fit-words_with, population-words_with}
use Rattle.ordinal_set.proofs.set.OrdinalSet.insert.Goals as goal

pub invariant_of-self : goal.invariant_of-self
invariant_of-self c =
    let few = c.in_err-lengthen.ensures.few in
    fit_alike c.self.inside.words.items c.lengthen.new.words.items c.self.invariant c.in_err-lengthen.ensures.kept (omega (arith, c.lengthen.new.words.ok, c.self.inside.words.ok))

pub returns-in_err-lengthen-clause-err : goal.returns-in_err-lengthen-clause-err
returns-in_err-lengthen-clause-err c =
    let same = same_bits c.lengthen.new.words.items c.self.inside.words.items c.in_err-lengthen.ensures.kept in
    MatchResult-from_err c.from_residual.result (λ _. ⊤) (λ _. population_of c.lengthen.new.words.items ≡ c.args.self.now) c.from_residual.ensures.0 (λ _. same ∙ c.self.view_is)

pub returns-in_err-lengthen-clause-ordinals : goal.returns-in_err-lengthen-clause-ordinals
returns-in_err-lengthen-clause-ordinals c = ordinals-population c.lengthen.new.words.items (invariant_of-self c)

pub invariant_of-self-2 : goal.invariant_of-self-2
invariant_of-self-2 c =
    let few = c.in_ok-lengthen.ensures.few in
    let grown = c.lengthen.new.words.items in
    let o = c.args.ordinal in
    let fit : FitOrdinals grown =
    fit_alike c.self.inside.words.items grown c.self.invariant c.in_ok-lengthen.ensures.kept (omega (arith, c.lengthen.new.words.ok, c.self.inside.words.ok)) in
    let inside : o / 64 < length grown = omega (arith, c.lengthen.new.words.ok, c.in_ok-lengthen.ensures.reached) in
    let read = get_or_read grown (o / 64) c.index_mut.result.now inside c.index_mut.ensures.value 0 in
    subst
    (λ word. FitOrdinals (set grown (o / 64) (bit_or word (1 * 2 ^ (o % 64) % 2 ^ 64))))
    (sym read)
    (fit-words_with grown o fit c.requires inside)

pub returns-clause-ok : goal.returns-clause-ok
returns-clause-ok c =
    let grown = c.lengthen.new.words.items in
    let o = c.args.ordinal in
    let inside : o / 64 < length grown = omega (arith, c.lengthen.new.words.ok, c.in_ok-lengthen.ensures.reached) in
    let read = get_or_read grown (o / 64) c.index_mut.result.now inside c.index_mut.ensures.value 0 in
    ap (λ word. population_of (set grown (o / 64) (bit_or word (1 * 2 ^ (o % 64) % 2 ^ 64)))) read
    ∙ population-words_with grown o inside
    ∙ ap (λ members. with_ordinal o members) (same_bits grown c.self.inside.words.items c.in_ok-lengthen.ensures.kept ∙ c.self.view_is)

pub returns-clause-ordinals : goal.returns-clause-ordinals
returns-clause-ordinals c =
    let o = c.args.ordinal in
    ordinals-population (set c.lengthen.new.words.items (o / 64) (bit_or c.index_mut.result.now (1 * 2 ^ (o % 64) % 2 ^ 64))) (invariant_of-self-2 c)

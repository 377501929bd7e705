use Rattle.std.proofs.Common.{◌∙◌, ℕ, Option, Some, ap, get_or, refl, subst, sym}
use Rattle.std.proofs.lemmas.Option.{slice_get-get_or}
use Rattle.hol_answers.specs.declared.refusal.Refusal.{Refusal}
use Rattle.hol_answers.specs.declared.refusal.Refusal.TheVariants.{KeyTwice}
use Rattle.change_orders.specs.declared.keyed_records.KeyAt.{KeyAt}
use Rattle.change_orders.specs.Keys.{NamesTwo, TellsAgain}
use Rattle.change_orders.proofs.KeysOnce.{of_both, same_within}
use Rattle.change_orders.proofs.ReadRecords.{named_at}
use Rattle.change_orders.proofs.keyed_records.key_twice.Goals as goal

pub returns-in_ok-type_name-in-Some : goal.returns-in_ok-type_name-in-Some
returns-in_ok-type_name-in-Some c =
    let found = c.args.found.now in
    let first = c.in-Some.first in
    let second = c.in-Some.second in
    let told : TellsAgain found (Some (first, second)) = subst (λ (o : Option (ℕ × ℕ)). TellsAgain found o) c.in-Some.is c.in_ok-first.ensures in
    let within = same_within found first second told.1 in
    let x = c.index-found-first.result in
    let y = c.index-found-second.result in
    let at = slice_get-get_or found first x within.0 ∙ ap (λ (k : KeyAt). Some k) (sym c.index-found-first.is) in
    let too = slice_get-get_or found second y within.1 ∙ ap (λ (k : KeyAt). Some k) (sym c.index-found-second.is) in
    let why : Refusal = KeyTwice (record { type_name = c.in_ok-type_name-in-Some.type_name; first = (get_or found first x).place; second = y.place }) in
    let named : NamesTwo c.args.model.now x y why =
    (named_at c.args.model.now y.type_index c.schema.result.now c.in_ok-type_name-in-Some.type_name c.schema.ensures.value c.in_ok-type_name-in-Some.ensures, ap (λ (k : KeyAt). k.place) (sym c.index-found-first.is), refl) in
    ((first, second), told, of_both found first second x y (λ one other. NamesTwo c.args.model.now one other why) at too named)

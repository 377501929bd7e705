use Rattle.std.proofs.Common.{◌≡◌, ◌∙◌, sym, ap, refl, Some, None, inl, inr, get_or, []}
use Rattle.std.proofs.lemmas.Bool.{cases_lt, lt-ltb, ltb-true}
use Rattle.schema_model.specs.Parts.{name_index}
use Rattle.schema_model.proofs.Indexing.{stands_earlier as found_earlier, stands_first, name_missing}
use Rattle.model_rules.proofs.rules.stands_earlier.Goals as goal

pub returns-in-Some : goal.returns-in-Some
returns-in-Some c = λ names indexed inside same.
    let first = c.in-Some.first in
    let found : name_index names (get_or names c.args.type_index []) ≡ Some first =
    ap (name_index names) same ∙ sym (indexed c.args.name.now) ∙ sym c.find_name.ensures ∙ c.in-Some.is in (
      λ less. found_earlier names c.args.type_index first inside found (ltb-true first c.args.type_index less),
      λ stands. elim (cases_lt first c.args.type_index) [
        | inl less ↦ lt-ltb first c.args.type_index less
        | inr late ↦ absurd (stands_first names c.args.type_index first found late stands)
      ],
    )

pub returns-in-None : goal.returns-in-None
returns-in-None c = λ names indexed inside same.
    let missing : name_index names (get_or names c.args.type_index []) ≡ None =
    ap (name_index names) same ∙ sym (indexed c.args.name.now) ∙ sym c.find_name.ensures ∙ c.in-None.is in
    absurd (name_missing names (get_or names c.args.type_index []) missing c.args.type_index inside refl)

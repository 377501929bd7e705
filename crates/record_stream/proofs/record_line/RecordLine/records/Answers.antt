use Rattle.std.proofs.Common.{◌≡◌, ◌∙◌, ◌+◌, Some, drop, map, string_bytes, sym, ap, subst}
use Rattle.std.specs.Prelude.{slice_get}
use Rattle.std.proofs.lemmas.Option.{slice_get_within}
use Rattle.json.specs.Lex.{tokens}
use Rattle.json.specs.Token.{begin_object, key}
use Rattle.serde_json.specs.Data.{no_members}
use Rattle.serde_json.specs.Find.{get}
use Rattle.record_stream.specs.Holder.{records_name, word}
use Rattle.record_stream.specs.RecordLine.{AreOther, added_by, names_of}
use Rattle.record_stream.proofs.Entered.{sought_added}
use Rattle.record_stream.proofs.Named.{last_under, named_at, none_last, none_under}
use Rattle.record_stream.proofs.Whole.{line_adds}
use Rattle.record_stream.proofs.record_line.RecordLine.records.Goals as goal

pub enter_types-requires : goal.enter_types-requires
enter_types-requires c =
    let kept = c.self.invariant in
    let start = c.in_ok-reader.ensures.ok ∙ ap tokens c.as_str.ensures.value in
    let at = c.pass_opening.ensures begin_object (key (word c.self.inside.holder)) begin_object kept.held.inside (start ∙ kept.held.opened) in
    (kept.types, sought_added c.records_name.result.now (records_name c.self.inside.holder) c.pass_opening.new.reader kept.held.inside kept.types c.records_name.ensures at kept.held.added)

pub enter_type-requires : goal.enter_type-requires
enter_type-requires c =
    let kept = c.self.invariant in
    let start = c.in_ok-reader.ensures.ok ∙ ap tokens c.as_str.ensures.value in
    let at = c.pass_opening.ensures begin_object (key (word c.self.inside.holder)) begin_object kept.held.inside (start ∙ kept.held.opened) in
    let listed = c.enter_types.ensures kept.types (sought_added c.records_name.result.now (records_name c.self.inside.holder) c.pass_opening.new.reader kept.held.inside kept.types c.records_name.ensures at kept.held.added) in
    let names = ap (map string_bytes) c.as_slice.ensures.value ∙ kept.ordered in
    let there : slice_get (names_of kept.types) c.in-Some.place ≡ Some c.args.name.now = ap (λ ns. slice_get ns c.in-Some.place) (sym names) ∙ c.in-Some.ensures.0 in
    let typed = named_at c.args.name.now kept.types c.in-Some.place there in
    (kept.types, listed.0, listed.1, slice_get_within kept.types c.in-Some.place typed.0 typed.1)

pub returns : goal.returns
returns c =
    let kept = c.self.invariant in
    let name = c.args.name.now in
    let place = c.in-Some.place in
    let start = c.in_ok-reader.ensures.ok ∙ ap tokens c.as_str.ensures.value in
    let at = c.pass_opening.ensures begin_object (key (word c.self.inside.holder)) begin_object kept.held.inside (start ∙ kept.held.opened) in
    let listed = c.enter_types.ensures kept.types (sought_added c.records_name.result.now (records_name c.self.inside.holder) c.pass_opening.new.reader kept.held.inside kept.types c.records_name.ensures at kept.held.added) in
    let names = ap (map string_bytes) c.as_slice.ensures.value ∙ kept.ordered in
    let there : slice_get (names_of kept.types) place ≡ Some name = ap (λ ns. slice_get ns place) (sym names) ∙ c.in-Some.ensures.0 in
    let typed = named_at name kept.types place there in
    let ahead = c.enter_type.ensures kept.types listed.0 typed.0 listed.1 typed.1 in
    let adds = ap added_by (sym c.self.view_is) ∙ line_adds _ _ kept.version kept.tag kept.types kept.other kept.held in
    let other = subst (λ ns. AreOther name (drop (place + 1) ns)) names c.in-Some.ensures.1 in
    (typed.0.1, ahead.0, ap (get name) adds ∙ last_under name kept.types place typed.0 no_members typed.1 typed.2 other, ahead.1)

pub returns-in_default : goal.returns-in_default
returns-in_default c =
    let kept = c.self.invariant in
    let name = c.args.name.now in
    let names = ap (map string_bytes) c.as_slice.ensures.value ∙ kept.ordered in
    let adds = ap added_by (sym c.self.view_is) ∙ line_adds _ _ kept.version kept.tag kept.types kept.other kept.held in
    let other = subst (AreOther name) names (none_last name (map string_bytes c.as_slice.result.now) c.last_place.result c.in_default.not-Some c.last_place.ensures) in
    ap (get name) adds ∙ none_under name kept.types no_members other

use Rattle.std.proofs.Common.{◌∙◌, Some, sym, ap, subst}
use Rattle.std.specs.Option.{option_map}
use Rattle.json.specs.Lex.{tokens}
use Rattle.serde_json.specs.Data.{object}
use Rattle.serde_json.specs.View.{view}
use Rattle.serde_json.proofs.Views.{view-Object}
use Rattle.record_stream.specs.RecordLine.{IsHeld, holder_data}
use Rattle.record_stream.proofs.Whole.{held_found, line_adds, line_read}
use Rattle.record_stream.proofs.held.held_in.Goals as goal

pub invariant_of-records : goal.invariant_of-records
invariant_of-records c =
    let holder = c.args.holder in
    let found = c.in_ok-found.found in
    let had = c.in_ok-found.ensures in
    let arm = c.in-Some-Some-Some in
    let whole = held_found holder (tokens c.args.line.now) had.0 found arm.version arm.tag arm.types had.1 had.2 arm.is-0 arm.is-1 arm.is-2 in
    record {
      version = view arm.version;
      tag = view arm.tag;
      types = whole.0;
      other = option_map view found.other;
      held = subst (λ text. IsHeld holder (tokens text) (view arm.version) (view arm.tag) whole.0 (option_map view found.other)) (sym c.in_ok-from_str.ensures.ok) whole.1;
      named = view-Object arm.types.names ∙ ap object whole.2.once;
      ordered = whole.2.ordered;
    }

pub returns-clause-read : goal.returns-clause-read
returns-clause-read c =
    let holder = c.args.holder in
    let line = c.args.line.now in
    let found = c.in_ok-found.found in
    let had = c.in_ok-found.ensures in
    let arm = c.in-Some-Some-Some in
    let other = option_map view found.other in
    let whole = held_found holder (tokens line) had.0 found arm.version arm.tag arm.types had.1 had.2 arm.is-0 arm.is-1 arm.is-2 in
    line_read holder line (view arm.version) (view arm.tag) whole.0 other whole.1
    ∙ ap (λ add. Some (holder_data holder (view arm.version) (view arm.tag) add other)) (sym (line_adds holder line (view arm.version) (view arm.tag) whole.0 other whole.1))

pub returns-clause-types : goal.returns-clause-types
returns-clause-types c =
    let holder = c.args.holder in
    let line = c.args.line.now in
    let found = c.in_ok-found.found in
    let had = c.in_ok-found.ensures in
    let arm = c.in-Some-Some-Some in
    let whole = held_found holder (tokens line) had.0 found arm.version arm.tag arm.types had.1 had.2 arm.is-0 arm.is-1 arm.is-2 in
    (whole.0, line_adds holder line (view arm.version) (view arm.tag) whole.0 (option_map view found.other) whole.1)

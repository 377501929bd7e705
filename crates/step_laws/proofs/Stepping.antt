-- What is tried of a step passes where it leads a position to another one.
use Rattle.std.proofs.Common.{◌≡◌, ◌↔◌, ℕ, ℤ, List, length, refl, sym, ◌∙◌, subst}
use Rattle.std.specs.Prelude.{All}
use Rattle.schema_model.specs.declared.model.rule.Rule.TheVariants.{DuplicateName}
use Rattle.schema_model.specs.declared.model.walk_path.WalkPath.{WalkPath}
use Rattle.row_model.specs.Table.{IsClosed, Table}
use Rattle.type_state.specs.State.{Half}
use Rattle.type_state.specs.Views.{table_of}
use Rattle.blob_frame.specs.declared.header.Header.{Header}
use Rattle.blob_faults.specs.Judge.{◌>>=◌, nothing}
use Rattle.delta_blob.specs.declared.patch.PatchPart.{PatchPart}
use Rattle.delta_blob.proofs.GivenParts.{IsGivenPart, body_given}
use Rattle.delta_blob.proofs.NamedParts.{stands_of_model}
use Rattle.delta_blob.proofs.WholeDeltas.{joined}
use Rattle.read_engine.specs.Judged.{step_of}
use Rattle.read_engine.specs.Position.{Position, rows_now}
use Rattle.read_engine.specs.Taking.{StepsBy}
use Rattle.read_engine.specs.Walks.{KeepsWalks}
use Rattle.read_engine.proofs.TakenOrFault.{step_passes}
use Rattle.step_laws.specs.Leads.{LeadsTo}
use Rattle.step_laws.specs.Typed.{HasTypes}
use Rattle.step_laws.proofs.DecidedWalks.{walks_kept}
use Rattle.step_laws.proofs.MovedHalves.{halves_table, moved_halves, moved_long}
use Rattle.step_laws.proofs.MovedOnce.{moved_once}
use Rattle.step_laws.proofs.Passing.{IsDelta, LeadsOn, passed_delta, passed_state}
use Rattle.step_laws.proofs.SteppedParts as parts

-- ---- where it leads

module _ (blob : List ℕ) (from : Position) (typed : HasTypes from) (head : Header) (named : List PatchPart) (rows : Table) (delta : IsDelta blob from.tag from.schemas head named)
    (leads : LeadsOn from.schemas named (rows_now from) rows) where
  abbrev pub coming : List Half
  coming = moved_halves from.halves named leads.rows

  -- the walk indexes that it keeps
  abbrev kept : (walks : List WalkPath) × KeepsWalks from.schemas (table_of coming) from.walks walks
  kept = walks_kept from.schemas (table_of coming) from.walks

  -- the position behind the step
  abbrev pub to : Position
  to = record { tag = head.destination; schemas = from.schemas; halves = coming; before = rows_now from; indexes = from.indexes; walks = kept.0 }

  same : rows_now to ≡ rows
  same = halves_table from.halves named leads.rows ∙ sym leads.is

  new_closed : IsClosed from.schemas (rows_now to)
  new_closed = subst (IsClosed from.schemas) (sym (halves_table from.halves named leads.rows)) leads.closed

  given : All IsGivenPart delta.read.0
  given = body_given blob delta.start delta.read.0 (length blob) delta.read.1

  steps : StepsBy blob from to
  steps = record {
    patch = parts.patch from.schemas from.halves typed.types delta.read.0 named delta.read.2 given leads.rows leads.each;
    is = record {
      head = head;
      parts = delta.read.0;
      items = record { items = joined blob head delta.start delta.read.0 delta.begins delta.read.1; once = delta.read.2.once };
      from_tag = delta.origin;
      to_tag = refl;
      agree = delta.read.2.agree;
      sees = parts.is_patch from.schemas from.halves typed.types delta.read.0 named delta.read.2 given leads.rows leads.each;
    };
    fits = parts.fits_patch from.schemas from.halves typed.types delta.read.0 named delta.read.2 given leads.rows leads.each new_closed;
    moved = parts.moves_patch from.schemas from.halves typed.types delta.read.0 named delta.read.2 given leads.rows leads.each;
    within = parts.within_patch from.schemas from.halves typed.types delta.read.0 named delta.read.2 given leads.rows leads.each;
    items = λ k d inside. (delta.read.2.counts k d inside).items;
    short = delta.few;
    model = refl;
    types = moved_long from.halves named leads.rows;
    layouts = parts.layouts_of_patch from.schemas from.halves typed.types delta.read.0 named delta.read.2 given leads.rows leads.each;
    others = λ t inside none. parts.other_layouts from.schemas from.halves typed.types delta.read.0 named delta.read.2 given leads.rows leads.each t none;
    before = refl;
    indexes = refl;
    walks = kept.1;
  }

  pub leads_there : LeadsTo blob from head.destination rows
  leads_there = (to, steps, refl, same)

-- ---- both ways

module _ (blob : List ℕ) (from : Position) (typed : HasTypes from) (tag : ℤ) (rows : Table) where
  pub passed_step : (step_of blob from).Passes (tag, rows) → LeadsTo blob from tag rows
  unfolding step_of ◌>>=◌ nothing
  passed_step ((head, named), passes, (table, moved, is)) =
      let delta = passed_delta from.schemas typed.model blob from.tag head named passes in
      let there = leads_there blob from typed head named table delta (passed_state from.schemas named (length blob) (rows_now from) table moved) in
      let same : ◌≡◌ {A = ℤ × Table} (head.destination, table) (tag, rows) = sym is in
      subst (λ (v : ℤ × Table). LeadsTo blob from v.0 v.1) same there

  passing : (to : Position) → StepsBy blob from to → to.tag ≡ tag → rows_now to ≡ rows → (step_of blob from).Passes (tag, rows)
  passing to steps at are =
      let (n, begins, (named, read)) = stands_of_model from.schemas blob from.tag to.tag steps.patch (rows_now to) steps.is steps.within steps.items in
      let passes = step_passes blob n steps.is.head named from to (typed.model DuplicateName) read begins steps in
      let tags : steps.is.head.destination ≡ tag = steps.is.to_tag ∙ at in
      let tables : steps.fits.moved ≡ rows = moved_once steps.patch (rows_now from) steps.fits.moved (rows_now to) steps.fits.moves steps.moved ∙ are in
      let same : ◌≡◌ {A = ℤ × Table} (steps.is.head.destination, steps.fits.moved) (tag, rows) = λ i. (tags i, tables i) in
      subst (λ (v : ℤ × Table). (step_of blob from).Passes v) same passes

  pub passes_exactly : (step_of blob from).Passes (tag, rows) ↔ LeadsTo blob from tag rows
  passes_exactly = (passed_step, λ there. passing there.0 there.1 there.2 there.3)

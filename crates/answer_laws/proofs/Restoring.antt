-- The order `restore` has an answer.
use Rattle.std.proofs.Common.{◌≡◌, ◌<◌, ◌≤◌, ◌^◌, ◌∙◌, ℕ, List, [], Option, None, Some, inl, inr, refl, sym, ap, subst, arith}
use Rattle.std.specs.Prelude.{IsSome, IsSomeAnd, slice_get}
use Rattle.std.specs.Fmt.{decimal}
use Rattle.std.specs.FinMap.{get, keys}
use Rattle.std.specs.Option.{option_map}
use Rattle.std.proofs.lemmas.Bool.{cases_eq, cases_lt, cases_order}
use Rattle.std.proofs.lemmas.List.Elements.{All-contains}
use Rattle.std.proofs.lemmas.Option.{slice_get-get_or, slice_get-map, slice_get_within}
use Rattle.hol_io.specs.declared.name.BlobName.{BlobName}
use Rattle.hol_io.specs.declared.name.BlobName.TheVariants.{Announced, Snapshot}
use Rattle.hol_io.specs.Name.{IsVersion}
use Rattle.hol_io.specs.Store.{Store, told}
use Rattle.schema_model.specs.declared.reason.Reason.TheVariants.{BadAnnounced}
use Rattle.schema_model.specs.declared.schema.Schema.{Schema}
use Rattle.schema_model.specs.declared.schema.Shape.{Shape}
use Rattle.row_model.specs.declared.row.Row.{Row}
use Rattle.row_model.specs.Table.{IsLive, Table, row_at}
use Rattle.row_model.proofs.RowsFrom.{get_in}
use Rattle.type_rows.specs.Layout.{places_of}
use Rattle.type_state.specs.State.{Half}
use Rattle.type_rows.proofs.MoveFaults.{key_of_live}
use Rattle.type_rows.proofs.OnceFirst.{some_once}
use Rattle.blob_frame.specs.declared.fault.BlobFault.{BlobFault}
use Rattle.blob_frame.specs.declared.fault.BlobFault.TheVariants as fault
use Rattle.blob_faults.proofs.LeastNumber.{no_number}
use Rattle.snapshot_blob.specs.declared.part.TypePart.{TypePart}
use Rattle.snapshot_blob.specs.Stated.{KeepsTypeLimits, TypeIs}
use Rattle.delta_blob.proofs.Indexed.{zip_beside}
use Rattle.state_moves.proofs.Tables.{none_off, row_of}
use Rattle.read_engine.specs.Position.{Position, rows_now}
use Rattle.read_engine.specs.Taking.{LoadsFrom}
use Rattle.step_laws.specs.Typed.{HasTypes}
use Rattle.step_laws.proofs.Typing.{load_typed}
use Rattle.chain_store.specs.Announced.{Announces, IsNoVersion}
use Rattle.write_engine.specs.Agreement.{HoldsOnce}
use Rattle.write_engine.specs.Restoring.{AreEqualRows, HasDistinctRows, IsFirstDuplicate}
use Rattle.hol_answers.specs.declared.refusal.EqualRows.{EqualRows}
use Rattle.hol_answers.specs.declared.refusal.Refusal.{Refusal}
use Rattle.hol_answers.specs.declared.refusal.Refusal.TheVariants as refusal
use Rattle.hol_answers.specs.declared.reply.Reply.TheVariants as reply
use Rattle.hollow_machine.specs.Blobs.{SnapshotRefusal, TellsOf}
use Rattle.hollow_machine.specs.RestoreOrder.{IsLast, RestoreRefusal, producer_at, restore_form}
use Rattle.hollow_machine.specs.State.{Machine, with_producer}
use Rattle.answer_laws.specs.Answered.{IsAnsweredBy, IsSound}
use Rattle.answer_laws.proofs.Blobs.{loads_or_refused}
use Rattle.answer_laws.proofs.Deciding.{decide}

-- ---- equal rows

module _ (table : Table) (none : (t first second : ℕ) → IsFirstDuplicate table t first second → ⊥) where
  -- a type that has equal rows, of which the second one is this
  abbrev HasSecond : ℕ → ℕ → Type 0
  HasSecond t second = (first : ℕ) × AreEqualRows table t first second

  abbrev HasTwice : ℕ → Type 0
  HasTwice t = (second : ℕ) × HasSecond t second

  no_first_type : (t : ℕ) → HasTwice t → ((u : ℕ) → u < t → HasTwice u → ⊥) → ⊥
  no_first_type t twice before = no_number (HasSecond t) (λ second equal least. none t equal.0 second record {
    here = record { equal = equal.1; least = λ a b other. elim (cases_lt b second) [ inl less ↦ absurd (least b less (a, other)) | inr after ↦ after ] };
    earlier = λ u less a b other. before u less (b, (a, other));
  }) twice.0 twice.1

  -- where no two equal rows are the first, no two are equal
  all_distinct : (t : ℕ) → HasDistinctRows table t
  all_distinct t first second equal = no_number HasTwice no_first_type t (second, (first, equal))

  once : (t a b : ℕ) (row : Row) → row_at table t a ≡ Some row → row_at table t b ≡ Some row → a ≡ b
  once t a b row at_a at_b = elim (cases_order a b) [
    | inl same ↦ same
    | inr (inl less) ↦ absurd (all_distinct t a b (row, less, at_a, at_b))
    | inr (inr more) ↦ absurd (all_distinct t b a (row, more, at_b, at_a))
  ]

  pub holds_once : ((t ordinal : ℕ) → IsLive table t ordinal → ordinal < 2 ^ 22) → HoldsOnce table
  holds_once low = record {
    once = λ t a b row at_a at_b. once t a b row (sym (get_in table t a) ∙ at_a) (sym (get_in table t b) ∙ at_b);
    low = λ t ordinal live. low t ordinal (subst IsSome (get_in table t ordinal) live);
  }

-- ---- the rows of a snapshot

-- each ordinal of rows that are loaded is low
loaded_low : (blob : List ℕ) (position : Position) → LoadsFrom blob position → (t ordinal : ℕ) → IsLive (rows_now position) t ordinal → ordinal < 2 ^ 22
loaded_low blob position (head, (parts, is, kept), tag, before, bare, unwalked) t ordinal live = by_half (slice_get position.halves t) refl
  where
    by_half : (found : Option Half) → slice_get position.halves t ≡ found → ordinal < 2 ^ 22
    by_half None none =
        absurd (none_off (rows_now position) t ordinal (slice_get-map (λ (h : Half). h.rows) position.halves t ∙ ap (option_map (λ (h : Half). h.rows)) none) live)
    by_half (Some half) at =
        let (part, at_part, here) = zip_beside TypeIs parts position.halves t half is.state.types at in
        let (other, at_other, keeps) = zip_beside KeepsTypeLimits parts position.halves t half kept.types at in
        let same : other ≡ part = some_once other part (sym at_other ∙ at_part) in
        let few : places_of part.section.max ≤ 2 ^ 22 = subst (λ (p : TypePart). places_of p.section.max ≤ 2 ^ 22) same keeps.counts.ordinals in
        let row : row_at (rows_now position) t ordinal ≡ get half.rows ordinal =
        row_of (rows_now position) t ordinal half.rows (slice_get-map (λ (h : Half). h.rows) position.halves t ∙ ap (option_map (λ (h : Half). h.rows)) at) in
        let placed = All-contains (λ o. o < places_of part.section.max) (keys half.rows) ordinal here.held.places (key_of_live half.rows ordinal (subst IsSome row live)) in
        omega (arith, placed, few)

-- the type of a row that is there has a schema
schema_at : (position : Position) → HasTypes position → (t ordinal : ℕ) (row : Row) → row_at (rows_now position) t ordinal ≡ Some row → (schema : Schema) × (slice_get position.schemas t ≡ Some schema)
schema_at position typed t ordinal row is = by_half (slice_get position.halves t) refl
  where
    some : Schema
    some = record { name = []; shape = Shape.Set [] }

    by_half : (found : Option Half) → slice_get position.halves t ≡ found → (schema : Schema) × (slice_get position.schemas t ≡ Some schema)
    by_half None none =
        absurd (none_off (rows_now position) t ordinal (slice_get-map (λ (h : Half). h.rows) position.halves t ∙ ap (option_map (λ (h : Half). h.rows)) none) (subst IsSome (sym is) refl))
    by_half (Some half) at = (_, slice_get-get_or position.schemas t some (omega (arith, slice_get_within position.halves t half at, typed.types)))

-- ---- the order

-- no fault of a blob is that two rows are equal
no_duplicate : (name : BlobName) (found : BlobFault) (rows : EqualRows) → TellsOf name found (refusal.DuplicateRow rows) → ⊥
no_duplicate name (fault.NoBlob other) rows is = cc
no_duplicate name (fault.Large limit) rows is = cc
no_duplicate name (fault.Bad at reason) rows is = cc
no_duplicate name (fault.BadRow at reason of ordinal) rows is = cc
no_duplicate name (fault.OtherOrigin origin current) rows is = cc
no_duplicate name (fault.OtherModel of) rows is = cc
no_duplicate name fault.Store rows is = cc
no_duplicate name fault.Memory rows is = cc

-- a snapshot that is refused
not_loaded : (store : Store) (version : ℕ) (told_of : Refusal) → IsLast store version → SnapshotRefusal (Snapshot version) (told (Some store) (Snapshot version)) told_of → RestoreRefusal store version told_of
not_loaded store version (refusal.DuplicateRow rows) last (found, fails, is) = absurd (no_duplicate (Snapshot version) found rows is)
not_loaded store version _ last refuses = inr (last, refuses)

module _ (machine : Machine) (sound : IsSound machine) (version : ℕ) where
  abbrev content : Option (List ℕ)
  content = told (Some machine.store) Announced

  -- of the announced version
  of_last : IsLast machine.store version → IsAnsweredBy restore_form machine version
  of_last last none =
      loads_or_refused (Snapshot version) (told (Some machine.store) (Snapshot version)) (sound.bytes (Snapshot version))
      (λ blob position there loads. decide ((t : ℕ) × (first : ℕ) × (second : ℕ) × IsFirstDuplicate (rows_now position) t first second) (λ either. elim either [
        | inl found ↦
            let equal = found.3.here.equal in
            let schema = schema_at position (load_typed blob position loads) found.0 found.1 equal.0 equal.2 in
            let rows : EqualRows = record { type_name = schema.0.name; first = found.1; second = found.2 } in
            let named = subst (λ (o : Option Schema). IsSomeAnd o (λ s. s.name ≡ schema.0.name)) (sym schema.1) refl in
            none (reply.Refused (refusal.DuplicateRow rows)) machine ((last, (position, (blob, there, loads), (found.0, named, found.3))), refl)
        | inr never ↦
            none (reply.Restore position.tag version) (with_producer machine (Some (producer_at position version)))
            (refl, last, (position, (blob, there, loads), holds_once (rows_now position) (λ t first second is. never (t, first, second, is)) (loaded_low blob position loads), refl, refl))
      ]))
      (λ refused tells. none (reply.Refused refused) machine (not_loaded machine.store version refused last tells, refl))

  of_content : (found : Option (List ℕ)) → content ≡ found → IsAnsweredBy restore_form machine version
  of_content None is none = none (reply.Refused (refusal.NoBlob Announced)) machine (inl (refl, is), refl)
  of_content (Some bytes) is none = decide ((number : ℕ) × IsVersion number × (decimal number ≡ bytes)) (λ either. elim either [
    | inl (number, in_range, spelled) ↦
        let last : IsLast machine.store number = record {
          there = λ empty. (let clash : Some bytes ≡ None = sym is ∙ empty in absurd cc);
          announced = subst (λ (c : Option (List ℕ)). Announces c number) (sym is) (in_range, spelled);
        } in
        elim (cases_eq number version) [
          | inl same ↦ of_last (subst (IsLast machine.store) same last) none
          | inr other ↦ none (reply.Refused (refusal.NotLast number)) machine (inl (last, other), refl)
        ]
    | inr never ↦
        let bad = subst (λ (c : Option (List ℕ)). IsNoVersion c) (sym is) (λ number in_range spelled. never (number, in_range, spelled)) in
        none (reply.Refused (refusal.BadBlob (record { blob = Announced; at = 0; reason = BadAnnounced; row = None }))) machine (inl (bad, refl, refl, refl, refl), refl)
  ])

pub restore_answered : (machine : Machine) → IsSound machine → (version : ℕ) → IsAnsweredBy restore_form machine version
restore_answered machine sound version = of_content machine sound version (told (Some machine.store) Announced) refl

-- What is tried of the types of a snapshot, one thing after another.
use Rattle.std.proofs.Common.{◌≡◌, ◌⊎◌, ◌∙◌, ◌++◌, ℕ, List, [], ◌∷◌, Option, Some, Result, Err, length, map, slice_get, sym, ap, subst, inl, inr, refl}
use Rattle.std.specs.Prelude.{◌≢◌, MatchResult}
use Rattle.std.specs.List.{All, AllZip}
use Rattle.std.proofs.lemmas.List.{length-map}
use Rattle.schema_model.specs.declared.limit.Limit.TheVariants.{Words, Bytes}
use Rattle.schema_model.specs.declared.reason.Reason.TheVariants.{Dangling as dangles}
use Rattle.schema_model.specs.declared.schema.name.Name.{Name}
use Rattle.schema_model.specs.declared.schema.Schema.{Schema}
use Rattle.schema_model.specs.Model.{IsModel}
use Rattle.closed_rows.specs.declared.dangling.Dangling.{Dangling}
use Rattle.closed_rows.specs.Dangling.{TellsDangling}
use Rattle.row_model.specs.Table.{RowMap, Table, IsClosed}
use Rattle.type_rows.specs.declared.fault.RowFault.{RowFault}
use Rattle.type_rows.specs.declared.section.Section.{Section}
use Rattle.type_rows.specs.LoadFault.{FailsLoad}
use Rattle.type_state.specs.State.{Half, State}
use Rattle.type_state.specs.Views.{next_halves, table_of}
use Rattle.blob_frame.specs.declared.fault.BlobFault.{BlobFault}
use Rattle.blob_frame.specs.declared.fault.BlobFault.TheVariants as fault
use Rattle.blob_faults.specs.Blame.{row_blame}
use Rattle.blob_faults.specs.Judge.{Blames, Judge, ◌>>=◌, each_of, nothing, test}
use Rattle.blob_faults.specs.Models.{are_model}
use Rattle.blob_faults.specs.Rows.{closed, counts, loads}
use Rattle.blob_faults.proofs.EachOf.{all_pass, each_fails, each_passes}
use Rattle.snapshot_blob.specs.declared.part.TypePart.{TypePart}
use Rattle.snapshot_blob.specs.Judged.{offsets_of, types_of}
use Rattle.snapshot_blob.specs.Stated.{AreAccepted, CanStand, IsLoadedFrom, IsStateFault, IsWant, KeepsCounts, KeepsTypeLimits, LoadsPart, TypeIs, schemas_of}
use Rattle.snapshot_blob.proofs.Zipped.{zip_first, zip_right}

-- ---- single trials

-- limits that are kept pass
counts_pass : (part : TypePart) → KeepsCounts part → (counts part.section.max part.section.total).Passes tt
unfolding counts ◌>>=◌ test
counts_pass part keeps = (tt, keeps.ordinals, keeps.items)

-- and limits that pass are kept
pub counts_kept : (part : TypePart) → (counts part.section.max part.section.total).Passes tt → KeepsCounts part
unfolding counts ◌>>=◌ test
counts_kept part passed = record { ordinals = passed.1; items = passed.2 }

-- types that keep the limits pass, one after the other
pub all_counts : (parts : List TypePart) → All KeepsCounts parts → (each_of (λ (part : TypePart). counts part.section.max part.section.total) parts).Passes (map (λ part. tt) parts)
all_counts parts = all_pass (λ (part : TypePart). counts part.section.max part.section.total) tt KeepsCounts counts_pass parts

rows_pass : (part : TypePart) (rows : RowMap) → LoadsPart part rows → (loads part.at part.schema part.section).Passes rows
unfolding loads
rows_pass part rows load = load

-- types whose rows load pass, one after the other
pub all_rows : (parts : List TypePart) (table : Table) → AllZip LoadsPart parts table → (each_of (λ (part : TypePart). loads part.at part.schema part.section) parts).Passes table
all_rows parts table = each_passes (λ (part : TypePart). loads part.at part.schema part.section) LoadsPart rows_pass parts table

-- the rows of the types that were loaded
loaded_rows : (parts : List TypePart) (states : List State) → AllZip IsLoadedFrom parts states → AllZip LoadsPart parts (table_of (next_halves states))
loaded_rows parts states loaded =
    let HalfLoads : TypePart → Half → Type 0 = λ part half. LoadsPart part half.rows in
    let halves : AllZip HalfLoads parts (next_halves states) = zip_right IsLoadedFrom IsLoadedFrom HalfLoads (λ state. state.other) (λ part state one also. one.loads) parts states loaded loaded in
    zip_right HalfLoads HalfLoads LoadsPart (λ half. half.rows) (λ part half one also. one) parts (next_halves states) halves halves

-- ---- one after another

module _ (parts : List TypePart) (first : BlobFault) where
  pub fails_model : (are_model (offsets_of parts) (schemas_of parts)).Fails first → (types_of parts).Fails first
  unfolding types_of ◌>>=◌
  fails_model fails = inl fails

  pub fails_counts : IsModel (schemas_of parts) → (each_of (λ (part : TypePart). counts part.section.max part.section.total) parts).Fails first → (types_of parts).Fails first
  unfolding types_of ◌>>=◌ are_model
  fails_counts model fails = inr (tt, model, inl fails)

  pub fails_rows : IsModel (schemas_of parts) → All KeepsCounts parts → (each_of (λ (part : TypePart). loads part.at part.schema part.section) parts).Fails first → (types_of parts).Fails first
  unfolding types_of ◌>>=◌ are_model
  fails_rows model keeps fails = inr (tt, model, inr (map (λ part. tt) parts, all_counts parts keeps, inl fails))

  pub fails_closed : (table : Table) → IsModel (schemas_of parts) → All KeepsCounts parts → AllZip LoadsPart parts table → (closed (offsets_of parts) (schemas_of parts) table).Fails first → (types_of parts).Fails first
  unfolding types_of ◌>>=◌ are_model
  fails_closed table model keeps load fails = inr (tt, model, inr (map (λ part. tt) parts, all_counts parts keeps, inr (table, all_rows parts table load, inl fails)))

-- the parts of a state within the limits pass, with its rows
pub accepted_pass : (parts : List TypePart) (schemas : List Schema) (halves : List Half) → AreAccepted parts schemas halves → (types_of parts).Passes (table_of halves)
unfolding types_of ◌>>=◌ are_model closed nothing
accepted_pass parts schemas halves accepted =
    let model : IsModel (schemas_of parts) = subst IsModel (sym accepted.0.named) accepted.0.model in
    let keeps : All KeepsCounts parts = zip_first KeepsTypeLimits KeepsCounts (λ part half kept. kept.counts) parts halves accepted.1 in
    let load : AllZip LoadsPart parts (table_of halves) =
    zip_right TypeIs KeepsTypeLimits LoadsPart (λ half. half.rows) (λ part half is kept. record { is = is.rows; held = is.held; within = kept.kept }) parts halves accepted.0.types accepted.1 in
    let live : IsClosed (schemas_of parts) (table_of halves) = subst (λ (s : List Schema). IsClosed s (table_of halves)) (sym accepted.0.named) accepted.0.closed in
    (tt, model, (map (λ part. tt) parts, all_counts parts keeps, (table_of halves, all_rows parts (table_of halves) load, (tt, live, refl))))

-- ---- answers

-- a fault of one trial is one of another that fails with it
pub blames_too : {V W : Type 0} (one : Judge V) (whole : Judge W) (Free Other : BlobFault → Type 0) → ((first : BlobFault) → one.Fails first → whole.Fails first) → ((found : BlobFault) → Free found → Other found)
    → (found : BlobFault) → Blames one Free found → Blames whole Other found
blames_too one whole Free Other fails frees found (inl own) = inl (fails found own)
blames_too one whole Free Other fails frees found (inr free) = inr (frees found free)

wants_too : {V W : Type 0} (one : Judge V) (whole : Judge W) → ((first : BlobFault) → one.Fails first → whole.Fails first) → (found : BlobFault) → Blames one IsWant found → Blames whole IsWant found
wants_too one whole fails = blames_too one whole IsWant IsWant fails (λ found want. want)

-- what is told of a fault is told of an answer that is it
pub told_fault : {T : Type 0} (P : T → Type 0) (Q : BlobFault → Type 0) (answer : Result T BlobFault) (found : BlobFault) → answer ≡ Err found → Q found → MatchResult answer P Q
told_fault {T} P Q answer found is tells = subst (λ (a : Result T BlobFault). MatchResult a P Q) (sym is) tells

-- a fault of the rows of a type, or want of memory in its place, is one of its trial
pub row_blames : (at : ℕ) (schema : Schema) (section : Section) (name : Name) (why : RowFault) (found : BlobFault) → name ≡ schema.name → FailsLoad schema.shape section why
    → (found ≡ row_blame at name why) ⊎ (found ≡ fault.Memory) → Blames (loads at schema section) IsWant found
unfolding loads
row_blames at schema section name why found named fails (inr is) = inr (subst IsWant (sym is) tt)
row_blames at schema section name RowFault.Memory found named fails (inl is) = inr (subst IsWant (sym is) tt)
row_blames at schema section name (RowFault.At reason ordinal) found named fails (inl is) =
    inl (RowFault.At reason ordinal, (λ e. absurd cc), fails, is ∙ ap (λ (n : Name). fault.BadRow at reason n ordinal) named)
row_blames at schema section name (RowFault.Limit limit) found named fails (inl is) = inl (RowFault.Limit limit, (λ e. absurd cc), fails, is)

-- a fault of the trial of one type, behind those that were loaded, is one of all
pub type_blames : (parts before : List TypePart) (part : TypePart) (behind : List TypePart) (states : List State) (found : BlobFault) → before ++ part ∷ behind ≡ parts → AllZip IsLoadedFrom before states
    → Blames (loads part.at part.schema part.section) IsWant found → Blames (each_of (λ (part : TypePart). loads part.at part.schema part.section) parts) IsWant found
type_blames parts before part behind states found are loaded =
    wants_too (loads part.at part.schema part.section) (each_of (λ (part : TypePart). loads part.at part.schema part.section) parts)
    (λ first fails. subst (λ (ps : List TypePart). (each_of (λ (part : TypePart). loads part.at part.schema part.section) ps).Fails first) are
    (each_fails (λ (part : TypePart). loads part.at part.schema part.section) before (table_of (next_halves states)) part behind first
    (all_rows before (table_of (next_halves states)) (loaded_rows before states loaded)) fails)) found

-- the first row that names an ordinal which is not live is at fault
pub row_fails : (offsets : List ℕ) (schemas : List Schema) (table : Table) (row : Dangling) (at ordinal : ℕ) (schema : Schema) (name : Name) → TellsDangling schemas table (Some row)
    → slice_get offsets row.type_index ≡ Some at → slice_get schemas row.type_index ≡ Some schema → name ≡ schema.name → ordinal ≡ row.ordinal
    → (closed offsets schemas table).Fails (fault.BadRow at dangles name ordinal)
unfolding closed
row_fails offsets schemas table row at ordinal schema name tells place of named under = (row, tells, (at, schema, place, of, (λ i. fault.BadRow at dangles (named i) (under i))))

-- what a search tells of some rows it tells of the same rows
pub told_row : (schemas others : List Schema) (table other : Table) (answer : Option Dangling) (row : Dangling) → schemas ≡ others → table ≡ other → answer ≡ Some row → TellsDangling schemas table answer
    → TellsDangling others other (Some row)
told_row schemas others table other answer row named rows is tells =
    subst (λ (o : Option Dangling). TellsDangling others other o) is
    (subst (λ (t : Table). TellsDangling others t answer) rows (subst (λ (ss : List Schema). TellsDangling ss table answer) named tells))

-- ---- the parts, where they are lent

module _ (parts lent : List TypePart) (are : lent ≡ parts) (found : BlobFault) where
  pub model_blames : (CanStand (schemas_of lent) → Blames (are_model (offsets_of lent) (schemas_of lent)) IsWant found) → CanStand (schemas_of parts) → Blames (types_of parts) IsWant found
  model_blames blamed can =
      wants_too (are_model (offsets_of parts) (schemas_of parts)) (types_of parts) (λ first. fails_model parts first) found
      (subst (λ (ps : List TypePart). CanStand (schemas_of ps) → Blames (are_model (offsets_of ps) (schemas_of ps)) IsWant found) are blamed can)

  pub counts_blame : (schemas : List Schema) → schemas ≡ schemas_of parts → IsModel schemas → (each_of (λ (part : TypePart). counts part.section.max part.section.total) lent).Fails found
      → Blames (types_of parts) IsWant found
  counts_blame schemas named model fails =
      inl (fails_counts parts found (subst IsModel named model) (subst (λ (ps : List TypePart). (each_of (λ (part : TypePart). counts part.section.max part.section.total) ps).Fails found) are fails))

module _ (parts : List TypePart) (schemas : List Schema) (named : schemas ≡ schemas_of parts) (model : IsModel schemas) (keeps : All KeepsCounts parts) (found : BlobFault) where
  pub rows_blame : Blames (each_of (λ (part : TypePart). loads part.at part.schema part.section) parts) IsWant found → Blames (types_of parts) IsWant found
  rows_blame = wants_too (each_of (λ (part : TypePart). loads part.at part.schema part.section) parts) (types_of parts)
      (λ first. fails_rows parts first (subst IsModel named model) keeps) found

  pub closed_blames : (offsets : List ℕ) (states : List State) → offsets ≡ offsets_of parts → AllZip IsLoadedFrom parts states
      → Blames (closed offsets schemas (table_of (next_halves states))) IsWant found → Blames (types_of parts) IsWant found
  closed_blames offsets states placed loaded blamed =
      let table = table_of (next_halves states) in
      wants_too (closed (offsets_of parts) (schemas_of parts) table) (types_of parts)
      (λ first. fails_closed parts first table (subst IsModel named model) keeps (loaded_rows parts states loaded)) found
      (subst (λ (os : List ℕ). Blames (closed os (schemas_of parts) table) IsWant found) placed (subst (λ (ss : List Schema). Blames (closed offsets ss table) IsWant found) named blamed))

-- there is an offset for each schema
pub as_long : (parts : List TypePart) (schemas : List Schema) (offsets : List ℕ) → schemas ≡ schemas_of parts → offsets ≡ offsets_of parts → length offsets ≡ length schemas
as_long parts schemas offsets named placed =
    ap length placed ∙ length-map parts (λ (part : TypePart). part.at) ∙ sym (ap length named ∙ length-map parts (λ (part : TypePart). part.schema))

-- ---- kinds of faults

-- want of memory is a fault of a state
want_kind : (found : BlobFault) → IsWant found → IsStateFault found
want_kind fault.Memory want = tt
want_kind _ want = absurd want

-- the faults of a trial are those of a state
pub blames_kind : {V : Type 0} (judge : Judge V) → ((first : BlobFault) → judge.Fails first → IsStateFault first) → (found : BlobFault) → Blames judge IsWant found → IsStateFault found
blames_kind judge kind found (inl fails) = kind found fails
blames_kind judge kind found (inr want) = want_kind found want

-- of the same trial of each
each_kind : {A B : Type 0} (f : A → Judge B) → ((x : A) (first : BlobFault) → (f x).Fails first → IsStateFault first) → (xs : List A) (first : BlobFault) → (each_of f xs).Fails first → IsStateFault first
unfolding each_of ◌>>=◌ nothing
each_kind f kind [] first fails = absurd fails
each_kind f kind (x ∷ xs) first (inl fails) = kind x first fails
each_kind f kind (x ∷ xs) first (inr (y, passed, inl fails)) = each_kind f kind xs first fails
each_kind f kind (x ∷ xs) first (inr (y, passed, inr never)) = absurd never.2

count_kind : (part : TypePart) (first : BlobFault) → (counts part.section.max part.section.total).Fails first → IsStateFault first
unfolding counts ◌>>=◌ test
count_kind part first (inl fails) = subst IsStateFault (sym fails.1) tt
count_kind part first (inr fails) = subst IsStateFault (sym fails.2.1) tt

row_kind : (part : TypePart) (why : RowFault) → why ≢ RowFault.Memory → FailsLoad part.schema.shape part.section why → IsStateFault (row_blame part.at part.schema.name why)
row_kind part (RowFault.At reason ordinal) some fails = tt
row_kind part (RowFault.Limit Words) some fails = tt
row_kind part (RowFault.Limit Bytes) some fails = tt
row_kind part (RowFault.Limit _) some fails = absurd fails
row_kind part RowFault.Memory some fails = absurd (some refl)

rows_kind : (part : TypePart) (first : BlobFault) → (loads part.at part.schema part.section).Fails first → IsStateFault first
unfolding loads
rows_kind part first fails = subst IsStateFault (sym fails.3) (row_kind part fails.0 fails.1 fails.2)

-- of the limits on ordinals and items
pub all_counts_kind : (parts : List TypePart) (first : BlobFault) → (each_of (λ (part : TypePart). counts part.section.max part.section.total) parts).Fails first → IsStateFault first
all_counts_kind parts = each_kind (λ (part : TypePart). counts part.section.max part.section.total) count_kind parts

-- of the rows
pub all_rows_kind : (parts : List TypePart) (first : BlobFault) → (each_of (λ (part : TypePart). loads part.at part.schema part.section) parts).Fails first → IsStateFault first
all_rows_kind parts = each_kind (λ (part : TypePart). loads part.at part.schema part.section) rows_kind parts

-- of their closedness
pub closed_kind : (offsets : List ℕ) (schemas : List Schema) (table : Table) (first : BlobFault) → (closed offsets schemas table).Fails first → IsStateFault first
unfolding closed
closed_kind offsets schemas table first fails = subst IsStateFault (sym fails.2.4) tt

-- A blob that passes all that is tried of a snapshot is one within the limits, so that bytes are one or have a fault.
use Rattle.std.proofs.Common.{◌≡◌, ℕ, List, [], ◌∷◌, length, refl, sym, ap, subst}
use Rattle.std.specs.List.{AllZip}
use Rattle.schema_model.specs.declared.schema.Schema.{Schema}
use Rattle.row_model.specs.Table.{IsClosed, Table}
use Rattle.type_rows.specs.Loads.{layout_of}
use Rattle.type_state.specs.State.{Half}
use Rattle.type_state.specs.Views.{table_of}
use Rattle.blob_grammar.specs.Decided.{AreBytes}
use Rattle.blob_frame.specs.declared.fault.BlobFault.{BlobFault}
use Rattle.blob_frame.specs.declared.header.Header.{Header}
use Rattle.blob_faults.specs.Judge.{◌>>=◌, each_of, nothing, test}
use Rattle.blob_faults.specs.Models.{are_model}
use Rattle.blob_faults.specs.Reading.{short, standing}
use Rattle.blob_faults.specs.Rows.{closed, counts, loads}
use Rattle.snapshot_blob.specs.declared.part.TypePart.{TypePart}
use Rattle.snapshot_blob.specs.Judged.{snapshot_of, types_of}
use Rattle.snapshot_blob.specs.Parts.{snapshot}
use Rattle.snapshot_blob.specs.Snapshot.{IsAccepted}
use Rattle.snapshot_blob.specs.Stated.{KeepsTypeLimits, TypeIs, schemas_of}
use Rattle.snapshot_blob.proofs.Items.{snapshot_ends}
use Rattle.snapshot_blob.proofs.SettledSnapshot.{settles_snapshot}
use Rattle.snapshot_blob.proofs.Trials.{counts_kept}

-- the types with their rows, each at its own layout
halves_of : List TypePart → Table → List Half
halves_of (part ∷ parts) (rows ∷ table) = record { layout = layout_of part.section; rows = rows } ∷ halves_of parts table
halves_of _ _ = []

-- Types have these rows, and keep their limits.
record HaveRows (parts : List TypePart) (table : Table) : Type 0 where
  are : AllZip TypeIs parts (halves_of parts table)
  kept : AllZip KeepsTypeLimits parts (halves_of parts table)
  rows : table_of (halves_of parts table) ≡ table

have_rows : (parts : List TypePart) (done : List Unit) (table : Table) → (each_of (λ (part : TypePart). counts part.section.max part.section.total) parts).Passes done
    → (each_of (λ (part : TypePart). loads part.at part.schema part.section) parts).Passes table → HaveRows parts table
unfolding each_of ◌>>=◌ nothing loads halves_of
have_rows [] done table counted loaded = record { are = tt; kept = tt; rows = sym loaded }
have_rows (part ∷ parts) done table (u, few, (rest, counted, same)) (rows, load, (others, loaded, is)) =
    let behind = have_rows parts rest others counted loaded in
    subst (HaveRows (part ∷ parts)) (sym is) record {
      are = (record { layout = refl; rows = load.is; held = load.held }, behind.are);
      kept = (record { counts = counts_kept part few; kept = load.within }, behind.kept);
      rows = ap (λ (t : Table). rows ∷ t) behind.rows;
    }

pub passes_accepted : (blob : List ℕ) (head : Header) (table : Table) → (snapshot_of blob).Passes (head, table) → (schemas : List Schema) × (halves : List Half) × IsAccepted blob head schemas halves
unfolding snapshot_of types_of ◌>>=◌ short test standing are_model closed nothing
passes_accepted blob head table (u, few, (found, stands, (rows, (v, model, (done, counted, (loaded, load, (w, closes, is)))), same))) =
    let parts = found.0.1 in
    let heads : found.0.0 ≡ head = ap (λ (x : Header × Table). x.0) (sym same) in
    let have = have_rows parts done loaded counted load in
    let there = subst (λ (n : ℕ). snapshot.Stands blob 0 found.0 n) (snapshot_ends blob found.0 found.1 stands) stands in (
      schemas_of parts,
      halves_of parts loaded,
      (
        parts,
        record {
          items = subst (λ (h : Header). snapshot.Stands blob 0 (h, parts) (length blob)) heads there;
          state = record { named = refl; model = model; types = have.are; closed = subst (IsClosed (schemas_of parts)) (sym have.rows) closes };
        },
        record { short = few; types = have.kept },
      ),
    )

pub some_fault : (blob : List ℕ) → AreBytes blob → ((head : Header) (schemas : List Schema) (halves : List Half) → IsAccepted blob head schemas halves → ⊥)
    → ((fault : BlobFault) → (snapshot_of blob).Fails fault → ⊥) → ⊥
some_fault blob bytes none no_fault =
    settles_snapshot blob bytes (λ found passes. let (schemas, halves, accepted) = passes_accepted blob found.0 found.1 passes in none found.0 schemas halves accepted) no_fault

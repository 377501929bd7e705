-- The row that is computed of a place is the one that it spells, and the rows of a section are those that it spells.
use Rattle.std.proofs.Common.{◌≡◌, ℕ, ◌+◌, List, [], ◌∷◌, Option, refl, sym, ap, ◌∙◌, arith}
use Rattle.std.specs.Ordering.{eq_by_cmp, nat_cmp}
use Rattle.std.specs.List.{IsDistinct}
use Rattle.std.specs.List.Sorted.{IsPermutation}
use Rattle.std.specs.FinMap.{from_entries}
use Rattle.std.proofs.lemmas.List.Sorted.{All-permutation, IsPermutation-map, IsPermutation-sym, IsPermutation-trans, length_permutation}
use Rattle.std.proofs.lemmas.Map.Keys.{IsDistinct-from_sorted, IsDistinct-IsPermutation, sorted_from_strictly_increasing, below_from_sorted}
use Rattle.std.specs.Cmp.{nat_cmp_total, eq_by_cmp_equiv}
use Rattle.schema_model.specs.declared.schema.Field.{Field}
use Rattle.schema_model.specs.declared.schema.Shape.{Shape}
use Rattle.row_model.specs.declared.row.Value.{Value}
use Rattle.row_model.specs.declared.row.Row.{Row}
use Rattle.row_model.specs.Row.{Rises}
use Rattle.object_codec.specs.Part.{FieldPart}
use Rattle.object_codec.specs.ObjectPlace.{SpellsFields, parts_of}
use Rattle.bucket_codec.specs.Run.{Bucket, IsPairInRange, keys_of, taken_of, SpellsRun}
use Rattle.bucket_codec.specs.BucketPlace.{SpellsPairs, run_at}
use Rattle.bucket_codec.proofs.PlaceRows.{row_once}
use Rattle.type_rows.specs.Loads.{Spells}
use Rattle.type_rows.specs.declared.section.Section.{Section}
use Rattle.type_rows.specs.Rows.{pairs_at, pairs_in, row_in, values_in}
use Rattle.type_rows.proofs.Keyed.{entries_permute, entries_rise}
use Rattle.type_rows.proofs.Values.{value_given}

fields_in : (fields : List Field) (parts : List FieldPart) (values : List Value) → SpellsFields fields parts values → values_in fields parts ≡ values
fields_in [] [] [] h = refl
fields_in (field ∷ fields) (part ∷ parts) (value ∷ values) h =
    ap (λ v. v ∷ values_in fields parts) (value_given field.kind part value h.0) ∙ ap (λ vs. value ∷ vs) (fields_in fields parts values h.1)
fields_in _ _ _ h = absurd h

-- Keys that rise differ.
pub rising_differ : (ks : List ℕ) → Rises ks → IsDistinct (eq_by_cmp nat_cmp) ks
rising_differ ks rises = IsDistinct-from_sorted nat_cmp ks (sorted_from_strictly_increasing ks (λ k below. rises k (k + 1) 0 (omega arith) below))

-- The keys of the taken buckets of a run that spells a set or map differ.
pub keys_differ : (run : List Bucket) (pairs : List (ℕ × ℕ)) → SpellsRun run pairs → IsDistinct (eq_by_cmp nat_cmp) (keys_of (taken_of run))
keys_differ run pairs h = IsDistinct-IsPermutation (eq_by_cmp nat_cmp) (eq_by_cmp_equiv nat_cmp_total).symm (keys_of pairs) (keys_of (taken_of run))
    (IsPermutation-map (λ p. p.0) pairs (taken_of run) (IsPermutation-sym (taken_of run) pairs h.same)) (rising_differ (keys_of pairs) h.rises)

-- The pairs that are computed rise by key, and where the keys differ they are those of the taken buckets.
pub pairs_rise : (run : List Bucket) → Rises (keys_of (pairs_in run))
unfolding pairs_in
pairs_rise run i j d less below = below_from_sorted _ i j d (entries_rise (from_entries (taken_of run))) less below

pub taken_permute : (run : List Bucket) → IsDistinct (eq_by_cmp nat_cmp) (keys_of (taken_of run)) → IsPermutation (taken_of run) (pairs_in run)
unfolding pairs_in
taken_permute run differ = entries_permute (taken_of run) differ

-- A run that spells a set or map spells that of its taken buckets by rising key.
run_again : (run : List Bucket) (pairs : List (ℕ × ℕ)) → SpellsRun run pairs → SpellsRun run (pairs_in run)
run_again run pairs h =
    let made = taken_permute run (keys_differ run pairs h) in
    record {
      power = h.power;
      room = h.room;
      reached = h.reached;
      rises = pairs_rise run;
      same = made;
      ranges = All-permutation IsPairInRange pairs (pairs_in run) (IsPermutation-trans pairs (taken_of run) (pairs_in run) (IsPermutation-sym (taken_of run) pairs h.same) made) h.ranges;
    }

pub place_again : (section : Section) (place : ℕ) (pairs : List (ℕ × ℕ)) → SpellsPairs section.widths section.total section.first section.second place pairs
    → SpellsPairs section.widths section.total section.first section.second place (pairs_at section place)
place_again section place pairs h =
    let run = run_at section.widths section.first section.second place in
    let again = run_again run pairs h.run in
    record { span = h.span; run = again; sized = h.sized ∙ length_permutation (taken_of run) pairs h.run.same ∙ sym (length_permutation (taken_of run) (pairs_in run) again.same) }

object_in : (key : Option (List (List ℕ))) (fields : List Field) (section : Section) (place : ℕ) (row : Row) → Spells (Shape.Object key fields) section place row → row_in (Shape.Object key fields) section place ≡ row
object_in key fields section place (Row.Object values) h = ap Row.Object (fields_in fields (parts_of section.widths section.first section.areas place) values h)
object_in key fields section place _ h = absurd h

list_in : (element : List ℕ) (section : Section) (place : ℕ) (row : Row) → Spells (Shape.List element) section place row → row_in (Shape.List element) section place ≡ row
list_in element section place (Row.List ordinals) h = ap Row.List (sym h.are)
list_in element section place _ h = absurd h

set_in : (element : List ℕ) (section : Section) (place : ℕ) (row : Row) → Spells (Shape.Set element) section place row → row_in (Shape.Set element) section place ≡ row
set_in element section place row h =
    row_once (Shape.Set element) section.widths section.total section.first section.second place (Row.Set (keys_of (pairs_at section place))) row (pairs_at section place, refl, place_again section place h.0 h.2) h

map_in : (key value : List ℕ) (section : Section) (place : ℕ) (row : Row) → Spells (Shape.Map key value) section place row → row_in (Shape.Map key value) section place ≡ row
map_in key value section place row h =
    row_once (Shape.Map key value) section.widths section.total section.first section.second place (Row.Map (pairs_at section place)) row (pairs_at section place, refl, place_again section place h.0 h.2) h

pub spelled : (shape : Shape) (section : Section) (place : ℕ) (row : Row) → Spells shape section place row → row_in shape section place ≡ row
spelled (Shape.Object key fields) section place row h = object_in key fields section place row h
spelled (Shape.List element) section place row h = list_in element section place row h
spelled (Shape.Set element) section place row h = set_in element section place row h
spelled (Shape.Map key value) section place row h = map_in key value section place row h

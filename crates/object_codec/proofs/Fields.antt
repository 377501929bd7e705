-- Lemmas on the walk along the fields of a record: what is left to read decides what the place spells.
use Rattle.std.proofs.Common.{◌≡◌, ℕ, ◌+◌, ◌<◌, ◌≤◌, List, [], ◌∷◌, ◌++◌, length, take, drop, get_or, arith, ap, sym, refl, ◌∙◌, subst, add-one, append_assoc, append-nil, inl, inr, ◌⊎◌}
use Rattle.std.specs.Prelude.{sum, Err}
use Rattle.std.proofs.Math.Seq.{drop-cons}
use Rattle.std.proofs.lemmas.List.{drop_all}
use Rattle.std.proofs.lemmas.Option.{unwrap_or-slice_get}
use Rattle.std.proofs.lemmas.List.Sums.{sum_by_more}
use Rattle.row_model.specs.Areas.{area_of}
use Rattle.schema_model.specs.declared.schema.Field.{Field}
use Rattle.row_model.specs.declared.row.Value.{Value}
use Rattle.schema_model.specs.declared.reason.Reason.{Reason}
use Rattle.row_model.specs.declared.packed.PlaceFault.{PlaceFault}
use Rattle.object_codec.specs.Part.{SpellsValue, FailsValue, TellsValue}
use Rattle.object_codec.specs.ObjectPlace.{part_at, parts_from, SpellsFields, FirstFails, SpellsObject, FailsObject, HoldsPlace, TellsObject}
use Rattle.object_codec.proofs.FieldWidths.{widths_long}

-- the values of the fields below an index are read, and the rest decides
pub record Progress (fields : List Field) (widths first : List ℕ) (areas : List (List ℕ)) (place index before : ℕ) (values : List Value) : Type 0 where
  pub summed : before ≡ sum (take index widths)
  pub spells : (rest : List Value) → SpellsFields (drop index fields) (parts_from first (sum widths) place before (drop index widths) (drop index areas)) rest
      → SpellsObject fields widths first areas place (values ++ rest)
  pub fails : (reason : Reason) → FirstFails (drop index fields) (parts_from first (sum widths) place before (drop index widths) (drop index areas)) reason
      → FailsObject fields widths first areas place reason

-- what the fields, widths and areas from an index on begin with
record Heads (fields : List Field) (widths : List ℕ) (areas : List (List ℕ)) (index : ℕ) (field : Field) : Type 0 where
  field_first : drop index fields ≡ field ∷ drop (index + 1) fields
  width_first : drop index widths ≡ get_or widths index 0 ∷ drop (index + 1) widths
  area_first : drop index areas ≡ area_of areas index ∷ drop (index + 1) areas

drop_first : {A : Type 0} (xs : List A) (i : ℕ) (d x : A) → i < length xs → x ≡ get_or xs i d → drop i xs ≡ x ∷ drop (i + 1) xs
drop_first xs i d x inside is = rw (add-one, is) (drop-cons xs i d inside)

heads : (fields : List Field) (widths first : List ℕ) (areas : List (List ℕ)) (place index : ℕ) (field : Field) → HoldsPlace fields widths first areas place
    → index < length fields → field ≡ get_or fields index field → Heads fields widths areas index field
heads fields widths first areas place index field holds inside is =
    record {
      field_first = drop_first fields index field field inside is;
      width_first = drop_first widths index 0 (get_or widths index 0) (omega (arith, widths_long fields widths first areas place holds)) refl;
      area_first = drop_first areas index [] (area_of areas index) (omega (arith, holds.filled)) (unwrap_or-slice_get areas index []);
    }

spells_next : (first : List ℕ) (size place before width : ℕ) (area : List ℕ) (fields rest_fields : List Field) (widths rest_widths : List ℕ) (areas rest_areas : List (List ℕ)) (field : Field) (value : Value) (rest : List Value)
    → fields ≡ field ∷ rest_fields → widths ≡ width ∷ rest_widths → areas ≡ area ∷ rest_areas
    → SpellsValue field.kind (part_at first size place before width area) value
    → SpellsFields rest_fields (parts_from first size place (before + width) rest_widths rest_areas) rest
    → SpellsFields fields (parts_from first size place before widths areas) (value ∷ rest)
spells_next first size place before width area fields rest_fields widths rest_widths areas rest_areas field value rest f w a here behind =
    rw (f, w, a) (here, behind)

fails_next : (first : List ℕ) (size place before width : ℕ) (area : List ℕ) (fields rest_fields : List Field) (widths rest_widths : List ℕ) (areas rest_areas : List (List ℕ)) (field : Field) (reason : Reason)
    → fields ≡ field ∷ rest_fields → widths ≡ width ∷ rest_widths → areas ≡ area ∷ rest_areas
    → FailsValue field.kind (part_at first size place before width area) reason ⊎ (((value : Value) × SpellsValue field.kind (part_at first size place before width area) value)
    × FirstFails rest_fields (parts_from first size place (before + width) rest_widths rest_areas) reason)
    → FirstFails fields (parts_from first size place before widths areas) reason
fails_next first size place before width area fields rest_fields widths rest_widths areas rest_areas field reason f w a h =
    rw (f, w, a) h

-- one value more is read
pub stepped : (fields : List Field) (widths first : List ℕ) (areas : List (List ℕ)) (size place index before : ℕ) (values : List Value) (field : Field) (value : Value)
    → HoldsPlace fields widths first areas place → index < length fields → field ≡ get_or fields index field → size ≡ sum widths
    → Progress fields widths first areas place index before values
    → SpellsValue field.kind (part_at first size place before (get_or widths index 0) (area_of areas index)) value
    → Progress fields widths first areas place (index + 1) (before + get_or widths index 0) (values ++ value ∷ [])
stepped fields widths first areas size place index before values field value holds inside is whole done there =
    let h = heads fields widths first areas place index field holds inside is in
    let here = subst (λ bits. SpellsValue field.kind (part_at first bits place before (get_or widths index 0) (area_of areas index)) value) whole there in
    record {
      summed = ap (λ n. n + get_or widths index 0) done.summed
          ∙ sym (sum_by_more (λ width. width) widths index 0 (omega (arith, widths_long fields widths first areas place holds)));
      spells = λ rest behind.
          subst (λ all. SpellsObject fields widths first areas place all) (sym (append_assoc values (value ∷ []) rest))
          (done.spells (value ∷ rest)
          (spells_next first (sum widths) place before (get_or widths index 0) (area_of areas index) (drop index fields) (drop (index + 1) fields)
          (drop index widths) (drop (index + 1) widths) (drop index areas) (drop (index + 1) areas) field value rest
          h.field_first h.width_first h.area_first here behind));
      fails = λ reason behind.
          done.fails reason
          (fails_next first (sum widths) place before (get_or widths index 0) (area_of areas index) (drop index fields) (drop (index + 1) fields)
          (drop index widths) (drop (index + 1) widths) (drop index areas) (drop (index + 1) areas) field reason
          h.field_first h.width_first h.area_first (inr ((value, here), behind)));
    }

-- what the reader of a value tells where it gives none
pub failed : (fields : List Field) (widths first : List ℕ) (areas : List (List ℕ)) (size place index before : ℕ) (values : List Value) (field : Field) (fault : PlaceFault)
    → HoldsPlace fields widths first areas place → index < length fields → field ≡ get_or fields index field → size ≡ sum widths
    → Progress fields widths first areas place index before values
    → TellsValue field.kind (part_at first size place before (get_or widths index 0) (area_of areas index)) (Err fault)
    → TellsObject fields widths first areas place (Err fault)
failed fields widths first areas size place index before values field PlaceFault.Memory holds inside is whole done there = tt
failed fields widths first areas size place index before values field (PlaceFault.Bad reason) holds inside is whole done there =
    let h = heads fields widths first areas place index field holds inside is in
    let here = subst (λ bits. FailsValue field.kind (part_at first bits place before (get_or widths index 0) (area_of areas index)) reason) whole there in
    done.fails reason
    (fails_next first (sum widths) place before (get_or widths index 0) (area_of areas index) (drop index fields) (drop (index + 1) fields)
    (drop index widths) (drop (index + 1) widths) (drop index areas) (drop (index + 1) areas) field reason
    h.field_first h.width_first h.area_first (inl here))

nothing_left : (first : List ℕ) (size place before : ℕ) (fields : List Field) (widths : List ℕ) (areas : List (List ℕ))
    → fields ≡ [] → widths ≡ [] → SpellsFields fields (parts_from first size place before widths areas) []
nothing_left first size place before fields widths areas f w = rw (f, w) tt

-- all values are read
pub finished : (fields : List Field) (widths first : List ℕ) (areas : List (List ℕ)) (place index before : ℕ) (values : List Value)
    → HoldsPlace fields widths first areas place → length fields ≤ index → Progress fields widths first areas place index before values
    → SpellsObject fields widths first areas place values
finished fields widths first areas place index before values holds past done =
    subst (λ all. SpellsObject fields widths first areas place all) (append-nil values)
    (done.spells []
    (nothing_left first (sum widths) place before (drop index fields) (drop index widths) (drop index areas)
    (drop_all index fields past)
    (drop_all index widths (omega (arith, widths_long fields widths first areas place holds)))))

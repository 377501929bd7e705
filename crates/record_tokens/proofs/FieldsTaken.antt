-- The fields of a record, each read into its slot from the members, in whatever order these stand.
use Rattle.std.proofs.Common.{◌≡◌, ◌∙◌, ℕ, zero, suc, ◌-◌, ◌≤◌, List, [], ◌∷◌, length, map, replicate, set, Some, None, Result, Ok, Err, true, refl, sym, ap, subst, arith}
use Rattle.std.specs.Prelude.{All, Contains, slice_get}
use Rattle.std.specs.List.{AllZip}
use Rattle.std.proofs.lemmas.Bool.{cond-true}
use Rattle.std.proofs.lemmas.List.Elements.{All-head, All-tail, Contains-get_or}
use Rattle.std.proofs.lemmas.Option.{get_or_from_slice_get, slice_get_within}
use Rattle.std.proofs.lemmas.Slice.Zip.{AllZip-long}
use Rattle.json.specs.Token.{Token}
use Rattle.json.specs.Json.{members, read_key, value}
use Rattle.json.proofs.Found.{Some_inj}
use Rattle.json.proofs.Grammar.{read_key-shorter}
use Rattle.serde_json.specs.Data.{Data, Members, no_members, object as object_data, put}
use Rattle.serde_json.specs.Find.{get_member}
use Rattle.serde_json.specs.Read.{converted, of_members}
use Rattle.serde_json.proofs.Views.{get_member-put, get_member-put_other}
use Rattle.schema_model.specs.declared.reason.Reason.{Reason}
use Rattle.schema_model.specs.declared.reason.Reason.TheVariants.{UnknownField}
use Rattle.schema_model.specs.declared.schema.Field.{Field}
use Rattle.schema_model.specs.declared.schema.name.Name.{Name}
use Rattle.schema_model.specs.Parts.{field_names}
use Rattle.row_model.specs.declared.row.Value.{Value}
use Rattle.record_trees.specs.declared.tree.Tree.{Tree}
use Rattle.record_trees.specs.Tree.{plain}
use Rattle.row_model.specs.PlainTree.{PlainTree, leaf, object, trees_of_list}
use Rattle.record_json.specs.ReadTree.{are_fields, is_field, made, read_field, read_fields, read_members, read_present}
use Rattle.record_json.proofs.FieldsBack.{is_own, put_known}
use Rattle.record_stream.proofs.Converted.{member_read, members_over}
use Rattle.record_stream.proofs.Listed.{value_shorter}
use Rattle.record_json.specs.NamesApart.{AreNamesApart}
use Rattle.record_tokens.specs.Taken.{Takes, TakesMembers}
use Rattle.record_tokens.proofs.ItemsTaken.{before_both}

-- ---- slots with nothing in them

pub nulls_plain : (count : ℕ) → plain Tree.Null ≡ leaf Value.Null → map plain (replicate count Tree.Null) ≡ replicate count (leaf Value.Null)
nulls_plain zero shown = refl
nulls_plain (suc count) shown = λ i. shown i ∷ nulls_plain count shown i

-- ---- the field at a place

at_place : (P : List ℕ → Type 0) (fields : List Field) (place : ℕ) (field : Field) → All P (field_names fields) → slice_get fields place ≡ Some field → P field.name
at_place P [] place field all at = absurd cc
at_place P (f ∷ fields) zero field all at = subst (λ (g : Field). P g.name) (Some_inj f field at) (All-head P f.name (field_names fields) all)
at_place P (f ∷ fields) (suc place) field all at = at_place P fields place field (All-tail P f.name (field_names fields) all) at

own_name : (fields : List Field) (place : ℕ) (field : Field) → slice_get fields place ≡ Some field → is_field fields field.name ≡ true
own_name fields place field at =
    is_own fields field (subst (Contains fields) (get_or_from_slice_get fields place field field at) (Contains-get_or fields place field (slice_get_within fields place field at)))

module _ (follow : Name → Data → Result PlainTree Reason) where
  -- ---- the slots, a member more

  abbrev Gives : Members → Field → PlainTree → Type 0
  Gives parts field tree = read_field follow field.kind (get_member field.name parts) ≡ Ok tree

  -- Each slot has what its field is read as from the members so far, of which each is a field.
  pub record WasTaken (fields : List Field) (parts : Members) (found : List PlainTree) : Type 0 where
    pub known : are_fields fields parts ≡ true
    pub gave : AllZip (Gives parts) fields found

  none_gave : (fields : List Field) → AllZip (Gives no_members) fields (replicate (length fields) (leaf Value.Null))
  none_gave [] = tt
  none_gave (f ∷ fields) = (refl, none_gave fields)

  others_gave : (fields : List Field) (found : List PlainTree) (name : List ℕ) (parts : Members) (json : Data) → All (λ other. name ≡ other → ⊥) (field_names fields) → AllZip (Gives parts) fields found
      → AllZip (Gives (put name json parts)) fields found
  others_gave [] [] name parts json apart all = tt
  others_gave [] (t ∷ found) name parts json apart all = absurd all
  others_gave (f ∷ fields) [] name parts json apart all = absurd all
  others_gave (f ∷ fields) (t ∷ found) name parts json apart all = (
    ap (read_field follow f.kind) (get_member-put_other f.name name json parts (λ same. All-head (λ other. name ≡ other → ⊥) f.name (field_names fields) apart (sym same))) ∙ all.0,
    others_gave fields found name parts json (All-tail (λ other. name ≡ other → ⊥) f.name (field_names fields) apart) all.1,
  )

  slot_set : (fields : List Field) (found : List PlainTree) (place : ℕ) (field : Field) (parts : Members) (json : Data) (tree : PlainTree) → AreNamesApart (field_names fields) → slice_get fields place ≡ Some field
      → AllZip (Gives parts) fields found → read_present follow field.kind json ≡ Ok tree → AllZip (Gives (put field.name json parts)) fields (set found place tree)
  slot_set [] found place field parts json tree apart at all gives = absurd cc
  slot_set (f ∷ fields) [] place field parts json tree apart at all gives = absurd all
  slot_set (f ∷ fields) (t ∷ found) zero field parts json tree apart at all gives =
      let same : f ≡ field = Some_inj f field at in (
        ap (λ (g : Field). read_field follow g.kind (get_member g.name (put field.name json parts))) same ∙ (ap (read_field follow field.kind) (get_member-put field.name json parts) ∙ gives),
        others_gave fields found field.name parts json (subst (λ (g : Field). All (λ other. g.name ≡ other → ⊥) (field_names fields)) same apart.0) all.1,
      )
  slot_set (f ∷ fields) (t ∷ found) (suc place) field parts json tree apart at all gives = (
    ap (read_field follow f.kind) (get_member-put_other f.name field.name json parts (at_place (λ other. f.name ≡ other → ⊥) fields place field apart.0 at)) ∙ all.0,
    slot_set fields found place field parts json tree apart.1 at all.1 gives,
  )

  -- ---- all of them

  fields_read : (fields : List Field) (parts : Members) (found : List PlainTree) → AllZip (Gives parts) fields found → read_fields follow fields (object_data parts) ≡ Ok found
  fields_read [] parts [] all = refl
  fields_read [] parts (t ∷ found) all = absurd all
  fields_read (f ∷ fields) parts [] all = absurd all
  fields_read (f ∷ fields) parts (t ∷ found) all =
      before_both (read_field follow f.kind (get_member f.name parts)) (read_fields follow fields (object_data parts)) t found all.0 (fields_read fields parts found all.1)

  whole_taken : (fields : List Field) (parts : Members) (found : List PlainTree) → WasTaken fields parts found → read_members follow fields parts ≡ Ok (object (trees_of_list found))
  whole_taken fields parts found taken =
      cond-true (are_fields fields parts) (made (λ trees. object (trees_of_list trees)) (read_fields follow fields (object_data parts))) (Err UnknownField) taken.known
      ∙ ap (made (λ trees. object (trees_of_list trees))) (fields_read fields parts found taken.gave)

  -- ---- the members, a turn at a time

  -- The slots have what the members that were passed give, and the others are ahead.
  pub record AreBeingTaken (nest : ℕ) (fields : List Field) (start now : List Token) (found : List PlainTree) : Type 0 where
    pub turns : ℕ
    pub enough : length now ≤ turns
    pub shorter : length now ≤ length start
    pub parts : Members
    pub so_far : converted (λ ms. of_members ms no_members) (members (value nest) (length start) start) ≡ converted (λ ms. of_members ms parts) (members (value nest) turns now)
    pub taken : WasTaken fields parts found

  pub members_first : (nest : ℕ) (fields : List Field) (start : List Token) → AreBeingTaken nest fields start start (replicate (length fields) (leaf Value.Null))
  members_first nest fields start = record {
    turns = length start;
    enough = omega arith;
    shorter = omega arith;
    parts = no_members;
    so_far = refl;
    taken = record { known = refl; gave = none_gave fields };
  }

  pub member_more : (nest : ℕ) (fields : List Field) (start now inside later : List Token) (found : List PlainTree) (place : ℕ) (name : List ℕ) (field : Field) (tree : PlainTree) → AreNamesApart (field_names fields)
      → AreBeingTaken nest fields start now found → read_key now ≡ Some (Some name, inside) → slice_get fields place ≡ Some field → field.name ≡ name → Takes (read_present follow field.kind) nest inside tree later
      → AreBeingTaken nest fields start later (set found place tree)
  member_more nest fields start now inside later found place name field tree apart so_far key at named (json, is, gives) =
      let p = value nest in
      let less = value_shorter nest inside later json is in
      let lesser = read_key-shorter now (Some name) inside key in
      record {
        turns = so_far.turns - 1;
        enough = omega (arith, less, lesser, so_far.enough);
        shorter = omega (arith, less, lesser, so_far.shorter);
        parts = put field.name json so_far.parts;
        so_far = so_far.so_far ∙ member_read p so_far.parts so_far.turns name now inside later json (omega (arith, lesser, so_far.enough)) key is
            ∙ ap (λ n. converted (λ ms. of_members ms (put n json so_far.parts)) (members p (so_far.turns - 1) later)) (sym named);
        taken = record {
          known = put_known fields field.name json so_far.parts (own_name fields place field at) so_far.taken.known;
          gave = slot_set fields found place field so_far.parts json tree apart at so_far.taken.gave gives;
        };
      }

  pub members_end : (nest : ℕ) (fields : List Field) (start now rest : List Token) (found : List PlainTree) → AreBeingTaken nest fields start now found → read_key now ≡ Some (None, rest)
      → TakesMembers (read_members follow fields) nest start (object (trees_of_list found)) rest
  members_end nest fields start now rest found so_far over = (
    so_far.parts,
    so_far.so_far ∙ members_over (value nest) so_far.parts so_far.turns now rest so_far.enough over,
    whole_taken fields so_far.parts found so_far.taken,
  )

  pub slots_long : (nest : ℕ) (fields : List Field) (start now : List Token) (found : List PlainTree) → AreBeingTaken nest fields start now found → length fields ≡ length found
  slots_long nest fields start now found so_far = sym (AllZip-long (Gives so_far.parts) fields found so_far.taken.gave)

-- A patch whose types agree with a model moves a table that is quiet for the model to one that is so too.
use Rattle.std.proofs.Common.{◌≡◌, ◌∙◌, ◌⊎◌, ℕ, ℤ, suc, List, [], ◌∷◌, length, Some, inl, inr, arith, refl, subst, sym, ap, slice_get}
use Rattle.std.specs.Prelude.{All, Contains}
use Rattle.std.specs.FinMap.{get}
use Rattle.std.proofs.lemmas.Bool.{cases_eq}
use Rattle.std.proofs.lemmas.List.Elements.{All-cons, All-nil}
use Rattle.std.proofs.lemmas.Option.{same_Some, slice_get-get_or, slice_get_within}
use Rattle.schema_model.specs.declared.model.rule.Rule.TheVariants.{DuplicateName}
use Rattle.schema_model.specs.declared.schema.Schema.{Schema}
use Rattle.schema_model.specs.Growth.{Agree}
use Rattle.schema_model.specs.Model.{IsModel}
use Rattle.schema_growth.proofs.Growths.{shapes_agree_back}
use Rattle.row_model.specs.BothStates.{rows_in}
use Rattle.row_model.specs.Table.{IsTableOf, RowMap, Table, row_at}
use Rattle.row_model.proofs.RowsFrom.{get_in}
use Rattle.delta_blob.specs.declared.part.DeltaPart.{DeltaPart}
use Rattle.delta_blob.specs.Moved.{IsUnnamed, Moved}
use Rattle.delta_blob.specs.Patch.{AgreesWith, DeltaIs, NamesOwn, PartIs, TypePatch, parts_for}
use Rattle.delta_blob.proofs.Indexed.{one_index, zip_beside}
use Rattle.delta_blob.proofs.Meant.{all_at}
use Rattle.delta_blob.proofs.OwnParts.{all_own_there}
use Rattle.written_laws.specs.Quiet.{IsQuietTable}
use Rattle.written_laws.proofs.QuietRows.{row_agrees}

-- the patch names a type, or does not
named_or_none : (patch : List TypePatch) (t : ℕ) → ((k : ℕ) × (named : TypePatch) × (slice_get patch k ≡ Some named) × (named.type_index ≡ t)) ⊎ IsUnnamed patch t
named_or_none [] t = inr (All-nil (λ named. named.type_index ≡ t → ⊥))
named_or_none (named ∷ patch) t =
    elim (cases_eq named.type_index t) [
      | inl here ↦ inl (0, named, refl, here)
      | inr apart ↦ elim (named_or_none patch t) [
        | inl there ↦ inl (suc there.0, there.1, there.2, there.3)
        | inr none ↦ inr (All-cons (λ n. n.type_index ≡ t → ⊥) named patch apart none)
      ]
    ]

-- a schema of a model is the one of its name
own_schema : (own : List Schema) → IsModel own → (stated schema : Schema) (t : ℕ) → Contains own stated → slice_get own t ≡ Some schema → stated.name ≡ schema.name → stated ≡ schema
own_schema own model stated schema t (j, within, is) at name =
    let stands : slice_get own j ≡ Some stated = slice_get-get_or own j stated within ∙ ap Some is in
    let place : j ≡ t = one_index own (model DuplicateName) j t stated schema stands at name in
    same_Some stated schema (sym stands ∙ ap (slice_get own) place ∙ at)

module _ (own mine : List Schema) (model : IsModel own) (blob : List ℕ) (origin destination : ℤ) (patch : List TypePatch) (is : DeltaIs own blob origin destination patch) (owned : NamesOwn own is.parts)
    (agree : All (AgreesWith mine) is.parts) where
  -- The part of a type that the patch names: it is the model's, and agrees.
  record IsNamedPart (t : ℕ) (schema : Schema) : Type 0 where
    part : DeltaPart
    schema_is : part.schema ≡ schema
    agrees : AgreesWith mine part

  named_part : (k t : ℕ) (named : TypePatch) (schema : Schema) → slice_get patch k ≡ Some named → named.type_index ≡ t → slice_get own t ≡ Some schema → IsNamedPart t schema
  named_part k t named schema at index at_own =
      let (part, among, of) = zip_beside (PartIs own) (parts_for own is.parts) patch k named is.sees at in
      let at_part : slice_get is.parts k ≡ Some part = ap (λ (ps : List DeltaPart). slice_get ps k) (sym (all_own_there own is.parts owned)) ∙ among in
      let both : named.schema ≡ schema = same_Some named.schema schema (sym of.means.stands ∙ ap (slice_get own) index ∙ at_own) in
      record {
        part = part;
        schema_is =
            own_schema own model part.schema schema t (all_at (λ (p : DeltaPart). Contains own p.schema) is.parts k part owned at_part) at_own
            (sym of.means.named ∙ ap (λ (s : Schema). s.name) both);
        agrees = all_at (AgreesWith mine) is.parts k part agree at_part;
      }

  -- a type that the patch names agrees
  named_agrees : (k t u : ℕ) (named : TypePatch) (schema other : Schema) → slice_get patch k ≡ Some named → named.type_index ≡ t → slice_get own t ≡ Some schema → slice_get mine u ≡ Some other
      → schema.name ≡ other.name → Agree schema other
  named_agrees k t u named schema other at index at_own at_mine name =
      let part = named_part k t named schema at index at_own in
      let its : Agree other part.part.schema = all_at (λ (m : Schema). m.name ≡ part.part.schema.name → Agree m part.part.schema) mine u other part.agrees at_mine
      (sym name ∙ ap (λ (s : Schema). s.name) (sym part.schema_is)) in
      shapes_agree_back other.shape schema.shape (subst (λ (s : Schema). Agree other s) part.schema_is its)

  pub quiet_moved : (old new : Table) → length old ≡ length own → Moved patch old new → IsTableOf own new → IsQuietTable mine own old → IsQuietTable mine own new
  quiet_moved old new types moved fits quiet t u ordinal schema other row at at_mine named found =
      elim (named_or_none patch t) [
        | inl there ↦
            row_agrees schema.shape other.shape row (fits.rows t ordinal schema row at found) (named_agrees there.0 t u there.1 schema other there.2 there.3 at at_mine named)
        | inr unnamed ↦
            let inside = slice_get_within own t schema at in
            let kept : rows_in new t ≡ rows_in old t = moved.others t (omega (arith, inside, types)) unnamed in
            let stood : row_at old t ordinal ≡ Some row = sym (get_in old t ordinal) ∙ ap (λ (rows : RowMap). get rows ordinal) (sym kept) ∙ get_in new t ordinal ∙ found in
            quiet t u ordinal schema other row at at_mine named stood
      ]

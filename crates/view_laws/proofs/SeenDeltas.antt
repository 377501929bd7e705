-- A delta of one model for a consumer with another one that agrees: it leads from what is seen of the old state to what is seen of the new one.
use Rattle.std.proofs.Common.{◌≡◌, ℕ, zero, suc, ℤ, ◌<◌, ◌≤◌, List, [], ◌∷◌, Option, None, Some, cond, get_or, is_some, length, map, option_map, refl, slice_get, slice_index_or, sym, ap, subst, ◌∙◌, arith}
use Rattle.std.specs.Prelude.{All, Contains, unwrap_or}
use Rattle.std.specs.FinMap.{empty}
use Rattle.std.specs.List.{AllZip, cons_option}
use Rattle.std.specs.Option.{option_map_or}
use Rattle.std.specs.Ordering.{nat_cmp}
use Rattle.std.proofs.lemmas.List.{length-map}
use Rattle.std.proofs.lemmas.List.Elements.{All-cons, All-head, All-nil, All-tail, All-filter}
use Rattle.std.proofs.lemmas.Option.{get_or_from_slice_get, same_Some, slice_get-get_or, slice_get-map, slice_get_within}
use Rattle.schema_model.specs.declared.model.rule.Rule.TheVariants.{DuplicateName}
use Rattle.schema_model.specs.declared.schema.Schema.{Schema}
use Rattle.schema_model.specs.declared.schema.Shape.{Shape}
use Rattle.schema_model.specs.Growth.{Agree, ModelsAgree, ShapesAgree}
use Rattle.schema_model.specs.Model.{IsModel}
use Rattle.schema_model.specs.Parts.{index_of_type, type_names}
use Rattle.schema_model.proofs.ModelFacts.{index_at}
use Rattle.schema_growth.proofs.Growths.{fields_apart, models_agree_back}
use Rattle.row_model.specs.declared.row.Row.{Row}
use Rattle.row_model.specs.BothStates.{rows_in}
use Rattle.row_model.specs.Table.{IsClosed, IsTableOf, RowMap, Table}
use Rattle.row_model.specs.View.{seen_map, seen_row, seen_type, view}
use Rattle.row_model.specs.Row.{FitsShape}
use Rattle.row_model.proofs.RowsFrom.{get_in}
use Rattle.schema_model.specs.declared.limit.Limit.TheVariants.{Items, Ordinals}
use Rattle.schema_model.specs.Limit.{number_of_limit}
use Rattle.type_rows.specs.Layout.{Layout, places_of}
use Rattle.type_rows.specs.Holds.{Holds, KeepsLimits}
use Rattle.type_rows.specs.Patches.{FitsOrdinals, MovesRows, places_in}
use Rattle.packed_half.proofs.RowPlaces.{all_values}
use Rattle.seen_patches.specs.Patch.{AddsSeen, layout_for, own_for, widths_of}
use Rattle.seen_patches.specs.Spelling.{SpellsSeen}
use Rattle.delta_blob.specs.declared.part.DeltaPart.{DeltaPart}
use Rattle.delta_blob.specs.Fits.{Fits, FitsTable, HoldsTable}
use Rattle.delta_blob.specs.Moved.{EachNamed, IsUnnamed, Moved, MovesType}
use Rattle.delta_blob.specs.Patch.{AgreesWith, DeltaIs, NamesOwn, PartIs, TypePatch, parts_for}
use Rattle.delta_blob.specs.Within.{IsTypeWithin, KeepItems, Within}
use Rattle.delta_blob.proofs.Meant.{all_at, name_there, schema_there}
use Rattle.delta_blob.proofs.OwnParts.{all_own_there}
use Rattle.delta_blob.proofs.OnePatch.{delta_given}
use Rattle.delta_blob.proofs.SeenParts.{IsPlainPart, there_plain}
use Rattle.seen_rows.proofs.ViewClosed.{view_closed}
use Rattle.view_laws.specs.SeenDelta.{LeadsSeen}
use Rattle.view_laws.proofs.SeenMaps as maps

mapped_there : {X Y : Type 0} (f : X → Y) (xs : List X) (k : ℕ) (y : Y) → slice_get (map f xs) k ≡ Some y → (x : X) × (slice_get xs k ≡ Some x) × (y ≡ f x)
mapped_there f [] k y at = absurd cc
mapped_there f (x ∷ xs) zero y at = (x, refl, sym (same_Some (f x) y at))
mapped_there f (x ∷ xs) (suc k) y at = mapped_there f xs k y at

-- ---- a type at its index in both models

-- A type that both models have, under its name.
pub record InBoth (own mine : List Schema) (t u : ℕ) (schema other : Schema) : Type 0 where
  pub here : slice_get own t ≡ Some schema
  pub there : slice_get mine u ≡ Some other
  pub named : other.name ≡ schema.name

module _ (own mine : List Schema) (own_model : IsModel own) (model : IsModel mine) where
  index_here : (t : ℕ) (schema : Schema) → slice_get own t ≡ Some schema → index_of_type own schema.name ≡ Some t
  index_here t schema at = (index_at own schema.name (own_model DuplicateName) t).1 (name_there own t schema at)

  index_there : (u : ℕ) (other : Schema) → slice_get mine u ≡ Some other → index_of_type mine other.name ≡ Some u
  index_there u other at = (index_at mine other.name (model DuplicateName) u).1 (name_there mine u other at)

  -- the rows that are seen of such a type
  pub rows_seen : (t u : ℕ) (schema other : Schema) → InBoth own mine t u schema other → (table : Table) → rows_in (view mine own table) u ≡ seen_map schema.shape other.shape (rows_in table t)
  rows_seen t u schema other both table =
      let at = slice_get-map (seen_type own table) mine u ∙ ap (option_map (seen_type own table)) both.there in
      let index : index_of_type own other.name ≡ Some t = ap (index_of_type own) both.named ∙ index_here t schema both.here in
      let found : slice_index_or own t other ≡ schema = get_or_from_slice_get own t schema other both.here in
      ap (λ (o : Option RowMap). unwrap_or o (empty {R = nat_cmp})) at
      ∙ ap (λ (o : Option ℕ). option_map_or (λ w. seen_map (slice_index_or own w other).shape other.shape (rows_in table w)) o (empty {R = nat_cmp})) index
      ∙ ap (λ (s : Schema). seen_map s.shape other.shape (rows_in table t)) found

  -- ---- the patch of a part

  -- What a consumer takes of the patch of a part, under this index of its model.
  abbrev pub taken_at : DeltaPart → TypePatch → ℕ → TypePatch
  taken_at part patch u = record {
    type_index = u;
    schema = slice_index_or mine u part.schema;
    layout = layout_for (slice_index_or mine u part.schema).shape part.schema.shape part.section;
    own = own_for (slice_index_or mine u part.schema).shape part.schema.shape part.section.widths;
    removed = part.section.removed;
    added = part.section.added;
    rows = map (seen_row part.schema.shape (slice_index_or mine u part.schema).shape) patch.rows;
  }

  abbrev pub taken : DeltaPart → TypePatch → Option TypePatch
  taken part patch = option_map (taken_at part patch) (index_of_type mine part.schema.name)

  -- the patch of all parts
  abbrev pub all_taken : List DeltaPart → List TypePatch → List TypePatch
  all_taken (part ∷ parts) (p ∷ patch) = cons_option (taken part p) (all_taken parts patch)
  all_taken _ _ = []

  -- A part of the delta: its type is the own model's at the index of its patch.
  pub record IsOwnPart (part : DeltaPart) (p : TypePatch) : Type 0 where
    pub is : PartIs own part p
    pub schema : p.schema ≡ part.schema
    pub plain : IsPlainPart part
    pub agrees : AgreesWith mine part

  in_both : (part : DeltaPart) (p : TypePatch) → IsOwnPart part p → (u : ℕ) → index_of_type mine part.schema.name ≡ Some u → InBoth own mine p.type_index u part.schema (slice_index_or mine u part.schema)
  in_both part p is u index =
      let named = (index_at mine part.schema.name (model DuplicateName) u).0 index in
      let inside : u < length mine = omega (arith, slice_get_within (type_names mine) u part.schema.name named, length-map mine (λ (s : Schema). s.name)) in
      let there = slice_get-get_or mine u part.schema inside in
      record {
        here = is.is.means.stands ∙ ap (λ (s : Schema). Some s) is.schema;
        there = there;
        named = same_Some (slice_index_or mine u part.schema).name part.schema.name (sym (name_there mine u (slice_index_or mine u part.schema) there) ∙ named);
      }

  shapes : (part : DeltaPart) (p : TypePatch) → IsOwnPart part p → (u : ℕ) (other : Schema) → InBoth own mine p.type_index u part.schema other → ShapesAgree other.shape part.schema.shape
  shapes part p is u other both = all_at (λ (m : Schema). m.name ≡ part.schema.name → Agree m part.schema) mine u other is.agrees both.there both.named

  rows_spelled : (part : DeltaPart) (other : Schema) (rows : List Row) → ShapesAgree other.shape part.schema.shape → AddsSeen part.schema.shape part.schema.shape part.section rows
      → AddsSeen other.shape part.schema.shape part.section (map (seen_row part.schema.shape other.shape) rows)
  rows_spelled part other rows agree adds = record {
    each = length-map rows (seen_row part.schema.shape other.shape) ∙ adds.each;
    spelled = λ place row there.
        let see = seen_row part.schema.shape other.shape in
        let (stored, at, is) = mapped_there see rows place row there in
        subst (λ (r : Row). SpellsSeen other.shape part.schema.shape (places_in part.section) place r) (sym is) (maps.type_spelled other.shape part.schema.shape (places_in part.section) place stored agree (adds.spelled place stored at));
  }

  pub part_taken : (part : DeltaPart) (p : TypePatch) → IsOwnPart part p → (u : ℕ) → index_of_type mine part.schema.name ≡ Some u → PartIs mine part (taken_at part p u)
  part_taken part p is u index =
      let other = slice_index_or mine u part.schema in
      let both = in_both part p is u index in
      let adds = subst (λ (s : Schema). AddsSeen s.shape part.schema.shape part.section p.rows) is.schema is.is.spelled in
      record {
        means = record { stands = both.there; named = both.named; agree = shapes part p is u other both };
        layout = refl;
        own = refl;
        removed = refl;
        added = refl;
        spelled = rows_spelled part other p.rows (shapes part p is u other both) adds;
      }

  sees_by : (part : DeltaPart) (p : TypePatch) (parts : List DeltaPart) (patch : List TypePatch) (o : Option ℕ) → index_of_type mine part.schema.name ≡ o → IsOwnPart part p
      → AllZip (PartIs mine) (parts_for mine parts) (all_taken parts patch)
      → AllZip (PartIs mine) (cond (is_some o) (part ∷ parts_for mine parts) (parts_for mine parts)) (cons_option (option_map (taken_at part p) o) (all_taken parts patch))
  sees_by part p parts patch None index is rest = rest
  sees_by part p parts patch (Some u) index is rest = (part_taken part p is u index, rest)

  pub all_sees : (parts : List DeltaPart) (patch : List TypePatch) → AllZip IsOwnPart parts patch → AllZip (PartIs mine) (parts_for mine parts) (all_taken parts patch)
  all_sees [] [] are = tt
  all_sees (part ∷ parts) (p ∷ patch) are = sees_by part p parts patch (index_of_type mine part.schema.name) refl are.0 (all_sees parts patch are.1)
  all_sees [] (p ∷ patch) are = absurd are
  all_sees (part ∷ parts) [] are = absurd are

  -- ---- what holds of each type

  named_by : (Q : ℕ → TypePatch → Type 0) (part : DeltaPart) (p : TypePatch) (o : Option ℕ) (rest : List TypePatch) → ((u : ℕ) → o ≡ Some u → Q u (taken_at part p u)) → EachNamed rest Q
      → EachNamed (cons_option (option_map (taken_at part p) o) rest) Q
  named_by Q part p None rest here each = each
  named_by Q part p (Some u) rest here each = All-cons (λ (n : TypePatch). Q n.type_index n) (taken_at part p u) rest (here u refl) each

  pub each_taken : (P : ℕ → TypePatch → Type 0) (Q : ℕ → TypePatch → Type 0) → ((part : DeltaPart) (p : TypePatch) → IsOwnPart part p → P p.type_index p → (u : ℕ) → index_of_type mine part.schema.name ≡ Some u → Q u (taken_at part p u))
      → (parts : List DeltaPart) (patch : List TypePatch) → AllZip IsOwnPart parts patch → EachNamed patch P → EachNamed (all_taken parts patch) Q
  each_taken P Q gives [] [] are each = All-nil (λ (n : TypePatch). Q n.type_index n)
  each_taken P Q gives (part ∷ parts) (p ∷ patch) are each =
      let Of : TypePatch → Type 0 = λ n. P n.type_index n in
      named_by Q part p (index_of_type mine part.schema.name) (all_taken parts patch) (λ u index. gives part p are.0 (All-head Of p patch each) u index) (each_taken P Q gives parts patch are.1 (All-tail Of p patch each))
  each_taken P Q gives [] (p ∷ patch) are each = absurd are
  each_taken P Q gives (part ∷ parts) [] are each = absurd are

  -- ---- types that are not named

  none_by : (part : DeltaPart) (p : TypePatch) (o : Option ℕ) (rest : List TypePatch) (u : ℕ) → IsUnnamed (cons_option (option_map (taken_at part p) o) rest) u → (o ≡ Some u → ⊥) × IsUnnamed rest u
  none_by part p None rest u none = (λ same. absurd cc, none)
  none_by part p (Some w) rest u none =
      let Other : TypePatch → Type 0 = λ n. n.type_index ≡ u → ⊥ in
      (λ same. All-head Other (taken_at part p w) rest none (same_Some w u same), All-tail Other (taken_at part p w) rest none)

  -- a type whose patch is not taken has none
  pub untaken : (t u : ℕ) (schema other : Schema) → InBoth own mine t u schema other → (parts : List DeltaPart) (patch : List TypePatch) → AllZip IsOwnPart parts patch → IsUnnamed (all_taken parts patch) u → IsUnnamed patch t
  untaken t u schema other both [] [] are none = All-nil (λ (n : TypePatch). n.type_index ≡ t → ⊥)
  untaken t u schema other both (part ∷ parts) (p ∷ patch) are none =
      let split = none_by part p (index_of_type mine part.schema.name) (all_taken parts patch) u none in
      All-cons (λ (n : TypePatch). n.type_index ≡ t → ⊥) p patch
      (λ here.
      let same : part.schema ≡ schema = same_Some part.schema schema (sym (are.0.is.means.stands ∙ ap (λ (s : Schema). Some s) are.0.schema) ∙ ap (slice_get own) here ∙ both.here) in
      split.0 (ap (λ (s : Schema). index_of_type mine s.name) same ∙ ap (index_of_type mine) (sym both.named) ∙ index_there u other both.there))
      (untaken t u schema other both parts patch are.1 split.1)
  untaken t u schema other both [] (p ∷ patch) are none = absurd are
  untaken t u schema other both (part ∷ parts) [] are none = absurd are

  -- a type is named by no part that the consumer takes where its own index is not named
  empty_seen : (u : ℕ) (other : Schema) → slice_get mine u ≡ Some other → index_of_type own other.name ≡ None → (table : Table) → rows_in (view mine own table) u ≡ empty {R = nat_cmp}
  empty_seen u other there index table =
      let at = slice_get-map (seen_type own table) mine u ∙ ap (option_map (seen_type own table)) there in
      ap (λ (o : Option RowMap). unwrap_or o (empty {R = nat_cmp})) at
      ∙ ap (λ (o : Option ℕ). option_map_or (λ w. seen_map (slice_index_or own w other).shape other.shape (rows_in table w)) o (empty {R = nat_cmp})) index

  module _ (blob : List ℕ) (origin destination : ℤ) (patch : List TypePatch) (is : DeltaIs own blob origin destination patch) (owned : NamesOwn own is.parts) (old : Table) (fits : Fits own old patch)
      (table : IsTableOf own fits.moved) (old_types : length old ≡ length own) (agree : All (AgreesWith mine) is.parts) where
    abbrev pub new : Table
    new = fits.moved

    -- each part is the model's own
    own_part : (part : DeltaPart) (p : TypePatch) → Contains own part.schema → IsPlainPart part → AgreesWith mine part → PartIs own part p → IsOwnPart part p
    own_part part p contained plain agrees of =
        let t = contained.0 in
        let at : slice_get own t ≡ Some part.schema = slice_get-get_or own t part.schema contained.1 ∙ ap (λ (s : Schema). Some s) contained.2 in
        let first : index_of_type own part.schema.name ≡ Some t = index_here t part.schema at in
        let second : index_of_type own part.schema.name ≡ Some p.type_index = ap (index_of_type own) (sym of.means.named) ∙ index_here p.type_index p.schema of.means.stands in
        let same : t ≡ p.type_index = same_Some t p.type_index (sym first ∙ second) in
        record { is = of; schema = same_Some p.schema part.schema (sym of.means.stands ∙ ap (slice_get own) (sym same) ∙ at); plain = plain; agrees = agrees }

    own_parts : (parts : List DeltaPart) (ps : List TypePatch) → NamesOwn own parts → All IsPlainPart parts → All (AgreesWith mine) parts → AllZip (PartIs own) parts ps → AllZip IsOwnPart parts ps
    own_parts [] [] contained plain agrees are = tt
    own_parts (part ∷ parts) (p ∷ ps) contained plain agrees are =
        let Own : DeltaPart → Type 0 = λ part. Contains own part.schema in (
          own_part part p (All-head Own part parts contained) (All-head IsPlainPart part parts plain) (All-head (AgreesWith mine) part parts agrees) are.0,
          own_parts parts ps (All-tail Own part parts contained) (All-tail IsPlainPart part parts plain) (All-tail (AgreesWith mine) part parts agrees) are.1,
        )
    own_parts [] (p ∷ ps) contained plain agrees are = absurd are
    own_parts (part ∷ parts) [] contained plain agrees are = absurd are

    are_own : AllZip IsOwnPart is.parts patch
    are_own =
        let whole = all_own_there own is.parts owned in
        let plain = subst (λ (ps : List DeltaPart). All IsPlainPart ps) whole (there_plain own is.parts is.items.once (delta_given blob own origin destination patch is)) in
        own_parts is.parts patch owned plain agree (subst (λ (ps : List DeltaPart). AllZip (PartIs own) ps patch) whole is.sees)

    abbrev pub seen : List TypePatch
    seen = all_taken is.parts patch

    -- ---- each type

    module _ (part : DeltaPart) (p : TypePatch) (of : IsOwnPart part p) (u : ℕ) (index : index_of_type mine part.schema.name ≡ Some u) where
      abbrev pub other : Schema
      other = slice_index_or mine u part.schema

      both : InBoth own mine p.type_index u part.schema other
      both = in_both part p of u index

      agrees : ShapesAgree other.shape part.schema.shape
      agrees = shapes part p of u other both

      own_widths : widths_of part.schema.shape part.schema.shape part.section.widths ≡ part.section.widths
      own_widths = maps.widths_stay part.schema.shape part.section.widths of.plain.apart (maps.widths_there part.schema.shape part.section of.plain.given.columns)

      its_layout : p.layout ≡ record { max = part.section.max; widths = part.section.widths }
      its_layout = of.is.layout ∙ ap (λ (s : Schema). layout_for s.shape part.schema.shape part.section) of.schema ∙ (λ i. record { max = part.section.max; widths = own_widths i })

      its_own : p.own ≡ own_for part.schema.shape part.schema.shape part.section.widths
      its_own = of.is.own ∙ ap (λ (s : Schema). own_for s.shape part.schema.shape part.section.widths) of.schema

      abbrev pub layout : Layout
      layout = record { max = part.section.max; widths = part.section.widths }

      pub moves_here : MovesType old new p.type_index p → MovesType (view mine own old) (view mine own new) u (taken_at part p u)
      moves_here moves =
          let see = seen_row part.schema.shape other.shape in
          let by_section = subst (λ (os : List ℕ). MovesRows (rows_in old p.type_index) (rows_in new p.type_index) os part.section.added p.rows) of.is.removed
          (subst (λ (os : List ℕ). MovesRows (rows_in old p.type_index) (rows_in new p.type_index) p.removed os p.rows) of.is.added moves) in
          subst (λ (r : RowMap). MovesRows r (rows_in (view mine own new) u) part.section.removed part.section.added (map see p.rows)) (sym (rows_seen p.type_index u part.schema other both old))
          (subst (λ (r : RowMap). MovesRows (seen_map part.schema.shape other.shape (rows_in old p.type_index)) r part.section.removed part.section.added (map see p.rows)) (sym (rows_seen p.type_index u part.schema other both new))
          (maps.moves_seen part.schema.shape other.shape (rows_in old p.type_index) (rows_in new p.type_index) part.section.removed part.section.added p.rows by_section))

      pub fits_here : FitsTable old p.type_index p → FitsTable (view mine own old) u (taken_at part p u)
      fits_here ordinals =
          let by_section = subst (λ (os : List ℕ). FitsOrdinals (rows_in old p.type_index) p.layout os part.section.added) of.is.removed
          (subst (λ (os : List ℕ). FitsOrdinals (rows_in old p.type_index) p.layout p.removed os) of.is.added ordinals) in
          subst (λ (r : RowMap). FitsOrdinals r (layout_for other.shape part.schema.shape part.section) part.section.removed part.section.added) (sym (rows_seen p.type_index u part.schema other both old))
          (maps.ordinals_seen part.schema.shape other.shape (rows_in old p.type_index) p.layout (layout_for other.shape part.schema.shape part.section) part.section.removed part.section.added
          (sym (ap (λ (l : Layout). l.max) its_layout)) by_section)

      fit_all : maps.FitAll part.schema.shape (rows_in new p.type_index)
      fit_all =
          all_values (FitsShape part.schema.shape) (rows_in new p.type_index)
          (λ ordinal row found. table.rows p.type_index ordinal part.schema row both.here (sym (get_in new p.type_index ordinal) ∙ found))

      wide : maps.HasWidths part.schema.shape part.section.widths
      wide = maps.widths_there part.schema.shape part.section of.plain.given.columns

      pub holds_here : HoldsTable new p.type_index p → HoldsTable (view mine own new) u (taken_at part p u)
      holds_here held =
          let by_own = subst (λ (s : Schema). Holds s.shape layout (rows_in new p.type_index)) of.schema (subst (λ (l : Layout). Holds p.schema.shape l (rows_in new p.type_index)) its_layout held) in
          subst (Holds other.shape (layout_for other.shape part.schema.shape part.section)) (sym (rows_seen p.type_index u part.schema other both new))
          (maps.type_held other.shape part.schema.shape layout (rows_in new p.type_index) agrees wide fit_all by_own)

      pub within_here : IsTypeWithin new p.type_index p → IsTypeWithin (view mine own new) u (taken_at part p u)
      within_here within =
          let kept = within.kept in
          let by_own = subst (λ (s : Schema). KeepsLimits s.shape (own_for part.schema.shape part.schema.shape part.section.widths) layout (rows_in new p.type_index)) of.schema
          (subst (λ (n : ℕ). KeepsLimits p.schema.shape n layout (rows_in new p.type_index)) its_own (subst (λ (l : Layout). KeepsLimits p.schema.shape p.own l (rows_in new p.type_index)) its_layout kept)) in
          let max = ap (λ (l : Layout). l.max) its_layout in
          record {
            ordinals = subst (λ (m : Option ℕ). places_of m ≤ number_of_limit Ordinals) max within.ordinals;
            kept = subst (KeepsLimits other.shape (own_for other.shape part.schema.shape part.section.widths) (layout_for other.shape part.schema.shape part.section)) (sym (rows_seen p.type_index u part.schema other both new))
                (maps.type_kept other.shape part.schema.shape layout (rows_in new p.type_index) agrees (fields_apart mine u other model both.there) of.plain.apart wide fit_all by_own);
          }

    -- ---- the tables

    seen_types : (t : Table) → length (view mine own t) ≡ length mine
    seen_types t = length-map mine (seen_type own t)

    stays_by : (u : ℕ) (other : Schema) → slice_get mine u ≡ Some other → (o : Option ℕ) → index_of_type own other.name ≡ o → IsUnnamed seen u → rows_in (view mine own new) u ≡ rows_in (view mine own old) u
    stays_by u other there None index none = empty_seen u other there index new ∙ sym (empty_seen u other there index old)
    stays_by u other there (Some t) index none =
        let (schema, here, named) = schema_there own t other.name ((index_at own other.name (own_model DuplicateName) t).0 index) in
        let both : InBoth own mine t u schema other = record { here = here; there = there; named = sym named } in
        let inside : t < length old = omega (arith, slice_get_within own t schema here, old_types) in
        let same = fits.moves.others t inside (untaken t u schema other both is.parts patch are_own none) in
        rows_seen t u schema other both new ∙ ap (seen_map schema.shape other.shape) same ∙ sym (rows_seen t u schema other both old)

    stays : (u : ℕ) → u < length (view mine own old) → IsUnnamed seen u → rows_in (view mine own new) u ≡ rows_in (view mine own old) u
    stays u inside none =
        let below : u < length mine = omega (arith, inside, seen_types old) in
        let nobody : Schema = record { name = []; shape = Shape.Set [] } in
        let other = get_or mine u nobody in
        stays_by u other (slice_get-get_or mine u nobody below) (index_of_type own other.name) refl none

    moves : Moved seen (view mine own old) (view mine own new)
    moves = record {
      types = seen_types new ∙ sym (seen_types old);
      named = each_taken (MovesType old new) (MovesType (view mine own old) (view mine own new)) (λ part p of here u index. moves_here part p of u index here) is.parts patch are_own fits.moves.named;
      others = stays;
    }

    -- the delta leads from what is seen of the old state to what is seen of the new one
    pub leads_seen : IsClosed mine (view mine own fits.moved) → Within fits.moved patch → KeepItems own is.parts → LeadsSeen mine blob origin destination (view mine own old) (view mine own fits.moved)
    leads_seen closed within items = record {
      patch = seen;
      is = record {
        head = is.head;
        parts = is.parts;
        items = is.items;
        from_tag = is.from_tag;
        to_tag = is.to_tag;
        agree = agree;
        sees = all_sees is.parts patch are_own;
      };
      fits = record {
        ordinals = each_taken (FitsTable old) (FitsTable (view mine own old)) (λ part p of here u index. fits_here part p of u index here) is.parts patch are_own fits.ordinals;
        moved = view mine own new;
        moves = moves;
        closed = closed;
        held = each_taken (HoldsTable new) (HoldsTable (view mine own new)) (λ part p of here u index. holds_here part p of u index here) is.parts patch are_own fits.held;
      };
      moved = moves;
      within = each_taken (IsTypeWithin new) (IsTypeWithin (view mine own new)) (λ part p of here u index. within_here part p of u index here) is.parts patch are_own within;
      items = All-filter (λ part. is_some (index_of_type mine part.schema.name)) (λ part. part.section.total ≤ number_of_limit Items) is.parts
          (subst (λ (ps : List DeltaPart). All (λ part. part.section.total ≤ number_of_limit Items) ps) (all_own_there own is.parts owned) items);
    }

-- a model that agrees with another one agrees with each part that names types of it
part_agrees : (own mine : List Schema) → ModelsAgree mine own → (part : DeltaPart) → Contains own part.schema → AgreesWith mine part
part_agrees own mine agree part contained = λ k d inside name.
    let t = contained.0 in
    let at : slice_get own t ≡ Some part.schema = slice_get-get_or own t part.schema contained.1 ∙ ap (λ (s : Schema). Some s) contained.2 in
    agree k t (get_or mine k d) part.schema (slice_get-get_or mine k d inside) at name

pub parts_agree : (own mine : List Schema) → ModelsAgree mine own → (parts : List DeltaPart) → NamesOwn own parts → All (AgreesWith mine) parts
parts_agree own mine agree parts owned = λ k d inside. part_agrees own mine agree (get_or parts k d) (owned k d inside)

-- and what is seen through it is closed
pub closed_seen : (own mine : List Schema) → IsModel own → IsModel mine → ModelsAgree mine own → (table : Table) → IsTableOf own table → IsClosed own table → IsClosed mine (view mine own table)
closed_seen own mine own_model model agree table fits closed = view_closed own mine table (own_model DuplicateName) fits (models_agree_back mine own agree) model closed

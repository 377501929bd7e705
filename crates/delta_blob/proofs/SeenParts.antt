-- The parts of a delta that a model has, and what the model's schemas see of them: each name stands once among them too, and a part is that of a patch exactly
-- where its section, as it is seen, has what the patch has.
use Rattle.std.proofs.Common.{◌≡◌, ◌∙◌, ℕ, zero, suc, Bool, true, false, List, [], ◌∷◌, Some, ap, arith, cond, get_or, is_some, option_map, refl, slice_get, subst, sym}
use Rattle.std.specs.Prelude.{◌↔◌, All, filter}
use Rattle.std.proofs.lemmas.List.Elements.{All-filter}
use Rattle.std.proofs.lemmas.Option.{same_Some, slice_get-get_or, slice_get-map}
use Rattle.schema_model.specs.declared.model.rule.Rule.TheVariants.{DuplicateName}
use Rattle.schema_model.specs.declared.schema.Schema.{Schema}
use Rattle.schema_model.specs.Model.{IsKept}
use Rattle.schema_model.specs.Parts.{AreApart, fields_of, index_of_type}
use Rattle.schema_model.proofs.Ways.{one_field}
use Rattle.row_model.specs.declared.row.Row.{Row}
use Rattle.type_rows.specs.Patches.{AddsRows, patch_layout}
use Rattle.seen_patches.specs.Patch.{AddsSeen, layout_for, own_for}
use Rattle.seen_patches.proofs.Patched.{layout_seen, ordinals_kept, own_seen, rows_seen}
use Rattle.delta_blob.specs.declared.part.DeltaPart.{DeltaPart}
use Rattle.delta_blob.specs.declared.patch.PatchPart.{PatchPart}
use Rattle.delta_blob.specs.Patch.{Means, NamesOnce, PartIs, TypePatch, parts_for, schemas_in}
use Rattle.delta_blob.specs.Reads.{IsOfModel}
use Rattle.delta_blob.proofs.GivenParts.{IsGivenPart}
use Rattle.delta_blob.proofs.Indexed.{one_index}
use Rattle.delta_blob.proofs.Meant.{means_meant}

-- ---- names that stand once

-- No two of the parts have one name.
abbrev pub StandApart : List DeltaPart → Type 0
StandApart parts = (i j : ℕ) (a b : DeltaPart) → slice_get parts i ≡ Some a → slice_get parts j ≡ Some b → a.schema.name ≡ b.schema.name → i ≡ j

-- so it is where names stand once
pub stand_apart : (parts : List DeltaPart) → NamesOnce parts → StandApart parts
stand_apart parts once i j a b at_a at_b name =
    let here : slice_get (schemas_in parts) i ≡ Some a.schema = slice_get-map (λ (p : DeltaPart). p.schema) parts i ∙ ap (option_map (λ (p : DeltaPart). p.schema)) at_a in
    let there : slice_get (schemas_in parts) j ≡ Some b.schema = slice_get-map (λ (p : DeltaPart). p.schema) parts j ∙ ap (option_map (λ (p : DeltaPart). p.schema)) at_b in
    one_index (schemas_in parts) once i j a.schema b.schema here there name

-- one that a filter keeps was there before
kept_first : (part : DeltaPart) (rest all : List DeltaPart) (b : DeltaPart) → ((j : ℕ) → slice_get rest j ≡ Some b → (k : ℕ) × (slice_get all k ≡ Some b)) → (t : Bool) (j : ℕ)
    → slice_get (cond t (part ∷ rest) rest) j ≡ Some b → (k : ℕ) × (slice_get (part ∷ all) k ≡ Some b)
kept_first part rest all b before true zero at = (0, at)
kept_first part rest all b before true (suc j) at = let (k, found) = before j at in (suc k, found)
kept_first part rest all b before false j at = let (k, found) = before j at in (suc k, found)

kept_there : (p : DeltaPart → Bool) (parts : List DeltaPart) (b : DeltaPart) (j : ℕ) → slice_get (filter p parts) j ≡ Some b → (k : ℕ) × (slice_get parts k ≡ Some b)
kept_there p [] b j at = absurd cc
kept_there p (part ∷ parts) b j at = kept_first part (filter p parts) parts b (kept_there p parts b) (p part) j at

apart_behind : (part : DeltaPart) (parts : List DeltaPart) → StandApart (part ∷ parts) → StandApart parts
apart_behind part parts apart i j a b at_a at_b name = let same : suc i ≡ suc j = apart (suc i) (suc j) a b at_a at_b name in omega (arith, same)

first_apart : (p : DeltaPart → Bool) (part : DeltaPart) (parts : List DeltaPart) → StandApart (part ∷ parts) → StandApart (filter p parts) → StandApart (part ∷ filter p parts)
first_apart p part parts apart rest zero zero a b at_a at_b name = refl
first_apart p part parts apart rest zero (suc j) a b at_a at_b name =
    let (k, found) = kept_there p parts b j at_b in
    let clash : 0 ≡ suc k = apart 0 (suc k) a b at_a found name in
    absurd (omega (arith, clash))
first_apart p part parts apart rest (suc i) zero a b at_a at_b name =
    let (k, found) = kept_there p parts a i at_a in
    let clash : suc k ≡ 0 = apart (suc k) 0 a b found at_b name in
    absurd (omega (arith, clash))
first_apart p part parts apart rest (suc i) (suc j) a b at_a at_b name = ap suc (rest i j a b at_a at_b name)

apart_by : (part : DeltaPart) (rest : List DeltaPart) → StandApart (part ∷ rest) → StandApart rest → (t : Bool) → StandApart (cond t (part ∷ rest) rest)
apart_by part rest with_it without true = with_it
apart_by part rest with_it without false = without

kept_apart : (p : DeltaPart → Bool) (parts : List DeltaPart) → StandApart parts → StandApart (filter p parts)
kept_apart p [] apart = apart
kept_apart p (part ∷ parts) apart =
    let rest = kept_apart p parts (apart_behind part parts apart) in
    apart_by part (filter p parts) (first_apart p part parts apart rest) rest (p part)

-- among the parts that a model has each name stands once
pub there_apart : (schemas : List Schema) (parts : List DeltaPart) → NamesOnce parts → StandApart (parts_for schemas parts)
there_apart schemas parts once = kept_apart (λ part. is_some (index_of_type schemas part.schema.name)) parts (stand_apart parts once)

-- no field name stands twice in a part
pub fields_once : (parts : List DeltaPart) (k : ℕ) (part : DeltaPart) → NamesOnce parts → slice_get parts k ≡ Some part → AreApart (fields_of part.schema)
fields_once parts k part once at i j d before below named =
    let fields = fields_of part.schema in
    let here : slice_get (schemas_in parts) k ≡ Some part.schema = slice_get-map (λ (p : DeltaPart). p.schema) parts k ∙ ap (option_map (λ (p : DeltaPart). p.schema)) at in
    let first : slice_get fields i ≡ Some (get_or fields i d) = slice_get-get_or fields i d (omega (arith, before, below)) in
    let second : slice_get fields j ≡ Some (get_or fields j d) = slice_get-get_or fields j d below in
    let same : i ≡ j = one_field (schemas_in parts) k i j (get_or fields i d) (get_or fields j d) once (part.schema, here, first) (part.schema, here, second) named in
    omega (arith, before, same)

-- What holds of each part, and that no field name stands twice in it.
pub record IsPlainPart (part : DeltaPart) : Type 0 where
  pub given : IsGivenPart part
  pub apart : AreApart (fields_of part.schema)

plain_at : (parts : List DeltaPart) → NamesOnce parts → All IsGivenPart parts → All IsPlainPart parts
plain_at parts once given = λ k d inside. record { given = given k d inside; apart = fields_once parts k (get_or parts k d) once (slice_get-get_or parts k d inside) }

-- so are the parts that a model has
pub there_plain : (schemas : List Schema) (parts : List DeltaPart) → NamesOnce parts → All IsGivenPart parts → All IsPlainPart (parts_for schemas parts)
there_plain schemas parts once given = All-filter (λ part. is_some (index_of_type schemas part.schema.name)) IsPlainPart parts (plain_at parts once given)

-- ---- which type is meant

module _ (schemas : List Schema) (kept : IsKept schemas DuplicateName) where
  -- schemas of one name mean one type
  pub one_type : (a b mine other : Schema) (t u : ℕ) → Means schemas a t mine → Means schemas b u other → a.name ≡ b.name → (t ≡ u) × (mine ≡ other)
  one_type a b mine other t u of_a of_b name =
      let one = means_meant schemas kept a mine t of_a in
      let two = means_meant schemas kept b other u of_b in
      let index = same_Some t u (sym one.first ∙ ap (index_of_type schemas) name ∙ two.first) in
      (index, same_Some mine other (sym one.stands ∙ ap (slice_get schemas) index ∙ two.stands))

-- schemas that mean one type have one name
pub one_name : (schemas : List Schema) (a b mine other : Schema) (t u : ℕ) → t ≡ u → Means schemas a t mine → Means schemas b u other → a.name ≡ b.name
one_name schemas a b mine other t u index of_a of_b =
    let same = same_Some mine other (sym of_a.stands ∙ ap (slice_get schemas) index ∙ of_b.stands) in
    sym of_a.named ∙ ap (λ (s : Schema). s.name) same ∙ of_b.named

-- ---- a part as it is seen, and its patch

module _ (schemas : List Schema) (part : DeltaPart) (plain : IsPlainPart part) (named : PatchPart) (is : IsOfModel schemas part named) where
  pub seen_layout : patch_layout named.section ≡ layout_for is.mine.shape part.schema.shape part.section
  seen_layout = layout_seen is.mine.shape part.schema.shape part.section named.section is.means.agree plain.apart plain.given.columns is.section

  pub own_there : named.section.own ≡ own_for is.mine.shape part.schema.shape part.section.widths
  own_there = own_seen is.mine.shape part.schema.shape part.section named.section is.means.agree plain.apart plain.given.spelled.few plain.given.columns plain.given.own is.section

  pub rows_there : (rows : List Row) → AddsRows is.mine.shape named.section rows ↔ AddsSeen is.mine.shape part.schema.shape part.section rows
  rows_there rows = rows_seen is.mine.shape part.schema.shape part.section named.section rows is.means.agree plain.apart plain.given.columns is.section

  -- the patch that has what is seen, with these rows
  abbrev pub patch_of_rows : List Row → TypePatch
  patch_of_rows rows = record {
    type_index = named.type_index;
    schema = is.mine;
    layout = patch_layout named.section;
    own = named.section.own;
    removed = named.section.removed;
    added = named.section.added;
    rows = rows;
  }

  -- the part is its
  pub part_is : (rows : List Row) → AddsRows is.mine.shape named.section rows → PartIs schemas part (patch_of_rows rows)
  part_is rows adds =
      let ordinals = ordinals_kept is.mine.shape part.schema.shape part.section named.section is.section in
      record { means = is.means; layout = seen_layout; own = own_there; removed = ordinals.removed; added = ordinals.added; spelled = (rows_there rows).0 adds }

  -- The patch has what is seen.
  pub record HasSeen (patch : TypePatch) : Type 0 where
    pub index : patch.type_index ≡ named.type_index
    pub schema : patch.schema ≡ is.mine
    pub layout : patch.layout ≡ patch_layout named.section
    pub own : patch.own ≡ named.section.own
    pub removed : patch.removed ≡ named.section.removed
    pub added : patch.added ≡ named.section.added
    pub adds : AddsRows is.mine.shape named.section patch.rows

  -- so has each patch whose the part is
  pub has_seen : IsKept schemas DuplicateName → (patch : TypePatch) → PartIs schemas part patch → HasSeen patch
  has_seen kept patch of =
      let (index, schema) = one_type schemas kept part.schema part.schema patch.schema is.mine patch.type_index named.type_index of.means is.means refl in
      let ordinals = ordinals_kept is.mine.shape part.schema.shape part.section named.section is.section in
      record {
        index = index;
        schema = schema;
        layout = of.layout ∙ ap (λ (s : Schema). layout_for s.shape part.schema.shape part.section) schema ∙ sym seen_layout;
        own = of.own ∙ ap (λ (s : Schema). own_for s.shape part.schema.shape part.section.widths) schema ∙ sym own_there;
        removed = of.removed ∙ sym ordinals.removed;
        added = of.added ∙ sym ordinals.added;
        adds = (rows_there patch.rows).1 (subst (λ (s : Schema). AddsSeen s.shape part.schema.shape part.section patch.rows) schema of.spelled);
      }

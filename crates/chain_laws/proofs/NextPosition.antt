-- Where a consumer stands behind a step: there is a position with the table that a patch moves to, the layouts of the patch in the types that it
-- names, and the others as they were.
use Rattle.std.proofs.Common.{◌≡◌, ◌<◌, ◌⊎◌, ◌+◌, ℕ, zero, suc, List, [], ◌∷◌, length, get_or, Some, None, inl, inr, refl, sym, ap, ◌∙◌, arith}
use Rattle.std.specs.Prelude.{slice_get, unwrap_or}
use Rattle.std.proofs.lemmas.Bool.{cases_eq}
use Rattle.std.proofs.lemmas.List.Elements.{All-head, All-tail}
use Rattle.std.proofs.lemmas.Option.{slice_get-get_or, slice_get_within}
use Rattle.schema_model.specs.declared.schema.Schema.{Schema}
use Rattle.row_model.specs.Table.{Table}
use Rattle.type_rows.specs.Layout.{Layout}
use Rattle.type_state.specs.State.{Half}
use Rattle.type_state.specs.Views.{table_of}
use Rattle.delta_blob.specs.declared.part.DeltaPart.{DeltaPart}
use Rattle.delta_blob.specs.Moved.{EachNamed, IsUnnamed}
use Rattle.delta_blob.specs.Patch.{NamesOnce, PartIs, SeesParts, TypePatch, parts_for}
use Rattle.read_engine.specs.Taking.{layout_at}
use Rattle.delta_blob.proofs.Indexed.{zip_beside}
use Rattle.delta_blob.proofs.SeenParts.{one_name, there_apart}

-- ---- the layouts

abbrev chosen : {A B X : Type 0} → A ⊎ B → X → X → X
chosen (inl here) x y = x
chosen (inr apart) x y = y

chosen_here : {A X : Type 0} (c : A ⊎ (A → ⊥)) (x y : X) → A → chosen c x y ≡ x
chosen_here (inl here) x y is = refl
chosen_here (inr apart) x y is = absurd (apart is)

chosen_not : {A X : Type 0} (c : A ⊎ (A → ⊥)) (x y : X) → (A → ⊥) → chosen c x y ≡ y
chosen_not (inl here) x y not = absurd (not here)
chosen_not (inr apart) x y not = refl

module _ (base : ℕ → Layout) where
  -- that of the patch of the type, and else the one as it was
  abbrev layouts : List TypePatch → ℕ → Layout
  layouts [] t = base t
  layouts (named ∷ patch) t = chosen (cases_eq named.type_index t) named.layout (layouts patch t)

  layouts_other : (patch : List TypePatch) (t : ℕ) → IsUnnamed patch t → layouts patch t ≡ base t
  layouts_other [] t none = refl
  layouts_other (named ∷ patch) t none =
      chosen_not (cases_eq named.type_index t) _ _ (All-head (λ n. n.type_index ≡ t → ⊥) named patch none)
      ∙ layouts_other patch t (All-tail (λ n. n.type_index ≡ t → ⊥) named patch none)

  layouts_named : (patch : List TypePatch) (t k : ℕ) (named : TypePatch) → slice_get patch k ≡ Some named → named.type_index ≡ t
      → ((j : ℕ) (other : TypePatch) → slice_get patch j ≡ Some other → other.type_index ≡ t → j ≡ k) → layouts patch t ≡ named.layout
  layouts_named [] t k named at is one = absurd cc
  layouts_named (first ∷ patch) t zero named at is one =
      let same : first ≡ named = cc in
      chosen_here (cases_eq first.type_index t) _ _ (ap (λ (n : TypePatch). n.type_index) same ∙ is) ∙ ap (λ (n : TypePatch). n.layout) same
  layouts_named (first ∷ patch) t (suc k) named at is one =
      chosen_not (cases_eq first.type_index t) _ _ (λ same. (let no = one 0 first refl same in omega (arith, no)))
      ∙ layouts_named patch t k named at is (λ j other at_other of_other. (let next = one (suc j) other at_other of_other in omega (arith, next)))

-- of one type a patch has one part
pub one_part : (schemas : List Schema) (parts : List DeltaPart) (patch : List TypePatch) → NamesOnce parts → SeesParts schemas parts patch → (t j k : ℕ) (a b : TypePatch)
    → slice_get patch j ≡ Some a → slice_get patch k ≡ Some b → a.type_index ≡ t → b.type_index ≡ t → j ≡ k
one_part schemas parts patch once are t j k a b at_a at_b of_a of_b =
    let known = parts_for schemas parts in
    let (x, at_x, is_x) = zip_beside (PartIs schemas) known patch j a are at_a in
    let (y, at_y, is_y) = zip_beside (PartIs schemas) known patch k b are at_b in
    there_apart schemas parts once j k x y at_x at_y (one_name schemas x.schema y.schema a.schema b.schema a.type_index b.type_index (of_a ∙ sym of_b) is_x.means is_y.means)

-- ---- the halves

-- the rows of a table in these layouts, of which the first is that of this index
abbrev halves_of : (ℕ → Layout) → ℕ → Table → List Half
halves_of layout t [] = []
halves_of layout t (rows ∷ table) = record { layout = layout t; rows = rows } ∷ halves_of layout (suc t) table

halves_table : (layout : ℕ → Layout) (t : ℕ) (table : Table) → table_of (halves_of layout t table) ≡ table
halves_table layout t [] = refl
halves_table layout t (rows ∷ table) = λ i. rows ∷ halves_table layout (suc t) table i

halves_count : (layout : ℕ → Layout) (t : ℕ) (table : Table) → length (halves_of layout t table) ≡ length table
halves_count layout t [] = refl
halves_count layout t (rows ∷ table) = ap suc (halves_count layout (suc t) table)

halves_layout : (layout : ℕ → Layout) (t : ℕ) (table : Table) (k : ℕ) → k < length table → layout_at (halves_of layout t table) k ≡ Some (layout (t + k))
halves_layout layout t [] k inside = absurd (omega (arith, inside))
halves_layout layout t (rows ∷ table) zero inside = let at : t ≡ t + 0 = omega arith in ap (λ n. Some (layout n)) at
halves_layout layout t (rows ∷ table) (suc k) inside =
    let at : suc t + k ≡ t + suc k = omega arith in
    halves_layout layout (suc t) table k (omega (arith, inside)) ∙ ap (λ n. Some (layout n)) at

abbrev no_layout : Layout
no_layout = record { max = None; widths = [] }

abbrev layout_of : List Half → ℕ → Layout
layout_of halves t = unwrap_or (layout_at halves t) no_layout

layout_there : (halves : List Half) (t : ℕ) → t < length halves → layout_at halves t ≡ Some (layout_of halves t)
layout_there [] t inside = absurd (omega (arith, inside))
layout_there (half ∷ halves) zero inside = refl
layout_there (half ∷ halves) (suc t) inside = layout_there halves t (omega (arith, inside))

module _ (schemas : List Schema) (halves : List Half) (parts : List DeltaPart) (patch : List TypePatch) (names : NamesOnce parts) (are : SeesParts schemas parts patch) (table : Table)
    (types : length table ≡ length schemas) (count : length halves ≡ length schemas) where
  abbrev layout : ℕ → Layout
  layout = layouts (layout_of halves) patch

  abbrev pub next_halves : List Half
  next_halves = halves_of layout 0 table

  pub next_table : table_of next_halves ≡ table
  next_table = halves_table layout 0 table

  pub next_count : length next_halves ≡ length halves
  next_count = halves_count layout 0 table ∙ types ∙ sym count

  next_layout : (t : ℕ) → t < length schemas → layout_at next_halves t ≡ Some (layout t)
  next_layout t inside =
      let at : 0 + t ≡ t = omega arith in
      halves_layout layout 0 table t (omega (arith, inside, types)) ∙ ap (λ n. Some (layout n)) at

  pub next_others : (t : ℕ) → t < length schemas → IsUnnamed patch t → layout_at next_halves t ≡ layout_at halves t
  next_others t inside unnamed =
      next_layout t inside ∙ ap (λ (l : Layout). Some l) (layouts_other (layout_of halves) patch t unnamed) ∙ sym (layout_there halves t (omega (arith, inside, count)))

  pub next_named : EachNamed patch (λ t named. layout_at next_halves t ≡ Some named.layout)
  next_named k d within =
      let named = get_or patch k d in
      let there : slice_get patch k ≡ Some named = slice_get-get_or patch k d within in
      let (part, at, is) = zip_beside (PartIs schemas) (parts_for schemas parts) patch k named are there in
      next_layout named.type_index (slice_get_within schemas named.type_index named.schema is.means.stands)
      ∙ ap (λ (l : Layout). Some l)
      (layouts_named (layout_of halves) patch named.type_index k named there refl
      (λ j other at_other of_other. one_part schemas parts patch names are named.type_index j k other named at_other there of_other refl))

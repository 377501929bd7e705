-- A delta leads from a position to one position.
use Rattle.std.proofs.Common.{◌≡◌, ◌<◌, ◌⊎◌, inl, inr, ℕ, suc, List, [], ◌∷◌, length, Some, refl, sym, ◌∙◌, subst, arith}
use Rattle.std.proofs.lemmas.Bool.{cases_eq}
use Rattle.std.proofs.lemmas.List.{length-map}
use Rattle.std.proofs.lemmas.List.Elements.{All-cons, All-head, All-nil, All-tail}
use Rattle.schema_model.specs.declared.model.rule.Rule.TheVariants.{DuplicateName}
use Rattle.row_model.specs.BothStates.{rows_in}
use Rattle.row_model.specs.Table.{Table}
use Rattle.type_state.specs.State.{Half}
use Rattle.type_state.specs.Views.{table_of}
use Rattle.delta_blob.specs.Moved.{EachNamed, IsUnnamed, Moved, MovesType}
use Rattle.delta_blob.specs.Patch.{TypePatch}
use Rattle.delta_blob.proofs.OnePatch.{patch_once, tags_once}
use Rattle.read_engine.specs.Position.{Position, IsPosition, rows_now}
use Rattle.read_engine.specs.Taking.{StepsBy, layout_at}
use Rattle.read_engine.specs.Walks.{HasFewEntries, KeepsWalks}
use Rattle.read_engine.proofs.TakenOrFault.{one_move, same_tables}
use Rattle.read_engine.proofs.Those.{those_once}

-- ---- each type

module _ (P Q : ℕ → TypePatch → Type 0) where
  -- what a patch names a type by, or that it does not
  named_or : (patch : List TypePatch) → EachNamed patch P → EachNamed patch Q → (index : ℕ) → ((named : TypePatch) × P index named × Q index named) ⊎ IsUnnamed patch index
  named_or [] one other index = inr (All-nil (λ named. named.type_index ≡ index → ⊥))
  named_or (named ∷ patch) one other index =
      elim (cases_eq named.type_index index) [
        | inl here ↦
            inl (
              named,
              subst (λ t. P t named) here (All-head (λ n. P n.type_index n) named patch one),
              subst (λ t. Q t named) here (All-head (λ n. Q n.type_index n) named patch other),
            )
        | inr apart ↦
            elim (named_or patch (All-tail (λ n. P n.type_index n) named patch one) (All-tail (λ n. Q n.type_index n) named patch other) index) [
              | inl found ↦ inl found
              | inr none ↦ inr (All-cons (λ n. n.type_index ≡ index → ⊥) named patch apart none)
            ]
      ]

-- halves with the same layouts and rows
same_halves : (xs ys : List Half) → length xs ≡ length ys → ((t : ℕ) → t < length xs → layout_at xs t ≡ layout_at ys t) → table_of xs ≡ table_of ys → xs ≡ ys
same_halves [] [] long layouts rows = refl
same_halves [] (y ∷ ys) long layouts rows = absurd (omega (arith, long))
same_halves (x ∷ xs) [] long layouts rows = absurd (omega (arith, long))
same_halves (x ∷ xs) (y ∷ ys) long layouts rows =
    let first : Some x.layout ≡ Some y.layout = layouts 0 (omega arith) in
    let layout : x.layout ≡ y.layout = cc in
    let here : x.rows ≡ y.rows = cc in
    let behind : table_of xs ≡ table_of ys = cc in
    let rest = same_halves xs ys (omega (arith, long)) (λ t inside. layouts (suc t) (omega (arith, inside))) behind in
    λ i. record { layout = layout i; rows = here i } ∷ rest i

module _ (blob : List ℕ) (from a b : Position) (position : IsPosition from) (one : StepsBy blob from a) (other : StepsBy blob from b) where
  same_patch : other.patch ≡ one.patch
  same_patch = patch_once from.schemas blob from.tag b.tag from.tag a.tag other.patch one.patch (position.model DuplicateName) other.is one.is

  also_moved : Moved one.patch (rows_now from) (rows_now b)
  also_moved = subst (λ (patch : List TypePatch). Moved patch (rows_now from) (rows_now b)) same_patch other.moved

  rows_of : (t : ℕ) → t < length (rows_now from) → rows_in (rows_now a) t ≡ rows_in (rows_now b) t
  rows_of t inside =
      elim (named_or (MovesType (rows_now from) (rows_now a)) (MovesType (rows_now from) (rows_now b)) one.patch one.moved.named also_moved.named t) [
        | inl named ↦ one_move (rows_in (rows_now from) t) (rows_in (rows_now a) t) (rows_in (rows_now b) t) named.0.removed named.0.added named.0.rows named.1 named.2
        | inr none ↦ one.moved.others t inside none ∙ sym (also_moved.others t inside none)
      ]

  layouts_of : (t : ℕ) → t < length from.schemas → layout_at a.halves t ≡ layout_at b.halves t
  layouts_of t inside =
      elim (named_or (λ t named. layout_at a.halves t ≡ Some named.layout) (λ t named. layout_at b.halves t ≡ Some named.layout) one.patch one.layouts
      (subst (λ (patch : List TypePatch). EachNamed patch (λ t named. layout_at b.halves t ≡ Some named.layout)) same_patch other.layouts) t) [
        | inl named ↦ named.1 ∙ sym named.2
        | inr none ↦ one.others t inside none ∙ sym (other.others t inside (subst (λ (patch : List TypePatch). IsUnnamed patch t) (sym same_patch) none))
      ]

  long_rows : length (rows_now a) ≡ length from.schemas
  long_rows = one.moved.types ∙ position.rows.types

  same_now : rows_now a ≡ rows_now b
  same_now = same_tables (rows_now a) (rows_now b) (one.moved.types ∙ sym also_moved.types) (λ t inside. rows_of t (subst (λ (n : ℕ). t < n) one.moved.types inside))

  long_halves : length a.halves ≡ length from.schemas
  long_halves = sym (length-map a.halves (λ (h : Half). h.rows)) ∙ long_rows

  pub stepped_once : a ≡ b
  stepped_once =
      let tag = (tags_once from.schemas from.schemas blob from.tag a.tag from.tag b.tag one.patch other.patch one.is other.is).1 in
      let schemas = one.model ∙ sym other.model in
      let halves = same_halves a.halves b.halves (one.types ∙ sym other.types) (λ t inside. layouts_of t (omega (arith, inside, long_halves))) same_now in
      let before = one.before ∙ sym other.before in
      let indexes = one.indexes ∙ sym other.indexes in
      let walks = those_once (HasFewEntries from.schemas (rows_now a)) from.walks a.walks b.walks one.walks (subst (λ (table : Table). KeepsWalks from.schemas table from.walks b.walks) (sym same_now) other.walks) in
      λ i. record { tag = tag i; schemas = schemas i; halves = halves i; before = before i; indexes = indexes i; walks = walks i }

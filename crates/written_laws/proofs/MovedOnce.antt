-- A patch moves a table to one table.
use Rattle.std.proofs.Common.{◌≡◌, ◌<◌, ◌⊎◌, ℕ, suc, List, [], ◌∷◌, length, Some, inl, inr, refl, sym, ap, ◌∙◌, subst, arith}
use Rattle.std.specs.Cmp.{nat_cmp_total}
use Rattle.std.specs.FinMap.{get, nat_cmp-IsAntisymmetric, same_map}
use Rattle.std.proofs.lemmas.Bool.{cases_eq}
use Rattle.std.proofs.lemmas.List.Elements.{All-cons, All-head, All-nil, All-tail}
use Rattle.std.proofs.lemmas.Option.{slice_get-get_or}
use Rattle.row_model.specs.declared.row.Row.{Row}
use Rattle.row_model.specs.Table.{Table, RowMap}
use Rattle.row_model.specs.BothStates.{rows_in}
use Rattle.type_rows.specs.Patches.{MovesRows}
use Rattle.delta_blob.specs.Moved.{EachNamed, IsUnnamed, Moved, MovesType}
use Rattle.delta_blob.specs.Patch.{TypePatch}
use Rattle.written_laws.proofs.Gone.{contained_or}

-- rows are moved to the same ones
one_move : (old a b : RowMap) (removed added : List ℕ) (rows : List Row) → MovesRows old a removed added rows → MovesRows old b removed added rows → a ≡ b
one_move old a b removed added rows one other = same_map nat_cmp_total nat_cmp-IsAntisymmetric a b row
  where
    row : (ordinal : ℕ) → get a ordinal ≡ get b ordinal
    row ordinal =
        elim (contained_or removed ordinal) [
          | inl goes ↦ one.gone ordinal goes ∙ sym (other.gone ordinal goes)
          | inr stays ↦
              elim (contained_or added ordinal) [
                | inl comes ↦
                    let (k, within, same) = comes in
                    let at = slice_get-get_or added k ordinal within ∙ ap Some same in
                    one.came k ordinal at ∙ sym (other.came k ordinal at)
                | inr old_one ↦ one.kept ordinal stays old_one ∙ sym (other.kept ordinal stays old_one)
              ]
        ]

module _ (P Q : ℕ → TypePatch → Type 0) where
  -- what a patch names a type by, or that it does not
  pub named_or : (patch : List TypePatch) → EachNamed patch P → EachNamed patch Q → (index : ℕ) → ((named : TypePatch) × P index named × Q index named) ⊎ IsUnnamed patch index
  named_or [] one other index = inr (All-nil (λ named. named.type_index ≡ index → ⊥))
  named_or (named ∷ patch) one other index =
      elim (cases_eq named.type_index index) [
        | inl here ↦
            inl (
              named,
              subst (λ t. P t named) here (All-head (λ n. P n.type_index n) named patch one),
              subst (λ t. Q t named) here (All-head (λ n. Q n.type_index n) named patch other),
            )
        | inr apart ↦
            elim (named_or patch (All-tail (λ n. P n.type_index n) named patch one) (All-tail (λ n. Q n.type_index n) named patch other) index) [
              | inl found ↦ inl found
              | inr none ↦ inr (All-cons (λ n. n.type_index ≡ index → ⊥) named patch apart none)
            ]
      ]

-- tables with the same rows of each type
same_tables : (a b : Table) → length a ≡ length b → ((index : ℕ) → index < length a → rows_in a index ≡ rows_in b index) → a ≡ b
same_tables [] [] long each = refl
same_tables [] (y ∷ ys) long each = absurd (omega (arith, long))
same_tables (x ∷ xs) [] long each = absurd (omega (arith, long))
same_tables (x ∷ xs) (y ∷ ys) long each =
    let one : x ≡ y = each 0 (omega arith) in
    let rest = same_tables xs ys (omega (arith, long)) (λ index inside. each (suc index) (omega (arith, inside))) in
    λ i. one i ∷ rest i

pub moved_once : (patch : List TypePatch) (old a b : Table) → Moved patch old a → Moved patch old b → a ≡ b
moved_once patch old a b one other =
    same_tables a b (one.types ∙ sym other.types) (λ index inside. rows index (subst (λ (n : ℕ). index < n) one.types inside))
  where
    rows : (index : ℕ) → index < length old → rows_in a index ≡ rows_in b index
    rows index inside =
        elim (named_or (MovesType old a) (MovesType old b) patch one.named other.named index) [
          | inl named ↦ one_move (rows_in old index) (rows_in a index) (rows_in b index) named.0.removed named.0.added named.0.rows named.1 named.2
          | inr unnamed ↦ one.others index inside unnamed ∙ sym (other.others index inside unnamed)
        ]

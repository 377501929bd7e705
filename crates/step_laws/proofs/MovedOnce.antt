-- A patch moves a table to one table.
use Rattle.std.proofs.Common.{◌≡◌, ◌<◌, ◌⊎◌, inl, inr, ℕ, List, [], ◌∷◌, length, sym, ◌∙◌, subst}
use Rattle.std.proofs.lemmas.Bool.{cases_eq}
use Rattle.std.proofs.lemmas.List.Elements.{All-cons, All-head, All-nil, All-tail}
use Rattle.row_model.specs.BothStates.{rows_in}
use Rattle.row_model.specs.Table.{Table}
use Rattle.delta_blob.specs.Moved.{EachNamed, IsUnnamed, Moved, MovesType}
use Rattle.delta_blob.specs.Patch.{TypePatch}
use Rattle.read_engine.proofs.TakenOrFault.{one_move, same_tables}

-- what a patch names a type by, or that it does not
named_or : (P Q : ℕ → TypePatch → Type 0) (patch : List TypePatch) → EachNamed patch P → EachNamed patch Q → (index : ℕ) → ((named : TypePatch) × P index named × Q index named) ⊎ IsUnnamed patch index
named_or P Q [] one other index = inr (All-nil (λ named. named.type_index ≡ index → ⊥))
named_or P Q (named ∷ patch) one other index =
    elim (cases_eq named.type_index index) [
      | inl here ↦
          inl (
            named,
            subst (λ t. P t named) here (All-head (λ n. P n.type_index n) named patch one),
            subst (λ t. Q t named) here (All-head (λ n. Q n.type_index n) named patch other),
          )
      | inr apart ↦
          elim (named_or P Q patch (All-tail (λ n. P n.type_index n) named patch one) (All-tail (λ n. Q n.type_index n) named patch other) index) [
            | inl found ↦ inl found
            | inr none ↦ inr (All-cons (λ n. n.type_index ≡ index → ⊥) named patch apart none)
          ]
    ]

pub moved_once : (patch : List TypePatch) (old a b : Table) → Moved patch old a → Moved patch old b → a ≡ b
moved_once patch old a b one other = same_tables a b (one.types ∙ sym other.types) rows_of
  where
    rows_of : (t : ℕ) → t < length a → rows_in a t ≡ rows_in b t
    rows_of t inside =
        let within : t < length old = subst (λ (n : ℕ). t < n) one.types inside in
        elim (named_or (MovesType old a) (MovesType old b) patch one.named other.named t) [
          | inl named ↦ one_move (rows_in old t) (rows_in a t) (rows_in b t) named.0.removed named.0.added named.0.rows named.1 named.2
          | inr none ↦ one.others t within none ∙ sym (other.others t within none)
        ]

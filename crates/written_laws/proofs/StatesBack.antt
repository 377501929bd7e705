-- Two states between which a producer writes are such either way.
use Rattle.std.proofs.Common.{◌≤◌, ◌<◌, ◌^◌, ℕ, List, [], length, refl, Option, Some, None, inl, inr, subst}
use Rattle.schema_model.specs.declared.schema.Schema.{Schema}
use Rattle.row_model.specs.Table.{Table}
use Rattle.row_model.specs.BothStates.{rows_of_both}
use Rattle.object_codec.specs.Widths.{live_rows}
use Rattle.type_rows.specs.Layout.{fixed_words}
use Rattle.row_packing.specs.declared.chosen.Chosen.{Chosen}
use Rattle.row_packing.specs.Chosen.{shape_at, chosen_total, chosen_widths, IsChosen, IsGreatestOrdinal, IsLiveInEither}
use Rattle.row_packing.specs.TypeLimit.{KeepsWords}
use Rattle.row_packing.proofs.EitherWay.{agree_back, chosen_back, keeps_back}
use Rattle.row_packing.proofs.Suiting.{rows_known}
use Rattle.written_laws.specs.States.{AreStates}

-- the greatest ordinal of both states, either way
turned : (old new : Table) (index ordinal : ℕ) → IsLiveInEither old new index ordinal → IsLiveInEither new old index ordinal
turned old new index ordinal (inl was) = inr was
turned old new index ordinal (inr is) = inl is

greatest_back : (old new : Table) (index : ℕ) (most : Option ℕ) → IsGreatestOrdinal old new index most → IsGreatestOrdinal new old index most
greatest_back old new index None greatest = λ ordinal live. greatest ordinal (turned new old index ordinal live)
greatest_back old new index (Some most) greatest = (turned old new index most greatest.0, λ ordinal live. greatest.1 ordinal (turned new old index ordinal live))

module _ (schemas : List Schema) (old new : Table) (are : AreStates schemas old new) where
  words_back : (index : ℕ) → index < length schemas → KeepsWords (shape_at schemas index) new old index
  words_back index inside max greatest =
      let shape = shape_at schemas index in
      let both = rows_of_both old new index in
      let chosen : Chosen = record { max = max; widths = chosen_widths shape both; total = chosen_total shape both } in
      let is : IsChosen shape old new index chosen =
      record { max = greatest_back new old index max greatest; widths = refl; total = refl; rows = rows_known schemas old new index inside are.before.rows are.after.rows } in
      let back = chosen_back shape old new index chosen (are.together.agree index inside) (are.together.keeps index inside) is in
      let kept = are.words index inside max (greatest_back new old index max greatest) in
      let by = λ (table : Table) (few : fixed_words shape (record { max = max; widths = chosen_widths shape both }) (live_rows table index) ≤ 2 ^ 22).
      subst (λ (ws : List ℕ). fixed_words shape (record { max = max; widths = ws }) (live_rows table index) ≤ 2 ^ 22) back.widths few in
      (by new kept.1, by old kept.0)

  pub states_back : AreStates schemas new old
  states_back = record {
    model = are.model;
    before = are.after;
    after = are.before;
    together = record {
      agree = λ index inside. agree_back old new index (are.together.agree index inside);
      keeps = λ index inside. keeps_back (shape_at schemas index) old new index none (are.together.agree index inside) (are.together.keeps index inside);
    };
    words = words_back;
  }
    where
      none : Chosen
      none = record { max = None; widths = []; total = 0 }

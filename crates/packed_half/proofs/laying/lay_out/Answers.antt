use Rattle.std.proofs.Common.{◌*◌, ℕ, refl, sym, ap, ◌∙◌, subst}
use Rattle.std.specs.Prelude.{replicate}
use Rattle.bit_array.specs.Element.{words_of}
use Rattle.schema_model.specs.declared.schema.Shape.{Shape}
use Rattle.type_rows.specs.Layout.{places_of}
use Rattle.packed_half.specs.Half.{place_words, item_words, areas_in}
use Rattle.packed_half.specs.Laying.{CanLay, ArePlaced}
use Rattle.packed_half.proofs.Parted.{cut_zeros, has_runs, on_ok, whole}
use Rattle.packed_half.proofs.PlacedLists.{list_bits, lists_placed}
use Rattle.packed_half.proofs.PlacedRuns.{run_widths, runs_placed}
use Rattle.packed_half.proofs.laying.lay_out.Goals as goal

pub lay_records-requires-clause-first : goal.lay_records-requires-clause-first
lay_records-requires-clause-first g c =
    let half = c.args.half.now in
    let parts = cut_zeros c.args.schema.now.shape half c.args.words.now c.split_at_mut-first.result.0.now c.split_at_mut-first.result.1.now c.split_at_mut-second.result.0.now c.split_at_mut-second.result.1.now
    c.place_words-places.result c.item_words-items.result c.requires.zeros c.place_words-places.ensures c.item_words-items.ensures c.split_at_mut-first.ensures.front c.split_at_mut-first.ensures.back
    c.split_at_mut-second.ensures.front c.split_at_mut-second.ensures.back in
    parts.first_zeros ∙ ap (λ (s : Shape). replicate (place_words s half) 0) c.in-Object.is

pub lay_lists-requires-clause-first : goal.lay_lists-requires-clause-first
lay_lists-requires-clause-first g c =
    let half = c.args.half.now in
    let parts = cut_zeros c.args.schema.now.shape half c.args.words.now c.split_at_mut-first.result.0.now c.split_at_mut-first.result.1.now c.split_at_mut-second.result.0.now c.split_at_mut-second.result.1.now
    c.place_words-places.result c.item_words-items.result c.requires.zeros c.place_words-places.ensures c.item_words-items.ensures c.split_at_mut-first.ensures.front c.split_at_mut-first.ensures.back
    c.split_at_mut-second.ensures.front c.split_at_mut-second.ensures.back in
    let can = subst (λ (s : Shape). CanLay s half (g.N.NewRows.rows c.args.new.now)) c.in-List.is c.requires.can in
    parts.first_zeros ∙ ap (λ (s : Shape). replicate (place_words s half) 0) c.in-List.is
    ∙ ap (λ (n : ℕ). replicate (words_of (places_of half.max * n)) 0) (list_bits c.in-List.field-0 half.widths can.wide.0).0

pub lay_lists-requires-clause-second : goal.lay_lists-requires-clause-second
lay_lists-requires-clause-second g c =
    let half = c.args.half.now in
    let parts = cut_zeros c.args.schema.now.shape half c.args.words.now c.split_at_mut-first.result.0.now c.split_at_mut-first.result.1.now c.split_at_mut-second.result.0.now c.split_at_mut-second.result.1.now
    c.place_words-places.result c.item_words-items.result c.requires.zeros c.place_words-places.ensures c.item_words-items.ensures c.split_at_mut-first.ensures.front c.split_at_mut-first.ensures.back
    c.split_at_mut-second.ensures.front c.split_at_mut-second.ensures.back in
    let can = subst (λ (s : Shape). CanLay s half (g.N.NewRows.rows c.args.new.now)) c.in-List.is c.requires.can in
    parts.second_zeros ∙ ap (λ (s : Shape). replicate (item_words s half) 0) c.in-List.is
    ∙ ap (λ (n : ℕ). replicate (words_of (half.total * n)) 0) (list_bits c.in-List.field-0 half.widths can.wide.0).1

pub lay_runs-requires-clause-first : goal.lay_runs-requires-clause-first
lay_runs-requires-clause-first g c =
    let half = c.args.half.now in
    let shape = c.args.schema.now.shape in
    let parts = cut_zeros shape half c.args.words.now c.split_at_mut-first.result.0.now c.split_at_mut-first.result.1.now c.split_at_mut-second.result.0.now c.split_at_mut-second.result.1.now
    c.place_words-places.result c.item_words-items.result c.requires.zeros c.place_words-places.ensures c.item_words-items.ensures c.split_at_mut-first.ensures.front c.split_at_mut-first.ensures.back
    c.split_at_mut-second.ensures.front c.split_at_mut-second.ensures.back in
    let widths = run_widths shape half (g.N.NewRows.rows c.args.new.now) (has_runs shape c.in_default.not-Object c.in_default.not-List) c.requires.can in
    parts.first_zeros ∙ ap (λ (n : ℕ). replicate (words_of (places_of half.max * n)) 0) widths.place

pub lay_runs-requires-clause-second : goal.lay_runs-requires-clause-second
lay_runs-requires-clause-second g c =
    let half = c.args.half.now in
    let shape = c.args.schema.now.shape in
    let parts = cut_zeros shape half c.args.words.now c.split_at_mut-first.result.0.now c.split_at_mut-first.result.1.now c.split_at_mut-second.result.0.now c.split_at_mut-second.result.1.now
    c.place_words-places.result c.item_words-items.result c.requires.zeros c.place_words-places.ensures c.item_words-items.ensures c.split_at_mut-first.ensures.front c.split_at_mut-first.ensures.back
    c.split_at_mut-second.ensures.front c.split_at_mut-second.ensures.back in
    let widths = run_widths shape half (g.N.NewRows.rows c.args.new.now) (has_runs shape c.in_default.not-Object c.in_default.not-List) c.requires.can in
    parts.second_zeros ∙ ap (λ (n : ℕ). replicate (words_of (half.total * n)) 0) widths.item

pub returns-in-Object : goal.returns-in-Object
returns-in-Object g c =
    let half = c.args.half.now in
    let shape = c.args.schema.now.shape in
    let rows = g.N.NewRows.rows c.args.new.now in
    let parts = cut_zeros shape half c.args.words.now c.split_at_mut-first.result.0.now c.split_at_mut-first.result.1.now c.split_at_mut-second.result.0.now c.split_at_mut-second.result.1.now
    c.place_words-places.result c.item_words-items.result c.requires.zeros c.place_words-places.ensures c.item_words-items.ensures c.split_at_mut-first.ensures.front c.split_at_mut-first.ensures.back
    c.split_at_mut-second.ensures.front c.split_at_mut-second.ensures.back in
    on_ok c.lay_records.result _ _
    (λ placed.
    whole shape half rows c.split_at_mut-first.result.0.now c.split_at_mut-second.result.0.now c.split_at_mut-second.result.1.now c.lay_records.new.first c.split_at_mut-second.result.0.now c.lay_records.new.bytes
    c.requires.can parts c.lay_records.auto.first refl c.lay_records.auto.bytes (placed c.split_at_mut-second.result.0.now)) c.lay_records.ensures

pub returns-in-List : goal.returns-in-List
returns-in-List g c =
    let half = c.args.half.now in
    let shape = c.args.schema.now.shape in
    let rows = g.N.NewRows.rows c.args.new.now in
    let parts = cut_zeros shape half c.args.words.now c.split_at_mut-first.result.0.now c.split_at_mut-first.result.1.now c.split_at_mut-second.result.0.now c.split_at_mut-second.result.1.now
    c.place_words-places.result c.item_words-items.result c.requires.zeros c.place_words-places.ensures c.item_words-items.ensures c.split_at_mut-first.ensures.front c.split_at_mut-first.ensures.back
    c.split_at_mut-second.ensures.front c.split_at_mut-second.ensures.back in
    let can = subst (λ (s : Shape). CanLay s half rows) c.in-List.is c.requires.can in
    let areas = areas_in c.split_at_mut-second.result.1.now half.lengths in
    on_ok c.lay_lists.result _ _
    (λ packed.
    whole shape half rows c.split_at_mut-first.result.0.now c.split_at_mut-second.result.0.now c.split_at_mut-second.result.1.now c.lay_lists.new.first c.lay_lists.new.second c.split_at_mut-second.result.1.now
    c.requires.can parts c.lay_lists.auto.first c.lay_lists.auto.second refl
    (subst (λ (s : Shape). ArePlaced s half rows c.lay_lists.new.first c.lay_lists.new.second areas) (sym c.in-List.is)
    (lists_placed c.in-List.field-0 half rows can c.lay_lists.new.first c.lay_lists.new.second areas packed))) c.lay_lists.ensures

pub returns-in_default : goal.returns-in_default
returns-in_default g c =
    let half = c.args.half.now in
    let shape = c.args.schema.now.shape in
    let rows = g.N.NewRows.rows c.args.new.now in
    let parts = cut_zeros shape half c.args.words.now c.split_at_mut-first.result.0.now c.split_at_mut-first.result.1.now c.split_at_mut-second.result.0.now c.split_at_mut-second.result.1.now
    c.place_words-places.result c.item_words-items.result c.requires.zeros c.place_words-places.ensures c.item_words-items.ensures c.split_at_mut-first.ensures.front c.split_at_mut-first.ensures.back
    c.split_at_mut-second.ensures.front c.split_at_mut-second.ensures.back in
    on_ok c.lay_runs.result _ _
    (λ packed.
    whole shape half rows c.split_at_mut-first.result.0.now c.split_at_mut-second.result.0.now c.split_at_mut-second.result.1.now c.lay_runs.new.first c.lay_runs.new.second c.split_at_mut-second.result.1.now
    c.requires.can parts c.lay_runs.auto.first c.lay_runs.auto.second refl
    (runs_placed shape half rows (has_runs shape c.in_default.not-Object c.in_default.not-List) c.requires.can c.lay_runs.new.first c.lay_runs.new.second
    (areas_in c.split_at_mut-second.result.1.now half.lengths) packed)) c.lay_runs.ensures

-- `none` meets its contract: no words lie at any place, and no room behind them. Assumes `Logic`.
use mathlib.Core.Path.{refl}
use mathlib.Core.List.{[], ◌∷◌}
use mir.Syntax.{w64, ty_int}
use base.Logic.{emp, id⊢}
use base.Fml.{ftrue}
use types.Kit.{‵, raw, ◌$◌, ◌∵◌, !, qed, done, keep, use0, use1, join, fjoin, suffices}
use types.Part.{agg}
use types.Run.{enter, addr, from, stop, no_more, and_then, returns}
use types.ByLocal.{alloc_all, pass_all, free_all, look_at, get, sets}
use base.Fraction.{full_share}
use denote.Array.{Array}
use denote.Builtin.{u64}
use denote.Memory.{part_at}
use denote.Steps.{nothing}
use denote.Triple.Entry.{on_entry}
use denote.Triple.Walked.{walk_of, ends_at}
use Rattle.std.proofs.mem.Facts.{says_two}
use Rattle.std.proofs.raw_atomic.Walks.{proved}
use Rattle.raw_words.specs.contracts.block.Block.none as f
use Rattle.raw_words.specs.contracts.block.Block.{the_row as R}
use Rattle.raw_words.proofs.block.Block.none.Statement.{statement}
use Rattle.raw_words.proofs.block.Block.none.Code as code
use Rattle.raw_words.proofs.Memory.{room_of, words_at, whole}
use Rattle.raw_words.proofs.Values.{block_of, block_val, block_made}

pub none_spec : {M : Type 1} → statement M
none_spec 𝓤 𝓛 𝓜 𝓡 wired =
    let c = f.clauses 𝓛 𝓜.mem 𝓡.returns in let W = walk_of 𝓛 f.ended tt c in
    proved 𝓛 f.ended tt c 𝓜 𝓡 tt f.Key.name code.function (code.unfolded 𝓤 𝓛.H 𝓜 𝓡 wired) (λ κs. tt) (λ κs. tt) (λ κs qs bounds a _ are.
    let y : W.Ghost = ((κs, qs, bounds, a, tt), tt) in
    qed 𝓛 (raw (on_entry 𝓛 f.signature κs qs a y.0.4) ∷ ‵ ftrue ∷ []) ∵ keep ! [] $ enter ! _ _ _ _ _ $ alloc_all ! (λ l. pass_all ! refl tt $
    let made = block_of (l 1) 0 [] 0 in
    sets ! (agg ! (no_more !)) refl (tt, tt) $
    sets ! (addr ! (from ! (stop !))) refl (tt, tt) $
    sets ! (agg ! (and_then ! (get ! refl) (no_more !))) refl (tt, (tt, tt)) $
    returns ! (look_at ! 0 refl) $ free_all ! refl $
    suffices ! _ (ends_at 𝓛 f.ended tt c y (block_val (l 1) 0) made tt tt) $ says_two ! (refl, refl) $
    use0 𝓛 (‵ (room_of 0 (l 1) 0)) (𝓛.laws.room_nil (ty_int w64) (l 1) 0) $
    use0 𝓛 (‵ (words_at [] (l 1) 0)) (id⊢ 𝓤 (emp 𝓤)) $
    use1 𝓛 (‵ (part_at (Array u64 0) full_share [] (l 1) 0)) (whole 𝓛 [] (l 1) 0) $ fjoin ! $
    use1 𝓛 (‵ (R.own_val made (block_val (l 1) 0 ∷ []))) (block_made 𝓛 (l 1) 0 [] 0) $
    nothing ! $ join ! $ nothing ! $ join ! $ done !))

-- `words` meets its contract: a `&` to a block shares its words, and the pointer is read through it. Assumes `Logic`.
use mathlib.Core.Path.{◌≡◌, refl, ap, subst}
use Prim.Native.Nat.{ℕ, ◌+◌, ◌*◌, ◌<◌, ◌^◌}
use mathlib.Core.List.{List, [], ◌∷◌}
use lib.ListN.{length}
use base.Logic.{ent, sep}
use base.Fml.{ftrue, fhide, flft}
use mir.Syntax.{w64, named}
use mir.Val.{Val, vptr, vint}
use contract.Monad.{fact}
use contract.Running.{tables}
use types.Logic.{sem}
use types.Kit.{‵, raw, ◌⊛◌, at_ret, ◌$◌, ◌∵◌, !, qed, done, drop, move, keep, use1, split, join, fsplit, fjoin, feq_i, flt_i, suffices, frame}
use types.Part.{agg}
use types.Run.{enter, of_opd, load, look, stop, fld, no_more, and_then, first, blocks, exec, returns}
use types.ByLocal.{alloc_all, pass_all, free_all, look_at, get, through, sets, sets_last, env}
use denote.Builtin.{usize}
use denote.Exit.{yes}
use denote.Memory.{hidden_shr}
use denote.Opens.{shr_dup, unhide, hide}
use denote.Plain.{uint_vals, uint_Tells}
use denote.RattleType.{RattleType, RowLaws, owns}
use denote.RawPtr.{RawPtr, InBlock, block_of, count_of, ptr_row_laws}
use denote.Ref.{ShrRef, shr_vals, shr_Tells}
use denote.Signature.{plain}
use denote.Slice.{slice_val}
use denote.Steps.{nothing, heard}
use denote.Struct.Lending.{in_block_says, lent_out}
use denote.Struct.Owning.{shape}
use denote.Struct.Struct.{Struct, Struct-row_laws}
use denote.Triple.Walked.{Stays, walk_of, says, stay_dropped, stay_none_ref, Goes-dropped, Goes-none_ref, ends_at}
use Rattle.std.proofs.raw_atomic.Walks.{proved}
use Rattle.std.proofs.VecSteps.Shapes.{after}
use Rattle.std.proofs.Words.{pointer_in, pointer_out}
use Rattle.raw_words.specs.contracts.block.Block.words as f
use Rattle.raw_words.specs.contracts.block.Block as C
use Rattle.raw_words.proofs.block.Block.TheLaws.{the_row_laws}
use Rattle.raw_words.proofs.block.Block.words.Statement.{statement}
use Rattle.raw_words.proofs.block.Block.words.Code as code

abbrev R : RattleType
R = C.the_row

-- the pointer alone
abbrev Fields : RattleType
Fields = Struct (shape C.the_type)

abbrev stayed : Stays f.ended.signature.params f.ended.kept
stayed = (stay_none_ref (0 ∷ []) tt (plain (λ _. R)) yes, (stay_dropped (plain (λ _. usize)) yes, tt))

pub words_spec : {M : Type 1} → statement M
words_spec 𝓤 𝓛 𝓜 𝓡 wired =
    let c = f.clauses 𝓛 𝓜.mem 𝓡.returns in let W = walk_of 𝓛 f.ended stayed c in let 𝓣 = tables 𝓤 𝓛.H 𝓜 𝓡 𝓡.env in
    proved 𝓛 f.ended stayed c 𝓜 𝓡
    (Goes-none_ref 𝓛 1 (0 ∷ []) tt (plain (λ _. R)) yes, (Goes-dropped 𝓛 1 (plain (λ _. usize)) yes (λ κs x w. refl), tt))
    f.Key.name code.function (code.unfolded 𝓤 𝓛.H 𝓜 𝓡 wired)
    (λ κs. (shr_vals, (uint_vals w64, tt))) (λ κs. (shr_Tells (named 0) κs.0 R, (uint_Tells w64, tt))) (λ κs qs bounds a _ are.
    let κ = κs.0 in let q = qs.0 in let b = a.0.ref_ptr.0 in let o = a.0.ref_ptr.1 in let d = a.0.now in
    let count = a.1.0 in let ws = d.words in let vs = shr_vals a.0 in let at : ℕ × ℕ = (block_of d.first, count_of d.first) in
    let y : W.Ghost = ((κs, qs, bounds, a, (vs, (vint w64 count ∷ [], tt))), tt) in
    let laws : RowLaws Fields = Struct-row_laws (shape C.the_type) (ptr_row_laws, tt) in
    let S = hidden_shr Fields κ (d.first, tt) b o in
    let shows_first : ent 𝓤 (sem 𝓛 S) (sep 𝓤 (sem 𝓛 (hidden_shr RawPtr κ d.first b (o + 0))) (sem 𝓛 S)) =
    qed 𝓛 (‵ S ∷ []) ∵ shr_dup ! Fields laws (d.first, tt) b o κ $ unhide ! $ fsplit ! $ fsplit ! $ hide ! $ keep ! (0 ∷ 3 ∷ []) $ done ! in
    qed 𝓛 (((‵ (flft κ q) ⊛ ‵ ftrue) ⊛ ‵ (owns (ShrRef (named 0) κ R ∷ usize ∷ []) a y.0.4)) ∷ (raw (fact 𝓤 (count ≡ length ws)) ⊛ raw (fact 𝓤 (count * 8 < 2 ^ 63))) ∷ []) ∵
    split ! $ move ! (2 ∷ []) $ split ! $ heard ! _ (λ all. heard ! _ (λ size. split ! $ move ! (2 ∷ []) $ fsplit ! $ keep ! (0 ∷ 2 ∷ []) $ fsplit ! $ drop ! $
    -- [the `&`; the token]
    enter ! _ _ _ _ _ $ alloc_all ! (λ l. pass_all ! refl ((tt, tt), ((tt, record { fits = are.1.0.1 }), tt)) $
    shr_dup ! R the_row_laws.shr_laws d b o κ $
    use1 𝓛 (‵ S ⊛ ‵ (fhide (C.the_lent d d.first κ))) (lent_out 𝓛 C.struct C.the_codes C.the_heap C.the_lent κ d b o) $ split ! $
    move ! (1 ∷ []) $ unhide ! $ fsplit ! $ use1 𝓛 (raw (fact 𝓤 (InBlock d.first))) (in_block_says 𝓛 d.first) $ heard ! (InBlock d.first) (λ inb. fsplit ! $ drop ! $ hide ! $
    -- [the shared words; the shared pointer; the `&`; the token]
    move ! (1 ∷ 3 ∷ []) $ first ! $ blocks ! $
    pointer_in ! tt d.first inb b (o + 0) shows_first (λ q'.
    sets ! (of_opd ! (load ! (through ! refl (fld ! refl (stop !))) (look ! 1 refl))) refl (tt, tt) $
    pointer_out ! tt d.first inb b (o + 0) $
    sets_last ! (agg ! (and_then ! (get ! refl) (and_then ! (get ! refl) (no_more !)))) refl (tt, (tt, (record { fits = are.1.0.1 }, tt))) $
    exec ! 𝓣.C 𝓣.Λ (env code.Mir.locals l) (after 1 (code.function).body) (at_ret _ (W.post y)) $
    sets ! (of_opd ! (get ! refl)) refl (tt, (tt, (record { fits = are.1.0.1 }, tt))) $
    returns ! (look_at ! 0 refl) $ free_all ! refl $ keep ! (0 ∷ 3 ∷ 2 ∷ []) $
    -- [the token; the `&`; the shared words]
    suffices ! _ (ends_at 𝓛 f.ended stayed c y (slice_val at count) (record { ref_ptr = at; now = ws }) (tt, (tt, tt)) (tt, (tt, tt))) $ says ! refl $
    nothing ! $ move ! (1 ∷ 0 ∷ []) $ join ! $ frame ! $
    feq_i ! (List Val) (vptr b o ∷ []) (vptr b o ∷ []) refl $ fjoin ! $ nothing ! $ nothing ! $ fjoin ! $ move ! (1 ∷ 0 ∷ []) $ fjoin ! $ frame ! $
    flt_i ! (length ws * 8) (2 ^ 63) (subst (λ (n : ℕ). n * 8 < 2 ^ 63) all size) $ flt_i ! (length ws) (2 ^ 64) (subst (λ (n : ℕ). n < 2 ^ 64) all are.1.0.1) $ fjoin ! $
    feq_i ! (List Val) (slice_val at count ∷ []) (slice_val at (length ws) ∷ []) (ap (λ (n : ℕ). slice_val at n ∷ []) all) $ fjoin ! $ fjoin ! $ done !))))))

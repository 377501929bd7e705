-- `write` meets its contract: the place behind the words is taken out of the room, written, and joined to the words.
use mathlib.Core.Path.{◌≡◌, refl, sym, ap, ◌∙◌}
use Prim.Native.Nat.{ℕ, ◌+◌, ◌-◌, ◌*◌, ◌<◌, ◌^◌}
use native.Mathlib.Omega.{arith}
use mathlib.Core.List.{List, [], ◌∷◌, ◌++◌}
use lib.ListN.{length, length-append}
use base.Fraction.{full_share}
use base.Logic.{fst∗, never}
use base.Fml.{ftrue, fat, flft, froom}
use mir.Syntax.{w64, ty_int, named}
use mir.Val.{Val, vunit, vint}
use contract.Monad.{fact}
use contract.Running.{tables}
use types.Logic.{sem}
use types.Kit.{‵, raw, ◌⊛◌, at_ret, ◌$◌, ◌∵◌, !, qed, done, move, keep, use1, use2, split, split3, join, fsplit, fsplit3, fjoin, feq_i, rewrite, suffices, frame, group}
use types.Part.{whole, sub, look_in}
use types.Run.{enter, of_opd, lit, unit_lit, bin, load, init, stop, fld, assigns_last, first, blocks, exec, returns}
use types.ByLocal.{alloc_all, pass_all, free_all, look_at, get, through, sets, env}
use denote.Builtin.{u64, usize}
use denote.Exit.{yes}
use denote.Laws.{shows}
use denote.Memory.{cell_at, part_at}
use denote.Array.{Array}
use denote.Plain.{uint_vals, uint_Tells}
use denote.RattleType.{owns}
use denote.RawPtr.{Ptr, null_ptr, room_for, in_a_block}
use denote.Ref.{MutRef, mut_vals, mut_Tells}
use denote.Signature.{plain}
use denote.Steps.{nothing, opens, closes, heard, peeks}
use denote.Triple.Walked.{Stays, walk_of, stay_dropped, stay_ref, Goes-dropped, Goes-ref, ends_at}
use Rattle.std.proofs.mem.Facts.{says_three}
use Rattle.std.proofs.raw_atomic.Walks.{proved}
use Rattle.std.proofs.VecSteps.Shapes.{after}
use Rattle.raw_words.specs.Ownership.{owns_words, word_block}
use Rattle.raw_words.specs.contracts.block.Block.write as f
use Rattle.raw_words.specs.contracts.block.Block.{the_row as R}
use Rattle.raw_words.proofs.block.Block.TheLaws.{lowers}
use Rattle.raw_words.proofs.block.Block.write.Statement.{statement}
use Rattle.raw_words.proofs.block.Block.write.Code as code
use Rattle.raw_words.proofs.Memory.{room_of, next_place, one_more}

abbrev stayed : Stays f.ended.signature.params f.ended.kept
stayed = (stay_ref (0 ∷ []) tt (plain (λ _. R)), (stay_dropped (plain (λ _. usize)) yes, (stay_dropped (plain (λ _. u64)) yes, tt)))

pub write_spec : {M : Type 1} → statement M
write_spec 𝓤 𝓛 𝓜 𝓡 wired =
    let c = f.clauses 𝓛 𝓜.mem 𝓡.returns in let W = walk_of 𝓛 f.ended stayed c in let 𝓣 = tables 𝓤 𝓛.H 𝓜 𝓡 𝓡.env in
    proved 𝓛 f.ended stayed c 𝓜 𝓡
    (Goes-ref 𝓛 1 0 tt (plain (λ _. R)), (Goes-dropped 𝓛 1 (plain (λ _. usize)) yes (λ κs x w. refl), (Goes-dropped 𝓛 1 (plain (λ _. u64)) yes (λ κs x w. refl), tt)))
    f.Key.name code.function (code.unfolded 𝓤 𝓛.H 𝓜 𝓡 wired)
    (λ κs. (mut_vals, (uint_vals w64, (uint_vals w64, tt)))) (λ κs. (mut_Tells (named 0) κs.0 R, (uint_Tells w64, (uint_Tells w64, tt)))) (λ κs qs bounds a _ are.
    let b = a.0.ref_ptr.0 in let o = a.0.ref_ptr.1 in let h = a.0.now in let vs = mut_vals a.0 in
    let place = a.1.0 in let word = a.1.1.0 in let ws = h.words in let m = h.room in
    let y : W.Ghost = ((κs, qs, bounds, a, (vs, (vint w64 place ∷ [], (vint w64 word ∷ [], tt)))), tt) in
    let h' = record h { words = ws ++ word ∷ []; room = m - 1 } in
    qed 𝓛 (((‵ (flft κs.0 qs.0) ⊛ ‵ ftrue) ⊛ ‵ (owns (MutRef (named 0) κs.0 R ∷ usize ∷ u64 ∷ []) a y.0.4)) ∷ (raw (fact 𝓤 (place ≡ length ws)) ⊛ raw (fact 𝓤 (0 < m)) ⊛ raw (fact 𝓤 ((length ws + m) * 8 < 2 ^ 63))) ∷ []) ∵
    split ! $ move ! (2 ∷ []) $ split3 ! $ heard ! _ (λ next. heard ! _ (λ some. heard ! _ (λ size. split ! $ move ! (2 ∷ []) $ fsplit ! $ keep ! (0 ∷ 2 ∷ []) $
    -- [self; the token]
    enter ! _ _ _ _ _ $ alloc_all ! (λ l. pass_all ! refl ((tt, tt), ((tt, record { fits = are.1.0.1 }), ((tt, record { fits = are.1.1.0.1 }), tt))) $
    fsplit3 ! $ move ! (1 ∷ 2 ∷ 3 ∷ []) $ opens ! tt R b o (λ us.
    move ! (1 ∷ []) $ peeks ! R _ (shows 𝓛 R) h us (λ is. fsplit ! $ move ! (1 ∷ []) $
    in_a_block ! h.first (λ p. owns_words p ws m) (fst∗ 𝓤 (never 𝓤) (sem 𝓛 (room_for (word_block m) null_ptr))) (λ b' o' e.
    let word_is = lowers.val_is h us is ∙ ap (λ (p : Ptr). lowers.lowered (record h { first = p }) ∷ []) e in
    let Cell = λ (us' : List Val). ‵ (cell_at full_share R.mir us' b o) in
    let offset : place * 8 < 2 ^ 64 = omega (arith, next, size) in
    rewrite ! 2 Cell word_is refl $ fsplit ! $
    -- [the words; the room; what the fields own; the struct's cell; the open borrow, in three entries]
    move ! (1 ∷ []) $
    use1 𝓛 (‵ (froom (ty_int w64) b' (length ws * 8 + o')) ⊛ ‵ (room_of (m - 1) b' (o' + (length ws + 1) * 8))) (next_place 𝓛 (length ws) m b' o' some) $ split ! $
    rewrite ! 0 (λ (n : ℕ). ‵ (froom (ty_int w64) b' (n * 8 + o'))) (sym next) refl $
    -- [the place; the rest of the room; the words; what the fields own; the struct's cell; ..]
    first ! $ blocks ! $
    sets ! (of_opd ! (load ! (through ! refl (fld ! refl (stop !))) (look_in ! 4 (sub ! 0 refl (whole !))))) refl (tt, tt) $
    sets ! (bin ! (get ! refl) (lit ! tt) (record { fits = offset })) refl (tt, record { fits = offset }) $
    sets ! (bin ! (get ! refl) (get ! refl) tt) refl (tt, tt) $
    assigns_last ! (of_opd ! (get ! refl)) (through ! refl (stop !)) (init ! 0 refl (tt, record { fits = are.1.1.0.1 })) $
    exec ! 𝓣.C 𝓣.Λ (env code.Mir.locals l) (after 1 (code.function).body) (at_ret _ (W.post y)) $
    sets ! (of_opd ! (unit_lit !)) refl (tt, tt) $
    -- the place joins the words
    rewrite ! 0 (λ (n : ℕ). ‵ (fat full_share (ty_int w64) b' (n * 8 + o') (vint w64 word))) next refl $ move ! (2 ∷ 0 ∷ []) $
    use2 𝓛 (‵ (part_at (Array u64 (length h'.words)) full_share h'.words b' o')) (one_more 𝓛 ws word b' o') $
    rewrite ! 1 (λ (n : ℕ). ‵ (room_of (m - 1) b' (o' + n * 8))) (sym (length-append ws (word ∷ []))) refl $ fjoin ! $
    rewrite ! 0 (λ (p : Ptr). ‵ (owns_words p h'.words (m - 1))) (sym e) refl $ rewrite ! 2 Cell (sym word_is) refl $
    move ! (1 ∷ []) $ fjoin ! $ move ! (1 ∷ []) $ closes ! tt R h' us b o $
    -- [two parts of self; the token; self's first part]
    returns ! (look_at ! 0 refl) $ free_all ! refl $ move ! (3 ∷ []) $
    suffices ! _ (ends_at 𝓛 f.ended stayed c y vunit tt (h', (tt, (tt, tt))) (tt, (tt, (tt, tt)))) $ says_three ! (refl, omega (arith, some), refl) $
    group ! 3 $ nothing ! $ nothing ! $ join ! $ nothing ! $ join ! $ move ! (1 ∷ 0 ∷ []) $ join ! $ nothing ! $ move ! (2 ∷ 0 ∷ []) $ join ! $ frame ! $ frame ! $
    feq_i ! _ (vunit ∷ []) _ refl $ done !))))))))

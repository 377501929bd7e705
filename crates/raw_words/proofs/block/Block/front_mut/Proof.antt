-- `front_mut` meets its contract: the first words are lent, and the block follows them. Assumes `Logic`.
use mathlib.Core.Path.{◌≡◌, refl, sym, ap, ◌∙◌}
use Prim.Native.Nat.{ℕ, ◌+◌, ◌*◌, ◌≤◌, ◌<◌, ◌^◌}
use native.Mathlib.Omega.{arith}
use mathlib.Core.List.{List, [], ◌∷◌, ◌++◌}
use lib.ListN.{length, take, length-append, length-drop}
use lib.ListN.{drop as drop_l}
use lib.Seq.{length-take-le}
use seplogic.Ra.Ura.{Ura}
use base.Fraction.{full_share}
use base.Logic.{ent, sep, fst∗, id⊢, never}
use base.Fml.{Fml, GName, ftrue, fsep, flft}
use mir.Syntax.{w64, named}
use mir.Val.{Val, vint}
use contract.Monad.{fact}
use contract.Running.{tables}
use types.Logic.{Logic, sem}
use types.Kit.{‵, raw, ◌⊛◌, later, some, at_ret, ◌$◌, ◌∵◌, !, qed, done, move, keep, use1, use2, split, split3, join, fsplit, fsplit3, fjoin, fpack, rewrite, suffices, frame, group, await, pick}
use types.Part.{agg, whole, sub, look_in}
use types.Run.{enter, of_opd, load, stop, fld, no_more, and_then, first, blocks, exec, returns}
use types.ByLocal.{alloc_all, pass_all, free_all, look_at, get, through, sets, sets_last, env}
use types.SemTy.{cells}
use denote.Array.{Array}
use denote.Builtin.{u64, usize}
use denote.Exit.{yes, no}
use denote.Follow.{follows}
use denote.FollowSlice.{Elements, lends_Elements}
use denote.Index.{place, whole_in, whole_out}
use denote.Laws.{shows}
use denote.Memory.{cell_at, part_at, part_of, mem}
use denote.Plain.{uint_vals, uint_Tells}
use denote.RattleType.{owns}
use denote.RawPtr.{Ptr, block_ptr, null_ptr, room_for, in_a_block}
use denote.Ref.{MutRef, mut_vals, mut_Tells}
use denote.Signature.{plain, mut_ref_to}
use denote.Slice.{MutSlice, slice_val}
use denote.Steps.{nothing, opens, heard, peeks}
use denote.Struct.Owning.{shape}
use denote.Struct.Struct.{Struct}
use denote.Triple.Walked.{Stays, walk_of, says, stay_dropped, Goes-dropped, Goes-spent_ref, ends_at}
use Rattle.std.proofs.raw_atomic.Walks.{proved}
use Rattle.std.proofs.VecSteps.Gaps.{all_new}
use Rattle.std.proofs.VecSteps.Shapes.{after}
use Rattle.raw_words.specs.Ownership.{owns_words, word_block}
use Rattle.raw_words.specs.BlockLends.{with_front}
use Rattle.raw_words.specs.declared.block.Block.{Block}
use Rattle.raw_words.specs.contracts.block.Block.front_mut as f
use Rattle.raw_words.specs.contracts.block.Block.{the_row as R, the_type}
use Rattle.raw_words.proofs.block.Block.TheLaws.{lowers}
use Rattle.raw_words.proofs.block.Block.front_mut.Statement.{statement}
use Rattle.raw_words.proofs.block.Block.front_mut.Code as code
use Rattle.raw_words.proofs.Memory.{room_of, words_at, glue, whole as as_array, front_out}

abbrev stayed : Stays f.ended.signature.params f.ended.kept
stayed = (stay_dropped (mut_ref_to (0 ∷ []) tt (plain (λ _. R))) no, (stay_dropped (plain (λ _. usize)) yes, tt))

module _ {M : Type 1} {𝓤 : Ura M} (𝓛 : Logic 𝓤) (h : Block) (n b o b' o' : ℕ) (us : List Val) where
  abbrev front : List ℕ
  front = take n h.words

  abbrev rest : List ℕ
  rest = drop_l n h.words

  -- the block but for its first words
  abbrev Rest : Fml
  Rest = fsep (words_at rest b' (place 8 o' (length front))) (fsep (room_of h.room b' (o' + length h.words * 8)) (fsep ((Struct (shape the_type)).own_val (h.first, tt) us) (cell_at full_share R.mir us b o)))

  back : h.first ≡ block_ptr b' o' → n ≤ length h.words → (ws : List ℕ) → length ws ≡ length front
      → ent 𝓤 (sep 𝓤 (sem 𝓛 (cells (mem u64) ws b' o')) (sem 𝓛 Rest)) (sem 𝓛 ((mem R).own_at (with_front h n ws) b o))
  unfolding part_of
  back at within ws e =
      let size : length front ≡ n = length-take-le n h.words within in
      let new : Block = with_front h n ws in
      let is_new : ws ++ rest ≡ new.words = ap (λ (l : List ℕ). l ++ rest) (sym (all_new n front ws (e ∙ size))) in
      let long : length h.words ≡ length new.words = omega (arith, length-append ws rest, ap length is_new, length-drop n h.words) in
      qed 𝓛 (‵ (cells (mem u64) ws b' o') ∷ ‵ Rest ∷ []) ∵ use1 𝓛 (‵ (words_at ws b' o')) (whole_out 𝓛 u64 ws b' o') $ move ! (1 ∷ []) $ fsplit ! $
      rewrite ! 0 (λ (k : ℕ). ‵ (words_at rest b' (place 8 o' k))) (sym e) refl $ move ! (2 ∷ 0 ∷ []) $
      use2 𝓛 (‵ (words_at (ws ++ rest) b' o')) (glue 𝓛 ws rest b' o') $
      rewrite ! 0 (λ (l : List ℕ). ‵ (words_at l b' o')) is_new refl $
      use1 𝓛 (‵ (part_at (Array u64 (length new.words)) full_share new.words b' o')) (as_array 𝓛 new.words b' o') $ move ! (1 ∷ []) $ fsplit3 ! $
      rewrite ! 0 (λ (k : ℕ). ‵ (room_of h.room b' (o' + k * 8))) long refl $ move ! (3 ∷ 0 ∷ []) $ fjoin ! $
      rewrite ! 0 (λ (p : Ptr). ‵ (owns_words p new.words h.room)) (sym at) refl $ move ! (1 ∷ 0 ∷ []) $ fjoin ! $ move ! (1 ∷ 0 ∷ []) $ fjoin ! $
      fpack ! (List Val) (λ us'. fsep (cell_at full_share R.mir us' b o) (R.own_val new us')) us $ done !

pub front_mut_spec : {M : Type 1} → statement M
front_mut_spec 𝓤 𝓛 𝓜 𝓡 wired =
    let c = f.clauses 𝓛 𝓜.mem 𝓡.returns in let W = walk_of 𝓛 f.ended stayed c in let 𝓣 = tables 𝓤 𝓛.H 𝓜 𝓡 𝓡.env in
    proved 𝓛 f.ended stayed c 𝓜 𝓡
    (Goes-spent_ref 𝓛 1 (0 ∷ []) tt (plain (λ _. R)), (Goes-dropped 𝓛 1 (plain (λ _. usize)) yes (λ κs x w. refl), tt))
    f.Key.name code.function (code.unfolded 𝓤 𝓛.H 𝓜 𝓡 wired)
    (λ κs. (mut_vals, (uint_vals w64, tt))) (λ κs. (mut_Tells (named 0) κs.0 R, (uint_Tells w64, tt))) (λ κs qs bounds a _ are.
    let κ = κs.0 in let q = qs.0 in let b = a.0.ref_ptr.0 in let o = a.0.ref_ptr.1 in let γ = a.0.ghost_name in let h = a.0.now in
    let n = a.1.0 in let vs = mut_vals a.0 in let xs : List ℕ = take n h.words in
    let y : W.Ghost = ((κs, qs, bounds, a, (vs, (vint w64 n ∷ [], tt))), tt) in
    qed 𝓛 (((‵ (flft κ q) ⊛ ‵ ftrue) ⊛ ‵ (owns (MutRef (named 0) κ R ∷ usize ∷ []) a y.0.4)) ∷ (raw (fact 𝓤 (n ≤ length h.words)) ⊛ raw (fact 𝓤 (n * 8 < 2 ^ 63))) ∷ []) ∵
    split ! $ move ! (2 ∷ []) $ split ! $ heard ! _ (λ within. heard ! _ (λ fits. split ! $ move ! (2 ∷ []) $ fsplit ! $ keep ! (0 ∷ 2 ∷ []) $
    -- [self; the token]
    enter ! _ _ _ _ _ $ alloc_all ! (λ l. pass_all ! refl ((tt, tt), ((tt, record { fits = are.1.0.1 }), tt)) $
    fsplit3 ! $ move ! (1 ∷ 2 ∷ 3 ∷ []) $ opens ! tt R b o (λ us.
    move ! (1 ∷ []) $ peeks ! R _ (shows 𝓛 R) h us (λ is. fsplit ! $ move ! (1 ∷ []) $
    in_a_block ! h.first (λ p. owns_words p h.words h.room) (fst∗ 𝓤 (never 𝓤) (sem 𝓛 (room_for (word_block h.room) null_ptr))) (λ b' o' e.
    let word_is = lowers.val_is h us is ∙ ap (λ (p : Ptr). lowers.lowered (record h { first = p }) ∷ []) e in
    let Cell = λ (us' : List Val). ‵ (cell_at full_share R.mir us' b o) in
    let size : n ≡ length xs = sym (length-take-le n h.words within) in
    let roomy : length xs < 2 ^ 64 = omega (arith, size, fits) in
    let fitting : length xs * 8 < 2 ^ 63 = omega (arith, size, fits) in
    rewrite ! 2 Cell word_is refl $
    -- [what the block owns; what the fields own; the struct's cell; the open borrow, in three entries]
    first ! $ blocks ! $
    sets ! (of_opd ! (load ! (through ! refl (fld ! refl (stop !))) (look_in ! 2 (sub ! 0 refl (whole !))))) refl (tt, tt) $
    sets_last ! (agg ! (and_then ! (get ! refl) (and_then ! (get ! refl) (no_more !)))) refl (tt, (tt, (record { fits = are.1.0.1 }, tt))) $
    exec ! 𝓣.C 𝓣.Λ (env code.Mir.locals l) (after 1 (code.function).body) (at_ret _ (W.post y)) $
    sets ! (of_opd ! (get ! refl)) refl (tt, (tt, (record { fits = are.1.0.1 }, tt))) $
    rewrite ! 2 Cell (sym word_is) refl $ fsplit ! $
    use1 𝓛 (‵ (words_at xs b' o') ⊛ ‵ (words_at (drop_l n h.words) b' (place 8 o' (length xs)))) (front_out 𝓛 n h.words b' o') $ split ! $
    use1 𝓛 (‵ (cells (mem u64) xs b' o')) (whole_in 𝓛 u64 xs b' o') $
    -- [the first words; the others; the room; what the fields own; the struct's cell; the open borrow, in three entries]
    move ! (3 ∷ 4 ∷ []) $ fjoin ! $ move ! (3 ∷ 0 ∷ []) $ fjoin ! $ move ! (2 ∷ 0 ∷ []) $ fjoin ! $ move ! (2 ∷ 3 ∷ 4 ∷ 1 ∷ 0 ∷ []) $ group ! 5 $
    use1 𝓛 (later (some (λ (γ' : GName). raw (Elements 𝓛 R u64 (with_front h n) (named 0) κ q b o b' o' γ xs (roomy, fitting) (sem 𝓛 (Rest 𝓛 h n b o b' o' us)) (back 𝓛 h n b o b' o' us e within) γ'))))
    (lends_Elements 𝓛 R u64 (with_front h n) (named 0) κ q b o b' o' γ xs (roomy, fitting) (sem 𝓛 (Rest 𝓛 h n b o b' o' us)) (back 𝓛 h n b o b' o' us e within) (R.coded.code h) (R.coded.code h)) $ await ! tt $ pick ! (λ γ'.
    returns ! (look_at ! 0 refl) $ free_all ! refl $ keep ! (0 ∷ []) $
    let loan = λ (k : ℕ). ‵ ((MutSlice (named 0) κ u64).own_val (record { ref_ptr = (b', o'); ghost_name = γ'; now = xs }) (slice_val (b', o') k ∷ [])) in
    use1 𝓛 (loan (length xs) ⊛ ‵ (flft κ q) ⊛ ‵ (follows R (Array u64 0) γ γ' (with_front h n))) (id⊢ 𝓤 _) $ split3 ! $ rewrite ! 0 loan (sym size) refl $
    -- [the slice; the token; that self follows the slice]
    suffices ! _ (ends_at 𝓛 f.ended stayed c y (slice_val (b', o') n) (record { ref_ptr = (b', o'); ghost_name = γ'; now = xs }) (tt, (tt, tt)) (tt, (tt, tt))) $
    nothing ! $ nothing ! $ fjoin ! $ nothing ! $ fjoin ! $ join ! $ nothing ! $ move ! (2 ∷ 0 ∷ []) $ join ! $ join ! $ frame ! $ says ! refl $ done !))))))))

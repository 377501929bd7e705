-- `deallocate` meets its contract: the words and the room behind them are the block that was asked for. Assumes `Logic`.
use mathlib.Core.Path.{◌≡◌, refl, sym, subst}
use Prim.Native.Nat.{ℕ, ◌+◌, ◌*◌, ◌<◌, ◌^◌}
use native.Mathlib.Omega.{arith}
use mathlib.Core.List.{List, [], ◌∷◌}
use lib.ListN.{length}
use lib.Dec.{T, lit<}
use seplogic.Ra.Ura.{Ura}
use base.Logic.{SProp, ent, fst∗, never}
use base.Fml.{Lft, Share, Fml, ftrue, flft}
use mir.Syntax.{Fn, w64, ty_unit}
use mir.Val.{Val, vunit, vint, vptr, vstruct, vcons, vnil, has_ty, WT}
use mir.MapTy.{inst_fn}
use prog.Memory.{Memory}
use prog.Routine.{Routine}
use prog.Wp.{Env, Calls, Loops, WpFn, Tables}
use sound.WpLaws.{FmC, fm_of, WpFn-mono}
use contract.BorrowLft.{◌⊑◌, ⊑_trans}
use contract.Monad.{Fun, fact}
use contract.Running.{tables, tables_of}
use types.Logic.{Logic, sem}
use types.Kit.{‵, raw, ◌⊛◌, later, given, prop, at_ret, ◌$◌, ◌∵◌, !, qed, done, drop, move, keep, use1, use2, use3, split, split3, join, learn, rewrite, regoal, fsplit, fjoin, feq_i, suffices, await}
use types.Part.{whole, sub}
use types.Run.{enter, of_opd, lit, unit_lit, bin, stop, fld, no_more, and_then, first, blocks, exec, returns}
use types.ByLocal.{alloc_all, pass_all, free_all, look_at, get, get_in, sets, lands_last, env}
use denote.Builtin.{RefOf, usize}
use denote.Exit.{yes, no}
use denote.Param.{param}
use denote.Param.Laws.{param_laws}
use denote.Plain.{uint_vals, uint_Tells}
use denote.RattleType.{owns}
use denote.RawPtr.{Ptr, block_ptr, null_ptr, ptr_val, room_for, in_a_block}
use denote.Ref.{Bor, shr_vals}
use denote.Signature.{Slot, plain, types_at}
use denote.Steps.{nothing, heard}
use denote.Triple.Call.{calls_at_last}
use denote.Triple.Clauses.{Ended, Clauses}
use denote.Triple.Spec.{triple_of}
use denote.Triple.Statement.{Triple}
use denote.Triple.Table.{entered}
use denote.Triple.Walked.{Stays, stay_dropped, walk_of, walked, ends_at, Goes-dropped, walk_Meets}
use Rattle.std.proofs.alloc.Calls.{Al, token, gives_key, Gives, at_gives, Gives-goes, Gives-Gives, Goes-blank}
use Rattle.std.proofs.VecSteps.Shapes.{after}
use Rattle.raw_words.specs.Ownership.{owns_words, word_block}
use Rattle.raw_words.specs.Deeds.{IsDeedTo}
use Rattle.raw_words.specs.declared.block.Block.{Block}
use Rattle.raw_words.specs.declared.block.Deed.{Deed}
use Rattle.raw_words.specs.contracts.block.Block as B
use Rattle.raw_words.specs.contracts.block.Block.deallocate as f
use Rattle.raw_words.specs.contracts.block.Block.deallocate.Key as key
use Rattle.raw_words.proofs.block.Block.TheLaws as block-laws
use Rattle.raw_words.proofs.block.Deed.TheLaws as deed-laws
use Rattle.raw_words.proofs.block.Block.deallocate.Statement.{statement}
use Rattle.raw_words.proofs.block.Block.deallocate.Code as code
use Rattle.raw_words.proofs.Allocators.{args, block_size, block_align}
use Rattle.raw_words.proofs.Memory.{room_of, words_at, apart, all_room}
use Rattle.raw_words.proofs.Values.{deed_row, deed_val}

module _ (Z : Al) where
  abbrev here : Fn
  here = inst_fn (args Z) code.function

  abbrev handle : Slot 2
  handle = RefOf (0 ∷ []) tt (plain (λ _. param 0 Z.row)) (λ _. tt)

  abbrev ended : Ended
  ended = f.ended Z.row Z.g Z.d Z.drops

  abbrev stayed : Stays ended.signature.params ended.kept
  stayed = (stay_dropped (plain (λ _. B.the_row)) yes, (stay_dropped handle yes, (stay_dropped (plain (λ _. usize)) yes, (stay_dropped (plain (λ _. deed_row Z)) no, tt))))

module _ (Z : Al) {M : Type 1} {𝓤 : Ura M} (𝓛 : Logic 𝓤) (at_mem : Memory → SProp 𝓤) (run : Routine → Fun 𝓤) (C : Calls 𝓤 𝓛.H) (Λ : Loops 𝓤 𝓛.H) (fm : FmC 𝓤 𝓛.H 𝓛.laws C)
    (gives : Triple 𝓤 (C (gives_key Z)) (Gives Z 𝓛 at_mem run))
    (κ ρ : Lft) (q qρ : Share) (out : κ ⊑ ρ) (r : Bor Z.row.Denot) (block : Block) (n : ℕ) (deed : Deed Z.row.Denot) where
  open 𝓛 use {H}

  abbrev clauses : Clauses 𝓤 (ended Z)
  clauses = f.clauses Z.row Z.g Z.d Z.drops 𝓛 at_mem run

  abbrev bound : (walk_of 𝓛 (ended Z) (stayed Z) clauses).Ghost
  bound = (((κ, (ρ, tt)), (q, (qρ, tt)), (out, tt), (block, (r, (n, (deed, tt)))), (vstruct (vcons (ptr_val block.first) vnil) ∷ [], (shr_vals r, (vint w64 n ∷ [], (deed_val ∷ [], tt))))), tt)

  abbrev Post : Val → SProp 𝓤
  Post = (walk_of 𝓛 (ended Z) (stayed Z) clauses).post bound

  abbrev passed : Ptr → List Val
  passed p = vstruct (vcons (ptr_val p) vnil) ∷ vptr r.ref_ptr.0 r.ref_ptr.1 ∷ vint w64 n ∷ deed_val ∷ []

  walk : n < 2 ^ 64 → ent 𝓤 ((walk_of 𝓛 (ended Z) (stayed Z) clauses).pre bound) (WpFn 𝓤 H C Λ (here Z) (passed block.first) Post)
  walk small =
      let ws = block.words in let m = block.room in let p : ℕ × ℕ = r.ref_ptr in
      let Token : Z.row.Denot → ℕ → Ptr → Fml = λ h k at. token Z h (word_block k) at in
      qed 𝓛 (((‵ (flft κ q) ⊛ ‵ (flft ρ qρ) ⊛ ‵ ftrue) ⊛ ‵ (owns (types_at (ended Z).signature.params bound.0.0) bound.0.3 bound.0.4))
      ∷ (raw (fact 𝓤 (ρ ⊑ Z.row.lives)) ⊛ raw (fact 𝓤 (IsDeedTo deed block.first n r.now)) ⊛ raw (fact 𝓤 (length ws + m ≡ n)) ⊛ raw (fact 𝓤 (n * 8 < 2 ^ 63))) ∷ []) ∵
      split ! $ move ! (2 ∷ []) $ split ! $ heard ! _ (λ within. split3 ! $ heard ! _ (λ is. heard ! _ (λ all. heard ! _ (λ size.
      let live : κ ⊑ Z.row.lives = ⊑_trans κ ρ Z.row.lives out within in
      let bytes : n * 8 < 2 ^ 64 = omega (arith, size) in
      split3 ! $ move ! (3 ∷ []) $ fsplit ! $ fsplit ! $ move ! (2 ∷ []) $ fsplit ! $ fsplit ! $ move ! (2 ∷ []) $ fsplit ! $ drop ! $ fsplit ! $ fsplit ! $ keep ! (6 ∷ 1 ∷ 4 ∷ 7 ∷ 8 ∷ []) $
      -- [what the block owns; the right to free it; the `&`; the two tokens]
      rewrite ! 1 (λ (at : Ptr). ‵ (Token deed.alloc deed.places at)) is.0 refl $ rewrite ! 1 (λ (k : ℕ). ‵ (Token deed.alloc k block.first)) is.1 refl $
      rewrite ! 1 (λ (h : Z.row.Denot). ‵ (Token h n block.first)) is.2 refl $
      in_a_block ! block.first (λ at. owns_words at ws m) (fst∗ 𝓤 (never 𝓤) (sem 𝓛 (room_for (word_block m) null_ptr))) (λ b o e.
      regoal ! (λ (at : Ptr). prop (WpFn 𝓤 H C Λ (here Z) (passed at) Post)) e refl $ rewrite ! 1 (λ (at : Ptr). ‵ (Token r.now n at)) e refl $ fsplit ! $
      use1 𝓛 (‵ (words_at ws b o)) (apart 𝓛 ws b o) $ use2 𝓛 (‵ (room_of (length ws + m) b o)) (all_room 𝓛 ws m b o) $ rewrite ! 0 (λ (k : ℕ). ‵ (room_of k b o)) all refl $
      -- [the room; the right to free it; the `&`; the two tokens]
      enter ! C Λ (here Z) (passed (block_ptr b o)) _ $ alloc_all ! (λ l. pass_all ! refl ((tt, (tt, tt)), ((tt, tt), ((tt, record { fits = small }), ((tt, (tt, tt)), tt)))) $
      let En : Env 𝓤 H = env (here Z).locals l in
      let y = at_gives Z 𝓛 at_mem run κ q p r.now b o (n * 8) 8 (word_block n) in
      first ! $ blocks ! $
      sets ! (of_opd ! (get_in ! (fld ! refl (stop !)) (sub ! 0 refl (whole !)))) refl (tt, tt) $
      sets ! (bin ! (get ! refl) (lit ! tt) (record { fits = bytes })) refl (tt, record { fits = bytes }) $
      move ! (2 ∷ 3 ∷ []) $ join ! $ move ! (1 ∷ 2 ∷ 0 ∷ []) $
      use3 𝓛 (raw ((Gives Z 𝓛 at_mem run).pre y)) (Gives-goes Z 𝓛 at_mem run κ q p r.now live b o (n * 8) 8 (word_block n) (block_size n bytes) (block_align n) bytes (lit< tt)) $
      calls_at_last ! fm (Gives Z 𝓛 at_mem run) gives y (and_then ! (get ! refl) (and_then ! (get ! refl) (and_then ! (get ! refl) (and_then ! (lit ! tt) (no_more !))))) (λ v.
      use1 𝓛 (later (given (v ≡ vunit) (‵ (flft κ q)))) (Gives-Gives Z 𝓛 at_mem run κ q p r.now b o (n * 8) 8 (word_block n) v) $ await ! tt $ learn ! (λ is_unit.
      lands_last ! refl (subst (λ (u : Val). T (has_ty ty_unit u) × WT u) (sym is_unit) (tt, tt)) $
      exec ! C Λ En (after 1 (here Z).body) (at_ret En Post) $ sets ! (of_opd ! (unit_lit !)) refl (tt, tt) $
      returns ! (look_at ! 0 refl) $ free_all ! refl $
      -- [the two tokens]
      suffices ! _ (ends_at 𝓛 (ended Z) (stayed Z) clauses bound vunit tt (tt, (tt, (tt, (tt, tt)))) (tt, (tt, (tt, (tt, tt))))) $
      feq_i ! _ (vunit ∷ []) _ refl $ nothing ! $ nothing ! $ fjoin ! $ nothing ! $ fjoin ! $ nothing ! $ fjoin ! $ nothing ! $ fjoin ! $ join ! $
      nothing ! $ move ! (3 ∷ 0 ∷ []) $ join ! $ move ! (2 ∷ 0 ∷ []) $ join ! $ join ! $ nothing ! $ move ! (1 ∷ 0 ∷ []) $ done !))))))))

pub deallocate_spec : {M : Type 1} → statement M
unfolding tables_of
deallocate_spec 𝓤 𝓛 𝓜 𝓡 wired X L g d dd met _ =
    let Z : Al = record { row = X; laws = L; g = g; d = d; drops = dd } in
    let 𝓣 : Tables 𝓤 𝓛.H = tables_of 𝓤 𝓛.H 𝓜 (tables 𝓤 𝓛.H 𝓜 𝓡 𝓡.env) in
    let c = f.clauses X g d dd 𝓛 𝓜.mem 𝓡.returns in
    entered 𝓤 𝓛.H (triple_of 𝓛 (f.signature X g d dd) (f.spec X g d dd 𝓛 𝓜.mem 𝓡.returns)) 𝓣.C 𝓣.Λ (key.name (args Z)) (here Z) (code.unfolded 𝓤 𝓛.H 𝓜 𝓡 wired (X, tt) d dd)
    (walk_Meets 𝓛 (ended Z) (stayed Z)
    (Goes-blank 𝓛 2 (plain (λ _. B.the_row)) yes (λ κs x w. tt), (Goes-dropped 𝓛 2 (handle Z) yes (λ κs x w. refl), (Goes-dropped 𝓛 2 (plain (λ _. usize)) yes (λ κs x w. refl), (Goes-blank 𝓛 2 (plain (λ _. deed_row Z)) no (λ κs x w. tt), tt))))
    c (WpFn 𝓤 𝓛.H 𝓣.C 𝓣.Λ (here Z)) (WpFn-mono 𝓤 𝓛.H 𝓛.laws 𝓣 (here Z))
    (walked 𝓛 (ended Z) (stayed Z) c (WpFn 𝓤 𝓛.H 𝓣.C 𝓣.Λ (here Z))
    (λ κs. ((λ x. block-laws.lowered x ∷ []), (shr_vals, (uint_vals w64, ((λ x. deed_val ∷ []), tt)))))
    (λ κs. (block-laws.lowers.val_is, ((λ x vs is. is.0), (uint_Tells w64, ((deed-laws.lowers (param 0 X) g (param_laws 0 X L)).val_is, tt)))))
    (λ κs qs bounds a _ are. walk Z 𝓛 𝓜.mem 𝓡.returns 𝓣.C 𝓣.Λ (fm_of 𝓤 𝓛.H 𝓛.laws 𝓣) (met.deallocate dd) κs.0 κs.1.0 qs.0 qs.1.0 bounds.0 a.1.0 a.0 a.1.1.0 a.1.1.1.0 are.1.1.0.1)))

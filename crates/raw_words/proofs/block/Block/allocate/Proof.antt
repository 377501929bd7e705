-- `allocate` meets its contract: the room and the right to free it are handed on, or nothing is. Assumes `Logic`.
use mathlib.Core.Path.{refl}
use mathlib.Core.Bool.{true, false}
use Prim.Native.Nat.{ℕ, ◌*◌, ◌<◌, ◌^◌}
use native.Mathlib.Omega.{arith}
use mathlib.Core.List.{List, [], ◌∷◌}
use lib.Dec.{lit<}
use seplogic.Ra.Ura.{Ura}
use base.Logic.{SProp, ent}
use base.Fml.{Lft, Share, ftrue, flft}
use mir.Syntax.{Fn, Body, w64}
use mir.Val.{Val, vint, vptr, vstruct, vnil, of_list}
use mir.MapTy.{inst_fn}
use prog.Memory.{Memory}
use prog.Routine.{Routine}
use prog.Wp.{Env, Calls, Loops, Wp, WpFn, Tables, after_seq, at_return}
use sound.WpLaws.{FmC, fm_of, WpFn-mono}
use contract.BorrowLft.{◌⊑◌, ⊑_trans}
use contract.Monad.{Fun, fact}
use contract.Running.{tables, tables_of}
use types.Logic.{Logic}
use types.Kit.{‵, raw, ◌⊛◌, ⋆, later, any_q, at_ret, Post as After, ◌$◌, ◌∵◌, !, qed, by, done, move, keep, use0, use1, use2, split, split3, join, fsplit, fjoin, suffices, await}
use types.Match.{live, vrt, in_variant}
use types.Part.{agg, whole}
use types.Run.{enter, of_opd, lit, bin, stop, fld, no_more, and_then, first, exec, switches_on, returns}
use types.ByLocal.{alloc_all, pass_all, free_all, look_at, get, get_in, get_tag, sets, sets_last, lands_as, env}
use denote.Builtin.{RefOf, usize}
use denote.Exit.{yes}
use denote.Param.{param}
use denote.Plain.{uint_vals, uint_Tells}
use denote.RattleType.{owns}
use denote.RawPtr.{block_ptr}
use denote.Ref.{Bor, shr_vals}
use denote.Shadow.{makes_shadow}
use denote.Signature.{Slot, plain, types_at}
use denote.Steps.{nothing, heard}
use denote.Triple.Call.{calls_at}
use denote.Triple.Clauses.{Ended, Clauses}
use denote.Triple.Spec.{triple_of}
use denote.Triple.Statement.{Triple}
use denote.Triple.Table.{entered}
use denote.Triple.Walked.{Stays, stay_dropped, walk_of, walked, ends_at, Goes-dropped, walk_Meets}
use Rattle.std.proofs.mem.Facts.{says_two}
use Rattle.std.proofs.alloc.Calls.{Al, token, takes_key, Takes, at_takes, Answered, Answer-typed, Takes-goes, Takes-gives, answers}
use Rattle.std.proofs.ResultValues.{ok_of, err_of}
use Rattle.std.proofs.VecSteps.Shapes.{after, front, arm_body}
use Rattle.std.specs.declared.result.Result.TheVariants.{Ok, Err}
use Rattle.std.specs.contracts.alloc.AllocError as AE
use Rattle.std.specs.contracts.result.Result as RS
use Rattle.raw_words.specs.Ownership.{word_block}
use Rattle.raw_words.specs.contracts.block.Block.allocate as f
use Rattle.raw_words.specs.contracts.block.Block.allocate.Key as key
use Rattle.raw_words.proofs.block.Block.allocate.Statement.{statement}
use Rattle.raw_words.proofs.block.Block.allocate.Code as code
use Rattle.raw_words.proofs.Allocators.{args, block_size, block_align}
use Rattle.raw_words.proofs.Memory.{room_of}
use Rattle.raw_words.proofs.Values.{block_of, deed_of, Grant, grant_val, granted}

module _ (Z : Al) where
  abbrev here : Fn
  here = inst_fn (args Z) code.function

  abbrev handle : Slot 2
  handle = RefOf (0 ∷ []) tt (plain (λ _. param 0 Z.row)) (λ _. tt)

  abbrev ended : Ended
  ended = f.ended Z.row Z.g Z.d Z.drops

  abbrev stayed : Stays ended.signature.params ended.kept
  stayed = (stay_dropped handle yes, (stay_dropped (plain (λ _. usize)) yes, tt))

abbrev ok_val : ℕ → ℕ → Val
ok_val b o = live 0 (of_list (grant_val b o ∷ []))

abbrev err_val : Val
err_val = live 1 (of_list (vstruct vnil ∷ []))

module _ (Z : Al) {M : Type 1} {𝓤 : Ura M} (𝓛 : Logic 𝓤) (at_mem : Memory → SProp 𝓤) (run : Routine → Fun 𝓤) (C : Calls 𝓤 𝓛.H) (Λ : Loops 𝓤 𝓛.H) (fm : FmC 𝓤 𝓛.H 𝓛.laws C)
    (takes : Triple 𝓤 (C (takes_key Z)) (Takes Z 𝓛 at_mem run))
    (κ ρ : Lft) (q qρ : Share) (out : κ ⊑ ρ) (r : Bor Z.row.Denot) (n : ℕ) where
  open 𝓛 use {H}

  abbrev clauses : Clauses 𝓤 (ended Z)
  clauses = f.clauses Z.row Z.g Z.d Z.drops 𝓛 at_mem run

  abbrev bound : (walk_of 𝓛 (ended Z) (stayed Z) clauses).Ghost
  bound = (((κ, (ρ, tt)), (q, (qρ, tt)), (out, tt), (r, (n, tt)), (shr_vals r, (vint w64 n ∷ [], tt))), tt)

  abbrev Post : Val → SProp 𝓤
  Post = (walk_of 𝓛 (ended Z) (stayed Z) clauses).post bound

  abbrev passed : List Val
  passed = vptr r.ref_ptr.0 r.ref_ptr.1 ∷ vint w64 n ∷ []

  given : (b o : ℕ) → ent 𝓤 (⋆ 𝓛 (‵ (room_of n b o) ∷ ‵ (token Z r.now (word_block n) (block_ptr b o)) ∷ ‵ (flft κ q) ∷ ‵ (flft ρ qρ) ∷ [])) (Post (ok_val b o))
  given b o =
      let made : (Grant Z).Denot = (block_of b o [] n, deed_of Z r.now n (block_ptr b o)) in
      qed 𝓛 (‵ (room_of n b o) ∷ ‵ (token Z r.now (word_block n) (block_ptr b o)) ∷ ‵ (flft κ q) ∷ ‵ (flft ρ qρ) ∷ []) ∵
      suffices ! _ (ends_at 𝓛 (ended Z) (stayed Z) clauses bound (ok_val b o) (Ok made) (tt, (tt, tt)) (tt, (tt, tt))) $ says_two ! ((refl, refl), (refl, refl, refl)) $
      use2 𝓛 (‵ ((Grant Z).own_val made (grant_val b o ∷ []))) (granted Z 𝓛 r.now n b o) $
      use1 𝓛 (‵ ((RS.the_row (Grant Z) AE.the_row).own_val (Ok made) (ok_val b o ∷ []))) (ok_of 𝓛 (Grant Z) AE.the_row made (grant_val b o)) $
      nothing ! $ nothing ! $ fjoin ! $ nothing ! $ fjoin ! $ join ! $ nothing ! $ move ! (3 ∷ 0 ∷ []) $ join ! $ move ! (2 ∷ 0 ∷ []) $ join ! $ join ! $ done !

  refused : ent 𝓤 (⋆ 𝓛 (‵ (flft κ q) ∷ ‵ (flft ρ qρ) ∷ [])) (Post err_val)
  refused =
      qed 𝓛 (‵ (flft κ q) ∷ ‵ (flft ρ qρ) ∷ []) ∵
      suffices ! _ (ends_at 𝓛 (ended Z) (stayed Z) clauses bound err_val (Err (record {})) (tt, (tt, tt)) (tt, (tt, tt))) $ says_two ! (tt, tt) $
      use0 𝓛 (‵ (AE.the_row.own_val (record {}) (vstruct vnil ∷ []))) (makes_shadow 𝓛 (AE.the_row.own_val (record {}) (vstruct vnil ∷ [])) (λ _. (tt, tt)) (tt, (refl, tt))) $
      use1 𝓛 (‵ ((RS.the_row (Grant Z) AE.the_row).own_val (Err (record {})) (err_val ∷ []))) (err_of 𝓛 (Grant Z) AE.the_row (record {}) (vstruct vnil)) $
      nothing ! $ nothing ! $ fjoin ! $ nothing ! $ fjoin ! $ join ! $ nothing ! $ move ! (3 ∷ 0 ∷ []) $ join ! $ move ! (2 ∷ 0 ∷ []) $ join ! $ join ! $ done !

  walk : n < 2 ^ 64 → ent 𝓤 ((walk_of 𝓛 (ended Z) (stayed Z) clauses).pre bound) (WpFn 𝓤 H C Λ (here Z) passed Post)
  walk small =
      let p : ℕ × ℕ = r.ref_ptr in
      qed 𝓛 (((‵ (flft κ q) ⊛ ‵ (flft ρ qρ) ⊛ ‵ ftrue) ⊛ ‵ (owns (types_at (ended Z).signature.params bound.0.0) bound.0.3 bound.0.4))
      ∷ (raw (fact 𝓤 (ρ ⊑ Z.row.lives)) ⊛ raw (fact 𝓤 (n * 8 < 2 ^ 63))) ∷ []) ∵
      split ! $ move ! (2 ∷ []) $ split ! $ heard ! _ (λ within. heard ! _ (λ size.
      let live : κ ⊑ Z.row.lives = ⊑_trans κ ρ Z.row.lives out within in
      let bytes : n * 8 < 2 ^ 64 = omega (arith, size) in
      split3 ! $ move ! (3 ∷ []) $ fsplit ! $ fsplit ! $ keep ! (1 ∷ 3 ∷ 4 ∷ []) $
      -- [the `&`; the two tokens]
      enter ! C Λ (here Z) passed _ $ alloc_all ! (λ l. pass_all ! refl ((tt, tt), ((tt, record { fits = small }), tt)) $
      let En : Env 𝓤 H = env (here Z).locals l in
      let y = at_takes Z 𝓛 at_mem run κ q p r.now (n * 8) 8 (word_block n) in
      let choice : Body = front (after 2 (here Z).body) in
      let then : After 𝓤 H = any_q (after_seq 𝓤 H (Wp 𝓤 H C Λ En (after 3 (here Z).body) (at_return 𝓤 H En Post)) (at_return 𝓤 H En Post)) in
      sets ! (bin ! (get ! refl) (lit ! tt) (record { fits = bytes })) refl (tt, record { fits = bytes }) $ join ! $
      use1 𝓛 (raw ((Takes Z 𝓛 at_mem run).pre y)) (Takes-goes Z 𝓛 at_mem run κ q p r.now live (n * 8) 8 (word_block n) (block_size n bytes) (block_align n) bytes (lit< tt)) $
      calls_at ! fm (Takes Z 𝓛 at_mem run) takes y (and_then ! (get ! refl) (and_then ! (get ! refl) (and_then ! (lit ! tt) (no_more !)))) (λ v.
      use1 𝓛 (later (raw (Answered Z 𝓛 at_mem run r.now (word_block n) v) ⊛ ‵ (flft κ q))) (Takes-gives Z 𝓛 at_mem run κ q p r.now (n * 8) 8 (word_block n) v) $ await ! tt $ split ! $
      answers Z ! at_mem run r.now (word_block n) v
      (λ b o e. lands_as ! e refl (Answer-typed true b o) $
      first ! $ switches_on ! (get_tag ! (vrt ! refl (fld ! refl (stop !))) (whole !)) $ exec ! C Λ En (arm_body 0 choice) then $
      sets ! (of_opd ! (get_in ! (vrt ! refl (fld ! refl (stop !))) (in_variant ! 0 0 refl refl (whole !)))) refl (tt, tt) $
      sets ! (of_opd ! (get ! refl)) refl (tt, tt) $
      sets ! (agg ! (and_then ! (get ! refl) (no_more !))) refl (tt, (tt, tt)) $
      sets ! (agg ! (no_more !)) refl (tt, tt) $
      sets ! (agg ! (and_then ! (get ! refl) (no_more !))) refl (tt, (tt, tt)) $
      sets ! (agg ! (and_then ! (get ! refl) (and_then ! (get ! refl) (no_more !)))) refl (tt, ((tt, tt), ((tt, tt), tt))) $
      sets_last ! (agg ! (and_then ! (lit ! tt) (and_then ! (get ! refl) (no_more !)))) refl (tt, (record { fits = lit< tt }, (((tt, tt), ((tt, tt), tt)), tt))) $
      exec ! C Λ En (after 3 (here Z).body) (at_ret En Post) $ sets ! (of_opd ! (get ! refl)) refl (tt, (record { fits = lit< tt }, (((tt, tt), ((tt, tt), tt)), tt))) $
      returns ! (look_at ! 0 refl) $ free_all ! refl $ by ! (given b o))
      (λ e. lands_as ! e refl (Answer-typed false 0 0) $
      first ! $ switches_on ! (get_tag ! (vrt ! refl (fld ! refl (stop !))) (whole !)) $ exec ! C Λ En (arm_body 1 choice) then $
      sets ! (of_opd ! (get_in ! (vrt ! refl (fld ! refl (stop !))) (in_variant ! 1 0 refl refl (whole !)))) refl (tt, tt) $
      sets_last ! (agg ! (and_then ! (lit ! tt) (and_then ! (get ! refl) (no_more !)))) refl (tt, (record { fits = lit< tt }, (tt, tt))) $
      exec ! C Λ En (after 3 (here Z).body) (at_ret En Post) $ sets ! (of_opd ! (get ! refl)) refl (tt, (record { fits = lit< tt }, (tt, tt))) $
      returns ! (look_at ! 0 refl) $ free_all ! refl $ by ! refused)))))

pub allocate_spec : {M : Type 1} → statement M
unfolding tables_of
allocate_spec 𝓤 𝓛 𝓜 𝓡 wired X L g d dd met _ =
    let Z : Al = record { row = X; laws = L; g = g; d = d; drops = dd } in
    let 𝓣 : Tables 𝓤 𝓛.H = tables_of 𝓤 𝓛.H 𝓜 (tables 𝓤 𝓛.H 𝓜 𝓡 𝓡.env) in
    let c = f.clauses X g d dd 𝓛 𝓜.mem 𝓡.returns in
    entered 𝓤 𝓛.H (triple_of 𝓛 (f.signature X g d dd) (f.spec X g d dd 𝓛 𝓜.mem 𝓡.returns)) 𝓣.C 𝓣.Λ (key.name (args Z)) (here Z) (code.unfolded 𝓤 𝓛.H 𝓜 𝓡 wired (X, tt) d dd)
    (walk_Meets 𝓛 (ended Z) (stayed Z) (Goes-dropped 𝓛 2 (handle Z) yes (λ κs x w. refl), (Goes-dropped 𝓛 2 (plain (λ _. usize)) yes (λ κs x w. refl), tt))
    c (WpFn 𝓤 𝓛.H 𝓣.C 𝓣.Λ (here Z)) (WpFn-mono 𝓤 𝓛.H 𝓛.laws 𝓣 (here Z))
    (walked 𝓛 (ended Z) (stayed Z) c (WpFn 𝓤 𝓛.H 𝓣.C 𝓣.Λ (here Z)) (λ κs. (shr_vals, (uint_vals w64, tt))) (λ κs. ((λ x vs is. is.0), (uint_Tells w64, tt)))
    (λ κs qs bounds a _ are. walk Z 𝓛 𝓜.mem 𝓡.returns 𝓣.C 𝓣.Λ (fm_of 𝓤 𝓛.H 𝓛.laws 𝓣) (met.allocate dd) κs.0 κs.1.0 qs.0 qs.1.0 bounds.0 a.0 a.1.0 are.1.0.1)))

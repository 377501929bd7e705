-- Words side by side in a block, and the room behind them. Assumes `Logic`.
use mathlib.Core.Path.{◌≡◌, refl, sym, ◌∙◌}
use Prim.Native.Nat.{ℕ, zero, suc, ◌+◌, ◌-◌, ◌*◌, ◌<◌}
use native.Mathlib.Nat.{add_comm}
use native.Mathlib.Omega.{arith}
use mathlib.Core.List.{List, [], ◌∷◌, ◌++◌}
use lib.ListN.{length, take, take-append-drop}
use lib.ListN.{drop as drop_l}
use seplogic.Ra.Ura.{Ura}
use base.Fraction.{full_share}
use mir.Syntax.{ty_int, w64}
use base.Logic.{SProp, ent, sep, emp, via, mono_r, mono∗, emp∗, snd∗, assoc∗, assoc'}
use base.Fml.{Fml, feq, fsep, fat, froom}
use types.Logic.{Logic, sem}
use types.Kit.{‵, ◌⊛◌, ◌$◌, ◌∵◌, !, qed, by, move, use1, use2, split, rewrite, fsplit, fjoin, feq_i, feq_l, done}
use denote.Memory.{part_at}
use denote.Array.{Array}
use denote.ArrayMemory.{Array-apart, Array-whole}
use denote.Builtin.{u64}
use denote.Index.{place, place_is, row}
use denote.Plain.{uint_in, uint_out}
use denote.RawPtr.Room.{past, room_glue}
use denote.Steps.{nothing}
use mir.Val.{vint}
use Rattle.raw_words.specs.Ownership.{word_block}

-- the words xs from the place on, and room for so many
abbrev pub words_at : List ℕ → ℕ → ℕ → Fml
words_at xs b o = row u64 full_share xs b o

abbrev pub room_of : ℕ → ℕ → ℕ → Fml
room_of n b o = froom (word_block n) b o

module _ {M : Type 1} {𝓤 : Ura M} (𝓛 : Logic 𝓤) where
  abbrev ◌⊢◌ : SProp 𝓤 → SProp 𝓤 → Type 1
  P ⊢ Q = ent 𝓤 P Q

  abbrev ◌∗◌ : SProp 𝓤 → SProp 𝓤 → SProp 𝓤
  P ∗ Q = sep 𝓤 P Q

  abbrev ⟦◌⟧ : Fml → SProp 𝓤
  ⟦ P ⟧ = sem 𝓛 P

  infix 26 ◌⊢◌
  infixr 35 ◌∗◌
  -- a row is an array of its length, and the other way round
  pub apart : (xs : List ℕ) (b o : ℕ) → ⟦ part_at (Array u64 (length xs)) full_share xs b o ⟧ ⊢ ⟦ words_at xs b o ⟧
  apart xs b o =
      qed 𝓛 (‵ (part_at (Array u64 (length xs)) full_share xs b o) ∷ []) ∵
      use1 𝓛 (‵ (fsep (feq ℕ (length xs) (length xs)) (words_at xs b o))) (Array-apart 𝓛 u64 full_share tt (length xs) xs b o) $ fsplit ! $ feq_l ! (λ _. done !)

  pub whole : (xs : List ℕ) (b o : ℕ) → ⟦ words_at xs b o ⟧ ⊢ ⟦ part_at (Array u64 (length xs)) full_share xs b o ⟧
  whole xs b o =
      qed 𝓛 (‵ (words_at xs b o) ∷ []) ∵ feq_i ! ℕ (length xs) (length xs) refl $ fjoin ! $ by ! (Array-whole 𝓛 u64 full_share (length xs) xs b o)

  -- two rows, one behind the other
  pub cut : (xs ys : List ℕ) (b o : ℕ) → ⟦ words_at (xs ++ ys) b o ⟧ ⊢ ⟦ words_at xs b o ⟧ ∗ ⟦ words_at ys b (place 8 o (length xs)) ⟧
  cut [] ys b o = emp∗ 𝓤 ⟦ words_at ys b o ⟧
  cut (x ∷ xs) ys b o =
      let first : SProp 𝓤 = ⟦ part_at u64 full_share x b o ⟧ in
      via 𝓤 (first ∗ (⟦ words_at xs b (o + 8) ⟧ ∗ ⟦ words_at ys b (place 8 (o + 8) (length xs)) ⟧)) (mono_r 𝓤 first (cut xs ys b (o + 8)))
      (assoc' 𝓤 first ⟦ words_at xs b (o + 8) ⟧ ⟦ words_at ys b (place 8 (o + 8) (length xs)) ⟧)

  pub glue : (xs ys : List ℕ) (b o : ℕ) → ⟦ words_at xs b o ⟧ ∗ ⟦ words_at ys b (place 8 o (length xs)) ⟧ ⊢ ⟦ words_at (xs ++ ys) b o ⟧
  glue [] ys b o = snd∗ 𝓤 (emp 𝓤) ⟦ words_at ys b o ⟧
  glue (x ∷ xs) ys b o =
      let first : SProp 𝓤 = ⟦ part_at u64 full_share x b o ⟧ in
      via 𝓤 (first ∗ (⟦ words_at xs b (o + 8) ⟧ ∗ ⟦ words_at ys b (place 8 (o + 8) (length xs)) ⟧))
      (assoc∗ 𝓤 first ⟦ words_at xs b (o + 8) ⟧ ⟦ words_at ys b (place 8 (o + 8) (length xs)) ⟧) (mono_r 𝓤 first (glue xs ys b (o + 8)))

  -- a place that held a word is room again
  pub emptied : (xs : List ℕ) (b o : ℕ) → ⟦ words_at xs b o ⟧ ⊢ ⟦ room_of (length xs) b o ⟧
  emptied [] b o = 𝓛.laws.room_nil (ty_int w64) b o
  emptied (x ∷ xs) b o =
      via 𝓤 (⟦ froom (ty_int w64) b o ⟧ ∗ ⟦ room_of (length xs) b (o + 8) ⟧)
      (mono∗ 𝓤 (via 𝓤 ⟦ fat full_share (ty_int w64) b o (vint w64 x) ⟧ (uint_out 𝓛 full_share w64 x b o) (𝓛.laws.at_room (ty_int w64) b o (vint w64 x))) (emptied xs b (o + 8)))
      (𝓛.laws.room_cons (ty_int w64) (length xs) b o)

  past_is : (n o : ℕ) → past (ty_int w64) n o ≡ o + n * 8
  past_is zero o = omega arith
  past_is (suc n) o = past_is n (o + 8) ∙ omega arith

  -- words with room behind them are room
  pub all_room : (xs : List ℕ) (m b o : ℕ) → ⟦ words_at xs b o ⟧ ∗ ⟦ room_of m b (o + length xs * 8) ⟧ ⊢ ⟦ room_of (length xs + m) b o ⟧
  all_room xs m b o =
      qed 𝓛 (‵ (words_at xs b o) ∷ ‵ (room_of m b (o + length xs * 8)) ∷ []) ∵ use1 𝓛 (‵ (room_of (length xs) b o)) (emptied xs b o) $
      rewrite ! 1 (λ (k : ℕ). ‵ (room_of m b k)) (sym (past_is (length xs) o)) refl $ by ! (room_glue 𝓛 (ty_int w64) (length xs) m b o)

  -- the first place behind n words
  pub next_place : (n m b o : ℕ) → 0 < m → ⟦ room_of m b (o + n * 8) ⟧ ⊢ ⟦ froom (ty_int w64) b (n * 8 + o) ⟧ ∗ ⟦ room_of (m - 1) b (o + (n + 1) * 8) ⟧
  next_place n m b o some =
      let more : suc (m - 1) ≡ m = omega arith in
      let next : o + n * 8 + 8 ≡ o + (n + 1) * 8 = omega arith in
      qed 𝓛 (‵ (room_of m b (o + n * 8)) ∷ []) ∵
      rewrite ! 0 (λ (k : ℕ). ‵ (room_of k b (o + n * 8))) (sym more) refl $
      use1 𝓛 (‵ (froom (ty_int w64) b (o + n * 8)) ⊛ ‵ (room_of (m - 1) b (o + n * 8 + 8))) (𝓛.laws.room_uncons (ty_int w64) (m - 1) b (o + n * 8)) $ split ! $
      rewrite ! 0 (λ (k : ℕ). ‵ (froom (ty_int w64) b k)) (add_comm o (n * 8)) refl $ rewrite ! 1 (λ (k : ℕ). ‵ (room_of (m - 1) b k)) next refl $ done !

  -- one more word behind the others
  pub one_more : (xs : List ℕ) (x b o : ℕ) → ⟦ part_at (Array u64 (length xs)) full_share xs b o ⟧ ∗ ⟦ fat full_share (ty_int w64) b (length xs * 8 + o) (vint w64 x) ⟧
      ⊢ ⟦ part_at (Array u64 (length (xs ++ x ∷ []))) full_share (xs ++ x ∷ []) b o ⟧
  one_more xs x b o =
      qed 𝓛 (‵ (part_at (Array u64 (length xs)) full_share xs b o) ∷ ‵ (fat full_share (ty_int w64) b (length xs * 8 + o) (vint w64 x)) ∷ []) ∵
      use1 𝓛 (‵ (words_at xs b o)) (apart xs b o) $ move ! (1 ∷ []) $
      use1 𝓛 (‵ (part_at u64 full_share x b (length xs * 8 + o))) (uint_in 𝓛 full_share w64 x b (length xs * 8 + o)) $
      rewrite ! 0 (λ (k : ℕ). ‵ (part_at u64 full_share x b k)) (sym (place_is 8 o (length xs))) refl $ nothing ! $ move ! (1 ∷ 0 ∷ []) $ fjoin ! $ move ! (1 ∷ 0 ∷ []) $
      use2 𝓛 (‵ (words_at (xs ++ x ∷ []) b o)) (glue xs (x ∷ []) b o) $ by ! (whole (xs ++ x ∷ []) b o)

  -- the first words, and the others
  pub front_out : (n : ℕ) (xs : List ℕ) (b o : ℕ) → ⟦ part_at (Array u64 (length xs)) full_share xs b o ⟧
      ⊢ ⟦ words_at (take n xs) b o ⟧ ∗ ⟦ words_at (drop_l n xs) b (place 8 o (length (take n xs))) ⟧
  front_out n xs b o =
      qed 𝓛 (‵ (part_at (Array u64 (length xs)) full_share xs b o) ∷ []) ∵ use1 𝓛 (‵ (words_at xs b o)) (apart xs b o) $
      rewrite ! 0 (λ (l : List ℕ). ‵ (words_at l b o)) (sym (take-append-drop n xs)) refl $ by ! (cut (take n xs) (drop_l n xs) b o)

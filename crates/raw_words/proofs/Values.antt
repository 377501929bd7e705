-- A block and a deed as values: the machine value of each, and what owning it is made of. Assumes `Logic`.
use mathlib.Core.Path.{refl, sym}
use Prim.Native.Nat.{ℕ}
use mathlib.Core.List.{List, [], ◌∷◌}
use seplogic.Ra.Ura.{Ura}
use base.Logic.{ent, sep, emp, id⊢}
use base.Fraction.{full_share}
use native.Mathlib.Nat.{add-zero}
use mir.Val.{Val, vptr, vstruct, vcons, vnil}
use types.Logic.{Logic, sem}
use types.Kit.{‵, ◌$◌, ◌∵◌, !, qed, move, use0, use1, rewrite, fjoin, fpack, feq_i, done}
use denote.Array.{Array}
use denote.Builtin.{u64}
use denote.Memory.{part_at}
use denote.Param.{param}
use denote.RattleType.{RattleType, Valss}
use denote.RawPtr.{Ptr, RawPtr, block_ptr}
use denote.Shadow.{makes_shadow}
use denote.Steps.{nothing}
use denote.Struct.Struct.{within}
use denote.Struct.Declared.{shape as declared_shape}
use denote.Struct.Owning.{shape}
use denote.Struct.Tuple.{Tuple, tuple_type}
use Rattle.std.proofs.alloc.Calls.{Al, token}
use Rattle.std.specs.contracts.marker.PhantomData as marker
use Rattle.raw_words.specs.Ownership.{owns_words, word_block}
use Rattle.raw_words.specs.declared.block.Block.{Block}
use Rattle.raw_words.specs.contracts.block.Block.{the_row, the_type}
use Rattle.raw_words.specs.contracts.block.Deed as D
use Rattle.raw_words.proofs.Memory.{room_of, words_at, whole}

-- a block whose first place lies there
abbrev pub block_of : ℕ → ℕ → List ℕ → ℕ → Block
block_of b o words room = record { first = block_ptr b o; words = words; room = room }

abbrev pub block_val : ℕ → ℕ → Val
block_val b o = vstruct (vcons (vptr b o) vnil)

pub block_made : {M : Type 1} {𝓤 : Ura M} (𝓛 : Logic 𝓤) (b o : ℕ) (words : List ℕ) (room : ℕ)
    → ent 𝓤 (sem 𝓛 (owns_words (block_ptr b o) words room)) (sem 𝓛 (the_row.own_val (block_of b o words room) (block_val b o ∷ [])))
block_made 𝓛 b o words room =
    qed 𝓛 (‵ (owns_words (block_ptr b o) words room) ∷ []) ∵
    nothing ! $ feq_i ! (List Val) (vptr b o ∷ []) (vptr b o ∷ []) refl $ fjoin ! $ feq_i ! (List Val) (block_val b o ∷ []) (block_val b o ∷ []) refl $ fjoin ! $
    fpack ! (Valss (RawPtr ∷ [])) (within (shape the_type) (block_ptr b o, tt) (block_val b o ∷ [])) (vptr b o ∷ [], tt) $ fjoin ! $ done !

-- a deed has no bytes
abbrev pub deed_val : Val
deed_val = vstruct (vcons (vstruct vnil) vnil)

abbrev pub grant_val : ℕ → ℕ → Val
grant_val b o = vstruct (vcons (block_val b o) (vcons deed_val vnil))

module _ (Z : Al) where
  abbrev pub deed_row : RattleType
  deed_row = D.the_row (param 0 Z.row) Z.g

  abbrev pub deed_of : Z.row.Denot → ℕ → Ptr → deed_row.Denot
  deed_of handle places at = record { mark = record {}; at = at; places = places; alloc = handle }

  -- what `allocate` answers
  abbrev pub Grant : RattleType
  Grant = Tuple (the_row ∷ deed_row ∷ [])

  module _ {M : Type 1} {𝓤 : Ura M} (𝓛 : Logic 𝓤) (handle : Z.row.Denot) (places b o : ℕ) where
    deed_made : ent 𝓤 (sem 𝓛 (token Z handle (word_block places) (block_ptr b o))) (sem 𝓛 (deed_row.own_val (deed_of handle places (block_ptr b o)) (deed_val ∷ [])))
    deed_made =
        let Mark : RattleType = marker.the_row (param 0 Z.row) in
        qed 𝓛 (‵ (token Z handle (word_block places) (block_ptr b o)) ∷ []) ∵ nothing ! $
        use0 𝓛 (‵ (Mark.own_val (record {}) (vstruct vnil ∷ []))) (makes_shadow 𝓛 (Mark.own_val (record {}) (vstruct vnil ∷ [])) (λ _. (tt, tt)) (tt, (refl, tt))) $ fjoin ! $
        feq_i ! (List Val) (deed_val ∷ []) (deed_val ∷ []) refl $ fjoin ! $
        fpack ! (Valss (Mark ∷ [])) (within (shape (D.the_type (param 0 Z.row) Z.g)) (record {}, tt) (deed_val ∷ [])) (vstruct vnil ∷ [], tt) $ fjoin ! $ done !

    -- no word is written yet, and the right to give the block back goes with it
    pub granted : ent 𝓤 (sep 𝓤 (sem 𝓛 (room_of places b o)) (sem 𝓛 (token Z handle (word_block places) (block_ptr b o))))
        (sem 𝓛 (Grant.own_val (block_of b o [] places, deed_of handle places (block_ptr b o)) (grant_val b o ∷ [])))
    granted =
        qed 𝓛 (‵ (room_of places b o) ∷ ‵ (token Z handle (word_block places) (block_ptr b o)) ∷ []) ∵
        rewrite ! 0 (λ (k : ℕ). ‵ (room_of places b k)) (sym (add-zero o)) refl $
        use0 𝓛 (‵ (words_at [] b o)) (id⊢ 𝓤 (emp 𝓤)) $ use1 𝓛 (‵ (part_at (Array u64 0) full_share [] b o)) (whole 𝓛 [] b o) $ fjoin ! $
        use1 𝓛 (‵ (the_row.own_val (block_of b o [] places) (block_val b o ∷ []))) (block_made 𝓛 b o [] places) $ move ! (1 ∷ []) $
        use1 𝓛 (‵ (deed_row.own_val (deed_of handle places (block_ptr b o)) (deed_val ∷ []))) deed_made $
        nothing ! $ move ! (1 ∷ 0 ∷ []) $ fjoin ! $ move ! (1 ∷ 0 ∷ []) $ fjoin ! $ feq_i ! (List Val) (grant_val b o ∷ []) (grant_val b o ∷ []) refl $ fjoin ! $
        fpack ! (Valss (the_row ∷ deed_row ∷ [])) (within (declared_shape (tuple_type (the_row ∷ deed_row ∷ []))) (block_of b o [] places, (deed_of handle places (block_ptr b o), tt)) (grant_val b o ∷ [])) (block_val b o ∷ [], (deed_val ∷ [], tt)) $ done !

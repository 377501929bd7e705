-- The published states of a chain stand in one line: the model of each grows those of the earlier ones.
use Rattle.std.proofs.Common.{◌≡◌, ◌≤◌, ◌<◌, ◌+◌, ℕ, zero, suc, inl, inr, refl, ap, subst, arith}
use Rattle.std.specs.Prelude.{IsTrue}
use Rattle.schema_model.specs.Growth.{Grows, ModelsAgree}
use Rattle.schema_growth.proofs.Growths.{grown_agrees, grows_further, grows_itself, models_agree_back}
use Rattle.written_laws.specs.Chain.{Chain, ChainState, HasVersion, IsChain}
use Rattle.written_laws.proofs.ChainSteps.{one_state}

-- where two numbers stand to each other
data Order (p q : ℕ) : Type 0 where
  Less : p < q → Order p q
  Same : p ≡ q → Order p q
  More : q < p → Order p q

order : (p q : ℕ) → Order p q
order zero zero = Same refl
order zero (suc q) = Less (omega arith)
order (suc p) zero = More (omega arith)
order (suc p) (suc q) = elim (order p q) [ Less less ↦ Less (omega (arith, less)) | Same same ↦ Same (ap suc same) | More more ↦ More (omega (arith, more)) ]

module _ (chain : Chain) (is : IsChain chain) where
  -- a published state that follows a version above 0 follows a published state
  parent_there : (v : ℕ) (b : ChainState) → HasVersion chain v b → 0 < b.parent → (before : ChainState) × HasVersion chain b.parent before × IsTrue before.published × (b.parent < v) × Grows before.model b.model
  parent_there v b at_v some =
      elim (is.follow v b at_v) [ inl root ↦ absurd (omega (arith, root, some)) | inr follows ↦ (follows.before, follows.there, follows.published, follows.earlier, follows.model) ]

  -- between a published state and the one that it follows there is no other published one
  none_between : (fuel u v : ℕ) (a b : ChainState) → u + v ≤ fuel → HasVersion chain u a → HasVersion chain v b → IsTrue a.published → IsTrue b.published → b.parent < u → u < v → ⊥
  none_between zero u v a b long at_u at_v one other above below = omega (arith, long, below)
  none_between (suc fuel) u v a b long at_u at_v one other above below =
      elim (order a.parent b.parent) [
        | Less less ↦
            let (before, there, published, earlier, grows) = parent_there v b at_v (omega (arith, less)) in
            none_between fuel b.parent u before a (omega (arith, long, above, below)) there at_u published one less above
        | Same same ↦ let equal = is.line u v a b at_u at_v one other same in omega (arith, equal, below)
        | More more ↦
            let (before, there, published, earlier, grows) = parent_there u a at_u (omega (arith, more)) in
            none_between fuel a.parent v before b (omega (arith, long, earlier)) there at_v published other more (omega (arith, earlier, below))
      ]

  same_grows : (u v : ℕ) (a b : ChainState) → HasVersion chain u a → HasVersion chain v b → u ≡ v → Grows a.model b.model
  same_grows u v a b at_u at_v same =
      let equal : a ≡ b = one_state chain v a b (subst (λ (x : ℕ). HasVersion chain x a) same at_u) at_v in
      subst (λ (s : ChainState). Grows a.model s.model) equal (grows_itself a.model)

  line_grows : (fuel u v : ℕ) (a b : ChainState) → v ≤ fuel → HasVersion chain u a → HasVersion chain v b → IsTrue a.published → IsTrue b.published → u ≤ v → Grows a.model b.model
  line_grows zero u v a b long at_u at_v one other below = same_grows u v a b at_u at_v (omega (arith, long, below))
  line_grows (suc fuel) u v a b long at_u at_v one other below =
      elim (order u v) [
        | Same same ↦ same_grows u v a b at_u at_v same
        | More more ↦ absurd (omega (arith, more, below))
        | Less less ↦ elim (order b.parent u) [
          | Less above ↦ absurd (none_between (u + v) u v a b (omega arith) at_u at_v one other above less)
          | Same reaches ↦
              let some = (is.versions u a at_u).0 in
              let (before, there, published, earlier, grows) = parent_there v b at_v (omega (arith, reaches, some)) in
              grows_further a.model before.model b.model (line_grows fuel u b.parent a before (omega (arith, earlier, long)) at_u there one published (omega (arith, reaches))) grows
          | More reaches ↦
              let (before, there, published, earlier, grows) = parent_there v b at_v (omega (arith, reaches)) in
              grows_further a.model before.model b.model (line_grows fuel u b.parent a before (omega (arith, earlier, long)) at_u there one published (omega (arith, reaches))) grows
        ]
      ]

pub published_grow : (chain : Chain) (u v : ℕ) (a b : ChainState) → IsChain chain → HasVersion chain u a → HasVersion chain v b → IsTrue a.published → IsTrue b.published → u ≤ v → Grows a.model b.model
published_grow chain u v a b is at_u at_v one other below = line_grows chain is v u v a b (omega arith) at_u at_v one other below

pub published_agree : (chain : Chain) (u v : ℕ) (a b : ChainState) → IsChain chain → HasVersion chain u a → HasVersion chain v b → IsTrue a.published → IsTrue b.published → ModelsAgree a.model b.model
published_agree chain u v a b is at_u at_v one other =
    elim (order u v) [
      | Less below ↦ grown_agrees a.model b.model (is.sound v b at_v).model (published_grow chain u v a b is at_u at_v one other (omega (arith, below)))
      | Same same ↦ grown_agrees a.model b.model (is.sound v b at_v).model (published_grow chain u v a b is at_u at_v one other (omega (arith, same)))
      | More above ↦
          models_agree_back b.model a.model (grown_agrees b.model a.model (is.sound u a at_u).model (published_grow chain v u b a is at_v at_u other one (omega (arith, above))))
    ]

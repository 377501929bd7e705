-- Reading so many of one part, one behind the other.
use Rattle.std.proofs.Common.{◌≡◌, ◌≤◌, ◌<◌, ◌+◌, ◌-◌, ℕ, suc, List, [], ◌∷◌, ◌++◌, Result, Ok, Err, refl, subst, sym, ap, arith, append_assoc, append-nil}
use Rattle.blob_frame.specs.declared.fault.BlobFault.{BlobFault}
use Rattle.blob_frame.specs.declared.fault.BlobFault.TheVariants as fault
use Rattle.blob_grammar.specs.Form.{Form, repeated, counted}
use Rattle.blob_cursor.specs.Scene.{Scene, Stays, IsOver, Reads}
use Rattle.blob_cursor.proofs.Chain.{reads_then, reads_stops, reads_nothing, reads_free, stays_here, stays_then}

-- the answer, with these in front of what it found
unfoldable pub prefixed : {V : Type 0} → List V → Result (List V) BlobFault → Result (List V) BlobFault
prefixed list (Ok xs) = Ok (list ++ xs)
prefixed list (Err e) = Err e

-- some of the parts are read, and what is read of the others belongs behind them
pub record Counts {V : Type 0} (form : Form V) (count done : ℕ) (before now : Scene) (list : List V) : Type 0 where
  pub stays : Stays before now
  pub over : IsOver now
  pub rest : (r : Result (List V) BlobFault) (end : Scene) → Reads (repeated (count - done) form) now end r → Reads (repeated count form) before end (prefixed list r)

pub prefixed_none : {V : Type 0} (r : Result (List V) BlobFault) → r ≡ prefixed [] r
unfolding prefixed
prefixed_none (Ok xs) = refl
prefixed_none (Err e) = refl

pub prefixed_more : {V : Type 0} (list : List V) (x : V) (r : Result (List V) BlobFault) → prefixed list (prefixed (x ∷ []) r) ≡ prefixed (list ++ x ∷ []) r
unfolding prefixed
prefixed_more list x (Ok xs) = ap Ok (sym (append_assoc list (x ∷ []) xs))
prefixed_more list x (Err e) = refl

pub counts_start : {V : Type 0} {form : Form V} (count : ℕ) {now : Scene} {list : List V} → IsOver now → list ≡ [] → Counts form count 0 now now list
counts_start {V} {form} count {now} {list} over is = subst (λ (list : List V). Counts form count 0 now now list) (sym is) (record {
  stays = stays_here now;
  over = over;
  rest = λ r end p. subst (λ r. Reads (repeated count form) now end r) (prefixed_none r) (subst (λ n. Reads (repeated n form) now end r) (omega arith) p);
})

one_more : {V : Type 0} {form : Form V} {x : V} {now mid end : Scene} (n : ℕ) (r : Result (List V) BlobFault) → Reads form now mid (Ok x) → Reads (repeated n form) mid end r →
    Reads (repeated (suc n) form) now end (prefixed (x ∷ []) r)
unfolding prefixed repeated
one_more n (Ok xs) p q = reads_then _ p (reads_then _ q (reads_nothing q.over))
one_more n (Err e) p q = reads_then _ p (reads_stops _ q refl)

-- one more is read
pub counts_more : {V : Type 0} {form : Form V} {count done : ℕ} {before now mid : Scene} {list all : List V} {x : V} → done < count → Counts form count done before now list →
    Reads form now mid (Ok x) → all ≡ list ++ x ∷ [] → Counts form count (done + 1) before mid all
counts_more {V} {form} {count} {done} {before} {now} {mid} {list} {all} {x} h c p is = subst (λ (all : List V). Counts form count (done + 1) before mid all) (sym is) (record {
  stays = stays_then c.stays p.stays;
  over = p.over;
  rest = λ r end q. subst (λ r. Reads (repeated count form) before end r) (prefixed_more list x r)
      (c.rest (prefixed (x ∷ []) r) end (subst (λ n. Reads (repeated n form) now end (prefixed (x ∷ []) r)) (omega arith) (one_more (count - (done + 1)) r p q)));
})

stop_here : {V : Type 0} {form : Form V} {now mid : Scene} (n : ℕ) (e : BlobFault) → Reads form now mid (Err e) → Reads (repeated (suc n) form) now mid (Err e)
unfolding repeated
stop_here n e p = reads_stops _ p refl

-- the next one stops the whole
pub counts_stops : {V : Type 0} {form : Form V} {count done : ℕ} {before now mid : Scene} {list : List V} {e : BlobFault} {r : Result (List V) BlobFault} → done < count →
    Counts form count done before now list → Reads form now mid (Err e) → r ≡ Err e → Reads (repeated count form) before mid r
unfolding prefixed
counts_stops {V} {form} {count} {done} {before} {now} {mid} {list} {e} {r} h c p is = subst (λ r. Reads (repeated count form) before mid r) (sym is)
    (c.rest (Err e) mid (subst (λ n. Reads (repeated n form) now mid (Err e)) (omega arith) (stop_here (count - (done + 1)) e p)))

-- memory is refused on the way
pub counts_free : {V : Type 0} {form : Form V} (count : ℕ) {done : ℕ} {before now mid : Scene} {list : List V} {x : V} {r : Result (List V) BlobFault} →
    Counts form count done before now list → Reads form now mid (Ok x) → r ≡ Err fault.Memory → Reads (repeated count form) before mid r
counts_free count c p is = reads_free (stays_then c.stays p.stays) p.over is

none_left : {V : Type 0} (form : Form V) {now : Scene} (n : ℕ) → n ≡ 0 → IsOver now → Reads (repeated n form) now now (Ok [])
unfolding repeated
none_left {V} form {now} n is over = subst (λ n. Reads (repeated n form) now now (Ok [])) (sym is) (reads_nothing over)

-- all are read
pub counts_done : {V : Type 0} {form : Form V} {count done : ℕ} {before now : Scene} {list : List V} → Counts form count done before now list → count ≤ done →
    Reads (repeated count form) before now (Ok list)
unfolding prefixed
counts_done {V} {form} {count} {done} {before} {now} {list} c h =
    subst (λ (xs : List V). Reads (repeated count form) before now (Ok xs)) (append-nil list) (c.rest (Ok []) now (none_left form (count - done) (omega arith) c.over))

-- a number is read, and then as many parts
pub reads_counted : {A : Type 0} {number : Form ℕ} (form : Form A) {before mid after : Scene} {n m : ℕ} {r : Result (List A) BlobFault} →
    Reads number before mid (Ok n) → m ≡ n → Reads (repeated m form) mid after r → Reads (counted number form) before after r
unfolding counted
reads_counted form {mid = mid} {after = after} {r = r} p is q = reads_then _ p (subst (λ n. Reads (repeated n form) mid after r) is q)

-- the number cannot be read
pub reads_uncounted : {A : Type 0} {number : Form ℕ} (form : Form A) {before after : Scene} {e : BlobFault} {r : Result (List A) BlobFault} →
    Reads number before after (Err e) → r ≡ Err e → Reads (counted number form) before after r
unfolding counted
reads_uncounted form p is = reads_stops _ p is

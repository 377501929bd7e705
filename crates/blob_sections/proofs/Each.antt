-- Reading for each of some things what it calls for, one behind the other.
use Rattle.std.proofs.Common.{◌≡◌, ◌≤◌, ◌<◌, ◌+◌, ℕ, suc, List, [], ◌∷◌, ◌++◌, length, take, drop, get_or, Result, Ok, Err, refl, ◌∙◌, subst, sym, ap, append-nil, drop-cons, add-one}
use Rattle.std.specs.List.{AllZip}
use Rattle.std.proofs.lemmas.List.{take_more, take_all, drop_all}
use Rattle.std.proofs.lemmas.Slice.Zip.{all_zipped_more}
use Rattle.blob_grammar.specs.Form.{Form, each_of}
use Rattle.blob_frame.specs.declared.fault.BlobFault.{BlobFault}
use Rattle.blob_frame.specs.declared.fault.BlobFault.TheVariants as fault
use Rattle.blob_cursor.specs.Scene.{Scene, Stays, IsOver, Reads}
use Rattle.blob_cursor.proofs.Chain.{reads_then, reads_stops, reads_nothing, reads_free, stays_here, stays_then}
use Rattle.blob_cursor.proofs.Counting.{prefixed, prefixed_none, prefixed_more}

module _ {A B : Type 0} (f : A → Form B) (P : A → B → Type 0) where
  -- what some of them call for is read, and what is read for the others belongs behind it
  pub record Walks (items : List A) (done : ℕ) (before now : Scene) (list : List B) : Type 0 where
    pub stays : Stays before now
    pub over : IsOver now
    pub rest : (r : Result (List B) BlobFault) (end : Scene) → Reads (each_of f (drop done items)) now end r → Reads (each_of f items) before end (prefixed list r)
    pub each : AllZip P (take done items) list

-- the things from one on are it and those behind it
front : {A : Type 0} (items : List A) (done : ℕ) (item : A) → done < length items → item ≡ get_or items done item → drop done items ≡ item ∷ drop (done + 1) items
front items done item h is = rw add-one (drop-cons items done item h ∙ ap (λ x. x ∷ drop (suc done) items) (sym is))

more : {A : Type 0} (items : List A) (done : ℕ) (item : A) → done < length items → item ≡ get_or items done item → take (done + 1) items ≡ take done items ++ item ∷ []
more items done item h is = take_more items done item h ∙ ap (λ x. take done items ++ x ∷ []) (sym is)

module _ {A B : Type 0} (f : A → Form B) where
  one_more : (x : A) (xs : List A) {y : B} {now mid end : Scene} (r : Result (List B) BlobFault) → Reads (f x) now mid (Ok y) → Reads (each_of f xs) mid end r → Reads (each_of f (x ∷ xs)) now end (prefixed (y ∷ []) r)
  unfolding prefixed each_of
  one_more x xs (Ok ys) p q = reads_then _ p (reads_then _ q (reads_nothing q.over))
  one_more x xs (Err e) p q = reads_then _ p (reads_stops _ q refl)

  stop_here : (x : A) (xs : List A) {now mid : Scene} (e : BlobFault) → Reads (f x) now mid (Err e) → Reads (each_of f (x ∷ xs)) now mid (Err e)
  unfolding each_of
  stop_here x xs e p = reads_stops _ p refl

  none_left : (xs : List A) {now : Scene} → xs ≡ [] → IsOver now → Reads (each_of f xs) now now (Ok [])
  unfolding each_of
  none_left xs {now} is over = subst (λ (xs : List A). Reads (each_of f xs) now now (Ok [])) (sym is) (reads_nothing over)

module _ {A B : Type 0} {f : A → Form B} {P : A → B → Type 0} {items : List A} where
  pub walks_start : {now : Scene} {list : List B} → IsOver now → list ≡ [] → Walks f P items 0 now now list
  walks_start {now} over is = subst (λ (list : List B). Walks f P items 0 now now list) (sym is) (record {
    stays = stays_here now;
    over = over;
    rest = λ r end p. subst (λ r. Reads (each_of f items) now end r) (prefixed_none r) p;
    each = tt;
  })

  -- one more is read
  pub walks_more : {done : ℕ} {before now mid : Scene} {list all : List B} (x : A) {y : B} → done < length items → x ≡ get_or items done x →
      Walks f P items done before now list → Reads (f x) now mid (Ok y) → P x y → all ≡ list ++ y ∷ [] → Walks f P items (done + 1) before mid all
  walks_more {done} {before} {now} {mid} {list} x {y} h at w p fits is = subst (λ (all : List B). Walks f P items (done + 1) before mid all) (sym is) (record {
    stays = stays_then w.stays p.stays;
    over = p.over;
    rest = λ r end q. subst (λ r. Reads (each_of f items) before end r) (prefixed_more list y r)
        (w.rest (prefixed (y ∷ []) r) end (subst (λ (xs : List A). Reads (each_of f xs) now end (prefixed (y ∷ []) r)) (sym (front items done x h at)) (one_more f x (drop (done + 1) items) r p q)));
    each = subst (λ (xs : List A). AllZip P xs (list ++ y ∷ [])) (sym (more items done x h at)) (all_zipped_more P (take done items) list x y w.each fits);
  })

  -- the next one stops the whole
  pub walks_stops : {done : ℕ} {before now mid : Scene} {list : List B} (x : A) {e : BlobFault} {r : Result (List B) BlobFault} → done < length items → x ≡ get_or items done x →
      Walks f P items done before now list → Reads (f x) now mid (Err e) → r ≡ Err e → Reads (each_of f items) before mid r
  unfolding prefixed
  walks_stops {done} {before} {now} {mid} x {e} h at w p is = subst (λ r. Reads (each_of f items) before mid r) (sym is)
      (w.rest (Err e) mid (subst (λ (xs : List A). Reads (each_of f xs) now mid (Err e)) (sym (front items done x h at)) (stop_here f x (drop (done + 1) items) e p)))

  -- memory is refused on the way
  pub walks_free : {done : ℕ} {before now mid : Scene} {list : List B} (x : A) {y : B} {r : Result (List B) BlobFault} →
      Walks f P items done before now list → Reads (f x) now mid (Ok y) → r ≡ Err fault.Memory → Reads (each_of f items) before mid r
  walks_free x w p is = reads_free (stays_then w.stays p.stays) p.over is

  -- all are read
  pub walks_done : {done : ℕ} {before now : Scene} {list : List B} → Walks f P items done before now list → length items ≤ done → Reads (each_of f items) before now (Ok list)
  unfolding prefixed
  walks_done {done} {before} {now} {list} w h =
      subst (λ (xs : List B). Reads (each_of f items) before now (Ok xs)) (append-nil list) (w.rest (Ok []) now (none_left f (drop done items) (drop_all done items h) w.over))

  pub walks_each : {done : ℕ} {before now : Scene} {list : List B} → Walks f P items done before now list → length items ≤ done → AllZip P items list
  walks_each {done} {list = list} w h = subst (λ (xs : List A). AllZip P xs list) (take_all done items h) w.each

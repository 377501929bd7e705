-- What an answer of a reader tells, and reading one part of a blob after another.
use Rattle.std.proofs.Common.{◌≡◌, ◌≤◌, ℕ, List, Option, Some, None, Result, Ok, Err, refl, ◌∙◌, subst, sym, ap, inl, inr, arith}
use Rattle.hol_io.specs.Causes.{Rose}
use Rattle.hol_io.specs.Store.{told}
use Rattle.schema_model.specs.declared.reason.Reason.{Reason}
use Rattle.blob_frame.specs.declared.fault.BlobFault.{BlobFault}
use Rattle.blob_frame.specs.declared.fault.BlobFault.TheVariants as fault
use Rattle.blob_grammar.specs.Decided.{IsJudge}
use Rattle.blob_grammar.specs.Form.{Form, ◌>>=◌, nothing, judged, made}
use Rattle.blob_cursor.specs.Scene.{Scene, Stays, IsOver, Tells, Reads}

-- a cause stays one where the count goes on
pub rose_earlier : (a b c : ℕ) → a ≤ b → Rose b c → Rose a c
rose_earlier a b c h k = omega arith

-- nothing moved
pub stays_here : (now : Scene) → Stays now now
stays_here now = record { store = refl; puts = refl; later = omega arith; name = refl; size = refl }

pub stays_then : {before mid after : Scene} → Stays before mid → Stays mid after → Stays before after
stays_then {before} {mid} {after} p q = record {
  store = q.store ∙ p.store;
  puts = q.puts ∙ p.puts;
  later = omega (arith, p.later, q.later);
  name = q.name ∙ p.name;
  size = q.size ∙ p.size;
}

pub told_stays : {before mid : Scene} → Stays before mid → told mid.held mid.place.name ≡ told before.held before.place.name
told_stays {before} {mid} p = rw (p.store, p.name) refl

-- The content of the blob is told, and it is this.
abbrev pub Holds : Scene → List ℕ → Type 0
Holds now blob = told now.held now.place.name ≡ Some blob

tells_found : {V : Type 0} (form : Form V) (content : Option (List ℕ)) (at next : ℕ) (v : V) → ((blob : List ℕ) → content ≡ Some blob → form.Stands blob at v next) →
    Tells form content at (Ok v) next
tells_found form None at next v f = tt
tells_found form (Some blob) at next v f = f blob refl

tells_missed : {V : Type 0} (form : Form V) (content : Option (List ℕ)) (at next place : ℕ) (why : Reason) →
    ((blob : List ℕ) → content ≡ Some blob → form.Stuck blob at place why) → Tells form content at (Err (fault.Bad place why)) next
tells_missed form None at next place why f = tt
tells_missed form (Some blob) at next place why f = f blob refl

tells_free : {V : Type 0} (form : Form V) (content : Option (List ℕ)) (at next : ℕ) → Tells form content at (Err fault.Memory) next
tells_free form None at next = tt
tells_free form (Some blob) at next = tt

-- the part stands there
pub reads_found : {V : Type 0} {form : Form V} {before after : Scene} {v : V} {r : Result V BlobFault} → Stays before after → IsOver after →
    ((blob : List ℕ) → Holds before blob → form.Stands blob before.place.at v after.place.at) → r ≡ Ok v → Reads form before after r
reads_found {form = form} {before} {after} {v} stays over stands is = subst (λ r. Reads form before after r) (sym is) (record {
  stays = stays;
  over = over;
  cause = λ e. absurd (cc);
  kind = tt;
  tells = tells_found form (told before.held before.place.name) before.place.at after.place.at v stands;
})

-- reading it is stuck
pub reads_missed : {V : Type 0} {form : Form V} {before after : Scene} {place : ℕ} {why : Reason} {r : Result V BlobFault} → Stays before after → IsOver after →
    ((blob : List ℕ) → Holds before blob → form.Stuck blob before.place.at place why) → r ≡ Err (fault.Bad place why) → Reads form before after r
reads_missed {form = form} {before} {after} {place} {why} stays over stuck is = subst (λ r. Reads form before after r) (sym is) (record {
  stays = stays;
  over = over;
  cause = λ e. absurd (cc);
  kind = tt;
  tells = tells_missed form (told before.held before.place.name) before.place.at after.place.at place why stuck;
})

-- memory is refused on the way
pub reads_free : {V : Type 0} {form : Form V} {before after : Scene} {r : Result V BlobFault} → Stays before after → IsOver after → r ≡ Err fault.Memory → Reads form before after r
reads_free {form = form} {before} {after} stays over is = subst (λ r. Reads form before after r) (sym is) (record {
  stays = stays;
  over = over;
  cause = λ e. absurd (cc);
  kind = tt;
  tells = tells_free form (told before.held before.place.name) before.place.at after.place.at;
})

-- what was read stands
pub found_in : {V : Type 0} (form : Form V) {before after : Scene} {v : V} → Reads form before after (Ok v) → (blob : List ℕ) → Holds before blob →
    form.Stands blob before.place.at v after.place.at
found_in form {before} {after} {v} p blob holds = subst (λ content. Tells form content before.place.at (Ok v) after.place.at) holds p.tells

-- what was read of one part tells of another that stands there
pub reads_ok : {A B : Type 0} {a : Form A} {b : Form B} {before after : Scene} {x : A} {v : B} {r : Result B BlobFault} → Reads a before after (Ok x) →
    ((blob : List ℕ) → Holds before blob → a.Stands blob before.place.at x after.place.at → b.Stands blob before.place.at v after.place.at) →
    r ≡ Ok v → Reads b before after r
reads_ok {a = a} p f is = reads_found p.stays p.over (λ blob holds. f blob holds (found_in a p blob holds)) is

-- or of another that is stuck there
pub reads_bad : {A B : Type 0} {a : Form A} {b : Form B} {before after : Scene} {x : A} {place : ℕ} {why : Reason} {r : Result B BlobFault} → Reads a before after (Ok x) →
    ((blob : List ℕ) → Holds before blob → a.Stands blob before.place.at x after.place.at → b.Stuck blob before.place.at place why) →
    r ≡ Err (fault.Bad place why) → Reads b before after r
reads_bad {a = a} p f is = reads_missed p.stays p.over (λ blob holds. f blob holds (found_in a p blob holds)) is

tells_err : {A B : Type 0} (a : Form A) (b : Form B) (content : Option (List ℕ)) (at next : ℕ) (e : BlobFault) →
    ((blob : List ℕ) (place : ℕ) (why : Reason) → content ≡ Some blob → a.Stuck blob at place why → b.Stuck blob at place why) →
    Tells a content at (Err e) next → Tells b content at (Err e) next
tells_err a b None at next e f p = tt
tells_err a b (Some blob) at next (fault.Bad place why) f p = f blob place why refl p
tells_err a b (Some blob) at next _ f p = p

-- what stops one part stops another
pub reads_err : {A B : Type 0} {a : Form A} {b : Form B} {before after : Scene} {e : BlobFault} {r : Result B BlobFault} → Reads a before after (Err e) →
    ((blob : List ℕ) (place : ℕ) (why : Reason) → Holds before blob → a.Stuck blob before.place.at place why → b.Stuck blob before.place.at place why) →
    r ≡ Err e → Reads b before after r
reads_err {a = a} {b} {before} {after} {e} p f is = subst (λ r. Reads b before after r) (sym is) (record {
  stays = p.stays;
  over = p.over;
  cause = λ k. p.cause (ap Err (cc));
  kind = p.kind;
  tells = tells_err a b (told before.held before.place.name) before.place.at after.place.at e f p.tells;
})

tells_then : {A B : Type 0} (a : Form A) (b : A → Form B) (content : Option (List ℕ)) (at mid end : ℕ) (x : A) (r : Result B BlobFault) →
    Tells a content at (Ok x) mid → Tells (b x) content mid r end → Tells (a >>= b) content at r end
unfolding ◌>>=◌
tells_then a b None at mid end x r p q = tt
tells_then a b (Some blob) at mid end x (Ok v) p q = (x, mid, p, q)
tells_then a b (Some blob) at mid end x (Err (fault.Bad place why)) p q = inr (x, mid, p, q)
tells_then a b (Some blob) at mid end x (Err _) p q = q

-- what the first part's value calls for is read behind it
pub reads_then : {A B : Type 0} {a : Form A} (b : A → Form B) {before mid after : Scene} {x : A} {r : Result B BlobFault} →
    Reads a before mid (Ok x) → Reads (b x) mid after r → Reads (a >>= b) before after r
reads_then {a = a} b {before} {mid} {after} {x} {r} p q = record {
  stays = stays_then p.stays q.stays;
  over = q.over;
  cause = λ e. rose_earlier before.faults mid.faults after.faults p.stays.later (q.cause e);
  kind = q.kind;
  tells = tells_then a b (told before.held before.place.name) before.place.at mid.place.at after.place.at x r p.tells
      (subst (λ content. Tells (b x) content mid.place.at r after.place.at) (told_stays p.stays) q.tells);
}

-- what stops the first part stops the whole
pub reads_stops : {A B : Type 0} {a : Form A} (b : A → Form B) {before after : Scene} {e : BlobFault} {r : Result B BlobFault} →
    Reads a before after (Err e) → r ≡ Err e → Reads (a >>= b) before after r
unfolding ◌>>=◌
reads_stops b p is = reads_err p (λ blob place why holds stuck. inl stuck) is

-- nothing is left to read, and this is the value
pub reads_value : {A : Type 0} {v : A} {now : Scene} {r : Result A BlobFault} → IsOver now → r ≡ Ok v → Reads (nothing v) now now r
unfolding nothing
reads_value {v = v} {now} over is = reads_found (stays_here now) over (λ blob holds. (refl, refl)) is

pub reads_nothing : {A : Type 0} {v : A} {now : Scene} → IsOver now → Reads (nothing v) now now (Ok v)
reads_nothing over = reads_value over refl

-- the value that what was read means
pub reads_judged : {A B : Type 0} {a : Form A} (Means : A → B → Type 0) (F : A → Reason → Type 0) (J : IsJudge Means F) {before after : Scene} {x : A} {v : B} →
    Reads a before after (Ok x) → Means x v → Reads (judged a Means F J) before after (Ok v)
unfolding judged
reads_judged Means F J {x = x} p m = reads_ok p (λ blob holds stands. (x, stands, m)) refl

-- what is judged cannot be read
pub reads_unread : {A B : Type 0} {a : Form A} (Means : A → B → Type 0) (F : A → Reason → Type 0) (J : IsJudge Means F) {before after : Scene} {e : BlobFault} {r : Result B BlobFault} →
    Reads a before after (Err e) → r ≡ Err e → Reads (judged a Means F J) before after r
unfolding judged
reads_unread Means F J p is = reads_err p (λ blob place why holds stuck. inl stuck) is

-- what was read means nothing, and is refused at its own place
pub reads_refused : {A B : Type 0} {a : Form A} (Means : A → B → Type 0) (F : A → Reason → Type 0) (J : IsJudge Means F) {before after : Scene} {x : A} {why : Reason} {r : Result B BlobFault} →
    Reads a before after (Ok x) → F x why → r ≡ Err (fault.Bad before.place.at why) → Reads (judged a Means F J) before after r
unfolding judged
reads_refused Means F J {after = after} {x} p f is = reads_bad p (λ blob holds stands. inr (x, after.place.at, stands, refl, f)) is

pub reads_made : {A B : Type 0} {a : Form A} (f : A → B) {before after : Scene} {x : A} {r : Result B BlobFault} →
    Reads a before after (Ok x) → r ≡ Ok (f x) → Reads (made f a) before after r
unfolding made
reads_made f p is = reads_then _ p (reads_value p.over is)

pub reads_unmade : {A B : Type 0} {a : Form A} (f : A → B) {before after : Scene} {e : BlobFault} {r : Result B BlobFault} →
    Reads a before after (Err e) → r ≡ Err e → Reads (made f a) before after r
unfolding made
reads_unmade f p is = reads_stops _ p is

-- Rows of numbers and of headers, from what the reads of each answer.
use Rattle.std.proofs.Common.{◌≡◌, ℕ, zero, suc, ◌+◌, ◌-◌, ◌<◌, ◌≤◌, Bool, true, false, cond, eqb, List, [], ◌∷◌, ◌++◌, length, Ok, Err, refl, sym, ap, ◌∙◌, arith, append_assoc, append-nil}
use Rattle.readers.specs.declared.error.Error.{Error}
use Rattle.readers.specs.Outcome.{Outcome, answer, fault}
use Rattle.readers.specs.Reading.{Meaning, at}
use Rattle.readers.specs.Links.{Did, fault_is}
use Rattle.leb128.specs.Leb128.{unsigned_leb128, spelling}
use Rattle.mallethill.specs.declared.fault.Fault.{Fault}
use Rattle.mallethill.specs.Told.{no_fault, c_fault}
use Rattle.mallethill.specs.declared.header.SetHeader.{SetHeader}
use Rattle.mallethill.specs.Rows.{Row, ended_at, with_item}
use Rattle.mallethill.specs.Numbers.{row}
use Rattle.mallethill.specs.Headers.{set_header_at, headers_from}

-- a row behind some things
abbrev pub behind : {A : Type 0} → List A → Row A → Row A
behind done r = record { items = done ++ r.items; place = r.place; ended = r.ended }

pub behind_item : {A : Type 0} (done : List A) (x : A) (r : Row A) → behind done (with_item x r) ≡ behind (done ++ x ∷ []) r
behind_item {A} done x r = ap (λ (xs : List A). record { items = xs; place = r.place; ended = r.ended }) (sym (append_assoc done (x ∷ []) r.items))

-- where nothing stands behind them
pub behind_end : {A : Type 0} (done : List A) (p : ℕ) (f : Fault) → behind done (ended_at p f) ≡ record { items = done; place = p; ended = f }
behind_end {A} done p f = ap (λ (xs : List A). record { items = xs; place = p; ended = f }) (append-nil done)

abbrev row_by : ℕ → Meaning → Bool → Outcome ℕ → Meaning → Row ℕ
row_by n m e o a = cond e (ended_at m.id no_fault) (elim o [ answer x ↦ with_item x (row n a) | fault f ↦ ended_at m.id (c_fault f) ])

pub row_more : (n k : ℕ) (m a : Meaning) (x : ℕ) → k < n → eqb (length m.rest) 0 ≡ false → Did (λ (y : ℕ). y) (Ok x) a (unsigned_leb128 m)
    → row (n - k) m ≡ with_item x (row (n - (k + 1)) a)
row_more n k m a x h e d =
    let j : ℕ = n - (k + 1) in
    let s : n - k ≡ suc j = omega arith in
    ap (λ (i : ℕ). row i m) s ∙ ap (λ (t : Bool). row_by j m t (unsigned_leb128 m).outcome (unsigned_leb128 m).after) e
    ∙ ap (λ (o : Outcome ℕ). row_by j m false o (unsigned_leb128 m).after) (sym d.answers) ∙ ap (λ (b : Meaning). with_item x (row j b)) (sym d.leaves)

pub row_fault : (n k : ℕ) (m a : Meaning) (x : Error) → k < n → eqb (length m.rest) 0 ≡ false → Did {A = ℕ} (λ y. y) (Err x) a (unsigned_leb128 m)
    → row (n - k) m ≡ ended_at m.id (c_fault (fault_is x))
row_fault n k m a x h e d =
    let j : ℕ = n - (k + 1) in
    let s : n - k ≡ suc j = omega arith in
    ap (λ (i : ℕ). row i m) s ∙ ap (λ (t : Bool). row_by j m t (unsigned_leb128 m).outcome (unsigned_leb128 m).after) e
    ∙ ap (λ (o : Outcome ℕ). row_by j m false o (unsigned_leb128 m).after) (sym d.answers)

pub row_empty : (n : ℕ) (m : Meaning) → eqb (length m.rest) 0 ≡ true → row n m ≡ ended_at m.id no_fault
row_empty zero m e = refl
row_empty (suc n) m e = ap (λ (t : Bool). row_by n m t (unsigned_leb128 m).outcome (unsigned_leb128 m).after) e

pub row_full : (n k : ℕ) (m : Meaning) → n ≤ k → row (n - k) m ≡ ended_at m.id no_fault
row_full n k m h = let z : n - k ≡ 0 = omega arith in ap (λ (i : ℕ). row i m) z

-- a number that was read had a byte
some_by : (rs : List ℕ) (m a : Meaning) (x : ℕ) → Did (λ (y : ℕ). y) (Ok x) a (unsigned_leb128 (at m.id rs m)) → eqb (length rs) 0 ≡ false
unfolding spelling
some_by [] m a x d = let z : ◌≡◌ {A = ℕ} 0 1 = cc d.answers in absurd (grind arith)
some_by (r ∷ rs) m a x d = grind arith

pub read_some : (m a : Meaning) (x : ℕ) → Did (λ (y : ℕ). y) (Ok x) a (unsigned_leb128 m) → eqb (length m.rest) 0 ≡ false
read_some m a x d = some_by m.rest m a x d

abbrev headers_by : List ℕ → Bool → ℕ → ℕ → Bool → Outcome SetHeader → Row SetHeader
headers_by section big n p e o =
    cond e (ended_at p no_fault) (elim o [ answer h ↦ with_item h (headers_from section big n h.next) | fault f ↦ ended_at p (c_fault f) ])

module _ (section : List ℕ) (big : Bool) (n k p : ℕ) (h : k < n) (e : eqb p (length section) ≡ false) where
  pub headers_at : (o : Outcome SetHeader) → o ≡ set_header_at section big p → headers_from section big (n - k) p ≡ headers_by section big (n - (k + 1)) p false o
  headers_at o d =
      let j : ℕ = n - (k + 1) in
      let s : n - k ≡ suc j = omega arith in
      ap (λ (i : ℕ). headers_from section big i p) s ∙ ap (λ (t : Bool). headers_by section big j p t (set_header_at section big p)) e
      ∙ ap (λ (o : Outcome SetHeader). headers_by section big j p false o) (sym d)

pub headers_end : (section : List ℕ) (big : Bool) (n p : ℕ) → eqb p (length section) ≡ true → headers_from section big n p ≡ ended_at p no_fault
headers_end section big zero p e = refl
headers_end section big (suc n) p e = ap (λ (t : Bool). headers_by section big n p t (set_header_at section big p)) e

pub headers_full : (section : List ℕ) (big : Bool) (n k p : ℕ) → n ≤ k → headers_from section big (n - k) p ≡ ended_at p no_fault
headers_full section big n k p h = let z : n - k ≡ 0 = omega arith in ap (λ (i : ℕ). headers_from section big i p) z

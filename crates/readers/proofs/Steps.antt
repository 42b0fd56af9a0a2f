-- Laws of steps: one after another, and what a call did that gave an answer or a fault.
use Rattle.std.proofs.Common.{◌≡◌, IsErrAnd, Ok, Err, Result, sym, refl, ap}
use Rattle.std.proofs.lemmas.Result.{err_from_is_err_and}
use Rattle.readers.specs.declared.error.Error.{Error}
use Rattle.readers.specs.Outcome.{Outcome, Fault, answer, fault}
use Rattle.readers.specs.Reading.{Meaning, Step, gives, step_then}
use Rattle.readers.specs.Links.{Did, fault_is}

abbrev pub ends : {A : Type 0} → Outcome A → Meaning → Step A
ends o a = record { outcome = o; after = a }

-- what follows an answer, or a fault
pub then_answered : {A B : Type 0} (s : Step A) (f : A → Meaning → Step B) (x : A) (a : Meaning) → answer x ≡ s.outcome → a ≡ s.after → step_then s f ≡ f x a
then_answered s f x a p q = rw (← p, ← q) refl

pub then_faulted : {A B : Type 0} (s : Step A) (f : A → Meaning → Step B) (e : Fault) (a : Meaning) → fault e ≡ s.outcome → a ≡ s.after → step_then s f ≡ ends (fault e) a
then_faulted s f e a p q = rw (← p, ← q) refl

then_then_by : {A B C : Type 0} (o : Outcome A) (a : Meaning) (f : A → Meaning → Step B) (h : B → Meaning → Step C) → step_then (step_then (ends o a) f) h ≡ step_then (ends o a) (λ x z. step_then (f x z) h)
then_then_by (answer x) a f h = refl
then_then_by (fault e) a f h = refl

pub then_then : {A B C : Type 0} (s : Step A) (f : A → Meaning → Step B) (h : B → Meaning → Step C) → step_then (step_then s f) h ≡ step_then s (λ x z. step_then (f x z) h)
then_then s f h = then_then_by s.outcome s.after f h

then_same_by : {A B : Type 0} (o : Outcome A) (a : Meaning) (f h : A → Meaning → Step B) → ((x : A) (z : Meaning) → f x z ≡ h x z) → step_then (ends o a) f ≡ step_then (ends o a) h
then_same_by (answer x) a f h e = e x a
then_same_by (fault x) a f h e = refl

pub then_same : {A B : Type 0} (s : Step A) (f h : A → Meaning → Step B) → ((x : A) (z : Meaning) → f x z ≡ h x z) → step_then s f ≡ step_then s h
then_same s f h e = then_same_by s.outcome s.after f h e

-- to give what was answered changes nothing
then_gives_by : {A : Type 0} (o : Outcome A) (a : Meaning) → step_then (ends o a) gives ≡ ends o a
then_gives_by (answer x) a = refl
then_gives_by (fault e) a = refl

pub then_gives : {A : Type 0} (s : Step A) → step_then s gives ≡ s
then_gives s = then_gives_by s.outcome s.after

-- after a call that answered comes the rest, of the answer and the reader left
pub then_did : {A B C : Type 0} {f : A → B} {x : A} {after : Meaning} {s : Step B} (k : B → Meaning → Step C)
    → Did f (Ok x) after s → step_then s k ≡ k (f x) after
then_did k d = rw (← d.answers, ← d.leaves)

-- a call that ends here did the step, if the step ends so
pub gave : {A B : Type 0} (f : A → B) (x : A) (a : Meaning) (s : Step B) → s ≡ gives (f x) a → Did f (Ok x) a s
gave f x a s h = record { answers = sym (ap (λ t. t.outcome) h); leaves = sym (ap (λ t. t.after) h) }

pub refused : {A B : Type 0} (f : A → B) (e : Error) (a : Meaning) (s : Step B) → s ≡ ends (fault (fault_is e)) a → Did f (Err e) a s
refused f e a s h = record { answers = sym (ap (λ t. t.outcome) h); leaves = sym (ap (λ t. t.after) h) }

-- the same at the exit of a `?`
pub exits : {A B : Type 0} (f : A → B) (r : Result A Error) (e : Error) (a : Meaning) (s : Step B) → IsErrAnd r (λ y. y ≡ e) → s ≡ ends (fault (fault_is e)) a → Did f r a s
exits f r e a s by h =
    let p = err_from_is_err_and r by in
    rw (p.1, p.2) (refused f e a s h)

-- the fault of a call is that of the whole
pub then_refused : {A B C : Type 0} {f : A → B} {e : Error} {after : Meaning} {s : Step B} (k : B → Meaning → Step C)
    → Did f (Err e) after s → step_then s k ≡ ends (fault (fault_is e)) after
then_refused k d = rw (← d.answers, ← d.leaves)

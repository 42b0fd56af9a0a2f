-- Laws of what an input asks for: records one by one, and commands one by one.
use Rattle.std.proofs.Common.{◌≡◌, ℕ, suc, ◌<◌, Bool, false, List, [], ◌∷◌, ◌++◌, map, length, Ok, Err, sym, ap, ◌∙◌, subst, append_assoc, append-nil}
use mathlib.Core.List.{map-append}
use Rattle.readers.specs.Reading.{Meaning, Step, step_then, gives}
use Rattle.readers.specs.Links.{Did}
use Rattle.readers.proofs.Steps.{then_did, then_then, then_same}
use Rattle.relocate.specs.declared.record.Relocation.{Relocation}
use Rattle.histories.specs.declared.calls.Call.{Call}
use Rattle.histories.specs.Law as Law
use Rattle.histories.specs.Links.{call_is}
use Rattle.transcript.specs.declared.input.Stop.{Stop}
use Rattle.transcript.specs.declared.input.Stop.TheVariants.{Malformed, NoMemory}
use Rattle.transcript.specs.Input.{Read, record_step, record_before, some_records, call_step, Asks, Asked, bad, good}

-- The calls that were added so far: with what the bytes at m ask for, they are what the whole from `start` asks for.
pub record AskedSoFar (start : Meaning) (before : List Law.Call) (ks : List Call) (m : Meaning) : Type 0 where
  pub calls : List Law.Call
  pub added : map call_is ks ≡ before ++ calls
  pub onward : (cs : List Law.Call) (all : Bool) → Asks m cs all → Asks start (calls ++ cs) all

pub asks_more : (start m n : Meaning) (before : List Law.Call) (ks ls : List Call) (k : Call) → ls ≡ ks ++ (k ∷ [])
    → Read call_is (Ok k) n (call_step m) → AskedSoFar start before ks m → AskedSoFar start before ls n
asks_more start m n before ks ls k e r so =
    record {
      calls = so.calls ++ (call_is k ∷ []);
      added =
          ap (λ (xs : List Call). map call_is xs) e ∙ map-append call_is ks (k ∷ [])
          ∙ ap (λ (xs : List Law.Call). xs ++ (call_is k ∷ [])) so.added ∙ append_assoc before so.calls (call_is k ∷ []);
      onward =
          λ cs all h.
          let P : Meaning → Type 0 = λ x. Asks x cs all in
          rw append_assoc (so.onward (call_is k ∷ cs) all (good (sym r.0) (subst P r.1 h)));
    }

-- the calls that are whole with those so far
abbrev pub AskedAll : Meaning → Bool → List Law.Call → List Call → Type 0
AskedAll start all before ks = (cs : List Law.Call) × (map call_is ks ≡ before ++ cs) × Asks start cs all

pub asks_stop : (start m : Meaning) (all : Bool) (before : List Law.Call) (ks : List Call) → AskedSoFar start before ks m → Asks m [] all → AskedAll start all before ks
asks_stop start m all before ks so h =
    let Q : List Law.Call → Type 0 = λ xs. Asks start xs all in
    (so.calls, so.added, subst Q (append-nil so.calls) (so.onward [] all h))

pub asks_bad : (y : Stop) (start m n : Meaning) (before : List Law.Call) (ks : List Call) → Read call_is (Err y) n (call_step m)
    → 0 < length m.rest → AskedSoFar start before ks m → Asked (Err y) start before (map call_is ks)
asks_bad Malformed start m n before ks r some so = asks_stop start m false before ks so (bad some r.0)
asks_bad NoMemory start m n before ks r some so = tt

-- records behind those that were read
abbrev pub behind : List Relocation → List Relocation → Meaning → Step (List Relocation)
behind rs xs m = gives (rs ++ xs) m

-- the records so far and then n more at m are what the whole step reads
abbrev pub ReadSoMany : Step (List Relocation) → ℕ → List Relocation → Meaning → Type 0
ReadSoMany whole n rs m = step_then (some_records n m) (behind rs) ≡ whole

pub many_more : (whole : Step (List Relocation)) (n k : ℕ) (rs ss : List Relocation) (r : Relocation) (m a : Meaning)
    → n ≡ suc k → ss ≡ rs ++ (r ∷ []) → Did (λ x. x) (Ok r) a (record_step m) → ReadSoMany whole n rs m → ReadSoMany whole k ss a
many_more whole n k rs ss r m a e f d so =
    let same : (xs : List Relocation) → ss ++ xs ≡ rs ++ (r ∷ xs) =
    λ xs. ap (λ (l : List Relocation). l ++ xs) f ∙ append_assoc rs (r ∷ []) xs
    in
    then_same (some_records k a) (behind ss) (λ xs z. step_then (record_before r xs z) (behind rs)) (λ xs z. ap (λ (l : List Relocation). gives l z) (same xs))
    ∙ sym (then_then (some_records k a) (record_before r) (behind rs))
    ∙ ap (λ (t : Step (List Relocation)). step_then t (behind rs)) (sym (then_did (λ x z. step_then (some_records k z) (record_before x)) d))
    ∙ ap (λ (j : ℕ). step_then (some_records j m) (behind rs)) (sym e)
    ∙ so

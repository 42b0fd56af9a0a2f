-- Laws of what is written: the lines one by one, the section as it is opened, and the transcript.
use Rattle.std.proofs.Common.{◌≡◌, ℕ, ◌+◌, ◌<◌, ◌≤◌, Bool, true, false, cond, List, [], ◌∷◌, ◌++◌, map, length, get_or, drop, Ok, Err, Result, sym, refl, ap, ◌∙◌, subst}
use Rattle.std.proofs.lemmas.List.{append-nil, append_assoc, drop_more, drop_all}
use Rattle.std.proofs.lemmas.Bool.{false≢true}
use Rattle.readers.specs.Outcome.{Outcome, answer, fault}
use Rattle.readers.specs.Reading.{Meaning, plain_reader}
use Rattle.walk.specs.Events.{Event}
use Rattle.histories.specs.Law.{Call}
use Rattle.transcript.specs.declared.input.Stop.{Stop}
use Rattle.transcript.specs.declared.input.Stop.TheVariants.{Malformed, NoMemory}
use Rattle.transcript.specs.Lines.{line_of, lines_of}
use Rattle.transcript.specs.Input.{Read, is_fault, Heading, heading_step, heading_is, Asks, Asked}
use Rattle.transcript.specs.Transcript.{limit_of, section_of, mark, Walked, Answered, ByHeading, Transcript, Adds, WroteTranscript}

-- one more line
pub lines_more : {X : Type 0} (ev : X → Event) (all before more : List ℕ) (x : X) (xs : List X) (i : ℕ) → i < length xs → x ≡ get_or xs i x
    → more ≡ before ++ line_of (ev x) → before ++ lines_of (map ev (drop i xs)) ≡ all → more ++ lines_of (map ev (drop (i + 1) xs)) ≡ all
lines_more {X = X} ev all before more x xs i h e f p =
    ap (λ (bs : List ℕ). bs ++ lines_of (map ev (drop (i + 1) xs))) f
    ∙ append_assoc before (line_of (ev x)) (lines_of (map ev (drop (i + 1) xs)))
    ∙ ap (λ (ys : List X). before ++ lines_of (map ev ys)) (ap (λ (y : X). y ∷ drop (i + 1) xs) e ∙ sym (drop_more xs i x h))
    ∙ p

-- no line is left
pub lines_all : {X : Type 0} (ev : X → Event) (all before : List ℕ) (xs : List X) (i : ℕ) → length xs ≤ i
    → before ++ lines_of (map ev (drop i xs)) ≡ all → before ≡ all
lines_all {X = X} ev all before xs i h p =
    sym (append-nil before)
    ∙ sym (ap (λ (ys : List X). before ++ lines_of (map ev ys)) (drop_all i xs h))
    ∙ p

-- a malformed heading has the mark alone
by_fault : (o : Outcome Heading) (m : Meaning) → is_fault o ≡ true → ByHeading o m mark
by_fault (answer h) m e = absurd (false≢true e)
by_fault (fault f) m e = refl

transcribes : (input out : List ℕ) (m : Meaning) → m ≡ plain_reader 0 input false → ByHeading (heading_step m).outcome (heading_step m).after out → Transcript input out
transcribes input out m e h =
    let P : Meaning → Type 0 = λ n. ByHeading (heading_step n).outcome (heading_step n).after out in
    subst P e h

pub stopped : (y : Stop) (input before : List ℕ) (m a : Meaning) → m ≡ plain_reader 0 input false → Read heading_is (Err y) a (heading_step m)
    → WroteTranscript (Err y) input before before
stopped Malformed input before m a e r =
    ([], sym (append-nil before), transcribes input mark m e (by_fault (heading_step m).outcome (heading_step m).after r.0))
stopped NoMemory input before m a e r = tt

-- a heading, commands and their lines make a transcript
whole : (input before after : List ℕ) (m a : Meaning) (h : Heading) (cs : List Call) (complete : Bool) → m ≡ plain_reader 0 input false
    → (answer h ≡ (heading_step m).outcome) × (a ≡ (heading_step m).after) → Asks a cs complete
    → Adds before after (Walked (limit_of h.kind) (section_of h) cs)
    → Adds before after (λ out. Transcript input (out ++ cond complete [] mark))
whole input before after m a h cs complete e r asks w =
    let out = w.0 ++ cond complete [] mark in
    let given : Answered h a out = record { calls = cs; complete = complete; commands = asks; lines = w.0; walked = w.2; whole = refl } in
    let Q : Outcome Heading → Type 0 = λ o. ByHeading o (heading_step m).after out in
    let R : Meaning → Type 0 = λ z. ByHeading (answer h) z out in
    (w.0, w.1, transcribes input out m e (subst Q r.0 (subst R r.1 given)))

-- the same by how the commands ended, with the calls that were added to none
pub answered : (r : Result (Unit {0}) Stop) (input before after : List ℕ) (m a : Meaning) (h : Heading) (cs : List Call) → m ≡ plain_reader 0 input false
    → (answer h ≡ (heading_step m).outcome) × (a ≡ (heading_step m).after) → Asked r a [] cs
    → Adds before after (Walked (limit_of h.kind) (section_of h) cs)
    → WroteTranscript r input before after
answered (Ok u) input before after m a h cs e r asked walked =
    let P : List Call → Type 0 = λ x. Adds before after (Walked (limit_of h.kind) (section_of h) x) in
    let Q : List ℕ → Type 0 = λ out. Transcript input out in
    let w = whole input before after m a h asked.0 true e r asked.2 (subst P asked.1 walked) in
    (w.0, w.1, subst Q (append-nil w.0) w.2)
answered (Err Malformed) input before after m a h cs e r asked walked =
    let P : List Call → Type 0 = λ x. Adds before after (Walked (limit_of h.kind) (section_of h) x) in
    whole input before after m a h asked.0 false e r asked.2 (subst P asked.1 walked)
answered (Err NoMemory) input before after m a h cs e r asked walked = tt

-- What a call of next or next raw tells of the tuples that are left, and which are left then.
use Rattle.std.specs.Prelude.{ℕ, List, [], ◌∷◌}
use Rattle.readers.specs.Outcome.{fault_by}
use Rattle.readers.specs.Reading.{Meaning}
use Rattle.aranges.specs.Tuples.{Kind, nothing, entry, overflow, refused, Told, found, failed, over, tuple}

-- the answer of the first tuple that has one of this kind, else that there is none
abbrev pub first_reply : Kind → ℕ → List Meaning → Told
first_reply k s [] = over
first_reply k s (t ∷ ts) =
    elim (tuple k s t) [
      | nothing ↦ first_reply k s ts
      | entry e ↦ found e
      | overflow ↦ failed (fault_by 10 0)
      | refused f ↦ failed f
    ]

-- the tuples behind that one; none after relocation's fault, or where none has an answer
abbrev pub readers_behind : Kind → ℕ → List Meaning → List Meaning
readers_behind k s [] = []
readers_behind k s (t ∷ ts) =
    elim (tuple k s t) [
      | nothing ↦ readers_behind k s ts
      | entry _ ↦ ts
      | overflow ↦ ts
      | refused _ ↦ []
    ]

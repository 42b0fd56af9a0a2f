-- What next and next raw answer of a reader's tuples, and what they leave, as the law says it of the list of the tuples.
use Rattle.std.proofs.Common.{◌≡◌, ℕ, zero, suc, ◌*◌, List, [], ap, refl, sym, subst}
use Rattle.readers.specs.Outcome.{fault_by}
use Rattle.readers.specs.Reading.{Meaning, past, no_bytes}
use Rattle.aranges.specs.Tuples.{Kind, Says, nothing, entry, overflow, refused, Told, found, failed, tuple, two}
use Rattle.aranges.specs.Iterators.{Left, first, count, draw}
use Rattle.aranges.specs.Answers.{tuple_readers, readers_left}
use Rattle.aranges.proofs.Draws.{counted, none_emptied, first_by}
use Rattle.aranges.proofs.Alone.{tuple_alone}
use Rattle.histories.specs.Reads.{first_reply, readers_behind}

-- the first answer of a kind is t, and the tuples left behind it are ts
abbrev Tells : ℕ → Told × Meaning → Told → List Meaning → Type 0
Tells s r t ts = (r.0 ≡ t) × (readers_left (record { size = s; tuples = r.1 }) ≡ ts)

-- the same by what the first tuple says, where t and ts are those of the others us
abbrev told_by : Told → Says → Told
told_by t nothing = t
told_by t (entry e) = found e
told_by t overflow = failed (fault_by 10 0)
told_by t (refused f) = failed f

abbrev left_by : List Meaning → List Meaning → Says → List Meaning
left_by us ts nothing = ts
left_by us ts (entry e) = us
left_by us ts overflow = us
left_by us ts (refused f) = []

tells_by : (k : Kind) (s n : ℕ) (m : Meaning) (t : Told) (us ts : List Meaning) → Tells s (first k s n (past (2 * s) m)) t ts → readers_left (record { size = s; tuples = past (2 * s) m }) ≡ us
    → (x : Says) → Tells s (first_by k s n m x) (told_by t x) (left_by us ts x)
tells_by k s n m t us ts r c nothing = r
tells_by k s n m t us ts r c (entry e) = (refl, c)
tells_by k s n m t us ts r c overflow = (refl, c)
tells_by k s n m t us ts r c (refused f) = (refl, ap (λ (n : ℕ). tuple_readers n s (no_bytes (two s m).after)) (none_emptied s (two s m).after))

tells : (k : Kind) (s n : ℕ) (m : Meaning) → count s m ≡ n → Tells s (first k s n m) (first_reply k s (tuple_readers n s m)) (readers_behind k s (tuple_readers n s m))
tells k s zero m e = (refl, ap (λ (n : ℕ). tuple_readers n s (no_bytes m)) (none_emptied s m))
tells k s (suc n) m e =
    let q = counted s n m e in
    let a : Meaning = past (2 * s) m in
    let us : List Meaning = tuple_readers n s a in
    subst (λ (x : Says). Tells s (first_by k s n m (tuple k s m)) (told_by (first_reply k s us) x) (left_by us (readers_behind k s us) x)) (sym (tuple_alone k s m q.1))
    (tells_by k s n m (first_reply k s us) us (readers_behind k s us) (tells k s n a q.2) (ap (λ (j : ℕ). tuple_readers j s a) q.2) (tuple k s m))

pub drawn : (k : Kind) (l : Left) → ((draw k l).0 ≡ first_reply k l.size (readers_left l)) × (readers_left (draw k l).1 ≡ readers_behind k l.size (readers_left l))
drawn k l = tells k l.size (count l.size l.tuples) l.tuples refl

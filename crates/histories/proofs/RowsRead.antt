-- A lawful history keeps the law of rows.
use Rattle.std.proofs.Common.{◌≡◌, ℕ, List, [], ◌∷◌, ◌++◌, Some, Option, refl, ap, ◌∙◌, subst}
use Rattle.std.proofs.lemmas.List.{append_assoc, reverse-append}
use Rattle.std.specs.Prelude.{reverse}
use Rattle.readers.specs.Outcome.{Fault, answer, fault_by}
use Rattle.readers.specs.Reading.{Meaning}
use Rattle.aranges.specs.Sets.{Header}
use Rattle.aranges.specs.Tuples.{Kind, Says, nothing, entry, overflow, refused, Told, found, failed, tuple}
use Rattle.walk.specs.Events.{Event, header, entries, told, looked}
use Rattle.histories.specs.Law.{OpenSet, open_set, set_at_first, set_behind, reply_at, Lawful}
use Rattle.histories.specs.Reads.{first_reply, readers_behind}
use Rattle.histories.specs.Rows.{Reads, done, finds, overflows, stops, ends, told_among, Unreset, InRows}

-- a silent tuple in front changes nothing
quiet : {s : ℕ} {k : Kind} {a : Told} {t : Meaning} {ts : List Meaning} {more : List (Kind × Told)}
    → tuple k s t ≡ nothing → Reads s ts ((k, a) ∷ more) → Reads s (t ∷ ts) ((k, a) ∷ more)
quiet {t = u} e (finds before t after q x r) = finds (u ∷ before) t after (e, q) x r
quiet {t = u} e (overflows before t after q x r) = overflows (u ∷ before) t after (e, q) x r
quiet {t = u} e (stops before t after q f x r) = stops (u ∷ before) t after (e, q) f x r
quiet e (ends q r) = ends (e, q) r

first_read : (s : ℕ) (k : Kind) (ts : List Meaning) (more : List (Kind × Told)) → Reads s (readers_behind k s ts) more
    → Reads s ts ((k, first_reply k s ts) ∷ more)
first_read s k [] more r = ends tt r
first_read s k (t ∷ ts) more r = go (tuple k s t) refl r (first_read s k ts more)
  where
    go : (x : Says) → tuple k s t ≡ x
        → Reads s (elim x [ nothing ↦ readers_behind k s ts | entry _ ↦ ts | overflow ↦ ts | refused _ ↦ [] ]) more
        → (Reads s (readers_behind k s ts) more → Reads s ts ((k, first_reply k s ts) ∷ more))
        → Reads s (t ∷ ts) ((k, (elim x [ nothing ↦ first_reply k s ts | entry e ↦ found e | overflow ↦ failed (fault_by 10 0) | refused f ↦ failed f ])) ∷ more)
    go nothing e r ih = quiet e (ih r)
    go (entry x) e r ih = finds [] t ts tt e r
    go overflow e r ih = overflows [] t ts tt e r
    go (refused f) e r ih = stops [] t ts tt f e r

module _ (hs : List Header) (b : Option Fault) where
  rows : (before during after : List Event) (o : OpenSet) → open_set before ≡ Some o → Unreset during
      → Lawful hs b before (during ++ after) → Reads o.set.size o.left (told_among during)
  rows before [] after o e u l = done
  rows before (header x ∷ d) after o e u l = rows (header x ∷ before) d after o e u l.1
  rows before (entries x ∷ d) after o e u l = absurd u
  rows before (looked x y ∷ d) after o e u l = rows (looked x y ∷ before) d after o e u l.1
  rows before (told k a ∷ d) after o e u l =
      let r = rows (told k a ∷ before) d after (set_behind k o) (rw e refl) u l.1 in
      let q : a ≡ first_reply k o.set.size o.left = l.0 ∙ ap (reply_at k) e in
      rw q (first_read o.set.size k o.left (told_among d) r)

  -- the law from some event on
  reverse_onto : (e : Event) (es rest : List Event) → reverse (e ∷ es) ++ rest ≡ reverse es ++ (e ∷ rest)
  reverse_onto e es rest = ap (λ (xs : List Event). xs ++ rest) (reverse-append (e ∷ []) es) ∙ append_assoc (reverse es) (e ∷ []) rest

  lawful_from : (before rest : List Event) → Lawful hs b [] (reverse before ++ rest) → Lawful hs b before rest
  lawful_from [] rest l = l
  lawful_from (e ∷ es) rest l = (lawful_from es (e ∷ rest) (subst (Lawful hs b []) (reverse_onto e es rest) l)).1

  pub in_rows : (es : List Event) → Lawful hs b [] es → InRows es
  in_rows es l before during after h e n u =
      let at = lawful_from before (entries (answer tt) ∷ (during ++ after)) (subst (Lawful hs b []) e l) in
      rows (entries (answer tt) ∷ before) during after (set_at_first h) (rw n refl) u at.1

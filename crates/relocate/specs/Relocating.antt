-- What relocation means: a record, a table of records, a policy, and a layer of it over a reader.
use Rattle.std.specs.Prelude.{ℕ, ◌+◌, ◌-◌, ◌%◌, ◌^◌, List, Option, Some, None, option_map, find, ◌==◌, if◌then◌else◌}
use Rattle.readers.specs.Outcome.{Outcome, answer, fault, fault_of}
use Rattle.readers.specs.Reading.{Meaning, offset_number}
use Rattle.relocate.specs.declared.record.Relocation.{Relocation}
use Rattle.relocate.specs.declared.record.RelocationKind.{RelocationKind}
use Rattle.relocate.specs.declared.record.RelocationKind.TheVariants.{Add, Replace, Unknown}

-- the kind that a number stands for
abbrev pub kind_of : ℕ → RelocationKind
kind_of k = if k == 0 then Add else if k == 1 then Replace else Unknown

-- what a relocation makes of the value at its offset, by its kind
abbrev pub by_kind : RelocationKind → Relocation → ℕ → Outcome ℕ
by_kind Add r v = answer ((v + r.amount) % 2 ^ 64)
by_kind Replace r v = answer r.amount
by_kind Unknown r v = fault_of 13 r.offset

-- the same where there may be none, so that the value stays
abbrev pub by_relocation : Option Relocation → ℕ → Outcome ℕ
by_relocation (Some r) v = by_kind r.kind r v
by_relocation None v = answer v

-- the record that counts at an offset: the first of those whose relocation is there
abbrev pub record_at : {T : Type 0} → (T → Relocation) → List T → ℕ → Option T
record_at relocation rs o = find (λ r. (relocation r).offset == o) rs

-- what the records make of the value at an offset
abbrev pub by_table : {T : Type 0} → (T → Relocation) → List T → ℕ → ℕ → Outcome ℕ
by_table relocation rs o v = by_relocation (option_map relocation (record_at relocation rs o)) v

-- what becomes of an address and of an offset that were read at an offset of a section
pub record Policy : Type 0 where
  pub address : ℕ → ℕ → Outcome ℕ
  pub offset : ℕ → ℕ → Outcome ℕ

-- the policy that treats addresses and offsets alike
abbrev pub uniform_policy : (ℕ → ℕ → Outcome ℕ) → Policy
uniform_policy f = record { address = f; offset = f }

-- one outcome after another, up to the first fault
abbrev pub outcome_then : Outcome ℕ → (ℕ → Outcome ℕ) → Outcome ℕ
outcome_then (answer x) f = f x
outcome_then (fault e) f = fault e

-- a reader's relocation followed by a policy's, whose offsets count from the id `start`;
-- an offset has to fit again
abbrev pub layer : ℕ → Policy → ℕ → Meaning → Meaning
layer limit policy start m = record {
  id = m.id;
  rest = m.rest;
  big = m.big;
  address = λ i v. outcome_then (m.address i v) (policy.address (i - start));
  offset = λ i v.
      outcome_then (m.offset i v)
      (λ x. outcome_then (policy.offset (i - start) x) (offset_number limit));
}

-- How the code's values stand for what the definitions speak of; want of memory may end the work at
-- any place.
use Rattle.std.specs.Prelude.{◌≡◌, Bool, true, false, Ok, Err, Result}
use Rattle.std.specs.Bool.{OnFalse}
use Rattle.elf.specs.FileLinks.{file_is, table_is}
use Rattle.elf_relocations.specs.declared.error.RelocationError.{RelocationError}
use Rattle.elf_relocations.specs.declared.error.RelocationError.TheVariants.{NoMemory}
use Rattle.elf_relocations.specs.declared.record.Source as code_source
use Rattle.elf_relocations.specs.declared.table.Builder as code_builder
use Rattle.elf_relocations.specs.Records.{Source}
use Rattle.elf_relocations.specs.Tables.{Builder, builder_by}

abbrev pub source_is : code_source.Source → Source
source_is s = record { file = file_is s.file; bytes = s.bytes.now; symbols = table_is s.symbols }

abbrev pub builder_is : code_builder.Builder → Builder
builder_is b = builder_by b.records.items b.waiting

abbrev pub is_no_memory : RelocationError → Bool
is_no_memory NoMemory = true
is_no_memory _ = false

-- a call answered what the definition says, or was refused as it says, if not for want of memory
abbrev pub AnswersGivenMemory : {A B : Type 0}
    → (A → B) → Result A RelocationError → Result B RelocationError → Type 0
AnswersGivenMemory f (Ok x) r = Ok (f x) ≡ r
AnswersGivenMemory f (Err e) r = OnFalse (is_no_memory e) (Err e ≡ r)

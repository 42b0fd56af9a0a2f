-- How the code's image stands for that of the definitions; want of memory may end the opening at any
-- place.
use Rattle.std.specs.Prelude.{◌≡◌, Bool, true, false, Ok, Err, Result}
use Rattle.elf.specs.FileLinks.{file_is}
use Rattle.elf_relocations.specs.Links.{is_no_memory}
use Rattle.unit_report.specs.declared.image.Image as code
use Rattle.unit_report.specs.declared.refusal.Refusal.{Refusal}
use Rattle.unit_report.specs.declared.refusal.Refusal.TheVariants.{Relocation, NoMemory}
use Rattle.unit_report.specs.Images.{Image, image_with}

abbrev pub image_is : code.Image → Image
image_is i = image_with (file_is i.file) i.section i.bytes.now i.table

-- whether memory is short
abbrev pub is_out_of_memory : Refusal → Bool
is_out_of_memory NoMemory = true
is_out_of_memory (Relocation e) = is_no_memory e
is_out_of_memory _ = false

-- a call was refused as the definition tells, if not for want of memory
abbrev pub Refused : {A : Type 0} → Refusal → Result A Refusal → Type 0
Refused e r = is_out_of_memory e ≡ false → Err e ≡ r

-- a call answered what the definition tells
abbrev pub Answered : {A B : Type 0} → (A → B) → Result A Refusal → Result B Refusal → Type 0
Answered f (Ok x) r = Ok (f x) ≡ r
Answered f (Err e) r = Refused e r

-- How a refusal is written: one sentence.
use Rattle.std.specs.Prelude.{ℕ, List, ◌++◌, codes, decimal}
use Rattle.elf.specs.Texts.{elf_error_text}
use Rattle.elf_relocations.specs.Texts.{relocation_error_text}
use Rattle.unit_report.specs.declared.refusal.Refusal.{Refusal}
use Rattle.unit_report.specs.declared.refusal.Refusal.TheVariants.{Elf, Relocation, NoSection, Compressed, UnreadRelocation, NoMemory}

abbrev pub refusal_text : Refusal → List ℕ
refusal_text (Elf e) = elf_error_text e
refusal_text (Relocation e) = relocation_error_text e
refusal_text NoSection = codes "the file has no section .debug_aranges"
refusal_text Compressed =
    codes "section .debug_aranges is compressed: objcopy --decompress-debug-sections undoes that"
refusal_text (UnreadRelocation o) =
    codes "relocation at offset "
    ++ (decimal o ++ codes " of .debug_aranges is of no address or offset that is read")
refusal_text NoMemory = codes "there is not enough memory for the report"

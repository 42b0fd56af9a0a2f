-- How an error is written: one sentence.
use Rattle.std.specs.Prelude.{ℕ, List, ◌++◌, codes, decimal}
use Rattle.elf.specs.Texts.{elf_error_text, machine_name}
use Rattle.elf_relocations.specs.declared.error.RelocationError.{RelocationError}
use Rattle.elf_relocations.specs.declared.error.RelocationError.TheVariants.{Elf, NoMemory, UnknownMachine, UnsupportedRelocation, SymbolWithoutAddress, AddWithoutSub, SubWithoutAdd, DifferentSections, OutsideSection, TwoRelocations, CompactRelocations}

abbrev pub relocation_error_text : RelocationError → List ℕ
relocation_error_text (Elf e) = elf_error_text e
relocation_error_text NoMemory = codes "there is not enough memory for the relocations"
relocation_error_text (UnknownMachine m) =
    codes "the relocations of machine " ++ (decimal m ++ codes " are not known")
relocation_error_text (UnsupportedRelocation m k o) =
    codes "relocation " ++ (decimal k ++ (codes " of " ++ (machine_name m ++ (codes " at offset "
    ++ (decimal o ++ codes " is not supported")))))
relocation_error_text (SymbolWithoutAddress s o) =
    codes "the relocation at offset " ++ (decimal o ++ (codes " needs symbol "
    ++ (decimal s ++ codes ", which has no address in the file")))
relocation_error_text (AddWithoutSub o) =
    codes "the relocation at offset "
    ++ (decimal o ++ codes " adds an address, and none is subtracted behind it")
relocation_error_text (SubWithoutAdd o) =
    codes "the relocation at offset "
    ++ (decimal o ++ codes " subtracts an address, and none is added before it")
relocation_error_text (DifferentSections o) =
    codes "the relocations at offset "
    ++ (decimal o ++ codes " need the distance between two sections")
relocation_error_text (OutsideSection o) =
    codes "the place of the relocation at offset "
    ++ (decimal o ++ codes " does not lie within the section")
relocation_error_text (TwoRelocations o) =
    codes "two relocations are for the place at offset " ++ decimal o
relocation_error_text (CompactRelocations i) =
    codes "the relocations in section "
    ++ (decimal i ++ codes " are in the compact form, which is not read")

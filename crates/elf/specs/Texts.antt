-- How an error is written, one sentence, and a machine.
use Rattle.std.specs.Prelude.{ℕ, List, ◌++◌, codes, decimal}
use Rattle.elf.specs.declared.machine.Machine.{Machine}
use Rattle.elf.specs.declared.machine.Machine.TheVariants.{I386, Mips, PowerPc, PowerPc64, Arm, X8664, AArch64, RiscV}
use Rattle.elf.specs.declared.error.ElfError.{ElfError}
use Rattle.elf.specs.declared.error.ElfError.TheVariants.{NotElf, UnknownClass, UnknownByteOrder, HeaderCutOff, SectionEntrySize, SectionTableCutOff, NoSection, NoSectionNames, NameCutOff, NoBytes, SectionCutOff, NoSymbolTable, SymbolEntrySize, NoSymbol, NoSectionOfSymbol, NoRelocations, RelocationEntrySize, RelocationCutOff}

abbrev pub elf_error_text : ElfError → List ℕ
elf_error_text NotElf = codes "this is not an ELF file"
elf_error_text (UnknownClass class) =
    codes "the ELF class " ++ (decimal class ++ codes " is unknown: it should be 1 or 2")
elf_error_text (UnknownByteOrder order) =
    codes "the ELF byte order " ++ (decimal order ++ codes " is unknown: it should be 1 or 2")
elf_error_text HeaderCutOff = codes "the file ends within its ELF header"
elf_error_text (SectionEntrySize size) =
    codes "entries of the section table have "
    ++ (decimal size ++ codes " bytes, which this ELF class has not")
elf_error_text SectionTableCutOff = codes "the file ends before its section table does"
elf_error_text (NoSection index) = codes "the file has no section " ++ decimal index
elf_error_text NoSectionNames = codes "the file has no table of section names"
elf_error_text (NameCutOff index) =
    codes "the name of section " ++ (decimal index ++ codes " has no end")
elf_error_text (NoBytes index) =
    codes "section " ++ (decimal index ++ codes " has no bytes in the file")
elf_error_text (SectionCutOff index) =
    codes "the file ends before section " ++ (decimal index ++ codes " does")
elf_error_text (NoSymbolTable index) =
    codes "section " ++ (decimal index ++ codes " is not a symbol table")
elf_error_text (SymbolEntrySize size) =
    codes "entries of the symbol table have "
    ++ (decimal size ++ codes " bytes, which this ELF class has not")
elf_error_text (NoSymbol index) = codes "the file has no symbol " ++ decimal index
elf_error_text (NoSectionOfSymbol index) =
    codes "the file does not tell the section of symbol " ++ decimal index
elf_error_text (NoRelocations index) =
    codes "section " ++ (decimal index ++ codes " is not a relocation section")
elf_error_text (RelocationEntrySize size) =
    codes "entries of a relocation section have "
    ++ (decimal size ++ codes " bytes, which this ELF class has not")
elf_error_text (RelocationCutOff index) =
    codes "section " ++ (decimal index ++ codes " ends within a relocation entry")

abbrev pub machine_name : Machine → List ℕ
machine_name I386 = codes "i386"
machine_name Mips = codes "MIPS"
machine_name PowerPc = codes "PowerPC"
machine_name PowerPc64 = codes "PowerPC64"
machine_name Arm = codes "ARM"
machine_name X8664 = codes "x86-64"
machine_name AArch64 = codes "AArch64"
machine_name RiscV = codes "RISC-V"

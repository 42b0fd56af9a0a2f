-- The numbers of the kinds of files and of sections, and of the machines.
use Rattle.std.specs.Prelude.{ℕ, Option, Some, None, ◌==◌, if◌then◌else◌}
use Rattle.elf.specs.declared.file.FileKind.{FileKind}
use Rattle.elf.specs.declared.file.FileKind.TheVariants as file
use Rattle.elf.specs.declared.section.SectionKind.{SectionKind}
use Rattle.elf.specs.declared.section.SectionKind.TheVariants as section
use Rattle.elf.specs.declared.machine.Machine.{Machine}
use Rattle.elf.specs.declared.machine.Machine.TheVariants.{I386, Mips, PowerPc, PowerPc64, Arm, X8664, AArch64, RiscV}

-- e_type of the header
abbrev pub file_kind_of : ℕ → FileKind
file_kind_of n =
    if n == 1 then file.Relocatable
    else (if n == 2 then file.Executable
    else (if n == 3 then file.Shared
    else file.Other n))

-- sh_type of a section's entry
abbrev pub section_kind_of : ℕ → SectionKind
section_kind_of n =
    if n == 2 then section.SymbolTable
    else (if n == 4 then section.Rela
    else (if n == 8 then section.NoBits
    else (if n == 9 then section.Rel
    else (if n == 11 then section.DynamicSymbols
    else (if n == 18 then section.SymbolTableSections
    else (if n == 0x40000014 then section.Crel
    else section.Other n))))))

-- e_machine of the header, where its relocations are known
abbrev pub machine_of : ℕ → Option Machine
machine_of n =
    if n == 3 then Some I386
    else (if n == 8 then Some Mips
    else (if n == 20 then Some PowerPc
    else (if n == 21 then Some PowerPc64
    else (if n == 40 then Some Arm
    else (if n == 62 then Some X8664
    else (if n == 183 then Some AArch64
    else (if n == 243 then Some RiscV
    else None)))))))

-- What the kinds of relocations of each machine do.
use Rattle.std.specs.Prelude.{ℕ, ◌%◌, ◌^◌, Option, Some, None, ◌==◌, if◌then◌else◌}
use Rattle.elf.specs.declared.machine.Machine.{Machine}
use Rattle.elf.specs.declared.machine.Machine.TheVariants.{I386, Mips, PowerPc, PowerPc64, Arm, X8664, AArch64, RiscV}
use Rattle.elf_relocations.specs.declared.action.Width.{Width}
use Rattle.elf_relocations.specs.declared.action.Width.TheVariants.{Four, Eight}
use Rattle.elf_relocations.specs.declared.action.Action.{Action}
use Rattle.elf_relocations.specs.declared.action.Action.TheVariants.{Nothing, Absolute, Add, Sub}

-- what the kinds above 0 do, those that are done here
abbrev pub known_action : Machine → ℕ → Option Action
known_action I386 k = if k == 1 then Some (Absolute Four) else None
known_action Mips k =
    if k == 2 then Some (Absolute Four)
    else (if k == 18 then Some (Absolute Eight) else None)
known_action PowerPc k = if k == 1 then Some (Absolute Four) else None
known_action PowerPc64 k =
    if k == 1 then Some (Absolute Four)
    else (if k == 38 then Some (Absolute Eight) else None)
known_action Arm k = if k == 2 then Some (Absolute Four) else None
known_action X8664 k =
    if k == 1 then Some (Absolute Eight)
    else (if k == 10 then Some (Absolute Four) else None)
known_action AArch64 k =
    if k == 257 then Some (Absolute Eight)
    else (if k == 258 then Some (Absolute Four) else None)
known_action RiscV k =
    if k == 1 then Some (Absolute Four)
    else (if k == 2 then Some (Absolute Eight)
    else (if k == 35 then Some (Add Four)
    else (if k == 36 then Some (Add Eight)
    else (if k == 39 then Some (Sub Four)
    else (if k == 40 then Some (Sub Eight)
    else None)))))

-- what a kind of relocation does; 0 is none on each machine
abbrev pub action_of : Machine → ℕ → Option Action
action_of m k = if k == 0 then Some Nothing else known_action m k

abbrev pub bytes_of : Width → ℕ
bytes_of Four = 4
bytes_of Eight = 8

-- what a width keeps of a number of 64 bits
abbrev pub low_part : Width → ℕ → ℕ
low_part Four n = n % 2 ^ 32
low_part Eight n = n

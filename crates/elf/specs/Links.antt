-- How the code's values stand for what the definitions speak of.
use Rattle.std.specs.Prelude.{ℕ}
use Rattle.readers.specs.Links.{is_big}
use Rattle.elf.specs.declared.words.Class.{Class}
use Rattle.elf.specs.declared.words.Class.TheVariants.{Elf32, Elf64}
use Rattle.elf.specs.declared.words.Words as code
use Rattle.elf.specs.Words.{Words, words_by}

-- how many bytes a word has in a class
abbrev pub class_word : Class → ℕ
class_word Elf32 = 4
class_word Elf64 = 8

abbrev pub words_is : code.Words → Words
words_is w = words_by w.bytes.now (is_big w.endian) (class_word w.class)

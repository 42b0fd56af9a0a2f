-- Thirteen values that any reading of the rules has to give.
use Rattle.std.specs.Prelude.{ℕ, ◌-◌, ◌^◌, ◌≡◌, List, [], ◌∷◌, ◌++◌, false, pos, ◌-ℤ◌, replicate}
use Rattle.readers.specs.Outcome.{answer, fault_of}
use Rattle.readers.specs.Reading.{Meaning, plain_reader}
use Rattle.leb128.specs.Leb128.{unsigned_leb128, unsigned_leb128_16, signed_leb128}
use Rattle.aranges.specs.Sets.{padding}
use Rattle.aranges.specs.Tuples.{converted, tuple, nothing, entry}
use Rattle.aranges.specs.Links.{outcome_of}

-- a little-endian reader of some bytes
abbrev of : List ℕ → Meaning
of bs = plain_reader 0 bs false

-- nine bytes alike, and a tenth
abbrev ten : ℕ → ℕ → List ℕ
ten b c = replicate 9 b ++ c ∷ []

-- the four bytes fd ff ff ff or fe ff ff ff, and a length below 256
abbrev high : ℕ → ℕ → List ℕ
high b l = b ∷ 0xff ∷ 0xff ∷ 0xff ∷ l ∷ 0 ∷ 0 ∷ 0 ∷ []

-- the thirteen values
pub record Known : Type 0 where
  -- unsigned LEB128 numbers
  pub A : (unsigned_leb128 (of (0xb9 ∷ 0x64 ∷ []))).outcome ≡ answer 12857
  pub B : (unsigned_leb128 (of (ten 0xff 0x01))).outcome ≡ answer (2 ^ 64 - 1)
  pub C : (unsigned_leb128 (of (ten 0xff 0x02))).outcome ≡ fault_of 8 0
  -- of 16 bits
  pub D : (unsigned_leb128_16 (of (0xff ∷ 0xff ∷ 0x03 ∷ []))).outcome ≡ answer 65535
  pub E : (unsigned_leb128_16 (of (0xff ∷ 0xff ∷ 0x04 ∷ []))).outcome ≡ fault_of 8 0
  -- signed
  pub F : (signed_leb128 (of (0x81 ∷ 0x7f ∷ []))).outcome ≡ answer (pos 0 -ℤ pos 127)
  pub G : (signed_leb128 (of (ten 0x80 0x7f))).outcome ≡ answer (pos 0 -ℤ pos (2 ^ 63))
  pub H : (signed_leb128 (of (ten 0x80 0x01))).outcome ≡ fault_of 9 0
  -- padding behind a header with words of 4 bytes and addresses of 8, and the other way round
  pub I : padding 4 8 ≡ 4
  pub J : padding 8 4 ≡ 0
  -- tuples of 4-byte addresses: the largest end, one past it, and a begin that stands for no code
  pub K : tuple converted 4 (of (high 0xfd 2))
      ≡ entry (record { begin = 0xffff_fffd; end = 0xffff_ffff; length = 2 })
  pub L : outcome_of (tuple converted 4 (of (high 0xfd 3))) ≡ fault_of 10 0
  pub M : tuple converted 4 (of (high 0xfe 1)) ≡ nothing

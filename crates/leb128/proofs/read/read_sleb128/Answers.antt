use Rattle.std.proofs.Common.{◌≡◌, ℕ, ◌+◌, ◌*◌, ◌%◌, ◌^◌, ◌<◌, ◌≤◌, [], pos, negsuc, ◌+ℤ◌, ◌-ℤ◌, sym, ap, ◌∙◌, ap₂, le_refl, arith, pow_mono, w64, SFits, to_z, of_z, rules}
use Rattle.std.proofs.lemmas.Int.{ints, to_z_pos, to_z-of_z}
use Rattle.std.proofs.lemmas.Nat.{mul-le}
use Rattle.readers.specs.Reading.{gives}
use Rattle.leb128.specs.Leb128.{more}
use Rattle.readers.proofs.Steps.{gave, refused, exits}
use Rattle.leb128.proofs.Spelling.{left, left_fails}
use Rattle.leb128.proofs.Signed.{ends, start, goes_on, ends_plain, ends_signed, half_is, tenth_plain, tenth_signed, tenth_refuses}
use Rattle.leb128.proofs.read.read_sleb128.Goals as goal

pub loop-i-init : goal.loop-i-init
loop-i-init g c = (start (g.R.Reader.means c.args.reader.now), omega arith)

pub returns-in_err-byte : goal.returns-in_err-byte
returns-in_err-byte g c =
    exits (λ x. x) c.from_residual.result c.in_err-byte.field-0.0 _ _ c.from_residual.ensures.1
    (sym c.loop-i.invariant.0 ∙ left_fails more [] ends c.loop-i.i c.loop-i.result _ _ _ (omega arith) c.in_err-byte.ensures)

pub loop-i-preserved : goal.loop-i-preserved
loop-i-preserved g c = (
  ap (λ v. left more [] ends (c.loop-i.i + 1) v (g.R.Reader.means c.read_u8.new.reader)) c.with_group-result.ensures.value
      ∙ sym (goes_on c.loop-i.i c.loop-i.result _ _ c.in_ok-byte.byte (omega arith) c.in_ok-byte.ensures c.if-byte-lt128.false)
      ∙ c.loop-i.invariant.0,
  c.with_group-result.ensures.fits,
)

pub returns-in_err-last : goal.returns-in_err-last
returns-in_err-last g c =
    exits (λ x. x) c.from_residual-in_err-last.result c.in_err-last.field-0.0 _ _ c.from_residual-in_err-last.ensures.1
    (sym c.loop-i.invariant.0 ∙ left_fails more [] ends c.loop-i.i c.loop-i.result _ _ _ (omega arith) c.in_err-last.ensures)

-- what the bits come to with one byte more
module _ (r b i v : ℕ) (h : i < 9) (e : v ≡ r + 2 ^ (7 * i) * (b % 128)) (fit : r < 2 ^ (7 * i)) where
  below_next : v < 2 ^ (7 * i) * 128
  below_next =
      let small : b % 128 ≤ 127 = omega arith in
      omega (arith, mul-le (2 ^ (7 * i)) (b % 128) (2 ^ (7 * i)) 127 (le_refl (2 ^ (7 * i))) small)

  value-fits : v < 2 ^ 63
  value-fits =
      let p : 2 ^ (7 * i) ≤ 2 ^ 56 = pow_mono (let s : 7 * i ≤ 56 = omega arith in s) in
      omega (arith, below_next)

  above_half : b < 128 → 64 ≤ b → 2 ^ (7 * i) * 64 ≤ v
  above_half f k =
      let large : 64 ≤ b % 128 = omega arith in
      omega (arith, mul-le (2 ^ (7 * i)) 64 (2 ^ (7 * i)) (b % 128) (le_refl (2 ^ (7 * i))) large)

pub returns-then-byte-lt64 : goal.returns-then-byte-lt64
returns-then-byte-lt64 g c =
    let r = c.loop-i.result in
    let b = c.in_ok-byte.byte in
    let i = c.loop-i.i in
    let n : c.loop-i.i < 9 = omega arith in
    let e = c.with_group-result.ensures.value in
    gave (λ x. x) _ _ _
    (sym c.loop-i.invariant.0
    ∙ ends_plain i r _ _ b n c.in_ok-byte.ensures c.if-byte-lt128.true c.if-byte-lt64.true
    ∙ ap (λ v. gives v (g.R.Reader.means c.read_u8.new.reader))
    (ap pos (sym e) ∙ sym (to_z_pos w64 c.with_group-result.result (value-fits r b i c.with_group-result.result n e c.loop-i.invariant.1))))

pub less_twice-requires : goal.less_twice-requires
less_twice-requires g c =
    let r = c.loop-i.result in
    let b = c.in_ok-byte.byte in
    let i = c.loop-i.i in
    let n : c.loop-i.i < 9 = omega arith in
    let e = c.with_group-result.ensures.value in
    let twice = half_is i n in
    let low = below_next r b i c.with_group-result.result n e c.loop-i.invariant.1 in
    let high = above_half r b i c.with_group-result.result n e c.loop-i.invariant.1 c.if-byte-lt128.true c.if-byte-lt64.false in
    record { half = omega arith; least = omega arith; below = omega arith }

pub returns-then-byte-lt128 : goal.returns-then-byte-lt128
returns-then-byte-lt128 g c =
    let r = c.loop-i.result in
    let b = c.in_ok-byte.byte in
    let i = c.loop-i.i in
    let n : c.loop-i.i < 9 = omega arith in
    let f : SFits w64 c.less_twice.result = search rules in
    let half = half_is i n in
    let twice : 2 ^ (7 * c.loop-i.i) * 128 ≡ 2 * ((1 * 2 ^ (7 * c.loop-i.i + 6)) % 2 ^ 64) = omega arith in
    gave (λ x. x) _ _ _
    (sym c.loop-i.invariant.0
    ∙ ends_signed i r _ _ b n c.in_ok-byte.ensures c.if-byte-lt128.true c.if-byte-lt64.false
    ∙ ap (λ v. gives v (g.R.Reader.means c.read_u8.new.reader))
    (ap₂ (λ x y. pos x -ℤ pos y) (sym c.with_group-result.ensures.value) twice ∙ sym c.less_twice.ensures ∙ sym (to_z-of_z w64 c.less_twice.result f)))

lowest : (v : ℕ) → v < 2 ^ 63 → pos v -ℤ pos (2 ^ 63) ≡ to_z w64 (of_z w64 (negsuc 9223372036854775807 +ℤ to_z w64 v))
lowest v h = omega (arith, ints)

-- nine bytes leave 63 bits
nine-fit : (i r : ℕ) → r < 2 ^ (7 * i) → i ≡ 9 → r < 2 ^ 63
nine-fit i r h e = let p : 2 ^ (7 * i) ≡ 2 ^ 63 = ap (λ n. 2 ^ (7 * n)) e in omega arith

pub returns-in-0 : goal.returns-in-0
returns-in-0 g c =
    let nine : c.loop-i.i ≡ 9 = omega arith in
    gave (λ x. x) _ _ _
    (sym c.loop-i.invariant.0
    ∙ tenth_plain c.loop-i.i c.loop-i.result _ _ c.in_ok-last.last nine c.in_ok-last.ensures c.in-0.is
    ∙ ap (λ v. gives v (g.R.Reader.means c.read_u8-2.new.reader)) (sym (to_z_pos w64 c.loop-i.result (nine-fit c.loop-i.i c.loop-i.result c.loop-i.invariant.1 nine))))

pub returns-in-127 : goal.returns-in-127
returns-in-127 g c =
    let nine : c.loop-i.i ≡ 9 = omega arith in
    let fit = nine-fit c.loop-i.i c.loop-i.result c.loop-i.invariant.1 nine in
    gave (λ x. x) _ _ _
    (sym c.loop-i.invariant.0
    ∙ tenth_signed c.loop-i.i c.loop-i.result _ _ c.in_ok-last.last nine c.in_ok-last.ensures c.in-127.is
    ∙ ap (λ v. gives v (g.R.Reader.means c.read_u8-2.new.reader)) (lowest c.loop-i.result fit))

pub returns-in_default : goal.returns-in_default
returns-in_default g c =
    let nine : c.loop-i.i ≡ 9 = omega arith in
    refused (λ x. x) _ _ _
    (sym c.loop-i.invariant.0
    ∙ tenth_refuses c.loop-i.i c.loop-i.result _ _ c.in_ok-last.last nine c.in_ok-last.ensures (λ e. omega arith) (λ e. omega arith))

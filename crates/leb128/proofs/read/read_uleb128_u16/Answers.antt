use Rattle.std.proofs.Common.{◌≡◌, ℕ, ◌*◌, ◌%◌, ◌<◌, ◌≤◌, Bool, true, false, cond, leb, List, [], ◌∷◌, get_or, Ok, sym, ap, ◌∙◌, ap₂, arith}
use Rattle.std.proofs.lemmas.Bool.{le-leb, lt-leb}
use lib.Bits.{bit_and, bit_or}
use Rattle.std.proofs.lemmas.Nat.{and_mask}
use Rattle.readers.specs.Reading.{Meaning, Step, fixed_number, gives, refuses, step_then}
use Rattle.readers.specs.Links.{Did}
use Rattle.leb128.specs.Leb128.{bits, more, up_to, spelling, unsigned_leb128_16}
use Rattle.readers.proofs.Steps.{gave, refused, exits}
use Rattle.leb128.proofs.Spelling.{spelt_fault, spelt_last, spelt_more, spelt_one, higher, seven_more}
use Rattle.leb128.proofs.read.read_uleb128_u16.Goals as goal

abbrev chosen : Bool → Meaning → ℕ → Step ℕ
chosen t a v = cond t (gives v a) (refuses 8 0 a)

abbrev ends : List ℕ → Meaning → Step ℕ
ends bs a = chosen (leb (get_or bs 2 0) 3) a (bits bs)

two-are : (b d : ℕ) → bits (b ∷ d ∷ []) ≡ bit_or (bit_and b 127) ((bit_and d 127 * 128) % 65536)
two-are b d =
    let low : bit_and b 127 ≡ b % 128 = and_mask b 7 in
    sym (seven_more (bit_and b 127) d 7 16 (omega arith) (omega arith) ∙ omega arith)

three-are : (b d t : ℕ) → t < 4 → bits (b ∷ d ∷ t ∷ []) ≡ bit_or (bit_or (bit_and b 127) ((bit_and d 127 * 128) % 65536)) ((t * 16384) % 65536)
three-are b d t h =
    let e = two-are b d in
    sym (higher (bit_or (bit_and b 127) ((bit_and d 127 * 128) % 65536)) t 14 2 16 (omega arith) (omega arith) (omega arith) ∙ omega arith)

pub returns-in_err-first : goal.returns-in_err-first
returns-in_err-first g c =
    exits (λ x. x) c.from_residual.result c.in_err-first.field-0.0 _ _ c.from_residual.ensures.1
    (spelt_fault more (up_to 2) ends _ _ _ c.in_err-first.ensures)

pub returns-then-first-lt128 : goal.returns-then-first-lt128
returns-then-first-lt128 g c =
    let b = c.in_ok-first.first in
    let e : bits (b ∷ []) ≡ b = omega arith in
    gave (λ x. x) _ _ _
    (spelt_last more (up_to 2) ends _ _ b c.in_ok-first.ensures (lt-leb 128 b c.if-first-lt128.true) ∙ ap (λ v. gives v (g.R.Reader.means c.read_u8.new.reader)) e)

pub returns-in_err-second : goal.returns-in_err-second
returns-in_err-second g c =
    let b = c.in_ok-first.first in
    exits (λ x. x) c.from_residual-in_err-second.result c.in_err-second.field-0.0 _ _ c.from_residual-in_err-second.ensures.1
    (spelt_more more (up_to 2) ends _ _ b c.in_ok-first.ensures (le-leb 128 b c.if-first-lt128.false)
    ∙ spelt_fault more (up_to 1) (λ bs z. ends (b ∷ bs) z) _ _ _ c.in_err-second.ensures)

pub returns-then-second-lt128 : goal.returns-then-second-lt128
returns-then-second-lt128 g c =
    let b = c.in_ok-first.first in
    let d = c.in_ok-second.second in
    gave (λ x. x) _ _ _
    (spelt_more more (up_to 2) ends _ _ b c.in_ok-first.ensures (le-leb 128 b c.if-first-lt128.false)
    ∙ spelt_last more (up_to 1) (λ bs z. ends (b ∷ bs) z) _ _ d c.in_ok-second.ensures (lt-leb 128 d c.if-second-lt128.true)
    ∙ ap (λ v. gives v (g.R.Reader.means c.read_u8-2.new.reader)) (two-are b d))

-- after two bytes that say more
third : (b d : ℕ) (m a z : Meaning) → Did (λ (x : ℕ). x) (Ok b) a (fixed_number 1 m) → 128 ≤ b → Did (λ (x : ℕ). x) (Ok d) z (fixed_number 1 a) → 128 ≤ d → unsigned_leb128_16 m ≡ step_then (spelling (up_to 1) z) (λ bs y. ends (b ∷ d ∷ bs) y)
third b d m a z p h q k = spelt_more more (up_to 2) ends m a b p (le-leb 128 b h) ∙ spelt_more more (up_to 1) (λ bs y. ends (b ∷ bs) y) a z d q (le-leb 128 d k)

pub returns-in_err-third : goal.returns-in_err-third
returns-in_err-third g c =
    let b = c.in_ok-first.first in
    let d = c.in_ok-second.second in
    exits (λ x. x) c.from_residual-in_err-third.result c.in_err-third.field-0.0 _ _ c.from_residual-in_err-third.ensures.1
    (third b d _ _ _ c.in_ok-first.ensures c.if-first-lt128.false c.in_ok-second.ensures c.if-second-lt128.false
    ∙ spelt_fault more [] (λ bs z. ends (b ∷ d ∷ bs) z) _ _ _ c.in_err-third.ensures)

pub returns-then-third-gt3 : goal.returns-then-third-gt3
returns-then-third-gt3 g c =
    let b = c.in_ok-first.first in
    let d = c.in_ok-second.second in
    let t = c.in_ok-third.third in
    let f : leb t 3 ≡ false = grind arith in
    refused (λ x. x) _ _ _
    (third b d _ _ _ c.in_ok-first.ensures c.if-first-lt128.false c.in_ok-second.ensures c.if-second-lt128.false
    ∙ spelt_one more (λ bs z. ends (b ∷ d ∷ bs) z) _ _ t c.in_ok-third.ensures
    ∙ ap (λ x. chosen x (g.R.Reader.means c.read_u8-3.new.reader) (bits (b ∷ d ∷ t ∷ []))) f)

pub returns : goal.returns
returns g c =
    let b = c.in_ok-first.first in
    let d = c.in_ok-second.second in
    let t = c.in_ok-third.third in
    let f : leb t 3 ≡ true = grind arith in
    gave (λ x. x) _ _ _
    (third b d _ _ _ c.in_ok-first.ensures c.if-first-lt128.false c.in_ok-second.ensures c.if-second-lt128.false
    ∙ spelt_one more (λ bs z. ends (b ∷ d ∷ bs) z) _ _ t c.in_ok-third.ensures
    ∙ ap₂ (λ x v. chosen x (g.R.Reader.means c.read_u8-3.new.reader) v) f (three-are b d t (omega arith)))

-- Pairs of digits and the bytes that they stand for.
use Rattle.std.proofs.Common.{◌≡◌, ℕ, ◌+◌, ◌*◌, ◌/◌, ◌%◌, ◌<◌, ◌^◌, ◌-◌, suc, List, [], ◌∷◌, ◌++◌, length, map, get_or, take, refl, ap, ◌∙◌, append_assoc, arith}
use lib.Utf8.{encode}
use Rattle.std.specs.Simd.{first_chunks}
use Rattle.std.proofs.lemmas.List.{take_more}
use Rattle.std.proofs.lemmas.Str.Ascii.{encode_ascii}
use Rattle.hex_digits.specs.Hex.{digit_value, digit, bytes_from_hex, hex_of}

abbrev pub byte_of : List ℕ → ℕ
byte_of p = 16 * digit_value (get_or p 0 0) + digit_value (get_or p 1 0)

pub decoded_pairs : (ds : List ℕ) → map byte_of (first_chunks 2 (length ds / 2) ds) ≡ bytes_from_hex ds
decoded_pairs [] = refl
decoded_pairs (h ∷ []) = refl
decoded_pairs (h ∷ l ∷ ds) =
    let half : length (h ∷ l ∷ ds) / 2 ≡ suc (length ds / 2) = omega arith in
    ap (λ k. map byte_of (first_chunks 2 k (h ∷ l ∷ ds))) half ∙ ap (λ bs. (16 * digit_value h + digit_value l) ∷ bs) (decoded_pairs ds)

digit_low : (n : ℕ) → n < 16 → digit n < 128
digit_low n h = grind arith

encoded_push : (xs : List ℕ) (b : ℕ) → hex_of (xs ++ b ∷ []) ≡ hex_of xs ++ digit (b / 16) ∷ digit (b % 16) ∷ []
encoded_push [] b = refl
encoded_push (x ∷ xs) b = ap (λ ds. digit (x / 16) ∷ digit (x % 16) ∷ ds) (encoded_push xs b)

pub encoded_more : (bytes was once text : List ℕ) (i c d : ℕ) → i < length bytes → get_or bytes i 0 < 256 → c ≡ digit (get_or bytes i 0 / 16) → d ≡ digit (get_or bytes i 0 % 16) → once ≡ was ++ encode c → text ≡ once ++ encode d → was ≡ hex_of (take i bytes) → text ≡ hex_of (take (i + 1) bytes)
encoded_more bytes was once text i c d h small e f p q w =
    let b : ℕ = get_or bytes i 0 in
    let high : List ℕ = digit (b / 16) ∷ [] in
    let low : List ℕ = digit (b % 16) ∷ [] in
    let one : encode c ≡ high = ap encode e ∙ encode_ascii (digit (b / 16)) (digit_low (b / 16) (omega arith)) in
    let two : encode d ≡ low = ap encode f ∙ encode_ascii (digit (b % 16)) (digit_low (b % 16) (omega arith)) in
    let joined : text ≡ was ++ digit (b / 16) ∷ digit (b % 16) ∷ [] =
    q ∙ ap (λ xs. once ++ xs) two ∙ ap (λ xs. xs ++ low) (p ∙ ap (λ xs. was ++ xs) one) ∙ append_assoc was high low in
    cc (joined, w, take_more bytes i 0 h, encoded_push (take i bytes) b)

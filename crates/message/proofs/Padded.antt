-- The bytes of a padded message that is given as whole bytes and a last byte, of which the first e bits count.
-- Assumes nothing.
use mathlib.Core.Path.{◌≡◌, ap, ◌∙◌}
use mathlib.Core.Bool.{Bool, true, false}
use mathlib.Core.List.{List, ◌∷◌, ◌++◌, append_assoc}
use Prim.Native.Nat.{ℕ, ◌+◌, ◌-◌, ◌*◌, ◌/◌, ◌%◌, ◌^◌, ◌≤◌, ◌<◌}
use native.Mathlib.Nat.{mod-lt, div-add-mod'}
use native.Mathlib.Omega.{arith}
use lib.Arith.{digits_div}
use lib.ListN.{length, take, replicate, length-append}
use lib.Seq.{length-take-le}
use Rattle.lsh.specs.WordSize.{WordSize, block_bytes}
use Rattle.lsh.specs.Bits.{bits_of_byte, bits_of, bytes_of_bits}
use Rattle.lsh.specs.Padding.{block_bits, block_count, padded}
use Rattle.lsh.specs.ByteString.{Bytes}
use Rattle.message.proofs.Bits.{length-bits, bytes-of-bits, bytes-last}

-- the zeros after the bit 1: those that end its byte, and whole bytes to the end of the block
zero-count : (z : WordSize) (m : List Bool) (L e : ℕ) → 0 < block_bytes z → length m ≡ 8 * L + e → e ≤ 7
    → block_bits z * block_count z m - (length m + 1) ≡ 7 - e + 8 * (block_bytes z - 1 - L % block_bytes z)
unfolding block_bits block_count
zero-count z m L e pos len he =
    let B : ℕ = block_bytes z in
    let q : ℕ = L / B in
    let r : ℕ = L % B in
    let whole : q * B + r ≡ L = div-add-mod' L B in
    let inside : r < B = mod-lt L pos in
    let blocks : length m + 1 + (8 * B - 1) ≡ (q + 1) * (8 * B) + (8 * r + e) = omega arith in
    let count : (length m + 1 + (8 * B - 1)) / (8 * B) ≡ q + 1 =
    ap (λ (n : ℕ). n / (8 * B)) blocks ∙ digits_div (q + 1) (omega arith) in
    rw count (omega arith)

-- the whole bytes stay as they are, and only the bits x after them are padded
pub padded-rest : (z : WordSize) (s : List ℕ) (x : List Bool) → 0 < block_bytes z → Bytes s → length x ≤ 7
    → bytes_of_bits (padded z (bits_of s ++ x))
    ≡ s ++ bytes_of_bits (x ++ true ∷ replicate (7 - length x + 8 * (block_bytes z - 1 - length s % block_bytes z)) false)
unfolding padded
padded-rest z s x pos bytes few =
    let len : length (bits_of s ++ x) ≡ 8 * length s + length x = omega (arith, length-append (bits_of s) x, length-bits s) in
    let zeros : ℕ = 7 - length x + 8 * (block_bytes z - 1 - length s % block_bytes z) in
    ap (λ (k : ℕ). bytes_of_bits ((bits_of s ++ x) ++ true ∷ replicate k false)) (zero-count z _ (length s) (length x) pos len few)
    ∙ ap bytes_of_bits (append_assoc (bits_of s) x (true ∷ replicate zeros false))
    ∙ bytes-of-bits s _ bytes

pub padded-bytes : (z : WordSize) (s : List ℕ) (last e : ℕ) → 0 < block_bytes z → Bytes s → last < 256 → e ≤ 7 → last % 2 ^ (8 - e) ≡ 0
    → bytes_of_bits (padded z (bits_of s ++ take e (bits_of_byte last)))
    ≡ s ++ (last + 2 ^ (7 - e)) ∷ replicate (block_bytes z - 1 - length s % block_bytes z) 0
unfolding bits_of_byte
padded-bytes z s last e pos bytes h he low =
    let front : List Bool = take e (bits_of_byte last) in
    let size : length front ≡ e = length-take-le e (bits_of_byte last) (omega arith) in
    let j : ℕ = block_bytes z - 1 - length s % block_bytes z in
    padded-rest z s front pos bytes (omega arith)
    ∙ ap (λ (k : ℕ). s ++ bytes_of_bits (front ++ true ∷ replicate (7 - k + 8 * j) false)) size
    ∙ ap (λ (t : List ℕ). s ++ t) (bytes-last last e j h he low)

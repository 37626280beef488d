-- How a message ends: with the top e bits of a last byte.
-- Assumes nothing.
use Rattle.std.specs.Prelude.{Bool, not, cond, List, ◌++◌, ℕ, ◌+◌, ◌-◌, ◌*◌, ◌%◌, ◌^◌, ltb, eqb, take}
use Rattle.lsh.specs.Bits.{bits_of_byte, bits_of}
use Rattle.limits.specs.Limits.{limit}
use Rattle.receipts.specs.Receipt.{receipt_bytes}

-- the bits of the message bytes s, and then the top e bits of the last byte
unfoldable pub message_bits : List ℕ → ℕ → ℕ → List Bool
message_bits s last e = bits_of s ++ take e (bits_of_byte last)

-- the most bits of a message: those of the most bytes, and 7 more
unfoldable pub most_bits : ℕ
most_bits = 8 * limit + 7

-- 10 if e is above 7, then 11 if one of the low 8 - e bits of the last byte is set, then 12 if the output of this size has no room for a receipt
unfoldable pub end_answer : ℕ → ℕ → ℕ → ℕ
end_answer last e size =
    cond (ltb 7 e) 10
    (cond (not (eqb (last % 2 ^ (8 - e)) 0)) 11
    (cond (ltb size receipt_bytes) 12
    0))

-- A number by which most receipts that are not the same are told apart without comparing all their bytes. No answer depends on which it is.
-- Assumes nothing.
use Rattle.std.specs.Prelude.{List, [], ◌∷◌, ℕ, ◌+◌, ◌*◌, ◌%◌, ◌^◌}

-- a checksum is below this
abbrev pub checksum_bound : ℕ
checksum_bound = 2 ^ 55

-- of the bytes after those whose checksum is c
unfoldable pub checksum_after : ℕ → List ℕ → ℕ
checksum_after c [] = c
checksum_after c (x ∷ xs) = checksum_after ((257 * c + x) % checksum_bound) xs

unfoldable pub checksum : List ℕ → ℕ
checksum s = checksum_after 0 s

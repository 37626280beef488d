-- The bench checks P1 to P12 of document 01, as one table: what the definitions give, and what is wanted.
-- Assumes nothing.
use Rattle.std.specs.Prelude.{Bool, false, List, [], ◌∷◌, ◌++◌, ℕ, take, replicate}
use Rattle.lsh.specs.Tabulate.{at, tabulate}
use Rattle.lsh.specs.WordSize.{WordSize, lsh256, lsh512, sigma}
use Rattle.lsh.specs.StepConstants.{constant}
use Rattle.lsh.specs.Lane.{Lane}
use Rattle.lsh.specs.Step.{mixed_lane, unmixed_lane, permute}
use Rattle.lsh.specs.Expansion.{sub_message}
use Rattle.lsh.specs.Bits.{bits_of, bytes_of_bits}
use Rattle.lsh.specs.Padding.{padded}

-- a check: what the definitions give, and what is wanted
pub record Check : Type 0 where
  pub found : List ℕ
  pub wanted : List ℕ

unfoldable pub founds : List Check → List (List ℕ)
founds [] = []
founds (c ∷ cs) = c.found ∷ founds cs

unfoldable pub wanteds : List Check → List (List ℕ)
wanteds [] = []
wanteds (c ∷ cs) = c.wanted ∷ wanteds cs

unfoldable pub words_of_lane : Lane → List ℕ
words_of_lane t = t.x ∷ t.y ∷ []

unfoldable pub up_to : ℕ → List ℕ
up_to n = tabulate n (λ l. l)

-- words 0, 4 and 15 of M_2 of the block words 0 to 31
unfoldable pub three_words : WordSize → List ℕ
three_words z =
    at (sub_message z (up_to 32) 2) 0 ∷ at (sub_message z (up_to 32) 2) 4 ∷ at (sub_message z (up_to 32) 2) 15 ∷ []

-- M_0[3] = 1 and M_1[0] = ffffffff, the rest zero
unfoldable pub carry : List ℕ
carry = 0 ∷ 0 ∷ 0 ∷ 1 ∷ replicate 12 0 ++ 0xffffffff ∷ replicate 15 0

-- the padded bytes of s and then the bits m, w = 32
unfoldable pub padded_bytes : List ℕ → List Bool → List ℕ
padded_bytes s m = bytes_of_bits (padded lsh256 (bits_of s ++ m))

-- P1, P2, ..
unfoldable pub checks : List Check
checks =
    record { found = constant lsh256 1 0 ∷ []; wanted = 0x0e2c4021 ∷ [] }
    ∷ record { found = constant lsh256 1 1 ∷ []; wanted = 0x872bb30e ∷ [] }
    ∷ record { found = words_of_lane (mixed_lane lsh256 0 (replicate 16 0) 0); wanted = 0xb4760eb1 ∷ 0x22f95f21 ∷ [] }
    ∷ record {
      found = words_of_lane (unmixed_lane lsh256 0 (0xb4760eb1 ∷ replicate 7 0 ++ 0x22f95f21 ∷ replicate 7 0) 0);
      wanted = 0 ∷ 0 ∷ [];
    }
    ∷ record { found = permute (up_to 16); wanted = sigma }
    ∷ record { found = three_words lsh256 ++ three_words lsh512; wanted = 19 ∷ 27 ∷ 45 ∷ 19 ∷ 27 ∷ 45 ∷ [] }
    ∷ record { found = at (sub_message lsh256 carry 2) 0 ∷ []; wanted = 0 ∷ [] }
    ∷ record { found = padded_bytes [] []; wanted = 0x80 ∷ replicate 127 0 }
    ∷ record { found = padded_bytes (replicate 127 0xa5) []; wanted = replicate 127 0xa5 ++ 0x80 ∷ [] }
    ∷ record { found = padded_bytes (replicate 128 0xa5) []; wanted = replicate 128 0xa5 ++ 0x80 ∷ replicate 127 0 }
    ∷ record { found = padded_bytes (replicate 127 0xa5) (replicate 7 false); wanted = replicate 127 0xa5 ++ 0x01 ∷ [] }
    ∷ record { found = bytes_of_bits (take 3 (bits_of (0xff ∷ []))); wanted = 0xe0 ∷ [] }
    ∷ []

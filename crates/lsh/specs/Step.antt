-- A step, and a step taken back.
-- Assumes nothing.
use Rattle.std.specs.Prelude.{List, ◌++◌, ℕ, ◌+◌}
use Rattle.lsh.specs.Tabulate.{at, tabulate}
use Rattle.lsh.specs.Word.{xor}
use Rattle.lsh.specs.WordSize.{WordSize, alpha, beta, gamma, sigma, place_of}
use Rattle.lsh.specs.StepConstants.{constant}
use Rattle.lsh.specs.Lane.{Lane, lane, mix_lane, unmix_lane}

-- message addition (9)
unfoldable pub add_message : WordSize → List ℕ → List ℕ → List ℕ
add_message z t m = tabulate 16 (λ l. xor z.bits (at t l) (at m l))

-- lane l is the words l and l + 8
abbrev pub lane_at : List ℕ → ℕ → Lane
lane_at t l = lane (at t l) (at t (l + 8))

-- eight lanes: the words X, and then the words Y
unfoldable pub lanes : (ℕ → Lane) → List ℕ
lanes f = tabulate 8 (λ l. (f l).x) ++ tabulate 8 (λ l. (f l).y)

-- lane l mixed at step j, and taken apart
unfoldable pub mixed_lane : WordSize → ℕ → List ℕ → ℕ → Lane
mixed_lane z j t l = mix_lane z.bits (alpha z j) (beta z j) (gamma z l) (constant z j l) (lane_at t l)

unfoldable pub unmixed_lane : WordSize → ℕ → List ℕ → ℕ → Lane
unmixed_lane z j t l = unmix_lane z.bits (alpha z j) (beta z j) (gamma z l) (constant z j l) (lane_at t l)

-- the mix of step j (10)
unfoldable pub mix : WordSize → ℕ → List ℕ → List ℕ
mix z j t = lanes (mixed_lane z j t)

unfoldable pub unmix : WordSize → ℕ → List ℕ → List ℕ
unmix z j t = lanes (unmixed_lane z j t)

-- word l of the result is word sigma(l) (15); taken back, word sigma(l) of the result is word l
unfoldable pub permute : List ℕ → List ℕ
permute t = tabulate 16 (λ l. at t (at sigma l))

unfoldable pub unpermute : List ℕ → List ℕ
unpermute t = tabulate 16 (λ l. at t (place_of l sigma))

-- step j with its sub-message m (6)
unfoldable pub step : WordSize → ℕ → List ℕ → List ℕ → List ℕ
step z j m t = permute (mix z j (add_message z t m))

unfoldable pub unstep : WordSize → ℕ → List ℕ → List ℕ → List ℕ
unstep z j m t = add_message z (unmix z j (unpermute t)) m

-- A block of 32 words b run forward on a chain, and backward; lists of blocks.
-- Assumes nothing.
use Rattle.std.specs.Prelude.{List, [], ◌∷◌, ℕ, zero, suc, ◌<◌, ◌^◌, ◌≡◌, length}
use Rattle.lsh.specs.Tabulate.{at}
use Rattle.lsh.specs.WordSize.{WordSize}
use Rattle.lsh.specs.Step.{add_message, step, unstep}
use Rattle.lsh.specs.Expansion.{sub_message}

-- a chain: 16 words below 2 ^ w (a place past the end reads as 0)
pub record Chain (z : WordSize) (t : List ℕ) : Type 0 where
  pub words : length t ≡ 16
  pub below : (l : ℕ) → at t l < 2 ^ z.bits

-- the steps 0 to j - 1, and the same taken back from step j - 1
unfoldable pub steps : WordSize → List ℕ → ℕ → List ℕ → List ℕ
steps z b zero t = t
steps z b (suc j) t = step z j (sub_message z b j) (steps z b j t)

unfoldable pub unsteps : WordSize → List ℕ → ℕ → List ℕ → List ℕ
unsteps z b zero t = t
unsteps z b (suc j) t = unsteps z b j (unstep z j (sub_message z b j) t)

-- the compression function (Algorithm 2) with s steps: it ends with the exclusive or of M_s
unfoldable pub forward_steps : WordSize → ℕ → List ℕ → List ℕ → List ℕ
forward_steps z s b t = add_message z (steps z b s t) (sub_message z b s)

-- the same taken apart from the end
unfoldable pub backward_steps : WordSize → ℕ → List ℕ → List ℕ → List ℕ
backward_steps z s b t = unsteps z b s (add_message z t (sub_message z b s))

-- with all Ns steps
unfoldable pub forward : WordSize → List ℕ → List ℕ → List ℕ
forward z b t = forward_steps z z.steps b t

unfoldable pub backward : WordSize → List ℕ → List ℕ → List ℕ
backward z b t = backward_steps z z.steps b t

-- a list of blocks run forward in order with s steps each, each on the chain that the one before gave
unfoldable pub forwards_steps : WordSize → ℕ → List (List ℕ) → List ℕ → List ℕ
forwards_steps z s [] t = t
forwards_steps z s (b ∷ bs) t = forwards_steps z s bs (forward_steps z s b t)

-- and backward from the last
unfoldable pub backwards_steps : WordSize → ℕ → List (List ℕ) → List ℕ → List ℕ
backwards_steps z s [] t = t
backwards_steps z s (b ∷ bs) t = backward_steps z s b (backwards_steps z s bs t)

-- with all Ns steps
unfoldable pub forwards : WordSize → List (List ℕ) → List ℕ → List ℕ
unfolding forwards_steps
forwards z bs t = forwards_steps z z.steps bs t

unfoldable pub backwards : WordSize → List (List ℕ) → List ℕ → List ℕ
unfolding backwards_steps
backwards z bs t = backwards_steps z z.steps bs t

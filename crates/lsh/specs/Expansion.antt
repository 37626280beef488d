-- The sub-messages of a block.
-- Assumes nothing.
use Rattle.std.specs.Prelude.{List, ℕ, zero, suc, take, drop}
use Rattle.lsh.specs.Tabulate.{at, tabulate}
use Rattle.lsh.specs.Word.{add}
use Rattle.lsh.specs.WordSize.{WordSize, tau}

-- M_j from p = M_(j-1) and q = M_(j-2) (8)
unfoldable pub next_sub_message : WordSize → List ℕ → List ℕ → List ℕ
next_sub_message z p q = tabulate 16 (λ l. add z.bits (at p l) (at q (at tau l)))

-- M_j and M_(j+1) of the 32 words b. M_0 and M_1 are its halves (7)
unfoldable pub sub_messages : WordSize → List ℕ → ℕ → List ℕ × List ℕ
sub_messages z b zero = (take 16 b, drop 16 b)
sub_messages z b (suc j) = ((sub_messages z b j).1, next_sub_message z (sub_messages z b j).1 (sub_messages z b j).0)

-- M_j
unfoldable pub sub_message : WordSize → List ℕ → ℕ → List ℕ
sub_message z b j = (sub_messages z b j).0

-- The sub-messages of a block in groups, and a block of 32 words b run forward and backward on them, with any number s of steps.
-- Assumes nothing.
use Rattle.std.specs.Prelude.{List, [], ◌∷◌, ℕ, zero, suc, take, drop}
use Rattle.lsh.specs.Word.{add}
use Rattle.lsh.specs.WordSize.{WordSize}
use Rattle.groups.specs.Group.{wordwise, permute_words}
use Rattle.groups.specs.GroupStep.{Groups, groups, in_groups, in_words, add_groups, step_groups, unstep_groups}

-- tau permutes the words within each group: the first and the third in one way, and the second and the fourth in another
unfoldable pub within_first : List ℕ
within_first = 3 ∷ 2 ∷ 0 ∷ 1 ∷ []

unfoldable pub within_second : List ℕ
within_second = 3 ∷ 0 ∷ 1 ∷ 2 ∷ []

-- M_j from p = M_(j-1) and q = M_(j-2) (8)
unfoldable pub next_groups : WordSize → Groups → Groups → Groups
next_groups z p q =
    let add_words : List ℕ → List ℕ → List ℕ = wordwise (add z.bits) in
    groups
    (add_words p.x₀ (permute_words within_first q.x₀))
    (add_words p.x₁ (permute_words within_second q.x₁))
    (add_words p.y₀ (permute_words within_first q.y₀))
    (add_words p.y₁ (permute_words within_second q.y₁))

-- M_j and M_(j+1) (7)
unfoldable pub messages_in_groups : WordSize → List ℕ → ℕ → Groups × Groups
messages_in_groups z b zero = (in_groups (take 16 b), in_groups (drop 16 b))
messages_in_groups z b (suc j) =
    ((messages_in_groups z b j).1, next_groups z (messages_in_groups z b j).1 (messages_in_groups z b j).0)

-- M_j
unfoldable pub message_in_groups : WordSize → List ℕ → ℕ → Groups
message_in_groups z b j = (messages_in_groups z b j).0

-- the steps 0 to j - 1, and the same taken back from step j - 1
unfoldable pub steps_in_groups : WordSize → List ℕ → ℕ → Groups → Groups
steps_in_groups z b zero t = t
steps_in_groups z b (suc j) t = step_groups z j (message_in_groups z b j) (steps_in_groups z b j t)

unfoldable pub unsteps_in_groups : WordSize → List ℕ → ℕ → Groups → Groups
unsteps_in_groups z b zero t = t
unsteps_in_groups z b (suc j) t = unsteps_in_groups z b j (unstep_groups z j (message_in_groups z b j) t)

-- the block on a chain of 16 words: forward it ends with the exclusive or of M_s, and backward it begins with it
unfoldable pub forward_in_groups : WordSize → ℕ → List ℕ → List ℕ → List ℕ
forward_in_groups z s b t = in_words (add_groups z (steps_in_groups z b s (in_groups t)) (message_in_groups z b s))

unfoldable pub backward_in_groups : WordSize → ℕ → List ℕ → List ℕ → List ℕ
backward_in_groups z s b t = in_words (unsteps_in_groups z b s (add_groups z (in_groups t) (message_in_groups z b s)))

-- The steps of a block forward, with each sub-message worked out two steps before it is wanted: m₀ is the array before the first step.
-- Assumes nothing.
use mathlib.Core.Path.{◌≡◌, refl, sym, ap, ap₂, ◌∙◌}
use mathlib.Core.List.{List}
use Prim.Native.Nat.{ℕ, ◌+◌, ◌*◌, ◌≤◌}
use native.Mathlib.Nat.{le_refl}
use native.Mathlib.Numerals.{add-one}
use native.Mathlib.Omega.{arith}
use lib.ListN.{length, take}
use lib.Seq.{sets, length-sets}
use Rattle.lsh.specs.WordSize.{WordSize}
use Rattle.lsh.specs.Step.{add_message, step}
use Rattle.lsh.specs.Expansion.{next_sub_message, sub_message}
use Rattle.lsh.specs.Block.{steps, forward_steps}
use Rattle.loops.specs.Rows.{row}
use Rattle.loops.specs.Turns.{SteppedAhead}
use Rattle.loops.proofs.Rows.{sub-next, rows_none, rows_more, take-stored}

pub ahead_none : (z : WordSize) (m t : List ℕ) → 32 ≤ length m → SteppedAhead z m m 0 t t
unfolding steps
ahead_none z m t room = record { len = refl; rows = rows_none z m room; chain = refl }

pub ahead_more : {z : WordSize} {m₀ m : List ℕ} {j : ℕ} {t r : List ℕ} (o u : List ℕ) → SteppedAhead z m₀ m j t r → (j + 3) * 16 ≤ length m₀
    → o ≡ sets m ((j + 2) * 16) (next_sub_message z (row m (j + 1)) (row m j)) → u ≡ step z j (row o j) r → SteppedAhead z m₀ o (j + 1) t u
unfolding steps
ahead_more {z} {m₀} {m} {j} {t} {r} o u h room eo eu =
    record {
      len = ap length eo ∙ length-sets m ((j + 2) * 16) next ∙ h.len;
      rows = rows;
      chain = eu ∙ ap₂ (step z j) (rows j (omega arith)) h.chain ∙ ap (λ (k : ℕ). steps z (take 32 m₀) k t) (sym (add-one j));
    }
  where
    next : List ℕ
    next = next_sub_message z (row m (j + 1)) (row m j)

    rows : (i : ℕ) → i ≤ j + 1 + 1 → row o i ≡ sub_message z (take 32 m₀) i
    rows =
        rows_more z (take 32 m₀) m j o next h.rows (rw h.len room)
        (sub-next z (take 32 m₀) j refl (h.rows (j + 1) (le_refl (j + 1))) (h.rows j (omega arith)))
        eo

-- the exclusive or of M_s follows
pub ahead-all : {z : WordSize} {m₀ m : List ℕ} {j : ℕ} {t r : List ℕ} (s : ℕ) {q u : List ℕ} → SteppedAhead z m₀ m j t r → j ≡ s → q ≡ row m s → u ≡ add_message z r q
    → u ≡ forward_steps z s (take 32 m₀) t
unfolding forward_steps
ahead-all {z} {m₀} {m} {j} {t} {r} s {q} {u} h all is e =
    e ∙ ap₂ (add_message z) (h.chain ∙ ap (λ (k : ℕ). steps z (take 32 m₀) k t) all) (is ∙ h.rows s (omega arith))

-- of the block whose words were put before the rest
pub ahead-stored : (z : WordSize) (s : ℕ) (m b t : List ℕ) {n u : List ℕ} → length b ≡ 32 → 32 ≤ length m → n ≡ sets m 0 b → u ≡ forward_steps z s (take 32 n) t
    → u ≡ forward_steps z s b t
ahead-stored z s m b t len room is e = e ∙ ap (λ (c : List ℕ). forward_steps z s c t) (ap (take 32) is ∙ take-stored m b len room)

-- The steps of a block, forward and backward, with the sub-messages in one array: one by one, and two to a turn.
-- Assumes nothing.
use mathlib.Core.Path.{◌≡◌, refl, sym, ap, ap₂, ◌∙◌, subst}
use mathlib.Core.List.{List}
use Prim.Native.Nat.{ℕ, ◌+◌, ◌-◌, ◌*◌, ◌≤◌, ◌<◌}
use native.Mathlib.Nat.{le_refl}
use native.Mathlib.Numerals.{add-one}
use native.Mathlib.Omega.{arith}
use Rattle.lsh.specs.WordSize.{WordSize}
use Rattle.lsh.specs.Step.{add_message, step, unstep}
use Rattle.lsh.specs.Block.{steps, unsteps, forward_steps, backward_steps}
use Rattle.loops.specs.Rows.{row, Expanded}
use Rattle.loops.specs.Turns.{RunTo, RunBack}

-- forward: the steps 0 to j - 1 lead from t to r
pub record Stepped (z : WordSize) (m : List ℕ) (s j : ℕ) (t r : List ℕ) : Type 0 where
  pub chain : (b : List ℕ) → Expanded z b m s → r ≡ steps z b j t

pub stepped-none : (z : WordSize) (m : List ℕ) (s : ℕ) (t : List ℕ) → Stepped z m s 0 t t
unfolding steps
stepped-none z m s t = record { chain = λ b has. refl }

-- q is the sub-message that a step takes from its row
module _ {z : WordSize} {m t r : List ℕ} {s : ℕ} where
  -- the same number of steps, written in another way
  pub stepped-is : {i j : ℕ} → Stepped z m s i t r → i ≡ j → Stepped z m s j t r
  stepped-is h e = record { chain = λ b has. h.chain b has ∙ ap (λ (k : ℕ). steps z b k t) e }

  pub stepped-one : {q u : List ℕ} {j : ℕ} → Stepped z m s j t r → j ≤ s → q ≡ row m j → u ≡ step z j q r → Stepped z m s (j + 1) t u
  unfolding steps
  stepped-one {q} {u} {j} h le is e =
      record {
        chain = λ b has. e ∙ ap₂ (step z j) (is ∙ has.rows j le) (h.chain b has) ∙ ap (λ (k : ℕ). steps z b k t) (sym (add-one j));
      }

  -- the exclusive or of M_s follows
  pub stepped-all : {q u : List ℕ} {j : ℕ} → Stepped z m s j t r → j ≡ s → q ≡ row m s → u ≡ add_message z r q → RunTo z m s t u
  unfolding forward_steps
  stepped-all {q} {u} {j} h all is e =
      record {
        chain = λ b has. e ∙ ap₂ (add_message z) ((stepped-is h all).chain b has) (is ∙ has.rows s (le_refl s));
      }

-- a turn
pub stepped-two : {z : WordSize} {m t r v : List ℕ} {s : ℕ} (k : ℕ) → Stepped z m s (k * 2) t r → k * 2 + 1 ≤ s
    → v ≡ step z (k * 2 + 1) (row m (k * 2 + 1)) (step z (k * 2) (row m (k * 2)) r) → Stepped z m s ((k + 1) * 2) t v
stepped-two k h le e = stepped-is (stepped-one (stepped-one h (omega arith) refl refl) le refl e) (omega arith)

-- backward: the exclusive or of M_s comes first
pub unstepped-none : {z : WordSize} {m q r : List ℕ} {s : ℕ} (t : List ℕ) → q ≡ row m s → r ≡ add_message z t q → RunBack z m s s t r
unfolding backward_steps
unstepped-none {z} {m} {q} {r} {s} t is e =
    record { chain = λ b has. ap (unsteps z b s) (e ∙ ap (add_message z t) (is ∙ has.rows s (le_refl s))) }

module _ {z : WordSize} {m t r : List ℕ} {s : ℕ} where
  pub unstepped-is : {i j : ℕ} → RunBack z m s i t r → i ≡ j → RunBack z m s j t r
  unstepped-is h e = record { chain = λ b has. ap (λ (k : ℕ). unsteps z b k r) (sym e) ∙ h.chain b has }

  pub unstepped-one : {q u : List ℕ} {j : ℕ} → RunBack z m s (j + 1) t r → j ≤ s → q ≡ row m j → u ≡ unstep z j q r → RunBack z m s j t u
  unfolding unsteps
  unstepped-one {q} {u} {j} h le is e =
      record {
        chain = λ b has.
            ap (unsteps z b j) (e ∙ ap (λ (p : List ℕ). unstep z j p r) (is ∙ has.rows j le))
            ∙ ap (λ (k : ℕ). unsteps z b k r) (sym (add-one j))
            ∙ h.chain b has;
      }

pub unstepped-two : {z : WordSize} {m t r v : List ℕ} {s : ℕ} (k : ℕ) → RunBack z m s (k * 2) t r → 0 < k → k * 2 ≤ s
    → v ≡ unstep z ((k - 1) * 2) (row m ((k - 1) * 2)) (unstep z ((k - 1) * 2 + 1) (row m ((k - 1) * 2 + 1)) r)
    → RunBack z m s ((k - 1) * 2) t v
unstepped-two k h some le e =
    unstepped-one (unstepped-one (unstepped-is h (omega arith)) (omega arith) refl refl) (omega arith) refl e

-- a block run with n steps, which are s
module _ {z : WordSize} {b m r : List ℕ} {s n : ℕ} (has : Expanded z b m s) (is : s ≡ n) (t : List ℕ) where
  pub run-to : RunTo z m n t r → r ≡ forward_steps z s b t
  run-to h = subst (λ (k : ℕ). Expanded z b m k → r ≡ forward_steps z k b t) (sym is) (h.chain b) has

  pub run-back : RunBack z m n 0 t r → r ≡ backward_steps z s b t
  unfolding unsteps
  run-back h = subst (λ (k : ℕ). Expanded z b m k → r ≡ backward_steps z k b t) (sym is) (h.chain b) has

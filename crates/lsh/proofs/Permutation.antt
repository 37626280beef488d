-- tau and sigma permute 0 to 15: each by one test over its table.
-- Assumes nothing.
use mathlib.Core.Path.{◌≡◌}
use mathlib.Core.Bool.{Bool, ◌&&◌}
use mathlib.Core.List.{List}
use Prim.Native.Nat.{ℕ, ◌≤◌, ◌<◌}
use native.Mathlib.Omega.{arith}
use lib.Dec.{T, eqb, eqb→eq, ltb, ltb→lt}
use Rattle.lsh.specs.Tabulate.{at}
use Rattle.lsh.specs.WordSize.{sigma, tau, place_of}
use Rattle.lsh.proofs.Tests.{and_left, and_right, all_pass, at-all_pass, up_to, at-up_to}

pub record Permutation (π : List ℕ) : Type 0 where
  pub inside : (l : ℕ) → at π l < 16
  pub place_inside : (l : ℕ) → l < 16 → place_of l π < 16
  pub at_place : (l : ℕ) → l < 16 → at π (place_of l π) ≡ l
  pub place_at : (l : ℕ) → l < 16 → place_of (at π l) π ≡ l

abbrev placed : List ℕ → ℕ → Bool
placed π l = ltb (place_of l π) 16 && (eqb (at π (place_of l π)) l && eqb (place_of (at π l) π) l)

permutation : (π : List ℕ) → T (up_to 15 π) → T (all_pass 16 (placed π)) → Permutation π
permutation π u t =
    record {
      inside = λ l. let h : at π l ≤ 15 = at-up_to 15 π u l in omega arith;
      place_inside = λ l h. ltb→lt _ _ (and_left (ltb (place_of l π) 16) _ (at-all_pass 16 (placed π) t l h));
      at_place = λ l h. eqb→eq _ _ (and_left (eqb (at π (place_of l π)) l) _ (rest l h));
      place_at = λ l h. eqb→eq _ _ (and_right (eqb (at π (place_of l π)) l) _ (rest l h));
    }
  where
    rest : (l : ℕ) → l < 16 → T (eqb (at π (place_of l π)) l && eqb (place_of (at π l) π) l)
    rest l h = and_right (ltb (place_of l π) 16) _ (at-all_pass 16 (placed π) t l h)

pub sigma-permutes : Permutation sigma
unfolding sigma place_of
sigma-permutes = permutation sigma tt tt

pub tau-permutes : Permutation tau
unfolding tau place_of
tau-permutes = permutation tau tt tt

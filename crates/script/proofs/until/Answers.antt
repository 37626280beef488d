-- `script::until` meets its contract. Assumes nothing.
use mathlib.Core.Path.{◌≡◌, refl, sym, ◌∙◌}
use mathlib.Core.Logic.{◌≢◌}
use mathlib.Core.List.{List}
use Prim.Native.Nat.{ℕ}
use native.Mathlib.Omega.{arith}
use lib.ListN.{length}
use borrow.Author.Rules.{rules}
use borrow.Author.Tests.{tests, eq-eqb, ne_eqb}
use Rattle.std.specs.Option.{unwrap_or}
use Rattle.std.proofs.lemmas.Iterator.{YieldsList-from_slice, IsFirst-from_position, index_from_first}
use Rattle.script.specs.Words.{before}
use Rattle.script.proofs.Lines.{before-le}
use Rattle.script.proofs.until.Goals as goal

pub returns : goal.returns
returns c =
    let m = c.args.mark in
    let s = c.args.s.now in
    let is : length (before m s) ≡ unwrap_or c.position.result (length s) =
    index_from_first (λ (t : List ℕ). length (before m t)) (λ (x : ℕ). x ≡ m) (λ (x : ℕ). x ≢ m) refl
    (λ x t e. rw (eq-eqb x m e))
    (λ x t ne. rw (ne_eqb x m ne) (omega arith))
    s c.position.result
    (IsFirst-from_position _ _ _ (λ (x : ℕ). x ≡ m) (λ (x : ℕ). x ≢ m) c.position.ensures.ran (YieldsList-from_slice s cc)
    (λ x q k. search (rules, tests)) (λ x q k. search (rules, tests))) in
    let e = c.unwrap_or.ensures ∙ sym is in
    (e, rw e (before-le m s))

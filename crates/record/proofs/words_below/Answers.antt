use mathlib.Core.Path.{◌≡◌, refl, sym, ap, ◌∙◌}
use mathlib.Core.Bool.{true}
use Prim.Native.Nat.{ℕ, ◌^◌}
use mir.Syntax.{w64}
use mir.Val.{Fits}
use lib.Dec.{ltb}
use lib.ListN.{get_or}
use Rattle.std.proofs.Common.{rules, tests}
use Rattle.std.proofs.lemmas.Iterator.{YieldsList-from_slice}
use Rattle.std.proofs.lemmas.Iterator.Search.{all_from_yields_List}
use Rattle.lsh.specs.WordSize.{is_word_size}
use Rattle.lsh.proofs.Figures.{by_size}
use Rattle.lists.specs.Lists.{all_below}
use Rattle.lists.proofs.Lists.{all-below}
use Rattle.record.proofs.words_below.Goals as goal
use Rattle.record.proofs.words_below.Goals.{Then-w-eq64}

word-32 : (w : ℕ) → is_word_size w ≡ true → (w ≡ 64 → ⊥) → w ≡ 32
word-32 = by_size (λ (w : ℕ). (w ≡ 64 → ⊥) → w ≡ 32) (λ other. refl) (λ other. absurd (other refl))

fits : (c : Then-w-eq64) (i : ℕ) → Fits w64 (get_or c.args.chain i 0)
fits c i = search rules

pub returns-then-w-eq64 : goal.returns-then-w-eq64
returns-then-w-eq64 c = rw c.if-w-eq64.true (sym (all-below (2 ^ 64) c.args.chain (λ i. (fits c i).fits)))

pub returns : goal.returns
returns c =
    all_from_yields_List (λ (x : ℕ). ltb x 4294967296) _ _ c.all.result c.all.ensures.ran (YieldsList-from_slice c.args.chain cc) (λ x b q k. search (rules, tests))
    ∙ ap (λ (w : ℕ). all_below (2 ^ w) c.args.chain) (sym (word-32 c.args.w c.requires c.if-w-eq64.false))

-- An empty piece changes nothing: a sound record with no split rewind begun is returned as it is.
-- Assumes nothing.
use mathlib.Core.Path.{◌≡◌, sym, ap, ◌∙◌}
use mathlib.Core.Bool.{true, false}
use mathlib.Core.List.{List, [], ◌++◌, append-nil}
use Prim.Native.Nat.{ℕ, ◌+◌, ◌-◌, ◌/◌, ◌<◌}
use native.Mathlib.Nat.{add-zero}
use native.Mathlib.Omega.{arith}
use borrow.Author.Tests.{le-ltb}
use lib.ListN.{length, take, drop, replicate, length-drop, take-append-drop}
use Rattle.lsh.specs.WordSize.{WordSize, size_of, block_bytes}
use Rattle.lsh.specs.Block.{forwards}
use Rattle.lsh.specs.Padding.{blocks_of, rest_of}
use Rattle.lsh.proofs.Figures.{block-some}
use Rattle.lsh.proofs.Padding.{blocks-short, rest-short}
use Rattle.limits.specs.Limits.{longest_block, limit}
use Rattle.orders.specs.declared.Record.{Record}
use Rattle.orders.specs.declared.Outcome.{Outcome}
use Rattle.orders.specs.Record.{held_of, held_length, held_bytes, sound, is_begun}
use Rattle.orders.specs.Arrays.{Arrays}
use Rattle.orders.proofs.Held.{fill-lt, held-length}
use Rattle.lists.proofs.Lists.{zero-all}
use Rattle.orders.proofs.Sound.{Sound, sounds}
use Rattle.orders.proofs.InTurn.{in-turn}
use Rattle.orders.specs.Append.{appended, append_accepted, append_call}

module _ (r : Record) (arrays : Arrays r) (ok : sound r ≡ true) where
  abbrev Z : WordSize
  Z = size_of r.w

  abbrev fill : ℕ
  fill = held_length r.w r.total

  is : Sound r
  is = sounds r ok

  -- the held bytes alone are shorter than a block
  alone : held_bytes r ++ [] ≡ held_bytes r
  alone = append-nil (held_bytes r)

  short : length (held_bytes r) < block_bytes Z
  short = omega (arith, held-length r arrays.long, fill-lt r arrays.long)

  -- and with zeros after them they are what the record holds
  held-again : held_of (held_bytes r) ≡ r.held
  unfolding held_of held_bytes
  held-again =
      let left : longest_block - length (take fill r.held) ≡ length (drop fill r.held) =
      omega (arith, held-length r arrays.long, length-drop fill r.held, arrays.long) in
      ap (λ (k : ℕ). take fill r.held ++ replicate k 0) left
      ∙ ap (λ (s : List ℕ). take fill r.held ++ s) (sym (zero-all (drop fill r.held) is.zero))
      ∙ take-append-drop fill r.held

  appended-empty : appended r [] ≡ r
  unfolding appended forwards
  appended-empty = λ i. record {
    w = r.w;
    n = r.n;
    total = add-zero r.total i;
    chain = ap (λ (bs : List (List ℕ)). forwards Z bs r.chain) (ap (blocks_of Z) alone ∙ blocks-short Z (block-some r.w) (held_bytes r) short) i;
    held = (ap held_of (ap (rest_of Z) alone ∙ rest-short Z (block-some r.w) (held_bytes r) short) ∙ held-again) i;
    split = r.split;
  }

  -- with the count 0, since the order has no more blocks than before
  pub accepted-empty : ◌≡◌ {A = Outcome} (append_accepted r []) (record { number = 0; count = 0; next = r })
  unfolding append_accepted
  accepted-empty =
      let none : (r.total + 0) / block_bytes Z - r.total / block_bytes Z ≡ 0 =
      ap (λ (k : ℕ). k / block_bytes Z - r.total / block_bytes Z) (add-zero r.total) ∙ omega arith in
      λ i. record { number = 0; count = none i; next = appended-empty i }

  pub append-empty : is_begun r ≡ false → ◌≡◌ {A = Outcome} (append_call r []) (record { number = 0; count = 0; next = r })
  unfolding append_call
  append-empty idle = in-turn r ok _ idle ∙ rw (le-ltb limit (r.total + 0) (omega (arith, is.few))) accepted-empty

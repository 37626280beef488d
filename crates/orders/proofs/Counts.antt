-- The steps of a split rewind but the end count 0, accepted or refused.
-- Assumes nothing.
use mathlib.Core.Path.{◌≡◌, refl}
use mathlib.Core.Bool.{Bool, true, false, not, cond}
use mathlib.Core.List.{List}
use Prim.Native.Nat.{ℕ}
use lib.Dec.{eqb}
use lib.ListN.{length}
use Rattle.lsh.specs.WordSize.{size_of, block_bytes}
use Rattle.orders.specs.declared.Record.{Record}
use Rattle.orders.specs.declared.Outcome.{Outcome}
use Rattle.orders.specs.Record.{held_length, is_begun, refused, stepped}
use Rattle.orders.specs.Turn.{answered, turn_answer, in_turn}
use Rattle.orders.specs.Rewind.{held_differs}
use Rattle.orders.specs.Begin.{begun, begin_call}
use Rattle.orders.specs.HandBack.{no_block, handed_back, hand_back_call}
use Rattle.orders.specs.Abandon.{abandon_call}

-- two outcomes that count 0
either-none : (t : Bool) (a b : Outcome) → a.count ≡ 0 → b.count ≡ 0 → (cond t a b).count ≡ 0
either-none true a b first other = first
either-none false a b first other = other

module _ (r : Record) where
  turn-none : (out : Bool) (rest : Outcome) → rest.count ≡ 0 → (in_turn r out rest).count ≡ 0
  unfolding in_turn answered refused
  turn-none out rest none = either-none (eqb (turn_answer r out) 0) rest (refused (turn_answer r out) r) none refl

  pub begin-none : (h : List ℕ) → (begin_call r h).count ≡ 0
  unfolding begin_call refused stepped
  begin-none h =
      turn-none (is_begun r) _
      (either-none (not (eqb (length h) (held_length r.w r.total))) (refused 6 r) _ refl
      (either-none (held_differs r h) (refused 8 r) (stepped r (begun r)) refl refl))

  pub hand-back-none : (block : List ℕ) → (hand_back_call r block).count ≡ 0
  unfolding hand_back_call refused stepped
  hand-back-none block =
      turn-none (not (is_begun r)) _
      (either-none (no_block (block_bytes (size_of r.w)) r.total r.split.blocks (length block)) (refused 6 r) (stepped r (handed_back r block)) refl refl)

  pub abandon-none : (abandon_call r).count ≡ 0
  unfolding abandon_call stepped
  abandon-none = turn-none (not (is_begun r)) _ refl

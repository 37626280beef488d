-- `published::opening` meets its contract: each stored chain is its run, by computation. Assumes nothing.
use mathlib.Core.Path.{sym, ap₂}
use Rattle.std.proofs.Common.{rules}
use Prim.Native.Nat.{ℕ}
use Rattle.lsh.specs.Word.{add, turn, rotate_left, xor}
use Rattle.lsh.specs.WordSize.{lsh256, lsh512, size_of, alpha, beta, gamma, tau, sigma}
use Rattle.lsh.specs.StepConstants.{constant}
use Rattle.lsh.specs.Lane.{mix_lane}
use Rattle.lsh.specs.Step.{add_message, lanes, mixed_lane, mix, permute, step}
use Rattle.lsh.specs.Expansion.{next_sub_message, sub_messages, sub_message}
use Rattle.lsh.specs.Block.{steps, forward_steps, forward}
use Rattle.lsh.specs.Opening.{opening}
use Rattle.lsh.specs.Tabulate.{tabulate, tabulate_from}
use Rattle.published.specs.Published.{published_sizes, published_lengths, stand_together, is_published}
use Rattle.published.proofs.opening.Goals as goal

pub returns-in-32-eq224 : goal.returns-in-32-eq224
unfolding tabulate tabulate_from add turn rotate_left xor lsh256 lsh512 size_of alpha beta gamma tau sigma constant mix_lane add_message lanes mixed_lane mix permute step next_sub_message sub_messages sub_message steps forward_steps forward opening is_published stand_together published_sizes published_lengths
returns-in-32-eq224 c = (ap₂ is_published c.in-32-eq224.is-0 c.in-32-eq224.is-1, ap₂ (λ (w n : ℕ). opening (size_of w) n) (sym c.in-32-eq224.is-0) (sym c.in-32-eq224.is-1))

pub returns-in-32-eq256 : goal.returns-in-32-eq256
unfolding tabulate tabulate_from add turn rotate_left xor lsh256 lsh512 size_of alpha beta gamma tau sigma constant mix_lane add_message lanes mixed_lane mix permute step next_sub_message sub_messages sub_message steps forward_steps forward opening is_published stand_together published_sizes published_lengths
returns-in-32-eq256 c = (ap₂ is_published c.in-32-eq256.is-0 c.in-32-eq256.is-1, ap₂ (λ (w n : ℕ). opening (size_of w) n) (sym c.in-32-eq256.is-0) (sym c.in-32-eq256.is-1))

pub returns-in-64-eq224 : goal.returns-in-64-eq224
unfolding tabulate tabulate_from add turn rotate_left xor lsh256 lsh512 size_of alpha beta gamma tau sigma constant mix_lane add_message lanes mixed_lane mix permute step next_sub_message sub_messages sub_message steps forward_steps forward opening is_published stand_together published_sizes published_lengths
returns-in-64-eq224 c = (ap₂ is_published c.in-64-eq224.is-0 c.in-64-eq224.is-1, ap₂ (λ (w n : ℕ). opening (size_of w) n) (sym c.in-64-eq224.is-0) (sym c.in-64-eq224.is-1))

pub returns-in-64-eq256 : goal.returns-in-64-eq256
unfolding tabulate tabulate_from add turn rotate_left xor lsh256 lsh512 size_of alpha beta gamma tau sigma constant mix_lane add_message lanes mixed_lane mix permute step next_sub_message sub_messages sub_message steps forward_steps forward opening is_published stand_together published_sizes published_lengths
returns-in-64-eq256 c = (ap₂ is_published c.in-64-eq256.is-0 c.in-64-eq256.is-1, ap₂ (λ (w n : ℕ). opening (size_of w) n) (sym c.in-64-eq256.is-0) (sym c.in-64-eq256.is-1))

pub returns-in-64-eq384 : goal.returns-in-64-eq384
unfolding tabulate tabulate_from add turn rotate_left xor lsh256 lsh512 size_of alpha beta gamma tau sigma constant mix_lane add_message lanes mixed_lane mix permute step next_sub_message sub_messages sub_message steps forward_steps forward opening is_published stand_together published_sizes published_lengths
returns-in-64-eq384 c = (ap₂ is_published c.in-64-eq384.is-0 c.in-64-eq384.is-1, ap₂ (λ (w n : ℕ). opening (size_of w) n) (sym c.in-64-eq384.is-0) (sym c.in-64-eq384.is-1))

pub returns-in-64-eq512 : goal.returns-in-64-eq512
unfolding tabulate tabulate_from add turn rotate_left xor lsh256 lsh512 size_of alpha beta gamma tau sigma constant mix_lane add_message lanes mixed_lane mix permute step next_sub_message sub_messages sub_message steps forward_steps forward opening is_published stand_together published_sizes published_lengths
returns-in-64-eq512 c = (ap₂ is_published c.in-64-eq512.is-0 c.in-64-eq512.is-1, ap₂ (λ (w n : ℕ). opening (size_of w) n) (sym c.in-64-eq512.is-0) (sym c.in-64-eq512.is-1))

pub returns-in_default : goal.returns-in_default
unfolding is_published stand_together published_sizes published_lengths
returns-in_default c = search rules

pub returns-in_default-2 : goal.returns-in_default-2
unfolding is_published stand_together published_sizes published_lengths
returns-in_default-2 c = search rules

pub returns-in_default-3 : goal.returns-in_default-3
unfolding is_published stand_together published_sizes published_lengths
returns-in_default-3 c = search rules

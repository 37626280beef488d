-- `append_roll::last_part` visits its contract. Assumes nothing.
use mathlib.Core.Path.{◌≡◌, sym, ap, ◌∙◌}
use mathlib.Core.List.{List, []}
use Prim.Native.Nat.{ℕ, ◌+◌}
use native.Mathlib.Omega.{arith}
use lib.ListN.{replicate}
use Rattle.limits.specs.Limits.{longest_block, limit}
use Rattle.orders.specs.declared.Record.{Record}
use Rattle.orders.specs.declared.Outcome.{Outcome}
use Rattle.orders.specs.Record.{held_of}
use Rattle.orders.specs.Append.{append_accepted}
use Rattle.checkpoints.proofs.AppendAnswers.{few-blocks}
use Rattle.append_roll.proofs.last_part.Goals as goal
use Rattle.append_roll.proofs.last_part.Goals.{After-zero_bytes-held, Start}

-- no byte is held
none-held : (s : List ℕ) → s ≡ replicate longest_block 0 → s ≡ held_of []
unfolding held_of
none-held s e = e

-- the record at the checkpoint, as the code makes it
module _ (c : After-zero_bytes-held) where
  abbrev at-start : Start
  at-start = (goal.at.After-zero_bytes-held c).Start

  abbrev order_with : List ℕ → Record
  order_with held =
      record {
        w = at-start.args.r.w;
        n = at-start.args.r.n;
        total = at-start.args.r.total + at-start.args.at;
        chain = at-start.args.p.chain;
        held = held;
        split = at-start.args.r.split;
      }

  abbrev order : Record
  order = order_with c.zero_bytes-held.result

  order_is : order ≡ order_with (held_of [])
  order_is = ap order_with (none-held c.zero_bytes-held.result c.zero_bytes-held.ensures)

pub overflow_add-order : goal.overflow_add-order
unfolding limit
overflow_add-order c = record { fits = omega (arith, c.requires.0) }

pub overflow_add-result : goal.overflow_add-result
unfolding limit
overflow_add-result c = let y = (goal.at.overflow_add-result c).After-zero_bytes-held in
    let z = at-start y in
    record {
      fits =
          omega (
            arith,
            z.requires.0,
            z.requires.1,
            few-blocks (order y) z.args.part.now,
            ap (λ (o : Outcome). o.count) c.accepted-step.ensures,
          );
    }

pub accepted-step-requires : goal.accepted-step-requires
unfolding append_accepted
accepted-step-requires c = ((at-start (goal.at.accepted-step-requires c).After-zero_bytes-held).requires.2 (order (goal.at.accepted-step-requires c).After-zero_bytes-held) (order_is (goal.at.accepted-step-requires c).After-zero_bytes-held), (at-start (goal.at.accepted-step-requires c).After-zero_bytes-held).requires.0)

pub returns : goal.returns
unfolding append_accepted
returns c other is = let y = (goal.at.returns c).After-zero_bytes-held in
    let z = at-start y in
    ap (λ (o : Outcome). record { number = o.number; count = z.args.p.count + o.count; next = o.next })
    (c.accepted-step.ensures ∙ ap (λ (r : Record). append_accepted r z.args.part.now) (order_is y ∙ sym is))

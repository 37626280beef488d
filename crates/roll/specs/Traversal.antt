-- What the code keeps of a roll while it inserts checkpoints: how many slots it has and how many of them are linked, the last link, and a mark for
-- each linked slot.
-- Assumes nothing.
use Rattle.std.specs.Prelude.{cond, Option, Some, None, List, ℕ, ◌+◌, length}
use Rattle.lsh.specs.Tabulate.{tabulate}
use Rattle.lsh.specs.WordSize.{WordSize}
use Rattle.roll.specs.declared.Traversal.{Traversal}
use Rattle.checkpoints.specs.Slots.{most_slots, slot_count}
use Rattle.checkpoints.specs.Members.{member}
use Rattle.checkpoints.specs.Roll.{links, is_roll}
use Rattle.checkpoints.specs.Checkpoints.{lead_to}

-- 1 at the place of each number of the list
unfoldable pub marked : List ℕ → List ℕ
marked l = tabulate (most_slots + 1) (λ i. cond (member i l) 1 0)

-- nothing of a buffer that is no roll
unfoldable pub traversal_of : WordSize → List ℕ → Option Traversal
traversal_of z s =
    cond (is_roll z s)
    (Some (record {
      slots = slot_count z (length s);
      count = length (links z s);
      last = lead_to z s (length (links z s));
      marks = marked (links z s);
    }))
    None

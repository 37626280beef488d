use native.Mathlib.Omega.{arith}
use Rattle.orders.proofs.Held.{fill-most}
use Rattle.rewind.proofs.held_differs.Goals as goal

pub shared_ref_as_front-equal_bytes : goal.shared_ref_as_front-equal_bytes
shared_ref_as_front-equal_bytes c = omega (arith, c.held_length-at.ensures, fill-most c.args.r.w c.args.r.total)

use mathlib.Core.Path.{◌≡◌, refl, ap, ◌∙◌}
use mathlib.Core.List.{List}
use Prim.Native.Nat.{ℕ, ◌≤◌, ◌<◌, zero-le}
use native.Mathlib.Omega.{arith}
use lib.ListN.{length}
use Rattle.lsh.specs.WordSize.{size_of}
use Rattle.lsh.proofs.Bytes.{octets}
use Rattle.checkpoints.specs.Roll.{next_index, links}
use Rattle.checkpoints.specs.Checkpoints.{lead_to}
use Rattle.checkpoints.proofs.Form.{linked}
use Rattle.checkpoints.proofs.Shown.{lead-in}
use Rattle.roll.proofs.Walked.{lead-next}
use Rattle.roll.proofs.lead_to.Goals as goal

lead-none : (w : ℕ) (s : List ℕ) → 0 ≡ lead_to (size_of w) s 0
unfolding lead_to
lead-none w s = refl

pub loop-j-init : goal.loop-j-init
loop-j-init c = (zero-le, lead-none c.args.w c.args.roll.now)

pub next_index-i-requires : goal.next_index-i-requires
next_index-i-requires c = let s = c.args.roll.now in
    let le : c.loop-j.j ≤ length (links (size_of c.args.w) s) = omega (arith, c.requires.1) in (
      (linked (size_of c.args.w) s c.requires.0).right,
      rw c.loop-j.invariant.1 (lead-in (size_of c.args.w) (octets c.args.w) s c.requires.0 c.loop-j.j le),
    )

pub loop-j-preserved : goal.loop-j-preserved
loop-j-preserved c = let s = c.args.roll.now in
    let less : c.loop-j.j < length (links (size_of c.args.w) s) = omega (arith, c.requires.1) in (
      omega arith,
      c.next_index-i.ensures ∙ ap (next_index (size_of c.args.w) s) c.loop-j.invariant.1
          ∙ lead-next (size_of c.args.w) s (linked (size_of c.args.w) s c.requires.0) c.loop-j.j less,
    )

pub returns : goal.returns
returns c = let all : c.loop-j.j ≡ c.args.m = omega arith in
    c.loop-j.invariant.1 ∙ ap (lead_to (size_of c.args.w) c.args.roll.now) all

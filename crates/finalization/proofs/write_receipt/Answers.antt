-- `finalization::write_receipt` meets its contract: zeros, and then the parts of the receipt in their places. Assumes nothing.
use mathlib.Core.Path.{◌≡◌, sym, ap, ◌∙◌}
use mathlib.Core.List.{List, ◌++◌}
use Prim.Native.Nat.{ℕ, ◌+◌, ◌/◌, ◌≤◌}
use native.Mathlib.Omega.{arith}
use lib.ListN.{length, take, drop, replicate, length-set, length-append, length-replicate, length-drop}
use lib.Seq.{length-take-le, length-sets}
use borrow.Author.Rules.{rules}
use Rattle.lsh.proofs.Figures.{word-most}
use Rattle.lsh.specs.WordSize.{lsh512, word_bytes}
use Rattle.limits.specs.Limits.{longest_block, longest_digest}
use Rattle.receipts.specs.Receipt.{receipt_bytes}
use Rattle.receipts.proofs.Receipts.{written}
use Rattle.finalization.proofs.write_receipt.Goals as goal
use Rattle.finalization.proofs.write_receipt.Goals.{After-fill, After-put, After-put-arg-1, Start}

-- n is a digest's length of some word size
few : (z : Start) → z.args.n ≤ longest_digest 64
few z = omega (arith, word-most z.args.w z.requires.0)

inside : (c : After-put-arg-1) → (c.args.n + 7) / 8 ≤ length c.digest_bytes-bytes.result
inside c =
    let long : length c.digest_bytes-bytes.result ≡ longest_block = search rules in
    omega (arith, few (goal.at.After-put-arg-1 c).Start)

digest-size : (c : After-put-arg-1)
    → length (take ((c.args.n + 7) / 8) c.digest_bytes-bytes.result)
    ≡ (c.args.n + 7) / 8
digest-size c = length-take-le _ _ (inside c)

-- zeros in the places of a receipt
cleared : (c : After-fill)
    → c.fill.new.self ++ drop receipt_bytes c.args.output.now
    ≡ replicate receipt_bytes 0 ++ drop receipt_bytes c.args.output.now
unfolding receipt_bytes
cleared c =
    let m = c.args.output.now in
    ap (λ (s : List ℕ). s ++ drop receipt_bytes m) (c.fill.ensures.after (λ y e. e) ∙ ap (λ (k : ℕ). replicate {A = ℕ} k 0) (length-take-le receipt_bytes m c.requires.3))

-- the output is as long as it was
same_length : (c : After-fill)
    → length (c.fill.new.self ++ drop receipt_bytes c.args.output.now) ≡ length c.args.output.now
same_length c =
    let m = c.args.output.now in
    ap length (cleared c)
    ∙ length-append (replicate receipt_bytes 0) (drop receipt_bytes m)
    ∙ omega (arith, length-replicate {A = ℕ} receipt_bytes 0, length-drop receipt_bytes m, c.requires.3)

stored : (c : After-put) → length c.put.new.output ≡ length c.args.output.now
unfolding receipt_bytes
stored c = ap length c.put.ensures.1 ∙ simp (length-sets, length-set) (same_length (goal.at.After-put c).After-fill)

pub overflow_add-size : goal.overflow_add-size
unfolding receipt_bytes
overflow_add-size c = omega (arith, few (goal.at.overflow_add-size c).Start)

pub slice_bounds-fill-end : goal.slice_bounds-fill-end
unfolding receipt_bytes
slice_bounds-fill-end c = c.requires.3

pub slice_bounds-fill-end-2 : goal.slice_bounds-fill-end-2
unfolding receipt_bytes
slice_bounds-fill-end-2 c = sym (length-take-le receipt_bytes c.args.output.now c.requires.3)

pub overflow_cast-output : goal.overflow_cast-output
unfolding receipt_bytes
overflow_cast-output c = omega (arith, word-most _ c.requires.0)

pub bounds-output-0 : goal.bounds-output-0
unfolding receipt_bytes
bounds-output-0 c = omega (arith, same_length (goal.at.bounds-output-0 c).After-fill, c.requires.3)

pub bounds-output-2 : goal.bounds-output-2
unfolding receipt_bytes
bounds-output-2 c = rw length-set (omega (arith, same_length (goal.at.bounds-output-2 c).After-fill, c.requires.3))

pub overflow_cast-output-3 : goal.overflow_cast-output-3
unfolding receipt_bytes
overflow_cast-output-3 c = omega (arith, few (goal.at.overflow_cast-output-3 c).Start)

pub bounds-output-3 : goal.bounds-output-3
unfolding receipt_bytes
bounds-output-3 c = simp length-set (omega (arith, same_length (goal.at.bounds-output-3 c).After-fill, c.requires.3))

pub slice_bounds-bytes-end : goal.slice_bounds-bytes-end
slice_bounds-bytes-end c = inside c

pub slice_bounds-put-end : goal.slice_bounds-put-end
unfolding receipt_bytes
slice_bounds-put-end c = sym (digest-size (goal.at.slice_bounds-put-end c).After-put-arg-1)

pub put-requires : goal.put-requires
unfolding receipt_bytes
put-requires c = let z = (goal.at.put-requires c).Start in
    simp length-set (omega (arith, same_length (goal.at.put-requires c).After-fill, digest-size (goal.at.put-requires c).After-put-arg-1, few z, z.requires.3))

pub store-requires : goal.store-requires
unfolding receipt_bytes lsh512 word_bytes
store-requires c = rw (stored (goal.at.store-requires c).After-put) c.requires.3

pub shape_of-output : goal.shape_of-output
unfolding receipt_bytes
shape_of-output c = omega (arith, stored (goal.at.shape_of-output c).After-put)

pub returns : goal.returns
unfolding receipt_bytes lsh512 word_bytes
returns c = let e = (goal.at.returns c).After-fill in
    written _ _ _ e.requires.0 e.requires.1 _ e.args.output.now (cleared e) e.digest_bytes-bytes.ensures c.put.ensures.1 c.store.ensures

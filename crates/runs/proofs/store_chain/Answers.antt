-- `runs::store_chain` meets its contract, by the word size. Assumes nothing.
use mathlib.Core.Path.{sym, ap, ap₂, ◌∙◌, subst}
use Prim.Native.Nat.{◌<◌, ◌^◌}
use native.Mathlib.Omega.{arith}
use Rattle.lsh.specs.Tabulate.{at}
use Rattle.lsh.specs.WordSize.{WordSize, lsh256, chain_bytes}
use Rattle.lsh.specs.Bytes.{bytes_of}
use Rattle.lsh.proofs.Figures.{size_32, size_64}
use Rattle.runs.proofs.store_chain.Goals as goal

pub narrow-requires : goal.narrow-requires
unfolding lsh256
narrow-requires c l = subst (λ (z : WordSize). at c.args.t l < 2 ^ z.bits) (size_32 c.if-w-eq32.true) (c.requires.1.below l)

pub store_chain-requires : goal.store_chain-requires
unfolding lsh256
store_chain-requires c = (omega arith, c.requires.2 ∙ ap chain_bytes (size_32 c.if-w-eq32.true))

pub returns-then-w-eq32 : goal.returns-then-w-eq32
unfolding lsh256
returns-then-w-eq32 c = c.store_chain.ensures ∙ ap₂ bytes_of (sym (size_32 c.if-w-eq32.true)) c.narrow.ensures

pub store_chain-requires-2 : goal.store_chain-requires-2
unfolding lsh256
store_chain-requires-2 c = (omega arith, c.requires.2 ∙ ap chain_bytes (size_64 _ c.requires.0 c.if-w-eq32.false))

pub returns : goal.returns
unfolding lsh256
returns c = c.store_chain-2.ensures
    ∙ ap (λ (v : WordSize). bytes_of v c.args.t) (sym (size_64 _ c.requires.0 c.if-w-eq32.false))

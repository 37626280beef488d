-- For any h that a Rewind accepts, the chain reached is the only one from which the blocks of h lead to the old chain.
-- Assumes nothing.
use mathlib.Core.Path.{◌≡◌, refl, sym, ap, ◌∙◌, subst}
use mathlib.Core.List.{List, [], ◌∷◌}
use Prim.Native.Nat.{ℕ, ◌/◌}
use lib.ListN.{length}
use Rattle.lsh.specs.WordSize.{WordSize, size_of, block_bytes}
use Rattle.lsh.specs.Block.{Chain}
use Rattle.lsh.specs.Padding.{blocks_of}
use Rattle.lsh.proofs.Figures.{amounts}
use Rattle.lsh.proofs.Blocks.{backwards-chain, forwards-backwards, only-chain}
use Rattle.orders.specs.declared.Record.{Record}
use Rattle.orders.specs.declared.Outcome.{Outcome}
use Rattle.answers.proofs.Tests.{test, passed}
use Rattle.orders.specs.Record.{refused}
use Rattle.orders.proofs.Sound.{Sound, sounds, chain-is}
use Rattle.orders.proofs.InTurn.{accepted-in-turn}
use Rattle.orders.specs.Rewind.{starts_off_block, keeps_too_much, held_differs, reached, opening_differs, Cut, rewound, cut_call, rewind_in_turn, rewind_call}
use Rattle.orders.specs.OnlyChain.{OnlyChain}

-- a record's chain has 16 words, by its type
pub only-reached : (r : Record) (keep : ℕ) (h : List ℕ) → length r.chain ≡ 16 → (rewind_call r keep h).number ≡ 0 → OnlyChain r h (rewind_call r keep h).next.chain
unfolding rewind_call rewind_in_turn cut_call rewound reached refused
only-reached r keep h words e =
    let z : WordSize = size_of r.w in
    let c : Cut = record { size = length h; keep = keep; chain = reached r h; bytes = h } in
    let turn = accepted-in-turn r (rewind_in_turn r keep h) e in
    let all =
    (passed (λ (o : Outcome). o.number)
    (test (starts_off_block (block_bytes z) r.total (length h)) (refused 6 r)
    ∷ test (keeps_too_much (block_bytes z) keep (length h)) (refused 7 r)
    ∷ test (held_differs r h) (refused 8 r)
    ∷ test (opening_differs r c) (refused 9 r)
    ∷ [])
    (record { number = 0; count = length h / block_bytes z; next = rewound r c }) refl (ap (λ (o : Outcome). o.number) (sym turn.2) ∙ e)).1 in
    let s : Sound r = sounds r turn.0 in
    let old : Chain z r.chain = chain-is r.w r.chain s.word words s.below in
    subst (λ (o : Outcome). OnlyChain r h o.next.chain) (sym (turn.2 ∙ all))
    (record {
      chain = backwards-chain z (amounts r.w) (blocks_of z h) r.chain old;
      leads = forwards-backwards z (amounts r.w) (blocks_of z h) r.chain old;
      only = λ d k f. only-chain z (amounts r.w) (blocks_of z h) d r.chain k f;
    })

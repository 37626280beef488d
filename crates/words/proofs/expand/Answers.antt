use mathlib.Core.Path.{◌∙◌}
use native.Mathlib.Omega.{arith}
use borrow.Author.Rules.{rules}
use Rattle.loops.specs.Rows.{expanded_words}
use Rattle.loops.proofs.Rows.{sub-next, expanded-none, expanded-more, expanded-up_to}
use Rattle.word.proofs.Stores.{length_numbers}
use Rattle.words.proofs.expand.Goals as goal

-- before the first turn M_0 and M_1 stand in their rows
pub loop-j-init : goal.loop-j-init
loop-j-init g c =
    let w = g.W.Word in
    let given = length_numbers g.met.W.Word.takes_each c.args.m.now c.requires.0 in
    let first = expanded-none w.size (w.numbers c.args.m.now) given (omega (arith, c.requires.1, c.requires.2)) in
    (first, c.requires.3 ∙ first.rows 1 (omega arith), c.requires.4 ∙ first.rows 0 (omega arith), given)

pub put_sub_message-requires : goal.put_sub_message-requires
unfolding expanded_words
put_sub_message-requires g c = (search rules, omega (arith, g.met.W.Word.takes_each.len c.loop-j.m, c.loop-j.invariant.0.len, c.requires.2))

-- a turn puts the next sub-message into its row
pub loop-j-preserved : goal.loop-j-preserved
loop-j-preserved g c =
    let h = c.loop-j.invariant in
    let next = sub-next g.W.Word.size _ c.loop-j.j c.next_sub_message-r.ensures h.1 h.2 in
    (expanded-more _ _ _ h.0 (omega (arith, c.requires.2)) next c.put_sub_message.ensures, next, h.1, h.3)

pub returns : goal.returns
returns g c = expanded-up_to c.loop-j.invariant.0 (omega arith)

-- `script::word` meets its contract. Assumes nothing.
use borrow.Author.Rules.{rules}
use Rattle.std.proofs.lemmas.List.Sorted.{answers_always}
use Rattle.script.proofs.Parts.{nth-some, nth-none}
use Rattle.script.proofs.word.Goals as goal

pub returns-in-Some : goal.returns-in-Some
returns-in-Some c =
    nth-some _ c.args.i c.split.result c.nth.new.self c.args.line.now c.in-Some.word
    (record { rest = c.split.ensures.rest; more = c.split.ensures.done; tests = rw c.split.ensures.closure (answers_always _ _ _ (λ f a r g h. search rules)) })
    c.in-Some.ensures.ran

pub returns-in-None : goal.returns-in-None
returns-in-None c =
    nth-none _ c.args.i c.split.result c.nth.new.self c.args.line.now
    (record { rest = c.split.ensures.rest; more = c.split.ensures.done; tests = rw c.split.ensures.closure (answers_always _ _ _ (λ f a r g h. search rules)) })
    c.in-None.ensures.ran

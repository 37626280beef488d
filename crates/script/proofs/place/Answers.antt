-- `script::place` meets its contract. Assumes nothing.
use borrow.Author.Rules.{rules}
use Rattle.std.proofs.lemmas.List.Sorted.{answers_always}
use Rattle.script.proofs.Parts.{position-is}
use Rattle.script.proofs.place.Goals as goal

pub returns : goal.returns
returns c =
    position-is _ _ _ c.args.names.now c.args.name.now
    (λ x q h. search rules)
    (λ x q h. search rules)
    c.split.result c.position.new.self c.position.result
    (record { rest = c.split.ensures.rest; more = c.split.ensures.done; tests = rw c.split.ensures.closure (answers_always _ _ _ (λ f a r g h. search rules)) })
    c.position.ensures.ran

-- What a call on a record answers, as a number, a count and a record.
-- Assumes nothing.
use Rattle.std.specs.Prelude.{Result, Ok, Err}
use Rattle.answers.specs.declared.Refusal.{Refusal}
use Rattle.answers.specs.Refusal.{number}
use Rattle.orders.specs.declared.Record.{Record}
use Rattle.orders.specs.declared.Step.{Step}
use Rattle.orders.specs.declared.Outcome.{Outcome}
use Rattle.orders.specs.Record.{refused}

-- a refused call returns the record that it was given
abbrev pub outcome : Record → Result Step Refusal → Outcome
outcome r (Ok step) = record { number = 0; count = step.count; next = step.next }
outcome r (Err refusal) = refused (number refusal) r

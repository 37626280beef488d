use Rattle.groups256.proofs.expand_row.Goals as goal

pub returns : goal.returns
returns c = rw (c.put_sub_message.ensures, c.next_sub_message-r.ensures, c.sub_message-p.ensures, c.sub_message-q.ensures)

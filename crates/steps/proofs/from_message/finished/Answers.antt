use lib.ListN.{length}
use Rattle.steps.specs.Steps.{message_from}
use Rattle.steps.proofs.Answers.{read_message-lost, gives_lost}
use Rattle.steps.proofs.Answered.{message_lost}
use Rattle.steps.proofs.from_message.finished.Goals as goal

pub returns-in-Err : goal.returns-in-Err
returns-in-Err c =
    let a = c.args in
    let l = c.lost in
    let k = length a.out.now in
    gives_lost a.strand.now a.start a.rest.now k c.in-Err.e.step _ l.result (read_message-lost a.strand.now a.start a.rest.now k c.in-Err.e.step (message_lost (message_from a.strand.now a.start k) a.out.now a.read c.in-Err.e c.requires.message c.in-Err.is)) l.ensures

-- The read comes behind a barrier that was clear.
use Rattle.sample_callers.proofs.Clients.{shows_each}
use Rattle.sample_callers.proofs.live.read_carried.Goals as goal

pub returns-in-Clear-clause-shows : goal.returns-in-Clear-clause-shows
returns-in-Clear-clause-shows g c =
    shows_each c.reads_show_what_was_seen.ensures c.args.live.now c.args.client.now c.barrier_wait.new.client c.read.new.client c.in-Clear.field-0 c.args.store c.args.key
    c.requires.of c.requires.here c.in-Clear.ensures.answer c.in-Clear.ensures.stays c.in-Clear.ensures.of c.read.result c.read.ensures.answer

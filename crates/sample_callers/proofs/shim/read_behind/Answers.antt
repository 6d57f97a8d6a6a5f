-- The read comes behind looks that found all, and the law of reads behind sights says what it shows.
use Rattle.std.proofs.Common.{sym, ◌∙◌}
use Rattle.std.proofs.lemmas.Bool.{false≢true}
use Rattle.anti_shim.specs.Steps.{between}
use Rattle.sample_callers.proofs.Behind.{shows_read}
use Rattle.sample_callers.proofs.shim.read_behind.Goals as goal
use Rattle.sample_callers.proofs.shim.read_behind.Goals.{in-Clear, in_default}

pub returns-clause-shows : goal.returns-clause-shows
returns-clause-shows g c listed =
    elim c.match-matches.branch [
      | in-Clear w ↦
          let does = w.in-Clear.ensures.answer in
          shows_read c.reads_show_what_was_seen.ensures (between g.P.Port c.args.port.now c.read.new.port c.args.who.now c.read.new.who) c.args.store.now.region
          c.args.here.now c.args.lineage.now c.args.store.now.store c.args.key listed c.read.result (record {
            starts = g.P.Port.start c.barrier-answer.new.port;
            same = c.barrier-answer.ensures.fixed;
            views = g.P.Port.view c.barrier-answer.new.port;
            who = c.barrier-answer.new.who;
            first = record { sights = w.in-Clear.field-0.items; each = does.gives.0; seen = does.sights };
            second = c.read.ensures.answer;
          })
      | in_default w ↦ absurd (false≢true (sym w.matches-is ∙ c.if-not-matches.false))
    ]

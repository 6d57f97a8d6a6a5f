use Rattle.std.proofs.Common.{◌<◌, ◌∙◌, arith}
use Rattle.anti_app.specs.Objects.{object_count}
use Rattle.anti_trace.proofs.Followed.{done}
use Rattle.anti_trace.proofs.OfLegal.{at_cut}
use Rattle.anti_trace.proofs.Prefix.{legal_front}
use Rattle.anti_trace.proofs.aftermath.Going.follow.Goals as goal

pub place_of-place-requires : goal.place_of-place-requires
place_of-place-requires c =
    let next = c.requires.next in
    record {
      app = c.args.app.now;
      trace = next.before;
      legal = legal_front c.args.app.now next.before _ next.legal;
      are = next.gone.processes;
    }

pub note-requires-clause-there : goal.note-requires-clause-there
note-requires-clause-there c =
    let next = c.requires.next in
    let there = at_cut (λ x. x.object < object_count c.args.app.now) next.before c.args.entry.now next.after next.legal.there in
    omega (arith, there, next.gone.trail.count)

pub follow_from-requires-clause-next : goal.follow_from-requires-clause-next
follow_from-requires-clause-next c =
    let next = c.requires.next in
    record { before = next.before; after = next.after; legal = next.legal; are = next.gone.processes }

pub returns : goal.returns
returns c = λ is_kept before after legal gone.
    done _ _ _ c.follow_from.result (c.follow_from.ensures before after legal gone.processes)
    (λ are. record {
      processes = are;
      trail = c.in_ok-note.ensures.trail c.args.app.now before after c.requires.sound legal gone.processes gone.trail;
      kept = c.in_ok-note.ensures.kept ∙ gone.kept;
    })

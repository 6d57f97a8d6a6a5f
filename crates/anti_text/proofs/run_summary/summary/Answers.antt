use Rattle.std.proofs.lemmas.Result.{IfOk-weaker}
use Rattle.anti_text.proofs.Summaries.{summary_is}
use Rattle.anti_text.proofs.run_summary.summary.Goals as goal

pub returns : goal.returns
returns c waits =
    let app = c.args.app.now in
    let trace = c.args.trace.now in
    IfOk-weaker c.print_summary.result _ _
    (λ t is. summary_is app trace waits t.items c.in_ok-counts.counts (c.in_ok-counts.ensures waits) is)
    c.print_summary.ensures

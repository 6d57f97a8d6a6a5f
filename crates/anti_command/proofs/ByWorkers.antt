-- What workers began is finished: what they did is what has a seat, and nothing is left.
use Rattle.std.proofs.Common.{◌≡◌, List, [], sym, ap, ◌∙◌, subst}
use Rattle.std.specs.Prelude.{filter, nat_lt}
use Rattle.anti_ids.specs.List.{plain}
use Rattle.anti_kind.specs.declared.entry.Entry.{Entry}
use Rattle.anti_app.specs.declared.app.App.{App}
use Rattle.anti_trace.specs.declared.aftermath.Aftermath.{Aftermath}
use Rattle.anti_trace.specs.inner.Trails.{IsAftermathOf}
use Rattle.anti_play.specs.Complete.{IsComplete}
use Rattle.anti_play.specs.Schedule.{finished}
use Rattle.anti_work.specs.Workers.{IsWorkersRun}
use Rattle.anti_command.specs.Runs.{IsByWorkers}
use Rattle.anti_command.specs.declared.outcome.RunKept.{RunKept}

module _ (kept : RunKept) (app : App) (at_app : kept.app ≡ app) where
  pub by_workers : (begun : List Entry) → kept.trace ≡ finished app begun → kept.waits ≡ plain [] → IsWorkersRun app begun → IsComplete app (finished app begun)
      → filter (λ e. nat_lt 0 e.seat) (finished app begun) ≡ begun → IsByWorkers kept
  by_workers begun at_trace waits workers complete seated = record {
    begun = begun;
    workers = subst (λ (a : App). IsWorkersRun a begun) (sym at_app) workers;
    finished = at_trace ∙ ap (λ (a : App). finished a begun) (sym at_app);
    seated = ap (filter (λ (e : Entry). nat_lt 0 e.seat)) at_trace ∙ seated;
    complete = subst (λ (a : App). IsComplete a kept.trace) (sym at_app) (subst (IsComplete app) (sym at_trace) complete);
    waits = waits;
  }

  pub aftermath_is : (trace : List Entry) (after : Aftermath) → kept.trace ≡ trace → IsAftermathOf app trace after → IsAftermathOf kept.app kept.trace after
  aftermath_is trace after at_trace is =
      subst (λ (a : App). IsAftermathOf a kept.trace after) (sym at_app) (subst (λ (t : List Entry). IsAftermathOf app t after) (sym at_trace) is)

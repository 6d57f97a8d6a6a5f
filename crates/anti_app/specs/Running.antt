-- Which applications can be run.
use Rattle.std.specs.Prelude.{ℕ, ◌^◌, ◌<◌, ◌≤◌}
use Rattle.anti_ids.specs.declared.limits.TheConstants.{MOST_LINES}
use Rattle.anti_lang.specs.Spans.{spans_of}
use Rattle.anti_app.specs.declared.app.App.{App}
use Rattle.anti_app.specs.Objects.{body_of, object_count}

-- The numbers of its objects fit, and no body begins more spans than it may have lines.
pub record CanRun (app : App) : Type 0 where
  pub objects : object_count app < 2 ^ 32
  pub spans : (service handler : ℕ) → spans_of (body_of app service handler) ≤ MOST_LINES

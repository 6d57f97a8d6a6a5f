-- What names a handler, as the code looks for it: one way to post at a time.
use Rattle.std.specs.Prelude.{ℕ, ◌&&◌, ◌==◌, Bool, List}
use Rattle.std.specs.List.{list_any}
use Rattle.anti_lang.specs.Bodies.{block_of}
use Rattle.anti_lang.specs.Blocks.{lines_of}
use Rattle.anti_lang.specs.Lines.{Line}
use Rattle.anti_app.specs.declared.app.App.{App}
use Rattle.anti_app.specs.declared.app.HandlerDef.{HandlerDef}
use Rattle.anti_place.specs.declared.targets.Posting.{Posting}
use Rattle.anti_place.specs.declared.targets.Posting.TheVariants.{Calls, Sends}
use Rattle.anti_place.specs.Placements.{calls_it, sends_it}

-- whether a line posts to the handler
abbrev pub posts_it : Posting → App → ℕ → ℕ → Line → Bool
posts_it Calls app service handler line = calls_it app service handler line
posts_it Sends app service handler line = sends_it app service handler line

-- whether some line of some of these handlers passes
abbrev pub some_of : (Line → Bool) → List HandlerDef → Bool
some_of test handlers = list_any (λ h. list_any test (lines_of (block_of h.body))) handlers

-- whether a subscription starts the handler
abbrev pub is_started : App → ℕ → ℕ → Bool
is_started app service handler = list_any (λ sub. sub.service == service && sub.handler == handler) app.subs.items

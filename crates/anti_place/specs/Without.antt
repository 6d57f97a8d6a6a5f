-- An application without one of its barriers, and where faults stand in it.
use Rattle.std.specs.Prelude.{ℕ, ◌+◌, ◌-◌, nat_lt, ◌&&◌, ◌==◌, cond, List, [], ◌∷◌}
use Rattle.anti_ids.specs.List.{plain}
use Rattle.anti_lang.specs.Bodies.{block_of, body_of}
use Rattle.anti_lang.specs.Program.{Step, Block, End, Then, Repeat, IfAbsent}
use Rattle.anti_app.specs.declared.app.App.{App}
use Rattle.anti_app.specs.declared.app.HandlerDef.{HandlerDef}
use Rattle.anti_app.specs.declared.app.ServiceDef.{ServiceDef}
use Rattle.anti_place.specs.declared.placement.Placement.{Placement}
use Rattle.anti_place.specs.declared.placement.Placement.TheVariants.{Yes, No}
use Rattle.anti_place.specs.Paths.{height}
use Rattle.anti_place.specs.Reviews.{is_barrier}

abbrev mutual
  -- a statement and a block whose first line is n, without the barrier at a line
  pub step_without : ℕ → ℕ → Step → Step
  step_without line n (Repeat count block) = Repeat count (block_without line (n + 1) block)
  step_without line n (IfAbsent x block) = IfAbsent x (block_without line (n + 1) block)
  step_without line n statement = statement

  pub block_without : ℕ → ℕ → Block → Block
  block_without line n End = End
  block_without line n (Then first rest) =
      cond (is_barrier first && n == line) (block_without line (n + 1) rest)
      (Then (step_without line n first) (block_without line (n + height first) rest))

-- the handlers of a service, and the services, whose first number is n, without it
abbrev pub handlers_without : ℕ → ℕ → ℕ → List HandlerDef → List HandlerDef
handlers_without handler line n [] = []
handlers_without handler line n (h ∷ hs) =
    cond (n == handler) (record h { body = body_of (block_without line 1 (block_of h.body)) }) h ∷ handlers_without handler line (n + 1) hs

abbrev pub services_without : ℕ → ℕ → ℕ → ℕ → List ServiceDef → List ServiceDef
services_without service handler line n [] = []
services_without service handler line n (s ∷ ss) =
    cond (n == service) (record s { handlers = plain (handlers_without handler line 0 s.handlers.items) }) s
    ∷ services_without service handler line (n + 1) ss

-- The application without the barrier at a line of a handler.
abbrev pub without : ℕ → ℕ → ℕ → App → App
without service handler line app = record app { services = plain (services_without service handler line 0 app.services.items) }

-- a line behind the one that is taken away moves up by one
abbrev pub moved_up : ℕ → ℕ → ℕ
moved_up line at = cond (nat_lt line at) (at - 1) at

-- What is told of it, where that is a line of the handler.
abbrev pub moved : ℕ → ℕ → ℕ → Placement → Placement
moved service handler line Yes = Yes
moved service handler line (No s h at reason) = No s h (cond (s == service && h == handler) (moved_up line at) at) reason

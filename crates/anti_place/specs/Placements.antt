-- Whether barriers, transfers and roots stand where they must in an application, or the first line at which they do not.
use Rattle.std.specs.Prelude.{ℕ, ◌+◌, ◌&&◌, ◌||◌, ◌==◌, Bool, false, List, [], ◌∷◌, Option, None, Some}
use Rattle.std.specs.List.{list_any}
use Rattle.anti_lang.specs.Bodies.{block_of}
use Rattle.anti_lang.specs.Blocks.{lines_of}
use Rattle.anti_lang.specs.Lines.{Line, Does}
use Rattle.anti_lang.specs.Program.{Call, Send}
use Rattle.anti_app.specs.declared.app.App.{App}
use Rattle.anti_app.specs.declared.app.HandlerDef.{HandlerDef}
use Rattle.anti_app.specs.declared.app.ServiceDef.{ServiceDef}
use Rattle.anti_app.specs.Objects.{handler_number}
use Rattle.anti_app.specs.Places.{service_place}
use Rattle.anti_place.specs.declared.fault.Fault.{Fault}
use Rattle.anti_place.specs.declared.placement.Placement.{Placement}
use Rattle.anti_place.specs.declared.placement.Placement.TheVariants.{Yes, No}
use Rattle.anti_place.specs.Paths.{first_fault}

-- ---- who names a handler; handlers are told by the numbers that their names are found under

-- whether a service and a handler that are named are these
abbrev pub is_handler : App → ℕ → ℕ → List ℕ → List ℕ → Bool
is_handler app service handler service_name name =
    service_place app.services.items service_name == service && handler_number app service name == handler

-- whether a line calls the handler, and whether it sends to it
abbrev pub calls_it : App → ℕ → ℕ → Line → Bool
calls_it app service handler (Does (Call service_name name value x)) = is_handler app service handler service_name name
calls_it app service handler line = false

abbrev pub sends_it : App → ℕ → ℕ → Line → Bool
sends_it app service handler (Does (Send service_name name value)) = is_handler app service handler service_name name
sends_it app service handler line = false

-- whether some line of some handler does
abbrev pub some_line : (Line → Bool) → App → Bool
some_line test app = list_any (λ s. list_any (λ h. list_any test (lines_of (block_of h.body))) s.handlers.items) app.services.items

abbrev pub is_called : App → ℕ → ℕ → Bool
is_called app service handler = some_line (calls_it app service handler) app

-- whether a call, a send or a subscription names the handler
abbrev pub is_named : App → ℕ → ℕ → Bool
is_named app service handler =
    is_called app service handler
    || (some_line (sends_it app service handler) app || list_any (λ sub. sub.service == service && sub.handler == handler) app.subs.items)

-- ---- the first failing line of the first failing handler

abbrev pub placement_of : ℕ → ℕ → Option Fault → Placement → Placement
placement_of service handler None further = further
placement_of service handler (Some fault) further = No service handler fault.line fault.reason

abbrev pub handlers_from : App → ℕ → ℕ → List HandlerDef → Placement → Placement
handlers_from app service n [] further = further
handlers_from app service n (h ∷ hs) further =
    placement_of service n (first_fault (is_called app service n) (is_named app service n) (block_of h.body)) (handlers_from app service (n + 1) hs further)

abbrev pub services_from : App → ℕ → List ServiceDef → Placement
services_from app n [] = Yes
services_from app n (s ∷ ss) = handlers_from app n 0 s.handlers.items (services_from app (n + 1) ss)

abbrev pub placement : App → Placement
placement app = services_from app 0 app.services.items

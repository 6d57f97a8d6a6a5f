-- What is said of an application line by line: all lines at which something is missing, and all barriers that never have to wait.
use Rattle.std.specs.Prelude.{ℕ, zero, suc, ◌+◌, ◌&&◌, ◌==◌, not, Bool, true, false, cond, List, [], ◌∷◌, ◌++◌, length, map}
use Rattle.std.specs.List.{filter, flat_map, list_any}
use Rattle.anti_lang.specs.Bodies.{block_of}
use Rattle.anti_lang.specs.Blocks.{lines_of}
use Rattle.anti_lang.specs.Lines.{Line, Does}
use Rattle.anti_lang.specs.Program.{Step, Block, Barrier}
use Rattle.anti_app.specs.declared.app.App.{App}
use Rattle.anti_app.specs.declared.app.HandlerDef.{HandlerDef}
use Rattle.anti_app.specs.declared.app.ServiceDef.{ServiceDef}
use Rattle.anti_place.specs.declared.fault.Fault.{Fault}
use Rattle.anti_place.specs.declared.reason.Reason.TheVariants.{Removed, Untracked, Untransferred, Unsettled}
use Rattle.anti_place.specs.declared.remark.Remark.{Remark}
use Rattle.anti_place.specs.declared.remark.Finding.{Finding}
use Rattle.anti_place.specs.declared.remark.Finding.TheVariants.{Fails, Superfluous}
use Rattle.anti_place.specs.Paths.{State, Path, changed, paths, ends_path, all_faults, rank}
use Rattle.anti_place.specs.Placements.{is_called, is_named}

-- ---- the faults of a body, each once

abbrev pub is_same : Fault → Fault → Bool
is_same a b = a.line == b.line && rank a.reason == rank b.reason

-- each reason at so many lines from this one on, in the order in which faults are told
abbrev pub each_from : ℕ → ℕ → List Fault
each_from line zero = []
each_from line (suc count) =
    record { line = line; reason = Removed } ∷ record { line = line; reason = Untracked }
    ∷ record { line = line; reason = Untransferred } ∷ record { line = line; reason = Unsettled }
    ∷ each_from (line + 1) count

-- The faults of a body: those that it has on any of its ways, by line, and at one line by the reason. Its end has the line behind its last one.
abbrev pub faults_of : Bool → Bool → Block → List Fault
faults_of called named body = filter (λ fault. list_any (is_same fault) (all_faults called named body)) (each_from 1 (length (lines_of body) + 1))

-- ---- the barriers of a body that never have to wait

abbrev pub is_barrier : Step → Bool
is_barrier Barrier = true
is_barrier statement = false

-- the lines of barriers that a way comes to while something is carried that no barrier waited for, up to its first `nack`
abbrev pub waits_on : State → Path → List ℕ
waits_on s [] = []
waits_on s (spot ∷ path) =
    cond (is_barrier spot.statement && s.unsettled) (spot.line ∷ []) []
    ++ cond (ends_path spot.statement) [] (waits_on (changed spot.statement s) path)

abbrev pub all_waits : Bool → Block → List ℕ
all_waits named body = flat_map (waits_on (record { rows = []; unsettled = named })) (paths body)

-- those among some lines that are barriers, where the first has this number
abbrev pub is_barrier_line : Line → Bool
is_barrier_line (Does statement) = is_barrier statement
is_barrier_line line = false

abbrev pub barriers_from : ℕ → List Line → List ℕ
barriers_from n [] = []
barriers_from n (line ∷ lines) = cond (is_barrier_line line) (n ∷ []) [] ++ barriers_from (n + 1) lines

-- whether a line is none at which a barrier has to wait
abbrev pub never_waits : Bool → Block → ℕ → Bool
never_waits named body line = not (list_any (λ waits. waits == line) (all_waits named body))

-- The lines of the barriers of a body that have to wait on none of its ways.
abbrev pub superfluous : Bool → Block → List ℕ
superfluous named body = filter (never_waits named body) (barriers_from 1 (lines_of body))

-- ---- an application

-- whether what is found is a fault
abbrev pub is_failure : Finding → Bool
is_failure (Fails reason) = true
is_failure Superfluous = false

-- a fault of a handler, and a barrier of it that never has to wait
abbrev pub fails_there : ℕ → ℕ → Fault → Remark
fails_there service handler fault = record { service = service; handler = handler; line = fault.line; finding = Fails fault.reason }

abbrev pub superfluous_there : ℕ → ℕ → ℕ → Remark
superfluous_there service handler line = record { service = service; handler = handler; line = line; finding = Superfluous }

abbrev pub faults_at : App → ℕ → ℕ → Block → List Remark
faults_at app service handler body = map (fails_there service handler) (faults_of (is_called app service handler) (is_named app service handler) body)

abbrev pub barriers_at : App → ℕ → ℕ → Block → List Remark
barriers_at app service handler body = map (superfluous_there service handler) (superfluous (is_named app service handler) body)

-- what is said of each handler, in the order of services and handlers
abbrev pub handlers_say : (ℕ → ℕ → Block → List Remark) → ℕ → ℕ → List HandlerDef → List Remark
handlers_say said service n [] = []
handlers_say said service n (h ∷ hs) = said service n (block_of h.body) ++ handlers_say said service (n + 1) hs

abbrev pub services_say : (ℕ → ℕ → Block → List Remark) → ℕ → List ServiceDef → List Remark
services_say said n [] = []
services_say said n (s ∷ ss) = handlers_say said n 0 s.handlers.items ++ services_say said (n + 1) ss

-- All faults of all handlers, and behind them all barriers that never have to wait.
abbrev pub review : App → List Remark
review app = services_say (faults_at app) 0 app.services.items ++ services_say (barriers_at app) 0 app.services.items

-- whether a remark is of a line that fails
abbrev pub is_failing : Remark → Bool
is_failing remark = is_failure remark.finding

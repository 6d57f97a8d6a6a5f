-- To whom the calls and sends of a process are posted: to handlers that lines of its body name.
use Rattle.std.proofs.Common.{◌≡◌, ℕ, zero, suc, ◌+◌, ◌==◌, Bool, true, false, cond, List, [], ◌∷◌, ◌++◌, Option, Some, None, length, nat_lt, slice_get, unwrap_or, if◌then◌else◌, refl, ap, ◌∙◌, subst, eq-eqb, arith}
use Rattle.std.specs.List.{list_any}
use Rattle.std.specs.Option.{option_and_then, option_map_or}
use Rattle.std.proofs.lemmas.Bool.{and_from, or_left, or_right}
use Rattle.std.proofs.lemmas.List.Folds.{list_any_at}
use Rattle.std.proofs.lemmas.Option.{slice_get_within, get_or_from_slice_get}
use Rattle.anti_ids.specs.Ids.{with_ids}
use Rattle.anti_ids.specs.declared.id.WriteId.{WriteId}
use Rattle.anti_ids.specs.declared.limits.TheConstants.{MOST_DEPTH, MOST_IDS}
use Rattle.anti_kind.specs.declared.call.Call.{Call}
use Rattle.anti_kind.specs.declared.call.Call.TheVariants as calls
use Rattle.anti_kind.specs.declared.call.Reply.{Reply}
use Rattle.anti_kind.specs.declared.call.Reply.TheVariants as replies
use Rattle.anti_kind.specs.declared.entry.Entry.{Entry}
use Rattle.anti_kind.specs.declared.message.Message.{Message}
use Rattle.anti_kind.specs.declared.message.MessageKind.{MessageKind}
use Rattle.anti_kind.specs.declared.message.MessageKind.TheVariants as kinds
use Rattle.anti_lang.specs.Blocks.{lines_of, step_lines}
use Rattle.anti_lang.specs.Bodies.{block_of}
use Rattle.anti_lang.specs.Lines.{Line, Close, Does, OpenIf, OpenRepeat}
use Rattle.anti_lang.specs.Program as program
use Rattle.anti_lang.specs.Program.{Step, Block}
use Rattle.anti_lang.specs.Texts.{plain_name}
use Rattle.anti_shim.specs.declared.looks.PlannedLook.{PlannedLook}
use Rattle.anti_app.specs.declared.app.App.{App}
use Rattle.anti_app.specs.declared.app.HandlerDef.{HandlerDef}
use Rattle.anti_app.specs.declared.app.ServiceDef.{ServiceDef}
use Rattle.anti_app.specs.Objects.{body_of, handler_number, inbox_of, store_number}
use Rattle.anti_app.specs.Places.{service_place}
use Rattle.anti_app.specs.Numbers.{service_at}
use Rattle.anti_place.specs.Placements.{calls_it, is_called, is_handler, sends_it, some_line}
use Rattle.anti_proc.specs.declared.end.BodyEnd.{BodyEnd}
use Rattle.anti_proc.specs.declared.end.BodyEnd.TheVariants.{BadKey, Depth, Fine, LineageFull}
use Rattle.anti_proc.specs.declared.task.Duty.{Duty}
use Rattle.anti_proc.specs.declared.task.Duty.TheVariants as duties
use Rattle.anti_proc.specs.declared.variables.Binding.{Binding}
use Rattle.anti_proc.specs.declared.variables.Binding.TheVariants.{Wrote, Saw, Heard}
use Rattle.anti_proc.specs.Carrying.{OfEachCall}
use Rattle.anti_proc.specs.Local.{Local, Setting, any_name, first_local, held_ids, held_in, id_at, is_absent, key_text, new_span, removed, set, text_of}
use Rattle.anti_proc.specs.Meaning.{Go, after_post, after_read, after_reply, after_write, asks, block_tree, carry, leave, leave_by, looks, message, planned, post_call, read_call, setting_of, stated_in, step_tree, tree_of, turns, with_key, write_call}
use Rattle.anti_proc.specs.Trees.{Ask, Tree, Ends}
use Rattle.anti_proc.proofs.Started.{its_body, started_each}

-- ---- by name

-- a handler of the service of an inbox that some line calls, and one that some line sends to
abbrev pub IsCalledAt : App → ℕ → List ℕ → Type 0
IsCalledAt app o handler = is_called app (service_at app o) (handler_number app (service_at app o) handler) ≡ true

abbrev pub IsSentTo : App → ℕ → List ℕ → Type 0
IsSentTo app o handler =
    some_line (sends_it app (service_at app o) (handler_number app (service_at app o) handler)) app ≡ true

-- A call is posted to a handler that some line calls, and a send to one that some line sends to.
pub record IsByName (app : App) (o : ℕ) (m : Message) : Type 0 where
  pub call : m.kind ≡ kinds.Call → IsCalledAt app o m.handler
  pub send : m.kind ≡ kinds.Send → IsSentTo app o m.handler

abbrev pub PostsByName : App → Ask → Type 0
PostsByName app ask = (m : Message) → ask.call ≡ calls.Post m → IsByName app ask.object m

-- ---- the lines of a body

abbrev AllLines : (Line → Type 0) → List Line → Type 0
AllLines P [] = Unit {0}
AllLines P (line ∷ lines) = P line × AllLines P lines

all_weaker : (P Q : Line → Type 0) → ((line : Line) → P line → Q line) → (lines : List Line) → AllLines P lines → AllLines Q lines
all_weaker P Q more [] all = tt
all_weaker P Q more (x ∷ xs) all = (more x all.0, all_weaker P Q more xs all.1)

lines_apart : (P : Line → Type 0) (xs ys : List Line) → AllLines P (xs ++ ys) → AllLines P xs × AllLines P ys
lines_apart P [] ys all = (tt, all)
lines_apart P (x ∷ xs) ys all = let rest = lines_apart P xs ys all.1 in ((all.0, rest.0), rest.1)

-- a test that the line passes some of these pass
abbrev IsAmong : List Line → Line → Type 0
IsAmong lines line = (test : Line → Bool) → test line ≡ true → list_any test lines ≡ true

-- or some line of the application
abbrev IsOfApp : App → Line → Type 0
IsOfApp app line = (test : Line → Bool) → test line ≡ true → some_line test app ≡ true

each_among : (lines : List Line) → AllLines (IsAmong lines) lines
each_among [] = tt
each_among (x ∷ xs) = (
  λ test is. or_left (test x) (list_any test xs) is,
  all_weaker (IsAmong xs) (IsAmong (x ∷ xs)) (λ line among test is. or_right (test x) (list_any test xs) (among test is)) xs
      (each_among xs),
)

pub any_found : {X : Type 0} (p : X → Bool) (xs : List X) (i : ℕ) (x : X) → slice_get xs i ≡ Some x → p x ≡ true → list_any p xs ≡ true
any_found p xs i x at is = list_any_at p xs i x (slice_get_within xs i x at) (ap p (get_or_from_slice_get xs i x x at) ∙ is)

body_lines : (app : App) (service handler : ℕ) → AllLines (IsOfApp app) (lines_of (body_of app service handler))
body_lines app service handler = by_service (slice_get app.services.items service) refl
  where
    has_line : (Line → Bool) → HandlerDef → Bool
    has_line test h = list_any test (lines_of (block_of h.body))

    by_handler : (s : ServiceDef) → slice_get app.services.items service ≡ Some s
        → (found : Option HandlerDef) → slice_get s.handlers.items handler ≡ found → AllLines (IsOfApp app) (lines_of (option_map_or (λ h. block_of h.body) found program.End))
    by_handler s there None at = tt
    by_handler s there (Some h) at =
        let lines : List Line = lines_of (block_of h.body) in
        all_weaker (IsAmong lines) (IsOfApp app)
        (λ line among test is.
        any_found (λ (s : ServiceDef). list_any (has_line test) s.handlers.items) app.services.items service s there
        (any_found (has_line test) s.handlers.items handler h at (among test is)))
        lines (each_among lines)

    by_service : (found : Option ServiceDef) → slice_get app.services.items service ≡ found
        → AllLines (IsOfApp app) (lines_of (option_map_or (λ h. block_of h.body) (option_and_then (λ s. slice_get s.handlers.items handler) found) program.End))
    by_service None there = tt
    by_service (Some s) there = by_handler s there (slice_get s.handlers.items handler) refl

module _ (app : App) (service name : List ℕ) where
  abbrev its_inbox : ℕ
  its_inbox = inbox_of app service

  abbrev its_number : ℕ
  its_number = handler_number app (service_at app its_inbox) name

  -- a service and a handler have the numbers that their names are found under
  own_numbers : is_handler app (service_at app its_inbox) its_number service name ≡ true
  own_numbers =
      let among : ℕ = service_place app.services.items service in
      let at : ℕ = service_at app its_inbox in
      let same : among ≡ at = omega arith in
      and_from (among == at) (its_number == its_number) (eq-eqb among at same) (eq-eqb its_number its_number refl)

  called_at : (line : Line) → IsOfApp app line → calls_it app (service_at app its_inbox) its_number line ≡ true
      → IsCalledAt app its_inbox name
  called_at line of_app is = of_app (calls_it app (service_at app its_inbox) its_number) is

  sent_to : (line : Line) → IsOfApp app line → sends_it app (service_at app its_inbox) its_number line ≡ true
      → IsSentTo app its_inbox name
  sent_to line of_app is = of_app (sends_it app (service_at app its_inbox) its_number) is

-- ---- trees

module _ (s : Setting) where
  abbrev Posts : Tree → Type 0
  Posts tree = OfEachCall (PostsByName s.app) tree

  abbrev GoesOn : Go → Type 0
  GoesOn go = (l : Local) → Posts (go l)

  abbrev BlockGood : (Local → Go → Tree) → Type 0
  BlockGood block = (l : Local) (go : Go) → GoesOn go → Posts (block l go)

  either : (first : Bool) (one other : Tree) → Posts one → Posts other → Posts (cond first one other)
  either true one other this that = this
  either false one other this that = that

  -- a call that is no post
  abbrev IsNoPost : Call → Type 0
  IsNoPost call = (m : Message) → call ≡ calls.Post m → ⊥

  asked : (object : ℕ) (call : Call) (l : Local) (go : Reply → Tree) → IsNoPost call → ((reply : Reply) → Posts (go reply))
      → Posts (asks object call None l go)
  asked object call l go other goes = (λ m is. absurd (other m is), goes)

  carried_on : (ids : List WriteId) (l : Local) (go : Go) → GoesOn go → Posts (carry ids l go)
  carried_on ids l go goes =
      let all : List WriteId = with_ids ids l.carried in
      let next : Local = record l { carried = all } in either (nat_lt MOST_IDS (length all)) (Ends LineageFull) (go next) tt (goes next)

  written : (store : ℕ) (variable : Option (List ℕ)) (untracked : Bool) (l : Local) (go : Go) → GoesOn go → (reply : Reply)
      → Posts (after_write store variable untracked l go reply)
  written store variable untracked l go goes (replies.Written key version over) =
      let held : Binding = Wrote (record { store = store; key = key; version = version }) (unwrap_or over l.carried) in
      let next : Local = option_map_or (λ name. set name held l) variable l in
      let ids : List WriteId = id_at store key version ++ unwrap_or over [] in
      either untracked (go next) (carry ids next go) (goes next) (carried_on ids next go goes)
  written store variable untracked l go goes reply = goes l

  shown : (store : ℕ) (variable : List ℕ) (l : Local) (go : Go) → GoesOn go → (reply : Reply) → Posts (after_read store variable l go reply)
  shown store variable l go goes (replies.Shown rows) = goes (set variable (Saw store rows) l)
  shown store variable l go goes reply = goes l

  looked : (dry : Bool) (further : List PlannedLook) (l : Local) (go : Go) → GoesOn go → Posts (looks s.role.region dry further l go)
  looked dry [] l go goes = goes l
  looked dry (look ∷ later) l go goes = (λ m is. absurd (cc), λ reply. looked dry later l go goes)

  left_by : (duty : Duty) (good : Bool) (end : BodyEnd) (l : Local) → Posts (leave_by duty good s end l)
  left_by duties.Free good end l = tt
  left_by (duties.Answers inbox number handler) good end l = (
    λ m is.
        let same : message kinds.Reply number 0 handler l.reply s l ≡ m = cc in
        let kind : kinds.Reply ≡ m.kind = ap (λ (x : Message). x.kind) same in
        record { call = λ call. absurd (cc); send = λ send. absurd (cc) },
    λ reply. tt,
  )
  left_by (duties.Works store version) true end l = asked store (calls.Ack version) l (λ reply. Ends end) (λ m is. cc) (λ reply. tt)
  left_by (duties.Works store version) false end l = asked store (calls.Nack version) l (λ reply. Ends end) (λ m is. cc) (λ reply. tt)

  keyed : (l : Local) (key : Option (List ℕ)) (go : List ℕ → Tree) → ((k : List ℕ) → Posts (go k)) → Posts (with_key key go s l)
  keyed l None go goes = left_by s.role.duty false BadKey l
  keyed l (Some k) go goes = goes k

  heard : (variable : List ℕ) (l : Local) (go : Go) → GoesOn go → (reply : Reply) → Posts (after_reply s variable l go reply)
  heard variable l go goes (replies.Got number m) = carried_on (stated_in s.app m) (set variable (Heard m.value) l) go goes
  heard variable l go goes reply = goes l

  posted : (inbox : ℕ) (variable : Option (List ℕ)) (l : Local) (go : Go) → GoesOn go → (reply : Reply)
      → Posts (after_post inbox variable s l go reply)
  posted inbox (Some variable) l go goes (replies.Posted number) =
      asked inbox (calls.TakeReply number) l (after_reply s variable l go) (λ m is. cc) (heard variable l go goes)
  posted inbox (Some variable) l go goes reply = goes l
  posted inbox None l go goes reply = goes l

  post_asked : (inbox : ℕ) (kind : MessageKind) (handler value : List ℕ) (variable : Option (List ℕ)) (l : Local) (go : Go)
      → IsByName s.app inbox (message kind 0 (s.role.depth + 1) handler value s l) → GoesOn go
      → Posts (post_call inbox kind handler value variable s l go)
  post_asked inbox kind handler value variable l go named goes =
      let m : Message = message kind 0 (s.role.depth + 1) handler value s l in
      either (nat_lt s.role.depth MOST_DEPTH) (asks inbox (calls.Post m) None l (after_post inbox variable s l go)) (leave false s Depth l) (
        λ x is. let same : m ≡ x = cc in subst (IsByName s.app inbox) same named,
        posted inbox variable l go goes,
      )
      (left_by s.role.duty false Depth l)

  turns_good : (n : ℕ) (block : Local → Go → Tree) → BlockGood block → BlockGood (turns n block)
  turns_good zero block good l go goes = goes l
  turns_good (suc n) block good l go goes = good l (λ l. turns n block l go) (λ l. turns_good n block good l go goes)

  -- the lines of a block that stand between the line that opens it and its end
  inner_lines : (line : Line) (block : Block) → AllLines (IsOfApp s.app) (line ∷ (lines_of block ++ Close ∷ []))
      → AllLines (IsOfApp s.app) (lines_of block)
  inner_lines line block all = (lines_apart (IsOfApp s.app) (lines_of block) (Close ∷ []) all.1).0

  mutual
    step_posts : (statement : Step) → AllLines (IsOfApp s.app) (step_lines statement) → BlockGood (step_tree statement s)
    step_posts (program.Write store key value variable untracked) all l go goes =
        let number : ℕ = store_number s.app store in
        let text : List ℕ = text_of s l value in
        keyed l (plain_name (key_text s l key)) (write_call number text variable untracked l go)
        (λ k. asked number (calls.Write k text l.carried) l (after_write number variable untracked l go) (λ m is. cc)
        (written number variable untracked l go goes))
    step_posts (program.Append variable) all l go goes = carried_on (held_ids (held_in l.variables variable)) l go goes
    step_posts (program.Remove variable) all l go goes = goes (record l { carried = removed (held_in l.variables variable) l.carried })
    step_posts (program.Transfer variable) all l go goes = carried_on (held_ids (held_in l.variables variable)) l go goes
    step_posts program.Barrier all l go goes = looked false (planned s l) l go goes
    step_posts program.DryRun all l go goes = looked true (planned s l) l go goes
    step_posts (program.Read store key variable) all l go goes =
        let number : ℕ = store_number s.app store in
        keyed l (plain_name (key_text s l key)) (read_call number (calls.Read s.role.region) variable l go)
        (λ k. asked number (calls.Read s.role.region k) l (after_read number variable l go) (λ m is. cc) (shown number variable l go goes))
    step_posts (program.Scan store prefix variable) all l go goes =
        let number : ℕ = store_number s.app store in
        asked number (calls.Scan s.role.region prefix) l (after_read number variable l go) (λ m is. cc) (shown number variable l go goes)
    step_posts (program.Poll store key variable) all l go goes =
        let number : ℕ = store_number s.app store in
        keyed l (any_name (key_text s l key)) (read_call number (calls.Poll s.role.region) variable l go)
        (λ k. asked number (calls.Poll s.role.region k) l (after_read number variable l go) (λ m is. cc) (shown number variable l go goes))
    step_posts (program.Call service handler value variable) all l go goes =
        let called : IsCalledAt s.app (inbox_of s.app service) handler =
        called_at s.app service handler (Does (program.Call service handler value variable)) all.0 (own_numbers s.app service handler) in
        post_asked (inbox_of s.app service) kinds.Call handler (text_of s l value) (Some variable) l go
        (record { call = λ is. called; send = λ is. absurd (cc) }) goes
    step_posts (program.Send service handler value) all l go goes =
        let sent : IsSentTo s.app (inbox_of s.app service) handler =
        sent_to s.app service handler (Does (program.Send service handler value)) all.0 (own_numbers s.app service handler) in
        post_asked (inbox_of s.app service) kinds.Send handler (text_of s l value) None l go
        (record { call = λ is. absurd (cc); send = λ is. sent }) goes
    step_posts (program.Reply value) all l go goes = goes (record l { reply = text_of s l value })
    step_posts program.Nack all l go goes = left_by s.role.duty false Fine l
    step_posts program.Root all l go goes = goes (if l.stopped then record l { stopped = false } else new_span false l)
    step_posts program.Stop all l go goes = goes (new_span true l)
    step_posts (program.Repeat count block) all l go goes =
        turns_good count (block_tree block s) (block_posts block (inner_lines (OpenRepeat count) block all)) l go goes
    step_posts (program.IfAbsent variable block) all l go goes =
        either (is_absent (held_in l.variables variable)) (block_tree block s l go) (go l)
        (block_posts block (inner_lines (OpenIf variable) block all) l go goes) (goes l)

    block_posts : (block : Block) → AllLines (IsOfApp s.app) (lines_of block) → BlockGood (block_tree block s)
    block_posts program.End all l go goes = goes l
    block_posts (program.Then first rest) all l go goes =
        let apart = lines_apart (IsOfApp s.app) (step_lines first) (lines_of rest) all in
        step_posts first apart.0 l (λ l. block_tree rest s l go) (λ l. block_posts rest apart.1 l go goes)

-- The calls and sends of a process are posted by name.
pub process_posts : (app : App) (birth : Entry) → OfEachCall (PostsByName app) (tree_of app birth)
process_posts app birth =
    started_each (OfEachCall (PostsByName app)) app birth (λ end. tt)
    (λ task ids is has.
    block_posts (setting_of app task) (its_body app task) (body_lines app task.role.service task.role.handler)
    (record first_local { carried = ids })
    (leave true (setting_of app task) Fine) (left_by (setting_of app task) task.role.duty true Fine))

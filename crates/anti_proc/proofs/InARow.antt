-- The looks of a barrier follow one another.
use Rattle.std.proofs.Common.{◌≡◌, ℕ, zero, suc, Bool, true, false, cond, List, [], ◌∷◌, Option, Some, None, refl, ap}
use Rattle.std.specs.Prelude.{◌+◌, ◌++◌, nat_lt, unwrap_or, length, if◌then◌else◌}
use Rattle.std.specs.Option.{option_map_or}
use Rattle.anti_ids.specs.Ids.{with_ids}
use Rattle.anti_ids.specs.declared.id.WriteId.{WriteId}
use Rattle.anti_ids.specs.declared.limits.TheConstants.{MOST_DEPTH, MOST_IDS}
use Rattle.anti_kind.specs.declared.call.Call.{Call}
use Rattle.anti_kind.specs.declared.call.Call.TheVariants as calls
use Rattle.anti_kind.specs.declared.call.Reply.{Reply}
use Rattle.anti_kind.specs.declared.call.Reply.TheVariants as replies
use Rattle.anti_kind.specs.declared.entry.Entry.{Entry}
use Rattle.anti_kind.specs.declared.message.MessageKind.{MessageKind}
use Rattle.anti_kind.specs.declared.message.MessageKind.TheVariants as kinds
use Rattle.anti_lang.specs.Program as program
use Rattle.anti_lang.specs.Program.{Step, Block}
use Rattle.anti_lang.specs.Texts.{plain_name}
use Rattle.anti_shim.specs.declared.looks.PlannedLook.{PlannedLook}
use Rattle.anti_app.specs.declared.app.App.{App}
use Rattle.anti_app.specs.Objects.{inbox_of, store_number}
use Rattle.anti_proc.specs.declared.task.Duty.{Duty}
use Rattle.anti_proc.specs.declared.task.Duty.TheVariants as duties
use Rattle.anti_proc.specs.declared.variables.Binding.{Binding}
use Rattle.anti_proc.specs.declared.variables.Binding.TheVariants.{Wrote, Saw, Heard}
use Rattle.anti_proc.specs.declared.end.BodyEnd.{BodyEnd}
use Rattle.anti_proc.specs.declared.end.BodyEnd.TheVariants.{BadKey, Depth, Fine, LineageFull}
use Rattle.anti_proc.specs.Barriers.{AllLookInARow, BeginsItsLooks, next_look}
use Rattle.anti_proc.specs.Looks.{is_look}
use Rattle.anti_proc.specs.Local.{Setting, Local, any_name, first_local, held_ids, held_in, id_at, is_absent, key_text, new_span, removed, set, text_of}
use Rattle.anti_proc.specs.Meaning.{Go, after_post, after_read, after_reply, after_write, asks, begun, block_tree, carry, leave, leave_by, looks, message, planned, post_call, read_call, setting_of, stated_in, step_tree, tree_of, turns, with_key, write_call}
use Rattle.anti_proc.specs.Trees.{Tree, Ends, ask_of}
use Rattle.anti_proc.proofs.EachCall.{asked_with}
use Rattle.anti_proc.proofs.Started.{its_body, started_each}

-- it is so of what comes next, whatever the process knows
abbrev GoesOn : Go → Type 0
GoesOn go = (l : Local) → AllLookInARow (go l)

abbrev BlockGood : (Local → Go → Tree) → Type 0
BlockGood block = (l : Local) (go : Go) → GoesOn go → AllLookInARow (block l go)

either : (first : Bool) (one other : Tree) → AllLookInARow one → AllLookInARow other → AllLookInARow (cond first one other)
either true one other this that = this
either false one other this that = that

-- ---- calls

-- a call that is no look
asked : (object : ℕ) (call : Call) (l : Local) (go : Reply → Tree) → is_look call ≡ false → ((reply : Reply) → AllLookInARow (go reply))
    → AllLookInARow (asks object call None l go)
asked object call l go other each = (record { look = other; next = λ first later left reply. absurd (cc) }, each)

-- a look, and those that are left after it
looks_follow : (region : ℕ) (dry : Bool) (further : List PlannedLook) (l : Local) (go : Go) → GoesOn go
    → AllLookInARow (looks region dry further l go)
looks_follow region dry [] l go goes = goes l
looks_follow region dry (look ∷ later) l go goes = (record { look = refl; next = next }, λ reply. looks_follow region dry later l go goes)
  where
    next : (first : PlannedLook) (last : List PlannedLook) → Some later ≡ Some (first ∷ last) → (reply : Reply)
        → ask_of (looks region dry later l go)
        ≡ Some (next_look (asked_with look.store (calls.Look region look.ids dry) (Some later) l) first last)
    next first last left reply =
        let is : later ≡ first ∷ last = cc in
        ap (λ (further : List PlannedLook). ask_of (looks region dry further l go)) is

-- the first one is followed by the others
pub begins : (s : Setting) (l : Local) (dry : Bool) → BeginsItsLooks s l dry (looks s.role.region dry (planned s l) l)
begins s l dry go look later is = ap (λ (further : List PlannedLook). ask_of (looks s.role.region dry further l go)) is

carried_on : (ids : List WriteId) (l : Local) (go : Go) → GoesOn go → AllLookInARow (carry ids l go)
carried_on ids l go goes =
    let all : List WriteId = with_ids ids l.carried in
    let next : Local = record l { carried = all } in either (nat_lt MOST_IDS (length all)) (Ends LineageFull) (go next) tt (goes next)

written : (store : ℕ) (variable : Option (List ℕ)) (untracked : Bool) (l : Local) (go : Go) → GoesOn go → (reply : Reply)
    → AllLookInARow (after_write store variable untracked l go reply)
written store variable untracked l go goes (replies.Written key version over) =
    let held : Binding = Wrote (record { store = store; key = key; version = version }) (unwrap_or over l.carried) in
    let next : Local = option_map_or (λ name. set name held l) variable l in
    either untracked (go next) (carry (id_at store key version ++ unwrap_or over []) next go) (goes next) (carried_on (id_at store key version ++ unwrap_or over []) next go goes)
written store variable untracked l go goes reply = goes l

write_asked : (store : ℕ) (value : List ℕ) (variable : Option (List ℕ)) (untracked : Bool) (l : Local) (go : Go) (key : List ℕ) → GoesOn go
    → AllLookInARow (write_call store value variable untracked l go key)
write_asked store value variable untracked l go key goes =
    asked store (calls.Write key value l.carried) l (after_write store variable untracked l go) refl
    (written store variable untracked l go goes)

shown : (store : ℕ) (variable : List ℕ) (l : Local) (go : Go) → GoesOn go → (reply : Reply)
    → AllLookInARow (after_read store variable l go reply)
shown store variable l go goes (replies.Shown rows) = goes (set variable (Saw store rows) l)
shown store variable l go goes reply = goes l

read_asked : (store : ℕ) (call : List ℕ → Call) (variable : List ℕ) (l : Local) (go : Go) (key : List ℕ)
    → is_look (call key) ≡ false → GoesOn go → AllLookInARow (read_call store call variable l go key)
read_asked store call variable l go key other goes =
    asked store (call key) l (after_read store variable l go) other (shown store variable l go goes)

module _ (s : Setting) where
  worked : (good : Bool) (store version : ℕ) (l : Local) (end : BodyEnd)
      → AllLookInARow (asks store (if good then calls.Ack version else calls.Nack version) None l (λ reply. Ends end))
  worked true store version l end = asked store (calls.Ack version) l (λ reply. Ends end) refl (λ reply. tt)
  worked false store version l end = asked store (calls.Nack version) l (λ reply. Ends end) refl (λ reply. tt)

  left_by : (duty : Duty) (good : Bool) (end : BodyEnd) (l : Local) → AllLookInARow (leave_by duty good s end l)
  left_by duties.Free good end l = tt
  left_by (duties.Answers inbox number handler) good end l =
      asked inbox (calls.Post (message kinds.Reply number 0 handler l.reply s l)) l (λ reply. Ends end) refl (λ reply. tt)
  left_by (duties.Works store version) good end l = worked good store version l end

  keyed : (l : Local) (key : Option (List ℕ)) (go : List ℕ → Tree) → ((k : List ℕ) → AllLookInARow (go k))
      → AllLookInARow (with_key key go s l)
  keyed l None go goes = left_by s.role.duty false BadKey l
  keyed l (Some k) go goes = goes k

  heard : (variable : List ℕ) (l : Local) (go : Go) → GoesOn go → (reply : Reply) → AllLookInARow (after_reply s variable l go reply)
  heard variable l go goes (replies.Got number m) = carried_on (stated_in s.app m) (set variable (Heard m.value) l) go goes
  heard variable l go goes reply = goes l

  posted : (inbox : ℕ) (variable : Option (List ℕ)) (l : Local) (go : Go) → GoesOn go → (reply : Reply)
      → AllLookInARow (after_post inbox variable s l go reply)
  posted inbox (Some variable) l go goes (replies.Posted number) =
      asked inbox (calls.TakeReply number) l (after_reply s variable l go) refl (heard variable l go goes)
  posted inbox (Some variable) l go goes reply = goes l
  posted inbox None l go goes reply = goes l

  post_asked : (inbox : ℕ) (kind : MessageKind) (handler value : List ℕ) (variable : Option (List ℕ)) (l : Local) (go : Go) → GoesOn go
      → AllLookInARow (post_call inbox kind handler value variable s l go)
  post_asked inbox kind handler value variable l go goes =
      let call : Call = calls.Post (message kind 0 (s.role.depth + 1) handler value s l) in
      either (nat_lt s.role.depth MOST_DEPTH) (asks inbox call None l (after_post inbox variable s l go)) (leave false s Depth l)
      (asked inbox call l (after_post inbox variable s l go) refl (posted inbox variable l go goes)) (left_by s.role.duty false Depth l)

  -- ---- statements and blocks

  turns_good : (n : ℕ) (block : Local → Go → Tree) → BlockGood block → BlockGood (turns n block)
  turns_good zero block good l go goes = goes l
  turns_good (suc n) block good l go goes = good l (λ l. turns n block l go) (λ l. turns_good n block good l go goes)

  mutual
    step_good : (step : Step) → BlockGood (step_tree step s)
    step_good (program.Write store key value variable untracked) l go goes =
        let number : ℕ = store_number s.app store in
        keyed l (plain_name (key_text s l key)) (write_call number (text_of s l value) variable untracked l go)
        (λ k. write_asked number (text_of s l value) variable untracked l go k goes)
    step_good (program.Append variable) l go goes = carried_on (held_ids (held_in l.variables variable)) l go goes
    step_good (program.Remove variable) l go goes = goes (record l { carried = removed (held_in l.variables variable) l.carried })
    step_good (program.Transfer variable) l go goes = carried_on (held_ids (held_in l.variables variable)) l go goes
    step_good program.Barrier l go goes = looks_follow s.role.region false (planned s l) l go goes
    step_good program.DryRun l go goes = looks_follow s.role.region true (planned s l) l go goes
    step_good (program.Read store key variable) l go goes =
        let number : ℕ = store_number s.app store in
        keyed l (plain_name (key_text s l key)) (read_call number (calls.Read s.role.region) variable l go)
        (λ k. read_asked number (calls.Read s.role.region) variable l go k refl goes)
    step_good (program.Scan store prefix variable) l go goes =
        read_asked (store_number s.app store) (calls.Scan s.role.region) variable l go prefix refl goes
    step_good (program.Poll store key variable) l go goes =
        let number : ℕ = store_number s.app store in
        keyed l (any_name (key_text s l key)) (read_call number (calls.Poll s.role.region) variable l go)
        (λ k. read_asked number (calls.Poll s.role.region) variable l go k refl goes)
    step_good (program.Call service handler value variable) l go goes =
        post_asked (inbox_of s.app service) kinds.Call handler (text_of s l value) (Some variable) l go goes
    step_good (program.Send service handler value) l go goes =
        post_asked (inbox_of s.app service) kinds.Send handler (text_of s l value) None l go goes
    step_good (program.Reply value) l go goes = goes (record l { reply = text_of s l value })
    step_good program.Nack l go goes = left_by s.role.duty false Fine l
    step_good program.Root l go goes = goes (if l.stopped then record l { stopped = false } else new_span false l)
    step_good program.Stop l go goes = goes (new_span true l)
    step_good (program.Repeat count block) l go goes = turns_good count (block_tree block s) (block_good block) l go goes
    step_good (program.IfAbsent variable block) l go goes =
        either (is_absent (held_in l.variables variable)) (block_tree block s l go) (go l) (block_good block l go goes) (goes l)

    block_good : (block : Block) → BlockGood (block_tree block s)
    block_good program.End l go goes = goes l
    block_good (program.Then first rest) l go goes = step_good first l (λ l. block_tree rest s l go) (λ l. block_good rest l go goes)

pub body_looks : (body : Block) (s : Setting) (ids : List WriteId) → AllLookInARow (begun body s (Some ids))
body_looks body s ids = block_good s body (record first_local { carried = ids }) (leave true s Fine) (left_by s s.role.duty true Fine)

pub process_looks : (app : App) (birth : Entry) → AllLookInARow (tree_of app birth)
process_looks app birth = started_each AllLookInARow app birth (λ end. tt) (λ task ids is has. body_looks (its_body app task) (setting_of app task) ids)

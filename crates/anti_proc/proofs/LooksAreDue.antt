-- Each look of a process is the first of all the looks that are planned for what is carried, or follows a look of the same barrier that left
-- it.
use Rattle.std.proofs.Common.{◌≡◌, ℕ, zero, suc, Bool, true, false, cond, List, [], ◌∷◌, ◌⊎◌, Option, Some, None, refl, inl, inr}
use Rattle.std.specs.Prelude.{◌+◌, ◌++◌, nat_lt, unwrap_or, length, if◌then◌else◌}
use Rattle.std.specs.Option.{option_map_or}
use Rattle.anti_ids.specs.Ids.{with_ids}
use Rattle.anti_ids.specs.declared.id.WriteId.{WriteId}
use Rattle.anti_ids.specs.declared.limits.TheConstants.{MOST_DEPTH, MOST_IDS}
use Rattle.anti_kind.specs.declared.call.Call.{Call}
use Rattle.anti_kind.specs.declared.call.Call.TheVariants as calls
use Rattle.anti_kind.specs.declared.call.Reply.{Reply}
use Rattle.anti_kind.specs.declared.call.Reply.TheVariants as replies
use Rattle.anti_kind.specs.declared.entry.Entry.{Entry}
use Rattle.anti_kind.specs.declared.message.MessageKind.{MessageKind}
use Rattle.anti_kind.specs.declared.message.MessageKind.TheVariants as kinds
use Rattle.anti_lang.specs.Program as program
use Rattle.anti_lang.specs.Program.{Step, Block}
use Rattle.anti_lang.specs.Texts.{plain_name}
use Rattle.anti_shim.specs.declared.looks.PlannedLook.{PlannedLook}
use Rattle.anti_shim.specs.Plans.{plan}
use Rattle.anti_app.specs.declared.app.App.{App}
use Rattle.anti_app.specs.Objects.{inbox_of, store_number, stores_here}
use Rattle.anti_proc.specs.declared.task.Duty.{Duty}
use Rattle.anti_proc.specs.declared.task.Duty.TheVariants as duties
use Rattle.anti_proc.specs.declared.variables.Binding.{Binding}
use Rattle.anti_proc.specs.declared.variables.Binding.TheVariants.{Wrote, Saw, Heard}
use Rattle.anti_proc.specs.declared.end.BodyEnd.{BodyEnd}
use Rattle.anti_proc.specs.declared.end.BodyEnd.TheVariants.{BadKey, Depth, Fine, LineageFull}
use Rattle.anti_proc.specs.Local.{Setting, Local, any_name, first_local, held_ids, held_in, id_at, is_absent, key_text, new_span, removed, set, text_of}
use Rattle.anti_proc.specs.Meaning.{Go, after_post, after_read, after_reply, after_write, asks, begun, block_tree, carry, leave, leave_by, looks, message, planned, post_call, read_call, setting_of, stated_in, step_tree, tree_of, turns, with_key, write_call}
use Rattle.anti_proc.specs.Trees.{Tree, Ask, Asks, Ends}
use Rattle.anti_proc.proofs.EachCall.{asked_with}
use Rattle.anti_proc.proofs.Started.{its_body, started_each}

-- ---- the law

-- The call before is a look of the same barrier or dry run: with this lineage, in this span and region, and as dry. These are the looks that
-- are left after it.
pub record FollowsLook (last : Option Ask) (region : ℕ) (dry : Bool) (lineage : List WriteId) (n : ℕ) (looks : List PlannedLook) : Type 0 where
  pub before : Ask
  pub ids : List WriteId
  pub is : last ≡ Some before
  pub call : before.call ≡ calls.Look region ids dry
  pub left : before.left ≡ Some looks
  pub carried : before.carried ≡ lineage
  pub span : before.span ≡ n

-- these looks are all that are planned, or those that are left after the call before
abbrev pub AreDue : App → Option Ask → ℕ → Bool → List WriteId → ℕ → List PlannedLook → Type 0
AreDue app last region dry lineage n looks =
    (plan (stores_here app region) lineage ≡ looks) ⊎ FollowsLook last region dry lineage n looks

-- a look, and those that are left after it, are due
abbrev pub IsDue : App → Option Ask → Ask → Option (List PlannedLook) → Call → Type 0
IsDue app last ask None call = Unit {0}
IsDue app last ask (Some later) (calls.Look region ids dry) =
    AreDue app last region dry ask.carried ask.span (record { store = ask.object; ids = ids } ∷ later)
IsDue app last ask (Some later) call = ⊥

-- it is so of each call that the process makes, whatever it is answered
abbrev pub LooksAreDue : App → Option Ask → Tree → Type 0
LooksAreDue app last (Asks ask go) = IsDue app last ask ask.left ask.call × ((reply : Reply) → LooksAreDue app (Some ask) (go reply))
LooksAreDue app last (Ends end) = Unit {0}

-- ---- the proof

module _ (app : App) where
  -- it is so of what comes next, whatever the process knows and did
  abbrev GoesOn : Go → Type 0
  GoesOn go = (last : Option Ask) (l : Local) → LooksAreDue app last (go l)

  abbrev BlockGood : (Local → Go → Tree) → Type 0
  BlockGood block = (last : Option Ask) (l : Local) (go : Go) → GoesOn go → LooksAreDue app last (block l go)

  either : (first : Bool) (last : Option Ask) (one other : Tree) → LooksAreDue app last one → LooksAreDue app last other
      → LooksAreDue app last (cond first one other)
  either true last one other this that = this
  either false last one other this that = that

  -- ---- calls

  -- a call that is no look
  asked : (last : Option Ask) (object : ℕ) (call : Call) (l : Local) (go : Reply → Tree) → ((last : Option Ask) (reply : Reply) → LooksAreDue app last (go reply))
      → LooksAreDue app last (asks object call None l go)
  asked last object call l go each = (tt, λ reply. each _ reply)

  -- looks that are due
  looks_due : (region : ℕ) (dry : Bool) (further : List PlannedLook) (last : Option Ask) (l : Local) (go : Go) → GoesOn go
      → AreDue app last region dry l.carried l.span further → LooksAreDue app last (looks region dry further l go)
  looks_due region dry [] last l go goes due = goes last l
  looks_due region dry (look ∷ later) last l go goes due =
      let ask : Ask = asked_with look.store (calls.Look region look.ids dry) (Some later) l in (
        due,
        λ reply. looks_due region dry later (Some ask) l go goes
            (inr (record { before = ask; ids = look.ids; is = refl; call = refl; left = refl; carried = refl; span = refl })),
      )

  carried_on : (ids : List WriteId) (last : Option Ask) (l : Local) (go : Go) → GoesOn go → LooksAreDue app last (carry ids l go)
  carried_on ids last l go goes =
      let all : List WriteId = with_ids ids l.carried in
      let next : Local = record l { carried = all } in
      either (nat_lt MOST_IDS (length all)) last (Ends LineageFull) (go next) tt (goes last next)

  written : (store : ℕ) (variable : Option (List ℕ)) (untracked : Bool) (l : Local) (go : Go) → GoesOn go → (last : Option Ask) (reply : Reply)
      → LooksAreDue app last (after_write store variable untracked l go reply)
  written store variable untracked l go goes last (replies.Written key version over) =
      let held : Binding = Wrote (record { store = store; key = key; version = version }) (unwrap_or over l.carried) in
      let next : Local = option_map_or (λ name. set name held l) variable l in
      either untracked last (go next) (carry (id_at store key version ++ unwrap_or over []) next go) (goes last next)
      (carried_on (id_at store key version ++ unwrap_or over []) last next go goes)
  written store variable untracked l go goes last reply = goes last l

  write_asked : (store : ℕ) (value : List ℕ) (variable : Option (List ℕ)) (untracked : Bool) (last : Option Ask) (l : Local) (go : Go) (key : List ℕ) → GoesOn go
      → LooksAreDue app last (write_call store value variable untracked l go key)
  write_asked store value variable untracked last l go key goes =
      asked last store (calls.Write key value l.carried) l (after_write store variable untracked l go) (written store variable untracked l go goes)

  shown : (store : ℕ) (variable : List ℕ) (l : Local) (go : Go) → GoesOn go → (last : Option Ask) (reply : Reply)
      → LooksAreDue app last (after_read store variable l go reply)
  shown store variable l go goes last (replies.Shown rows) = goes last (set variable (Saw store rows) l)
  shown store variable l go goes last reply = goes last l

  read_asked : (store : ℕ) (call : List ℕ → Call) (variable : List ℕ) (last : Option Ask) (l : Local) (go : Go) (key : List ℕ) → GoesOn go
      → LooksAreDue app last (read_call store call variable l go key)
  read_asked store call variable last l go key goes = asked last store (call key) l (after_read store variable l go) (shown store variable l go goes)

module _ (s : Setting) where
  left_by : (duty : Duty) (good : Bool) (end : BodyEnd) (last : Option Ask) (l : Local) → LooksAreDue s.app last (leave_by duty good s end l)
  left_by duties.Free good end last l = tt
  left_by (duties.Answers inbox number handler) good end last l =
      asked s.app last inbox (calls.Post (message kinds.Reply number 0 handler l.reply s l)) l (λ reply. Ends end) (λ last reply. tt)
  left_by (duties.Works store version) good end last l =
      asked s.app last store (if good then calls.Ack version else calls.Nack version) l (λ reply. Ends end) (λ last reply. tt)

  keyed : (last : Option Ask) (l : Local) (key : Option (List ℕ)) (go : List ℕ → Tree) → ((k : List ℕ) → LooksAreDue s.app last (go k))
      → LooksAreDue s.app last (with_key key go s l)
  keyed last l None go goes = left_by s.role.duty false BadKey last l
  keyed last l (Some k) go goes = goes k

  heard : (variable : List ℕ) (l : Local) (go : Go) → GoesOn s.app go → (last : Option Ask) (reply : Reply) → LooksAreDue s.app last (after_reply s variable l go reply)
  heard variable l go goes last (replies.Got number m) = carried_on s.app (stated_in s.app m) last (set variable (Heard m.value) l) go goes
  heard variable l go goes last reply = goes last l

  posted : (inbox : ℕ) (variable : Option (List ℕ)) (l : Local) (go : Go) → GoesOn s.app go → (last : Option Ask) (reply : Reply)
      → LooksAreDue s.app last (after_post inbox variable s l go reply)
  posted inbox (Some variable) l go goes last (replies.Posted number) =
      asked s.app last inbox (calls.TakeReply number) l (after_reply s variable l go) (heard variable l go goes)
  posted inbox (Some variable) l go goes last reply = goes last l
  posted inbox None l go goes last reply = goes last l

  post_asked : (inbox : ℕ) (kind : MessageKind) (handler value : List ℕ) (variable : Option (List ℕ)) (last : Option Ask) (l : Local) (go : Go)
      → GoesOn s.app go → LooksAreDue s.app last (post_call inbox kind handler value variable s l go)
  post_asked inbox kind handler value variable last l go goes =
      let call : Call = calls.Post (message kind 0 (s.role.depth + 1) handler value s l) in
      either s.app (nat_lt s.role.depth MOST_DEPTH) last (asks inbox call None l (after_post inbox variable s l go)) (leave false s Depth l)
      (asked s.app last inbox call l (after_post inbox variable s l go) (posted inbox variable l go goes)) (left_by s.role.duty false Depth last l)

  -- ---- statements and blocks

  turns_good : (n : ℕ) (block : Local → Go → Tree) → BlockGood s.app block → BlockGood s.app (turns n block)
  turns_good zero block good last l go goes = goes last l
  turns_good (suc n) block good last l go goes = good last l (λ l. turns n block l go) (λ last l. turns_good n block good last l go goes)

  mutual
    step_good : (step : Step) → BlockGood s.app (step_tree step s)
    step_good (program.Write store key value variable untracked) last l go goes =
        let number : ℕ = store_number s.app store in
        keyed last l (plain_name (key_text s l key)) (write_call number (text_of s l value) variable untracked l go)
        (λ k. write_asked s.app number (text_of s l value) variable untracked last l go k goes)
    step_good (program.Append variable) last l go goes = carried_on s.app (held_ids (held_in l.variables variable)) last l go goes
    step_good (program.Remove variable) last l go goes = goes last (record l { carried = removed (held_in l.variables variable) l.carried })
    step_good (program.Transfer variable) last l go goes = carried_on s.app (held_ids (held_in l.variables variable)) last l go goes
    step_good program.Barrier last l go goes = looks_due s.app s.role.region false (planned s l) last l go goes (inl refl)
    step_good program.DryRun last l go goes = looks_due s.app s.role.region true (planned s l) last l go goes (inl refl)
    step_good (program.Read store key variable) last l go goes =
        let number : ℕ = store_number s.app store in
        keyed last l (plain_name (key_text s l key)) (read_call number (calls.Read s.role.region) variable l go)
        (λ k. read_asked s.app number (calls.Read s.role.region) variable last l go k goes)
    step_good (program.Scan store prefix variable) last l go goes =
        read_asked s.app (store_number s.app store) (calls.Scan s.role.region) variable last l go prefix goes
    step_good (program.Poll store key variable) last l go goes =
        let number : ℕ = store_number s.app store in
        keyed last l (any_name (key_text s l key)) (read_call number (calls.Poll s.role.region) variable l go)
        (λ k. read_asked s.app number (calls.Poll s.role.region) variable last l go k goes)
    step_good (program.Call service handler value variable) last l go goes =
        post_asked (inbox_of s.app service) kinds.Call handler (text_of s l value) (Some variable) last l go goes
    step_good (program.Send service handler value) last l go goes =
        post_asked (inbox_of s.app service) kinds.Send handler (text_of s l value) None last l go goes
    step_good (program.Reply value) last l go goes = goes last (record l { reply = text_of s l value })
    step_good program.Nack last l go goes = left_by s.role.duty false Fine last l
    step_good program.Root last l go goes = goes last (if l.stopped then record l { stopped = false } else new_span false l)
    step_good program.Stop last l go goes = goes last (new_span true l)
    step_good (program.Repeat count block) last l go goes = turns_good count (block_tree block s) (block_good block) last l go goes
    step_good (program.IfAbsent variable block) last l go goes =
        either s.app (is_absent (held_in l.variables variable)) last (block_tree block s l go) (go l) (block_good block last l go goes) (goes last l)

    block_good : (block : Block) → BlockGood s.app (block_tree block s)
    block_good program.End last l go goes = goes last l
    block_good (program.Then first rest) last l go goes =
        step_good first last l (λ l. block_tree rest s l go) (λ last l. block_good rest last l go goes)

pub body_due : (body : Block) (s : Setting) (ids : List WriteId) → LooksAreDue s.app None (begun body s (Some ids))
body_due body s ids = block_good s body None (record first_local { carried = ids }) (leave true s Fine) (λ last l. left_by s s.role.duty true Fine last l)

pub process_due : (app : App) (birth : Entry) → LooksAreDue app None (tree_of app birth)
process_due app birth = started_each (LooksAreDue app None) app birth (λ end. tt) (λ task ids is has. body_due (its_body app task) (setting_of app task) ids)

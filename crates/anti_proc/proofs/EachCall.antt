-- What is so of each form of call is so of each call that a process makes.
use Rattle.std.proofs.Common.{◌≡◌, ℕ, zero, suc, Bool, true, false, cond, List, [], ◌∷◌, length, Option, Some, None}
use Rattle.std.specs.Prelude.{◌+◌, ◌++◌, nat_lt, unwrap_or, if◌then◌else◌}
use Rattle.std.specs.Option.{option_map_or}
use Rattle.anti_ids.specs.Each.{Each}
use Rattle.anti_ids.specs.Ids.{ids_of, with_ids}
use Rattle.anti_ids.specs.declared.id.WriteId.{WriteId}
use Rattle.anti_ids.specs.declared.limits.TheConstants.{MOST_DEPTH, MOST_IDS}
use Rattle.anti_kind.specs.declared.call.Call.{Call}
use Rattle.anti_kind.specs.declared.call.Call.TheVariants as calls
use Rattle.anti_kind.specs.declared.call.Reply.{Reply}
use Rattle.anti_kind.specs.declared.call.Reply.TheVariants as replies
use Rattle.anti_kind.specs.declared.message.MessageKind.{MessageKind}
use Rattle.anti_kind.specs.declared.message.MessageKind.TheVariants as kinds
use Rattle.anti_lang.specs.Program as program
use Rattle.anti_lang.specs.Program.{Step, Block}
use Rattle.anti_lang.specs.Texts.{plain_name}
use Rattle.anti_shim.specs.declared.looks.PlannedLook.{PlannedLook}
use Rattle.anti_app.specs.Objects.{inbox_of, store_number, stores_here}
use Rattle.anti_proc.specs.declared.task.Duty.{Duty}
use Rattle.anti_proc.specs.declared.task.Duty.TheVariants as duties
use Rattle.anti_proc.specs.declared.variables.Binding.{Binding}
use Rattle.anti_proc.specs.declared.variables.Binding.TheVariants.{Wrote, Saw, Heard}
use Rattle.anti_proc.specs.declared.end.BodyEnd.{BodyEnd}
use Rattle.anti_proc.specs.declared.end.BodyEnd.TheVariants.{BadKey, Depth, Fine, LineageFull}
use Rattle.anti_proc.specs.Carrying.{OfEachCall}
use Rattle.anti_proc.specs.Local.{Setting, Local, any_name, first_local, held_ids, held_in, id_at, is_absent, key_text, new_span, removed, set, text_of}
use Rattle.anti_proc.specs.Meaning.{Go, after_post, after_read, after_reply, after_write, asks, begun, block_tree, carry, leave, leave_by, looks, message, planned, post_call, read_call, stated_in, step_tree, turns, with_key, write_call}
use Rattle.anti_proc.specs.Trees.{Tree, Ask, Ends}
use Rattle.anti_proc.proofs.Keeping.{ItsIds, looks_for_its_ids}

-- a call, with the looks that are left after it
abbrev pub asked_with : ℕ → Call → Option (List PlannedLook) → Local → Ask
asked_with object call left l = record { object = object; span = l.span; call = call; carried = l.carried; left = left }

-- a call that is no look
abbrev pub asked : ℕ → Call → Local → Ask
asked object call l = asked_with object call None l

-- It is so of each form of call that a process makes in its setting, whatever it knows then.
pub record OfEachForm (s : Setting) (Is : Ask → Type 0) : Type 0 where
  pub write : (store : ℕ) (key value : List ℕ) (l : Local) → Is (asked store (calls.Write key value l.carried) l)
  pub read : (store : ℕ) (key : List ℕ) (l : Local) → Is (asked store (calls.Read s.role.region key) l)
  pub scan : (store : ℕ) (prefix : List ℕ) (l : Local) → Is (asked store (calls.Scan s.role.region prefix) l)
  pub poll : (store : ℕ) (key : List ℕ) (l : Local) → Is (asked store (calls.Poll s.role.region key) l)
  pub look : (dry : Bool) (planned : PlannedLook) (later : List PlannedLook) (l : Local) → planned.ids ≡ ids_of planned.store l.carried
      → Is (asked_with planned.store (calls.Look s.role.region planned.ids dry) (Some later) l)
  pub post : (inbox : ℕ) (kind : MessageKind) (to depth : ℕ) (handler value : List ℕ) (l : Local)
      → Is (asked inbox (calls.Post (message kind to depth handler value s l)) l)
  pub ack : (store version : ℕ) (l : Local) → Is (asked store (calls.Ack version) l)
  pub nack : (store version : ℕ) (l : Local) → Is (asked store (calls.Nack version) l)
  pub take : (inbox number : ℕ) (l : Local) → Is (asked inbox (calls.TakeReply number) l)

module _ (Is : Ask → Type 0) where
  -- it is so of what comes next, whatever the process knows
  abbrev GoesOn : Go → Type 0
  GoesOn go = (l : Local) → OfEachCall Is (go l)

  abbrev BlockGood : (Local → Go → Tree) → Type 0
  BlockGood block = (l : Local) (go : Go) → GoesOn go → OfEachCall Is (block l go)

  either : (first : Bool) (one other : Tree) → OfEachCall Is one → OfEachCall Is other → OfEachCall Is (cond first one other)
  either true one other this that = this
  either false one other this that = that

  carried_on : (ids : List WriteId) (l : Local) (go : Go) → GoesOn go → OfEachCall Is (carry ids l go)
  carried_on ids l go goes =
      let all : List WriteId = with_ids ids l.carried in
      let next : Local = record l { carried = all } in either (nat_lt MOST_IDS (length all)) (Ends LineageFull) (go next) tt (goes next)

  turns_good : (n : ℕ) (block : Local → Go → Tree) → BlockGood block → BlockGood (turns n block)
  turns_good zero block good l go goes = goes l
  turns_good (suc n) block good l go goes = good l (λ l. turns n block l go) (λ l. turns_good n block good l go goes)

  module _ (s : Setting) (each : OfEachForm s Is) where
    -- ---- calls

    written : (store : ℕ) (variable : Option (List ℕ)) (untracked : Bool) (l : Local) (go : Go) → GoesOn go → (reply : Reply)
        → OfEachCall Is (after_write store variable untracked l go reply)
    written store variable untracked l go goes (replies.Written key version over) =
        let held : Binding = Wrote (record { store = store; key = key; version = version }) (unwrap_or over l.carried) in
        let next : Local = option_map_or (λ name. set name held l) variable l in
        either untracked (go next) (carry (id_at store key version ++ unwrap_or over []) next go) (goes next) (carried_on (id_at store key version ++ unwrap_or over []) next go goes)
    written store variable untracked l go goes reply = goes l

    write_asked : (store : ℕ) (value : List ℕ) (variable : Option (List ℕ)) (untracked : Bool) (l : Local) (go : Go) (key : List ℕ)
        → GoesOn go → OfEachCall Is (write_call store value variable untracked l go key)
    write_asked store value variable untracked l go key goes =
        (each.write store key value l, written store variable untracked l go goes)

    shown : (store : ℕ) (variable : List ℕ) (l : Local) (go : Go) → GoesOn go → (reply : Reply)
        → OfEachCall Is (after_read store variable l go reply)
    shown store variable l go goes (replies.Shown rows) = goes (set variable (Saw store rows) l)
    shown store variable l go goes reply = goes l

    read_asked : (store : ℕ) (call : List ℕ → Call) (variable : List ℕ) (l : Local) (go : Go) (key : List ℕ)
        → Is (asked store (call key) l) → GoesOn go → OfEachCall Is (read_call store call variable l go key)
    read_asked store call variable l go key is goes = (is, shown store variable l go goes)

    looks_asked : (dry : Bool) (further : List PlannedLook) (l : Local) (go : Go) → Each (ItsIds l.carried) further → GoesOn go
        → OfEachCall Is (looks s.role.region dry further l go)
    looks_asked dry [] l go its goes = goes l
    looks_asked dry (look ∷ later) l go its goes = (each.look dry look later l its.0, λ reply. looks_asked dry later l go its.1 goes)

    planned_asked : (dry : Bool) (l : Local) (go : Go) → GoesOn go → OfEachCall Is (looks s.role.region dry (planned s l) l go)
    planned_asked dry l go goes = looks_asked dry (planned s l) l go (looks_for_its_ids (stores_here s.app s.role.region) l.carried) goes

    worked : (good : Bool) (store version : ℕ) (l : Local) → Is (asked store (if good then calls.Ack version else calls.Nack version) l)
    worked true store version l = each.ack store version l
    worked false store version l = each.nack store version l

    left_by : (duty : Duty) (good : Bool) (end : BodyEnd) (l : Local) → OfEachCall Is (leave_by duty good s end l)
    left_by duties.Free good end l = tt
    left_by (duties.Answers inbox number handler) good end l = (each.post inbox kinds.Reply number 0 handler l.reply l, λ reply. tt)
    left_by (duties.Works store version) good end l = (worked good store version l, λ reply. tt)

    keyed : (l : Local) (key : Option (List ℕ)) (go : List ℕ → Tree) → ((k : List ℕ) → OfEachCall Is (go k))
        → OfEachCall Is (with_key key go s l)
    keyed l None go goes = left_by s.role.duty false BadKey l
    keyed l (Some k) go goes = goes k

    heard : (variable : List ℕ) (l : Local) (go : Go) → GoesOn go → (reply : Reply) → OfEachCall Is (after_reply s variable l go reply)
    heard variable l go goes (replies.Got number m) = carried_on (stated_in s.app m) (set variable (Heard m.value) l) go goes
    heard variable l go goes reply = goes l

    posted : (inbox : ℕ) (variable : Option (List ℕ)) (l : Local) (go : Go) → GoesOn go → (reply : Reply)
        → OfEachCall Is (after_post inbox variable s l go reply)
    posted inbox (Some variable) l go goes (replies.Posted number) = (each.take inbox number l, heard variable l go goes)
    posted inbox (Some variable) l go goes reply = goes l
    posted inbox None l go goes reply = goes l

    post_asked : (inbox : ℕ) (kind : MessageKind) (handler value : List ℕ) (variable : Option (List ℕ)) (l : Local) (go : Go) → GoesOn go
        → OfEachCall Is (post_call inbox kind handler value variable s l go)
    post_asked inbox kind handler value variable l go goes =
        let call : Call = calls.Post (message kind 0 (s.role.depth + 1) handler value s l) in
        either (nat_lt s.role.depth MOST_DEPTH) (asks inbox call None l (after_post inbox variable s l go)) (leave false s Depth l)
        (each.post inbox kind 0 (s.role.depth + 1) handler value l, posted inbox variable l go goes) (left_by s.role.duty false Depth l)

    -- ---- statements and blocks

    mutual
      step_good : (step : Step) → BlockGood (step_tree step s)
      step_good (program.Write store key value variable untracked) l go goes =
          let number : ℕ = store_number s.app store in
          keyed l (plain_name (key_text s l key)) (write_call number (text_of s l value) variable untracked l go)
          (λ k. write_asked number (text_of s l value) variable untracked l go k goes)
      step_good (program.Append variable) l go goes = carried_on (held_ids (held_in l.variables variable)) l go goes
      step_good (program.Remove variable) l go goes = goes (record l { carried = removed (held_in l.variables variable) l.carried })
      step_good (program.Transfer variable) l go goes = carried_on (held_ids (held_in l.variables variable)) l go goes
      step_good program.Barrier l go goes = planned_asked false l go goes
      step_good program.DryRun l go goes = planned_asked true l go goes
      step_good (program.Read store key variable) l go goes =
          let number : ℕ = store_number s.app store in
          keyed l (plain_name (key_text s l key)) (read_call number (calls.Read s.role.region) variable l go)
          (λ k. read_asked number (calls.Read s.role.region) variable l go k (each.read number k l) goes)
      step_good (program.Scan store prefix variable) l go goes =
          let number : ℕ = store_number s.app store in
          read_asked number (calls.Scan s.role.region) variable l go prefix (each.scan number prefix l) goes
      step_good (program.Poll store key variable) l go goes =
          let number : ℕ = store_number s.app store in
          keyed l (any_name (key_text s l key)) (read_call number (calls.Poll s.role.region) variable l go)
          (λ k. read_asked number (calls.Poll s.role.region) variable l go k (each.poll number k l) goes)
      step_good (program.Call service handler value variable) l go goes =
          post_asked (inbox_of s.app service) kinds.Call handler (text_of s l value) (Some variable) l go goes
      step_good (program.Send service handler value) l go goes =
          post_asked (inbox_of s.app service) kinds.Send handler (text_of s l value) None l go goes
      step_good (program.Reply value) l go goes = goes (record l { reply = text_of s l value })
      step_good program.Nack l go goes = left_by s.role.duty false Fine l
      step_good program.Root l go goes = goes (if l.stopped then record l { stopped = false } else new_span false l)
      step_good program.Stop l go goes = goes (new_span true l)
      step_good (program.Repeat count block) l go goes = turns_good count (block_tree block s) (block_good block) l go goes
      step_good (program.IfAbsent variable block) l go goes =
          either (is_absent (held_in l.variables variable)) (block_tree block s l go) (go l) (block_good block l go goes) (goes l)

      block_good : (block : Block) → BlockGood (block_tree block s)
      block_good program.End l go goes = goes l
      block_good (program.Then first rest) l go goes =
          step_good first l (λ l. block_tree rest s l go) (λ l. block_good rest l go goes)

    pub each_begun : (body : Block) (ids : List WriteId) → OfEachCall Is (begun body s (Some ids))
    each_begun body ids = block_good body (record first_local { carried = ids }) (leave true s Fine) (left_by s.role.duty true Fine)

-- What follows a post. Behind the post of a call a process asks next for the reply, at the same inbox and in the same span. Behind the post
-- of a reply it has ended. And it asks for nothing that bears a process.
use Rattle.std.proofs.Common.{◌≡◌, ℕ, zero, suc, Bool, true, false, cond, List, [], ◌∷◌, length, Option, Some, None, refl, sym, ◌∙◌, subst}
use Rattle.std.specs.Prelude.{◌+◌, ◌++◌, nat_lt, unwrap_or, if◌then◌else◌}
use Rattle.std.specs.Option.{option_map_or}
use Rattle.anti_ids.specs.Ids.{with_ids}
use Rattle.anti_ids.specs.declared.id.WriteId.{WriteId}
use Rattle.anti_ids.specs.declared.limits.TheConstants.{MOST_DEPTH, MOST_IDS}
use Rattle.anti_kind.specs.declared.call.Call.{Call}
use Rattle.anti_kind.specs.declared.call.Call.TheVariants as calls
use Rattle.anti_kind.specs.declared.call.Reply.{Reply}
use Rattle.anti_kind.specs.declared.call.Reply.TheVariants as replies
use Rattle.anti_kind.specs.declared.entry.Entry.{Entry}
use Rattle.anti_kind.specs.declared.message.Message.{Message}
use Rattle.anti_kind.specs.declared.message.MessageKind.{MessageKind}
use Rattle.anti_kind.specs.declared.message.MessageKind.TheVariants as kinds
use Rattle.anti_lang.specs.Program as program
use Rattle.anti_lang.specs.Program.{Step, Block}
use Rattle.anti_lang.specs.Texts.{plain_name}
use Rattle.anti_shim.specs.declared.looks.PlannedLook.{PlannedLook}
use Rattle.anti_app.specs.declared.app.App.{App}
use Rattle.anti_app.specs.Objects.{inbox_of, store_number}
use Rattle.anti_proc.specs.declared.task.Duty.{Duty}
use Rattle.anti_proc.specs.declared.task.Duty.TheVariants as duties
use Rattle.anti_proc.specs.declared.variables.Binding.{Binding}
use Rattle.anti_proc.specs.declared.variables.Binding.TheVariants.{Wrote, Saw, Heard}
use Rattle.anti_proc.specs.declared.end.BodyEnd.{BodyEnd}
use Rattle.anti_proc.specs.declared.end.BodyEnd.TheVariants.{BadKey, Depth, Fine, LineageFull}
use Rattle.anti_proc.specs.Local.{Setting, Local, any_name, first_local, held_ids, held_in, id_at, is_absent, key_text, new_span, removed, set, text_of}
use Rattle.anti_proc.specs.Meaning.{Go, after_post, after_read, after_reply, after_write, asks, begun, block_tree, carry, leave, leave_by, looks, message, planned, post_call, read_call, setting_of, stated_in, step_tree, tree_of, turns, with_key, write_call}
use Rattle.anti_proc.specs.Trees.{Tree, Ask, Asks, Ends}
use Rattle.anti_proc.proofs.Started.{its_body, started_each}
use Rattle.anti_trace.specs.Legal.{GoAlong, bears}

-- ---- what follows

-- next comes the taking of the reply to the call of this number
abbrev HearsNext : ℕ → ℕ → ℕ → Tree → Type 0
HearsNext inbox span number (Asks ask go) = (ask.object ≡ inbox) × (ask.span ≡ span) × (ask.call ≡ calls.TakeReply number)
HearsNext inbox span number (Ends end) = ⊥

abbrev HasEnded : Tree → Type 0
HasEnded (Asks ask go) = ⊥
HasEnded (Ends end) = Unit {0}

-- what follows the post of a message of this kind
abbrev FollowsPost : MessageKind → ℕ → ℕ → (Reply → Tree) → Type 0
FollowsPost kinds.Call inbox span go = (number : ℕ) → HearsNext inbox span number (go (replies.Posted number))
FollowsPost kinds.Reply inbox span go = (reply : Reply) → HasEnded (go reply)
FollowsPost kind inbox span go = Unit {0}

abbrev Follows : Call → ℕ → ℕ → (Reply → Tree) → Type 0
Follows (calls.Post m) inbox span go = FollowsPost m.kind inbox span go
Follows call inbox span go = Unit {0}

record IsFollowed (ask : Ask) (go : Reply → Tree) : Type 0 where
  acts : bears ask.call ≡ false
  post : Follows ask.call ask.object ask.span go

-- it is so of each call of a process, whatever it is answered
abbrev AllFollowed : Tree → Type 0
AllFollowed (Asks ask go) = IsFollowed ask go × ((reply : Reply) → AllFollowed (go reply))
AllFollowed (Ends end) = Unit {0}

-- ---- statements

abbrev GoesOn : Go → Type 0
GoesOn go = (l : Local) → AllFollowed (go l)

abbrev BlockGood : (Local → Go → Tree) → Type 0
BlockGood block = (l : Local) (go : Go) → GoesOn go → AllFollowed (block l go)

either : (first : Bool) (one other : Tree) → AllFollowed one → AllFollowed other → AllFollowed (cond first one other)
either true one other this that = this
either false one other this that = that

asked : (object : ℕ) (call : Call) (left : Option (List PlannedLook)) (l : Local) (go : Reply → Tree) → bears call ≡ false
    → Follows call object l.span go → ((reply : Reply) → AllFollowed (go reply)) → AllFollowed (asks object call left l go)
asked object call left l go acts post each = (record { acts = acts; post = post }, each)

looks_asked : (region : ℕ) (dry : Bool) (further : List PlannedLook) (l : Local) (go : Go) → GoesOn go
    → AllFollowed (looks region dry further l go)
looks_asked region dry [] l go goes = goes l
looks_asked region dry (look ∷ later) l go goes =
    asked look.store (calls.Look region look.ids dry) (Some later) l (λ reply. looks region dry later l go) refl tt
    (λ reply. looks_asked region dry later l go goes)

carried_on : (ids : List WriteId) (l : Local) (go : Go) → GoesOn go → AllFollowed (carry ids l go)
carried_on ids l go goes =
    let all : List WriteId = with_ids ids l.carried in
    let next : Local = record l { carried = all } in either (nat_lt MOST_IDS (length all)) (Ends LineageFull) (go next) tt (goes next)

written : (store : ℕ) (variable : Option (List ℕ)) (untracked : Bool) (l : Local) (go : Go) → GoesOn go → (reply : Reply)
    → AllFollowed (after_write store variable untracked l go reply)
written store variable untracked l go goes (replies.Written key version over) =
    let held : Binding = Wrote (record { store = store; key = key; version = version }) (unwrap_or over l.carried) in
    let next : Local = option_map_or (λ name. set name held l) variable l in
    either untracked (go next) (carry (id_at store key version ++ unwrap_or over []) next go) (goes next)
    (carried_on (id_at store key version ++ unwrap_or over []) next go goes)
written store variable untracked l go goes reply = goes l

write_asked : (store : ℕ) (value : List ℕ) (variable : Option (List ℕ)) (untracked : Bool) (l : Local) (go : Go) (key : List ℕ) → GoesOn go
    → AllFollowed (write_call store value variable untracked l go key)
write_asked store value variable untracked l go key goes =
    asked store (calls.Write key value l.carried) None l (after_write store variable untracked l go) refl tt
    (written store variable untracked l go goes)

shown : (store : ℕ) (variable : List ℕ) (l : Local) (go : Go) → GoesOn go → (reply : Reply)
    → AllFollowed (after_read store variable l go reply)
shown store variable l go goes (replies.Shown rows) = goes (set variable (Saw store rows) l)
shown store variable l go goes reply = goes l

module _ (s : Setting) where
  worked : (good : Bool) (store version : ℕ) (l : Local) (end : BodyEnd)
      → AllFollowed (asks store (if good then calls.Ack version else calls.Nack version) None l (λ reply. Ends end))
  worked true store version l end = asked store (calls.Ack version) None l (λ reply. Ends end) refl tt (λ reply. tt)
  worked false store version l end = asked store (calls.Nack version) None l (λ reply. Ends end) refl tt (λ reply. tt)

  left_by : (duty : Duty) (good : Bool) (end : BodyEnd) (l : Local) → AllFollowed (leave_by duty good s end l)
  left_by duties.Free good end l = tt
  left_by (duties.Answers inbox number handler) good end l =
      asked inbox (calls.Post (message kinds.Reply number 0 handler l.reply s l)) None l (λ reply. Ends end) refl (λ reply. tt) (λ reply. tt)
  left_by (duties.Works store version) good end l = worked good store version l end

  keyed : (l : Local) (key : Option (List ℕ)) (go : List ℕ → Tree) → ((k : List ℕ) → AllFollowed (go k))
      → AllFollowed (with_key key go s l)
  keyed l None go goes = left_by s.role.duty false BadKey l
  keyed l (Some k) go goes = goes k

  heard : (variable : List ℕ) (l : Local) (go : Go) → GoesOn go → (reply : Reply) → AllFollowed (after_reply s variable l go reply)
  heard variable l go goes (replies.Got number m) = carried_on (stated_in s.app m) (set variable (Heard m.value) l) go goes
  heard variable l go goes reply = goes l

  posted : (inbox : ℕ) (variable : List ℕ) (l : Local) (go : Go) → GoesOn go → (reply : Reply)
      → AllFollowed (after_post inbox (Some variable) s l go reply)
  posted inbox variable l go goes (replies.Posted number) =
      asked inbox (calls.TakeReply number) None l (after_reply s variable l go) refl tt (heard variable l go goes)
  posted inbox variable l go goes reply = goes l

  -- a call that is not too deep, and a send
  call_asked : (inbox : ℕ) (handler value variable : List ℕ) (l : Local) (go : Go) → GoesOn go
      → AllFollowed (post_call inbox kinds.Call handler value (Some variable) s l go)
  call_asked inbox handler value variable l go goes =
      let call : Call = calls.Post (message kinds.Call 0 (s.role.depth + 1) handler value s l) in
      either (nat_lt s.role.depth MOST_DEPTH) (asks inbox call None l (after_post inbox (Some variable) s l go)) (leave false s Depth l)
      (asked inbox call None l (after_post inbox (Some variable) s l go) refl (λ number. (refl, refl, refl)) (posted inbox variable l go goes))
      (left_by s.role.duty false Depth l)

  send_asked : (inbox : ℕ) (handler value : List ℕ) (l : Local) (go : Go) → GoesOn go
      → AllFollowed (post_call inbox kinds.Send handler value None s l go)
  send_asked inbox handler value l go goes =
      let call : Call = calls.Post (message kinds.Send 0 (s.role.depth + 1) handler value s l) in
      either (nat_lt s.role.depth MOST_DEPTH) (asks inbox call None l (after_post inbox None s l go)) (leave false s Depth l)
      (asked inbox call None l (after_post inbox None s l go) refl tt (λ reply. goes l)) (left_by s.role.duty false Depth l)

  turns_good : (n : ℕ) (block : Local → Go → Tree) → BlockGood block → BlockGood (turns n block)
  turns_good zero block good l go goes = goes l
  turns_good (suc n) block good l go goes = good l (λ l. turns n block l go) (λ l. turns_good n block good l go goes)

  mutual
    step_good : (step : Step) → BlockGood (step_tree step s)
    step_good (program.Write store key value variable untracked) l go goes =
        let number : ℕ = store_number s.app store in
        keyed l (plain_name (key_text s l key)) (write_call number (text_of s l value) variable untracked l go)
        (λ k. write_asked number (text_of s l value) variable untracked l go k goes)
    step_good (program.Append variable) l go goes = carried_on (held_ids (held_in l.variables variable)) l go goes
    step_good (program.Remove variable) l go goes = goes (record l { carried = removed (held_in l.variables variable) l.carried })
    step_good (program.Transfer variable) l go goes = carried_on (held_ids (held_in l.variables variable)) l go goes
    step_good program.Barrier l go goes = looks_asked s.role.region false (planned s l) l go goes
    step_good program.DryRun l go goes = looks_asked s.role.region true (planned s l) l go goes
    step_good (program.Read store key variable) l go goes =
        let number : ℕ = store_number s.app store in
        keyed l (plain_name (key_text s l key)) (read_call number (calls.Read s.role.region) variable l go)
        (λ k. asked number (calls.Read s.role.region k) None l (after_read number variable l go) refl tt (shown number variable l go goes))
    step_good (program.Scan store prefix variable) l go goes =
        let number : ℕ = store_number s.app store in
        asked number (calls.Scan s.role.region prefix) None l (after_read number variable l go) refl tt (shown number variable l go goes)
    step_good (program.Poll store key variable) l go goes =
        let number : ℕ = store_number s.app store in
        keyed l (any_name (key_text s l key)) (read_call number (calls.Poll s.role.region) variable l go)
        (λ k. asked number (calls.Poll s.role.region k) None l (after_read number variable l go) refl tt (shown number variable l go goes))
    step_good (program.Call service handler value variable) l go goes =
        call_asked (inbox_of s.app service) handler (text_of s l value) variable l go goes
    step_good (program.Send service handler value) l go goes = send_asked (inbox_of s.app service) handler (text_of s l value) l go goes
    step_good (program.Reply value) l go goes = goes (record l { reply = text_of s l value })
    step_good program.Nack l go goes = left_by s.role.duty false Fine l
    step_good program.Root l go goes = goes (if l.stopped then record l { stopped = false } else new_span false l)
    step_good program.Stop l go goes = goes (new_span true l)
    step_good (program.Repeat count block) l go goes = turns_good count (block_tree block s) (block_good block) l go goes
    step_good (program.IfAbsent variable block) l go goes =
        either (is_absent (held_in l.variables variable)) (block_tree block s l go) (go l) (block_good block l go goes) (goes l)

    block_good : (block : Block) → BlockGood (block_tree block s)
    block_good program.End l go goes = goes l
    block_good (program.Then first rest) l go goes = step_good first l (λ l. block_tree rest s l go) (λ l. block_good rest l go goes)

body_followed : (body : Block) (s : Setting) (ids : List WriteId) → AllFollowed (begun body s (Some ids))
body_followed body s ids = block_good s body (record first_local { carried = ids }) (leave true s Fine) (left_by s s.role.duty true Fine)

process_followed : (app : App) (birth : Entry) → AllFollowed (tree_of app birth)
process_followed app birth =
    started_each AllFollowed app birth (λ end. tt) (λ task ids is has. body_followed (its_body app task) (setting_of app task) ids)

-- ---- entries

-- the entry f takes the reply to the call of this number that the entry e posted
pub record Hears (e : Entry) (number : ℕ) (f : Entry) : Type 0 where
  pub object : f.object ≡ e.object
  pub span : f.span ≡ e.span
  pub call : f.call ≡ calls.TakeReply number

hears_next : (tree : Tree) (inbox span number : ℕ) (f : Entry) (ys : List Entry) → HearsNext inbox span number tree → GoAlong tree (f ∷ ys)
    → (f.object ≡ inbox) × (f.span ≡ span) × (f.call ≡ calls.TakeReply number)
hears_next (Asks ask go) inbox span number f ys hears along = (along.0 ∙ hears.0, along.1 ∙ hears.1, along.2 ∙ hears.2)
hears_next (Ends end) inbox span number f ys hears along = absurd hears

none_next : (tree : Tree) (f : Entry) (ys : List Entry) → HasEnded tree → GoAlong tree (f ∷ ys) → ⊥
none_next (Asks ask go) f ys ended along = ended
none_next (Ends end) f ys ended along = along

-- what follows the post of a message of this kind
follows : (ask : Ask) (go : Reply → Tree) (e : Entry) (m : Message) (kind : MessageKind) → IsFollowed ask go → e.call ≡ ask.call
    → e.call ≡ calls.Post m → m.kind ≡ kind → FollowsPost kind ask.object ask.span go
follows ask go e m kind its same post is =
    subst (λ (k : MessageKind). FollowsPost k ask.object ask.span go) is
    (subst (λ (c : Call). Follows c ask.object ask.span go) (sym same ∙ post) its.post)

along_hears : (tree : Tree) (xs : List Entry) (e f : Entry) (ys : List Entry) (m : Message) (number : ℕ) → AllFollowed tree
    → GoAlong tree (xs ++ e ∷ f ∷ ys) → e.call ≡ calls.Post m → m.kind ≡ kinds.Call → e.reply ≡ replies.Posted number → Hears e number f
along_hears (Asks ask go) [] e f ys m number all along post kind reply =
    let next : (n : ℕ) → HearsNext ask.object ask.span n (go (replies.Posted n)) = follows ask go e m kinds.Call all.0 along.2 post kind in
    let its = hears_next (go e.reply) ask.object ask.span number f ys
    (subst (λ (r : Reply). HearsNext ask.object ask.span number (go r)) (sym reply) (next number)) along.3 in
    record { object = its.0 ∙ sym along.0; span = its.1 ∙ sym along.1; call = its.2 }
along_hears (Asks ask go) (x ∷ xs) e f ys m number all along post kind reply =
    along_hears (go x.reply) xs e f ys m number (all.1 x.reply) along.3 post kind reply
along_hears (Ends end) [] e f ys m number all along post kind reply = absurd along
along_hears (Ends end) (x ∷ xs) e f ys m number all along post kind reply = absurd along

along_ends : (tree : Tree) (xs : List Entry) (e f : Entry) (ys : List Entry) (m : Message) → AllFollowed tree
    → GoAlong tree (xs ++ e ∷ f ∷ ys) → e.call ≡ calls.Post m → m.kind ≡ kinds.Reply → ⊥
along_ends (Asks ask go) [] e f ys m all along post kind =
    let ended : (r : Reply) → HasEnded (go r) = follows ask go e m kinds.Reply all.0 along.2 post kind in
    none_next (go e.reply) f ys (ended e.reply) along.3
along_ends (Asks ask go) (x ∷ xs) e f ys m all along post kind = along_ends (go x.reply) xs e f ys m (all.1 x.reply) along.3 post kind
along_ends (Ends end) [] e f ys m all along post kind = absurd along
along_ends (Ends end) (x ∷ xs) e f ys m all along post kind = absurd along

along_acts : (tree : Tree) (xs : List Entry) (e : Entry) (ys : List Entry) → AllFollowed tree → GoAlong tree (xs ++ e ∷ ys)
    → bears e.call ≡ false
along_acts (Asks ask go) [] e ys all along = subst (λ (c : Call). bears c ≡ false) (sym along.2) all.0.acts
along_acts (Asks ask go) (x ∷ xs) e ys all along = along_acts (go x.reply) xs e ys (all.1 x.reply) along.3
along_acts (Ends end) [] e ys all along = absurd along
along_acts (Ends end) (x ∷ xs) e ys all along = absurd along

module _ (app : App) (birth : Entry) (later : List Entry) (e f : Entry) (rest : List Entry) where
  -- Of what a process did the entry behind the post of a call takes the reply to it.
  pub post_hears : (m : Message) (number : ℕ) → GoAlong (tree_of app birth) (later ++ e ∷ f ∷ rest) → e.call ≡ calls.Post m
      → m.kind ≡ kinds.Call → e.reply ≡ replies.Posted number → Hears e number f
  post_hears m number along = along_hears (tree_of app birth) later e f rest m number (process_followed app birth) along

  -- Behind the post of a reply there is none.
  pub reply_ends : (m : Message) → GoAlong (tree_of app birth) (later ++ e ∷ f ∷ rest) → e.call ≡ calls.Post m → m.kind ≡ kinds.Reply → ⊥
  reply_ends m along = along_ends (tree_of app birth) later e f rest m (process_followed app birth) along

-- Behind its birth nothing bears a process.
pub later_acts : (app : App) (birth : Entry) (later : List Entry) (e : Entry) (rest : List Entry)
    → GoAlong (tree_of app birth) (later ++ e ∷ rest) → bears e.call ≡ false
later_acts app birth later e rest along = along_acts (tree_of app birth) later e rest (process_followed app birth) along

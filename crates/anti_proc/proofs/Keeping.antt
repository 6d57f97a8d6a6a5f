-- What all calls of a process keep, whatever they are answered.
use Rattle.std.proofs.Common.{◌≡◌, ℕ, zero, suc, ◌+◌, ◌≤◌, Bool, true, false, cond, List, [], ◌∷◌, length, IfSome, refl, sym, ◌∙◌, subst, arith}
use Rattle.std.specs.Prelude.{Option, Some, None, nat_le, nat_lt, unwrap_or, ◌++◌, ◌&&◌, ◌==◌, if◌then◌else◌}
use Rattle.std.specs.Bool.{then_some}
use Rattle.std.specs.List.{list_all}
use Rattle.std.specs.Option.{option_map_or}
use Rattle.std.specs.Str.{bytes_eq}
use Rattle.std.proofs.lemmas.Bool.{and_parts, and_from, leb-true, le-leb, or_left}
use Rattle.std.proofs.lemmas.Bool.Decides.{nat_tests}
use Rattle.anti_ids.specs.Each.{Each}
use Rattle.anti_ids.specs.Ids.{ids_of, with_ids, without_id}
use Rattle.anti_ids.specs.List.{Listed}
use Rattle.anti_ids.specs.Names.{is_name, is_name_byte, is_plain, is_plain_byte}
use Rattle.anti_ids.specs.declared.id.WriteId.{WriteId}
use Rattle.anti_ids.specs.declared.limits.TheConstants.{LONGEST_NAME, LONGEST_PLAIN_NAME, MOST_DEPTH, MOST_IDS}
use Rattle.anti_kind.specs.declared.call.Call.{Call}
use Rattle.anti_kind.specs.declared.call.Call.TheVariants as calls
use Rattle.anti_kind.specs.declared.call.Reply.{Reply}
use Rattle.anti_kind.specs.declared.call.Reply.TheVariants as replies
use Rattle.anti_kind.specs.declared.message.MessageKind.{MessageKind}
use Rattle.anti_kind.specs.declared.message.MessageKind.TheVariants as kinds
use Rattle.anti_kind.specs.declared.row.Row.{Row}
use Rattle.anti_lang.specs.Program as program
use Rattle.anti_lang.specs.Program.{Step, Block}
use Rattle.anti_lang.specs.Texts.{plain_name}
use Rattle.anti_baggage.specs.Texts.{lineage_text}
use Rattle.anti_app.specs.declared.app.App.{App}
use Rattle.anti_shim.specs.Plans.{plan, with_look}
use Rattle.anti_shim.specs.declared.looks.PlannedLook.{PlannedLook}
use Rattle.anti_proc.specs.declared.task.Duty.{Duty}
use Rattle.anti_proc.specs.declared.task.Duty.TheVariants as duties
use Rattle.anti_proc.specs.declared.variables.Binding.{Binding}
use Rattle.anti_proc.specs.declared.variables.Binding.TheVariants.{Wrote, Saw, Heard}
use Rattle.anti_proc.specs.declared.variables.Variable.{Variable}
use Rattle.anti_proc.specs.declared.end.BodyEnd.{BodyEnd}
use Rattle.anti_proc.specs.declared.end.BodyEnd.TheVariants.{BadKey, Depth, Fine, LineageFull}
use Rattle.anti_proc.specs.Came.{came}
use Rattle.anti_proc.specs.Calls.{LooksWhereItMay}
use Rattle.anti_proc.specs.Local.{Setting, Local, any_name, first_local, held_ids, held_in, id_at, is_absent, key_text, new_span, removed, rows_ids, set, text_of, with_held}
use Rattle.anti_proc.specs.Meaning.{Go, after_post, after_read, after_reply, after_write, asks, begun, block_tree, carry, leave, leave_by, looks, message, planned, post_call, read_call, stated_in, step_tree, turns, with_key, write_call}
use Rattle.anti_app.specs.Objects.{inbox_of, is_store_here, store_names, store_number, stores_here}
use Rattle.anti_proc.specs.Trees.{Tree, Ask, Asks, Ends}
use Rattle.anti_proc.proofs.Plans.{IsLookAt, among_here, looks_are_at}

-- ---- how a call comes about

-- by what is known of the stores that a body names, and of the inboxes and the handlers
module _ (app : App) (Store : ℕ → Type 0) (Inbox : ℕ → List ℕ → Type 0) where
  -- it is known of each that the body names
  abbrev mutual
    pub StepFits : Step → Type 0
    StepFits (program.Write store key value variable untracked) = Store (store_number app store)
    StepFits (program.Read store key variable) = Store (store_number app store)
    StepFits (program.Scan store prefix variable) = Store (store_number app store)
    StepFits (program.Poll store key variable) = Store (store_number app store)
    StepFits (program.Call service handler value variable) = Inbox (inbox_of app service) handler
    StepFits (program.Send service handler value) = Inbox (inbox_of app service) handler
    StepFits (program.Repeat count block) = BlockFits block
    StepFits (program.IfAbsent variable block) = BlockFits block
    StepFits _ = Unit {0}

    pub BlockFits : Block → Type 0
    BlockFits program.End = Unit {0}
    BlockFits (program.Then first rest) = StepFits first × BlockFits rest

  -- so it is of what is owed at the end
  abbrev pub DutyFits : Duty → Type 0
  DutyFits duties.Free = Unit {0}
  DutyFits (duties.Answers inbox number handler) = Inbox inbox handler
  DutyFits (duties.Works store version) = Store store

  -- A call that a process makes while it carries these ids. What it writes has a name for its key, and it writes, posts and looks for what it
  -- carries.
  abbrev pub IsMade : ℕ → List WriteId → Call → Type 0
  IsMade o carried (calls.Write key value lineage) = Store o × (is_name key ≡ true) × (lineage ≡ carried)
  IsMade o carried (calls.Read region key) = Store o
  IsMade o carried (calls.Scan region prefix) = Store o
  IsMade o carried (calls.Poll region key) = Store o
  IsMade o carried (calls.Ack version) = Store o
  IsMade o carried (calls.Nack version) = Store o
  IsMade o carried (calls.Look region ids dry) = LooksWhereItMay app o (calls.Look region ids dry) × (ids ≡ ids_of o carried)
  IsMade o carried (calls.Post m) = Inbox o m.handler × (m.depth ≤ MOST_DEPTH) × (m.baggage.items ≡ lineage_text (store_names app) carried)
  IsMade o carried (calls.TakeReply number) = (handler : List ℕ) × Inbox o handler
  IsMade o carried call = ⊥

  -- what is known of all names is known of those in a body
  module _ (stores : (name : List ℕ) → Store (store_number app name)) (inboxes : (service handler : List ℕ) → Inbox (inbox_of app service) handler) where
    mutual
      step_fits : (step : Step) → StepFits step
      step_fits (program.Write store key value variable untracked) = stores store
      step_fits (program.Read store key variable) = stores store
      step_fits (program.Scan store prefix variable) = stores store
      step_fits (program.Poll store key variable) = stores store
      step_fits (program.Call service handler value variable) = inboxes service handler
      step_fits (program.Send service handler value) = inboxes service handler
      step_fits (program.Repeat count block) = block_fits block
      step_fits (program.IfAbsent variable block) = block_fits block
      step_fits _ = tt

      pub block_fits : (block : Block) → BlockFits block
      block_fits program.End = tt
      block_fits (program.Then first rest) = (step_fits first, block_fits rest)

-- A law of what processes carry, by what is known of the ids that came so far (H): what may be carried in a span, and what may be held, where
-- the replies of objects are fair.
pub record Keeps (app : App) (H : Type 0) (Carries Brings : H → ℕ → List WriteId → Type 0) (more : H → Ask → Reply → H) (Fair : ℕ → Reply → Type 0) : Type 0 where
  pub none_carried : (h : H) (n : ℕ) → Carries h n []
  pub none_brought : (h : H) (n : ℕ) → Brings h n []
  pub added : (h : H) (n : ℕ) (further ids : List WriteId) → Brings h n further → Carries h n ids → length (with_ids further ids) ≤ MOST_IDS → Carries h n (with_ids further ids)
  pub taken_out : (h : H) (n : ℕ) (i : WriteId) (ids : List WriteId) → Carries h n ids → Carries h n (without_id i ids)
  pub carried_on : (h : H) (ask : Ask) (r : Reply) (n : ℕ) (ids : List WriteId) → Carries h n ids → Carries (more h ask r) n ids
  pub brought_on : (h : H) (ask : Ask) (r : Reply) (n : ℕ) (ids : List WriteId) → Brings h n ids → Brings (more h ask r) n ids
  pub comes : (h : H) (ask : Ask) (r : Reply) → Fair ask.object r → Brings (more h ask r) ask.span (came app ask.object ask.call r)
  pub with_carried : (h : H) (n : ℕ) (ids carried : List WriteId) → Brings h n (ids ++ []) → Carries h n carried → Brings h n (ids ++ carried)

-- where nothing need be known, and any reply is fair
abbrev pub nothing_more : Unit {0} → Ask → Reply → Unit {0}
nothing_more h ask r = tt

abbrev pub AnyReply : ℕ → Reply → Type 0
AnyReply o r = Unit {0}

abbrev pub AnyStore : ℕ → Type 0
AnyStore o = Unit {0}

abbrev pub AnyInbox : ℕ → List ℕ → Type 0
AnyInbox o handler = Unit {0}

-- then any body fits
pub any_fits : (app : App) (block : Block) → BlockFits app AnyStore AnyInbox block
any_fits app block = block_fits app AnyStore AnyInbox (λ name. tt) (λ service handler. tt) block

pub any_duty : (app : App) (duty : Duty) → DutyFits app AnyStore AnyInbox duty
any_duty app duties.Free = tt
any_duty app (duties.Answers inbox number handler) = tt
any_duty app (duties.Works store version) = tt

module _ (app : App) (Store : ℕ → Type 0) (Inbox : ℕ → List ℕ → Type 0) (H : Type 0) (Carries : H → ℕ → List WriteId → Type 0) (more : H → Ask → Reply → H)
    (Fair : ℕ → Reply → Type 0) where
  -- each call comes about so, and carries what may be carried
  abbrev pub Good : H → Tree → Type 0
  Good h (Asks ask go) =
      ((1 ≤ ask.span) × IsMade app Store Inbox ask.object ask.carried ask.call × Carries h ask.span ask.carried)
      × ((r : Reply) → Fair ask.object r → Good (more h ask r) (go r))
  Good h (Ends end) = Unit {0}

-- ---- keys

name_bytes : (bytes : List ℕ) → list_all is_plain_byte bytes ≡ true → list_all is_name_byte bytes ≡ true
name_bytes [] plain = refl
name_bytes (b ∷ bs) plain =
    let parts = and_parts (is_plain_byte b) (list_all is_plain_byte bs) plain in
    and_from (is_name_byte b) (list_all is_name_byte bs) (or_left (is_plain_byte b) (b == 35) parts.0) (name_bytes bs parts.1)

-- a plain name is a name
pub plain_is_name : (text : List ℕ) → is_plain text ≡ true → is_name text ≡ true
plain_is_name text plain =
    let one = and_parts (nat_lt 0 (length text)) (nat_le (length text) LONGEST_PLAIN_NAME && list_all is_plain_byte text) plain in
    let two = and_parts (nat_le (length text) LONGEST_PLAIN_NAME) (list_all is_plain_byte text) one.1 in
    let short : length text ≤ LONGEST_PLAIN_NAME = leb-true (length text) LONGEST_PLAIN_NAME two.0 in
    and_from (nat_lt 0 (length text)) (nat_le (length text) LONGEST_NAME && list_all is_name_byte text) one.0
    (and_from (nat_le (length text) LONGEST_NAME) (list_all is_name_byte text) (le-leb (length text) LONGEST_NAME (omega arith)) (name_bytes text two.1))

abbrev IsNamed : List ℕ → Type 0
IsNamed key = is_name key ≡ true

named_if : (plain : Bool) (text : List ℕ) → plain ≡ is_plain text → IfSome (then_some plain text) IsNamed
named_if true text plain = plain_is_name text (sym plain)
named_if false text plain = tt

-- a key of a write is a name
key_named : (text : List ℕ) → IfSome (plain_name text) IsNamed
key_named text = named_if (is_plain text) text refl

-- ---- the ids of the looks

abbrev pub ItsIds : List WriteId → PlannedLook → Type 0
ItsIds lineage look = look.ids ≡ ids_of look.store lineage

its_ids_with : (lineage : List WriteId) (store : ℕ) (ids : List WriteId) (further : List PlannedLook) → ids ≡ ids_of store lineage → Each (ItsIds lineage) further
    → Each (ItsIds lineage) (with_look store ids further)
its_ids_with lineage store [] further its each = each
its_ids_with lineage store (i ∷ is) further its each = (its, each)

-- each look asks for the ids of its store in the lineage
pub looks_for_its_ids : (stores : List ℕ) (lineage : List WriteId) → Each (ItsIds lineage) (plan stores lineage)
looks_for_its_ids [] lineage = tt
looks_for_its_ids (store ∷ stores) lineage = its_ids_with lineage store (ids_of store lineage) (plan stores lineage) refl (looks_for_its_ids stores lineage)

-- ---- a process

module _ (s : Setting) (Store : ℕ → Type 0) (Inbox : ℕ → List ℕ → Type 0) (H : Type 0) (Carries Brings : H → ℕ → List WriteId → Type 0) (more : H → Ask → Reply → H)
    (Fair : ℕ → Reply → Type 0) where
  abbrev pub IsGood : H → Tree → Type 0
  IsGood h tree = Good s.app Store Inbox H Carries more Fair h tree

  abbrev AllBring : H → ℕ → List Variable → Type 0
  AllBring h n vs = Each (λ v. Brings h n (held_ids (Some v.held))) vs

  abbrev Sound : H → Local → Type 0
  Sound h l = (1 ≤ l.span) × Carries h l.span l.carried × AllBring h l.span l.variables

  abbrev GoesOn : Go → Type 0
  GoesOn go = (h : H) (l : Local) → Sound h l → IsGood h (go l)

  abbrev BlockGood : (Local → Go → Tree) → Type 0
  BlockGood block = (h : H) (l : Local) (go : Go) → Sound h l → GoesOn go → IsGood h (block l go)

  module _ (keeps : Keeps s.app H Carries Brings more Fair) where
    -- ---- variables

    set_or_more : (here : Bool) (h : H) (n : ℕ) (v w : Variable) (vs further : List Variable) → Brings h n (held_ids (Some w.held)) → AllBring h n (v ∷ vs) → AllBring h n further
        → AllBring h n (cond here (w ∷ vs) (v ∷ further))
    set_or_more true h n v w vs further new all others = (new, all.1)
    set_or_more false h n v w vs further new all others = (all.0, others)

    with_held_brings : (h : H) (n : ℕ) (name : List ℕ) (held : Binding) (vs : List Variable) → Brings h n (held_ids (Some held)) → AllBring h n vs → AllBring h n (with_held name held vs)
    with_held_brings h n name held [] new all = (new, tt)
    with_held_brings h n name held (v ∷ vs) new all =
        set_or_more (bytes_eq v.name name) h n v (record { name = name; held = held }) vs (with_held name held vs) new all (with_held_brings h n name held vs new all.1)

    here_or : (here : Bool) (h : H) (n : ℕ) (held : Binding) (other : Option Binding) → Brings h n (held_ids (Some held)) → Brings h n (held_ids other) → Brings h n (held_ids (cond here (Some held) other))
    here_or true h n held other this that = this
    here_or false h n held other this that = that

    held_brings : (h : H) (n : ℕ) (vs : List Variable) (name : List ℕ) → AllBring h n vs → Brings h n (held_ids (held_in vs name))
    held_brings h n [] name all = keeps.none_brought h n
    held_brings h n (v ∷ vs) name all = here_or (bytes_eq v.name name) h n v.held (held_in vs name) all.0 (held_brings h n vs name all.1)

    all_on : (h : H) (ask : Ask) (r : Reply) (n : ℕ) (vs : List Variable) → AllBring h n vs → AllBring (more h ask r) n vs
    all_on h ask r n [] all = tt
    all_on h ask r n (v ∷ vs) all = (keeps.brought_on h ask r n (held_ids (Some v.held)) all.0, all_on h ask r n vs all.1)

    -- ---- what is known stays sound

    sound_on : (h : H) (ask : Ask) (r : Reply) (l : Local) → Sound h l → Sound (more h ask r) l
    sound_on h ask r l sound = (sound.0, keeps.carried_on h ask r l.span l.carried sound.1, all_on h ask r l.span l.variables sound.2)

    sound_set : (h : H) (x : List ℕ) (held : Binding) (l : Local) → Brings h l.span (held_ids (Some held)) → Sound h l → Sound h (set x held l)
    sound_set h x held l new sound = (sound.0, sound.1, with_held_brings h l.span x held l.variables new sound.2)

    -- the same, where there may be no variable to set
    sound_set_or : (h : H) (x : Option (List ℕ)) (held : Binding) (l : Local) → Brings h l.span (held_ids (Some held)) → Sound h l
        → Sound h (option_map_or (λ name. set name held l) x l)
    sound_set_or h None held l new sound = sound
    sound_set_or h (Some x) held l new sound = sound_set h x held l new sound

    fresh : (h : H) (stopped : Bool) (l : Local) → Sound h (new_span stopped l)
    fresh h stopped l = (omega arith, keeps.none_carried h (l.span + 1), tt)

    sound_rooted : (h : H) (stopped : Bool) (l : Local) → Sound h l → Sound h (if stopped then record l { stopped = false } else new_span false l)
    sound_rooted h true l sound = sound
    sound_rooted h false l sound = fresh h false l

    sound_removed : (h : H) (held : Option Binding) (l : Local) → Sound h l → Sound h (record l { carried = removed held l.carried })
    sound_removed h (Some (Wrote id kept)) l sound = (sound.0, keeps.taken_out h l.span id l.carried sound.1, sound.2)
    sound_removed h (Some (Saw store rows)) l sound = sound
    sound_removed h (Some (Heard value)) l sound = sound
    sound_removed h None l sound = sound

    abbrev ask_at : ℕ → Call → Local → Ask
    ask_at object call l = record { object = object; span = l.span; call = call; carried = l.carried; left = None }

    -- ---- the lineage

    full_or : (full : Bool) (h : H) (l : Local) (go : Go) (ids : List WriteId) → full ≡ nat_lt MOST_IDS (length ids) → (length ids ≤ MOST_IDS → Carries h l.span ids)
        → Sound h l → GoesOn go → IsGood h (cond full (Ends LineageFull) (go (record l { carried = ids })))
    full_or true h l go ids full carries sound goes = tt
    full_or false h l go ids full carries sound goes =
        let short : length ids ≤ MOST_IDS = grind (arith, nat_tests) in
        goes h (record l { carried = ids }) (sound.0, carries short, sound.2)

    carry_good : (h : H) (further : List WriteId) (l : Local) (go : Go) → Brings h l.span further → Sound h l → GoesOn go → IsGood h (carry further l go)
    carry_good h further l go brings sound goes =
        let all : List WriteId = with_ids further l.carried in
        full_or (nat_lt MOST_IDS (length all)) h l go all refl (λ short. keeps.added h l.span further l.carried brings sound.1 short) sound goes

    -- ---- writes

    wrote_good : (untracked : Bool) (h : H) (ids : List WriteId) (l : Local) (go : Go) → Brings h l.span ids → Sound h l → GoesOn go
        → IsGood h (if untracked then go l else carry ids l go)
    wrote_good true h ids l go brings sound goes = goes h l sound
    wrote_good false h ids l go brings sound goes = carry_good h ids l go brings sound goes

    set_or_brings : (h : H) (x : Option (List ℕ)) (held : Binding) (l : Local) (ids : List WriteId) → Brings h l.span ids
        → Brings h (option_map_or (λ name. set name held l) x l).span ids
    set_or_brings h None held l ids brings = brings
    set_or_brings h (Some x) held l ids brings = brings

    -- what a variable holds of a write: where nothing is told of what is kept, that is what was carried
    holds_write : (h : H) (n : ℕ) (ids carried : List WriteId) (over : Option (List WriteId)) → Brings h n (ids ++ unwrap_or over []) → Carries h n carried → Brings h n (ids ++ unwrap_or over carried)
    holds_write h n ids carried None brings carries = keeps.with_carried h n ids carried brings carries
    holds_write h n ids carried (Some kept) brings carries = brings

    write_replied : (h : H) (store : ℕ) (key value : List ℕ) (x : Option (List ℕ)) (untracked : Bool) (l : Local) (go : Go) → Sound h l → GoesOn go
        → (r : Reply) → Fair store r → IsGood (more h (ask_at store (calls.Write key value l.carried) l) r) (after_write store x untracked l go r)
    write_replied h store key value x untracked l go sound goes (replies.Written written version over) fair =
        let ask : Ask = ask_at store (calls.Write key value l.carried) l in
        let r : Reply = replies.Written written version over in
        let held : Binding = Wrote (record { store = store; key = written; version = version }) (unwrap_or over l.carried) in
        let ids : List WriteId = id_at store written version in
        let brings : Brings (more h ask r) l.span (ids ++ unwrap_or over []) = keeps.comes h ask r fair in
        let holds : Brings (more h ask r) l.span (ids ++ unwrap_or over l.carried) =
        holds_write (more h ask r) l.span ids l.carried over brings (keeps.carried_on h ask r l.span l.carried sound.1) in
        wrote_good untracked (more h ask r) (ids ++ unwrap_or over []) (option_map_or (λ name. set name held l) x l) go
        (set_or_brings (more h ask r) x held l (ids ++ unwrap_or over []) brings)
        (sound_set_or (more h ask r) x held l holds (sound_on h ask r l sound)) goes
    write_replied h store key value x untracked l go sound goes r fair =
        goes (more h (ask_at store (calls.Write key value l.carried) l) r) l (sound_on h (ask_at store (calls.Write key value l.carried) l) r l sound)

    write_good : (h : H) (store : ℕ) (value : List ℕ) (x : Option (List ℕ)) (untracked : Bool) (l : Local) (go : Go) (key : List ℕ) → Store store → is_name key ≡ true
        → Sound h l → GoesOn go → IsGood h (write_call store value x untracked l go key)
    write_good h store value x untracked l go key known named sound goes =
        ((sound.0, (known, named, refl), sound.1), write_replied h store key value x untracked l go sound goes)

    -- ---- reads

    -- a call that is answered by rows
    record IsRead (call : Call) : Type 0 where
      made : (o : ℕ) (carried : List WriteId) → Store o → IsMade s.app Store Inbox o carried call
      rows : (store : ℕ) (rows : Listed Row) → came s.app store call (replies.Shown rows) ≡ rows_ids store rows.items

    read_replied : (h : H) (store : ℕ) (call : Call) (x : List ℕ) (l : Local) (go : Go) → IsRead call → Sound h l → GoesOn go
        → (r : Reply) → Fair store r → IsGood (more h (ask_at store call l) r) (after_read store x l go r)
    read_replied h store call x l go read sound goes (replies.Shown rows) fair =
        let r : Reply = replies.Shown rows in
        let ask : Ask = ask_at store call l in
        goes (more h ask r) (set x (Saw store rows) l)
        (sound_set (more h ask r) x (Saw store rows) l
        (subst (λ (ids : List WriteId). Brings (more h ask r) l.span ids) (read.rows store rows) (keeps.comes h ask r fair)) (sound_on h ask r l sound))
    read_replied h store call x l go read sound goes r fair = goes (more h (ask_at store call l) r) l (sound_on h (ask_at store call l) r l sound)

    read_good : (h : H) (store : ℕ) (call : List ℕ → Call) (x : List ℕ) (l : Local) (go : Go) (key : List ℕ) → IsRead (call key) → Store store → Sound h l → GoesOn go
        → IsGood h (read_call store call x l go key)
    read_good h store call x l go key read known sound goes =
        ((sound.0, read.made store l.carried known, sound.1), read_replied h store (call key) x l go read sound goes)

    reads : (region : ℕ) (key : List ℕ) → IsRead (calls.Read region key)
    reads region key = record { made = λ o carried known. known; rows = λ store rows. refl }

    scans : (region : ℕ) (key : List ℕ) → IsRead (calls.Scan region key)
    scans region key = record { made = λ o carried known. known; rows = λ store rows. refl }

    polls : (region : ℕ) (key : List ℕ) → IsRead (calls.Poll region key)
    polls region key = record { made = λ o carried known. known; rows = λ store rows. refl }

    -- ---- barriers

    looks_good : (h : H) (region : ℕ) (dry : Bool) (further : List PlannedLook) (l : Local) (go : Go) → Each (IsLookAt (stores_here s.app region)) further
        → Each (ItsIds l.carried) further → Sound h l → GoesOn go → IsGood h (looks region dry further l go)
    looks_good h region dry [] l go each its sound goes = goes h l sound
    looks_good h region dry (look ∷ later) l go each its sound goes =
        let ask : Ask =
        record { object = look.store; span = l.span; call = calls.Look region look.ids dry; carried = l.carried; left = Some later } in
        let here : is_store_here s.app region look.store ≡ true =
        sym (among_here region 0 look.store look.store s.app.stores.items (omega arith)) ∙ each.0.among in (
          (sound.0, ((here, each.0.its_own), its.0), sound.1),
          λ r fair. looks_good (more h ask r) region dry later l go each.1 its.1 (sound_on h ask r l sound) goes,
        )

    -- ---- statements and blocks

    either : (first : Bool) (h : H) (one other : Tree) → IsGood h one → IsGood h other → IsGood h (cond first one other)
    either true h one other this that = this
    either false h one other this that = that

    turns_good : (n : ℕ) (block : Local → Go → Tree) → BlockGood block → BlockGood (turns n block)
    turns_good zero block good h l go sound goes = goes h l sound
    turns_good (suc n) block good h l go sound goes = good h l (λ l. turns n block l go) sound (λ h l sound. turns_good n block good h l go sound goes)

    -- ---- the end

    worked : (good : Bool) (store version : ℕ) (carried : List WriteId) → Store store
        → IsMade s.app Store Inbox store carried (if good then calls.Ack version else calls.Nack version)
    worked true store version carried known = known
    worked false store version carried known = known

    left_by : (duty : Duty) (good : Bool) (h : H) (end : BodyEnd) (l : Local) → DutyFits s.app Store Inbox duty → Sound h l
        → IsGood h (leave_by duty good s end l)
    left_by duties.Free good h end l own sound = tt
    left_by (duties.Answers inbox number handler) good h end l own sound = ((sound.0, (own, omega arith, refl), sound.1), λ r fair. tt)
    left_by (duties.Works store version) good h end l own sound = ((sound.0, worked good store version l.carried own, sound.1), λ r fair. tt)

    module _ (own : DutyFits s.app Store Inbox s.role.duty) where
      leave_good : (good : Bool) (h : H) (end : BodyEnd) (l : Local) → Sound h l → IsGood h (leave good s end l)
      leave_good good h end l sound = left_by s.role.duty good h end l own sound

      key_good : (h : H) (l : Local) (key : Option (List ℕ)) (go : List ℕ → Tree) → Sound h l → ((k : List ℕ) → IsGood h (go k)) → IsGood h (with_key key go s l)
      key_good h l None go sound goes = leave_good false h BadKey l sound
      key_good h l (Some k) go sound goes = goes k

      named_good : (h : H) (l : Local) (key : Option (List ℕ)) (go : List ℕ → Tree) → IfSome key IsNamed → Sound h l → ((k : List ℕ) → IsNamed k → IsGood h (go k))
          → IsGood h (with_key key go s l)
      named_good h l None go named sound goes = leave_good false h BadKey l sound
      named_good h l (Some k) go named sound goes = goes k named

      -- ---- messages

      reply_heard : (h : H) (inbox number : ℕ) (x : List ℕ) (l : Local) (go : Go) → Sound h l → GoesOn go
          → (r : Reply) → Fair inbox r → IsGood (more h (ask_at inbox (calls.TakeReply number) l) r) (after_reply s x l go r)
      reply_heard h inbox number x l go sound goes (replies.Got got m) fair =
          let r : Reply = replies.Got got m in
          let ask : Ask = ask_at inbox (calls.TakeReply number) l in
          carry_good (more h ask r) (stated_in s.app m) (set x (Heard m.value) l) go (keeps.comes h ask r fair)
          (sound_set (more h ask r) x (Heard m.value) l (keeps.none_brought (more h ask r) l.span) (sound_on h ask r l sound)) goes
      reply_heard h inbox number x l go sound goes r fair =
          goes (more h (ask_at inbox (calls.TakeReply number) l) r) l (sound_on h (ask_at inbox (calls.TakeReply number) l) r l sound)

      hear_good : (h : H) (inbox number : ℕ) (handler x : List ℕ) (l : Local) (go : Go) → Inbox inbox handler → Sound h l → GoesOn go → IsGood h (asks inbox (calls.TakeReply number) None l (after_reply s x l go))
      hear_good h inbox number handler x l go known sound goes = ((sound.0, (handler, known), sound.1), reply_heard h inbox number x l go sound goes)

      was_posted : (h : H) (inbox : ℕ) (handler : List ℕ) (x : Option (List ℕ)) (call : Call) (l : Local) (go : Go) → Inbox inbox handler → Sound h l → GoesOn go
          → (r : Reply) → IsGood (more h (ask_at inbox call l) r) (after_post inbox x s l go r)
      was_posted h inbox handler (Some x) call l go known sound goes (replies.Posted number) =
          let r : Reply = replies.Posted number in
          hear_good (more h (ask_at inbox call l) r) inbox number handler x l go known (sound_on h (ask_at inbox call l) r l sound) goes
      was_posted h inbox handler (Some x) call l go known sound goes r = goes (more h (ask_at inbox call l) r) l (sound_on h (ask_at inbox call l) r l sound)
      was_posted h inbox handler None call l go known sound goes r = goes (more h (ask_at inbox call l) r) l (sound_on h (ask_at inbox call l) r l sound)

      deep_or : (deep : Bool) (h : H) (tree : Tree) (l : Local) → deep ≡ nat_lt s.role.depth MOST_DEPTH → (s.role.depth + 1 ≤ MOST_DEPTH → IsGood h tree)
          → Sound h l → IsGood h (cond deep tree (leave false s Depth l))
      deep_or true h tree l deep good sound = let less : s.role.depth + 1 ≤ MOST_DEPTH = grind (arith, nat_tests) in good less
      deep_or false h tree l deep good sound = leave_good false h Depth l sound

      post_good : (h : H) (inbox : ℕ) (kind : MessageKind) (handler value : List ℕ) (x : Option (List ℕ)) (l : Local) (go : Go) → Inbox inbox handler
          → Sound h l → GoesOn go → IsGood h (post_call inbox kind handler value x s l go)
      post_good h inbox kind handler value x l go known sound goes =
          let call : Call = calls.Post (message kind 0 (s.role.depth + 1) handler value s l) in
          deep_or (nat_lt s.role.depth MOST_DEPTH) h (asks inbox call None l (after_post inbox x s l go)) l refl
          (λ deep. ((sound.0, (known, deep, refl), sound.1), λ r fair. was_posted h inbox handler x call l go known sound goes r)) sound

      mutual
        step_good : (step : Step) → StepFits s.app Store Inbox step → BlockGood (step_tree step s)
        step_good (program.Write store key value variable untracked) fits h l go sound goes =
            let number : ℕ = store_number s.app store in
            named_good h l (plain_name (key_text s l key)) (write_call number (text_of s l value) variable untracked l go) (key_named (key_text s l key)) sound
            (λ k named. write_good h number (text_of s l value) variable untracked l go k fits named sound goes)
        step_good (program.Append variable) fits h l go sound goes =
            carry_good h (held_ids (held_in l.variables variable)) l go (held_brings h l.span l.variables variable sound.2) sound goes
        step_good (program.Remove variable) fits h l go sound goes =
            goes h (record l { carried = removed (held_in l.variables variable) l.carried }) (sound_removed h (held_in l.variables variable) l sound)
        step_good (program.Transfer variable) fits h l go sound goes =
            carry_good h (held_ids (held_in l.variables variable)) l go (held_brings h l.span l.variables variable sound.2) sound goes
        step_good program.Barrier fits h l go sound goes =
            looks_good h s.role.region false (planned s l) l go (looks_are_at (stores_here s.app s.role.region) l.carried)
            (looks_for_its_ids (stores_here s.app s.role.region) l.carried) sound goes
        step_good program.DryRun fits h l go sound goes =
            looks_good h s.role.region true (planned s l) l go (looks_are_at (stores_here s.app s.role.region) l.carried)
            (looks_for_its_ids (stores_here s.app s.role.region) l.carried) sound goes
        step_good (program.Read store key variable) fits h l go sound goes =
            let number : ℕ = store_number s.app store in
            key_good h l (plain_name (key_text s l key)) (read_call number (calls.Read s.role.region) variable l go) sound
            (λ k. read_good h number (calls.Read s.role.region) variable l go k (reads s.role.region k) fits sound goes)
        step_good (program.Scan store prefix variable) fits h l go sound goes =
            read_good h (store_number s.app store) (calls.Scan s.role.region) variable l go prefix (scans s.role.region prefix) fits sound goes
        step_good (program.Poll store key variable) fits h l go sound goes =
            let number : ℕ = store_number s.app store in
            key_good h l (any_name (key_text s l key)) (read_call number (calls.Poll s.role.region) variable l go) sound
            (λ k. read_good h number (calls.Poll s.role.region) variable l go k (polls s.role.region k) fits sound goes)
        step_good (program.Call service handler value variable) fits h l go sound goes =
            post_good h (inbox_of s.app service) kinds.Call handler (text_of s l value) (Some variable) l go fits sound goes
        step_good (program.Send service handler value) fits h l go sound goes =
            post_good h (inbox_of s.app service) kinds.Send handler (text_of s l value) None l go fits sound goes
        step_good (program.Reply value) fits h l go sound goes = goes h (record l { reply = text_of s l value }) sound
        step_good program.Nack fits h l go sound goes = leave_good false h Fine l sound
        step_good program.Root fits h l go sound goes =
            goes h (if l.stopped then record l { stopped = false } else new_span false l) (sound_rooted h l.stopped l sound)
        step_good program.Stop fits h l go sound goes = goes h (new_span true l) (fresh h true l)
        step_good (program.Repeat count block) fits h l go sound goes = turns_good count (block_tree block s) (block_good block fits) h l go sound goes
        step_good (program.IfAbsent variable block) fits h l go sound goes =
            either (is_absent (held_in l.variables variable)) h (block_tree block s l go) (go l) (block_good block fits h l go sound goes) (goes h l sound)

        block_good : (block : Block) → BlockFits s.app Store Inbox block → BlockGood (block_tree block s)
        block_good program.End fits h l go sound goes = goes h l sound
        block_good (program.Then first rest) fits h l go sound goes =
            step_good first fits.0 h l (λ l. block_tree rest s l go) sound (λ h l sound. block_good rest fits.1 h l go sound goes)

      -- a process that begins with ids that may be carried
      pub begun_good : (body : Block) → BlockFits s.app Store Inbox body → (ids : List WriteId) (h : H) → Carries h 1 ids → IsGood h (begun body s (Some ids))
      begun_good body fits ids h carries =
          block_good body fits h (record first_local { carried = ids }) (leave true s Fine) (omega arith, carries, tt)
          (λ h l sound. leave_good true h Fine l sound)

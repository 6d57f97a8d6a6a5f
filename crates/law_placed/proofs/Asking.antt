-- The calls of a process where no line fails: each carries what it must, and what it is answered is kept.
use Rattle.std.proofs.Common.{◌≡◌, ℕ, ◌⊎◌, Bool, true, false, cond, List, [], ◌∷◌, ◌++◌, refl, sym, ap, ◌∙◌, subst, inl, inr, length, nat_lt}
use Rattle.std.specs.Prelude.{Option, Some, None, unwrap_or}
use Rattle.std.proofs.lemmas.Bool.{or_cases, or_left, or_right}
use Rattle.std.proofs.lemmas.Slice.Eq.{bytes_eq-Decides}
use Rattle.anti_ids.specs.Ids.{has_id, with_ids}
use Rattle.anti_ids.specs.declared.id.WriteId.{WriteId}
use Rattle.anti_ids.specs.declared.limits.TheConstants.{MOST_IDS}
use Rattle.anti_ids.proofs.IdLemmas.{has_id-with_ids}
use Rattle.anti_kind.specs.declared.call.Call.{Call}
use Rattle.anti_kind.specs.declared.call.Call.TheVariants as calls
use Rattle.anti_kind.specs.declared.call.Reply.{Reply}
use Rattle.anti_kind.specs.declared.call.Reply.TheVariants as replies
use Rattle.anti_kind.specs.declared.message.Message.{Message}
use Rattle.anti_app.specs.Objects.{is_store_here}
use Rattle.anti_shim.specs.declared.looks.PlannedLook.{PlannedLook}
use Rattle.anti_place.specs.declared.doubt.Doubt.TheVariants as doubts
use Rattle.anti_proc.specs.declared.end.BodyEnd.{BodyEnd}
use Rattle.anti_proc.specs.declared.end.BodyEnd.TheVariants.{BadKey, Depth, LineageFull}
use Rattle.anti_proc.specs.declared.task.Duty.{Duty}
use Rattle.anti_proc.specs.declared.task.Duty.TheVariants as duties
use Rattle.anti_proc.specs.declared.variables.Binding.{Binding}
use Rattle.anti_proc.specs.declared.variables.Binding.TheVariants.{Wrote, Saw, Heard}
use Rattle.anti_proc.specs.declared.variables.Variable.{Variable}
use Rattle.anti_proc.specs.Barriers.{is_asked}
use Rattle.anti_proc.specs.Local.{Local, Setting, held_ids, id_at, rows_ids, with_held}
use Rattle.anti_proc.specs.Meaning.{Go, after_post, after_read, after_reply, after_write, asks, carry, leave_by, looks, stated_in, with_key, write_call}
use Rattle.anti_proc.specs.Trees.{Tree, Ends}
use Rattle.anti_proc.proofs.Setting.{held_set}
use Rattle.law_causal.specs.Settled.{found_in, region_named}
use Rattle.law_causal.specs.Words.{comes_with}
use Rattle.law_causal.proofs.Ids.{not_none}
use Rattle.law_placed.proofs.Clearing.{Doubts, Within}
use Rattle.law_placed.proofs.Histories.{Good, History, found_now, found_on, handing, more, names_none, silent, waited_before, waited_now}
use Rattle.law_placed.proofs.Staying.{AllCarried, Inv, NoneLeft, all_carried, answered, carried_kept, still_found, weaker}

-- whether a process owes a reply
abbrev pub owes_reply : Duty → Bool
owes_reply (duties.Answers inbox number handler) = true
owes_reply duty = false

-- what is added is carried with the rest
pub among_new : (further ids : List WriteId) (i : WriteId) → has_id i further ≡ true → has_id i (with_ids further ids) ≡ true
among_new further ids i has = has_id-with_ids i further ids ∙ or_left (has_id i further) (has_id i ids) has

pub among_old : (further ids : List WriteId) (i : WriteId) → has_id i ids ≡ true → has_id i (with_ids further ids) ≡ true
among_old further ids i has = has_id-with_ids i further ids ∙ or_right (has_id i further) (has_id i ids) has

-- what a read brings
abbrev pub read_brings : ℕ → Reply → List WriteId
read_brings store (replies.Shown rows) = rows_ids store rows.items
read_brings store reply = []

module _ (s : Setting) where
  -- all goes on well, whatever the process knows, where these doubts are held
  abbrev pub Goes : Doubts → Go → Type 0
  Goes a go = (l : Local) (h : History) → Inv s.app s.role.region a l h → Good s.app h (go l)

  -- what goes on with more doubts goes on with fewer
  pub goes_within : (a b : Doubts) (go : Go) → Within a b → Goes b go → Goes a go
  goes_within a b go within goes l h inv = goes l h (weaker s.app s.role.region a b within l h inv)

  pub one_good : (first : Bool) (h : History) (one other : Tree) → Good s.app h one → Good s.app h other
      → Good s.app h (cond first one other)
  one_good true h one other this that = this
  one_good false h one other this that = that

  pub carry_good : (ids : List WriteId) (l : Local) (h : History) (go : Go) → Good s.app h (go (record l { carried = with_ids ids l.carried }))
      → Good s.app h (carry ids l go)
  carry_good ids l h go goes =
      let all : List WriteId = with_ids ids l.carried in
      one_good (nat_lt MOST_IDS (length all)) h (Ends LineageFull) (go (record l { carried = all })) tt goes

  -- ---- the end

  -- what is owed is done, where all is carried into a reply
  pub leave_good : (duty : Duty) (good : Bool) (end : BodyEnd) (l : Local) (h : History) → (owes_reply duty ≡ true → AllCarried l h)
      → Good s.app h (leave_by duty good s end l)
  leave_good duties.Free good end l h all = tt
  leave_good (duties.Answers inbox number handler) good end l h all = (handing refl (all refl), λ reply. tt)
  leave_good (duties.Works store version) true end l h all = (silent refl refl, λ reply. tt)
  leave_good (duties.Works store version) false end l h all = (silent refl refl, λ reply. tt)

  -- a text that is no key ends the process
  pub key_good : (key : Option (List ℕ)) (l : Local) (h : History) (go : List ℕ → Tree) → AllCarried l h
      → ((k : List ℕ) → Good s.app h (go k)) → Good s.app h (with_key key go s l)
  key_good None l h go all goes = leave_good s.role.duty false BadKey l h (λ owes. all)
  key_good (Some k) l h go all goes = goes k

  -- so does a message that would be too deep
  pub deep_good : (deep : Bool) (l : Local) (h : History) (tree : Tree) → AllCarried l h → Good s.app h tree
      → Good s.app h (cond deep tree (leave_by s.role.duty false s Depth l))
  deep_good deep l h tree all good =
      one_good deep h tree (leave_by s.role.duty false s Depth l) good (leave_good s.role.duty false Depth l h (λ owes. all))

  -- ---- a call at which no rows are left

  module _ (a : Doubts) (none : NoneLeft a) (l : Local) (h : History) (inv : Inv s.app s.role.region a l h) where
    all_here : AllCarried l h
    all_here = all_carried s.app s.role.region a l h inv none

    -- a reply that brings nothing leaves all as it was
    unchanged : (object : ℕ) (call : Call) (reply : Reply) → ((i : WriteId) → has_id i (comes_with s.app object call reply) ≡ true → ⊥)
        → Inv s.app s.role.region a l (more s.app h object l.span call reply)
    unchanged object call reply none_comes =
        answered s.app s.role.region a a l l.carried l.variables h inv.here inv (λ i kept. kept) object call reply
        (λ i has. absurd (none_comes i has))
        (λ off. still_found s.app s.role.region l.span l.carried h object call reply (inv.settled off))

    -- ---- with other doubts behind it

    module _ (b : Doubts) (here : b doubts.Always ≡ true) (still : b doubts.Unsettled ≡ false → a doubts.Unsettled ≡ false)
        (go : Go) (goes : Goes b go) where
      -- on a reply that brings nothing the process goes on
      nothing_more : (object : ℕ) (call : Call) (reply : Reply) → ((i : WriteId) → has_id i (comes_with s.app object call reply) ≡ true → ⊥)
          → Good s.app (more s.app h object l.span call reply) (go l)
      nothing_more object call reply none_comes =
          goes l (more s.app h object l.span call reply)
          (answered s.app s.role.region a b l l.carried l.variables h here inv
          (carried_kept a none b l.carried l.variables l.carried l.variables (λ i has. has)) object call reply
          (λ i has. absurd (none_comes i has))
          (λ off. still_found s.app s.role.region l.span l.carried h object call reply (inv.settled (still off))))

      -- a message to which no reply is waited for
      pub send_good : (inbox : ℕ) (m : Message) → Good s.app h (asks inbox (calls.Post m) None l (after_post inbox None s l go))
      send_good inbox m = (handing refl all_here, λ reply. nothing_more inbox (calls.Post m) reply (λ i has. cc))

      module _ (unsettled : b doubts.Unsettled ≡ true) where
        -- on a reply with ids these are carried too
        more_good : (object : ℕ) (call : Call) (reply : Reply) (ids : List WriteId) (variables : List Variable)
            → ((i : WriteId) → has_id i (comes_with s.app object call reply) ≡ true → has_id i ids ≡ true)
            → Good s.app (more s.app h object l.span call reply) (carry ids (record l { variables = variables }) go)
        more_good object call reply ids variables comes =
            let carried : List WriteId = with_ids ids l.carried in
            let next : Local = record l { carried = carried; variables = variables } in
            carry_good ids (record l { variables = variables }) (more s.app h object l.span call reply) go
            (goes next (more s.app h object l.span call reply)
            (answered s.app s.role.region a b l carried variables h here inv
            (carried_kept a none b l.carried l.variables carried variables (λ i has. among_old ids l.carried i has)) object call reply
            (λ i has. inl (among_new ids l.carried i (comes i has)))
            (λ off. absurd (cc))))

        written : (store : ℕ) (key value : List ℕ) (x : Option (List ℕ)) (reply : Reply)
            → Good s.app (more s.app h store l.span (calls.Write key value l.carried) reply) (after_write store x false l go reply)
        written store key value None (replies.Written name version over) =
            more_good store (calls.Write key value l.carried) (replies.Written name version over) (id_at store name version ++ unwrap_or over []) l.variables
            (λ i has. has)
        written store key value (Some x) (replies.Written name version over) =
            let held : Binding = Wrote (record { store = store; key = name; version = version }) (unwrap_or over l.carried) in
            more_good store (calls.Write key value l.carried) (replies.Written name version over) (id_at store name version ++ unwrap_or over [])
            (with_held x held l.variables) (λ i has. has)
        written store key value x reply = nothing_more store (calls.Write key value l.carried) reply (λ i has. cc)

        pub write_good : (store : ℕ) (value : List ℕ) (x : Option (List ℕ)) (key : List ℕ)
            → Good s.app h (write_call store value x false l go key)
        write_good store value x key = (handing refl all_here, λ reply. written store key value x reply)

        heard : (inbox number : ℕ) (x : List ℕ) (reply : Reply)
            → Good s.app (more s.app h inbox l.span (calls.TakeReply number) reply) (after_reply s x l go reply)
        heard inbox number x (replies.Got got m) =
            more_good inbox (calls.TakeReply number) (replies.Got got m) (stated_in s.app m) (with_held x (Heard m.value) l.variables)
            (λ i has. has)
        heard inbox number x reply = nothing_more inbox (calls.TakeReply number) reply (λ i has. cc)

        hear_good : (inbox number : ℕ) (x : List ℕ) → Good s.app h (asks inbox (calls.TakeReply number) None l (after_reply s x l go))
        hear_good inbox number x = (silent refl refl, λ reply. heard inbox number x reply)

  module _ (a : Doubts) (none : NoneLeft a) (l : Local) (h : History) (inv : Inv s.app s.role.region a l h) (b : Doubts)
      (here : b doubts.Always ≡ true) (still : b doubts.Unsettled ≡ false → a doubts.Unsettled ≡ false) (go : Go) (goes : Goes b go) where
    -- ---- a message whose reply is taken

    module _ (unsettled : b doubts.Unsettled ≡ true) where
      posted : (inbox : ℕ) (m : Message) (x : List ℕ) (reply : Reply)
          → Good s.app (more s.app h inbox l.span (calls.Post m) reply) (after_post inbox (Some x) s l go reply)
      posted inbox m x (replies.Posted number) =
          let reply : Reply = replies.Posted number in
          hear_good a none l (more s.app h inbox l.span (calls.Post m) reply)
          (unchanged a none l h inv inbox (calls.Post m) reply (λ i has. cc)) b here still go goes unsettled inbox number x
      posted inbox m x reply = nothing_more a none l h inv b here still go goes inbox (calls.Post m) reply (λ i has. cc)

      pub call_good : (inbox : ℕ) (m : Message) (x : List ℕ)
          → Good s.app h (asks inbox (calls.Post m) None l (after_post inbox (Some x) s l go))
      call_good inbox m x = (handing refl (all_here a none l h inv), λ reply. posted inbox m x reply)

    -- ---- reads

    module _ (call : Call) (home : region_named call ≡ s.role.region)
        (brings : (store : ℕ) (reply : Reply) → comes_with s.app store call reply ≡ read_brings store reply)
        (off : a doubts.Unsettled ≡ false) (x : List ℕ) (sets : b (doubts.Rows x) ≡ true) where
      -- the rows that it shows are left, and nothing that is carried is unsettled
      shown : (store : ℕ) (reply : Reply) → Good s.app (more s.app h store l.span call reply) (after_read store x l go reply)
      shown store (replies.Shown rows) =
          let reply : Reply = replies.Shown rows in
          let held : Binding = Saw store rows in
          let variables : List Variable = with_held x held l.variables in
          goes (record l { variables = variables }) (more s.app h store l.span call reply)
          (answered s.app s.role.region a b l l.carried variables h here inv
          (carried_kept a none b l.carried l.variables l.carried variables (λ i has. has)) store call reply
          (λ i has. inr (record {
            name = x;
            held = sets;
            has = ap (λ (found : Option Binding). has_id i (held_ids found)) (held_set x x held l.variables ((bytes_eq-Decides x x).1 refl))
                ∙ sym (ap (has_id i) (brings store reply)) ∙ has;
          }))
          (λ still_off. still_found s.app s.role.region l.span l.carried h store call reply (inv.settled off)))
      shown store reply =
          nothing_more a none l h inv b here still go goes store call reply
          (λ i has. not_none i (comes_with s.app store call reply) (brings store reply) has)

      pub read_good : (store : ℕ) → Good s.app h (asks store call None l (after_read store x l go))
      read_good store = (
        record {
          keeps = λ hands i came. all_here a none l h inv i came;
          guarded = λ waited is i has near.
              inv.settled off waited i has (subst (λ (region : ℕ). is_store_here s.app region i.store ≡ true) home near);
        },
        λ reply. shown store reply,
      )

  -- ---- looks

  -- Looks bring nothing. What is so of those that are left stays so from one to the next.
  module _ (a : Doubts) (none : NoneLeft a) (l : Local) (dry : Bool) (go : Go) (So : History → List PlannedLook → Type 0)
      (one_more : (h : History) (look : PlannedLook) (later : List PlannedLook) (reply : Reply) → So h (look ∷ later)
      → So (more s.app h look.store l.span (calls.Look s.role.region look.ids dry) reply) later)
      (goes : (h : History) → Inv s.app s.role.region a l h → So h [] → Good s.app h (go l)) where
    pub looks_good : (further : List PlannedLook) (h : History) → Inv s.app s.role.region a l h → So h further
        → Good s.app h (looks s.role.region dry further l go)
    looks_good [] h inv so = goes h inv so
    looks_good (look ∷ later) h inv so =
        let call : Call = calls.Look s.role.region look.ids dry in (
          handing refl (all_here a none l h inv),
          λ reply. looks_good later (more s.app h look.store l.span call reply)
              (unchanged a none l h inv look.store call reply (λ i has. cc)) (one_more h look later reply so),
        )

  -- ---- barriers

  all_found : (region : ℕ) (ids : List WriteId) (reply : Reply) → names_none reply ≡ true
      → found_in (calls.Look region ids false) reply ≡ ids
  all_found region ids (replies.Missing [] unwritten) all = refl
  all_found region ids reply all = absurd (cc)

  module _ (l : Local) (planned : List PlannedLook) where
    -- each id that is planned to be looked for was found, or is left
    abbrev pub Covers : History → List PlannedLook → Type 0
    Covers h left =
        h.waited ≡ true → (i : WriteId) → is_asked i planned ≡ true → (h.found l.span i ≡ true) ⊎ (is_asked i left ≡ true)

    pub covers_more : (h : History) (look : PlannedLook) (later : List PlannedLook) (reply : Reply) → Covers h (look ∷ later)
        → Covers (more s.app h look.store l.span (calls.Look s.role.region look.ids false) reply) later
    covers_more h look later reply covers waited i asked =
        let call : Call = calls.Look s.role.region look.ids false in
        elim (covers (waited_before s.app h look.store l.span call reply waited) i asked) [
          | inl found ↦ inl (found_on s.app h look.store l.span call reply l.span i found)
          | inr left ↦ elim (or_cases (has_id i look.ids) (is_asked i later) left) [
            | inl own ↦
                let all = all_found s.role.region look.ids reply (waited_now s.app h look.store l.span call reply waited) in
                inl (found_now s.app h look.store l.span call reply l.span i refl (ap (has_id i) all ∙ own))
            | inr further ↦ inr further
          ]
        ]

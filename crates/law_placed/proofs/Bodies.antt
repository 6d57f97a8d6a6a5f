-- A body of which no line fails: whatever a process that runs it is answered, each of its calls carries what it must.
use Rattle.std.proofs.Common.{◌≡◌, ℕ, zero, suc, ◌+◌, ◌||◌, Bool, true, false, cond, List, [], refl, sym, ap, ◌∙◌, inl, inr, bytes_eq, nat_lt, arith}
use Rattle.std.specs.Prelude.{Some, None, if◌then◌else◌}
use Rattle.std.proofs.lemmas.Bool.{and_parts, or_left, or_right}
use Rattle.std.proofs.lemmas.Slice.Eq.{bytes_eq-Decides}
use Rattle.anti_ids.specs.Ids.{has_id, with_ids}
use Rattle.anti_ids.specs.declared.id.WriteId.{WriteId}
use Rattle.anti_ids.specs.declared.limits.TheConstants.{MOST_DEPTH}
use Rattle.anti_kind.specs.declared.call.Call.TheVariants as calls
use Rattle.anti_kind.specs.declared.call.Reply.{Reply}
use Rattle.anti_kind.specs.declared.call.Reply.TheVariants as replies
use Rattle.anti_kind.specs.declared.message.Message.{Message}
use Rattle.anti_kind.specs.declared.message.MessageKind.TheVariants as kinds
use Rattle.anti_lang.specs.Program as program
use Rattle.anti_lang.specs.Program.{Step, Block}
use Rattle.anti_lang.specs.Texts.{plain_name}
use Rattle.anti_app.specs.declared.app.App.{App}
use Rattle.anti_app.specs.Objects.{inbox_of, store_number}
use Rattle.anti_place.specs.declared.doubt.Doubt.{Doubt}
use Rattle.anti_place.specs.declared.doubt.Doubt.TheVariants as doubts
use Rattle.anti_place.specs.declared.flow.Flow.TheVariants.{Clears, Keeps, Sets}
use Rattle.anti_place.specs.Paths.{height}
use Rattle.anti_place.specs.inner.Joined.{fault_here, left, through_block}
use Rattle.anti_proc.specs.declared.end.BodyEnd.TheVariants.{Fine}
use Rattle.anti_proc.specs.Local.{Local, Setting, any_name, held_ids, held_in, is_absent, key_text, new_span, text_of}
use Rattle.anti_proc.specs.Meaning.{Go, after_post, asks, block_tree, carry, leave, message, planned, read_call, step_tree, turns, write_call}
use Rattle.anti_proc.specs.Trees.{Tree}
use Rattle.law_causal.specs.Words.{comes_with}
use Rattle.law_causal.proofs.Looks.{planned_for}
use Rattle.law_placed.proofs.Clearing.{Doubts, NoEndFails, NoLineFails, NoStepFails, Within, all_that_fail, behind_block, behind_step, block_stops, end_fine, first_fine, held_behind, held_passed, held_through, left_once, not_held, passes, rest_fine, rest_stops, step_stops}
use Rattle.law_placed.proofs.Histories.{Good, History}
use Rattle.law_placed.proofs.Staying.{AllCarried, AllFound, Inv, Kept, NoneLeft, Pending, all_carried, carried_kept, changed, weaker}
use Rattle.law_placed.proofs.Asking.{Covers, Goes, among_new, among_old, call_good, carry_good, covers_more, deep_good, goes_within, key_good, leave_good, looks_good, one_good, owes_reply, read_brings, read_good, send_good, write_good}
use Rattle.law_placed.proofs.Standing.{is_plain, is_plain_block, stops_well}

-- more doubts, one by one
within_all : (a b : Doubts) → b doubts.Always ≡ true → (a doubts.Unsettled ≡ true → b doubts.Unsettled ≡ true)
    → ((y : List ℕ) → a (doubts.Rows y) ≡ true → b (doubts.Rows y) ≡ true) → Within a b
within_all a b here unsettled rows doubts.Always is = here
within_all a b here unsettled rows doubts.Unsettled is = unsettled is
within_all a b here unsettled rows (doubts.Rows y) is = rows y is

-- a read leaves its own rows
sets_own : (x : List ℕ) (held : Bool) → left (cond (bytes_eq x x) Sets Keeps) held ≡ true
sets_own x held = ap (λ (t : Bool). left (cond t Sets Keeps) held) ((bytes_eq-Decides x x).1 refl)

-- ---- what reads bring

module _ (app : App) (region : ℕ) (key : List ℕ) (store : ℕ) where
  reads_bring : (reply : Reply) → comes_with app store (calls.Read region key) reply ≡ read_brings store reply
  reads_bring (replies.Shown rows) = refl
  reads_bring reply = refl

  scans_bring : (reply : Reply) → comes_with app store (calls.Scan region key) reply ≡ read_brings store reply
  scans_bring (replies.Shown rows) = refl
  scans_bring reply = refl

  polls_bring : (reply : Reply) → comes_with app store (calls.Poll region key) reply ≡ read_brings store reply
  polls_bring (replies.Shown rows) = refl
  polls_bring reply = refl

module _ (s : Setting) (called : Bool) (owes : owes_reply s.role.duty ≡ true → called ≡ true) where
  abbrev HoldsIn : Doubts → Local → History → Type 0
  HoldsIn a l h = Inv s.app s.role.region a l h

  -- All goes well at a statement, and at a block, where it goes on well behind it.
  abbrev StepGood : Step → Doubts → Type 0
  StepGood statement a =
      (l : Local) (h : History) (go : Go) → HoldsIn a l h → (step_stops statement ≡ false → Goes s (behind_step statement a) go)
      → Good s.app h (step_tree statement s l go)

  abbrev BlockGood : Block → Doubts → Type 0
  BlockGood block a =
      (l : Local) (h : History) (go : Go) → HoldsIn a l h → (block_stops block ≡ false → Goes s (behind_block block a) go)
      → Good s.app h (block_tree block s l go)

  -- ---- the end

  -- a process that owes a reply has no rows left at its end
  end_good : (good : Bool) (line : ℕ) (a : Doubts) → ((d : Doubt) → fault_here (all_that_fail called) d line program.Nack (a d) ≡ None)
      → (l : Local) (h : History) → HoldsIn a l h → Good s.app h (leave good s Fine l)
  end_good good line a none l h inv = leave_good s s.role.duty good Fine l h (λ owing. all_carried s.app s.role.region a l h inv (none_left owing))
    where
      none_left : owes_reply s.role.duty ≡ true → NoneLeft a
      none_left owing x =
          let rows : Doubt = doubts.Rows x in
          not_held (a rows) _ (ap (λ (b : Bool). fault_here (all_that_fail b) rows line program.Nack (a rows)) (sym (owes owing)) ∙ none rows)

  -- ---- statements without a call

  -- the ids of what a variable holds are carried, so its rows are no longer left
  add_good : (a b : Doubts) (x : List ℕ) (l : Local) (h : History) (go : Go) → b doubts.Always ≡ true → b doubts.Unsettled ≡ true
      → ((y : List ℕ) → bytes_eq y x ≡ false → a (doubts.Rows y) ≡ true → b (doubts.Rows y) ≡ true) → HoldsIn a l h → Goes s b go
      → Good s.app h (carry (held_ids (held_in l.variables x)) l go)
  add_good a b x l h go here unsettled others inv goes =
      carry_good s ids l h go
      (goes (record l { carried = carried }) h (changed s.app s.role.region a b l carried l.variables h here inv kept (λ off. absurd (cc))))
    where
      ids : List WriteId
      ids = held_ids (held_in l.variables x)

      carried : List WriteId
      carried = with_ids (held_ids (held_in l.variables x)) l.carried

      by_name : (i : WriteId) (left : Pending a l.variables i) (same : Bool) → bytes_eq left.name x ≡ same → Kept b carried l.variables i
      by_name i left true same =
          let its : left.name ≡ x = (bytes_eq-Decides left.name x).0 same in
          let has : has_id i ids ≡ true = ap (λ (name : List ℕ). has_id i (held_ids (held_in l.variables name))) (sym its) ∙ left.has in
          inl (among_new ids l.carried i has)
      by_name i left false differs = inr (record { name = left.name; held = others left.name differs left.held; has = left.has })

      kept : (i : WriteId) → Kept a l.carried l.variables i → Kept b carried l.variables i
      kept i (inl has) = inl (among_old ids l.carried i has)
      kept i (inr left) = by_name i left (bytes_eq left.name x) refl

  reply_inv : (a b : Doubts) (l : Local) (reply : List ℕ) (h : History) → Within a b → HoldsIn a l h
      → HoldsIn b (record l { reply = reply }) h
  reply_inv a b l reply h within inv =
      let same : HoldsIn b l h = weaker s.app s.role.region a b within l h inv in
      record { here = same.here; begun = same.begun; kept = same.kept; settled = same.settled; none_later = same.none_later }

  -- nothing came to a new span yet, and nothing is carried in it
  fresh : (a b : Doubts) (l : Local) (h : History) → b doubts.Always ≡ true → HoldsIn a l h → HoldsIn b (new_span false l) h
  fresh a b l h here inv = record {
    here = here;
    begun = refl;
    kept = λ i came. absurd (let none : h.came (l.span + 1) i ≡ false = inv.none_later (l.span + 1) (omega arith) i in cc);
    settled = λ off waited i has near. absurd (cc);
    none_later = λ n past i. inv.none_later n (omega (arith, past)) i;
  }

  rooted_good : (stopped : Bool) (a b : Doubts) (l : Local) (h : History) (go : Go) → l.stopped ≡ stopped → b doubts.Always ≡ true
      → HoldsIn a l h → Goes s b go → Good s.app h (go (if stopped then record l { stopped = false } else new_span false l))
  rooted_good true a b l h go is here inv goes = absurd (let begun : l.stopped ≡ false = inv.begun in cc)
  rooted_good false a b l h go is here inv goes = goes (new_span false l) h (fresh a b l h here inv)

  -- ---- barriers

  -- behind a barrier all that is carried was found
  barrier_found : (a b : Doubts) (l : Local) (h : History) → b doubts.Always ≡ true → NoneLeft a → HoldsIn a l h
      → Covers s l (planned s l) h [] → HoldsIn b l h
  barrier_found a b l h here none inv covers =
      changed s.app s.role.region a b l l.carried l.variables h here inv
      (carried_kept a none b l.carried l.variables l.carried l.variables (λ i has. has)) (λ off. found)
    where
      found : AllFound s.app s.role.region l.span l.carried h
      found waited i has near =
          elim (covers waited i (planned_for s.app s.role.region l.carried i has near)) [
            | inl there ↦ there
            | inr none_left ↦ absurd (cc)
          ]

  -- ---- blocks

  -- the turns of a block, which leaves no doubt but those that it was entered with
  turns_good : (n : ℕ) (block : Local → Go → Tree) (stops : Bool) (a b : Doubts) → Within b a
      → ((l : Local) (h : History) (go : Go) → HoldsIn a l h → (stops ≡ false → Goes s b go) → Good s.app h (block l go))
      → (l : Local) (h : History) (go : Go) → HoldsIn a l h → (stops ≡ false → Goes s b go) → Good s.app h (turns (suc n) block l go)
  turns_good zero block stops a b within good l h go inv goes = good l h go inv goes
  turns_good (suc n) block stops a b within good l h go inv goes =
      good l h (λ l. turns (suc n) block l go) inv
      (λ on l h inv. turns_good n block stops a b within good l h go (weaker s.app s.role.region b a within l h inv) goes)

  -- the doubts with which a block is entered that is repeated
  abbrev entered : Block → Doubts → Doubts
  entered block a = λ d. a d || behind_block block a d

  repeat_good : (n : ℕ) (block : Block) (a : Doubts) → BlockGood block (entered block a)
      → (l : Local) (h : History) (go : Go) → HoldsIn a l h
      → (block_stops block ≡ false → Goes s (behind_block block a) go) → Good s.app h (turns (suc n) (block_tree block s) l go)
  repeat_good n block a good l h go inv goes =
      turns_good n (block_tree block s) (block_stops block) (entered block a) (behind_block block (entered block a))
      (λ d is. or_right (a d) (behind_block block a d) (once d is)) good l h go
      (weaker s.app s.role.region a (entered block a) (λ d is. or_left (a d) (behind_block block a d) is) l h inv)
      (λ on. goes_within s (behind_block block (entered block a)) (behind_block block a) go once (goes on))
    where
      once : Within (behind_block block (entered block a)) (behind_block block a)
      once d is = sym (left_once (through_block d block) (a d)) ∙ is

  -- ---- statements

  mutual
    step_good : (statement : Step) → is_plain statement ≡ true → (line : ℕ) (a : Doubts) → NoStepFails called line statement a
        → StepGood statement a
    step_good (program.Write store key value x true) plain line a fine l h go inv goes =
        absurd (let here : a doubts.Always ≡ true = inv.here in let off = not_held (a doubts.Always) _ (fine doubts.Always) in cc)
    step_good (program.Write store key value x false) plain line a fine l h go inv goes =
        let none : NoneLeft a = λ y. not_held (a (doubts.Rows y)) _ (fine (doubts.Rows y)) in
        let b : Doubts = behind_step (program.Write store key value x false) a in
        let number : ℕ = store_number s.app store in
        let text : List ℕ = text_of s l value in
        key_good s (plain_name (key_text s l key)) l h (write_call number text x false l go)
        (all_carried s.app s.role.region a l h inv none)
        (λ k. write_good s a none l h inv b inv.here (λ off. absurd (cc)) go (goes refl) refl number text x k)
    step_good (program.Append x) plain line a fine l h go inv goes =
        add_good a (behind_step (program.Append x) a) x l h go inv.here refl (λ y differs is. is) inv (goes refl)
    step_good (program.Remove x) plain line a fine l h go inv goes =
        absurd (let here : a doubts.Always ≡ true = inv.here in let off = not_held (a doubts.Always) _ (fine doubts.Always) in cc)
    step_good (program.Transfer x) plain line a fine l h go inv goes =
        add_good a (behind_step (program.Transfer x) a) x l h go inv.here refl
        (λ y differs is. ap (λ (t : Bool). left (cond t Clears Keeps) (a (doubts.Rows y))) differs ∙ is) inv (goes refl)
    step_good program.Barrier plain line a fine l h go inv goes =
        let none : NoneLeft a = λ y. not_held (a (doubts.Rows y)) _ (fine (doubts.Rows y)) in
        let b : Doubts = behind_step program.Barrier a in
        looks_good s a none l false go (Covers s l (planned s l)) (covers_more s l (planned s l))
        (λ h inv covers. goes refl l h (barrier_found a b l h inv.here none inv covers))
        (planned s l) h inv (λ waited i asked. inr asked)
    step_good program.DryRun plain line a fine l h go inv goes =
        let none : NoneLeft a = λ y. not_held (a (doubts.Rows y)) _ (fine (doubts.Rows y)) in
        let b : Doubts = behind_step program.DryRun a in
        looks_good s a none l true go (λ h left. Unit {0}) (λ h look later reply so. tt)
        (λ h inv so. goes refl l h (weaker s.app s.role.region a b (within_all a b inv.here (λ is. is) (λ y is. is)) l h inv))
        (planned s l) h inv tt
    step_good (program.Read store key x) plain line a fine l h go inv goes =
        let none : NoneLeft a = λ y. not_held (a (doubts.Rows y)) _ (fine (doubts.Rows y)) in
        let off : a doubts.Unsettled ≡ false = not_held (a doubts.Unsettled) _ (fine doubts.Unsettled) in
        let b : Doubts = behind_step (program.Read store key x) a in
        let number : ℕ = store_number s.app store in
        key_good s (plain_name (key_text s l key)) l h (read_call number (calls.Read s.role.region) x l go)
        (all_carried s.app s.role.region a l h inv none)
        (λ k. read_good s a none l h inv b inv.here (λ still. off) go (goes refl) (calls.Read s.role.region k) refl
        (reads_bring s.app s.role.region k) off x (sets_own x (a (doubts.Rows x))) number)
    step_good (program.Scan store prefix x) plain line a fine l h go inv goes =
        let none : NoneLeft a = λ y. not_held (a (doubts.Rows y)) _ (fine (doubts.Rows y)) in
        let off : a doubts.Unsettled ≡ false = not_held (a doubts.Unsettled) _ (fine doubts.Unsettled) in
        let b : Doubts = behind_step (program.Scan store prefix x) a in
        read_good s a none l h inv b inv.here (λ still. off) go (goes refl) (calls.Scan s.role.region prefix) refl
        (scans_bring s.app s.role.region prefix) off x (sets_own x (a (doubts.Rows x))) (store_number s.app store)
    step_good (program.Poll store key x) plain line a fine l h go inv goes =
        let none : NoneLeft a = λ y. not_held (a (doubts.Rows y)) _ (fine (doubts.Rows y)) in
        let off : a doubts.Unsettled ≡ false = not_held (a doubts.Unsettled) _ (fine doubts.Unsettled) in
        let b : Doubts = behind_step (program.Poll store key x) a in
        let number : ℕ = store_number s.app store in
        key_good s (any_name (key_text s l key)) l h (read_call number (calls.Poll s.role.region) x l go)
        (all_carried s.app s.role.region a l h inv none)
        (λ k. read_good s a none l h inv b inv.here (λ still. off) go (goes refl) (calls.Poll s.role.region k) refl
        (polls_bring s.app s.role.region k) off x (sets_own x (a (doubts.Rows x))) number)
    step_good (program.Call service handler value x) plain line a fine l h go inv goes =
        let none : NoneLeft a = λ y. not_held (a (doubts.Rows y)) _ (fine (doubts.Rows y)) in
        let b : Doubts = behind_step (program.Call service handler value x) a in
        let inbox : ℕ = inbox_of s.app service in
        let m : Message = message kinds.Call 0 (s.role.depth + 1) handler (text_of s l value) s l in
        deep_good s (nat_lt s.role.depth MOST_DEPTH) l h (asks inbox (calls.Post m) None l (after_post inbox (Some x) s l go))
        (all_carried s.app s.role.region a l h inv none)
        (call_good s a none l h inv b inv.here (λ off. absurd (cc)) go (goes refl) refl inbox m x)
    step_good (program.Send service handler value) plain line a fine l h go inv goes =
        let none : NoneLeft a = λ y. not_held (a (doubts.Rows y)) _ (fine (doubts.Rows y)) in
        let b : Doubts = behind_step (program.Send service handler value) a in
        let inbox : ℕ = inbox_of s.app service in
        let m : Message = message kinds.Send 0 (s.role.depth + 1) handler (text_of s l value) s l in
        deep_good s (nat_lt s.role.depth MOST_DEPTH) l h (asks inbox (calls.Post m) None l (after_post inbox None s l go))
        (all_carried s.app s.role.region a l h inv none)
        (send_good s a none l h inv b inv.here (λ off. off) go (goes refl) inbox m)
    step_good (program.Reply value) plain line a fine l h go inv goes =
        let b : Doubts = behind_step (program.Reply value) a in
        let text : List ℕ = text_of s l value in
        goes refl (record l { reply = text }) h
        (reply_inv a b l text h (within_all a b inv.here (λ is. is) (λ y is. is)) inv)
    step_good program.Nack plain line a fine l h go inv goes = end_good false line a fine l h inv
    step_good program.Root plain line a fine l h go inv goes =
        rooted_good l.stopped a (behind_step program.Root a) l h go refl inv.here inv (goes refl)
    step_good program.Stop plain line a fine l h go inv goes = absurd (cc)
    step_good (program.Repeat zero block) plain line a fine l h go inv goes = goes refl l h inv
    step_good (program.Repeat (suc n) block) plain line a fine l h go inv goes =
        repeat_good n block a (block_good block plain (line + 1) (entered block a) fine) l h go inv goes
    step_good (program.IfAbsent x block) plain line a fine l h go inv goes =
        let b : Doubts = behind_step (program.IfAbsent x block) a in
        let on : Goes s b go = goes (passes (through_block doubts.Always block)) in
        let through_it : Within (behind_block block a) b = λ d is. held_through (through_block d block) (a d) is in
        let past_it : Within a b = λ d is. held_passed (through_block d block) (a d) is in
        one_good s (is_absent (held_in l.variables x)) h (block_tree block s l go) (go l)
        (block_good block plain (line + 1) a fine l h go inv (λ further. goes_within s (behind_block block a) b go through_it on))
        (on l h (weaker s.app s.role.region a b past_it l h inv))

    block_good : (block : Block) → is_plain_block block ≡ true → (line : ℕ) (a : Doubts) → NoLineFails called line block a
        → BlockGood block a
    block_good program.End plain line a fine l h go inv goes = goes refl l h inv
    block_good (program.Then first rest) plain line a fine l h go inv goes =
        let both = and_parts (is_plain first) (is_plain_block rest) plain in
        let whole : Block = program.Then first rest in
        step_good first both.0 line a (first_fine called line first rest a fine) l h (λ l. block_tree rest s l go) inv
        (λ on l h inv.
        block_good rest both.1 (line + height first) (behind_step first a) (rest_fine called line first rest a on fine) l h go inv
        (λ further. goes_within s (behind_block rest (behind_step first a)) (behind_block whole a) go
        (λ d is. held_behind called line first rest a on d ∙ is) (goes (rest_stops called line first rest a on further))))

  -- ---- a body

  -- nothing came yet to the span that `stop` begins
  stopped_end : (a : Doubts) (l : Local) (h : History) → HoldsIn a l h → AllCarried (new_span true l) h
  stopped_end a l h inv i came = absurd (let none : h.came (l.span + 1) i ≡ false = inv.none_later (l.span + 1) (omega arith) i in cc)

  -- nor is anything carried in it behind `root`
  stopped_good : (a b : Doubts) (l : Local) (h : History) (go : Go) → b doubts.Always ≡ true → HoldsIn a l h → Goes s b go
      → Good s.app h (go (record (new_span true l) { stopped = false }))
  stopped_good a b l h go here inv goes = goes (new_span false l) h (fresh a b l h here inv)

  -- A body of which neither a line nor the end fails.
  pub body_good : (body : Block) → stops_well body ≡ true → (line last : ℕ) (a : Doubts) → NoLineFails called line body a
      → NoEndFails called last body a → (l : Local) (h : History) → HoldsIn a l h → Good s.app h (block_tree body s l (leave true s Fine))
  body_good program.End well line last a fine end l h inv = end_good true last a (end refl) l h inv
  body_good (program.Then program.Stop program.End) well line last a fine end l h inv =
      leave_good s s.role.duty true Fine (new_span true l) h (λ owing. stopped_end a l h inv)
  body_good (program.Then program.Stop (program.Then program.Root rest)) well line last a fine end l h inv =
      let behind : Block = program.Then program.Root rest in
      let next : ℕ = line + height program.Stop in
      let b : Doubts = behind_step program.Stop a in
      let c : Doubts = behind_step program.Root b in
      let fine_behind : NoLineFails called next behind b = rest_fine called line program.Stop behind a refl fine in
      let end_behind : NoEndFails called last behind b = end_fine called line program.Stop behind a refl last end in
      stopped_good a c l h (λ l. block_tree rest s l (leave true s Fine)) inv.here inv
      (λ l h inv.
      body_good rest well (next + height program.Root) last c (rest_fine called next program.Root rest b refl fine_behind)
      (end_fine called next program.Root rest b refl last end_behind) l h inv)
  body_good (program.Then program.Stop (program.Then other rest)) well line last a fine end l h inv = absurd (cc)
  body_good (program.Then first rest) well line last a fine end l h inv =
      let both = and_parts (is_plain first) (stops_well rest) well in
      step_good first both.0 line a (first_fine called line first rest a fine) l h (λ l. block_tree rest s l (leave true s Fine)) inv
      (λ on l h inv.
      body_good rest both.1 (line + height first) last (behind_step first a) (rest_fine called line first rest a on fine)
      (end_fine called line first rest a on last end) l h inv)

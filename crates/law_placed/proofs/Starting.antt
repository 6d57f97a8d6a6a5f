-- A process of an application that is placed, which came by name, carries what it must into each of its calls.
use Rattle.std.proofs.Common.{◌≡◌, ℕ, ◌+◌, Bool, true, false, List, [], Option, Some, None, IsTrue, length, refl, sym, ap, ◌∙◌, inl, inr, arith, if◌then◌else◌, nat_lt, unwrap_or}
use Rattle.std.proofs.lemmas.Bool.{false_from_ne_true}
use Rattle.anti_ids.specs.Ids.{has_id, with_ids}
use Rattle.anti_ids.specs.declared.id.WriteId.{WriteId}
use Rattle.anti_ids.specs.declared.limits.TheConstants.{MOST_IDS}
use Rattle.anti_kind.specs.declared.call.Call.{Call}
use Rattle.anti_kind.specs.declared.call.Call.TheVariants as calls
use Rattle.anti_kind.specs.declared.call.Reply.{Reply}
use Rattle.anti_kind.specs.declared.call.Reply.TheVariants as replies
use Rattle.anti_kind.specs.declared.entry.Entry.{Entry}
use Rattle.anti_kind.specs.declared.message.Message.{Message}
use Rattle.anti_kind.specs.declared.row.Row.{Row}
use Rattle.anti_lang.specs.Blocks.{lines_of}
use Rattle.anti_lang.specs.Program as program
use Rattle.anti_lang.specs.Program.{Block}
use Rattle.anti_app.specs.declared.app.App.{App}
use Rattle.anti_app.specs.Sound.{is_sound}
use Rattle.anti_place.specs.declared.doubt.Doubt.{Doubt}
use Rattle.anti_place.specs.declared.fault.Fault.{Fault}
use Rattle.anti_place.specs.declared.placement.Placement.TheVariants.{Yes}
use Rattle.anti_place.specs.Placements.{is_called, is_named, placement}
use Rattle.anti_place.specs.inner.Joined.{behind, fault_here, fault_in, fault_of, through_block}
use Rattle.anti_place.proofs.Doubting.{at_start, none_by}
use Rattle.anti_place.proofs.Earlier.{none_of}
use Rattle.anti_proc.specs.declared.task.Task.{Task}
use Rattle.anti_proc.specs.Local.{first_local, row_ids}
use Rattle.anti_proc.specs.Meaning.{setting_of, stated_in, tree_of}
use Rattle.anti_proc.specs.Tasks.{fitting, task_of}
use Rattle.anti_proc.proofs.Started.{each_task, its_body, started_each}
use Rattle.law_causal.specs.Words.{brings, comes_with}
use Rattle.law_placed.proofs.Asking.{among_new, owes_reply}
use Rattle.law_placed.proofs.Bodies.{body_good}
use Rattle.law_placed.proofs.Clearing.{NoEndFails, NoLineFails, all_that_fail, behind_left, block_alike}
use Rattle.law_placed.proofs.Histories.{Good, History, came_before, more, nothing}
use Rattle.law_placed.proofs.Placing.{body_fine, body_stands}
use Rattle.law_placed.proofs.Staying.{Inv}

-- Some line calls the handler of a process that owes a reply; and one whose handler nothing names carries nothing at first.
pub record CameByName (app : App) (task : Task) : Type 0 where
  pub called : owes_reply task.role.duty ≡ true → is_called app task.role.service task.role.handler ≡ true
  pub unnamed : is_named app task.role.service task.role.handler ≡ false → (ids : List WriteId) → task.carried ≡ Some ids
      → (i : WriteId) → has_id i ids ≡ true → ⊥

-- ---- what a birth brings is carried at first

module _ (app : App) (o : ℕ) (i : WriteId) where
  of_message : (call : Call) (number : ℕ) (m : Message) → has_id i (comes_with app o call (replies.Got number m)) ≡ true
      → has_id i (stated_in app m) ≡ true
  of_message (calls.Take nth) number m has = has
  of_message (calls.TakeReply to) number m has = has
  of_message call number m has = absurd (cc)

  of_row : (call : Call) (row : Row) → has_id i (comes_with app o call (replies.Pulled row)) ≡ true → has_id i (row_ids o row) ≡ true
  of_row (calls.Pull sub) row has = has
  of_row (calls.Repull sub version) row has = has
  of_row call row has = absurd (cc)

fits_same : (ids kept : List WriteId) → fitting ids ≡ Some kept → ids ≡ kept
fits_same ids kept is = by_test (nat_lt MOST_IDS (length ids)) is
  where
    by_test : (full : Bool) → (if full then None else Some ids) ≡ Some kept → ids ≡ kept
    by_test true is = absurd (cc)
    by_test false is = cc

module _ (app : App) (birth : Entry) where
  abbrev CarriesFirst : Task → Type 0
  CarriesFirst task =
      (ids : List WriteId) → task.carried ≡ Some ids → (i : WriteId) → has_id i (brings app birth) ≡ true → has_id i ids ≡ true

  brings_by : (reply : Reply) → birth.reply ≡ reply → (i : WriteId) → has_id i (brings app birth) ≡ true
      → has_id i (comes_with app birth.object birth.call reply) ≡ true
  brings_by reply is i has = sym (ap (λ (r : Reply). has_id i (comes_with app birth.object birth.call r)) is) ∙ has

  carries_first : (task : Task) → task_of app birth ≡ Some task → CarriesFirst task
  carries_first task starts =
      each_task app birth CarriesFirst
      (λ number m ids is at good states kept fits i has.
      let inside : has_id i (stated_in app m) ≡ true =
      of_message app birth.object i birth.call number m (brings_by (replies.Got number m) is i has) in
      ap (has_id i) (sym (fits_same ids kept fits))
      ∙ sym (ap (λ (found : Option (List WriteId)). has_id i (unwrap_or found [])) states)
      ∙ inside)
      (λ row sub is at kept fits i has.
      let ids : List WriteId = row_ids birth.object row in
      let inside : has_id i ids ≡ true = of_row app birth.object i birth.call row (brings_by (replies.Pulled row) is i has) in
      ap (has_id i) (sym (fits_same (with_ids ids []) kept fits)) ∙ among_new ids [] i inside)
      task starts

-- ---- a process at its start

module _ (app : App) (region : ℕ) (named : Bool) (birth : Entry) (first_span : birth.span ≡ 1) (ids : List WriteId)
    (first : (i : WriteId) → has_id i (brings app birth) ≡ true → has_id i ids ≡ true)
    (unnamed : named ≡ false → (i : WriteId) → has_id i ids ≡ true → ⊥) where
  abbrev born : History
  born = more app nothing birth.object birth.span birth.call birth.reply

  came_with : (n : ℕ) (i : WriteId) → born.came n i ≡ true → (birth.span ≡ n) × (has_id i (brings app birth) ≡ true)
  came_with n i came =
      elim (came_before app nothing birth.object birth.span birth.call birth.reply n i came) [
        | inl before ↦ absurd (cc)
        | inr here ↦ here
      ]

  pub at_birth : Inv app region (at_start named) (record first_local { carried = ids }) born
  at_birth = record {
    here = refl;
    begun = refl;
    kept = λ i came. inl (first i (came_with 1 i came).1);
    settled = λ off waited i has near. absurd (unnamed off i has);
    none_later = λ n past i. false_from_ne_true (born.came n i) (λ came.
        let span : birth.span ≡ n = (came_with n i came).0 in omega (arith, past, first_span, span));
  }

-- where no fault is in a body, no line of it fails, nor its end
module _ (called named : Bool) (body : Block) (fine : (d : Doubt) → fault_of (all_that_fail called) d body (at_start named d) ≡ None) where
  abbrev last : ℕ
  last = length (lines_of body) + 1

  abbrev at_end : Doubt → Bool → Option Fault
  at_end d held = fault_here (all_that_fail called) d last program.Nack held

  line_or_end : (d : Doubt) → (fault_in (all_that_fail called) d 1 body (at_start named d) ≡ None)
      × (behind (through_block d body) (at_start named d) (at_end d) ≡ None)
  line_or_end d =
      none_of (fault_in (all_that_fail called) d 1 body (at_start named d)) (behind (through_block d body) (at_start named d) (at_end d)) (fine d)

  no_line : NoLineFails called 1 body (at_start named)
  no_line d = (line_or_end d).0

  no_end : NoEndFails called last body (at_start named)
  no_end on d = sym (behind_left (through_block d body) (at_start named d) (at_end d) (block_alike d body ∙ on)) ∙ (line_or_end d).1

-- A process of a sound application that is placed, which came by name, is good.
pub process_good : (app : App) → IsTrue (is_sound app) → placement app ≡ Yes → (birth : Entry) → birth.span ≡ 1
    → ((task : Task) → task_of app birth ≡ Some task → CameByName app task)
    → Good app (more app nothing birth.object birth.span birth.call birth.reply) (tree_of app birth)
process_good app sound placed birth first_span by_name =
    started_each (Good app (more app nothing birth.object birth.span birth.call birth.reply)) app birth (λ end. tt)
    (λ task ids is has.
    let service : ℕ = task.role.service in
    let handler : ℕ = task.role.handler in
    let body : Block = its_body app task in
    let called : Bool = is_called app service handler in
    let named : Bool = is_named app service handler in
    let came : CameByName app task = by_name task is in
    let fine : (d : Doubt) → fault_of (all_that_fail called) d body (at_start named d) ≡ None =
    none_by called named body (body_fine app placed service handler) in
    body_good (setting_of app task) called came.called body (body_stands app sound service handler) 1 (length (lines_of body) + 1)
    (at_start named) (no_line called named body fine) (no_end called named body fine) (record first_local { carried = ids })
    (more app nothing birth.object birth.span birth.call birth.reply)
    (at_birth app task.role.region named birth first_span ids (carries_first app birth task is ids has)
    (λ off i inside. came.unnamed off ids has i inside)))

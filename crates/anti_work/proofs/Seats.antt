-- Two entries of an object have the same seat just where they are of the same worker.
use Rattle.std.proofs.Common.{◌≡◌, ℕ, ◌+◌, ◌<◌, true, List, [], ◌∷◌, get_or, refl, sym, ap, ◌∙◌, subst, arith}
use Rattle.std.specs.Prelude.{◌↔◌, All, Contains, Option, None, Some, IfSome, IsTrue, option_and_then, option_map}
use Rattle.std.proofs.lemmas.List.Elements.{All-contains, Contains-append_right, Contains-get_or}
use Rattle.anti_kind.specs.declared.actor.Actor.{Actor}
use Rattle.anti_kind.specs.declared.actor.Actor.TheVariants.{Carrier, Process, Newborn}
use Rattle.anti_kind.specs.declared.call.Call.{Call}
use Rattle.anti_kind.specs.declared.entry.Entry.{Entry}
use Rattle.anti_kind.proofs.Finding.{filter_contains}
use Rattle.anti_app.specs.declared.app.App.{App}
use Rattle.anti_app.specs.Sound.{is_sound}
use Rattle.anti_proc.specs.Tasks.{role_of, task_for, task_of}
use Rattle.anti_proc.specs.declared.task.Role.{Role}
use Rattle.anti_trace.specs.Legal.{IsLife, bears}
use Rattle.anti_trace.specs.Traces.{IsTrace, entries_by, entries_on, is_by}
use Rattle.anti_trace.proofs.Puts.{same_actor_itself}
use Rattle.anti_work.specs.Workers.{IsLeft, service_of, worker_at, worker_of}
use Rattle.anti_work.specs.inner.Trying.{StartItsOwn}
use Rattle.anti_work.specs.inner.Works.{AreMadeBy}
use Rattle.anti_work.proofs.Left.{IsLeftBy, all_made_start}
use Rattle.anti_work.proofs.Merged.{IsCallOf, did_same, from_trace, inside, its_carrier, none_in, of_worker}

-- the worker of a process whose birth starts a handler of the worker's
worker_by : (app : App) (number : ℕ) (birth : Entry) (later : List Entry) (role : Option Role) → role_of app birth ≡ role
    → (role ≡ None → ⊥) → IfSome role (λ r. worker_at app r.service ≡ number)
    → option_map (worker_at app) (service_of app (birth ∷ later)) ≡ Some number
worker_by app number birth later None is some its = absurd (some refl)
worker_by app number birth later (Some r) is some its =
    ap (λ (x : Option Role). option_map (worker_at app) (option_map (λ y. y.service) x)) is ∙ ap Some its

module _ (app : App) (histories : ℕ → List Entry) (seat : ℕ → ℕ → ℕ) (count : ℕ) (works : ℕ → List Entry)
    (are : AreMadeBy app histories seat count works)
    (trace : List Entry) (order : IsTrace trace) (same : (o : ℕ) → entries_on o trace ≡ histories o)
    (sound : IsTrue (is_sound app))
    (ours : (w : ℕ) → w < count → StartItsOwn app (w + 1) (works w)) where
  -- a worker made each call as an actor of its own
  pub own_actor : (a : Actor) (w : ℕ) → w < count → (e : Entry) → Contains (entries_by a (works w)) e → worker_of app trace a ≡ Some (w + 1)
  own_actor (Carrier n) w low e among = ap Some (its_carrier app histories seat count works are n w low e among)
  own_actor (Process b) w low e among = by_entries (entries_by (Process b) (works w)) refl ((are.work_is w low).actors (Process b))
    where
      by_entries : (es : List Entry) → entries_by (Process b) (works w) ≡ es → IsLife app b es → worker_of app trace (Process b) ≡ Some (w + 1)
      by_entries [] is life = absurd (none_in (entries_by (Process b) (works w)) e is among)
      by_entries (birth ∷ later) is life =
          let first : Contains (entries_by (Process b) (works w)) birth = subst (λ (h : List Entry). Contains h birth) (sym is) (0, omega arith, refl) in
          let called : Contains (works w) birth = ((filter_contains (is_by (Process b)) (works w) birth).0 first).0 in
          let all : entries_by (Process b) trace ≡ birth ∷ later =
          did_same app histories seat count works are trace order same (Process b) w low e among ∙ is in
          let starts : bears birth.call ≡ true → task_of app birth ≡ None → ⊥ =
          All-contains (λ x. bears x.call ≡ true → task_of app x ≡ None → ⊥) (works w) birth
          (all_made_start app histories seat count works are trace order same sound w low) called in
          let its : bears birth.call ≡ true → IfSome (role_of app birth) (λ role. worker_at app role.service ≡ w + 1) =
          All-contains (λ x. bears x.call ≡ true → IfSome (role_of app x) (λ role. worker_at app role.service ≡ w + 1)) (works w) birth (ours w low) called in
          ap (λ (es : List Entry). option_map (worker_at app) (service_of app es)) all
          ∙ worker_by app (w + 1) birth later (role_of app birth) refl
          (λ none. starts life.0.call (ap (λ (x : Option Role). option_and_then (task_for app birth.object birth.reply) x) none)) (its life.0.call)
  own_actor Newborn w low e among = absurd (none_in (entries_by Newborn (works w)) e ((are.work_is w low).actors Newborn) among)

  pub worker_is : (w : ℕ) → w < count → (e : Entry) → Contains (works w) e → worker_of app trace e.actor ≡ Some (w + 1)
  worker_is w low e among = own_actor e.actor w low e ((filter_contains (is_by e.actor) (works w) e).1 (among, same_actor_itself e.actor))

  pub same_seats : All (λ d. All (λ e. d.object ≡ e.object → (d.seat ≡ e.seat) ↔ (worker_of app trace d.actor ≡ worker_of app trace e.actor)) trace) trace
  same_seats = λ j x l k y r on.
      let d : Entry = get_or trace j x in
      let e : Entry = get_or trace k y in
      let there : Contains (histories d.object) d = from_trace app histories seat count works are trace order same d (Contains-get_or trace j x l) in
      let one : IsCallOf seat count works d.object d = of_worker app histories seat count works are d.object d there in
      let other : IsCallOf seat count works e.object e =
      of_worker app histories seat count works are e.object e (from_trace app histories seat count works are trace order same e (Contains-get_or trace k y r)) in
      let other_seat : e.seat ≡ seat other.worker d.object = other.seat_is ∙ ap (seat other.worker) (sym on) in
      let first : worker_of app trace d.actor ≡ Some (one.worker + 1) = worker_is one.worker one.low d one.own in
      let second : worker_of app trace e.actor ≡ Some (other.worker + 1) = worker_is other.worker other.low e other.own in (
        λ seats.
            let same_worker : one.worker ≡ other.worker =
            are.apart d.object one.worker other.worker (inside app histories seat count works are d.object d there) one.low other.low
            (sym one.seat_is ∙ seats ∙ other_seat) in
            first ∙ ap (λ (w : ℕ). Some (w + 1)) same_worker ∙ sym second,
        λ workers.
            let both : Some (one.worker + 1) ≡ Some (other.worker + 1) = sym first ∙ workers ∙ second in
            let numbers : one.worker + 1 ≡ other.worker + 1 = cc in
            let same_worker : one.worker ≡ other.worker = omega arith in
            one.seat_is ∙ ap (λ (w : ℕ). seat w d.object) same_worker ∙ sym other_seat,
      )

  -- what was left undone by a worker's pass was left undone by the worker
  pub left_by_worker : (w : ℕ) → w < count → (o : ℕ) (call : Call) → IsLeftBy app o (seat w o) (histories o) call → IsLeft app trace (w + 1) o call
  left_by_worker w low o call left = record {
    start = left.start;
    there = left.there;
    before = left.before;
    after = left.after;
    history = same o ∙ left.history_is;
    none = λ k d short its.
        let e : Entry = get_or left.after k d in
        let among : Contains (histories o) e =
        subst (λ (h : List Entry). Contains h e) (sym left.history_is) (Contains-append_right left.before left.after e (Contains-get_or left.after k d short)) in
        let made : IsCallOf seat count works o e = of_worker app histories seat count works are o e among in
        let both : Some (made.worker + 1) ≡ Some (w + 1) = sym (worker_is made.worker made.low e made.own) ∙ its in
        let numbers : made.worker + 1 ≡ w + 1 = cc in
        let same_worker : made.worker ≡ w = omega arith in
        left.none k d short (made.seat_is ∙ ap (λ (v : ℕ). seat v o) same_worker);
    blocked = left.blocked;
  }

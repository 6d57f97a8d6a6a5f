use Rattle.std.proofs.Common.{◌≡◌, ◌==◌, ◌-◌, ◌∙◌, ◌<◌, ◌≤◌, ℕ, List, false, not, ap, sym, refl, get_or, length, set, subst, eq-eqb, arith}
use Rattle.std.specs.List.{filter}
use Rattle.std.proofs.lemmas.List.{get_or_default}
use Rattle.anti_inbox.specs.declared.inbox.Fate.{Fate}
use Rattle.anti_inbox.specs.inner.Fates.{is_reposted, taken}
use Rattle.anti_inbox.specs.inner.Inboxes.{requests_of}
use Rattle.anti_flight.specs.Queued.{Queued}
use Rattle.anti_inbox.proofs.Lists.{filter-remove, remove_once}
use Rattle.anti_inbox.proofs.Delivered.{free_once}
use Rattle.anti_inbox.proofs.Reading.{IsHanding, taking_within, handing, count_fates, fate_at}
use Rattle.anti_inbox.proofs.inbox.Inbox.take.Goals as goal
use Rattle.anti_inbox.proofs.inbox.Inbox.take.Goals.{After-remove-number}

there : (c : After-remove-number) → (1 ≤ c.args.nth) × (c.args.nth ≤ length c.args.self.now.free.items)
there c = taking_within c.args.self.now c.requires.history c.args.nth c.requires.stands_for c.requires.is_ready

is : (c : After-remove-number) → IsHanding c.args.self.now c.requires.history c.args.nth c.remove-number.result
is c = handing c.args.self.now c.requires.history c.args.nth c.remove-number.result c.requires.stands_for (there c) c.remove-number.ensures.value

-- the number, whatever the default
number : (c : After-remove-number) (d : ℕ) → get_or c.args.self.now.free.items (c.args.nth - 1) d ≡ c.remove-number.result
number c d =
    get_or_default c.args.self.now.free.items (c.args.nth - 1) d c.remove-number.result (omega (arith, there c))
    ∙ sym c.remove-number.ensures.value

within : (c : After-remove-number) → c.remove-number.result - 1 < length c.args.self.now.fates.items
within c =
    let hand = is c in
    omega (arith, hand.some, hand.within, count_fates c.args.self.now c.requires.history c.requires.stands_for)

pub overflow_sub-number : goal.overflow_sub-number
overflow_sub-number c = (is (goal.at.overflow_sub-number c).After-remove-number).some

pub index_mut-fate-requires : goal.index_mut-fate-requires
index_mut-fate-requires c =
    omega (arith, within (goal.at.index_mut-fate-requires c).After-remove-number, c.args.self.now.fates.ok.0)

fates_are : (c : After-remove-number) (f d : Fate) → f ≡ get_or c.args.self.now.fates.items (c.remove-number.result - 1) f
    → set c.args.self.now.fates.items (c.remove-number.result - 1) (taken f)
    ≡ set c.args.self.now.fates.items (get_or c.args.self.now.free.items (c.args.nth - 1) 0 - 1)
    (taken (get_or c.args.self.now.fates.items (get_or c.args.self.now.free.items (c.args.nth - 1) 0 - 1) d))
fates_are c f d is_fate =
    let fates = c.args.self.now.fates.items in
    let n : ℕ = c.remove-number.result in
    ap (λ (x : Fate). set fates (n - 1) (taken x)) (is_fate ∙ get_or_default fates (n - 1) f d (within c))
    ∙ ap (λ (k : ℕ). set fates (k - 1) (taken (get_or fates (k - 1) d))) (sym (number c 0))

-- the delivery that is handed out does not pass
off : (c : After-remove-number) → not (get_or c.args.self.now.free.items (c.args.nth - 1) 0 == c.remove-number.result) ≡ false
off c = ap not (eq-eqb (get_or c.args.self.now.free.items (c.args.nth - 1) 0) c.remove-number.result (number c 0))

pub returns-then-fate : goal.returns-then-fate
returns-then-fate c = λ d.
    let free = c.args.self.now.free.items in
    let n : ℕ = c.remove-number.result in
    let at = (goal.at.returns-then-fate c).After-remove-number in
    record {
      requests_is = refl;
      messages_are = refl;
      fates_are = fates_are at c.index_mut-fate.result.now d c.index_mut-fate.ensures.value;
      free_are =
          ap (λ (w : Queued ℕ). w.items) c.remove_all.ensures
          ∙ ap (λ (w : Queued ℕ). filter (λ k. not (k == n)) w.items) c.remove-number.ensures.left
          ∙ filter-remove (λ k. not (k == n)) free (c.args.nth - 1) 0 (omega (arith, there at)) (off at)
          ∙ ap (λ (j : ℕ). filter (λ k. not (k == j)) free) (sym (number at 0));
      came_within = omega (arith, ap (λ (w : Queued ℕ). w.next) c.remove_all.ensures, ap (λ (w : Queued ℕ). w.next) c.remove-number.ensures.left);
      held_is = refl;
      owed_is = refl;
    }

pub returns-else-fate : goal.returns-else-fate
returns-else-fate c = λ d.
    let m = c.args.self.now in
    let h = c.requires.history in
    let n : ℕ = c.remove-number.result in
    let at = (goal.at.returns-else-fate c).After-remove-number in
    let fate : c.index_mut-fate.result.now ≡ get_or m.fates.items (n - 1) c.index_mut-fate.result.now = c.index_mut-fate.ensures.value in
    let reposted : is_reposted h n ≡ false =
    ap (λ (f : Fate). f.reposted)
    (sym (fate_at m h c.requires.stands_for n c.index_mut-fate.result.now (is at).some (omega (arith, (is at).some, within at))) ∙ sym fate)
    ∙ c.if-fate.false in
    let once : length (filter (λ k. k == n) m.free.items) ≤ 1 =
    subst (λ (ks : List ℕ). length (filter (λ k. k == n) ks) ≤ 1) (sym c.requires.stands_for.state.knows.free_are)
    (free_once (requests_of m) h n c.requires.stands_for.legal reposted) in
    record {
      requests_is = refl;
      messages_are = refl;
      fates_are = fates_are at c.index_mut-fate.result.now d fate;
      free_are =
          ap (λ (w : Queued ℕ). w.items) c.remove-number.ensures.left
          ∙ remove_once m.free.items (c.args.nth - 1) n 0 (omega (arith, there at)) (number at 0) once
          ∙ ap (λ (j : ℕ). filter (λ k. not (k == j)) m.free.items) (sym (number at 0));
      came_within = omega (arith, ap (λ (w : Queued ℕ). w.next) c.remove-number.ensures.left);
      held_is = refl;
      owed_is = refl;
    }

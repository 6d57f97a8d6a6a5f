use Rattle.std.proofs.Common.{◌≡◌, ℕ, ◌*◌, ◌<◌, ◌≤◌, List, [], ◌∷◌, ◌++◌, length, get_or, set, sym, ap, subst, take, ◌+◌, ◌∙◌, arith}
use Rattle.std.proofs.lemmas.List.{set-get_or}
use Rattle.anti_flight.specs.Queued.{Queued, queued}
use Rattle.anti_replicas.specs.declared.replicas.Replicas.{Replicas}
use Rattle.anti_replicas.specs.inner.Backlogs.{AreBehind, HaveNext}
use Rattle.anti_replicas.proofs.Backlogs.{waits_now, waits_already}
use Rattle.anti_replicas.proofs.Bringing.{listed_below}
use Rattle.anti_replicas.proofs.replicas.Replicas.await_next.Goals as goal
use Rattle.anti_replicas.proofs.replicas.Replicas.await_next.Goals.{then-saturating_mul-kept+in_ok-push, else-saturating_mul-kept}

pub returns-then-kept-ne0-clause-ok : goal.returns-then-kept-ne0-clause-ok
returns-then-kept-ne0-clause-ok c = λ g d among.
    let m : Replicas = c.args.self.now in
    omega (
      arith,
      c.if-kept-ne0.true,
      c.len-kept.ensures,
      m.kept.ok.0,
      (c.requires.behind.behind g d (listed_below m.regions.items c.requires.regions g among) among).least,
    )

pub loop-at-preserved : goal.loop-at-preserved
loop-at-preserved c =
    let m : Replicas = c.args.self.now in let now : Replicas = c.loop-at.self in let n : Replicas = c.if-saturating_mul-kept.self in
    let i : ℕ = c.loop-at.at in let r : ℕ = c.index-region.result.now in let was = c.loop-at.invariant in
    let short : i < length m.regions.items = omega (arith, c.loop-at-test.true, c.len-at-end.ensures, m.regions.ok.0) in
    let here : r ≡ get_or m.regions.items i r = c.index-region.ensures ∙ ap (λ (l : Replicas). get_or l.regions.items i r) was.only in
    let d : Queued ℕ = c.index_mut-backlog.result.now in
    let its : d ≡ get_or now.backlogs.items r d = c.index_mut-backlog.ensures.value in
    let kept : c.len-kept.result ≡ length m.kept.items = omega (arith, c.len-kept.ensures, m.kept.ok.0) in
    elim c.if-saturating_mul-kept.branch [
      | then-saturating_mul-kept+in_ok-push w ↦
          let full : (get_or now.backlogs.items r d).next * 8 ≤ length m.kept.items =
          omega (arith, c.saturating_mul.ensures, c.last_put.ensures, ap (λ (q : Queued ℕ). q.next) its, w.if-saturating_mul-kept.true, kept, c.requires.few) in
          let new : Queued ℕ = w.push.new.self in
          let waits = waits_now m.kept.items m.regions.items i r short here c.requires.regions now.backlogs.items was.behind was.have d full new
          (w.in_ok-push.ensures.ok ∙ ap (λ (q : Queued ℕ). queued (q.items ++ (q.next + 1) ∷ []) (q.next + 1)) its) in
          let is : n.backlogs.items ≡ set now.backlogs.items r new = ap (λ (l : Replicas). l.backlogs.items) w.self-is in
          record {
            only = ap (λ (l : Replicas). record l { backlogs = n.backlogs }) w.self-is ∙ ap (λ (l : Replicas). record l { backlogs = n.backlogs }) was.only;
            behind = subst (λ (bs : List (Queued ℕ)). AreBehind m.regions.items m.kept.items bs) (sym is) waits.0;
            have = subst (λ (bs : List (Queued ℕ)). HaveNext (take (i + 1) m.regions.items) m.kept.items bs) (sym is) waits.1;
          }
      | else-saturating_mul-kept w ↦
          let there : (get_or now.backlogs.items r d).next * 8 ≤ length m.kept.items → ⊥ =
          λ full. omega (arith, c.saturating_mul.ensures, c.last_put.ensures, ap (λ (q : Queued ℕ). q.next) its, w.if-saturating_mul-kept.false, kept, full) in
          let same : set now.backlogs.items r d ≡ now.backlogs.items = ap (set now.backlogs.items r) its ∙ set-get_or now.backlogs.items r d in
          let is : n.backlogs.items ≡ now.backlogs.items = ap (λ (l : Replicas). l.backlogs.items) w.self-is ∙ same in
          record {
            only = ap (λ (l : Replicas). record l { backlogs = n.backlogs }) w.self-is ∙ ap (λ (l : Replicas). record l { backlogs = n.backlogs }) was.only;
            behind = subst (λ (bs : List (Queued ℕ)). AreBehind m.regions.items m.kept.items bs) (sym is) was.behind;
            have = subst (λ (bs : List (Queued ℕ)). HaveNext (take (i + 1) m.regions.items) m.kept.items bs) (sym is)
                (waits_already m.kept.items m.regions.items i r short here c.requires.regions now.backlogs.items was.behind was.have d there);
          }
    ]

use Rattle.std.proofs.Common.{◌≡◌, ◌++◌, ◌+◌, ◌==◌, ℕ, List, drop, sym, ap, ◌∙◌, subst}
use Rattle.std.specs.List.{list_any}
use Rattle.anti_live.specs.Stores.{here_from, here_of}
use Rattle.anti_live.proofs.Replicas.{none_found, one_found}
use Rattle.anti_live.proofs.clients.here_at.Goals.{then-contains+in_ok-push, else-contains}
use Rattle.anti_live.proofs.clients.here_at.Goals as goal

pub loop-number-preserved : goal.loop-number-preserved
loop-number-preserved c =
    let any : c.contains.result ≡ list_any (λ g. g == c.args.region) c.index-stores-number.result.regions.items = c.contains.ensures.value ∙ ap (list_any (λ g. g == c.args.region)) c.as_slice.ensures in
    elim c.if-contains.branch [
      | then-contains+in_ok-push w ↦
          subst (λ (found : List ℕ). found ++ here_from c.args.region (c.loop-number.number + 1) (drop (c.loop-number.number + 1) c.args.stores.now) ≡ here_of c.args.region c.args.stores.now)
          (sym (ap (λ v. v.items) w.here-is ∙ w.in_ok-push.ensures.items))
          (one_found c.args.region c.args.stores.now c.loop-number.number c.index-stores-number.result c.loop-number-test.true c.index-stores-number.is c.loop-number.here.items
          c.loop-number.invariant (sym any ∙ w.if-contains.true))
      | else-contains w ↦
          subst (λ (found : List ℕ). found ++ here_from c.args.region (c.loop-number.number + 1) (drop (c.loop-number.number + 1) c.args.stores.now) ≡ here_of c.args.region c.args.stores.now)
          (sym (ap (λ v. v.items) w.here-is))
          (none_found c.args.region c.args.stores.now c.loop-number.number c.index-stores-number.result c.loop-number-test.true c.index-stores-number.is c.loop-number.here.items
          c.loop-number.invariant (sym any ∙ w.if-contains.false))
    ]

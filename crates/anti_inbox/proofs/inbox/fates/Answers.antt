use Rattle.std.proofs.Common.{◌++◌, ◌∷◌, [], List, ap, sym, ◌∙◌}
use Rattle.anti_inbox.specs.declared.inbox.Fate.{Fate}
use Rattle.anti_inbox.specs.inner.Fates.{untouched}
use Rattle.anti_inbox.proofs.Fates.{untouched_more}
use Rattle.anti_inbox.proofs.inbox.fates.Goals as goal

pub loop-before-preserved : goal.loop-before-preserved
loop-before-preserved c =
    c.in_ok-push.ensures.items
    ∙ ap (λ (fs : List Fate). fs ++ untouched ∷ []) c.loop-before.invariant
    ∙ sym (untouched_more c.loop-before._before)

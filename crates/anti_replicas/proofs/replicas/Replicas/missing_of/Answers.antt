use Rattle.std.proofs.Common.{sym, ◌∙◌}
use Rattle.anti_kind.specs.Store.{is_visible}
use Rattle.anti_replicas.specs.Stores.{showing_whole}
use Rattle.anti_replicas.proofs.Reading.{all_pass, none_passes}
use Rattle.anti_replicas.proofs.replicas.Replicas.missing_of.Goals as goal

pub returns-then-found : goal.returns-then-found
returns-then-found c = λ s h at visible shown.
    c.root.ensures ∙ sym (all_pass (is_visible (showing_whole s) h c.args.region) c.args.ids.now (sym visible ∙ c.if-found.true))

pub returns : goal.returns
returns c = λ s h at visible shown.
    c.in_ok-all.ensures ∙ sym (none_passes (is_visible (showing_whole s) h c.args.region) c.args.ids.now (sym shown ∙ c.if-found-2.false))

use Rattle.std.proofs.Common.{ℕ, ◌+◌, ◌^◌, ◌-◌, min, Option, unwrap_or, ap, ◌∙◌}
use Rattle.anti_replicas.proofs.Counting.{added}
use Rattle.anti_replicas.proofs.channels.Channels.add.Goals as goal

pub returns-in-Some : goal.returns-in-Some
returns-in-Some c =
    let after = c.saturating_add.result in
    added c.args.self.now (record { counts = c.get_mut.follows.lender after }) c.args.channel.now after ((c.get_mut.follows.holds after).3 c.requires)
    (c.saturating_add.ensures ∙ ap (λ (o : Option ℕ). min (unwrap_or o 0 + 1) (2 ^ 64 - 1)) c.in-Some.ensures.value)

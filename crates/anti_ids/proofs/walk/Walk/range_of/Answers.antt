use Rattle.std.proofs.Common.{◌<◌}
use Rattle.anti_ids.proofs.WalkLemmas.{lineage_back, own_between}
use Rattle.anti_ids.proofs.walk.Walk.range_of.Goals as goal

pub pass-len-requires : goal.pass-len-requires
pass-len-requires c = lineage_back (λ i. i.store < c.args.store) c.args.self c.pass-from.new.self c.pass-from.result c.pass-from.ensures.passed c.requires

pub returns : goal.returns
returns c =
    own_between c.args.store c.args.self c.pass-from.new.self c.pass-len.new.self c.pass-from.result c.pass-len.result c.pass-from.ensures.passed c.pass-from.ensures.high
    c.pass-len.ensures.passed c.pass-len.ensures.high

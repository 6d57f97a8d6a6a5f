use Rattle.std.proofs.Common.{sym, arith}
use Rattle.anti_ids.proofs.NameLemmas.{holds, named, none_bad}
use Rattle.anti_ids.proofs.name.Name.new.Goals as goal

pub invariant_of-result : goal.invariant_of-result
invariant_of-result c =
    holds _ c.args.bytes.now c.padded.ensures (named c.args.bytes.now c.if-is_empty.ensures (omega arith) (none_bad c.args.bytes.now (sym c.in-None.ensures))) (omega arith)

use Rattle.std.proofs.Common.{◌<◌, length, sym, ap, ◌∙◌, arith}
use Rattle.std.proofs.lemmas.List.Sums.{prefix_len-le-length}
use Rattle.anti_replicas.specs.inner.Marks.{has_all}
use Rattle.anti_replicas.proofs.Behind.{reaches_next, stops_here}
use Rattle.anti_replicas.proofs.replicas.Replicas.whole_from.Goals as goal

pub returns-then-not-is_whole : goal.returns-then-not-is_whole
returns-then-not-is_whole c = λ known.
    let ks = c.args.self.now.kept.items in
    let whole = has_all c.args.region in
    let short : c.loop-at.at < length ks = omega (arith, c.loop-at-test.true, c.len-at-end.ensures, c.args.self.now.kept.ok.0) in
    stops_here whole ks c.loop-at.at c.index.result.now short (c.loop-at.invariant known)
    (ap whole (sym c.index.ensures) ∙ sym c.is_whole.ensures ∙ c.if-not-is_whole.true)

pub loop-at-preserved : goal.loop-at-preserved
loop-at-preserved c = λ known.
    let ks = c.args.self.now.kept.items in
    let whole = has_all c.args.region in
    let short : c.loop-at.at < length ks = omega (arith, c.loop-at-test.true, c.len-at-end.ensures, c.args.self.now.kept.ok.0) in
    reaches_next whole ks c.loop-at.at c.index.result.now short (c.loop-at.invariant known)
    (ap whole (sym c.index.ensures) ∙ sym c.is_whole.ensures ∙ c.if-not-is_whole.false)

pub returns : goal.returns
returns c = λ known.
    omega (arith, c.loop-at-test.false, c.len-at-end.ensures, c.len.ensures, c.args.self.now.kept.ok.0, c.loop-at.invariant known, prefix_len-le-length (has_all c.args.region) c.args.self.now.kept.items)

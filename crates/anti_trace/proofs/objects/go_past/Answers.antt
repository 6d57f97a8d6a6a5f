use Rattle.std.proofs.Common.{refl}
use Rattle.anti_trace.proofs.GonePast.{gone_past, may_apply}
use Rattle.anti_trace.proofs.objects.go_past.Goals as goal

pub apply-requires : goal.apply-requires
apply-requires c =
    may_apply c.requires.0 c.requires.1.0 c.args.entry.now c.args.objects.now.items c.requires.1.1 c.index_mut.result.now c.index_mut.ensures.value

pub returns : goal.returns
returns c = λ app before all. gone_past app before c.args.entry.now c.args.objects.now.items all c.index_mut.result.now c.index_mut.ensures.value
    c.apply.new.self c.in_ok-apply.ensures.start (λ h at follows. c.in_ok-apply.ensures.stands h c.args.entry.now at follows refl refl)

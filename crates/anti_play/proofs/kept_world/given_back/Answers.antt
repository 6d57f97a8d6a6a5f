use Rattle.std.proofs.Common.{◌<◌, length, sym, subst, arith}
use Rattle.std.proofs.lemmas.Iterator.Adapters.{YieldsList-from_vec}
use Rattle.std.proofs.lemmas.Iterator.Consumers.{YieldsList-turn}
use Rattle.anti_kind.specs.declared.entry.Entry.{Entry}
use Rattle.anti_play.proofs.KeptWorld.{back_more, back_none}
use Rattle.anti_play.proofs.kept_world.given_back.Goals as goal

pub loop-entry-init : goal.loop-entry-init
loop-entry-init c = back_none c.args.objects.items

pub put_back-requires : goal.put_back-requires
put_back-requires c =
    let turn = YieldsList-turn (YieldsList-from_vec c.args.entries.items (cc) (cc)) c.loop-entry.yielded _ c.loop-entry.yielded_by _ c.next.new.self c.in-Some.entry c.in-Some.is c.next.ensures.steps in
    let low : c.in-Some.entry.object < length c.args.objects.items =
    subst (λ (e : Entry). e.object < length c.args.objects.items) (sym turn.1) (c.requires (length c.loop-entry.yielded) c.in-Some.entry turn.0) in
    let count = c.loop-entry.invariant.count in omega arith

pub loop-entry-preserved : goal.loop-entry-preserved
loop-entry-preserved c =
    let turn = YieldsList-turn (YieldsList-from_vec c.args.entries.items (cc) (cc)) c.loop-entry.yielded _ c.loop-entry.yielded_by _ c.next.new.self c.in-Some.entry c.in-Some.is c.next.ensures.steps in
    let low : c.in-Some.entry.object < length c.args.objects.items =
    subst (λ (e : Entry). e.object < length c.args.objects.items) (sym turn.1) (c.requires (length c.loop-entry.yielded) c.in-Some.entry turn.0) in
    back_more c.args.objects.items c.loop-entry.yielded c.loop-entry.objects.items c.loop-entry.invariant c.in-Some.entry c.put_back.new.objects.items c.in_ok-put_back.ensures low

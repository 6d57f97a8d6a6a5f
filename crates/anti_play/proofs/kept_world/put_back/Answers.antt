use Rattle.std.proofs.Common.{refl}
use Rattle.std.proofs.lemmas.Result.{on_ok_weaker}
use Rattle.anti_play.proofs.KeptWorld.{back_at}
use Rattle.anti_play.proofs.kept_world.put_back.Goals as goal

pub returns : goal.returns
returns c =
    on_ok_weaker c.add.result
    (λ put. back_at c.args.objects.now.items _ c.args.entry c.index_mut-pair.result.now c.add.new.self c.index_mut-pair.ensures.value c.requires refl put) c.add.ensures.ok

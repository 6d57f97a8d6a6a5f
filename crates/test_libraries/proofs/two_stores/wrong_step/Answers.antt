use Rattle.std.proofs.Common.{[], ◌∷◌, ◌∙◌, Option, ap, refl}
use Rattle.anti_kind.specs.Lones.{Alone, lone_start}
use Rattle.anti_kind.specs.Objects.{Start}
use Rattle.anti_kind.specs.Ports.{first_start}
use Rattle.anti_kind.specs.Starts.{kv_store}
use Rattle.anti_kv.specs.KvStates.{its_start}
use Rattle.anti_kv.specs.declared.kv_store.Kv.{Kv}
use Rattle.test_libraries.proofs.Here.{here_both}
use Rattle.test_libraries.proofs.two_stores.wrong_step.Goals as goal

pub wrong_step_at-requires : goal.wrong_step_at-requires
wrong_step_at-requires c =
    let second = lone_start its_start c.in-Ok-new-3.second in
    here_both _ (its_start c.in-Ok.first) (its_start c.in-Ok-new-2.second)
    (ap (λ (start : Option Start). first_start start (second 0)) c.in-Ok-new.ensures.start) (kv_store 0 (0 ∷ []), c.in-Ok.ensures.start, refl, refl)
    (ap (λ (port : Alone Kv). first_start (lone_start its_start port 1) (second 1)) c.in-Ok-new.ensures.alone ∙ c.in-Ok-new-3.ensures.start)
    (kv_store 1 (0 ∷ []), c.in-Ok-new-2.ensures.start, refl, refl)

use Rattle.std.proofs.Common.{[], ◌∷◌, refl}
use Rattle.anti_kind.specs.Starts.{kv_store}
use Rattle.anti_kv.specs.KvStates.{its_start, kv_start}
use Rattle.anti_shared.specs.Passes.{first_pass, port_start}
use Rattle.test_libraries.proofs.Here.{here_alone}
use Rattle.test_libraries.proofs.shared.is_well.Goals as goal

pub go_through-next-requires-clause-here : goal.go_through-next-requires-clause-here
go_through-next-requires-clause-here g c κs within =
    here_alone (port_start its_start (first_pass c.in-Some.shared.id)) (kv_start 0 (0 ∷ [])) c.in-Some.ensures.start (kv_store 0 (0 ∷ []), refl, refl, refl)

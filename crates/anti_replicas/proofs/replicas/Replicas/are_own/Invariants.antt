use Rattle.std.proofs.Common.{◌≡◌, ◌==◌}
use Rattle.std.specs.List.{list_all}
use Rattle.anti_replicas.specs.Stores.{number_of}
use Rattle.anti_replicas.proofs.replicas.Replicas.are_own.Given as goal

abbrev pub invariant-loop-id : goal.invariant-loop-id
invariant-loop-id l =
    list_all (λ id. id.store == number_of l.self) l.id-iterator ≡ list_all (λ id. id.store == number_of l.self) l.ids

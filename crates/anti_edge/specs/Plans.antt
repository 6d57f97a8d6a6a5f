-- What a plan of failures says of the next call.
use Rattle.std.specs.Prelude.{ℕ, ◌+◌, ◌-◌, ◌^◌, min, Bool, ◌==◌, if◌then◌else◌, List}
use Rattle.anti_ids.specs.List.{plain}
use Rattle.std.specs.List.{list_any}
use Rattle.anti_edge.specs.declared.plan.Plan.{Plan}

-- one more, up to the greatest u64
abbrev pub counted : ℕ → ℕ
counted n = min (n + 1) (2 ^ 64 - 1)

-- the plan before the first call
abbrev pub fresh_plan : ℕ → List ℕ → Plan
fresh_plan most fail = record { most = most; fail = plain fail; calls = 0; faults = 0 }

-- whether the next call is one of those that fail
abbrev pub is_listed : Plan → Bool
is_listed plan = list_any (λ listed. listed == counted plan.calls) plan.fail.items

-- the plan after one more failure
abbrev pub after_fault : Plan → Plan
after_fault plan = record plan { faults = counted plan.faults }

-- the plan once the next call is counted, and its failure where it is listed
abbrev pub after_call : Plan → Plan
after_call plan =
    if is_listed plan then record plan { calls = counted plan.calls; faults = counted plan.faults } else record plan { calls = counted plan.calls }

-- The least room of passes.
use Rattle.std.proofs.Common.{◌≡◌, ◌≤◌, min, List, [], ◌∷◌, ◌++◌, arith}
use Rattle.anti_object.specs.declared.object.Object.{Object}
use Rattle.anti_shared.specs.Passes.{PassView}
use Rattle.anti_live.specs.Clients.{least_room}

pub most_room : (passes : List (PassView Object)) → least_room passes ≤ 4294967294
most_room [] = omega arith
most_room (pass ∷ rest) = let before = most_room rest in omega arith

-- one more pass
pub least_more : (passes : List (PassView Object)) (pass : PassView Object) → pass.room ≤ 4294967294 → least_room (passes ++ pass ∷ []) ≡ min (least_room passes) pass.room
least_more [] pass most = omega arith
least_more (first ∷ rest) pass most = let before = least_more rest pass most in omega arith

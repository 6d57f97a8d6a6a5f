use Rattle.std.proofs.Common.{◌≡◌, ℕ, List, length, replicate, ap, ◌∙◌, rules}
use Rattle.std.specs.Prelude.{slice_index}
use Rattle.std.proofs.lemmas.List.{get_or-replicate, length-replicate}
use Rattle.anti_app.specs.Objects.{object_count}
use Rattle.anti_app.proofs.Runnable.{can_run}
use Rattle.anti_past.proofs.trail_cursor.TrailCursor.new.Goals as goal

pub object_count-requires : goal.object_count-requires
object_count-requires c = can_run c.args.app.now c.requires

pub returns : goal.returns
returns c = λ trace.
    let count : ℕ = object_count c.args.app.now in
    let zeros : c.in_ok-passed.passed.items ≡ replicate c.object_count.result 0 = search rules in
    let all : c.in_ok-passed.passed.items ≡ replicate count 0 = zeros ∙ ap (λ (n : ℕ). replicate n 0) c.object_count.ensures in
    record {
      many = ap length all ∙ length-replicate count 0;
      each = λ o low. ap (λ (ns : List ℕ). slice_index ns o) all ∙ get_or-replicate count o 0 0 low;
    }

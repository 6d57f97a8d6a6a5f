use Rattle.std.proofs.Common.{◌≡◌, ◌≤◌, Bool, true, not, ◌&&◌, ◌||◌, length, sym, ap, ◌∙◌, arith}
use Rattle.anti_kind.specs.Kinds.{facts_of}
use Rattle.anti_kind.specs.Stored.{rows, row_of, is_shipped}
use Rattle.anti_kind.specs.Store.{has_part, is_next}
use Rattle.anti_replicas.proofs.Reading.{count_is}
use Rattle.anti_replicas.proofs.Bringing.{its_part}
use Rattle.anti_replicas.proofs.replicas.Replicas.can_ship.Goals as goal

pub returns : goal.returns
returns c = λ s h at.
    let m = c.args.self.now in
    let g = c.args.region in
    let v = c.args.version in
    let p = c.args.part in
    let has : has_part s.kind (row_of h v) p ≡ true = sym (c.has_part.ensures s h at) ∙ c.if-not-has_part.false in
    let there = its_part m s h at v p has in
    let few : v ≤ length (rows h) = omega (arith, there.1, count_is m s h at.state) in
    c.is_next.ensures s h at few
    ∙ ap (λ (b : Bool). not b && (not (facts_of s.kind).ordered || is_next h g v)) (sym c.if-was_shipped.false ∙ c.was_shipped.ensures s h at)
    ∙ ap (λ (b : Bool). b && (not (is_shipped h g v p) && (not (facts_of s.kind).ordered || is_next h g v))) (sym has)
    ∙ ap (λ (b : Bool). b && (has_part s.kind (row_of h v) p && (not (is_shipped h g v p) && (not (facts_of s.kind).ordered || is_next h g v)))) (sym c.if-not-is_replica.false ∙ c.is_replica.ensures s h at)

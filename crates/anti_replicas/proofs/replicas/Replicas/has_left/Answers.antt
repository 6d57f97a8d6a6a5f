use Rattle.std.proofs.Common.{◌≡◌, ℕ, ◌∷◌, List, length, ap, ◌∙◌, ◌==◌}
use Rattle.anti_ids.specs.Ids.{with_ids}
use Rattle.anti_ids.specs.declared.id.WriteId.{WriteId}
use Rattle.anti_kind.specs.declared.row.Row.{Row}
use Rattle.anti_replicas.proofs.Replacing.{left_by_length}
use Rattle.anti_replicas.proofs.replicas.Replicas.has_left.Goals as goal

-- where the union has no more ids all are there
pub returns : goal.returns
returns c =
    let row : Row = c.args.row.now in let ids : List WriteId = c.args.lineage.now in
    let id : WriteId = record { store = c.args.self.now.store; key = row.key; version = row.version } in
    let more : c.union_len.result ≡ length (with_ids (id ∷ row.lineage) ids) = c.union_len.ensures ∙ ap (λ (i : WriteId). length (with_ids (i ∷ row.lineage) ids)) c.id_of-id.ensures in
    left_by_length (id ∷ row.lineage) ids c.iter-ascending.ensures.lineage.ascending (c.union_len.result == c.len.result)
    (ap (λ (n : ℕ). n == c.len.result) more ∙ ap (λ (n : ℕ). length (with_ids (id ∷ row.lineage) ids) == n) c.len.ensures.len)

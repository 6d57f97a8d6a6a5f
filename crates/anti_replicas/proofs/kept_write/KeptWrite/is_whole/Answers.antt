use Rattle.std.proofs.Common.{◌<◌, ℕ, ap, subst, ◌∙◌, leb}
use Rattle.std.specs.Int.{trailing_ones, w8}
use Rattle.anti_replicas.specs.inner.Marks.{mask_at}
use Rattle.anti_replicas.proofs.Masks.{whole_by_front}
use Rattle.anti_replicas.proofs.kept_write.KeptWrite.is_whole.Goals as goal

pub returns : goal.returns
returns c =
    let k = c.args.self.now in
    let g = c.args.region in
    let byte : mask_at k g < 256 = subst (λ (m : ℕ). m < 256) c.mask.ensures c.mask.type_inv in
    ap (λ (n : ℕ). leb n c.trailing_ones.result) c.from.ensures
    ∙ ap (leb k.parts) (c.trailing_ones.ensures ∙ ap (trailing_ones w8) c.mask.ensures)
    ∙ whole_by_front k g byte

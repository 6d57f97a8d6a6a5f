use Rattle.std.proofs.Common.{◌≡◌, ◌<◌, ◌+◌, ℕ, Some, ap, sym, subst, ◌∙◌, arith}
use Rattle.std.specs.Int.{trailing_ones, w8}
use Rattle.anti_replicas.specs.inner.Marks.{mask_at}
use Rattle.anti_replicas.proofs.Masks.{missing_by_front, none_missing}
use Rattle.anti_replicas.proofs.kept_write.KeptWrite.first_missing.Goals as goal

pub returns-then-front-from : goal.returns-then-front-from
returns-then-front-from c =
    let k = c.args.self.now in
    let g = c.args.region in
    let byte : mask_at k g < 256 = subst (λ (m : ℕ). m < 256) c.mask.ensures c.mask.type_inv in
    let front : c.trailing_ones-front.result ≡ trailing_ones w8 (mask_at k g) = c.trailing_ones-front.ensures ∙ ap (trailing_ones w8) c.mask.ensures in
    ap (λ (n : ℕ). Some (n + 1)) front
    ∙ sym (missing_by_front k g byte (omega (arith, front, c.if-front-from.true, c.from.ensures)))

pub returns : goal.returns
returns c =
    let k = c.args.self.now in
    let g = c.args.region in
    let byte : mask_at k g < 256 = subst (λ (m : ℕ). m < 256) c.mask.ensures c.mask.type_inv in
    let front : c.trailing_ones-front.result ≡ trailing_ones w8 (mask_at k g) = c.trailing_ones-front.ensures ∙ ap (trailing_ones w8) c.mask.ensures in
    sym (none_missing k g byte (omega (arith, front, c.if-front-from.false, c.from.ensures)))

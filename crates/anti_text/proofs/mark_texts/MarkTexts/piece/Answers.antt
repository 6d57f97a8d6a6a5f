use Rattle.std.proofs.Common.{◌≡◌, ℕ, ◌-◌, ◌++◌, List, take, drop, length, map, sym, ap, ◌∙◌, subst, arith}
use Rattle.std.specs.List.{concat, flat_map, slice_range}
use Rattle.std.proofs.lemmas.List.{drop-map, length-map, take-map}
use Rattle.std.proofs.lemmas.List.Concat.{concat_is}
use Rattle.std.proofs.lemmas.List.Folds.{flat_map-map}
use Rattle.std.proofs.lemmas.Result.{on_ok_weaker}
use Rattle.anti_trace.specs.declared.mark.Mark.{Mark}
use Rattle.anti_order.specs.declared.pieces.Piece.{Piece}
use Rattle.anti_order.specs.inner.Pieces.{IsWithin, marks_in}
use Rattle.anti_text.specs.Spans.{spaced_mark}
use Rattle.anti_text.proofs.mark_texts.MarkTexts.piece.Goals as goal

-- a run of the texts of some marks is the text of those marks
texts_of_run : (f : Mark → List ℕ) (marks : List Mark) (from to : ℕ) → concat (take (to - from) (drop from (map f marks))) ≡ flat_map f (slice_range marks from to)
texts_of_run f marks from to =
    ap (λ (ts : List (List ℕ)). concat (take (to - from) ts)) (drop-map f from marks)
    ∙ ap concat (take-map f (to - from) (drop from marks))
    ∙ concat_is (map f (slice_range marks from to))
    ∙ flat_map-map (λ (t : List ℕ). t) f (slice_range marks from to)

pub write-requires : goal.write-requires
write-requires c =
    let texts = c.args.self.now in
    let within = subst (IsWithin c.args.writes.now) c.in-Writes.is c.requires.within in
    let kept : length c.args.writes.now ≡ length texts.writes.items = ap length (c.requires.kept c.if-are_kept.true) in
    let many : length texts.texts ≡ length texts.writes.items = ap length texts.kept ∙ length-map texts.writes.items (spaced_mark texts.app.now) in
    record { ascends = within.0; within = omega (arith, within.1, kept, many) }

pub returns-then-are_kept : goal.returns-then-are_kept
returns-then-are_kept c =
    let texts = c.args.self.now in
    let f = spaced_mark texts.app.now in
    let from = c.in-Writes.from in
    let to = c.in-Writes.to in
    on_ok_weaker c.write.result
    (λ is.
    is
    ∙ ap (λ (t : List ℕ). c.args.out.now ++ t)
    (ap (λ (ts : List (List ℕ)). concat (take (to - from) (drop from ts))) texts.kept
    ∙ texts_of_run f texts.writes.items from to
    ∙ ap (λ (ms : List Mark). flat_map f (slice_range ms from to)) (sym (c.requires.kept c.if-are_kept.true))
    ∙ ap (λ (p : Piece). flat_map f (marks_in c.args.writes.now p)) (sym c.in-Writes.is)))
    c.write.ensures

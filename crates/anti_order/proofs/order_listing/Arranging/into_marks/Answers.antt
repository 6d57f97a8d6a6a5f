use Rattle.std.proofs.Common.{◌++◌, List, map, sym, ap, ◌∙◌, subst}
use Rattle.std.specs.Prelude.{All, Option, Some}
use Rattle.std.specs.Global.{Vec}
use Rattle.std.proofs.lemmas.List.{map-append}
use Rattle.anti_ids.specs.List.{Listed}
use Rattle.anti_trace.specs.declared.mark.Mark.{Mark}
use Rattle.anti_order.specs.inner.NumberSets.{has}
use Rattle.anti_order.specs.inner.Pieces.{IsWithin, kept_at, marks_of}
use Rattle.anti_order.proofs.Listing.{all_others}
use Rattle.anti_order.proofs.order_listing.Arranging.into_marks.Goals as goal

pub over-requires : goal.over-requires
over-requires c =
    let adds = c.in_ok-add_runs.ensures c.args.writes.now.marks.items c.requires.left in
    subst (λ (v : Vec Mark). All (IsWithin v.items) c.add_runs.new.pieces.items) (sym c.in_ok-share.ensures) (adds.within c.requires.pieces)

pub returns : goal.returns
returns c = λ trace past all are arranges.
    let marks = c.args.writes.now.marks.items in
    let made = c.args.self in
    let pieces = c.add_runs.new.pieces.items in
    let adds = c.in_ok-add_runs.ensures marks c.requires.left in
    sym (ap (λ (l : Listed Mark). map Some l.items) c.over.ensures
    ∙ ap (λ (v : Vec Mark). map Some (marks_of v.items pieces)) c.in_ok-share.ensures
    ∙ ap (λ (ms : List Mark). map Some ms) adds.marks
    ∙ map-append (λ (m : Mark). Some m) (marks_of marks made.pieces.items) (kept_at (has made.left) 0 marks)
    ∙ ap (λ (ms : List (Option Mark)). map Some (marks_of marks made.pieces.items) ++ ms) (all_others trace past marks are.marks made.left)
    ∙ arranges.order)

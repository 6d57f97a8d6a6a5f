use Rattle.std.proofs.Common.{◌≡◌, ℕ, ◌++◌, List, length, map, sym, ap, ◌∙◌, subst}
use Rattle.std.specs.Prelude.{All, Some, nat_lt}
use Rattle.std.proofs.lemmas.Bool.{ltb-true}
use Rattle.std.proofs.lemmas.List.Elements.{All-nil}
use Rattle.anti_order.specs.Answers.{mark_at}
use Rattle.anti_order.specs.declared.pieces.Piece.{Piece}
use Rattle.anti_order.specs.inner.Arranging.{IsOver, still_to_list}
use Rattle.anti_order.specs.inner.NumberSets.{has, room_for}
use Rattle.anti_order.specs.inner.Pieces.{IsWithin, marks_of}
use Rattle.anti_order.proofs.Listing.{none_yet}
use Rattle.anti_order.proofs.order_listing.Arranging.new.Goals as goal

pub returns : goal.returns
returns c =
    let writes = c.args.writes.now in
    let marks = writes.marks.items in
    let left = c.in_ok-left.left in
    let all : (n : ℕ) → has left n ≡ nat_lt n (length marks) = λ n. c.in_ok-left.ensures.all n ∙ ap (nat_lt n) c.len.ensures in
    let over : IsOver writes (record { pieces = c.new.result; left = left }) = record {
      pieces = subst (All (IsWithin marks)) (sym c.new.ensures.items) (All-nil (IsWithin marks));
      left = λ n is. ltb-true n (length marks) (sym (all n) ∙ is);
      room = c.in_ok-left.ensures.room ∙ ap room_for c.len.ensures;
    } in
    record {
      over = over;
      arranges = λ trace are past reads. record {
        over = over;
        order =
            ap (λ (ps : List Piece). map Some (marks_of marks ps) ++ map (mark_at trace) (still_to_list trace past reads left))
            c.new.ensures.items
            ∙ ap (map (mark_at trace)) (none_yet trace past marks are.marks reads left all);
      };
    }

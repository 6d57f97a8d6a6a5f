use Rattle.std.proofs.Common.{◌≡◌, ◌++◌, ◌&&◌, List, [], ◌∷◌, map, sym, ap, ap₂, ◌∙◌, subst}
use Rattle.std.specs.Prelude.{All, Option, Some, not}
use Rattle.std.proofs.lemmas.Bool.{and_parts}
use Rattle.std.proofs.lemmas.List.{map-append, map_push}
use Rattle.std.proofs.lemmas.List.Concat.{flat_map-append}
use Rattle.std.proofs.lemmas.List.Elements.{All-push}
use Rattle.anti_trace.specs.declared.mark.Mark.{Mark}
use Rattle.anti_order.specs.Answers.{mark_at}
use Rattle.anti_order.specs.declared.pieces.Piece.TheVariants.{Alone}
use Rattle.anti_order.specs.declared.writes.Writes.{Writes}
use Rattle.anti_order.specs.inner.Arranging.{IsOver, still_to_list}
use Rattle.anti_order.specs.inner.NumberSets.{has}
use Rattle.anti_order.specs.inner.Pieces.{IsWithin, kept_at, marks_in, marks_of}
use Rattle.anti_order.proofs.Listing.{one_read}
use Rattle.anti_order.proofs.order_listing.Arranging.add_read.Goals as goal

pub returns : goal.returns
returns c =
    let trace = c.args.trace.now in
    let old = c.args.self.now in
    let numbers = c.args.numbers in
    let new = c.add_writes.new.self in
    let pieces = c.push.new.self in
    let mark = c.mark_at.result in
    let stays_over : (writes : Writes) → IsOver writes old → IsOver writes (record { pieces = pieces; left = new.left }) = λ writes over.
    let marks = writes.marks.items in
    let adds = c.in_ok-add_writes.ensures.pieces marks over.left in
    record {
      pieces =
          subst (All (IsWithin marks)) (sym c.in_ok-push.ensures.items)
          (All-push (IsWithin marks) new.pieces.items (Alone mark) (adds.within over.pieces) tt);
      left = λ n is. over.left n (and_parts (has old.left n) (not (has numbers n)) (sym (c.in_ok-add_writes.ensures.left n) ∙ is)).0;
      room = c.in_ok-add_writes.ensures.room ∙ over.room;
    } in
    record {
      over = stays_over;
      added = λ writes past all rest are arranges members.
          let marks = writes.marks.items in
          let adds = c.in_ok-add_writes.ensures.pieces marks arranges.over.left in
          let its : List Mark = kept_at (λ n. has numbers n && has old.left n) 0 marks in
          let more : marks_of marks pieces.items ≡ (marks_of marks old.pieces.items ++ its) ++ mark ∷ [] =
          ap (marks_of marks) c.in_ok-push.ensures.items
          ∙ flat_map-append (marks_in marks) new.pieces.items (Alone mark ∷ [])
          ∙ ap (λ (ms : List Mark). ms ++ mark ∷ []) adds.marks in
          let so_far : map Some (marks_of marks pieces.items)
          ≡ (map Some (marks_of marks old.pieces.items) ++ map Some its) ++ mark_at trace c.args.read ∷ [] =
          ap (λ (ms : List Mark). map Some ms) more
          ∙ map_push (λ (m : Mark). Some m) (marks_of marks old.pieces.items ++ its) mark
          ∙ ap₂ (λ (ms : List (Option Mark)) (m : Option Mark). ms ++ m ∷ [])
          (map-append (λ (m : Mark). Some m) (marks_of marks old.pieces.items) its)
          (sym c.mark_at.ensures) in
          record {
            over = stays_over writes arranges.over;
            order =
                ap (λ (ms : List (Option Mark)). ms ++ map (mark_at trace) (still_to_list trace past rest new.left)) so_far
                ∙ one_read trace past marks are.marks c.args.read numbers old.left new.left members c.in_ok-add_writes.ensures.left
                (map Some (marks_of marks old.pieces.items)) rest
                ∙ arranges.order;
          };
    }

use Rattle.std.proofs.Common.{◌≡◌, ◌++◌, ℕ, List, [], ◌∷◌, cond, length, ap, ap₂, ◌∙◌}
use Rattle.std.specs.Prelude.{◌==◌, ◌&&◌, nat_lt}
use Rattle.anti_ids.specs.declared.id.WriteId.{WriteId}
use Rattle.anti_past.specs.Losses.{mark_of}
use Rattle.anti_trace.specs.declared.mark.Mark.{Mark}
use Rattle.law_causal.specs.Words.{wrote}
use Rattle.law_serial.specs.Order.{is_some_id}
use Rattle.anti_order.specs.declared.writes.KeyAndNumber.{KeyAndNumber}
use Rattle.anti_order.specs.inner.Writes.{rows_for, rows_on}
use Rattle.anti_order.proofs.Versions.{own_object}
use Rattle.anti_order.proofs.writes.Gathered.add.Goals as goal

pub returns : goal.returns
returns c =
    let old = c.args.self.now in
    let e = c.args.entry.now in
    let id = c.in-Some.id in
    let own : id ∷ [] ≡ wrote e = c.in-Some.ensures in
    let count : c.len.result ≡ length old.marks.items = c.len.ensures ∙ old.marks.ok.0 in
    let store : id.store ≡ e.object = own_object e.object e.call e.reply id own in
    let row : record { key = id.key; number = c.len.result } ∷ [] ≡ rows_for (length old.marks.items) (wrote e) =
    ap (λ (n : ℕ). rows_for n (id ∷ [])) count ∙ ap (rows_for (length old.marks.items)) own in
    record {
      marks =
          c.in_ok-push.ensures.items
          ∙ ap (λ (m : Mark). old.marks.items ++ m ∷ []) c.mark_of.ensures
          ∙ ap (λ (ws : List WriteId). old.marks.items ++ cond (is_some_id ws) (mark_of e ∷ []) []) own;
      count = c.in_ok-add_row.ensures.count;
      rows = λ s.
          c.in_ok-add_row.ensures.rows s
          ∙ ap₂ (λ (o : ℕ) (rs : List KeyAndNumber). rows_on old.stores.items s ++ cond ((o == s) && nat_lt s (length old.stores.items)) rs []) store row;
    }

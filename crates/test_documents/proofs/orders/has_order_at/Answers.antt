use Rattle.std.proofs.Common.{◌≡◌, [], ◌∷◌, ◌++◌, true, false, map, sym, ap, ◌∙◌}
use Rattle.std.specs.Prelude.{Option, Some, option_map, slice_get}
use Rattle.std.specs.Option.{option_map_or}
use Rattle.std.proofs.lemmas.List.Elements.{All-cons, All-nil}
use Rattle.anti_ids.specs.List.{Listed}
use Rattle.anti_kind.specs.declared.entry.Entry.{Entry}
use Rattle.anti_trace.specs.declared.mark.Mark.{Mark}
use Rattle.law_causal.specs.Reads.{is_at}
use Rattle.law_causal.specs.Words.{reads}
use Rattle.anti_past.specs.Losses.{mark_of}
use Rattle.test_documents.proofs.orders.has_order_at.Goals as goal

-- the chain has the mark of the one entry, which is a read
pub order_of-requires-clause-reads : goal.order_of-requires-clause-reads
order_of-requires-clause-reads c =
    let trace = c.args.run.now.trace in
    let there : slice_get trace c.args.index ≡ Some c.at-entry.result.now = c.at-entry.ensures in
    let is : c.reads.result ≡ true = c.if-not-reads.false in
    let mark : Mark = record { object = c.at-entry.result.now.object; place = c.at-entry.result.now.place } in
    let listed : c.add.new.self.items ≡ mark ∷ [] =
    ap (λ (l : Listed Mark). l.items) c.in-Ok.ensures.ok ∙ ap (λ (l : Listed Mark). l.items ++ mark ∷ []) c.new-chain.ensures in (
      c.args.index ∷ [],
      ap (λ (found : Option Entry). option_map mark_of found ∷ []) there ∙ sym (ap (map Some) listed),
      All-cons (λ r. is_at (λ e. reads e.call) trace r ≡ true) c.args.index []
          (ap (λ (found : Option Entry). option_map_or (λ e. reads e.call) found false) there ∙ sym c.reads.ensures ∙ is)
          (All-nil (λ r. is_at (λ e. reads e.call) trace r ≡ true)),
    )

use Rattle.std.proofs.Common.{◌≡◌, ◌∙◌, [], ◌∷◌, sym, arith}
use Rattle.std.specs.List.{All}
use Rattle.std.proofs.lemmas.List.Elements.{All-nil, All-cons}
use Rattle.anti_kind.specs.declared.entry.Entry.{Entry}
use Rattle.anti_trace.specs.Histories.{IsHistory}
use Rattle.anti_trace.proofs.Merges.{Ascends, history_one, history_push}
use Rattle.test_libraries.proofs.trace.history.Goals as goal

two : (d e : Entry) → Ascends d e → IsHistory (d ∷ e ∷ [])
two d e up = history_push (d ∷ []) e (history_one d) (All-cons (λ (x : Entry). Ascends x e) d [] up (All-nil (λ (x : Entry). Ascends x e)))

pub returns-clause-is : goal.returns-clause-is
returns-clause-is c =
    let up : Ascends c.entry.result c.entry-2.result = (c.entry.ensures.object ∙ sym c.entry-2.ensures.object, omega arith) in
    rw (c.put-2.ensures, c.put.ensures, c.in_ok-reserve.ensures.ok, c.new-history.ensures) (two c.entry.result c.entry-2.result up)

pub returns-clause-own : goal.returns-clause-own
returns-clause-own c =
    let own : All (λ e. e.object ≡ c.args.object) (c.entry.result ∷ c.entry-2.result ∷ []) =
    All-cons (λ (e : Entry). e.object ≡ c.args.object) c.entry.result (c.entry-2.result ∷ []) c.entry.ensures.object
    (All-cons (λ (e : Entry). e.object ≡ c.args.object) c.entry-2.result [] c.entry-2.ensures.object (All-nil (λ (e : Entry). e.object ≡ c.args.object))) in
    rw (c.put-2.ensures, c.put.ensures, c.in_ok-reserve.ensures.ok, c.new-history.ensures) own

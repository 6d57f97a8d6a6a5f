use Rattle.std.proofs.Common.{◌≡◌, Option, sym, ap, ◌∙◌, unwrap_or}
use Rattle.std.proofs.lemmas.Result.{IfOk-weaker}
use Rattle.anti_kind.specs.declared.row.Row.{Row}
use Rattle.anti_kind.specs.Stored.{row_of}
use Rattle.anti_kind.specs.Store.{absent}
use Rattle.anti_replicas.proofs.Reading.{row_there, row_absent}
use Rattle.anti_replicas.proofs.replicas.Replicas.row_or_absent.Goals as goal

pub returns-in-Some : goal.returns-in-Some
returns-in-Some c = λ s h at.
    let row = c.in-Some.kept.now.row in
    let is : unwrap_or (row_of h c.args.version) (absent c.args.key.now) ≡ row =
    ap (λ (o : Option Row). unwrap_or o (absent c.args.key.now)) (row_there c.args.self.now s h at c.args.version c.in-Some.kept.now c.in-Some.ensures.first c.in-Some.ensures.kept) in
    IfOk-weaker c.copy.result (λ (r : Row). r ≡ row) (λ (r : Row). r ≡ unwrap_or (row_of h c.args.version) (absent c.args.key.now)) (λ r e. e ∙ sym is) c.copy.ensures

pub returns-in-None : goal.returns-in-None
returns-in-None c = λ s h at.
    let is = ap (λ (o : Option Row). unwrap_or o (absent c.args.key.now)) (row_absent c.args.self.now s h at c.args.version c.in-None.ensures.none) in
    rw (c.empty.ensures, c.root.ensures) (sym is)

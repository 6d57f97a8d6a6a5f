use Rattle.std.proofs.Common.{◌≡◌, ℕ, Bool, true, not, ◌||◌, ap, sym, ◌∙◌, leb}
use Rattle.std.proofs.lemmas.Bool.{not-false}
use Rattle.anti_kind.specs.Kinds.{facts_of}
use Rattle.anti_kind.specs.declared.store_kind.StoreKind.{StoreKind}
use Rattle.anti_kind.specs.declared.store_kind.Facts.{Facts}
use Rattle.anti_kind.specs.Store.{is_next}
use Rattle.anti_replicas.proofs.Bringing.{next_upto}
use Rattle.anti_replicas.proofs.replicas.Replicas.is_next.Goals as goal

pub returns : goal.returns
returns c = λ s h at few.
    let table : (facts_of s.kind).ordered ≡ true = ap (λ (k : StoreKind). (facts_of k).ordered) (sym at.state.kind_is) ∙ sym (ap (λ (f : Facts). f.ordered) c.facts.ensures) ∙ not-false c.facts.result.ordered c.if-not-facts.false in
    ap (λ (n : ℕ). leb n c.upto.result) c.saturating_sub.ensures ∙ ap (leb _) (c.upto.ensures s h at)
    ∙ next_upto s h at.legal c.args.region c.args.version table few
    ∙ ap (λ (b : Bool). not b || is_next h c.args.region c.args.version) (sym table)

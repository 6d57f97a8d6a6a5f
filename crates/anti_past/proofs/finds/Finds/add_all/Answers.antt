use Rattle.std.proofs.Common.{cond, ap, ◌∙◌, refl, sym, subst}
use Rattle.std.specs.Prelude.{IsSome, Option}
use Rattle.std.proofs.lemmas.Result.{on_ok_weaker}
use Rattle.anti_ids.specs.Ids.{has_id}
use Rattle.anti_past.specs.declared.finds.Finds.{Finds}
use Rattle.anti_past.specs.declared.span_finds.SpanFinds.{SpanFinds}
use Rattle.anti_past.specs.inner.Found.{has_found}
use Rattle.anti_past.specs.inner.Keys.{same_key}
use Rattle.anti_past.proofs.Finding.{found_first, found_further}
use Rattle.anti_past.proofs.finds.Finds.add_all.Goals as goal

pub returns-in-Some : goal.returns-in-Some
returns-in-Some c = λ q w.
    let now : SpanFinds = c.add_all.new.self in
    let new : Finds = record { spans = c.get_mut.follows.lender now } in
    on_ok_weaker c.add_all.result
    (λ adds. found_further c.args.self.now new c.args.span c.args.ids.now q w c.in-Some.found.now now (sym c.in-Some.ensures.value)
    ((c.get_mut.follows.holds now).3 (subst (λ (o : Option SpanFinds). IsSome o) c.in-Some.ensures.value refl)) adds)
    (c.add_all.ensures w)

pub returns-in-None : goal.returns-in-None
returns-in-None c = λ q w.
    let span = c.args.span in
    on_ok_weaker c.begin.result
    (λ is. found_first c.args.self.now c.begin.new.self span c.args.ids.now q w (sym c.in-None.ensures.value)
    (is ∙ ap (λ spans. cond (same_key span q) (has_id w c.args.ids.now) (has_found (record { spans = spans }) q w)) c.get_mut.follows.holds-at-none))
    (c.begin.ensures q w)

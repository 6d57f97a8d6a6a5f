use Rattle.std.proofs.Common.{arith, Bool, ◌&&◌, ◌+◌, map, drop, sym, ap, ◌∙◌}
use Rattle.std.proofs.lemmas.Grind.{common_steps}
use Rattle.std.specs.List.{list_all}
use Rattle.toml.specs.View.{view, table_view}
use Rattle.anti_ids.specs.List.{Listed}
use Rattle.anti_lang.specs.declared.statement.Statement.{Statement}
use Rattle.anti_rules.specs.inner.Parses.{service_bodies, bodies_fit, service_fits}
use Rattle.anti_rules.proofs.FittingLines.{service_first}
use Rattle.anti_rules.proofs.bodies.services_fit.Goals as goal

pub returns-then-not-bodies_fit : goal.returns-then-not-bodies_fit
returns-then-not-bodies_fit c =
    let rest : Bool = list_all (service_fits c.args.rule (table_view c.args.doc.now)) (map view (drop (c.loop-index.index + 1) c.services_in-services.result.now)) in
    let first = service_first c.args.rule (table_view c.args.doc.now) c.services_in-services.result.now c.args.bodies.now.items c.loop-index.index
    c.index-services-index.result c.at.result.now c.text_at-home.result.now c.bodies_fit.result c.loop-index-test.true c.index-services-index.is
    (ap (λ (l : Listed (Listed (Listed Statement))). l.items) c.requires ∙ ap (map service_bodies) (sym c.services_in-services.ensures)) c.at.ensures c.text_at-home.ensures
    (c.bodies_fit.ensures ∙ ap (bodies_fit c.args.rule (table_view c.args.doc.now) c.text_at-home.result.now) c.as_slice.ensures) in
    ap (λ (b : Bool). b && rest) (sym c.if-not-bodies_fit.true) ∙ first ∙ c.loop-index.invariant

pub loop-index-preserved : goal.loop-index-preserved
loop-index-preserved c =
    let rest : Bool = list_all (service_fits c.args.rule (table_view c.args.doc.now)) (map view (drop (c.loop-index.index + 1) c.services_in-services.result.now)) in
    let first = service_first c.args.rule (table_view c.args.doc.now) c.services_in-services.result.now c.args.bodies.now.items c.loop-index.index
    c.index-services-index.result c.at.result.now c.text_at-home.result.now c.bodies_fit.result c.loop-index-test.true c.index-services-index.is
    (ap (λ (l : Listed (Listed (Listed Statement))). l.items) c.requires ∙ ap (map service_bodies) (sym c.services_in-services.ensures)) c.at.ensures c.text_at-home.ensures
    (c.bodies_fit.ensures ∙ ap (bodies_fit c.args.rule (table_view c.args.doc.now) c.text_at-home.result.now) c.as_slice.ensures) in
    ap (λ (b : Bool). b && rest) (sym c.if-not-bodies_fit.false) ∙ first ∙ c.loop-index.invariant

pub at-requires : goal.at-requires
at-requires c = grind (arith, common_steps)

pub returns : goal.returns
returns c = grind (arith, common_steps)

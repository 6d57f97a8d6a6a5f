use Rattle.std.proofs.Common.{◌≡◌, ℕ, ◌<◌, ◌≤◌, ◌^◌, List, length, map, sym, ap, ◌∙◌, subst, arith}
use Rattle.std.specs.List.{list_all}
use Rattle.toml.specs.View.{view, table_view}
use Rattle.anti_ids.specs.declared.limits.TheConstants.{MOST_WORKERS}
use Rattle.anti_app.specs.Parts.{number_or}
use Rattle.anti_app.specs.inner.Few.{HaveNumbers}
use Rattle.anti_app.specs.inner.Fit.{is_fit_region, is_fit_request, is_fit_service, is_fit_store, is_fit_sub}
use Rattle.anti_app.proofs.Numberable.{made_regions, made_services, made_stores, stores_few}
use Rattle.anti_app.proofs.SoundRegions.{few_names, regions_fit}
use Rattle.anti_app.proofs.SoundServices.{few_made, requests_fit, services_fit}
use Rattle.anti_app.proofs.SoundStores.{stores_fit}
use Rattle.anti_app.proofs.SoundSubs.{subs_fit}
use Rattle.anti_app.proofs.Soundness.{workers_fit}
use Rattle.anti_app.proofs.document.parts_of.Goals as goal

pub returns : goal.returns
returns c = grind arith

pub regions_of-requires : goal.regions_of-requires
regions_of-requires c = ap (list_all is_fit_region) c.things_at.ensures ∙ regions_fit (table_view c.args.doc.now) c.requires.fine

pub stores_of-requires-clause-few : goal.stores_of-requires-clause-few
stores_of-requires-clause-few c =
    let doc = table_view c.args.doc.now in
    subst (λ (xs : List (List ℕ)). length xs < 2 ^ 32)
    (sym (made_regions doc (map view c.things_at.result.now) c.in_ok-regions.regions c.as_slice.result.now c.things_at.ensures c.in_ok-regions.ensures c.as_slice.ensures))
    (few_names doc c.requires.fine)

pub stores_of-requires-clause-fit : goal.stores_of-requires-clause-fit
stores_of-requires-clause-fit c = ap (list_all is_fit_store) c.things_at-2.ensures ∙ stores_fit (table_view c.args.doc.now) c.requires.fine

pub services_of-requires-clause-few : goal.services_of-requires-clause-few
services_of-requires-clause-few c =
    let doc = table_view c.args.doc.now in
    subst (λ (xs : List (List ℕ)). length xs < 2 ^ 32)
    (sym (made_regions doc (map view c.things_at.result.now) c.in_ok-regions.regions c.as_slice-2.result.now c.things_at.ensures c.in_ok-regions.ensures c.as_slice-2.ensures))
    (few_names doc c.requires.fine)

pub services_of-requires-clause-fit : goal.services_of-requires-clause-fit
services_of-requires-clause-fit c = ap (list_all is_fit_service) c.things_at-3.ensures ∙ services_fit (table_view c.args.doc.now) c.requires.fine

pub subs_of-requires-clause-few_stores : goal.subs_of-requires-clause-few_stores
subs_of-requires-clause-few_stores c =
    let doc = table_view c.args.doc.now in
    let regions = made_regions doc (map view c.things_at.result.now) c.in_ok-regions.regions c.as_slice.result.now c.things_at.ensures c.in_ok-regions.ensures c.as_slice.ensures in
    let stores = made_stores doc (map view c.things_at-2.result.now) c.as_slice.result.now c.in_ok-stores.stores c.as_slice-3.result.now regions c.things_at-2.ensures c.in_ok-stores.ensures
    c.as_slice-3.ensures in
    let few = stores_few doc c.requires.fine in
    let as_many = ap length stores in
    omega (arith, few, as_many)

pub subs_of-requires-clause-few : goal.subs_of-requires-clause-few
subs_of-requires-clause-few c =
    let doc = table_view c.args.doc.now in
    let regions = made_regions doc (map view c.things_at.result.now) c.in_ok-regions.regions c.as_slice-2.result.now c.things_at.ensures c.in_ok-regions.ensures c.as_slice-2.ensures in
    let services = made_services doc (map view c.things_at-3.result.now) c.as_slice-2.result.now c.in_ok-services.services c.as_slice-4.result.now regions c.things_at-3.ensures c.in_ok-services.ensures
    c.as_slice-4.ensures in
    subst HaveNumbers (sym services) (few_made doc c.requires.fine)

pub subs_of-requires-clause-fit : goal.subs_of-requires-clause-fit
subs_of-requires-clause-fit c = ap (list_all is_fit_sub) c.things_at-4.ensures ∙ subs_fit (table_view c.args.doc.now) c.requires.fine

pub requests_of-requires-clause-few : goal.requests_of-requires-clause-few
requests_of-requires-clause-few c =
    let doc = table_view c.args.doc.now in
    let regions = made_regions doc (map view c.things_at.result.now) c.in_ok-regions.regions c.as_slice-2.result.now c.things_at.ensures c.in_ok-regions.ensures c.as_slice-2.ensures in
    let services = made_services doc (map view c.things_at-3.result.now) c.as_slice-2.result.now c.in_ok-services.services c.as_slice-5.result.now regions c.things_at-3.ensures c.in_ok-services.ensures
    c.as_slice-5.ensures in
    subst HaveNumbers (sym services) (few_made doc c.requires.fine)

pub requests_of-requires-clause-fit : goal.requests_of-requires-clause-fit
requests_of-requires-clause-fit c = ap (list_all is_fit_request) c.things_at-5.ensures ∙ requests_fit (table_view c.args.doc.now) c.requires.fine

pub overflow_cast-result : goal.overflow_cast-result
overflow_cast-result c =
    let same : c.number_or-2.result ≡ number_or 2 c.integer_in-2.result = c.number_or-2.ensures in
    let named = same ∙ ap (number_or 2) c.integer_in-2.ensures in
    let few = workers_fit (table_view c.args.doc.now) c.requires.fine in
    let less : c.number_or-2.result ≤ MOST_WORKERS = omega (arith, named, few) in
    grind arith

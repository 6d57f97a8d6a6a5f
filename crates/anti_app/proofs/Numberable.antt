-- What a document without a breach lists is few enough for numbers of four bytes.
use Rattle.std.proofs.Common.{◌≡◌, ℕ, ◌^◌, ◌<◌, ◌≤◌, codes, List, [], length, map, None, sym, ap, ◌∙◌, arith}
use Rattle.std.proofs.lemmas.Bool.{leb-true}
use Rattle.std.proofs.lemmas.List.{length-map}
use Rattle.anti_ids.specs.declared.limits.TheConstants.{MOST_CHOICES, MOST_SERVICES, MOST_STORES, MOST_SUBS}
use Rattle.toml.specs.Data.{Data, Members}
use Rattle.anti_ids.specs.List.{Listed, plain}
use Rattle.anti_rules.specs.Trees.{text_of, things_at}
use Rattle.anti_rules.specs.Order.{first_breach}
use Rattle.anti_app.specs.declared.app.StoreDef.{StoreDef}
use Rattle.anti_app.specs.declared.app.ServiceDef.{ServiceDef}
use Rattle.anti_app.specs.Parts.{regions_of, store_of, stores_of, service_of, services_of}
use Rattle.anti_app.specs.Stated.{app_with}
use Rattle.anti_app.specs.inner.Few.{AreFew}
use Rattle.anti_app.proofs.SoundRegions.{few_names}
use Rattle.anti_app.proofs.SoundServices.{few_services}
use Rattle.anti_app.proofs.SoundStores.{few_stores}
use Rattle.anti_app.proofs.SoundSubs.{few_subs}
use Rattle.anti_app.proofs.Soundness.{few_choices}

-- ---- what is made of its tables, as the code has it
pub made_regions : (doc : Members) (listed : List Data) (regions : Listed (List ℕ)) (names : List (List ℕ))
    → listed ≡ things_at (codes "regions") doc → regions ≡ plain (map text_of listed) → names ≡ regions.items → names ≡ regions_of doc
made_regions doc listed regions names there made same = same ∙ (ap (λ (r : Listed (List ℕ)). r.items) made ∙ ap (map text_of) there)

pub made_stores : (doc : Members) (listed : List Data) (names : List (List ℕ)) (stores : Listed StoreDef) (defs : List StoreDef)
    → names ≡ regions_of doc → listed ≡ things_at (codes "store") doc → stores ≡ plain (map (store_of names) listed) → defs ≡ stores.items → defs ≡ stores_of doc
made_stores doc listed names stores defs regions there made same =
    same ∙ (ap (λ (s : Listed StoreDef). s.items) made ∙ (ap (λ (n : List (List ℕ)). map (store_of n) listed) regions ∙ ap (map (store_of (regions_of doc))) there))

pub made_services : (doc : Members) (listed : List Data) (names : List (List ℕ)) (services : Listed ServiceDef) (defs : List ServiceDef)
    → names ≡ regions_of doc → listed ≡ things_at (codes "service") doc → services ≡ plain (map (service_of names) listed) → defs ≡ services.items → defs ≡ services_of doc
made_services doc listed names services defs regions there made same =
    same ∙ (ap (λ (s : Listed ServiceDef). s.items) made ∙ (ap (λ (n : List (List ℕ)). map (service_of n) listed) regions ∙ ap (map (service_of (regions_of doc))) there))

pub stores_few : (doc : Members) → first_breach doc ≡ None → length (stores_of doc) < 2 ^ 32
stores_few doc fine = let few : length (stores_of doc) ≤ MOST_STORES = few_stores doc fine in omega arith

-- ---- numbers
-- the things of its application
pub few_things_named : (doc : Members) → first_breach doc ≡ None → AreFew (app_with doc [])
few_things_named doc fine =
    let stores : length (app_with doc []).stores.items ≤ MOST_STORES = few_stores doc fine in
    let services : length (app_with doc []).services.items ≤ MOST_SERVICES = few_services doc fine in
    let subs : length (app_with doc []).subs.items ≤ MOST_SUBS = few_subs doc fine in
    record {
      regions = few_names doc fine;
      objects = omega arith;
      subs = omega arith;
    }

-- the choices, also as the code has them
pub few_choices_listed : {V : Type 0} (view : V → Data) (values : List V) (doc : Members) → first_breach doc ≡ None → map view values ≡ things_at (codes "choices") doc → length values < 2 ^ 32
few_choices_listed view values doc fine same =
    let few : length (things_at (codes "choices") doc) ≤ MOST_CHOICES = leb-true _ _ (few_choices doc fine) in
    let as_many : length values ≡ length (things_at (codes "choices") doc) = sym (length-map values view) ∙ ap length same in
    omega arith

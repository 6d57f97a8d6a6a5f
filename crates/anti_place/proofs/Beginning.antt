-- The first line that fails in a review is the one that the placement tells.
use Rattle.std.proofs.Common.{◌≡◌, ◌↔◌, ℕ, ◌+◌, Bool, true, false, ◌||◌, List, [], ◌∷◌, ◌++◌, All, map, slice_get, Option, None, Some, refl, sym, ap, ◌∙◌}
use Rattle.std.proofs.lemmas.List.Elements.{All-nil, All-head, All-tail, All-append, All-map}
use Rattle.std.specs.List.{list_any}
use Rattle.anti_lang.specs.Bodies.{block_of}
use Rattle.anti_lang.specs.Program.{Block}
use Rattle.anti_app.specs.declared.app.App.{App}
use Rattle.anti_app.specs.declared.app.HandlerDef.{HandlerDef}
use Rattle.anti_app.specs.declared.app.ServiceDef.{ServiceDef}
use Rattle.anti_place.specs.declared.fault.Fault.{Fault}
use Rattle.anti_place.specs.declared.placement.Placement.{Placement}
use Rattle.anti_place.specs.declared.placement.Placement.TheVariants.{Yes, No}
use Rattle.anti_place.specs.declared.reason.Reason.{Reason}
use Rattle.anti_place.specs.declared.remark.Finding.{Finding}
use Rattle.anti_place.specs.declared.remark.Finding.TheVariants.{Fails, Superfluous}
use Rattle.anti_place.specs.declared.remark.Remark.{Remark}
use Rattle.anti_place.specs.Paths.{all_faults, first, first_fault}
use Rattle.anti_place.specs.Placements.{is_called, is_named, placement_of, handlers_from, services_from, placement}
use Rattle.anti_place.specs.Reviews.{fails_there, superfluous_there, faults_of, superfluous, faults_at, barriers_at, handlers_say, services_say, review, is_failure, is_failing}
use Rattle.anti_place.proofs.Doubting.{all_later}
use Rattle.anti_place.proofs.Telling.{Rising, first_told, first_rising, told_rising}

-- the first line that fails, or what is told further
abbrev by_finding : ℕ → ℕ → ℕ → Finding → Placement → Placement
by_finding service handler line (Fails reason) further = No service handler line reason
by_finding service handler line Superfluous further = further

abbrev begins : List Remark → Placement → Placement
begins [] further = further
begins (remark ∷ remarks) further = by_finding remark.service remark.handler remark.line remark.finding (begins remarks further)

begins_append : (xs ys : List Remark) (further : Placement) → begins (xs ++ ys) further ≡ begins xs (begins ys further)
begins_append [] ys further = refl
begins_append (x ∷ xs) ys further = ap (by_finding x.service x.handler x.line x.finding) (begins_append xs ys further)

-- ---- what the placement tells

module _ (called named : Bool) (body : Block) where
  first_of_told : first_fault called named body ≡ first (faults_of called named body)
  first_of_told =
      sym (ap first (all_later (all_faults called named body))) ∙ first_told called named body None ∙ ap first (all_later (faults_of called named body))

  placement_begins : (service handler : ℕ) (further : Placement)
      → placement_of service handler (first_fault called named body) further ≡ begins (map (fails_there service handler) (faults_of called named body)) further
  placement_begins service handler further =
      ap (λ (fault : Option Fault). placement_of service handler fault further) first_of_told ∙ go (faults_of called named body) (told_rising called named body)
    where
      go : (faults : List Fault) → Rising faults → placement_of service handler (first faults) further ≡ begins (map (fails_there service handler) faults) further
      go [] rising = refl
      go (x ∷ xs) rising = ap (λ (fault : Option Fault). placement_of service handler fault further) (first_rising x xs rising.0)

module _ (app : App) where
  handlers_begin : (service n : ℕ) (hs : List HandlerDef) (further : Placement)
      → handlers_from app service n hs further ≡ begins (handlers_say (faults_at app) service n hs) further
  handlers_begin service n [] further = refl
  handlers_begin service n (h ∷ hs) further =
      ap (placement_of service n (first_fault (is_called app service n) (is_named app service n) (block_of h.body))) (handlers_begin service (n + 1) hs further)
      ∙ placement_begins (is_called app service n) (is_named app service n) (block_of h.body) service n (begins (handlers_say (faults_at app) service (n + 1) hs) further)
      ∙ sym (begins_append (faults_at app service n (block_of h.body)) (handlers_say (faults_at app) service (n + 1) hs) further)

  services_begin : (n : ℕ) (ss : List ServiceDef) → services_from app n ss ≡ begins (services_say (faults_at app) n ss) Yes
  services_begin n [] = refl
  services_begin n (s ∷ ss) =
      handlers_begin n 0 s.handlers.items (services_from app (n + 1) ss)
      ∙ ap (begins (handlers_say (faults_at app) n 0 s.handlers.items)) (services_begin (n + 1) ss)
      ∙ sym (begins_append (handlers_say (faults_at app) n 0 s.handlers.items) (services_say (faults_at app) (n + 1) ss) Yes)

-- ---- what is said

-- what all have that is said of each handler
module _ (P : Remark → Type 0) (says : ℕ → ℕ → Block → List Remark) (each : (service handler : ℕ) (body : Block) → All P (says service handler body)) where
  handlers_all : (service n : ℕ) (hs : List HandlerDef) → All P (handlers_say says service n hs)
  handlers_all service n [] = All-nil P
  handlers_all service n (h ∷ hs) = All-append P (says service n (block_of h.body)) (handlers_say says service (n + 1) hs) (each service n (block_of h.body)) (handlers_all service (n + 1) hs)

  services_all : (n : ℕ) (ss : List ServiceDef) → All P (services_say says n ss)
  services_all n [] = All-nil P
  services_all n (s ∷ ss) = All-append P (handlers_say says n 0 s.handlers.items) (services_say says (n + 1) ss) (handlers_all n 0 s.handlers.items) (services_all (n + 1) ss)

abbrev IsFailing : Remark → Type 0
IsFailing remark = is_failing remark ≡ true

abbrev IsNone : Remark → Type 0
IsNone remark = is_failing remark ≡ false

module _ (app : App) where
  faults_fail : All IsFailing (services_say (faults_at app) 0 app.services.items)
  faults_fail =
      services_all IsFailing (faults_at app)
      (λ service handler body. All-map IsFailing (fails_there service handler) (faults_of (is_called app service handler) (is_named app service handler) body) (λ k d at. refl))
      0 app.services.items

  barriers_none : All IsNone (services_say (barriers_at app) 0 app.services.items)
  barriers_none =
      services_all IsNone (barriers_at app)
      (λ service handler body. All-map IsNone (superfluous_there service handler) (superfluous (is_named app service handler) body) (λ k d at. refl))
      0 app.services.items

-- nothing that fails is told of them
none_begin : (remarks : List Remark) → All IsNone remarks → (further : Placement) → begins remarks further ≡ further
none_begin [] all further = refl
none_begin (x ∷ xs) all further = go x.finding (All-head IsNone x xs all) ∙ none_begin xs (All-tail IsNone x xs all) further
  where
    go : (finding : Finding) → is_failure finding ≡ false → by_finding x.service x.handler x.line finding (begins xs further) ≡ begins xs further
    go (Fails reason) none = absurd (cc)
    go Superfluous none = refl

review_begins : (app : App) → placement app ≡ begins (review app) Yes
review_begins app =
    let faults : List Remark = services_say (faults_at app) 0 app.services.items in
    let barriers : List Remark = services_say (barriers_at app) 0 app.services.items in
    services_begin app 0 app.services.items ∙ ap (begins faults) (sym (none_begin barriers (barriers_none app) Yes)) ∙ sym (begins_append faults barriers Yes)

-- ---- the law

where_none_fails : (remarks : List Remark) → (begins remarks Yes ≡ Yes) ↔ (list_any is_failing remarks ≡ false)
where_none_fails [] = (λ is. refl, λ is. refl)
where_none_fails (x ∷ xs) = go x.finding (where_none_fails xs)
  where
    go : (finding : Finding) → (begins xs Yes ≡ Yes) ↔ (list_any is_failing xs ≡ false)
        → (by_finding x.service x.handler x.line finding (begins xs Yes) ≡ Yes) ↔ ((is_failure finding || list_any is_failing xs) ≡ false)
    go (Fails reason) rest = (λ is. absurd (cc), λ is. absurd (cc))
    go Superfluous rest = rest

pub placed_where_none_fails : (app : App) → (placement app ≡ Yes) ↔ (list_any is_failing (review app) ≡ false)
placed_where_none_fails app =
    let both = where_none_fails (review app) in
    (λ is. both.0 (sym (review_begins app) ∙ is), λ none. review_begins app ∙ both.1 none)

abbrev told : ℕ → ℕ → ℕ → Finding → Remark
told service handler line finding = record { service = service; handler = handler; line = line; finding = finding }

first_remark : (faults barriers : List Remark) → All IsFailing faults → All IsNone barriers → (service handler line : ℕ) (reason : Reason)
    → begins (faults ++ barriers) Yes ≡ No service handler line reason → slice_get (faults ++ barriers) 0 ≡ Some (told service handler line (Fails reason))
first_remark [] barriers fail none service handler line reason is =
    absurd (let clash : Yes ≡ No service handler line reason = sym (none_begin barriers none Yes) ∙ is in cc)
first_remark (x ∷ xs) barriers fail none service handler line reason is =
    go x.service x.handler x.line x.finding (All-head IsFailing x xs fail) is
  where
    go : (s h l : ℕ) (finding : Finding) → is_failure finding ≡ true
        → by_finding s h l finding (begins (xs ++ barriers) Yes) ≡ No service handler line reason
        → Some (told s h l finding) ≡ Some (told service handler line (Fails reason))
    go s h l (Fails r) fails is = cc
    go s h l Superfluous fails is = absurd (cc)

pub begins_with : (app : App) (service handler line : ℕ) (reason : Reason) → placement app ≡ No service handler line reason
    → slice_get (review app) 0 ≡ Some (fails_there service handler (record { line = line; reason = reason }))
begins_with app service handler line reason is =
    first_remark (services_say (faults_at app) 0 app.services.items) (services_say (barriers_at app) 0 app.services.items) (faults_fail app) (barriers_none app)
    service handler line reason (sym (review_begins app) ∙ is)

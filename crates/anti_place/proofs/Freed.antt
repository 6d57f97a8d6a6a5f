-- An application without a barrier that never has to wait, and whose line does not fail, is placed as before, but for the lines behind it.
use Rattle.std.proofs.Common.{◌≡◌, ℕ, suc, ◌+◌, ◌==◌, not, Bool, true, false, cond, ◌&&◌, ◌⊎◌, inl, inr, Contains, List, [], ◌∷◌, slice_get, Option, None, Some, refl, sym, ap, ap₂, ◌∙◌, subst, eqb-true, arith}
use Rattle.std.proofs.lemmas.Bool.{or_left, or_right}
use Rattle.std.proofs.lemmas.Bool.Decides.{nat_tests}
use Rattle.std.specs.List.{list_any}
use Rattle.std.specs.Option.{option_map}
use Rattle.anti_ids.specs.List.{plain}
use Rattle.anti_lang.specs.Bodies.{block_of, body_of}
use Rattle.anti_lang.specs.Blocks.{lines_of}
use Rattle.anti_lang.specs.Program.{Block}
use Rattle.anti_lang.proofs.PlainLemmas.{block_again}
use Rattle.anti_app.specs.declared.app.App.{App}
use Rattle.anti_app.specs.declared.app.HandlerDef.{HandlerDef}
use Rattle.anti_app.specs.declared.app.ServiceDef.{ServiceDef}
use Rattle.anti_place.specs.declared.fault.Fault.{Fault}
use Rattle.anti_place.specs.declared.placement.Placement.{Placement}
use Rattle.anti_place.specs.declared.placement.Placement.TheVariants.{No}
use Rattle.anti_place.specs.declared.reason.Reason.{Reason}
use Rattle.anti_place.specs.declared.remark.Remark.{Remark}
use Rattle.anti_place.specs.Paths.{first_fault}
use Rattle.anti_place.specs.Placements.{is_called, is_named, placement_of, handlers_from, services_from, placement}
use Rattle.anti_place.specs.Reviews.{fails_there, superfluous_there, faults_of, superfluous, never_waits, barriers_from, all_waits, faults_at, barriers_at, services_say, review, is_failing}
use Rattle.anti_place.specs.Without.{block_without, handlers_without, services_without, without, moved_up, moved}
use Rattle.anti_place.proofs.Members.{In, in_left, in_either, passed, mapped, mapped_from, among, contained}
use Rattle.anti_place.proofs.Sayings.{handler_said, service_said, service_of}
use Rattle.anti_place.proofs.Spared.{at, NoneAt, NotAmong, fault_up, first_spared}
use Rattle.anti_place.proofs.Telling.{told_of}
use Rattle.anti_place.proofs.Unnamed.{called_same, named_same}

-- ---- a body

waits_any : (line : ℕ) (lines : List ℕ) → In line lines → list_any (λ waits. waits == line) lines ≡ true
waits_any line [] is = absurd is
waits_any line (n ∷ lines) (inl here) = or_left (n == line) (list_any (λ waits. waits == line) lines) (same n line here)
  where
    same : (n m : ℕ) → n ≡ m → (n == m) ≡ true
    same n m is = grind (arith, nat_tests)
waits_any line (n ∷ lines) (inr there) = or_right (n == line) (list_any (λ waits. waits == line) lines) (waits_any line lines there)

module _ (called named : Bool) (body : Block) (line : ℕ) where
  not_among : never_waits named body line ≡ true → NotAmong line (all_waits named body)
  not_among never is =
      let any : list_any (λ waits. waits == line) (all_waits named body) ≡ true = waits_any line (all_waits named body) is in
      let none : not true ≡ true = ap not (sym any) ∙ never in
      absurd (cc)

  abbrev Spared : Type 0
  Spared = first_fault called named (block_without line 1 body) ≡ option_map (fault_up line) (first_fault called named body)

  body_freed : In line (superfluous named body) → NoneAt line (faults_of called named body) → Spared
  body_freed is none =
      let both = passed (never_waits named body) line (barriers_from 1 (lines_of body)) is in
      first_spared called named body line both.1 (not_among both.0) (λ r i. none r (told_of called named body (at line r) i))

-- ---- placements

module _ (service handler line : ℕ) where
  of_handler : (s n : ℕ) (fault : Option Fault) (further : Placement) (its : Bool) → (s == service && n == handler) ≡ its
      → placement_of s n (cond its (option_map (fault_up line) fault) fault) (moved service handler line further) ≡ moved service handler line (placement_of s n fault further)
  of_handler s n None further true e = refl
  of_handler s n None further false e = refl
  of_handler s n (Some fault) further true e = sym (ap (λ (its : Bool). No s n (cond its (moved_up line fault.line) fault.line) fault.reason) e)
  of_handler s n (Some fault) further false e = sym (ap (λ (its : Bool). No s n (cond its (moved_up line fault.line) fault.line) fault.reason) e)

  module _ (app : App) where
    abbrev other : App
    other = without service handler line app

    abbrev its_fault : ℕ → ℕ → Block → Option Fault
    its_fault s n body = first_fault (is_called app s n) (is_named app s n) body

    same_fault : (s n : ℕ) (body : Block) → first_fault (is_called other s n) (is_named other s n) body ≡ its_fault s n body
    same_fault s n body =
        ap₂ (λ (called named : Bool). first_fault called named body) (called_same service handler line app s n) (named_same service handler line app s n)

    -- the handler that the barrier is taken from
    abbrev Its : ℕ → Block → Type 0
    Its n body = its_fault service n (block_without line 1 body) ≡ option_map (fault_up line) (its_fault service n body)

    -- the handlers of another service
    others_freed : (s : ℕ) → (s == service) ≡ false → (n : ℕ) (hs : List HandlerDef) (after further : Placement) → after ≡ moved service handler line further
        → handlers_from other s n hs after ≡ moved service handler line (handlers_from app s n hs further)
    others_freed s e n [] after further is = is
    others_freed s e n (h ∷ hs) after further is =
        ap₂ (placement_of s n) (same_fault s n (block_of h.body)) (others_freed s e (n + 1) hs after further is)
        ∙ of_handler s n (its_fault s n (block_of h.body)) (handlers_from app s (n + 1) hs further) false (ap (λ (test : Bool). test && n == handler) e)

    -- and those of this one
    its_freed : (s : ℕ) → s ≡ service → (n : ℕ) (hs : List HandlerDef)
        → ((k : ℕ) (h : HandlerDef) → slice_get hs k ≡ Some h → n + k ≡ handler → Its handler (block_of h.body))
        → (after further : Placement) → after ≡ moved service handler line further
        → handlers_from other s n (handlers_without handler line n hs) after ≡ moved service handler line (handlers_from app s n hs further)
    its_freed s same n [] freed after further is = is
    its_freed s same n (h ∷ hs) freed after further is =
        go (n == handler) refl
        (its_freed s same (n + 1) hs (λ k x there number. freed (suc k) x there (omega (arith, number))) after further is)
      where
        rest : Placement
        rest = handlers_from other s (n + 1) (handlers_without handler line (n + 1) hs) after

        both : (test : Bool) → (n == handler) ≡ test → (s == service && n == handler) ≡ test
        both test e = let one : (s == service) ≡ true = (let eq = same in tested s service eq) in ap₂ (λ (a b : Bool). a && b) one e
          where
            tested : (n m : ℕ) → n ≡ m → (n == m) ≡ true
            tested n m is = grind (arith, nat_tests)

        go : (test : Bool) → (n == handler) ≡ test → rest ≡ moved service handler line (handlers_from app s (n + 1) hs further)
            → placement_of s n
            (first_fault (is_called other s n) (is_named other s n) (block_of (cond test (record h { body = body_of (block_without line 1 (block_of h.body)) }) h).body)) rest
            ≡ moved service handler line (handlers_from app s n (h ∷ hs) further)
        go true e behind =
            let number : n ≡ handler = eqb-true n handler e in
            let its : Its handler (block_of h.body) = freed 0 h refl (omega (arith, number)) in
            let here : its_fault s n (block_without line 1 (block_of h.body)) ≡ option_map (fault_up line) (its_fault s n (block_of h.body)) =
            subst (λ (i : ℕ). its_fault i n (block_without line 1 (block_of h.body)) ≡ option_map (fault_up line) (its_fault i n (block_of h.body))) (sym same)
            (subst (λ (i : ℕ). Its i (block_of h.body)) (sym number) its) in
            ap₂ (placement_of s n)
            (ap (λ (body : Block). first_fault (is_called other s n) (is_named other s n) body) (block_again (block_without line 1 (block_of h.body)))
            ∙ same_fault s n (block_without line 1 (block_of h.body)) ∙ here) behind
            ∙ of_handler s n (its_fault s n (block_of h.body)) (handlers_from app s (n + 1) hs further) true (both true e)
        go false e behind =
            ap₂ (placement_of s n) (same_fault s n (block_of h.body)) behind
            ∙ of_handler s n (its_fault s n (block_of h.body)) (handlers_from app s (n + 1) hs further) false (both false e)

    all_freed : (n : ℕ) (ss : List ServiceDef)
        → ((j : ℕ) (s : ServiceDef) → slice_get ss j ≡ Some s → n + j ≡ service
        → (k : ℕ) (h : HandlerDef) → slice_get s.handlers.items k ≡ Some h → 0 + k ≡ handler → Its handler (block_of h.body))
        → services_from other n (services_without service handler line n ss) ≡ moved service handler line (services_from app n ss)
    all_freed n [] freed = refl
    all_freed n (s ∷ ss) freed =
        go (n == service) refl (all_freed (n + 1) ss (λ j x there number. freed (suc j) x there (omega (arith, number))))
      where
        rest : Placement
        rest = services_from other (n + 1) (services_without service handler line (n + 1) ss)

        go : (test : Bool) → (n == service) ≡ test → rest ≡ moved service handler line (services_from app (n + 1) ss)
            → handlers_from other n 0 (cond test (record s { handlers = plain (handlers_without handler line 0 s.handlers.items) }) s).handlers.items rest
            ≡ moved service handler line (handlers_from app n 0 s.handlers.items (services_from app (n + 1) ss))
        go true e behind =
            let number : n ≡ service = eqb-true n service e in
            its_freed n number 0 s.handlers.items (freed 0 s refl (omega (arith, number))) rest (services_from app (n + 1) ss) behind
        go false e behind = others_freed n e 0 s.handlers.items rest (services_from app (n + 1) ss) behind

-- ---- an application

module _ (app : App) (service handler line : ℕ) where
  abbrev services : List ServiceDef
  services = app.services.items

  abbrev this : Remark
  this = superfluous_there service handler line

  -- what stands at a place is one
  one_there : {T : Type 0} (xs : List T) (i j : ℕ) (x y : T) → i ≡ j → slice_get xs i ≡ Some x → slice_get xs j ≡ Some y → x ≡ y
  one_there xs i j x y same here there =
      let both : Some x ≡ Some y = sym here ∙ ap (λ (n : ℕ). slice_get xs n) same ∙ there in cc

  module _ (s : ServiceDef) (there : slice_get services service ≡ Some s) (h : HandlerDef) (at_place : slice_get s.handlers.items handler ≡ Some h) where
    abbrev body : Block
    body = block_of h.body

    -- the handler of the remark has the barrier
    barrier_there : In this (services_say (barriers_at app) 0 services) → In line (superfluous (is_named app service handler) body)
    barrier_there is =
        let found = service_of (barriers_at app) this 0 services is in
        let its = found.handler in
        let said = mapped_from (superfluous_there found.number its.number) this (superfluous (is_named app found.number its.number) (block_of its.handler.body)) its.said in
        let number : found.number ≡ service = ap (λ (r : Remark). r.service) said.1 in
        let handler_number : its.number ≡ handler = ap (λ (r : Remark). r.handler) said.1 in
        let its_line : said.0 ≡ line = ap (λ (r : Remark). r.line) said.1 in
        let counts = found.counts in
        let place : found.place ≡ service = omega (arith, counts, number) in
        let one : found.service ≡ s = one_there services found.place service found.service s place found.there there in
        let handler_counts = its.counts in
        let handler_place : its.place ≡ handler = omega (arith, handler_counts, handler_number) in
        let its_there : slice_get s.handlers.items its.place ≡ Some its.handler = ap (λ (x : ServiceDef). slice_get x.handlers.items its.place) (sym one) ∙ its.there in
        let its_handler : its.handler ≡ h = one_there s.handlers.items its.place handler its.handler h handler_place its_there at_place in
        subst (λ (x : HandlerDef). In line (superfluous (is_named app service handler) (block_of x.body))) its_handler
        (subst (λ (n : ℕ). In n (superfluous (is_named app service handler) (block_of its.handler.body))) its_line
        (subst (λ (n : ℕ). In said.0 (superfluous (is_named app service n) (block_of its.handler.body))) handler_number
        (subst (λ (n : ℕ). In said.0 (superfluous (is_named app n its.number) (block_of its.handler.body))) number said.2)))

    -- and each of its faults is told
    fault_told : (fault : Fault) → In fault (faults_of (is_called app service handler) (is_named app service handler) body)
        → Contains (review app) (fails_there service handler fault)
    fault_told fault is =
        contained (fails_there service handler fault) (review app)
        (in_left (fails_there service handler fault) (services_say (faults_at app) 0 services) (services_say (barriers_at app) 0 services)
        (service_said (faults_at app) (fails_there service handler fault) 0 services service s there service (omega arith)
        (handler_said (faults_at app) (fails_there service handler fault) service 0 s.handlers.items handler h at_place handler (omega arith)
        (mapped (fails_there service handler) fault (faults_of (is_called app service handler) (is_named app service handler) body) is))))

  -- a barrier is no fault
  no_fault : In this (services_say (faults_at app) 0 services) → ⊥
  no_fault is =
      let found = service_of (faults_at app) this 0 services is in
      let its = found.handler in
      let said =
      mapped_from (fails_there found.number its.number) this
      (faults_of (is_called app found.number its.number) (is_named app found.number its.number) (block_of its.handler.body)) its.said in
      let clash : true ≡ false = ap is_failing said.1 in
      absurd (cc)

  this_among : Contains (review app) this → In this (services_say (barriers_at app) 0 services)
  this_among is = go (in_either this (services_say (faults_at app) 0 services) (services_say (barriers_at app) 0 services) (among this (review app) is))
    where
      go : In this (services_say (faults_at app) 0 services) ⊎ In this (services_say (barriers_at app) 0 services) → In this (services_say (barriers_at app) 0 services)
      go (inl fault) = absurd (no_fault fault)
      go (inr barrier) = barrier

  -- The barrier can go.
  pub freed : Contains (review app) this → ((reason : Reason) → Contains (review app) (fails_there service handler (at line reason)) → ⊥)
      → placement (without service handler line app) ≡ moved service handler line (placement app)
  freed is none =
      all_freed service handler line app 0 services
      (λ j s there number k h at_place count.
      let its_service : service ≡ j = omega (arith, number) in
      let its_handler : handler ≡ k = omega (arith, count) in
      let s_there : slice_get services service ≡ Some s = ap (slice_get services) its_service ∙ there in
      let h_there : slice_get s.handlers.items handler ≡ Some h = ap (slice_get s.handlers.items) its_handler ∙ at_place in
      body_freed (is_called app service handler) (is_named app service handler) (block_of h.body) line
      (barrier_there s s_there h h_there (this_among is))
      (λ r i. none r (fault_told s s_there h h_there (at line r) i)))

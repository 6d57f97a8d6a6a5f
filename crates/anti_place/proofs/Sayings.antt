-- Of which handler a remark is said.
use Rattle.std.proofs.Common.{◌≡◌, ℕ, zero, suc, ◌+◌, ◌⊎◌, inl, inr, List, [], ◌∷◌, slice_get, Some, refl, sym, subst, arith}
use Rattle.anti_lang.specs.Bodies.{block_of}
use Rattle.anti_lang.specs.Program.{Block}
use Rattle.anti_app.specs.declared.app.HandlerDef.{HandlerDef}
use Rattle.anti_app.specs.declared.app.ServiceDef.{ServiceDef}
use Rattle.anti_place.specs.declared.remark.Remark.{Remark}
use Rattle.anti_place.specs.Reviews.{handlers_say, services_say}
use Rattle.anti_place.proofs.Members.{In, in_left, in_right, in_either}

module _ (says : ℕ → ℕ → Block → List Remark) (r : Remark) where
  abbrev Says : ℕ → ℕ → HandlerDef → Type 0
  Says service handler h = In r (says service handler (block_of h.body))

  -- ---- what is said of a handler is said

  pub handler_said : (service n : ℕ) (hs : List HandlerDef) (k : ℕ) (h : HandlerDef) → slice_get hs k ≡ Some h → (m : ℕ) → n + k ≡ m → Says service m h
      → In r (handlers_say says service n hs)
  handler_said service n [] k h at m is said = absurd (cc)
  handler_said service n (x ∷ xs) zero h at m is said =
      let one : x ≡ h = cc in
      let same : m ≡ n = omega (arith, is) in
      in_left r (says service n (block_of x.body)) (handlers_say says service (n + 1) xs)
      (subst (λ (y : HandlerDef). Says service n y) (sym one) (subst (λ (i : ℕ). Says service i h) same said))
  handler_said service n (x ∷ xs) (suc k) h at m is said =
      in_right r (says service n (block_of x.body)) (handlers_say says service (n + 1) xs) (handler_said service (n + 1) xs k h at m (omega (arith, is)) said)

  pub service_said : (n : ℕ) (ss : List ServiceDef) (k : ℕ) (s : ServiceDef) → slice_get ss k ≡ Some s → (m : ℕ) → n + k ≡ m
      → In r (handlers_say says m 0 s.handlers.items) → In r (services_say says n ss)
  service_said n [] k s at m is said = absurd (cc)
  service_said n (x ∷ xs) zero s at m is said =
      let one : x ≡ s = cc in
      let same : m ≡ n = omega (arith, is) in
      in_left r (handlers_say says n 0 x.handlers.items) (services_say says (n + 1) xs)
      (subst (λ (y : ServiceDef). In r (handlers_say says n 0 y.handlers.items)) (sym one) (subst (λ (i : ℕ). In r (handlers_say says i 0 s.handlers.items)) same said))
  service_said n (x ∷ xs) (suc k) s at m is said =
      in_right r (handlers_say says n 0 x.handlers.items) (services_say says (n + 1) xs) (service_said (n + 1) xs k s at m (omega (arith, is)) said)

  -- ---- and what is said is said of one

  -- the handler of which it is said
  pub record Handler (service n : ℕ) (hs : List HandlerDef) : Type 0 where
    pub place : ℕ
    pub number : ℕ
    pub counts : n + place ≡ number
    pub handler : HandlerDef
    pub there : slice_get hs place ≡ Some handler
    pub said : Says service number handler

  handler_of : (service n : ℕ) (hs : List HandlerDef) → In r (handlers_say says service n hs) → Handler service n hs
  handler_of service n [] is = absurd is
  handler_of service n (x ∷ xs) is = go (handler_of service (n + 1) xs) (in_either r (says service n (block_of x.body)) (handlers_say says service (n + 1) xs) is)
    where
      go : (In r (handlers_say says service (n + 1) xs) → Handler service (n + 1) xs) → Says service n x ⊎ In r (handlers_say says service (n + 1) xs)
          → Handler service n (x ∷ xs)
      go rest (inl here) = record { place = 0; number = n; counts = omega arith; handler = x; there = refl; said = here }
      go rest (inr later) =
          let found = rest later in
          let counted = found.counts in
          record { place = suc found.place; number = found.number; counts = omega (arith, counted); handler = found.handler; there = found.there; said = found.said }

  -- and the service
  pub record Service (n : ℕ) (ss : List ServiceDef) : Type 0 where
    pub place : ℕ
    pub number : ℕ
    pub counts : n + place ≡ number
    pub service : ServiceDef
    pub there : slice_get ss place ≡ Some service
    pub handler : Handler number 0 service.handlers.items

  pub service_of : (n : ℕ) (ss : List ServiceDef) → In r (services_say says n ss) → Service n ss
  service_of n [] is = absurd is
  service_of n (x ∷ xs) is = go (service_of (n + 1) xs) (in_either r (handlers_say says n 0 x.handlers.items) (services_say says (n + 1) xs) is)
    where
      go : (In r (services_say says (n + 1) xs) → Service (n + 1) xs) → In r (handlers_say says n 0 x.handlers.items) ⊎ In r (services_say says (n + 1) xs)
          → Service n (x ∷ xs)
      go rest (inl here) = record { place = 0; number = n; counts = omega arith; service = x; there = refl; handler = handler_of n 0 x.handlers.items here }
      go rest (inr later) =
          let found = rest later in
          let counted = found.counts in
          record { place = suc found.place; number = found.number; counts = omega (arith, counted); service = found.service; there = found.there; handler = found.handler }

-- What the objects of an application start as, and the history of one object at two places of a trace.
use Rattle.std.proofs.Common.{◌≡◌, ℕ, zero, suc, ◌-◌, ◌<◌, ◌≤◌, ◌++◌, Bool, true, false, cond, List, [], ◌∷◌, length, nat_eq, refl, sym, ap, ◌∙◌, subst, inl, inr, arith}
use Rattle.std.specs.Prelude.{All, Contains, Option, Some, None, slice_get, take, drop, flat_map, option_map}
use Rattle.std.proofs.lemmas.Bool.{cases_lt, eq-eqb}
use Rattle.std.proofs.lemmas.List.{take-append-drop}
use Rattle.std.proofs.lemmas.List.Elements.{All-nil, All-cons, All-append, filter-append}
use Rattle.std.proofs.lemmas.List.Concat.{flat_map-cons}
use Rattle.anti_kind.specs.declared.entry.Entry.{Entry}
use Rattle.anti_kind.specs.declared.message.Message.{Message}
use Rattle.anti_kind.specs.Objects.{Start, store, inbox, Follows, IsLegal}
use Rattle.anti_kind.specs.Laws.{KeepsLaws}
use Rattle.anti_kind.specs.Caches.{store_with}
use Rattle.anti_kind.proofs.Histories.{legal_front}
use Rattle.anti_kind.proofs.Caching.{kinds_keep_laws}
use Rattle.anti_app.specs.declared.app.App.{App}
use Rattle.anti_app.specs.declared.app.StoreDef.{StoreDef}
use Rattle.anti_app.specs.declared.app.ServiceDef.{ServiceDef}
use Rattle.anti_app.specs.declared.app.HandlerDef.{HandlerDef}
use Rattle.anti_app.specs.declared.app.RequestDef.{RequestDef}
use Rattle.anti_app.specs.Subs.{subs_on}
use Rattle.anti_object.specs.Starts.{start_of, store_start, room_of, tries_of, inbox_start, message_to, message_of}
use Rattle.anti_object.proofs.Starts.{start_of-store, start_of-inbox}
use Rattle.anti_proc.specs.Meaning.{stated_in}
use Rattle.anti_trace.specs.Legal.{IsLegalTrace}
use Rattle.anti_trace.specs.Traces.{entries_on, is_on}
use Rattle.anti_trace.proofs.OfLegal.{filter_cut}
use Rattle.law_causal.proofs.Places.{comes}

-- ---- starts

-- each store of an application keeps the laws, whatever its kind
store_keeps : (app : App) (o : ℕ) (d : StoreDef) → KeepsLaws (store_with d.kind o d.replicas.items (subs_on app o) (tries_of d) (room_of d))
store_keeps app o d = kinds_keep_laws (store_with d.kind o d.replicas.items (subs_on app o) (tries_of d) (room_of d)) refl

-- a message that states no lineage, as a request
abbrev pub StatesNone : App → Message → Type 0
StatesNone app m = stated_in app m ≡ []

-- A store has its own number, and keeps the laws of stores. Requests state no lineage.
abbrev pub IsOfApp : App → ℕ → Start → Type 0
IsOfApp app o (store s) = (s.number ≡ o) × KeepsLaws s
IsOfApp app o (inbox requests) = All (StatesNone app) requests

request_states_none : (app : App) (here : Bool) (r : RequestDef) (handler : Option HandlerDef) → All (StatesNone app) (cond here (message_to r handler) [])
request_states_none app true r None = All-nil (StatesNone app)
request_states_none app true r (Some h) = All-cons (StatesNone app) _ [] refl (All-nil (StatesNone app))
request_states_none app false r handler = All-nil (StatesNone app)

requests_state_none : (app : App) (s : ServiceDef) (service : ℕ) (rs : List RequestDef) → All (StatesNone app) (flat_map (message_of s service) rs)
requests_state_none app s service [] = All-nil (StatesNone app)
requests_state_none app s service (r ∷ rs) =
    subst (All (StatesNone app)) (sym (flat_map-cons (message_of s service) r rs))
    (All-append (StatesNone app) (message_of s service r) (flat_map (message_of s service) rs)
    (request_states_none app (nat_eq r.service service) r (slice_get s.handlers.items r.handler)) (requests_state_none app s service rs))

module _ (app : App) (o : ℕ) (start : Start) where
  of_store : (found : Option StoreDef) → option_map (store_start app o) found ≡ Some start → IsOfApp app o start
  of_store None is = absurd (cc)
  of_store (Some s) is = let same : store_start app o s ≡ start = cc in subst (IsOfApp app o) same (refl, store_keeps app o s)

  of_inbox : (service : ℕ) (found : Option ServiceDef) → option_map (inbox_start app service) found ≡ Some start → IsOfApp app o start
  of_inbox service None is = absurd (cc)
  of_inbox service (Some s) is =
      let same : inbox_start app service s ≡ start = cc in
      subst (IsOfApp app o) same (requests_state_none app s service app.requests.items)

  pub start_is_of_app : start_of app o ≡ Some start → IsOfApp app o start
  start_is_of_app at =
      elim (cases_lt o (length app.stores.items)) [
        | inl low ↦ of_store (slice_get app.stores.items o) (sym (start_of-store app o low) ∙ at)
        | inr high ↦ of_inbox (o - length app.stores.items) (slice_get app.services.items (o - length app.stores.items)) (sym (start_of-inbox app o high) ∙ at)
      ]

-- ---- lists

-- a list of one item has no other
pub only : {X : Type 0} (x y : X) → Contains (x ∷ []) y → x ≡ y
only x y (zero, short, is) = is
only x y (suc k, short, is) = absurd (omega (arith, short))

-- what stands before a place begins with what stands before an earlier one
pub front_cut : {X : Type 0} (xs : List X) (i j : ℕ) (x : X) → i < j → slice_get xs i ≡ Some x → (rest : List X) × (take j xs ≡ take i xs ++ x ∷ rest)
front_cut [] i j x less at = absurd (cc)
front_cut (y ∷ ys) i zero x less at = absurd (omega (arith, less))
front_cut (y ∷ ys) zero (suc j) x less at = let same : y ≡ x = cc in (take j ys, ap (λ z. z ∷ take j ys) same)
front_cut (y ∷ ys) (suc i) (suc j) x less at =
    let more = front_cut ys i j x (omega (arith, less)) at in
    (more.0, ap (λ zs. y ∷ zs) more.1)

pub front_longer : {X : Type 0} (xs : List X) (i j : ℕ) → i ≤ j → (rest : List X) × (take j xs ≡ take i xs ++ rest)
front_longer xs zero j le = (take j xs, refl)
front_longer [] (suc i) zero le = absurd (omega (arith, le))
front_longer [] (suc i) (suc j) le = ([], refl)
front_longer (y ∷ ys) (suc i) zero le = absurd (omega (arith, le))
front_longer (y ∷ ys) (suc i) (suc j) le =
    let more = front_longer ys i j (omega (arith, le)) in
    (more.0, ap (λ zs. y ∷ zs) more.1)

-- ---- two places of a trace

module _ (trace : List Entry) (o : ℕ) where
  -- an earlier entry on an object stands in its history, behind what was its history then
  pub history_cut : (i j : ℕ) (a : Entry) → i < j → slice_get trace i ≡ Some a → a.object ≡ o
      → (rest : List Entry) × (entries_on o (take j trace) ≡ entries_on o (take i trace) ++ a ∷ rest)
  history_cut i j a less at on =
      let cut = front_cut trace i j a less at in
      (entries_on o cut.0, ap (entries_on o) cut.1 ∙ filter_cut (is_on o) (take i trace) a cut.0 (eq-eqb a.object o on))

  -- the history at a later place begins with that at an earlier one
  pub history_longer : (i j : ℕ) → i ≤ j → (rest : List Entry) × (entries_on o (take j trace) ≡ entries_on o (take i trace) ++ rest)
  history_longer i j le =
      let cut = front_longer trace i j le in
      (entries_on o cut.0, ap (entries_on o) cut.1 ∙ filter-append (is_on o) (take i trace) cut.0)

module _ (app : App) (trace : List Entry) (legal : IsLegalTrace app trace) (o : ℕ) (start : Start) (at : start_of app o ≡ Some start) where
  -- the history at each place is legal
  pub legal_at : (k : ℕ) → IsLegal start (entries_on o (take k trace))
  legal_at k =
      let whole : entries_on o trace ≡ entries_on o (take k trace) ++ entries_on o (drop k trace) =
      ap (entries_on o) (sym (take-append-drop k trace)) ∙ filter-append (is_on o) (take k trace) (drop k trace) in
      legal_front start (entries_on o (take k trace)) (entries_on o (drop k trace)) (subst (IsLegal start) whole (legal.histories o start at))

  -- and each entry on the object follows it
  pub follows_at : (j : ℕ) (e : Entry) → slice_get trace j ≡ Some e → e.object ≡ o → Follows start (entries_on o (take j trace)) e
  follows_at j e there on =
      subst (λ (n : ℕ). Follows start (entries_on n (take j trace)) e) on (comes app trace legal j e there start (ap (start_of app) on ∙ at)).0

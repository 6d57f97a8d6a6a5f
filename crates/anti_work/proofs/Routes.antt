-- What a worker has shipped, with one call more.
use Rattle.std.proofs.Common.{◌≡◌, ℕ, ◌⊎◌, ◌++◌, true, List, [], ◌∷◌, refl, sym, ap, ◌∙◌, subst, inl, inr}
use Rattle.std.specs.Prelude.{All}
use Rattle.std.specs.List.{Contains}
use Rattle.std.proofs.lemmas.Bool.{eq-eqb, eqb-true}
use Rattle.std.proofs.lemmas.List.Elements.{All-cons, All-contains, All-contains_itself, All-head, All-nil, All-weaker, Contains-append_cases, Contains-append_left, Contains-append_right, filter-append}
use Rattle.anti_kind.specs.declared.actor.Actor.TheVariants.{Carrier}
use Rattle.anti_kind.specs.declared.call.Call.TheVariants.{Ship}
use Rattle.anti_kind.specs.declared.entry.Entry.{Entry}
use Rattle.anti_kind.proofs.Finding.{filter_contains}
use Rattle.anti_trace.specs.Traces.{entries_on, is_on}
use Rattle.anti_work.specs.declared.worker.Route.{Route}
use Rattle.anti_work.specs.Workers.{ShipsFirst}
use Rattle.anti_work.specs.inner.Working.{RouteStands}

module _ (number store region : ℕ) (calls : List Entry) (e : Entry) (v : ℕ) where
  -- the call ships the first part of the version
  abbrev pub IsFirstPart : Type 0
  IsFirstPart = (e.object ≡ store) × (e.actor ≡ Carrier number) × (e.call ≡ Ship region v 1)

  with_it : entries_on store (calls ++ e ∷ []) ≡ entries_on store calls ++ entries_on store (e ∷ [])
  with_it = filter-append (is_on store) calls (e ∷ [])

  -- what was shipped stays so
  pub ships_still : ShipsFirst number region (entries_on store calls) v → ShipsFirst number region (entries_on store (calls ++ e ∷ [])) v
  ships_still was = (
    was.0,
    subst (λ (h : List Entry). Contains h was.0) (sym with_it) (Contains-append_left (entries_on store calls) (entries_on store (e ∷ [])) was.0 was.1),
    was.2,
    was.3,
  )

  -- and what is shipped was so before, or it is by this call
  pub ships_cases : ShipsFirst number region (entries_on store (calls ++ e ∷ [])) v → ShipsFirst number region (entries_on store calls) v ⊎ IsFirstPart
  ships_cases now =
      elim (Contains-append_cases (entries_on store calls) (entries_on store (e ∷ [])) now.0 (subst (λ (h : List Entry). Contains h now.0) with_it now.1)) [
        | inl before ↦ inl (now.0, before, now.2, now.3)
        | inr last ↦
            let both : Contains (e ∷ []) now.0 × (is_on store now.0 ≡ true) = (filter_contains (is_on store) (e ∷ []) now.0).0 last in
            let same : now.0 ≡ e = All-contains (λ x. x ≡ e) (e ∷ []) now.0 (All-cons (λ x. x ≡ e) e [] refl (All-nil (λ x. x ≡ e))) both.0 in
            inr (
              ap (λ (x : Entry). x.object) (sym same) ∙ eqb-true now.0.object store both.1,
              ap (λ (x : Entry). x.actor) (sym same) ∙ now.2,
              ap (λ (x : Entry). x.call) (sym same) ∙ now.3,
            )
      ]

  -- by this call
  pub ships_now : IsFirstPart → ShipsFirst number region (entries_on store (calls ++ e ∷ [])) v
  ships_now is =
      let last : Contains (calls ++ e ∷ []) e = Contains-append_right calls (e ∷ []) e (All-head (Contains (e ∷ [])) e [] (All-contains_itself (e ∷ []))) in
      (e, (filter_contains (is_on store) (calls ++ e ∷ []) e).1 (last, eq-eqb e.object store is.0), is.1, is.2)

-- A call that ships no first part of a route leaves it as it was.
pub route_kept : (number : ℕ) (calls : List Entry) (route : Route) (e : Entry) → ((v : ℕ) → IsFirstPart number route.store route.region calls e v → ⊥)
    → RouteStands number calls route → RouteStands number (calls ++ e ∷ []) route
route_kept number calls route e other stands = record {
  is_next = record {
    some = stands.is_next.some;
    not = λ now. elim (ships_cases number route.store route.region calls e route.next now) [
      | inl was ↦ stands.is_next.not was
      | inr is ↦ other route.next is
    ];
    lower = λ v low below. ships_still number route.store route.region calls e v (stands.is_next.lower v low below);
  };
  others = λ v above. (
    λ now. elim (ships_cases number route.store route.region calls e v now) as (λ _. Contains route.ahead.items v) [
      | inl was ↦ (stands.others v above).0 was
      | inr is ↦ absurd (other v is)
    ],
    λ ahead. ships_still number route.store route.region calls e v ((stands.others v above).1 ahead),
  );
}

-- one that ships no first part leaves all of them so
pub routes_kept : (number : ℕ) (calls : List Entry) (routes : List Route) (e : Entry)
    → ((store region v : ℕ) → IsFirstPart number store region calls e v → ⊥) → All (RouteStands number calls) routes → All (RouteStands number (calls ++ e ∷ [])) routes
routes_kept number calls routes e other stand =
    All-weaker (RouteStands number calls) (RouteStands number (calls ++ e ∷ []))
    (λ route stands. route_kept number calls route e (λ v is. other route.store route.region v is) stands) routes stand

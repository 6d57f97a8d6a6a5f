-- What a worker knows behind a try at a call of its carrier.
use Rattle.std.proofs.Common.{◌≡◌, ◌==◌, ℕ, ◌<◌, ◌≤◌, ◌⊎◌, ◌++◌, Bool, true, false, List, [], ◌∷◌, length, inl, inr, refl, sym, ap, ◌∙◌, subst, slice_index_or, arith}
use Rattle.std.specs.Prelude.{◌↔◌, All, None, Option, Some, IfSome, if◌then◌else◌}
use Rattle.std.specs.List.{Contains}
use Rattle.std.proofs.lemmas.Bool.{cases_eq, cases_lt, eqb-true}
use Rattle.std.proofs.lemmas.List.Elements.{All-push}
use Rattle.std.proofs.lemmas.Option.{slice_get-get_or}
use Rattle.anti_kind.specs.declared.actor.Actor.TheVariants.{Carrier}
use Rattle.anti_kind.specs.declared.asking.Asking.{Asking}
use Rattle.anti_kind.specs.declared.call.Call.{Call}
use Rattle.anti_kind.specs.declared.call.Call.TheVariants as calls
use Rattle.anti_kind.specs.declared.call.Call.TheVariants.{Ship}
use Rattle.anti_kind.specs.declared.call.Reply.{Reply}
use Rattle.anti_kind.specs.declared.entry.Entry.{Entry}
use Rattle.anti_kind.specs.declared.port.Answer.TheVariants.{Made, Refused}
use Rattle.anti_kind.specs.declared.refusal.Refusal.{Refusal}
use Rattle.anti_kind.specs.Objects.{last_stamp}
use Rattle.anti_kind.proofs.Histories.{last_is}
use Rattle.anti_app.specs.declared.app.App.{App}
use Rattle.anti_app.specs.Objects.{object_count}
use Rattle.anti_proc.specs.Tasks.{role_of}
use Rattle.anti_trace.specs.Legal.{bears, carries}
use Rattle.anti_trace.specs.Traces.{entries_by, entries_on}
use Rattle.anti_trace.specs.declared.processes.AtObject.{AtObject}
use Rattle.anti_trace.specs.inner.Living.{AreProcessesOf, born_at, lists}
use Rattle.anti_trace.proofs.Followed.{carried_are}
use Rattle.anti_proc.specs.inner.Standing.{full_of}
use Rattle.anti_play.specs.Schedule.{asking_at}
use Rattle.anti_work.specs.declared.worker.Route.{Route}
use Rattle.anti_work.specs.declared.worker.Worker.{Worker}
use Rattle.anti_work.specs.Workers.{IsNextVersion, ShipsFirst, worker_at}
use Rattle.anti_work.specs.inner.Knowing.{IsAskedBy, KnowsCalls}
use Rattle.anti_work.specs.inner.Shipping.{HasNoted, HasNotedAt, HasShipped, HaveNoted, IsRouteOf, first_part}
use Rattle.anti_work.specs.inner.Working.{IsRefusedAt, RouteStands, Stays, WorkerStands}
use Rattle.anti_work.proofs.Asked.{carrier_did, made_above, made_entry, made_knows}
use Rattle.anti_work.proofs.Composed.{refused_past, stays_itself, stays_refused}
use Rattle.anti_work.proofs.Grown.{entries_by_next}
use Rattle.anti_work.proofs.OneMore.{gets_more}
use Rattle.anti_work.proofs.Routes.{route_kept, routes_kept, ships_cases, ships_now, ships_still}

-- ---- calls

-- the call that ships a first part
ships_of : (call : Call) (region version : ℕ) → first_part call ≡ Some (region, version) → call ≡ Ship region version 1
ships_of (calls.Ship r v part) region version is = by_test (part == 1) refl is
  where
    by_test : (t : Bool) → (part == 1) ≡ t → if◌then◌else◌ {A = Option (ℕ × ℕ)} t (Some (r, v)) None ≡ Some (region, version) → Ship r v part ≡ Ship region version 1
    by_test true one some =
        let pair : (r, v) ≡ (region, version) = cc in
        let p : part ≡ 1 = eqb-true part 1 one in
        let r_is : r ≡ region = ap (λ (z : ℕ × ℕ). z.0) pair in
        let v_is : v ≡ version = ap (λ (z : ℕ × ℕ). z.1) pair in
        cc
    by_test false one some = absurd (cc)
ships_of _ region version is = absurd (cc)

-- a call by which a process is born is none of a carrier
bears_or_carries : (call : Call) → carries call ≡ true → bears call ≡ true → ⊥
bears_or_carries (calls.Take nth) carrying bearing = absurd (cc)
bears_or_carries (calls.Pull sub) carrying bearing = absurd (cc)
bears_or_carries (calls.Repull sub version) carrying bearing = absurd (cc)
bears_or_carries _ carrying bearing = absurd (cc)

-- ---- a route

-- what it tells, where it stands for the calls
module _ (number : ℕ) (calls : List Entry) (route : Route) (stands : RouteStands number calls route) (v : ℕ) (some : 1 ≤ v) where
  abbrev Ships : Type 0
  Ships = ShipsFirst number route.region (entries_on route.store calls) v

  tells : Ships → HasShipped route v
  tells ships =
      elim (cases_lt v route.next) as (λ _. HasShipped route v) [
        | inl low ↦ inl low
        | inr from ↦ elim (cases_eq v route.next) as (λ _. HasShipped route v) [
          | inl same ↦ absurd (stands.is_next.not (subst (ShipsFirst number route.region (entries_on route.store calls)) same ships))
          | inr other ↦
              let above : route.next < v = omega (arith, from, other) in
              inr (above, (stands.others v above).0 ships)
        ]
      ]

  told : HasShipped route v → Ships
  told has =
      elim has as (λ _. Ships) [
        | inl low ↦ stands.is_next.lower v some low
        | inr high ↦ (stands.others v high.0).1 high.1
      ]

module _ (number : ℕ) (calls : List Entry) (e : Entry) (by : e.actor ≡ Carrier number) (region version : ℕ) (call : e.call ≡ Ship region version 1) where
  abbrev more : List Entry
  more = calls ++ e ∷ []

  module _ (was is : Route) (stands : RouteStands number calls was) where
    -- it goes there
    module _ (of : IsRouteOf e.object region was) (noted : HasNoted version was is) where
      abbrev ShipsNow : ℕ → Type 0
      ShipsNow v = ShipsFirst number was.region (entries_on was.store more) v

      tells_now : (v : ℕ) → 1 ≤ v → ShipsNow v → HasShipped is v
      tells_now v some ships = (noted.has v).1
          (elim (ships_cases number was.store was.region calls e v ships) as (λ _. HasShipped was v ⊎ (v ≡ version)) [
            | inl before ↦ inl (tells number calls was stands v some before)
            | inr first ↦
                let same : Ship was.region v 1 ≡ Ship region version 1 = sym first.2 ∙ call in
                let one : v ≡ version = cc in inr one
          ])

      told_now : (v : ℕ) → 1 ≤ v → HasShipped is v → ShipsNow v
      told_now v some has =
          elim ((noted.has v).0 has) as (λ _. ShipsNow v) [
            | inl before ↦ ships_still number was.store was.region calls e v (told number calls was stands v some before)
            | inr one ↦
                let same : Ship region version 1 ≡ Ship was.region v 1 =
                ap (λ (r : ℕ). Ship r version 1) (sym of.1) ∙ ap (λ (n : ℕ). Ship was.region n 1) (sym one) in
                ships_now number was.store was.region calls e v (sym of.0, by, call ∙ same)
          ]

      next_some : 1 ≤ is.next
      next_some = let before = stands.is_next.some in let up = noted.some in omega arith

      is_next : IsNextVersion number was.region (entries_on was.store more) is.next
      is_next = record {
        some = next_some;
        not = λ ships. elim (tells_now is.next next_some ships) [
          | inl low ↦ absurd (omega (arith, low))
          | inr high ↦ let above : is.next < is.next = high.0 in absurd (omega (arith, above))
        ];
        lower = λ v some low. told_now v some (inl low);
      }

      others_tell : (v : ℕ) → is.next < v → ShipsNow v → Contains is.ahead.items v
      others_tell v above ships =
          elim (tells_now v (omega (arith, above)) ships) as (λ _. Contains is.ahead.items v) [
            | inl low ↦ absurd (omega (arith, low, above))
            | inr high ↦ high.1
          ]

      route_there : RouteStands number more is
      route_there = record {
        is_next = subst (λ (s : ℕ). IsNextVersion number is.region (entries_on s more) is.next) (sym noted.store)
            (subst (λ (r : ℕ). IsNextVersion number r (entries_on was.store more) is.next) (sym noted.region) is_next);
        others = λ v above.
            subst (λ (s : ℕ). ShipsFirst number is.region (entries_on s more) v ↔ Contains is.ahead.items v) (sym noted.store)
            (subst (λ (r : ℕ). ShipsFirst number r (entries_on was.store more) v ↔ Contains is.ahead.items v) (sym noted.region)
            (λ ships. others_tell v above ships, λ ahead. told_now v (omega (arith, above)) (inr (above, ahead))));
      }

    pub route_noted : HasNotedAt e.object region version was is → RouteStands number more is
    route_noted noted =
        elim noted as (λ _. RouteStands number more is) [
          | inl there ↦ route_there there.0 there.1
          | inr off ↦ subst (RouteStands number more) (sym off.1)
              (route_kept number calls was e (λ v first.
              let same : Ship was.region v 1 ≡ Ship region version 1 = sym first.2 ∙ call in
              let one : was.region ≡ region = cc in off.0 (sym first.0, one)) stands)
        ]

-- all routes
routes_noted : (number : ℕ) (calls : List Entry) (e : Entry) → e.actor ≡ Carrier number → (first : Option (ℕ × ℕ)) → first_part e.call ≡ first → (old new : List Route)
    → HaveNoted e.object first old new → All (RouteStands number calls) old → All (RouteStands number (calls ++ e ∷ [])) new
routes_noted number calls e by None is old new same stand =
    subst (All (RouteStands number (calls ++ e ∷ []))) (sym same)
    (routes_kept number calls old e (λ store region v first. let some : None ≡ Some (region, v) = sym is ∙ ap first_part first.2 in absurd (cc)) stand)
routes_noted number calls e by (Some (region, version)) is old new noted stand = λ i d short.
    let count : length new ≡ length old = noted.0 in
    let low : i < length old = omega (arith, short, count) in
    route_noted number calls e by region version (ships_of e.call region version is) (slice_index_or old i d) (slice_index_or new i d) (stand i d low)
    ((noted.1 i (slice_index_or old i d) (slice_index_or new i d) (slice_get-get_or old i d low) (slice_get-get_or new i d short)).0 low)

-- ---- the try

module _ (app : App) (w : Worker) (calls : List Entry) (stands : WorkerStands app w calls) (object : ℕ) (call : Call) where
  -- its own clock is that of its carrier
  abbrev q : Asking
  q = record { object = object; actor = Carrier w.number; span = 0; clock = w.clock; call = call }

  abbrev it : Asking
  it = asking_at calls object (Carrier w.number) 0 call

  q_is : q ≡ it
  q_is = ap (λ (n : ℕ). record { object = object; actor = Carrier w.number; span = 0; clock = n; call = call }) stands.clock

  -- no call was made
  pub carry_refused : (new : Worker) (refusal : Refusal) → IsAskedBy w.passes.items new.passes.items q (Refused refusal) → new.number ≡ w.number
      → lists new.processes ≡ lists w.processes → new.clock ≡ w.clock → new.routes.items ≡ w.routes.items → Stays app w new calls × IsRefusedAt app new calls it
  carry_refused new refusal asked number same clock routes =
      let both : Stays app w new calls × IsRefusedAt app new calls q = stays_refused app w new calls stands number same clock routes q refusal asked in
      (both.0, subst (IsRefusedAt app new calls) q_is both.1)

  -- nor at an object that is not there
  pub carry_past : object_count app ≤ object → Stays app w w calls × IsRefusedAt app w calls it
  carry_past past = (stays_itself app w calls stands, refused_past app w calls it past)

  -- it was made
  module _ (carrying : carries call ≡ true) (new : Worker) (place stamp : ℕ) (reply : Reply)
      (asked : IsAskedBy w.passes.items new.passes.items q (Made place stamp reply)) (number : new.number ≡ w.number) where
    abbrev e : Entry
    e = made_entry app w.number w.passes.items new.passes.items calls stands.knows q place stamp reply asked

    abbrev longer : List Entry
    longer = calls ++ e ∷ []

    knows : KnowsCalls app w.number new.passes.items longer
    knows = made_knows app w.number w.passes.items new.passes.items calls stands.knows q place stamp reply asked stands.clock
        (λ n carrier. let one : n ≡ w.number = cc in one)
        (carrier_did app w.number w.passes.items new.passes.items calls stands.knows q place stamp reply asked w.number refl carrying refl)

    processes : AreProcessesOf app (lists w.processes) longer
    processes = carried_are app (lists w.processes) calls longer stands.processes e (gets_more app calls e) (λ b born. absurd (cc))

    last : last_stamp (entries_by (Carrier w.number) longer) ≡ stamp
    last = ap last_stamp (entries_by_next calls e)
        ∙ last_is (entries_by (Carrier w.number) calls) e
        (made_above app w.number w.passes.items new.passes.items calls stands.knows q place stamp reply asked stands.clock)

    module _ (same : lists new.processes ≡ lists w.processes) (clock_is : new.clock ≡ stamp) (noted : HaveNoted object (first_part call) w.routes.items new.routes.items) where
      -- it stands for one call more
      pub carried_stands : (all : List Entry) × WorkerStands app new (calls ++ all)
      carried_stands = (
        e ∷ [],
        record {
          knows = subst (λ (n : ℕ). KnowsCalls app n new.passes.items longer) (sym number) knows;
          processes = subst (λ (all : List AtObject). AreProcessesOf app all longer) (sym same) processes;
          go = subst (λ (all : List AtObject). (o : ℕ) → All (λ p. full_of p ≡ None) (born_at all o)) (sym same) stands.go;
          clock = clock_is ∙ sym last ∙ ap (λ (n : ℕ). last_stamp (entries_by (Carrier n) longer)) (sym number);
          ours = subst (λ (n : ℕ). All (λ x. bears x.call ≡ true → IfSome (role_of app x) (λ role. worker_at app role.service ≡ n)) longer) (sym number)
              (All-push (λ x. bears x.call ≡ true → IfSome (role_of app x) (λ role. worker_at app role.service ≡ w.number)) calls e stands.ours
              (λ bearing. absurd (bears_or_carries call carrying bearing)));
          routes = subst (λ (n : ℕ). All (RouteStands n longer) new.routes.items) (sym number)
              (routes_noted w.number calls e refl (first_part call) refl w.routes.items new.routes.items noted stands.routes);
        },
      )

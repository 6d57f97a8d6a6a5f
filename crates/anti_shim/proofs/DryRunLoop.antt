-- A dry run that has looked at some of its stores, and its next look.
use Rattle.std.proofs.Common.{◌≡◌, ⊎_elim, inl, ℕ, suc, ◌+◌, ◌<◌, ◌≤◌, true, List, [], ◌∷◌, ◌++◌, length, get_or, take, All, refl, ap, sym, ◌∙◌, subst, arith}
use Rattle.std.specs.Prelude.{AllPairs, Contains, Result, Ok, Err}
use Rattle.std.specs.List.{AllZip, flat_map}
use Rattle.std.proofs.lemmas.Bool.{or_cases}
use Rattle.std.proofs.lemmas.List.{flat_map_more, get_or-take, get_or_default, length-take, take_more}
use Rattle.std.proofs.lemmas.List.Elements.{All-contains, Contains-get_or}
use Rattle.anti_ids.specs.declared.id.WriteId.{WriteId}
use Rattle.anti_ids.specs.Invariants.{IsAscending}
use Rattle.anti_ids.specs.Ids.{has_id, ids_of, with_id, with_ids}
use Rattle.anti_ids.proofs.IdLemmas.{has_id-with_ids, among_ids_of, ascending_with_ids, length-with_ids-part}
use Rattle.anti_kind.specs.declared.call.Call.TheVariants.{Look}
use Rattle.anti_kind.specs.declared.call.Reply.{Reply}
use Rattle.anti_kind.specs.declared.call.Reply.TheVariants.{Missing}
use Rattle.anti_kind.specs.declared.port.Answer.{Answer}
use Rattle.anti_kind.specs.declared.port.Answer.TheVariants as port
use Rattle.anti_kind.specs.declared.refusal.Refusal.{Refusal}
use Rattle.anti_kind.specs.Ports.{View, Answered}
use Rattle.anti_shim.specs.declared.caller.Caller.{Caller}
use Rattle.anti_shim.specs.declared.caller.Made.{Made}
use Rattle.anti_shim.specs.declared.fault.ShimFault.{ShimFault}
use Rattle.anti_shim.specs.declared.looks.PlannedLook.{PlannedLook}
use Rattle.anti_shim.specs.Steps.{Step, asking, IsAsked}
use Rattle.anti_shim.specs.Shims.{Gives}
use Rattle.anti_shim.specs.Looks.{looking, IsLookedAt, SomeLook, OnlyLooks}
use Rattle.anti_shim.specs.DryRuns.{Names, union, DryRunGives}
use Rattle.anti_shim.specs.inner.Looks.{IsMissing, SeesDry}
use Rattle.anti_shim.proofs.NextCall.{last, whole, answered_made}
use Rattle.anti_shim.proofs.LookLemmas.{IsRight, named_by, named_part, never_not_yet, looked_whole, only_more, Refuses, refuses, refused, wanting, not_asked}

-- A store is as it was that none of the first looks is of.
abbrev pub Untouched : Step → List PlannedLook → ℕ → Type 0
Untouched s planned i = (o : ℕ) → ((k : ℕ) (d : PlannedLook) → k < i → k < length planned → (get_or planned k d).store ≡ o → ⊥) → s.new o ≡ s.old o

-- What was named.

with_ids-append : (xs ys js : List WriteId) → with_ids (xs ++ ys) js ≡ with_ids ys (with_ids xs js)
with_ids-append [] ys js = refl
with_ids-append (x ∷ xs) ys js = with_ids-append xs ys (with_id x js)

union_more : (finds : List (List WriteId)) (ids : List WriteId) → union (finds ++ ids ∷ []) ≡ with_ids ids (union finds)
union_more finds ids =
    let more : flat_map (λ (xs : List WriteId). xs) finds ++ ids ≡ flat_map (λ (xs : List WriteId). xs) (finds ++ ids ∷ []) = flat_map_more (λ (xs : List WriteId). xs) [] finds ids in
    ap (λ (xs : List WriteId). with_ids xs []) (sym more) ∙ with_ids-append (flat_map (λ (xs : List WriteId). xs) finds) ids []

zip_push : {A B : Type 0} (R : A → B → Type 0) (xs : List A) (ys : List B) (x : A) (y : B) → AllZip R xs ys → R x y → AllZip R (xs ++ x ∷ []) (ys ++ y ∷ [])
zip_push R [] [] x y zipped r = (r, tt)
zip_push R [] (b ∷ ys) x y zipped r = absurd zipped
zip_push R (a ∷ xs) [] x y zipped r = absurd zipped
zip_push R (a ∷ xs) (b ∷ ys) x y zipped r = (zipped.0, zip_push R xs ys x y zipped.1 r)

-- what looks named stands where their stores are as they were
names_stay : (s : Step) (new : ℕ → View) (next : Caller) (region : ℕ) (looks : List PlannedLook) (finds : List (List WriteId)) → All (λ l. new l.store ≡ s.new l.store) looks
    → AllZip (Names s region) looks finds → AllZip (Names (whole s new next) region) looks finds
names_stay s new next region [] [] same zipped = zipped
names_stay s new next region [] (ids ∷ finds) same zipped = zipped
names_stay s new next region (look ∷ looks) [] same zipped = zipped
names_stay s new next region (look ∷ looks) (ids ∷ finds) same zipped =
    let n = zipped.0 in
    let here : s.new look.store ≡ new look.store = sym (same 0 look (omega arith)) in (
      record {
        clock = n.clock;
        place = n.place;
        stamp = n.stamp;
        unwritten = n.unwritten;
        looked = subst (λ (v : View). Answered (s.starts look.store) (looking s.before region true look n.clock) (s.old look.store) v (port.Made n.place n.stamp (Missing ids n.unwritten))) here n.looked;
      },
      names_stay s new next region looks finds (λ i d within. same (suc i) d (omega arith)) zipped.1,
    )

-- The next look.

pub record DryTurn (s : Step) (region : ℕ) (planned : List PlannedLook) (i : ℕ) (look : PlannedLook) : Type 0 where
  pub right : All (IsRight s.starts region) planned
  pub ascends : AllPairs (λ a b. a.store < b.store) planned
  pub only : OnlyLooks s region true planned
  pub untouched : Untouched s planned i
  pub within : i < length planned
  pub is : look ≡ get_or planned i look

module _ {s : Step} {region : ℕ} {planned : List PlannedLook} {i : ℕ} {look : PlannedLook} (t : DryTurn s region planned i look) where
  is_planned : Contains planned look
  is_planned = subst (λ (l : PlannedLook). Contains planned l) (sym t.is) (Contains-get_or planned i look t.within)

  -- the earlier looks are at lower stores
  lower : (k : ℕ) (d : PlannedLook) → k < i → (get_or planned k d).store < look.store
  lower k d less =
      let at : get_or planned i d ≡ look = get_or_default planned i d look t.within ∙ sym t.is in
      subst (λ (l : PlannedLook). (get_or planned k d).store < l.store) at (t.ascends k i d less t.within)

  same : s.new look.store ≡ s.old look.store
  same = t.untouched look.store (λ k d less short is. let below : (get_or planned k d).store < look.store = lower k d less in omega (arith, is))

  module _ {new : ℕ → View} {next : Caller} where
    module _ {outcome : Result Made ShimFault} (asked : IsAsked (last s new next) look.store (Look region look.ids true) outcome) where
      pub dry_only : OnlyLooks (whole s new next) region true planned
      dry_only = only_more s new next region true planned look outcome is_planned same (inl asked) t.only

      pub dry_untouched : Untouched (whole s new next) planned (i + 1)
      dry_untouched o off =
          asked.others o (λ here. off i look (omega arith) t.within (ap (λ (l : PlannedLook). l.store) (sym t.is) ∙ sym here))
          ∙ t.untouched o (λ k d less short is. off k d (omega arith) short is)

      -- the stores of the earlier looks are as they were
      earlier_same : All (λ l. new l.store ≡ s.new l.store) (take i planned)
      earlier_same k d within =
          let less : k < i = omega (arith, length-take i planned) in
          let at : get_or (take i planned) k d ≡ get_or planned k d = get_or-take i planned k d less in
          let below : (get_or planned k d).store < look.store = lower k d less in
          asked.others (get_or (take i planned) k d).store (λ is. let here : (get_or planned k d).store ≡ look.store = ap (λ (l : PlannedLook). l.store) (sym at) ∙ is in omega arith)

    names_so : (missing : List WriteId) (outcome : Result Made ShimFault) → IsAsked (last s new next) look.store (Look region look.ids true) outcome
        → Gives IsMissing outcome (Ok missing)
        → Names (whole s new next) region look missing
    names_so missing (Err refusal) asked gives = let no : ◌≡◌ {A = Result (List WriteId) ShimFault} (Ok missing) (Err refusal) = gives in absurd (cc)
    names_so missing (Ok made) asked gives =
        let call = Look region look.ids true in
        let named = subst (λ (r : Reply). Answered (s.starts look.store) (asking s.after look.store call) (s.new look.store) (new look.store) (port.Made made.place made.stamp r)) gives.1
        (answered_made (last s new next) look.store call made asked) in
        record {
          clock = s.after.clock;
          place = made.place;
          stamp = made.stamp;
          unwritten = gives.0;
          looked = looked_whole s new next region true look s.after.clock (port.Made made.place made.stamp (Missing missing gives.0)) same t.only.caller named;
        }

    -- a look that was made
    module _ {missing : List WriteId} (l : SeesDry (last s new next) look.store region look.ids (Ok missing)) where
      names_here : Names (whole s new next) region look missing
      names_here = names_so missing l.outcome l.asked l.gives

      pub dry_part : (lineage : List WriteId) → All (λ x. x.ids ≡ ids_of x.store lineage) planned → (id : WriteId) → has_id id missing ≡ true → has_id id lineage ≡ true
      dry_part lineage own id has =
          let n = names_here in
          let named = named_by (s.starts look.store) (record s.before { clock = n.clock }) look.store region look.ids true (s.old look.store) (new look.store) n.place n.stamp missing n.unwritten n.looked in
          let ids : look.ids ≡ ids_of look.store lineage = All-contains (λ (x : PlannedLook). x.ids ≡ ids_of x.store lineage) planned look own is_planned in
          among_ids_of look.store lineage id (subst (λ (xs : List WriteId). has_id id xs ≡ true) ids (named_part region look.ids true missing n.unwritten named id has))

      pub dry_finds : (named : List WriteId) → (finds : List (List WriteId)) × AllZip (Names s region) (take i planned) finds × (named ≡ union finds)
          → (finds : List (List WriteId)) × AllZip (Names (whole s new next) region) (take (i + 1) planned) finds × (with_ids missing named ≡ union finds)
      dry_finds named f =
          let taken : take (i + 1) planned ≡ take i planned ++ look ∷ [] = take_more planned i look t.within ∙ ap (λ (x : PlannedLook). take i planned ++ x ∷ []) (sym t.is) in
          let kept = names_stay s new next region (take i planned) f.0 (earlier_same l.asked) f.1 in (
            f.0 ++ missing ∷ [],
            subst (λ (xs : List PlannedLook). AllZip (Names (whole s new next) region) xs (f.0 ++ missing ∷ [])) (sym taken)
                (zip_push (Names (whole s new next) region) (take i planned) f.0 look missing kept names_here),
            ap (λ (xs : List WriteId). with_ids missing xs) f.2 ∙ sym (union_more f.0 missing),
          )

    -- a look that was refused
    abbrev the_look : (clock : ℕ) (answer : Answer) → IsLookedAt (last s new next) region true look clock answer → SomeLook (whole s new next) region true planned clock answer
    the_look clock answer at = record { look = look; planned = is_planned; looked = looked_whole s new next region true look clock answer same t.only.caller at }

    gives_so : {fault : ShimFault} → Refuses (last s new next) region true look fault → DryRunGives (whole s new next) region planned (Err fault)
    gives_so (refused {refusal} at) =
        let one = the_look next.clock (port.Refused refusal) at in (
          one,
          λ is. never_not_yet (whole s new next) region look (All-contains (IsRight s.starts region) planned look t.right is_planned) next.clock
              (subst (λ (r : Refusal). IsLookedAt (whole s new next) region true look next.clock (port.Refused r)) is one.looked),
        )
    gives_so (wanting at others) = tt
    gives_so (not_asked idle) = tt

    refused_so : (fault : ShimFault) (outcome : Result Made ShimFault) → IsAsked (last s new next) look.store (Look region look.ids true) outcome
        → Gives IsMissing outcome (Err fault) → Refuses (last s new next) region true look fault
    refused_so fault (Ok made) asked gives = absurd gives
    refused_so fault (Err refusal) asked gives =
        let is : refusal ≡ fault = let e : ◌≡◌ {A = Result (List WriteId) ShimFault} (Err fault) (Err refusal) = gives in cc in
        subst (λ (f : ShimFault). Refuses (last s new next) region true look f) is (refuses (last s new next) region true look refusal (inl asked))

    pub dry_gives : {fault : ShimFault} → SeesDry (last s new next) look.store region look.ids (Err fault) → DryRunGives (whole s new next) region planned (Err fault)
    dry_gives {fault} l = gives_so (refused_so fault l.outcome l.asked l.gives)

-- what is named together is a part of the lineage
pub union_short : (missing named lineage : List WriteId) (finds : List (List WriteId)) → named ≡ union finds → ((id : WriteId) → has_id id missing ≡ true → has_id id lineage ≡ true)
    → ((id : WriteId) → has_id id named ≡ true → has_id id lineage ≡ true) → length (with_ids missing named) ≤ length lineage
union_short missing named lineage finds is part_missing part_named =
    length-with_ids-part missing named lineage (subst IsAscending (sym is) (ascending_with_ids (flat_map (λ (xs : List WriteId). xs) finds) [] tt)) part_missing part_named

pub part_more : (missing named lineage : List WriteId) → ((id : WriteId) → has_id id missing ≡ true → has_id id lineage ≡ true) → ((id : WriteId) → has_id id named ≡ true → has_id id lineage ≡ true)
    → (id : WriteId) → has_id id (with_ids missing named) ≡ true → has_id id lineage ≡ true
part_more missing named lineage part_missing part_named id has =
    ⊎_elim (part_missing id) (part_named id) (or_cases (has_id id missing) (has_id id named) (sym (has_id-with_ids id missing named) ∙ has))

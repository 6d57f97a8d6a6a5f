-- The histories of a world's objects, and the one trace that has them.
use Rattle.std.proofs.Common.{◌≡◌, ℕ, ◌+◌, ◌<◌, ◌≤◌, ◌^◌, List, [], ◌∷◌, length, map, get_or, refl, sym, ap, ◌∙◌, subst, arith, inl, inr}
use Rattle.std.specs.Prelude.{All, IsTrue, IfOk, Result, Ok, Err, Some}
use Rattle.std.proofs.lemmas.Bool.{cases_lt, eqb-true, ne_eqb}
use Rattle.std.proofs.lemmas.Option.{slice_get_cases}
use Rattle.std.proofs.lemmas.List.{get_or-map, get_or_default, get_or_past, length-map}
use Rattle.std.proofs.lemmas.List.Concat.{length-flat_map}
use Rattle.std.proofs.lemmas.List.Elements.{filter_passes, All-head, All-tail}
use Rattle.std.proofs.lemmas.List.Sums.{sum_by-le}
use Rattle.anti_ids.specs.List.{Listed, empty}
use Rattle.anti_ids.specs.declared.memory.NoMemory.{NoMemory}
use Rattle.anti_ids.specs.declared.limits.TheConstants.{MOST_UNITS}
use Rattle.anti_kind.specs.declared.entry.Entry.{Entry}
use Rattle.anti_kind.specs.Objects.{Start, IsLegal}
use Rattle.anti_kind.proofs.Histories as histories
use Rattle.anti_app.specs.declared.app.App.{App}
use Rattle.anti_app.specs.Sound.{is_sound}
use Rattle.anti_trace.specs.Traces.{IsTrace, is_on, entries_on}
use Rattle.anti_trace.specs.Histories.{IsHistory, AreHistories, all_entries}
use Rattle.anti_trace.specs.inner.Heads.{history_at}
use Rattle.anti_trace.proofs.ByNumber.{are_by_number, on_number}
use Rattle.anti_trace.proofs.Merges.{history_none, legal_is_history}
use Rattle.anti_trace.proofs.Puts.{filter-no}
use Rattle.anti_trace.proofs.Sames.{same_trace}
use Rattle.anti_kind.specs.Records.{Record}
use Rattle.anti_object.specs.declared.object.Object.{Object}
use Rattle.anti_play.specs.declared.world.World.{World}
use Rattle.anti_object.specs.Starts.{start_of}
use Rattle.anti_object.proofs.Starts.{start_there}
use Rattle.anti_app.proofs.SoundLemmas.{SoundApp, app_known}
use Rattle.anti_app.specs.Objects.{object_count}
use Rattle.anti_play.specs.inner.Standing.{WorldStands}
use Rattle.anti_play.specs.inner.Closing.{histories_of}

-- ---- histories by number

-- legal histories of the objects of an application can be merged
module _ (app : App) (hs : List (Listed Entry)) (many : length hs ≡ object_count app)
    (legal : (o : ℕ) (start : Start) → start_of app o ≡ Some start → IsLegal start (history_at hs o)) (own : (o : ℕ) → All (λ e. e.object ≡ o) (history_at hs o)) where
  history_is : (o : ℕ) → IsHistory (history_at hs o)
  history_is o =
      elim (cases_lt o (length hs)) as (λ _. IsHistory (history_at hs o)) [
        | inl lt ↦
            let there : (start : Start) × (start_of app o ≡ Some start) = start_there app o (omega arith) in
            legal_is_history there.0 o (history_at hs o) (legal o there.0 there.1) (own o)
        | inr past ↦ subst IsHistory (sym (ap (λ (h : Listed Entry). h.items) (get_or_past hs o empty past))) history_none
      ]

  pub can_merge : AreHistories hs
  can_merge = are_by_number hs history_is own

  pub few_merged : IsTrue (is_sound app) → length (all_entries hs) < 2 ^ 32
  few_merged sound =
      let known : SoundApp app = app_known app sound in
      let same : length hs ≡ object_count app = many in
      let each : All (λ h. length h.items ≤ MOST_UNITS + 1) hs =
      λ k d l.
      let there : (start : Start) × (start_of app k ≡ Some start) = start_there app k (omega arith) in
      let short : length (history_at hs k) ≤ MOST_UNITS + 1 = histories.few_entries there.0 (history_at hs k) (legal k there.0 there.1) in
      let same : (get_or hs k d).items ≡ history_at hs k = ap (λ (h : Listed Entry). h.items) (get_or_default hs k d empty l) in
      let size = ap length same in omega arith in
      let most = sum_by-le (λ (h : Listed Entry). length h.items) (MOST_UNITS + 1) hs each in
      omega (arith, length-flat_map (λ (h : Listed Entry). h.items) hs)

-- ---- those of a world

-- no entry is on an object that is not there
none_on : (o n : ℕ) (t : List Entry) → n ≤ o → All (λ e. e.object < n) t → entries_on o t ≡ []
none_on o n [] past known = refl
none_on o n (e ∷ t) past known =
    let low : e.object < n = All-head (λ (x : Entry). x.object < n) e t known in
    filter-no (is_on o) e t (ne_eqb e.object o (λ same. omega arith)) ∙ none_on o n t past (All-tail (λ (x : Entry). x.object < n) e t known)

-- what the world's histories are, whatever room they have
abbrev pub AreItsHistories : World → List (Listed Entry) → Type 0
AreItsHistories w hs = map (λ h. h.items) hs ≡ histories_of w.objects.items

module _ (app : App) (w : World) (trace : List Entry) (s : WorldStands app w trace) where
  there_at : (o : ℕ) (d : List Entry) → o < length w.objects.items → get_or (histories_of w.objects.items) o d ≡ entries_on o trace
  there_at o d lt =
      elim ((slice_get_cases w.objects.items o).1) [
        | inl found ↦
            get_or-map (λ (r : Record Object). r.history) w.objects.items o found.0 d lt
            ∙ (s.objects.each o found.0 lt).history
        | inr past ↦ absurd (let le : length w.objects.items ≤ o = past.0 in omega arith)
      ]

  pub histories_are : (o : ℕ) → get_or (histories_of w.objects.items) o [] ≡ entries_on o trace
  histories_are o =
      elim (cases_lt o (length w.objects.items)) [
        | inl lt ↦ there_at o [] lt
        | inr past ↦
            let count = s.objects.count in
            let many = length-map w.objects.items (λ (r : Record Object). r.history) in
            let none : entries_on o trace ≡ [] = none_on o (object_count app) trace (omega arith) s.run.there in
            get_or_past (histories_of w.objects.items) o [] (omega arith) ∙ sym none
      ]

  on_own : (o : ℕ) → All (λ e. e.object ≡ o) (entries_on o trace)
  on_own o k d l = eqb-true _ _ (filter_passes (is_on o) trace k d l)

  module _ (hs : List (Listed Entry)) (are : AreItsHistories w hs) where
    many : length hs ≡ object_count app
    many = sym (length-map hs (λ (h : Listed Entry). h.items)) ∙ ap length are ∙ length-map w.objects.items (λ (r : Record Object). r.history) ∙ s.objects.count

    at_number : (o : ℕ) → history_at hs o ≡ entries_on o trace
    at_number o =
        elim (cases_lt o (length hs)) as (λ _. history_at hs o ≡ entries_on o trace) [
          | inl lt ↦ sym (get_or-map (λ (h : Listed Entry). h.items) hs o empty [] lt) ∙ ap (λ (xs : List (List Entry)). get_or xs o []) are ∙ histories_are o
          | inr past ↦
              let count = many in
              ap (λ (h : Listed Entry). h.items) (get_or_past hs o empty past) ∙ sym (none_on o (object_count app) trace (omega arith) s.run.there)
        ]

    numbered : (o : ℕ) → All (λ e. e.object ≡ o) (history_at hs o)
    numbered o = subst (All (λ e. e.object ≡ o)) (sym (at_number o)) (on_own o)

    legal_at : (o : ℕ) (start : Start) → start_of app o ≡ Some start → IsLegal start (history_at hs o)
    legal_at o start there = subst (IsLegal start) (sym (at_number o)) (s.run.histories o start there)

    pub are_histories : AreHistories hs
    are_histories = can_merge app hs many legal_at numbered

    pub few_entries : IsTrue (is_sound app) → length (all_entries hs) < 2 ^ 32
    few_entries sound = few_merged app hs many legal_at numbered sound

    -- what has the world's histories is its trace
    pub closed : (r : Result (List Entry) NoMemory) → IfOk r (λ t. (o : ℕ) → entries_on o t ≡ entries_on o (all_entries hs)) → IfOk r IsTrace → IfOk r (λ t. t ≡ trace)
    closed (Ok t) same order = same_trace t trace order s.run.order (λ o. same o ∙ on_number o hs numbered ∙ at_number o)
    closed (Err e) same order = tt

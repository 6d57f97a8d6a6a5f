-- What comes of what is asked at an object of a world.
use Rattle.std.proofs.Common.{◌≡◌, ℕ, ◌+◌, ◌-◌, ◌*◌, ◌<◌, ◌≤◌, ◌^◌, max, List, true, false, length, get_or, sym, ap, ◌∙◌, subst, arith}
use Rattle.std.specs.Prelude.{None, Some, option_and_then, Result, Err, IsTrue}
use Rattle.std.proofs.Math.Nat.{le_trans, mul-le-mul_right}
use Rattle.std.proofs.lemmas.List.{get_or_default}
use Rattle.anti_ids.specs.declared.limits.TheConstants.{MOST_UNITS}
use Rattle.anti_kind.specs.declared.asking.Asking.{Asking}
use Rattle.anti_kind.specs.declared.refusal.Refusal.{Refusal}
use Rattle.anti_kind.specs.declared.refusal.Refusal.TheVariants.{NotYet, Full, Spent}
use Rattle.anti_kind.specs.declared.entry.Entry.{Entry}
use Rattle.anti_kind.specs.Objects.{Start, ready, last_stamp, need, owed}
use Rattle.anti_kind.specs.Ports.{IsRefusal}
use Rattle.anti_kind.specs.Records.{Record}
use Rattle.anti_app.specs.declared.app.App.{App}
use Rattle.anti_app.specs.Sound.{is_sound}
use Rattle.anti_app.proofs.SoundLemmas.{SoundApp, app_known}
use Rattle.anti_object.specs.declared.object.Object.{Object}
use Rattle.anti_object.specs.Standing.{object_start}
use Rattle.anti_object.specs.Starts.{start_of}
use Rattle.anti_object.proofs.Starts.{start_past}
use Rattle.anti_trace.specs.Traces.{entries_on}
use Rattle.anti_app.specs.Objects.{object_count}
use Rattle.anti_play.specs.Schedule.{clock_of, made, made_at}
use Rattle.anti_trace.specs.Legal.{IsLegalTrace}
use Rattle.anti_play.specs.declared.world.DueEntry.{DueEntry}
use Rattle.anti_play.specs.inner.Standing.{AllStand, IsObject, IsOutcome, WantsRoom, asked_in, outcome_entry}
use Rattle.anti_play.proofs.MadeAt.{unready, none_fits}
use Rattle.anti_trace.proofs.FullStays.{unfit}
use Rattle.anti_trace.proofs.OfLegal.{history_stamps, legal_short}
use Rattle.anti_play.proofs.RunMore.{clock_within}

few_objects : (app : App) → IsTrue (is_sound app) → object_count app ≤ 32
few_objects app sound = let known : SoundApp app = app_known app sound in omega arith

-- no run has so many entries that stamps are spent
pub few_entries : (app : App) (trace : List Entry) → IsTrue (is_sound app) → IsLegalTrace app trace → length trace ≤ 32 * 4097
few_entries app trace sound run =
    let whole : length trace ≤ object_count app * (MOST_UNITS + 1) = legal_short app trace run in
    le_trans whole (mul-le-mul_right (MOST_UNITS + 1) (few_objects app sound))

-- what came of it, in other words
pub outcome_is : (app : App) (trace : List Entry) (q : Asking) (found then : Result DueEntry Refusal) → found ≡ then
    → IsOutcome app trace q (outcome_entry found) → IsOutcome app trace q (outcome_entry then)
outcome_is app trace q found then is outcome = subst (λ (x : Result DueEntry Refusal). IsOutcome app trace q (outcome_entry x)) is outcome

-- the room that is told of the object which is found there
pub wants_room : (objects : List (Record Object)) (o : ℕ) (recorded : Record Object) → recorded ≡ get_or objects o recorded → o < length objects
    → (due : DueEntry) → due.entry.object ≡ o
    → due.room ≡ owed (object_start recorded.machine) recorded.history + need (object_start recorded.machine) recorded.history due.entry.call → WantsRoom objects due
wants_room objects o recorded at inside due here room = λ r is.
    let there : r ≡ get_or objects o r = subst (λ (n : ℕ). r ≡ get_or objects n r) here is in
    let same : recorded ≡ r = at ∙ get_or_default objects o recorded r inside ∙ sym there in
    subst (λ (x : Record Object). due.room ≡ owed (object_start x.machine) x.history + need (object_start x.machine) x.history due.entry.call) same room

-- what is refused makes no entry
pub refused_none : (app : App) (trace : List Entry) (q : Asking) (refusal : Refusal) → IsOutcome app trace q (Err refusal) → made_at app trace q ≡ None
refused_none app trace q NotYet outcome = outcome.0
refused_none app trace q (Full a b n) outcome = outcome.0
refused_none app trace q (Spent clock) outcome = absurd outcome

module _ (app : App) (sound : IsTrue (is_sound app)) (trace : List Entry) (run : IsLegalTrace app trace) (q : Asking) (clock : q.clock ≡ clock_of q.actor trace) where
  same_asking : q ≡ asked_in trace q
  same_asking = ap (λ (n : ℕ). record { object = q.object; actor = q.actor; span = q.span; clock = n; call = q.call }) clock

  in_trace : (result : Result Entry Refusal) → IsOutcome app trace q result → IsOutcome app trace (asked_in trace q) result
  in_trace result outcome = subst (λ (x : Asking). IsOutcome app trace x result) same_asking outcome

  -- an object that is not there makes nothing of a call
  module _ (given objects : List (Record Object)) (all : AllStand app objects trace) (same : given ≡ objects) where
    pub outcome_none : length given ≤ q.object → IsOutcome app trace (asked_in trace q) (Err NotYet)
    outcome_none past =
        let count : length given ≡ object_count app = ap length same ∙ all.count in
        let none : start_of app q.object ≡ None = start_past app q.object (omega arith) in
        in_trace (Err NotYet)
        (ap (option_and_then (λ (x : Start). made x (entries_on q.object trace) q)) none, (λ full. let both : None ≡ Some full.start = sym none ∙ full.there in cc))

    -- one that is there
    module _ (r : Record Object) (is : r ≡ get_or given q.object r) (inside : q.object < length given) where
      abbrev start : Start
      start = object_start r.machine

      here : IsObject app q.object r (entries_on q.object trace)
      here =
          subst (λ (x : Record Object). IsObject app q.object x (entries_on q.object trace)) (sym (subst (λ (x : List (Record Object)). r ≡ get_or x q.object r) same is))
          (all.each q.object r (subst (λ (x : List (Record Object)). q.object < length x) same inside))

      refused : (refusal : Refusal) → IsRefusal start (entries_on q.object trace) q refusal → IsOutcome app trace q (Err refusal)
      refused NotYet off = (
        unready app trace q start here.start off,
        λ full.
            let both : Some full.start ≡ Some start = sym full.there ∙ here.start in
            let one : full.start ≡ start = cc in
            let on : ready start (entries_on q.object trace) q.call ≡ true = subst (λ (x : Start). ready x (entries_on q.object trace) q.call ≡ true) one full.full.is_ready in
            let off' : true ≡ false = sym on ∙ off in cc,
      )
      refused (Full a b n) full = (
        none_fits app trace q start here.start (unfit start (entries_on q.object trace) q.call a b n full),
        record { start = start; there = here.start; held_units = a; owed_units = b; need_units = n; full = full },
      )
      refused (Spent last) spent =
          let short : length trace ≤ 32 * 4097 = few_entries app trace sound run in
          let own : clock_of q.actor trace ≤ length trace = clock_within app trace run q.actor in
          let before : last_stamp (entries_on q.object trace) ≤ length trace = history_stamps app trace run q.object in
          let is_clock : q.clock ≡ clock_of q.actor trace = clock in
          let greater : last ≡ max q.clock (last_stamp (entries_on q.object trace)) = spent.clock_is in
          let most : last ≡ 2 ^ 64 - 1 = spent.last in
          absurd (omega arith)

      pub outcome_refused : (refusal : Refusal) → IsRefusal start r.history q refusal → IsOutcome app trace (asked_in trace q) (Err refusal)
      outcome_refused refusal cause =
          in_trace (Err refusal) (refused refusal (subst (λ (h : List Entry). IsRefusal start h q refusal) here.history cause))
